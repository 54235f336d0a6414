use Rattle.snap_report.specs.Drafts.{draft_of}
use Rattle.snap_report.proofs.DraftLemmas.{words-either}
use Rattle.snap_report.proofs.draft.PacketDraft.set_word.Goals as goal

pub returns-in-Some-clause-set : goal.returns-in-Some-clause-set
returns-in-Some-clause-set c =
    words-either c.args.fields.now c.args.text.now c.in-Some.value.now c.in-Some.found (draft_of c.args.self.now) (draft_of c.set_value.new.self) c.in-Some.ensures.found c.set_value.result c.set_value.ensures.set
