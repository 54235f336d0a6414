use Rattle.std.proofs.Common.{◌≡◌, length}
use Rattle.snap_core.specs.Fields.{count}
use Rattle.snap_report.specs.Drafts.{with_text}
use Rattle.snap_report.specs.Guesses.{StandsAt}
use Rattle.snap_report.proofs.draft.PacketDraft.set_words.Given as goal

-- the words that are left make of this draft what all make of the first
abbrev pub invariant-loop-front : goal.invariant-loop-front
invariant-loop-front l = record {
  words : with_text l.fields l.rest l.self ≡ with_text l.fields l.fn.text l.fn.self;
  stands : StandsAt l.fields l.guess;
  comps : length l.self.packet ≡ count l.fields;
}

abbrev pub decreases-loop-front : goal.decreases-loop-front
decreases-loop-front l = length l.rest
