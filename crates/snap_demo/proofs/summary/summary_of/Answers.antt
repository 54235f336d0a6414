use Rattle.std.proofs.Common.{◌≡◌, ◌*◌, ◌∙◌, ap, sym, subst}
use Rattle.snap_core.specs.Fields.{count}
use Rattle.snap_demo.specs.Summary.{text_of, total_in}
use Rattle.snap_names.specs.Declarations.{CoreProgram}
use Rattle.snap_rows.specs.declared.tables.Tables.{Tables}
use Rattle.snap_demo.proofs.Summed.{summed}
use Rattle.snap_demo.proofs.summary.summary_of.Goals as goal

pub run-requires-clause-comps : goal.run-requires-clause-comps
run-requires-clause-comps c =
    ap (λ (t : Tables). count t.fields) c.in_ok-net.ensures.tables ∙ ap count c.requires.faithful.shape.fields ∙ ap (λ (p : CoreProgram). count p.fields) c.requires.stated

pub run-requires-clause-ports : goal.run-requires-clause-ports
run-requires-clause-ports c = ap (λ (t : Tables). t.ports) c.in_ok-net.ensures.tables ∙ c.requires.faithful.shape.ports

pub run-requires-clause-start : goal.run-requires-clause-start
run-requires-clause-start c = subst (λ t. Rattle.snap_net.specs.Shown.Represents c.in_ok-net.net (Rattle.snap_rows.specs.Network.start t Rattle.snap_core.specs.Arrays.zero_arrays)) (sym c.in_ok-net.ensures.tables) c.in_ok-net.ensures.start

pub returns : goal.returns
returns c =
    let entries = c.in_ok-entries.entries.items in
    let seen : c.in_ok-seen.seen ≡ total_in 0 entries = c.in_ok-seen.ensures ∙ ap (total_in 0) c.deref.ensures.value in
    let counted : c.in_ok-count.count ≡ total_in 1 entries = c.in_ok-count.ensures ∙ ap (total_in 1) c.deref-2.ensures.value in
    summed c.args.switches c.requires.some c.requires.few c.args.program.now c.requires.stated c.args.tables c.requires.faithful c.run.new.net c.in_ok-counts.counts (c.run.ensures.tables ∙ c.in_ok-net.ensures.tables) c.in_ok-counts.ensures.run
    entries c.in_ok-entries.ensures c.in_ok-text.text.items (c.in_ok-text.ensures ∙ (λ i. text_of c.args.switches (100 * c.args.switches) c.in_ok-counts.counts.delivered c.in_ok-counts.counts.lost (seen i) (counted i)))
