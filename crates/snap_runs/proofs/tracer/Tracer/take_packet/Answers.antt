use Rattle.std.proofs.Common.{◌≡◌, ◌+◌, ◌∷◌, [], length, sym, ap, subst, ◌∙◌}
use Rattle.std.specs.List.{All}
use Rattle.snap_core.specs.Fields.{count}
use Rattle.snap_rows.specs.declared.tables.Tables.{Tables}
use Rattle.snap_rows.specs.Form.{comps}
use Rattle.snap_net.specs.Passing.{Passes, lost_in, sent_in}
use Rattle.snap_runs.specs.Tallies.{PutsBlock, packets_sent}
use Rattle.snap_runs.specs.Tracing.{IsTraced}
use Rattle.snap_runs.proofs.Taken.{taken-passed}
use Rattle.snap_runs.proofs.tracer.Tracer.take_packet.Goals as goal

pub put_alone-requires : goal.put_alone-requires
put_alone-requires c = c.pass.ensures.long ∙ c.requires.packet ∙ ap count (sym (c.fields_of-fields.ensures ∙ ap (λ (t : Tables). t.fields) c.pass.ensures.tables))

pub put_parted-requires : goal.put_parted-requires
put_parted-requires c =
    let t = c.args.self.now.net.tables in
    let fields = c.fields_of-fields.ensures ∙ ap (λ (t : Tables). t.fields) c.pass.ensures.tables in
    subst (λ f. All (λ k. length k ≡ count f) (packets_sent c.in-Parted.copies.items)) (sym fields) (subst (λ p. All (λ k. length k ≡ comps t) (sent_in c.pass.new.packet p)) c.in-Parted.is c.in-Ok.ensures.sent)

pub returns-in_ok-put_alone-in-Alone-clause-takes : goal.returns-in_ok-put_alone-in-Alone-clause-takes
returns-in_ok-put_alone-in-Alone-clause-takes c =
    let v = c.args.self.now in
    let t = v.net.tables in
    let k = c.args.packet.now in
    let new = c.pass.new.self in
    let after = c.pass.new.packet in
    let before = c.args.text.now.items in
    let text = c.put_alone.new.out.items in
    let fields = c.fields_of-fields.ensures ∙ ap (λ (t : Tables). t.fields) c.pass.ensures.tables in
    let passes = subst (λ p. Passes c.args.port k v.net new.net (IsTraced v.frames t v.hops v.net.injected new.tally (sent_in after p) (lost_in p))) c.in-Alone.is c.in-Ok.ensures.passes in
    let put = subst (λ n. PutsBlock t.fields (n + 1) new.tally.hops.items (after ∷ []) 0 before text) c.injected-number.ensures (subst (λ f. PutsBlock f (c.injected-number.result + 1) new.tally.hops.items (after ∷ []) 0 before text) fields c.in_ok-put_alone-in-Alone.ensures) in
    (c.in-Ok.ensures.has_port, λ s shows none. taken-passed v.frames v.hops c.args.port k v.net new.net new.tally (after ∷ []) 0 before text passes put s shows)

pub returns-in_ok-put_parted-in-Parted-clause-takes : goal.returns-in_ok-put_parted-in-Parted-clause-takes
returns-in_ok-put_parted-in-Parted-clause-takes c =
    let v = c.args.self.now in
    let t = v.net.tables in
    let k = c.args.packet.now in
    let new = c.pass.new.self in
    let after = c.pass.new.packet in
    let before = c.args.text.now.items in
    let text = c.put_parted.new.out.items in
    let sent = packets_sent c.in-Parted.copies.items in
    let lost = c.in-Parted.lost in
    let fields = c.fields_of-fields.ensures ∙ ap (λ (t : Tables). t.fields) c.pass.ensures.tables in
    let passes = subst (λ p. Passes c.args.port k v.net new.net (IsTraced v.frames t v.hops v.net.injected new.tally (sent_in after p) (lost_in p))) c.in-Parted.is c.in-Ok.ensures.passes in
    let put = subst (λ n. PutsBlock t.fields (n + 1) new.tally.hops.items sent lost before text) c.injected-number.ensures (subst (λ f. PutsBlock f (c.injected-number.result + 1) new.tally.hops.items sent lost before text) fields c.in_ok-put_parted-in-Parted.ensures) in
    (c.in-Ok.ensures.has_port, λ s shows none. taken-passed v.frames v.hops c.args.port k v.net new.net new.tally sent lost before text passes put s shows)
