use Rattle.std.proofs.Common.{◌≡◌, ◌∙◌, sym, ap, arith, length}
use Rattle.std.proofs.lemmas.List.{length-map}
use Rattle.snap_rows.specs.declared.head.Sent.{Sent}
use Rattle.snap_net.specs.declared.passing.Passed.{Passed}
use Rattle.snap_net.specs.Passing.{sent_in}
use Rattle.snap_demo.proofs.counts.sent_in.Goals as goal

pub returns-in-Parted : goal.returns-in-Parted
returns-in-Parted c k =
    let copies = c.in-Parted.copies in
    let many : c.len.result ≡ length copies.items = (let e = c.len.ensures in let held = copies.ok.0 in omega (arith, e, held)) in
    many ∙ sym (length-map copies.items (λ (x : Sent). x.packet)) ∙ ap (λ (p : Passed). length (sent_in k p)) (sym c.in-Parted.is)
