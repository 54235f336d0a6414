use Rattle.std.proofs.Common.{◌≡◌, [], ◌++◌, drop, ap, ◌∙◌, arith, append-nil}
use Rattle.std.proofs.lemmas.List.{drop_all}
use Rattle.snap_net.specs.Frames.{head_bytes, packet_bytes}
use Rattle.snap_runs.specs.Reports.{lead_of}
use Rattle.snap_runs.proofs.digits.put_frame_before.Goals as goal

pub returns-clause-text : goal.returns-clause-text
returns-clause-text c =
    let k = c.args.packet.now in
    let none : drop 256 c.args.buffer.now ≡ [] = drop_all 256 c.args.buffer.now (omega arith) in
    let packet = c.put_packet_before-begin.ensures.text ∙ ap (λ l. packet_bytes k ++ l) none ∙ append-nil (packet_bytes k) in
    let head = c.put_head_before-begin.ensures.text ∙ ap (λ l. head_bytes c.args.head ++ l) packet in
    c.put_lead_before.ensures.text ∙ ap (λ l. lead_of c.args.frames c.args.number ++ l) head
