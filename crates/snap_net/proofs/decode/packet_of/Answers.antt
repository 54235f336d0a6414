use Rattle.std.proofs.Common.{◌≡◌, ◌++◌, ap, ap₂, ◌∙◌, arith, List, ℕ}
use Rattle.std.proofs.lemmas.List.{take-append-drop}
use Rattle.std.proofs.lemmas.Grind.{common_steps}
use Rattle.snap_net.specs.Frames.{packet_bytes}
use Rattle.snap_net.proofs.Bytes.{one_more}
use Rattle.snap_net.proofs.decode.packet_of.Goals as goal

pub loop-i-preserved : goal.loop-i-preserved
loop-i-preserved c =
    let rest = c.loop-i.rest.now in
    let front = c.split_at.result.0.now in
    let back = c.split_at.result.1.now in
    let both : front ++ back ≡ rest = ap₂ (λ (a b : List ℕ). a ++ b) c.split_at.ensures.front c.split_at.ensures.back ∙ take-append-drop 8 rest in
    let bytes : packet_bytes c.push.new.self.items ++ back ≡ c.args.bytes.now =
    ap (λ ns. packet_bytes ns ++ back) c.in_ok-push.ensures.items ∙ one_more c.loop-i.numbers.items c.long.result front back rest c.long.ensures both ∙ c.loop-i.invariant.bytes in
    record { bytes = bytes; read = grind (arith, common_steps); left = grind (arith, common_steps) }
