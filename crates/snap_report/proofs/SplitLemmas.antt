-- A field's value whose two numbers make an address.
use Rattle.std.proofs.Common.{◌≡◌, ℕ, ◌+◌, ◌-◌, ◌*◌, ◌%◌, ◌^◌, ◌<◌, ◌≤◌, ◌&&◌, [], ◌∷◌, true, cond, sym, ap, ◌∙◌, arith, codes, decimal}
use Rattle.std.specs.Prelude.{nat_lt}
use Rattle.std.specs.List.{concat}
use Rattle.std.proofs.Math.Nat.{mul-le-mul_left}
use Rattle.std.proofs.Math.Pow.{pow_mono}
use Rattle.std.proofs.lemmas.Bool.Decides.{nat_tests}
use Rattle.std.proofs.lemmas.Nat.{pow-add}
use Rattle.snap_report.specs.Reports.{address_text, split_text}

-- as a program's `1u64 << k` is seen
pub shifted : (k : ℕ) → k ≤ 32 → 1 * 2 ^ k % 2 ^ 64 ≡ 2 ^ k
shifted k few = let small : 2 ^ k ≤ 2 ^ 32 = pow_mono few in omega arith

below : (n a h b : ℕ) → n < a → b < h → n * h + b < h * a
below n a h b less small = let whole : h * (n + 1) ≤ h * a = mul-le-mul_left h (omega arith) in omega arith

pub address-fits : (prefix net host : ℕ) → prefix ≤ 31 → net < 2 ^ prefix → host < 2 ^ (32 - prefix) → net * 2 ^ (32 - prefix) + host < 2 ^ 32
address-fits prefix net host few in_net in_host =
    let bits : 32 - prefix + prefix ≡ 32 = omega arith in
    let all : 2 ^ (32 - prefix) * 2 ^ prefix ≡ 2 ^ 32 = sym (pow-add 2 (32 - prefix) prefix) ∙ ap (λ k. 2 ^ k) bits in
    omega (arith, below net (2 ^ prefix) (2 ^ (32 - prefix)) host in_net in_host)

pub split_text-address : (prefix net host : ℕ) → net < 2 ^ prefix → host < 2 ^ (32 - prefix) → split_text prefix net host ≡ address_text (net * 2 ^ (32 - prefix) + host)
split_text-address prefix net host in_net in_host =
    let net_test : nat_lt net (2 ^ prefix) ≡ true = grind (arith, nat_tests) in
    let host_test : nat_lt host (2 ^ (32 - prefix)) ≡ true = grind (arith, nat_tests) in
    ap (λ t. cond t (address_text (net * 2 ^ (32 - prefix) + host)) (concat (decimal net ∷ codes ":" ∷ decimal host ∷ []))) (ap (λ t. t && nat_lt host (2 ^ (32 - prefix))) net_test ∙ host_test)
