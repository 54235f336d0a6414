-- How many next hops there are.
use Rattle.std.proofs.Common.{◌≡◌, ℕ, zero, suc, ◌*◌, ◌<◌, ◌≤◌, ⊎_elim, length, Option, Some, None, refl, ap, subst, arith, length-append}
use Rattle.std.proofs.lemmas.Bool.{cases_lt, eq-eqb, cond-true}
use Rattle.snap_topology.specs.Tables.{Table}
use Rattle.snap_make.specs.Pairs.{one_entry, at_switch, at_switches, hop_for}

one_or_none : {X : Type 0} (w n : ℕ) (o : Option X) → length (one_entry w n o) ≤ 1
one_or_none w n None = omega arith
one_or_none w n (Some x) = omega arith

at_most : {X : Type 0} (g : ℕ → Option X) (w n : ℕ) → length (at_switch g w n) ≤ n
at_most g w zero = omega arith
at_most g w (suc n) =
    let e = length-append (at_switch g w n) (one_entry w n (g n)) in let a = at_most g w n in let b = one_or_none w n (g n) in
    omega (arith, e, a, b)

-- where one number has none
less_than : {X : Type 0} (g : ℕ → Option X) (w n : ℕ) → w < n → g w ≡ None → length (at_switch g w n) < n
less_than g w zero l none = absurd (omega (arith, l))
less_than g w (suc n) l none =
    let e = length-append (at_switch g w n) (one_entry w n (g n)) in
    ⊎_elim
    (λ less. (let a = less_than g w n less none in let b = one_or_none w n (g n) in omega (arith, e, a, b)))
    (λ more.
    (let same : w ≡ n = omega (arith, l, more) in
    let b : length (one_entry w n (g n)) ≡ 0 = ap (λ o. length (one_entry w n o)) (subst (λ k. g k ≡ None) same none) in
    let a = at_most g w n in
    omega (arith, e, a, b)))
    (cases_lt w n)

few_hops : (routes : Table) (n : ℕ) → n ≤ 256 → (k : ℕ) → k ≤ n → length (at_switches (hop_for routes) k n) ≤ 255 * k
few_hops routes n few zero l = omega arith
few_hops routes n few (suc k) l =
    let e = length-append (at_switches (hop_for routes) k n) (at_switch (hop_for routes k) k n) in
    let a = few_hops routes n few k (omega (arith, l)) in
    let b = less_than (hop_for routes k) k n l (cond-true _ _ _ (eq-eqb k k refl)) in
    omega (arith, e, a, b, few)

pub hops_few : (routes : Table) (n : ℕ) → n ≤ 256 → length (at_switches (hop_for routes) n n) ≤ 65280
hops_few routes n few = let a = few_hops routes n few n (omega arith) in omega (arith, a, few)
