use Rattle.std.proofs.Common.{◌≡◌, ℕ, ◌^◌, List, [], ◌∷◌, map, subst, ⊎_elim, arith, bit_or}
use Rattle.std.specs.Int.{bit_at}
use Rattle.std.specs.List.{All}
use Rattle.std.proofs.lemmas.Bool.{eqb-true, eq-eqb, cases_Bool}
use Rattle.std.proofs.lemmas.Nat.Bits.{bit_at_or, bit_at-lt, bit_at-zero}
use Rattle.std.proofs.lemmas.List.Elements.{All-tail}
use Rattle.snap_core.specs.declared.policy.Pol.{Pol}
use Rattle.snap_core.specs.declared.policy.Pol.TheVariants.{Filter, Set, Change, Par', Seq', If', Atomic'}
use Rattle.snap_core.specs.Arrays.{Arrays, has}
use Rattle.snap_core.specs.Packets.{listed}
use Rattle.snap_core.specs.Meaning.{Meaning, eval, truth, vars_of, all_reads, all_writes}
use Rattle.snap_core.specs.Laws.{IsWithin, read_vars, write_vars}
use Rattle.snap_core.proofs.Kept.{IfDefined}
use Rattle.snap_core.proofs.Unwritten.{no_bit}
use Rattle.snap_core.proofs.Gathered.{beside_all, all_together_has, two_together_have, weaker, logged_has, then_has, either_has, each_has}
use Rattle.snap_core.proofs.laws.logs_what_stands.Goals as goal

left : (a b c : ℕ) → IsWithin a b → IsWithin a (bit_or b c)
left a b c h v e =
    let here : bit_at b v ≡ 1 = eqb-true _ 1 (h v e) in let o = bit_at_or b c v in let l = bit_at-lt (bit_or b c) v in
    eq-eqb _ 1 (omega (arith, here, o, l))

right : (a b c : ℕ) → IsWithin a c → IsWithin a (bit_or b c)
right a b c h v e =
    let here : bit_at c v ≡ 1 = eqb-true _ 1 (h v e) in let o = bit_at_or b c v in let l = bit_at-lt (bit_or b c) v in
    eq-eqb _ 1 (omega (arith, here, o, l))

both : (a b c : ℕ) → IsWithin a c → IsWithin b c → IsWithin (bit_or a b) c
both a b c h k v e =
    ⊎_elim
    (λ x. h v x)
    (λ x.
    let none : bit_at a v ≡ 0 = no_bit a v x in let all : bit_at (bit_or a b) v ≡ 1 = eqb-true _ 1 e in
    let o = bit_at_or a b v in let l = bit_at-lt b v in
    k v (eq-eqb _ 1 (omega (arith, none, all, o, l))))
    (cases_Bool (has a v))

none : (c : ℕ) → IsWithin 0 c
none c v e = let one : bit_at 0 v ≡ 1 = eqb-true _ 1 e in let zero = bit_at-zero v in absurd (omega (arith, one, zero))

same : (c : ℕ) → IsWithin c c
same c v e = e

abbrev Stands : ℕ → ℕ → Meaning → Type 0
Stands r w o = IsWithin o.reads r × IsWithin o.writes w

gathered : (r w : ℕ) (m : Arrays) (os : List Meaning) → All (Stands r w) os → Stands r w (beside_all m os)
gathered r w m os h = (reads os h, writes os h)
  where
    reads : (xs : List Meaning) → All (Stands r w) xs → IsWithin (all_reads xs) r
    reads [] k = none r
    reads (x ∷ xs) k = both x.reads (all_reads xs) r (k 0 x (omega arith)).0 (reads xs (All-tail (Stands r w) x xs k))

    writes : (xs : List Meaning) → All (Stands r w) xs → IsWithin (all_writes xs) w
    writes [] k = none w
    writes (x ∷ xs) k = both x.writes (all_writes xs) w (k 0 x (omega arith)).1 (writes xs (All-tail (Stands r w) x xs k))

stands : (p : Pol) (m : Arrays) (k : List ℕ) → IfDefined (Stands (read_vars p) (write_vars p)) (eval p m k)
stands (Filter x) m k = (same (vars_of x), none 0)
stands (Set c a) m k = (none 0, none 0)
stands (Change u) m k = (none 0, same (2 ^ u.var))
stands (Par' _ p _ q) m k =
    let r = bit_or (read_vars p) (read_vars q) in let w = bit_or (write_vars p) (write_vars q) in
    two_together_have (Stands r w) (Stands r w) m (gathered r w m) (eval p m k) (eval q m k)
    (weaker (Stands (read_vars p) (write_vars p)) (Stands r w) (eval p m k) (λ x h. (left x.reads (read_vars p) (read_vars q) h.0, left x.writes (write_vars p) (write_vars q) h.1)) (stands p m k))
    (weaker (Stands (read_vars q) (write_vars q)) (Stands r w) (eval q m k) (λ x h. (right x.reads (read_vars p) (read_vars q) h.0, right x.writes (write_vars p) (write_vars q) h.1)) (stands q m k))
stands (Seq' _ p _ q) m k =
    let r = bit_or (read_vars p) (read_vars q) in let w = bit_or (write_vars p) (write_vars q) in
    then_has (Stands (read_vars p) (write_vars p)) (Stands r w) (eval p m k) _
    (λ o first.
    logged_has (Stands (read_vars q) (write_vars q)) (Stands r w) o.reads o.writes _
    (λ x h. (
      both o.reads x.reads r (left o.reads (read_vars p) (read_vars q) first.0) (right x.reads (read_vars p) (read_vars q) h.0),
      both o.writes x.writes w (left o.writes (write_vars p) (write_vars q) first.1) (right x.writes (write_vars p) (write_vars q) h.1),
    ))
    (all_together_has (Stands (read_vars q) (write_vars q)) (Stands (read_vars q) (write_vars q)) o.arrays (gathered (read_vars q) (write_vars q) o.arrays) (map (λ k'. eval q o.arrays k') (listed o.packets))
    (each_has (λ k'. Unit {0}) (Stands (read_vars q) (write_vars q)) (λ k'. eval q o.arrays k') (listed o.packets) (λ k' u. stands q o.arrays k') (λ i d l. tt))))
    (stands p m k)
stands (If' x _ p _ q) m k =
    let r = bit_or (read_vars p) (read_vars q) in let w = bit_or (write_vars p) (write_vars q) in
    logged_has (Stands r w) (Stands (bit_or (vars_of x) r) w) (vars_of x) 0 _
    (λ o h. (both (vars_of x) o.reads (bit_or (vars_of x) r) (left (vars_of x) (vars_of x) r (same (vars_of x))) (right o.reads (vars_of x) r h.0), both 0 o.writes w (none w) h.1))
    (either_has (Stands r w) (truth x m k) (eval p m k) (eval q m k)
    (weaker (Stands (read_vars p) (write_vars p)) (Stands r w) (eval p m k) (λ y h. (left y.reads (read_vars p) (read_vars q) h.0, left y.writes (write_vars p) (write_vars q) h.1)) (stands p m k))
    (weaker (Stands (read_vars q) (write_vars q)) (Stands r w) (eval q m k) (λ y h. (right y.reads (read_vars p) (read_vars q) h.0, right y.writes (write_vars p) (write_vars q) h.1)) (stands q m k)))
stands (Atomic' _ p) m k = stands p m k

pub returns : goal.returns
returns c = λ p m k o e. subst (IfDefined (Stands (read_vars p) (write_vars p))) e (stands p m k)
