-- Additions in any order do the same.
use Rattle.std.proofs.Common.{◌≡◌, ℕ, ◌+◌, ◌%◌, ◌<◌, ◌^◌, Bool, true, false, cond, List, [], ◌∷◌, refl, sym, ap, subst, ◌∙◌, arith}
use Rattle.std.specs.List.{All, sum_by}
use Rattle.std.specs.List.Sorted.{IsPermutation}
use Rattle.std.proofs.lemmas.List.Elements.{All-tail}
use Rattle.std.proofs.lemmas.List.Sorted.{All-permutation, sum_by-IsPermutation}
use Rattle.std.proofs.lemmas.List.Sums.{sum_by-cons}
use Rattle.snap_core.proofs.Places.{same_place-exact}
use Rattle.snap_core.specs.declared.place.Place.{Place}
use Rattle.snap_core.specs.declared.policy.Op.{Op}
use Rattle.snap_core.specs.declared.policy.Op.TheVariants.{Put, Add}
use Rattle.snap_core.specs.declared.policy.Update.{Update}
use Rattle.snap_core.specs.Arrays.{Arrays, number_after, place_at, same_place, update, updates}
use Rattle.snap_core.specs.declared.policy.Atom.{Atom}
use Rattle.snap_core.specs.Tests.{after_out}
use Rattle.snap_core.specs.Inputs.{IsStore}
use Rattle.snap_context.specs.View.{View}
use Rattle.snap_dep.specs.Ranks.{Grouping}
use Rattle.snap_diagrams.specs.Diagrams.{Diagram, walk}
use Rattle.snap_diagrams.specs.Leaves.{answer_of, outcome_of}
use Rattle.snap_compose.specs.Additions.{Adds, IsAddition, added}
use Rattle.snap_compose.specs.Substituted.{IsLate, outcome_at}

-- what an update adds at a place
abbrev added_there : List ℕ → Place → Update → ℕ
added_there k p u = cond (same_place (place_at u.var u.index k) p) (added u.op) 0

once : (m : Arrays) (k : List ℕ) (p : Place) (u : Update) → Adds u → m p < 2 ^ 64 → update m u k p ≡ (m p + added_there k p u) % 2 ^ 64
once m k p u h small = at (same_place q p) refl
  where
    q : Place
    q = place_at u.var u.index k

    sum : (o : Op) → IsAddition o → number_after o (m q) k ≡ (m q + added o) % 2 ^ 64
    sum (Put a) i = absurd i
    sum (Add n) i = refl

    at : (b : Bool) → same_place q p ≡ b → cond b (number_after u.op (m q) k) (m p) ≡ (m p + cond b (added u.op) 0) % 2 ^ 64
    at true e = sum u.op h ∙ ap (λ (r : Place). (m r + added u.op) % 2 ^ 64) (same_place-exact q p e)
    at false e = omega (arith, small)

total : (us : List Update) (m : Arrays) (k : List ℕ) (p : Place) → All Adds us → IsStore m → updates m us k p ≡ (m p + sum_by (added_there k p) us) % 2 ^ 64
total [] m k p h small = let s = small p in omega (arith, s)
total (u ∷ us) m k p h small =
    let first : Adds u = h 0 u (omega arith) in
    let one = once m k p u first (small p) in
    let rest = total us (update m u k) k p (All-tail Adds u us h) (λ q. rw (once m k q u first (small q)) (omega arith)) in
    let all = sum_by-cons (added_there k p) u us in
    omega (arith, one, rest, all)

-- the law
pub same_total : (us vs : List Update) → IsPermutation us vs → All Adds us → (m : Arrays) (k : List ℕ) → IsStore m → updates m vs k ≡ updates m us k
same_total us vs perm h m k small = λ i p. (total vs m k p (All-permutation Adds us vs perm h) small
    ∙ (ap (λ n. (m p + n) % 2 ^ 64) (sum_by-IsPermutation (added_there k p) us vs perm) ∙ sym (total us m k p h small))) i

-- what is late behind updates is late behind those that do the same
pub late_same : (g : Grouping) (v : View) (out : List (ℕ × Atom)) (us vs : List Update) (d r : Diagram) → ((m : Arrays) (k : List ℕ) → IsStore m → updates m vs k ≡ updates m us k) → IsLate g v out vs d r → IsLate g v out us d r
late_same g v out us vs d r same l = record {
  late = λ m k h s. subst (λ (n : Arrays). outcome_of (answer_of (walk r m k) k) n ≡ outcome_at d n (after_out out k)) (same m k s) (l.late m k h s);
  logs = l.logs;
  keeps = l.keeps;
}
