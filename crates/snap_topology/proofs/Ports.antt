-- Ports that are put in one after the other rise.
use Rattle.std.proofs.Common.{◌≡◌, ℕ, ◌<◌, List, [], ◌∷◌, fold, refl, sym, subst, arith, All, nat_cmp, Ordering, Less}
use Rattle.std.specs.List.{AllByRecursion}
use Rattle.std.specs.List.Sorted.{IsStrictlySortedBy}
use Rattle.std.specs.Map.{keys_of}
use Rattle.std.specs.BTreeMap.{insert_entry}
use Rattle.std.specs.Ordering.{match_ordering}
use Rattle.std.proofs.lemmas.Cmp.{by_ranked, ranked}
use Rattle.std.proofs.lemmas.List.Elements.{All-nil, All-from_recursion, recursion_from_All, All-weaker, All-tail}
use Rattle.std.proofs.lemmas.Map.Views.{All-keys-insert_entry}
use Rattle.snap_topology.specs.Spells.{put_port, by_number}
use Rattle.snap_core.proofs.Orders.{nat_cmp-Less, lt-from_Less}

abbrev Port : Type 0
Port = ℕ × List ℕ

abbrev Rise : List Port → Type 0
Rise ps = IsStrictlySortedBy nat_cmp (keys_of ps)

-- the number is below all of these
abbrev Over : ℕ → List Port → Type 0
Over x ps = AllByRecursion (λ y. nat_cmp x y ≡ Less) (keys_of ps)

over-further : (x k : ℕ) (ps : List Port) → k < x → Over x ps → Over k ps
over-further x k ps lt over = recursion_from_All _ (keys_of ps) (All-weaker (λ y. nat_cmp x y ≡ Less) (λ y. nat_cmp k y ≡ Less) (λ y h. let up = lt-from_Less x y h in nat_cmp-Less k y (omega arith)) (keys_of ps) (All-from_recursion _ (keys_of ps) over))

rise-insert : (ps : List Port) (k : ℕ) (v : List ℕ) → Rise ps → Rise (insert_entry nat_cmp ps k v)
unfolding IsStrictlySortedBy
rise-insert [] k v rise = (tt, tt)
rise-insert (p ∷ ps) k v rise = by_ranked (k < p.0) (k ≡ p.0) (p.0 < k) (nat_cmp k p.0) (ranked k p.0 (nat_cmp k p.0) refl)
    (λ is lt. subst (λ (o : Ordering). Rise (match_ordering o ((k, v) ∷ p ∷ ps) ((p.0, v) ∷ ps) (p ∷ insert_entry nat_cmp ps k v))) (sym is) ((is, over-further p.0 k ps lt rise.0), rise))
    (λ is same. subst (λ (o : Ordering). Rise (match_ordering o ((k, v) ∷ p ∷ ps) ((p.0, v) ∷ ps) (p ∷ insert_entry nat_cmp ps k v))) (sym is) rise)
    (λ is lt. subst (λ (o : Ordering). Rise (match_ordering o ((k, v) ∷ p ∷ ps) ((p.0, v) ∷ ps) (p ∷ insert_entry nat_cmp ps k v))) (sym is)
    (recursion_from_All _ (keys_of (insert_entry nat_cmp ps k v)) (All-keys-insert_entry nat_cmp k v (λ y. nat_cmp p.0 y ≡ Less) ps (All-from_recursion _ (keys_of ps) rise.0) (nat_cmp-Less p.0 k lt)), rise-insert ps k v rise.1))

fold-rise : (so_far ps : List Port) → Rise so_far → Rise (fold put_port so_far ps)
fold-rise so_far [] rise = rise
fold-rise so_far (p ∷ ps) rise = fold-rise (put_port so_far p) ps (rise-insert so_far p.0 p.1 rise)

pub by_number-rise : (ps : List (ℕ × List ℕ)) → IsStrictlySortedBy nat_cmp (keys_of (by_number ps))
unfolding IsStrictlySortedBy
by_number-rise ps = fold-rise [] ps tt

fold-keys : (P : ℕ → Type 0) (so_far ps : List Port) → All P (keys_of so_far) → All (λ (p : Port). P p.0) ps → All P (keys_of (fold put_port so_far ps))
fold-keys P so_far [] all more = all
fold-keys P so_far (p ∷ ps) all more = fold-keys P (put_port so_far p) ps (All-keys-insert_entry nat_cmp p.0 p.1 P so_far all (more 0 p (omega arith))) (All-tail (λ (p : Port). P p.0) p ps more)

pub by_number-keys : (P : ℕ → Type 0) (ps : List (ℕ × List ℕ)) → All (λ (p : ℕ × List ℕ). P p.0) ps → All P (keys_of (by_number ps))
by_number-keys P ps all = fold-keys P [] ps (All-nil P) all
