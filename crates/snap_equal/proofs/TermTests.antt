-- Tests that say that two terms are equal.
use Rattle.std.proofs.Common.{◌≡◌, ℕ, ◌-◌, ◌^◌, ◌<◌, Bool, true, length, sym, ◌∙◌, subst, arith}
use Rattle.std.specs.Prelude.{Result, MatchResult, slice_index}
use Rattle.snap_core.specs.declared.policy.Atom.{Atom}
use Rattle.snap_core.specs.declared.policy.Term.{Term}
use Rattle.snap_core.specs.declared.policy.Term.TheVariants.{Num, Plus}
use Rattle.snap_core.specs.declared.policy.Test.TheVariants.{Value, Equal}
use Rattle.snap_core.specs.Arrays.{value_of}
use Rattle.snap_core.specs.Fits.{AtomFits}
use Rattle.snap_core.specs.Tests.{TermFits, passes, term_value}
use Rattle.snap_context.specs.Classes.{wrap}
use Rattle.snap_core.specs.Ranges.{TermInRange}
use Rattle.snap_context.specs.View.{View}
use Rattle.snap_compose.specs.PulledBack.{term_of}
use Rattle.snap_compose.proofs.Values.{component_small, term_of-value}
use Rattle.snap_equal.specs.declared.stop.Stop.{Stop}
use Rattle.snap_equal.specs.Told.{Decides, IsStop}
use Rattle.snap_equal.proofs.Telling.{result_as}
use Rattle.snap_equal.proofs.Wrapping.{moved, moved_back}

module _ (v : View) (r : Result Bool Stop) where
  pub number_first : (x y : Term) (n c p : ℕ) → x ≡ Num n → y ≡ Plus c p → TermInRange x → TermInRange y → TermFits (length v.classes) y
      → MatchResult r (Decides v (λ m k. passes (Value c (wrap n (2 ^ 64 - p))) m k ≡ true)) (IsStop v 0) → MatchResult r (Decides v (λ m k. term_value x k ≡ term_value y k)) (IsStop v 0)
  number_first x y n c p ex ey rx ry f h =
      let hn : n < 2 ^ 64 = subst TermInRange ex rx in
      let hp : p < 2 ^ 64 = subst TermInRange ey ry in
      let hc : c < length v.classes = subst (TermFits (length v.classes)) ey f in
      rw (ex, ey) (result_as v 0 (λ m k. passes (Value c (wrap n (2 ^ 64 - p))) m k ≡ true) (λ m k. term_value (Num n) k ≡ term_value (Plus c p) k)
      (λ m k i e. moved (slice_index k c) n p hn hp e)
      (λ m k i e. moved_back (slice_index k c) n p (component_small (length v.classes) k c i.packet hc) hp e) r h)

  pub number_second : (x y : Term) (n c p : ℕ) → x ≡ Plus c p → y ≡ Num n → TermInRange x → TermInRange y → TermFits (length v.classes) x
      → MatchResult r (Decides v (λ m k. passes (Value c (wrap n (2 ^ 64 - p))) m k ≡ true)) (IsStop v 0) → MatchResult r (Decides v (λ m k. term_value x k ≡ term_value y k)) (IsStop v 0)
  number_second x y n c p ex ey rx ry f h =
      result_as v 0 (λ m k. term_value y k ≡ term_value x k) (λ m k. term_value x k ≡ term_value y k) (λ m k i e. sym e) (λ m k i e. sym e) r (number_first y x n c p ey ex ry rx f h)

  pub components : (x y : Term) (c p d q : ℕ) → x ≡ Plus c p → y ≡ Plus d q → TermInRange x → TermInRange y → TermFits (length v.classes) x
      → MatchResult r (Decides v (λ m k. passes (Equal c d (wrap q (2 ^ 64 - p))) m k ≡ true)) (IsStop v 0) → MatchResult r (Decides v (λ m k. term_value x k ≡ term_value y k)) (IsStop v 0)
  components x y c p d q ex ey rx ry f h =
      let hp : p < 2 ^ 64 = subst TermInRange ex rx in
      let hc : c < length v.classes = subst (TermFits (length v.classes)) ex f in
      let turn : (a : ℕ) → wrap a (wrap q (2 ^ 64 - p)) ≡ wrap (wrap a q) (2 ^ 64 - p) = λ a. omega arith in
      rw (ex, ey) (result_as v 0 (λ m k. passes (Equal c d (wrap q (2 ^ 64 - p))) m k ≡ true) (λ m k. term_value (Plus c p) k ≡ term_value (Plus d q) k)
      (λ m k i e. sym (moved (slice_index k c) (wrap (slice_index k d) q) p (omega arith) hp (rw (sym (turn (slice_index k d))) e)))
      (λ m k i e. rw (turn (slice_index k d)) (moved_back (slice_index k c) (wrap (slice_index k d) q) p (component_small (length v.classes) k c i.packet hc) hp (sym e))) r h)

-- an atom's term
pub atoms : (v : View) (r : Result Bool Stop) (a b : Atom) → AtomFits (length v.classes) a → AtomFits (length v.classes) b
    → MatchResult r (Decides v (λ m k. term_value (term_of a) k ≡ term_value (term_of b) k)) (IsStop v 0) → MatchResult r (Decides v (λ m k. value_of a k ≡ value_of b k)) (IsStop v 0)
atoms v r a b fa fb h = result_as v 0 (λ m k. term_value (term_of a) k ≡ term_value (term_of b) k) (λ m k. value_of a k ≡ value_of b k)
    (λ m k i e. sym (term_of-value (length v.classes) a k i.packet fa) ∙ e ∙ term_of-value (length v.classes) b k i.packet fb)
    (λ m k i e. term_of-value (length v.classes) a k i.packet fa ∙ e ∙ sym (term_of-value (length v.classes) b k i.packet fb)) r h
