use Rattle.std.proofs.Common.{◌≡◌, ℕ, Some, None, cond, true, List, ap, refl, sym, subst, ◌∙◌, length, ltb-true, ltb-false, eq-eqb, ne_eqb, nat_lt, slice_get, slice_index_or, option_and_then, is_some}
use Rattle.std.specs.List.Sorted.{IsNonDecreasingBy}
use Rattle.std.proofs.lemmas.Option.{slice_get_read, slice_get_past}
use Rattle.snap_core.proofs.CaseLemmas.{case_at-searched, said_of}
use Rattle.snap_core.proofs.cases.Cases.get.Goals as goal

-- what `get` of a slice gives stands in the cases
there : (xs cs : List (ℕ × ℕ)) (i : ℕ) (x : ℕ × ℕ) → xs ≡ cs → true ≡ nat_lt i (length xs) → x ≡ slice_index_or xs i x → slice_get cs i ≡ Some x
there xs cs i x same within is = ap (λ l. slice_get l i) (sym same) ∙ slice_get_read xs _ i x refl (ltb-true _ _ (sym within)) is

pub returns-in-Some : goal.returns-in-Some
returns-in-Some c =
    let cs = c.args.self.now in let n = c.args.number in let x = c.in-Some.field-0.now in
    let found = there c.deref.result.now cs c.before-2.result x (c.deref.ensures.value ∙ c.self.view_is) c.in-Some.ensures.lookup.0 c.in-Some.ensures.lookup.1 in
    let says = case_at-searched cs (subst (IsNonDecreasingBy (λ p. p.0)) c.self.view_is c.self.invariant) n _ c.before-2.ensures in
    sym (says ∙ ap (option_and_then (said_of n)) found ∙ ap (λ b. cond b (Some x.1) None) (eq-eqb _ _ c.if-found-number.true))

pub returns-in_default : goal.returns-in_default
returns-in_default c =
    let cs = c.args.self.now in let n = c.args.number in let x = c.in-Some.field-0.now in
    let found = there c.deref.result.now cs c.before-2.result x (c.deref.ensures.value ∙ c.self.view_is) c.in-Some.ensures.lookup.0 c.in-Some.ensures.lookup.1 in
    let says = case_at-searched cs (subst (IsNonDecreasingBy (λ p. p.0)) c.self.view_is c.self.invariant) n _ c.before-2.ensures in
    sym (says ∙ ap (option_and_then (said_of n)) found ∙ ap (λ b. cond b (Some x.1) None) (ne_eqb _ _ c.if-found-number.false))

pub returns-in_default-2 : goal.returns-in_default-2
returns-in_default-2 c =
    let cs = c.args.self.now in let n = c.args.number in
    let past : slice_get cs c.before-2.result ≡ None = ap (λ l. slice_get l c.before-2.result) (sym (c.deref.ensures.value ∙ c.self.view_is)) ∙ slice_get_past c.deref.result.now _ (ltb-false _ _ (sym c.get.ensures.lookup.0 ∙ ap is_some c.in_default.is)) in
    let says = case_at-searched cs (subst (IsNonDecreasingBy (λ p. p.0)) c.self.view_is c.self.invariant) n _ c.before-2.ensures in
    sym (says ∙ ap (option_and_then (said_of n)) past)
