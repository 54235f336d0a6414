-- A tree is resolved declaration by declaration.
use Rattle.std.proofs.Common.{◌≡◌, ℕ, ◌≤◌, ◌<◌, ◌+◌, length, get_or, add-one, min, arith, List, [], ◌∷◌, map, drop, Result, Ok, Err, IfErr, refl, sym, ap, ◌∙◌, subst, IsErrAnd}
use Rattle.std.proofs.lemmas.List.{drop_all}
use Rattle.std.proofs.lemmas.Result.{err_from_is_err_and}
use Rattle.std.proofs.Math.Seq.{drop-cons}
use Rattle.snap_names.specs.Parts.{Part, Sizes, AreBodies, itself, HasRead, env_in, Scope}
use Rattle.snap_parse.specs.Tree.{DeclTree, SourceTree}
use Rattle.snap_names.specs.Senses.{NameFault, Arities, after}
use Rattle.snap_names.specs.Core.{CorePolicy, nodes}
use Rattle.snap_names.specs.Reading.{read_policy}
use Rattle.snap_names.specs.Declarations.{ports, env_of, capped, declare, declare_all, limited, resolved, CoreProgram}
use Rattle.snap_names.specs.Scopes.{declared_in, IsScope, HasDeclared, Limits}

-- The declarations but the rest are declared in the scope.
pub record AreDeclared (text : List ℕ) (all rest : List DeclTree) (s : Scope) (arities : Arities) : Type 0 where
  pub lets : List CorePolicy
  pub scope : IsScope s lets
  pub text_is : s.text.now ≡ text
  pub rest_is : declare_all text all ports ≡ declare_all text rest (declared_in s lets arities)

pub AreDeclared-more : (text : List ℕ) (all : List DeclTree) (t : DeclTree) (rest : List DeclTree) (s new : Scope) (before behind : Arities)
    → AreDeclared text all (t ∷ rest) s before
    → ((lets : List CorePolicy) → IsScope s lets → HasDeclared s.text.now (declare s.text.now (declared_in s lets before) t) new behind)
    → AreDeclared text all rest new behind
AreDeclared-more text all t rest s new before behind h d =
    let k : HasDeclared s.text.now (declare s.text.now (declared_in s h.lets before) t) new behind = d h.lets h.scope in
    let e : declare text (declared_in s h.lets before) t ≡ Ok (declared_in new k.lets behind) = subst (λ w. declare w (declared_in s h.lets before) t ≡ Ok (declared_in new k.lets behind)) h.text_is k.declares in
    record { lets = k.lets; scope = k.scope; text_is = k.text_is ∙ h.text_is; rest_is = h.rest_is ∙ ap (λ r. after r (declare_all text rest)) e }

pub resolved-refused : (text : List ℕ) (tree : SourceTree) (t : DeclTree) (rest : List DeclTree) (s : Scope) (before : Arities) (f : NameFault)
    → AreDeclared text tree.decls (t ∷ rest) s before
    → ((lets : List CorePolicy) → IsScope s lets → declare s.text.now (declared_in s lets before) t ≡ Err f)
    → resolved text tree ≡ Err f
resolved-refused text tree t rest s before f h d =
    let e : declare text (declared_in s h.lets before) t ≡ Err f = subst (λ w. declare w (declared_in s h.lets before) t ≡ Err f) h.text_is (d h.lets h.scope) in
    let all : declare_all text tree.decls ports ≡ Err f = h.rest_is ∙ ap (λ r. after r (declare_all text rest)) e in
    ap (λ r. after r (λ d. after (read_policy (env_of text d) tree.policy d.arities) (limited d))) all

-- What is resolved behind the declarations.
pub resolved-read : (text : List ℕ) (tree : SourceTree) (s : Scope) (arities : Arities) → (h : AreDeclared text tree.decls [] s arities)
    → resolved text tree ≡ after (read_policy (env_of s.text.now (declared_in s h.lets arities)) tree.policy arities) (limited (declared_in s h.lets arities))
resolved-read text tree s arities h =
    ap (λ r. after r (λ d. after (read_policy (env_of text d) tree.policy d.arities) (limited d))) h.rest_is
    ∙ ap (λ w. after (read_policy (env_of w (declared_in s h.lets arities)) tree.policy arities) (limited (declared_in s h.lets arities))) (sym h.text_is)

-- An error that is passed on is the one that was found.
pub IfErr-from : {A : Type 0} (r : Result A NameFault) (f : NameFault) (Q : NameFault → Type 0) → IsErrAnd r (λ e. e ≡ f) → Q f → IfErr r Q
IfErr-from r f Q h q =
    let p = err_from_is_err_and r h in
    rw (p.1, p.2) q

pub AreDeclared-rest : (text : List ℕ) (all rest other : List DeclTree) (s : Scope) (arities : Arities) → rest ≡ other → AreDeclared text all rest s arities → AreDeclared text all other s arities
AreDeclared-rest text all rest other s arities e h = subst (λ w. AreDeclared text all w s arities) e h

-- what is behind the element at i
pub map-drop : {A B : Type 0} (f : A → B) (xs : List A) (i : ℕ) (x : A) → i < length xs → x ≡ get_or xs i x → map f (drop i xs) ≡ f x ∷ map f (drop (i + 1) xs)
map-drop f xs i x h e = ap (map f) (drop-cons xs i x h) ∙ rw (add-one, ← e) refl

pub drop-all : {A B : Type 0} (f : A → B) (xs : List A) (i : ℕ) → length xs ≤ i → map f (drop i xs) ≡ []
drop-all f xs i h = ap (map f) (drop_all i xs h)

pub resolved-limited : (text : List ℕ) (tree : SourceTree) (s : Scope) (arities : Arities) (old new : Sizes) (part : Part) (a : Result CoreProgram NameFault)
    → AreDeclared text tree.decls [] s arities
    → ((lets : List CorePolicy) → AreBodies s.lets.items lets → HasRead itself (read_policy (env_in s lets) tree.policy arities) (record old { nodes = 0 }) new part)
    → Limits s new part (λ r. r ≡ a) → resolved text tree ≡ a
resolved-limited text tree s arities old new part a h reads limits =
    let r : HasRead itself (read_policy (env_in s h.lets) tree.policy arities) (record old { nodes = 0 }) new part = reads h.lets h.scope.bodies in
    let counted : capped new.nodes ≡ capped (0 + nodes r.value) = r.counted in
    let same : min new.nodes 4294967295 ≡ min (nodes r.value) 4294967295 = omega (arith, counted) in
    resolved-read text tree s arities h
    ∙ ap (λ w. after w (limited (declared_in s h.lets arities))) r.reading
    ∙ limits h.lets r.value same r.stands
