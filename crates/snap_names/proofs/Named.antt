-- What a lone name reads as.
use Rattle.std.proofs.Common.{◌≡◌, ℕ, zero, suc, ◌+◌, List, [], ◌∷◌, Some, None, Result, Ok, Err, refl, ap, sym, subst, ◌∙◌, slice_get, arith, IfOk, IfErr, OnOk}
use Rattle.snap_names.specs.Senses.{Span, Policy, NameFault, Kind, NoMemory, after, or_fault, sense_of}
use Rattle.snap_names.specs.Parts.{Part, Body, Sizes, Scope, IsPart, IsBody, AreBodies, no_bodies, more_bodies, Reads, words_of, env_in}
use Rattle.snap_names.specs.Core.{CorePolicy, nodes}
use Rattle.snap_names.specs.Declarations.{capped}
use Rattle.snap_names.specs.Reading.{named, body_of, is_filter_or_fault}

-- the body of a number
record IsBodyAt (ps : List CorePolicy) (i : ℕ) (b : Body) : Type 0 where
  policy : CorePolicy
  at : slice_get ps i ≡ Some policy
  stands : IsBody b policy

body_at : (bs : List Body) (ps : List CorePolicy) → AreBodies bs ps → (i : ℕ) (b : Body) → slice_get bs i ≡ Some b → IsBodyAt ps i b
body_at [] [] no_bodies i b e = absurd (let no : None ≡ Some b = e in cc)
body_at [] (p ∷ ps) h i b e = elim h [ ]
body_at (x ∷ bs) [] h i b e = elim h [ ]
body_at (x ∷ bs) (p ∷ ps) (more_bodies h hs) zero b e =
    record { policy = p; at = refl; stands = (let same : x ≡ b = cc in subst (λ y. IsBody y p) same h) }
body_at (x ∷ bs) (p ∷ ps) (more_bodies h hs) (suc i) b e =
    let at = body_at bs ps hs i b e in record { policy = at.policy; at = at.at; stands = at.stands }

no_body_at : (bs : List Body) (ps : List CorePolicy) → AreBodies bs ps → (i : ℕ) → slice_get bs i ≡ None → slice_get ps i ≡ None
no_body_at [] [] no_bodies i e = refl
no_body_at [] (p ∷ ps) h i e = elim h [ ]
no_body_at (x ∷ bs) [] h i e = elim h [ ]
no_body_at (x ∷ bs) (p ∷ ps) (more_bodies h hs) zero e = cc
no_body_at (x ∷ bs) (p ∷ ps) (more_bodies h hs) (suc i) e = no_body_at bs ps hs i e

-- a `let`
pub Reads-named : (s : Scope) (name : Span) (old new : Sizes) (result : Result Part NameFault) (i : ℕ) (b : Body) →
    sense_of (words_of s) name ≡ Ok (Policy i) → slice_get s.lets.items i ≡ Some b →
    IfOk result (λ part. (p : CorePolicy) → IsBody b p → IsPart p new.nodes part) →
    OnOk result (new.nodes ≡ capped (old.nodes + b.nodes)) → OnOk result (new.arities.items ≡ old.arities.items) → IfErr result (λ f. f ≡ NoMemory) →
    Reads s (λ e arities. after (named e name) (λ p. Ok (p, arities))) old new result
Reads-named s name old new (Ok part) i b found at part_is counted arities none = λ lets are.
    let body = body_at s.lets.items lets are i b at in
    let env = env_in s lets in
    let n = body.stands.nodes in
    record {
      value = body.policy;
      reading = ap (λ r. after (after r (body_of env name.from)) (λ p. Ok (p, old.arities.items))) found
          ∙ ap (λ o. after (or_fault (Kind name.from) o) (λ p. Ok (p, old.arities.items))) body.at
          ∙ ap (λ a. Ok (body.policy, a)) (sym arities);
      counted = sum_of new.nodes old.nodes b.nodes (nodes body.policy) counted n;
      stands = part_is body.policy body.stands;
    }
  where
    sum_of : (new old n m : ℕ) → new ≡ capped (old + n) → n ≡ capped m → capped new ≡ capped (old + m)
    sum_of new old n m a b = omega arith
Reads-named s name old new (Err f) i b found at part_is counted arities none = λ ne. absurd (ne none)

-- a number that no `let` has
pub named-none : (s : Scope) (name : Span) (i : ℕ) (lets : List CorePolicy) → sense_of (words_of s) name ≡ Ok (Policy i) → slice_get s.lets.items i ≡ None →
    AreBodies s.lets.items lets → named (env_in s lets) name ≡ Err (Kind name.from)
named-none s name i lets found at are =
    ap (λ r. after r (body_of (env_in s lets) name.from)) found ∙ ap (or_fault (Kind name.from)) (no_body_at s.lets.items lets are i at)

-- whether a `let` is a predicate
pub named-some : (s : Scope) (name : Span) (i : ℕ) (b : Body) (lets : List CorePolicy) → sense_of (words_of s) name ≡ Ok (Policy i) → slice_get s.lets.items i ≡ Some b →
    AreBodies s.lets.items lets → b.part.is_test ≡ is_filter_or_fault (named (env_in s lets) name)
named-some s name i b lets found at are =
    let body = body_at s.lets.items lets are i b at in
    body.stands.part.is_test
    ∙ sym (ap is_filter_or_fault (ap (λ r. after r (body_of (env_in s lets) name.from)) found ∙ ap (or_fault (Kind name.from)) body.at))
