-- What the answer tells, and where it comes.
use Rattle.std.proofs.Common.{◌≡◌, ℕ, List, [], ◌∷◌, Result, Ok, Err, refl, subst, true, false, length, arith, IfOk, ◌==◌}
use Rattle.snap_parse.specs.Kinds.{Token}
use Rattle.snap_parse.specs.Tree.{Source, SourceTree, source_tree}
use Rattle.snap_parse.specs.Machine.{ParseFault, Unexpected, TooDeep, run, at_decl}
use Rattle.snap_parse.specs.declared.fault.ParseFault.TheVariants.{NoMemory}
use Rattle.snap_parse.specs.Grammar.{DerivesWithin, IsUnexpected, IsTooDeep}
use Rattle.snap_parse.specs.Reading.{Answers}
use Rattle.snap_parse.specs.Parsing.{GivesTree, GivesFault}
use Rattle.snap_parse.proofs.Exact.{ok_derives, derives_ok, unexpected_tells, unexpected_gives, too_deep_tells, too_deep_gives}

pub gives_tree : (r : Result Source ParseFault) (m : Result SourceTree ParseFault) (p : SourceTree) → Answers r m → m ≡ Ok p → GivesTree r p
gives_tree (Ok x) m p h is = cc
gives_tree (Err NoMemory) m p h is = tt
gives_tree _ m p h is = absurd (cc)

pub gives_fault : (r : Result Source ParseFault) (m : Result SourceTree ParseFault) (f : ParseFault) → Answers r m → m ≡ Err f → GivesFault r f
gives_fault (Ok x) m f h is = absurd (cc)
gives_fault (Err NoMemory) m f h is = tt
gives_fault _ m f h is = cc

module _ (limit end : ℕ) (ts : List Token) (r : Result Source ParseFault) (h : Answers r (run limit end (at_decl []) ts)) where
  pub told_only : (p : SourceTree) → DerivesWithin limit ts p → GivesTree r p
  told_only p d = gives_tree r _ p h (derives_ok limit end ts p d)

  pub told_unexpected : (at : ℕ) → r ≡ Err (Unexpected at) → IsUnexpected limit end ts at
  told_unexpected at is = unexpected_tells limit end ts at (subst (λ x. Answers x (run limit end (at_decl []) ts)) is h)

  pub told_too_deep : (at : ℕ) → r ≡ Err (TooDeep at) → IsTooDeep limit ts at
  told_too_deep at is = too_deep_tells limit end ts at (subst (λ x. Answers x (run limit end (at_decl []) ts)) is h)

  pub told_unexpected_comes : (at : ℕ) → IsUnexpected limit end ts at → GivesFault r (Unexpected at)
  told_unexpected_comes at cause = gives_fault r _ (Unexpected at) h (unexpected_gives limit end ts at cause)

  pub told_too_deep_comes : (at : ℕ) → IsTooDeep limit ts at → GivesFault r (TooDeep at)
  told_too_deep_comes at cause = gives_fault r _ (TooDeep at) h (too_deep_gives limit end ts at cause)

pub told_ok : (limit end : ℕ) (ts : List Token) (r : Result Source ParseFault) → Answers r (run limit end (at_decl []) ts) → IfOk r (λ p. DerivesWithin limit ts (source_tree p))
told_ok limit end ts (Ok x) h = ok_derives limit end ts (source_tree x) h
told_ok limit end ts (Err e) h = tt

pub is_empty_tells : (ts : List Token) → true ≡ (length ts == 0) → ts ≡ []
is_empty_tells [] h = refl
is_empty_tells (t ∷ ts) h = absurd (grind arith)

pub not_empty_tells : (ts : List Token) → false ≡ (length ts == 0) → ts ≡ [] → ⊥
not_empty_tells [] h e = absurd (grind arith)
not_empty_tells (t ∷ ts) h e = absurd (cc)
