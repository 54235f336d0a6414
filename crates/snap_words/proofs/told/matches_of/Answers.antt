use Rattle.std.proofs.Common.{◌≡◌, ◌≢◌, ◌∙◌, ap, sym, refl, [], ⊎_elim, subst, true}
use Rattle.clap.specs.Words.{App, HasKind, IsAmong, Kinds, app_of, fault_of, is_simple, is_simple_and_free, kind_of, matches_of}
use Rattle.clap.specs.declared.error.Error.{Error}
use Rattle.clap.specs.declared.error.kind.ErrorKind.TheVariants.{OutOfMemory}
use Rattle.snap_words.specs.Clap.{app}
use Rattle.snap_words.specs.Said.{lent}
use Rattle.snap_words.proofs.told.matches_of.Goals as goal

simple : is_simple app ≡ true
simple = refl

free : is_simple_and_free app ≡ true
free = refl

some_fault : (ks : Kinds) (e : Error) → HasKind ks e → kind_of e ≢ OutOfMemory → ks ≢ []
some_fault ks e has other none = ⊎_elim other (λ among. let P : Kinds → Type 0 = IsAmong (kind_of e) in subst P none among) has

pub returns-in-Ok-clause-ok : goal.returns-in-Ok-clause-ok
returns-in-Ok-clause-ok c =
    let is : app_of c.in_ok-flat.field-0 ≡ app = c.in_ok-flat.ensures in
    let ws = lent c.args.words.now in (
      ap (λ (a : App). fault_of a ws) (sym is) ∙ c.in-Ok.ensures.kinds (ap is_simple_and_free is ∙ free),
      (c.in-Ok.ensures.matches (ap is_simple is ∙ simple)).0 ∙ ap (λ (a : App). matches_of a ws) is,
    )

pub returns-in-Err-clause-usage : goal.returns-in-Err-clause-usage
returns-in-Err-clause-usage c = λ usage.
    let is : app_of c.in_ok-flat.field-0 ≡ app = c.in_ok-flat.ensures in
    let P : App → Type 0 = λ a. HasKind (fault_of a (lent c.args.words.now)) c.in-Err.error in
    some_fault (fault_of app (lent c.args.words.now)) c.in-Err.error (subst P is (c.in-Err.ensures.kinds (ap is_simple_and_free is ∙ free))) (c.words_fault.ensures usage)
