-- What one step told, and the next behind it.
use Rattle.std.proofs.Common.{◌≡◌, Option, Some, None, IfSome, Result, Ok, Err, ap, sym, subst}
use Rattle.std.specs.Prelude.{IsErrAnd}
use Rattle.snap_cli.proofs.Shared.{Refusal}

-- a `?` answers the refusal that it met
pub passed : {X : Type 0} {r : Result X Refusal} {e : Refusal} → IsErrAnd r (λ y. y ≡ e) → r ≡ Err e
passed {r = Ok x} is = absurd is
passed {r = Err y} is = ap (λ x. Err x) is

pub relayed : {X : Type 0} (P : Result X Refusal → Type 0) (r : Result X Refusal) (e : Refusal) → IsErrAnd r (λ y. y ≡ e) → P (Err e) → P r
relayed P (Ok x) e is h = absurd is
relayed P (Err y) e is h = subst (λ z. P (Err z)) (sym is) h

-- what one step tells of the files, and the next one
pub IfSome_both : {X : Type 0} (r s : Option X) {P Q R : X → Type 0} → s ≡ r → IfSome r P → IfSome s Q → ((x : X) → P x → Q x → R x) → IfSome r R
IfSome_both None s same p q f = tt
IfSome_both (Some x) s {P} {Q} {R} same p q f = f x p (subst (λ o. IfSome o Q) same q)
