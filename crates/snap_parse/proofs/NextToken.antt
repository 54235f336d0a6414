-- Kinds are the same where their numbers are, and what may stand behind a part.
use Rattle.std.proofs.Common.{◌≡◌, ◌≢◌, ℕ, suc, ◌≤◌, List, [], ◌∷◌, Bool, true, false, refl, sym, ap, ◌∙◌, subst, arith, get_or}
use Rattle.std.proofs.lemmas.Bool.{eqb-true, eq-eqb}
use Rattle.snap_lex.proofs.Forms.{all_keys, all_signs}
use Rattle.snap_parse.specs.Kinds.{Token, Kind, Key, Sign, key_code, sign_code, same_kind}

-- a number tells its keyword, and its sign
key_at-code : (k : Key) → get_or all_keys (key_code k) Key.If ≡ k
key_at-code Key.Field = refl
key_at-code _ = refl

sign_at-code : (s : Sign) → get_or all_signs (sign_code s) Sign.Not ≡ s
sign_at-code Sign.PlusPlus = refl
sign_at-code _ = refl

key_code_injective : (a b : Key) → key_code a ≡ key_code b → a ≡ b
key_code_injective a b e = sym (key_at-code a) ∙ (ap (λ n. get_or all_keys n Key.If) e ∙ key_at-code b)

sign_code_injective : (a b : Sign) → sign_code a ≡ sign_code b → a ≡ b
sign_code_injective a b e = sym (sign_at-code a) ∙ (ap (λ n. get_or all_signs n Sign.Not) e ∙ sign_at-code b)

pub same_kind-true : (a b : Kind) → same_kind a b ≡ true → a ≡ b
same_kind-true Kind.Word Kind.Word e = refl
same_kind-true Kind.Number Kind.Number e = refl
same_kind-true Kind.Address Kind.Address e = refl
same_kind-true (Kind.Key a) (Kind.Key b) e = ap Kind.Key (key_code_injective a b (eqb-true _ _ e))
same_kind-true (Kind.Sign a) (Kind.Sign b) e = ap Kind.Sign (sign_code_injective a b (eqb-true _ _ e))
same_kind-true _ _ e = absurd (cc)

same_kind-refl : (a : Kind) → same_kind a a ≡ true
same_kind-refl (Kind.Key a) = eq-eqb (key_code a) (key_code a) refl
same_kind-refl (Kind.Sign a) = eq-eqb (sign_code a) (sign_code a) refl
same_kind-refl _ = refl

pub same_kind-same : (a b : Kind) → a ≡ b → same_kind a b ≡ true
same_kind-same a b e = subst (λ x. same_kind a x ≡ true) e (same_kind-refl a)

pub same_kind-other : (a b : Kind) → a ≢ b → same_kind a b ≡ false
same_kind-other a b other = decided (same_kind a b) refl
  where
    decided : (v : Bool) → same_kind a b ≡ v → same_kind a b ≡ false
    decided true is = absurd (other (same_kind-true a b is))
    decided false is = is

-- How loose the part is that ends before a token of this kind: 1 a single, 2 a both, 3 an either, 4 a choice,
-- 5 a sequence, 6 a policy.
abbrev pub looseness : Kind → ℕ
looseness (Kind.Sign Sign.CloseSquare) = 1
looseness (Kind.Sign Sign.And) = 1
looseness (Kind.Sign Sign.Or) = 2
looseness (Kind.Key Key.Then) = 3
looseness (Kind.Sign Sign.Semicolon) = 4
looseness (Kind.Sign Sign.Plus) = 5
looseness (Kind.Sign Sign.CloseRound) = 6
looseness (Kind.Sign Sign.CloseCurly) = 6
looseness (Kind.Key Key.Else) = 6
looseness _ = 0

-- the next token, if there is one, ends a part as loose as this
abbrev pub Ends : ℕ → List Token → Type 0
Ends n [] = Unit {0}
Ends n (t ∷ ts) = n ≤ looseness t.kind

pub ends_less : (n m : ℕ) (ts : List Token) → n ≤ m → Ends m ts → Ends n ts
ends_less n m [] below h = tt
ends_less n m (t ∷ ts) below h = omega (arith, below, h)

pub ends_kind : (n : ℕ) (t : Token) (kind : Kind) → t.kind ≡ kind → n ≤ looseness kind → n ≤ looseness t.kind
ends_kind n t kind is below = omega (arith, below, ap looseness is)

-- the next token is of another kind
abbrev pub NotNext : Kind → List Token → Type 0
NotNext kind [] = Unit {0}
NotNext kind (t ∷ ts) = same_kind t.kind kind ≡ false

pub not_next : (kind : Kind) (ts : List Token) → Ends (suc (looseness kind)) ts → NotNext kind ts
not_next kind [] h = tt
not_next kind (t ∷ ts) h = same_kind-other t.kind kind (λ is. absurd (omega (arith, h, ap looseness is)))

pub not_next_of : (kind other : Kind) (t : Token) → t.kind ≡ other → same_kind other kind ≡ false → same_kind t.kind kind ≡ false
not_next_of kind other t is differs = ap (λ x. same_kind x kind) is ∙ differs
