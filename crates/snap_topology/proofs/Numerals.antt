-- Numbers of ports, as texts.
use Rattle.std.proofs.Common.{◌≡◌, ◌∙◌, ℕ, ◌<◌, ◌≤◌, ◌^◌, List, Bool, true, false, ◌&&◌, cond, Some, None, refl, sym, ap, arith, decimal, nat_le, nat_lt, bytes_eq}
use Rattle.std.specs.Str.Parse.{digits_value}
use Rattle.std.proofs.lemmas.Bool.{le-leb, lt-ltb, leb-true, ltb-true, and_from, and_parts}
use Rattle.std.proofs.lemmas.Fmt.{decimal_is_IsNumeral}
use Rattle.std.proofs.lemmas.Slice.Eq.{bytes_eq-Decides}
use Rattle.snap_topology.specs.Spells.{port_number}

abbrev is_port : ℕ → List ℕ → Bool
is_port n text = nat_le 1 n && (nat_lt n (2 ^ 32) && bytes_eq text (decimal n))

chosen : (b : Bool) (n p : ℕ) → b ≡ true → n ≡ p → Some p ≡ cond b (Some n) None
chosen b n p is same = rw is (ap (λ k. Some k) (sym same))

-- the text of a number is read as it
pub port_number-decimal : (text : List ℕ) (p : ℕ) → 1 ≤ p → p < 2 ^ 32 → text ≡ decimal p → Some p ≡ port_number text
port_number-decimal text p one small is =
    let value : digits_value 10 text ≡ p = ap (digits_value 10) is ∙ (decimal_is_IsNumeral p (omega arith)).1 in
    let spelled : text ≡ decimal (digits_value 10 text) = is ∙ ap decimal (sym value) in
    let low : 1 ≤ digits_value 10 text = omega arith in
    let high : digits_value 10 text < 2 ^ 32 = omega arith in
    chosen (is_port (digits_value 10 text) text) (digits_value 10 text) p
    (and_from _ _ (le-leb _ _ low) (and_from _ _ (lt-ltb _ _ high) ((bytes_eq-Decides text (decimal (digits_value 10 text))).1 spelled))) value

refused : (b : Bool) (n : ℕ) (text : List ℕ) → b ≡ is_port n text → ((p : ℕ) → 1 ≤ p → p < 2 ^ 32 → text ≡ decimal p → ⊥) → None ≡ cond b (Some n) None
refused false n text is not = refl
refused true n text is not =
    let parts = and_parts _ _ (sym is) in
    let more = and_parts _ _ parts.1 in
    absurd (not n (leb-true _ _ parts.0) (ltb-true _ _ more.0) ((bytes_eq-Decides text (decimal n)).0 more.1))

-- a text of no number is read as none
pub port_number-none : (text : List ℕ) → ((p : ℕ) → 1 ≤ p → p < 2 ^ 32 → text ≡ decimal p → ⊥) → None ≡ port_number text
port_number-none text not = refused (is_port (digits_value 10 text) text) (digits_value 10 text) text refl not
