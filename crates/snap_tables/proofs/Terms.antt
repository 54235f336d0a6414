-- Which words say terms and parts of outs, exactly.
use Rattle.std.proofs.Common.{◌≡◌, ◌≢◌, ℕ, zero, suc, ◌-◌, ◌^◌, ◌<◌, Bool, true, false, cond, List, [], ◌∷◌, ◌++◌, Option, Some, None, refl, sym, ap, ◌∙◌, arith, decimal, append-nil, append_assoc, inl, inr}
use Rattle.std.specs.Prelude.{◌==◌, ◌⊎◌, option_and_then, option_map}
use Rattle.std.specs.List.{list_all}
use Rattle.std.specs.Char.{is_ascii_digit}
use Rattle.std.proofs.lemmas.Bool.{and_parts, eqb-true, eqb-false, ne_eqb, leb-true}
use Rattle.std.proofs.lemmas.Fmt.{digits_decimal}
use Rattle.snap_core.specs.Figures.{parts_by}
use Rattle.snap_core.specs.declared.policy.Atom.{Atom}
use Rattle.snap_core.specs.declared.policy.Atom.TheVariants.{Num, Comp}
use Rattle.snap_core.specs.declared.policy.Term.{Term}
use Rattle.snap_core.specs.declared.policy.Term.TheVariants.{Num as Only, Plus}
use Rattle.snap_tables.specs.Joins.{join, Lacks}
use Rattle.snap_tables.specs.Text.{Words, atom_word, part_word, term_word}
use Rattle.snap_tables.specs.Reading.{atom_said, below_said, both_said, changes, comp_term_said, is_equals, is_plus, part_said, plus_said, term_said, u64_said}
use Rattle.snap_tables.specs.Laws.{IsAtom, IsPart, IsTerm, PartsAreSaid, TermsAreSaid}
use Rattle.snap_tables.proofs.Joins.{join-parts, parts-join}
use Rattle.snap_tables.proofs.Readings.{said-decimal, decimal-said, model}
use Rattle.snap_tables.proofs.Said.{atom-said, said-atom, below-said, said-below, map-some}

pub Lacks-digits : (s : ℕ) (ds : List ℕ) → (s < 48) ⊎ (57 < s) → list_all is_ascii_digit ds ≡ true → Lacks s ds
Lacks-digits s [] out e = tt
Lacks-digits s (d ∷ ds) out e =
    let k = and_parts (is_ascii_digit d) (list_all is_ascii_digit ds) e in
    let m = and_parts (Rattle.std.specs.Prelude.nat_le 48 d) (Rattle.std.specs.Prelude.nat_le d 57) k.0 in
    (ne_eqb d s (λ is. omega (arith, out, leb-true 48 d m.0, leb-true d 57 m.1)), Lacks-digits s ds out k.1)

pub Lacks-decimal : (s n : ℕ) → (s < 48) ⊎ (57 < s) → n < 2 ^ 64 → Lacks s (decimal n)
Lacks-decimal s n out small = Lacks-digits s (decimal n) out (digits_decimal model n small)

pub and-some : {A B : Type 0} (f : A → Option B) (o : Option A) (b : B) → option_and_then f o ≡ Some b → (a : A) × (o ≡ Some a) × (f a ≡ Some b)
and-some f None b e = absurd (cc)
and-some f (Some a) b e = (a, refl, e)

abbrev plus_text : ℕ → List ℕ
plus_text n = cond (n == 0) [] (43 ∷ decimal n)

record IsPlus (comps : ℕ) (t : Term) (bs : List ℕ) : Type 0 where
  c : ℕ
  n : ℕ
  is : t ≡ Plus c n
  comp : c < comps
  small : n < 2 ^ 64
  text : bs ≡ decimal c ++ plus_text n

module _ (comps : ℕ) (fits : comps < 2 ^ 64) (t : Term) where
  plus-said : (c : ℕ) (w : List ℕ) (ws : Words) → w ≡ decimal c → c < comps → plus_said c ws ≡ Some t → IsPlus comps t (join 43 (w ∷ ws))
  plus-said c w [] is less e = record { c = c; n = 0; is = cc; comp = less; small = omega arith; text = ap (λ l. l ++ []) is }
  plus-said c w (v ∷ []) is less e =
      let k = and-some (λ n. cond (n == 0) None (Some (Plus c n))) (u64_said v) t e in
      let d = said-decimal (2 ^ 64 - 1) v k.0 (omega arith) k.1 in
      at k.0 (k.0 == 0) refl d.0 (omega (arith, d.1)) k.2
    where
      at : (n : ℕ) (z : Bool) → (n == 0) ≡ z → v ≡ decimal n → n < 2 ^ 64 → cond z None (Some (Plus c n)) ≡ Some t → IsPlus comps t (join 43 (w ∷ v ∷ []))
      at n true z d small e = absurd (cc)
      at n false more d small e = record {
        c = c;
        n = n;
        is = cc;
        comp = less;
        small = small;
        text = (λ i. is i ++ ((43 ∷ append-nil v i))) ∙ ap (λ l. decimal c ++ (43 ∷ l)) d ∙ ap (λ z. decimal c ++ cond z [] (43 ∷ decimal n)) (sym more);
      }
  plus-said c w (v ∷ u ∷ us) is less e = absurd (cc)

  comp-term-said : (ps : Words) → comp_term_said comps ps ≡ Some t → IsPlus comps t (join 43 ps)
  comp-term-said [] e = absurd (cc)
  comp-term-said (w ∷ ws) e =
      let k = and-some (λ c. plus_said c ws) (below_said comps w) t e in
      let d = below-said comps k.0 w fits k.1 in
      plus-said k.0 w ws d.0 d.1 k.2

  pub term-said : (w : List ℕ) → term_said comps w ≡ Some t → (w ≡ term_word t) × IsTerm comps t
  term-said [] e = absurd (cc)
  term-said (b ∷ bs) e = first (b == 35) refl e
    where
      second : (z : Bool) → (b == 99) ≡ z → cond z (comp_term_said comps (parts_by is_plus bs)) None ≡ Some t → (b ∷ bs ≡ term_word t) × IsTerm comps t
      second false is e = absurd (cc)
      second true is e =
          let k = comp-term-said (parts_by is_plus bs) e in
          rw k.is ((λ i. eqb-true b 99 is i ∷ (sym (join-parts 43 bs) ∙ k.text) i), (k.comp, k.small))

      first : (z : Bool) → (b == 35) ≡ z → cond z (option_map Only (u64_said bs)) (cond (b == 99) (comp_term_said comps (parts_by is_plus bs)) None) ≡ Some t → (b ∷ bs ≡ term_word t) × IsTerm comps t
      first false is e = second (b == 99) refl e
      first true is e =
          let k = map-some Only (u64_said bs) t e in
          let n = said-decimal (2 ^ 64 - 1) bs k.0 (omega arith) k.1 in
          rw k.2 ((λ i. eqb-true b 35 is i ∷ n.0 i), omega (arith, n.1))

module _ (comps : ℕ) (fits : comps < 2 ^ 64) where
  said-plus : (c n : ℕ) → c < comps → n < 2 ^ 64 → comp_term_said comps (parts_by is_plus (decimal c ++ plus_text n)) ≡ Some (Plus c n)
  said-plus c zero less small =
      ap (comp_term_said comps) (parts-join 43 (decimal c) [] (Lacks-decimal 43 c (inl (omega arith)) (omega arith)) tt)
      ∙ ap (option_and_then (λ c. plus_said c [])) (said-below comps c fits less)
  said-plus c (suc m) less small =
      let d = decimal (suc m) in
      let more : (suc m == 0) ≡ false = ne_eqb (suc m) 0 (λ e. omega arith) in
      ap (λ z. comp_term_said comps (parts_by is_plus (decimal c ++ cond z [] (43 ∷ d)))) more
      ∙ ap (λ l. comp_term_said comps (parts_by is_plus (decimal c ++ (43 ∷ l)))) (sym (append-nil d))
      ∙ ap (comp_term_said comps) (parts-join 43 (decimal c) (d ∷ []) (Lacks-decimal 43 c (inl (omega arith)) (omega arith)) (Lacks-decimal 43 (suc m) (inl (omega arith)) small, tt))
      ∙ ap (option_and_then (λ c. plus_said c (d ∷ []))) (said-below comps c fits less)
      ∙ ap (option_and_then (λ n. cond (n == 0) None (Some (Plus c n)))) (decimal-said (2 ^ 64 - 1) (suc m) (omega arith) (omega arith))
      ∙ ap (λ z. cond z None (Some (Plus c (suc m)))) more

  pub said-term : (t : Term) → IsTerm comps t → term_said comps (term_word t) ≡ Some t
  said-term (Only n) small = ap (option_map Only) (decimal-said (2 ^ 64 - 1) n (omega arith) (omega arith))
  said-term (Plus c n) h = said-plus c n h.0 h.1

pub terms-said : TermsAreSaid
terms-said comps t w fits = (λ e. term-said comps fits t w e, λ h. ap (term_said comps) h.0 ∙ said-term comps fits t h.1)

pub Lacks-atom : (comps s : ℕ) (a : Atom) → comps < 2 ^ 64 → s ≢ 35 → s ≢ 99 → (s < 48) ⊎ (57 < s) → IsAtom comps a → Lacks s (atom_word a)
Lacks-atom comps s (Num n) fits hash letter out small = (ne_eqb 35 s (λ e. hash (sym e)), Lacks-decimal s n out small)
Lacks-atom comps s (Comp c) fits hash letter out less = (ne_eqb 99 s (λ e. letter (sym e)), Lacks-decimal s c out (omega arith))

-- parts of outs

changed : (c : ℕ) (a : Atom) (p : ℕ × Atom) → changes c a ≡ Some p → (p ≡ (c, a)) × (a ≢ Comp c)
changed c (Num n) p e = (cc, λ e. cc)
changed c (Comp d) p e = at (c == d) refl e
  where
    at : (z : Bool) → (c == d) ≡ z → cond z None (Some (c, Comp d)) ≡ Some p → (p ≡ (c, Comp d)) × (Comp d ≢ Comp c)
    at true is e = absurd (cc)
    at false other e = (cc, λ same. eqb-false c d other (cc))

record IsBoth (comps : ℕ) (p : ℕ × Atom) (bs : List ℕ) : Type 0 where
  part : IsPart comps p
  text : bs ≡ decimal p.0 ++ (61 ∷ atom_word p.1)

module _ (comps : ℕ) (fits : comps < 2 ^ 64) (p : ℕ × Atom) where
  both-said : (ps : Words) → both_said comps ps ≡ Some p → IsBoth comps p (join 61 ps)
  both-said [] e = absurd (cc)
  both-said (w ∷ []) e = absurd (cc)
  both-said (w ∷ v ∷ u ∷ us) e = absurd (cc)
  both-said (w ∷ v ∷ []) e =
      let k = and-some (λ c. option_and_then (changes c) (atom_said comps v)) (below_said comps w) p e in
      let d = below-said comps k.0 w fits k.1 in
      let m = and-some (changes k.0) (atom_said comps v) p k.2 in
      let a = atom-said comps m.0 v fits m.1 in
      let h = changed k.0 m.0 p m.2 in
      rw h.0 (record { part = (d.1, a.1, h.1); text = (λ i. d.0 i ++ (61 ∷ append-nil v i)) ∙ ap (λ l. decimal k.0 ++ (61 ∷ l)) a.0 })

  part-said : (w : List ℕ) → part_said comps w ≡ Some p → (w ≡ part_word p) × IsPart comps p
  part-said [] e = absurd (cc)
  part-said (b ∷ bs) e = at (b == 99) refl e
    where
      at : (z : Bool) → (b == 99) ≡ z → cond z (both_said comps (parts_by is_equals bs)) None ≡ Some p → (b ∷ bs ≡ part_word p) × IsPart comps p
      at false is e = absurd (cc)
      at true is e =
          let k = both-said (parts_by is_equals bs) e in
          ((λ i. eqb-true b 99 is i ∷ (sym (join-parts 61 bs) ∙ k.text ∙ sym (append_assoc (decimal p.0) (61 ∷ []) (atom_word p.1))) i), k.part)

  unchanged : (a : Atom) → a ≢ Comp p.0 → changes p.0 a ≡ Some (p.0, a)
  unchanged (Num n) other = refl
  unchanged (Comp d) other = ap (λ z. cond z None (Some (p.0, Comp d))) (ne_eqb p.0 d (λ e. other (ap Comp (sym e))))

  said-part : IsPart comps p → part_said comps (part_word p) ≡ Some p
  said-part h =
      let d = decimal p.0 in
      let a = atom_word p.1 in
      ap (λ l. both_said comps (parts_by is_equals l)) (append_assoc d (61 ∷ []) a ∙ ap (λ l. d ++ (61 ∷ l)) (sym (append-nil a)))
      ∙ ap (both_said comps) (parts-join 61 d (a ∷ []) (Lacks-decimal 61 p.0 (inr (omega arith)) (omega (arith, h.0))) (Lacks-atom comps 61 p.1 fits (λ e. omega (arith, e)) (λ e. omega (arith, e)) (inr (omega arith)) h.1, tt))
      ∙ ap (option_and_then (λ c. option_and_then (changes c) (atom_said comps a))) (said-below comps p.0 fits h.0)
      ∙ ap (option_and_then (changes p.0)) (said-atom comps p.1 fits h.1)
      ∙ unchanged p.1 h.2

pub parts-said : PartsAreSaid
parts-said comps p w fits = (λ e. part-said comps fits p w e, λ h. ap (part_said comps) h.0 ∙ said-part comps fits p h.1)
