-- Which words say indices, exactly.
use Rattle.std.proofs.Common.{◌≡◌, ◌≢◌, ℕ, ◌^◌, ◌<◌, ◌≤◌, Bool, true, false, cond, List, [], ◌∷◌, ◌++◌, Option, Some, None, length, map, refl, sym, ap, subst, ◌∙◌, arith, inl, inr}
use Rattle.std.specs.Prelude.{◌==◌, ◌⊎◌, codes, nat_le, option_and_then, option_map}
use Rattle.std.specs.List.{All, flat_map}
use Rattle.std.proofs.lemmas.Bool.{eqb-true, leb-true, le-leb}
use Rattle.std.proofs.lemmas.List.Elements.{All-cons, All-nil, All-tail}
use Rattle.snap_core.specs.Figures.{parts_by}
use Rattle.snap_core.specs.declared.policy.Atom.{Atom}
use Rattle.snap_tables.specs.Joins.{behind, join, Lacks, AllLack}
use Rattle.snap_tables.specs.Text.{Words, atom_word, atoms_word}
use Rattle.snap_tables.specs.Reading.{atom_said, atoms_said, few, index_said, inner_said, is_close, is_comma}
use Rattle.snap_tables.specs.Laws.{IndexesAreSaid, IsAtom, IsIndex}
use Rattle.snap_tables.proofs.Joins.{join-parts, parts-join}
use Rattle.snap_tables.proofs.Readings.{parts_by-some}
use Rattle.snap_tables.proofs.Said.{atom-said, said-atom, map-some}
use Rattle.snap_tables.proofs.Terms.{Lacks-atom, and-some}

abbrev more_text : List Atom → List ℕ
more_text es = flat_map (λ (b : Atom). codes "," ++ atom_word b) es

more-behind : (es : List Atom) → more_text es ≡ behind 44 (map atom_word es)
more-behind [] = refl
more-behind (e ∷ es) = ap (λ l. (44 ∷ atom_word e) ++ l) (more-behind es)

pub Lacks-append : (s : ℕ) (a b : List ℕ) → Lacks s a → Lacks s b → Lacks s (a ++ b)
Lacks-append s [] b la lb = lb
Lacks-append s (x ∷ a) b la lb = (la.0, Lacks-append s a b la.1 lb)

module _ (comps : ℕ) (fits : comps < 2 ^ 64) where
  atoms-said : (ws : Words) (es : List Atom) → atoms_said comps ws ≡ Some es → (ws ≡ map atom_word es) × All (IsAtom comps) es
  atoms-said [] [] e = (refl, All-nil (IsAtom comps))
  atoms-said [] (a ∷ es) e = absurd (cc)
  atoms-said (w ∷ ws) es e =
      let k = and-some (λ a. option_map (λ (es : List Atom). a ∷ es) (atoms_said comps ws)) (atom_said comps w) es e in
      let a = atom-said comps k.0 w fits k.1 in
      let m = map-some (λ (es : List Atom). k.0 ∷ es) (atoms_said comps ws) es k.2 in
      let h = atoms-said ws m.0 m.1 in
      rw m.2 ((λ i. a.0 i ∷ h.0 i), All-cons (IsAtom comps) k.0 m.0 a.1 h.1)

  said-atoms : (es : List Atom) → All (IsAtom comps) es → atoms_said comps (map atom_word es) ≡ Some es
  said-atoms [] h = refl
  said-atoms (a ∷ es) h =
      ap (option_and_then (λ a. option_map (λ (es : List Atom). a ∷ es) (atoms_said comps (map atom_word es)))) (said-atom comps a fits (h 0 a (omega arith)))
      ∙ ap (option_map (λ (es : List Atom). a ∷ es)) (said-atoms es (All-tail (IsAtom comps) a es h))

  lack : (s : ℕ) → s ≢ 35 → s ≢ 99 → (s < 48) ⊎ (57 < s) → (es : List Atom) → All (IsAtom comps) es → AllLack s (map atom_word es)
  lack s hash letter out [] h = tt
  lack s hash letter out (a ∷ es) h = (Lacks-atom comps s a fits hash letter out (h 0 a (omega arith)), lack s hash letter out es (All-tail (IsAtom comps) a es h))

  lack-behind : (es : List Atom) → All (IsAtom comps) es → Lacks 93 (behind 44 (map atom_word es))
  lack-behind [] h = tt
  lack-behind (a ∷ es) h =
      (refl, Lacks-append 93 (atom_word a) (behind 44 (map atom_word es)) (Lacks-atom comps 93 a fits (λ e. omega (arith, e)) (λ e. omega (arith, e)) (inr (omega arith)) (h 0 a (omega arith))) (lack-behind es (All-tail (IsAtom comps) a es h)))

  few-said : (o : Option (List Atom)) (es : List Atom) → few o ≡ Some es → (o ≡ Some es) × (length es ≤ 8)
  few-said None es e = absurd (cc)
  few-said (Some fs) es e = at (nat_le (length fs) 8) refl e
    where
      at : (z : Bool) → nat_le (length fs) 8 ≡ z → cond z (Some fs) None ≡ Some es → (Some fs ≡ Some es) × (length es ≤ 8)
      at false out e = absurd (cc)
      at true is e = (e, subst (λ (gs : List Atom). length gs ≤ 8) (cc) (leb-true (length fs) 8 is))

  text_of : (a : Atom) (es : List Atom) → (atom_word a ++ behind 44 (map atom_word es)) ++ (93 ∷ []) ≡ (atom_word a ++ more_text es) ++ (93 ∷ [])
  text_of a es = ap (λ l. (atom_word a ++ l) ++ (93 ∷ [])) (sym (more-behind es))

  inner-said : (ps : Words) (es : List Atom) → inner_said comps ps ≡ Some es → (inner : List ℕ) × (join 93 ps ≡ inner ++ (93 ∷ [])) × (atoms_said comps (parts_by is_comma inner) ≡ Some es) × (length es ≤ 8)
  inner-said [] es e = absurd (cc)
  inner-said (w ∷ []) es e = absurd (cc)
  inner-said (w ∷ (b ∷ v) ∷ ws) es e = absurd (cc)
  inner-said (w ∷ [] ∷ u ∷ us) es e = absurd (cc)
  inner-said (w ∷ [] ∷ []) es e = let k = few-said (atoms_said comps (parts_by is_comma w)) es e in (w, refl, k.0, k.1)

  pub index-said : (w : List ℕ) (es : List Atom) → index_said comps w ≡ Some es → (w ≡ atoms_word es) × IsIndex comps es
  index-said [] es e = absurd (cc)
  index-said (b ∷ bs) es e = at (b == 91) refl e
    where
      shape : (inner : List ℕ) (es : List Atom) → parts_by is_comma inner ≡ map atom_word es → inner ≡ join 44 (map atom_word es)
      shape inner es e = sym (join-parts 44 inner) ∙ ap (join 44) e

      whole : (es : List Atom) (inner : List ℕ) → b ≡ 91 → bs ≡ inner ++ (93 ∷ []) → inner ≡ join 44 (map atom_word es) → parts_by is_comma inner ≡ map atom_word es → All (IsAtom comps) es → length es ≤ 8 → (b ∷ bs ≡ atoms_word es) × IsIndex comps es
      whole [] inner is text shape parts all less = absurd (some inner parts)
        where
          some : (inner : List ℕ) → parts_by is_comma inner ≡ [] → ⊥
          some inner e = parts_by-some (λ ws. ws ≡ [] → ⊥) (λ w ws e. cc) is_comma inner e
      whole (a ∷ es) inner is text shape parts all less =
          ((λ i. is i ∷ (text ∙ ap (λ l. l ++ (93 ∷ [])) shape ∙ text_of a es) i), (all, omega arith, less))

      at : (z : Bool) → (b == 91) ≡ z → cond z (inner_said comps (parts_by is_close bs)) None ≡ Some es → (b ∷ bs ≡ atoms_word es) × IsIndex comps es
      at false is e = absurd (cc)
      at true is e =
          let k = inner-said (parts_by is_close bs) es e in
          let h = atoms-said (parts_by is_comma k.0) es k.2 in
          whole es k.0 (eqb-true b 91 is) (sym (join-parts 93 bs) ∙ k.1) (shape k.0 es h.0) h.0 h.1 k.3

  pub said-index : (es : List Atom) → IsIndex comps es → index_said comps (atoms_word es) ≡ Some es
  said-index [] h = absurd (omega (arith, h.1))
  said-index (a ∷ es) h =
      let inner = atom_word a ++ behind 44 (map atom_word es) in
      let first : IsAtom comps a = h.0 0 a (omega arith) in
      let rest : All (IsAtom comps) es = All-tail (IsAtom comps) a es h.0 in
      ap (λ l. inner_said comps (parts_by is_close l)) (sym (text_of a es))
      ∙ ap (inner_said comps) (parts-join 93 inner ([] ∷ []) (Lacks-append 93 (atom_word a) (behind 44 (map atom_word es)) (Lacks-atom comps 93 a fits (λ e. omega (arith, e)) (λ e. omega (arith, e)) (inr (omega arith)) first) (lack-behind es rest)) (tt, tt))
      ∙ ap (λ ws. few (atoms_said comps ws)) (parts-join 44 (atom_word a) (map atom_word es) (Lacks-atom comps 44 a fits (λ e. omega (arith, e)) (λ e. omega (arith, e)) (inl (omega arith)) first) (lack 44 (λ e. omega (arith, e)) (λ e. omega (arith, e)) (inl (omega arith)) es rest))
      ∙ ap few (said-atoms (a ∷ es) h.0)
      ∙ ap (λ z. cond z (Some (a ∷ es)) None) (le-leb (length (a ∷ es)) 8 h.2)

pub indexes-said : IndexesAreSaid
indexes-said comps es w fits = (λ e. index-said comps fits w es e, λ h. ap (index_said comps) h.0 ∙ said-index comps fits es h.1)
