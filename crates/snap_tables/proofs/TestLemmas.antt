-- Which words say tests, and which lines switches, exactly.
use Rattle.std.proofs.Common.{◌≡◌, ℕ, ◌-◌, ◌^◌, Bool, true, false, List, [], ◌∷◌, refl, sym, ap, subst, ◌∙◌, arith, decimal}
use Rattle.std.specs.Prelude.{codes, length, nat_lt}
use Rattle.std.specs.List.{list_all}
use Rattle.std.proofs.lemmas.Bool.{and_parts, ltb-true, lt-ltb, ne_eqb}
use Rattle.snap_core.specs.Figures.{parts_by}
use Rattle.snap_core.specs.declared.policy.Atom.{Atom}
use Rattle.snap_core.specs.declared.policy.Term.{Term}
use Rattle.snap_core.specs.declared.policy.Test.{Test}
use Rattle.snap_core.specs.declared.policy.Test.TheVariants.{Value, Equal, State as StateTest}
use Rattle.snap_core.specs.Names.{is_name_byte, is_switch_name}
use Rattle.snap_tables.specs.Joins.{Lacks}
use Rattle.snap_tables.specs.Text.{Words, atoms_word, term_word}
use Rattle.snap_tables.specs.Reading.{below_said, equal_taken, index_said, is_space, name_said, no_words, opened, state_taken, switch_said, taken, term_said, u64_said, value_taken}
use Rattle.snap_tables.specs.Laws.{EqualsAreTaken, IsIndex, IsTerm, StatesAreTaken, SwitchesAreSaid, ValuesAreTaken}
use Rattle.snap_tables.proofs.Joins.{parts-join}
use Rattle.snap_tables.proofs.Indexes.{index-said, said-index}
use Rattle.snap_tables.proofs.NumberLines.{taken-some, opened-some, chosen, none-left, text-of}
use Rattle.snap_tables.proofs.Readings.{said-decimal, decimal-said}
use Rattle.snap_tables.proofs.Said.{below-said, said-below, map-some}
use Rattle.snap_tables.proofs.Terms.{and-some, term-said, said-term}

value-parts : (a b c n : ℕ) (r rest : Words) → ◌≡◌ {A = Test × Words} (Value a b, r) (Value c n, rest) → (a ≡ c) × (b ≡ n) × (r ≡ rest)
value-parts a b c n r rest e = let t : Value a b ≡ Value c n = ap (λ (q : Test × Words). q.0) e in (cc, cc, ap (λ (q : Test × Words). q.1) e)

pub values-taken : ValuesAreTaken
values-taken comps c n ws rest fits = (
  λ e.
      let a = and-some _ (taken (below_said comps) ws) (Value c n, rest) e in
      let b = map-some (λ (y : ℕ × Words). (Value a.0.0 y.0, y.1)) (taken u64_said a.0.1) (Value c n, rest) a.2 in
      let x = taken-some (below_said comps) ws a.0 a.1 in
      let y = taken-some u64_said a.0.1 b.0 b.1 in
      let u = below-said comps a.0.0 x.0 fits x.2 in
      let v = said-decimal (2 ^ 64 - 1) y.0 b.0.0 (omega arith) y.2 in
      let same = value-parts a.0.0 b.0.0 c n b.0.1 rest (sym b.2) in (
        x.1 ∙ ap (λ r. x.0 ∷ r) y.1 ∙ (λ i. (u.0 ∙ ap decimal same.0) i ∷ (v.0 ∙ ap decimal same.1) i ∷ same.2 i),
        omega (arith, u.1, same.0),
        omega (arith, v.1, same.1),
      ),
  λ h. ap (value_taken comps) h.0 ∙ rw (said-below comps c fits h.1, decimal-said (2 ^ 64 - 1) n (omega arith) (omega (arith, h.2))) refl,
)

equal-parts : (a b n a' b' n' : ℕ) (r rest : Words) → ◌≡◌ {A = Test × Words} (Equal a b n, r) (Equal a' b' n', rest) → (a ≡ a') × (b ≡ b') × (n ≡ n') × (r ≡ rest)
equal-parts a b n a' b' n' r rest e = let t : Equal a b n ≡ Equal a' b' n' = ap (λ (q : Test × Words). q.0) e in (cc, cc, cc, ap (λ (q : Test × Words). q.1) e)

pub equals-taken : EqualsAreTaken
equals-taken comps a b n ws rest fits = (
  λ e.
      let p = and-some _ (taken (below_said comps) ws) (Equal a b n, rest) e in
      let q = and-some _ (taken (below_said comps) p.0.1) (Equal a b n, rest) p.2 in
      let r = and-some _ (taken u64_said q.0.1) (Equal a b n, rest) q.2 in
      let d = chosen (nat_lt p.0.0 q.0.0) (Equal p.0.0 q.0.0 r.0.0, r.0.1) (Equal a b n, rest) r.2 in
      let x = taken-some (below_said comps) ws p.0 p.1 in
      let y = taken-some (below_said comps) p.0.1 q.0 q.1 in
      let z = taken-some u64_said q.0.1 r.0 r.1 in
      let u = below-said comps p.0.0 x.0 fits x.2 in
      let v = below-said comps q.0.0 y.0 fits y.2 in
      let w = said-decimal (2 ^ 64 - 1) z.0 r.0.0 (omega arith) z.2 in
      let same = equal-parts p.0.0 q.0.0 r.0.0 a b n r.0.1 rest (sym d.1) in (
        x.1 ∙ ap (λ l. x.0 ∷ l) (y.1 ∙ ap (λ l. y.0 ∷ l) z.1) ∙ (λ i. (u.0 ∙ ap decimal same.0) i ∷ (v.0 ∙ ap decimal same.1) i ∷ (w.0 ∙ ap decimal same.2) i ∷ same.3 i),
        omega (arith, ltb-true p.0.0 q.0.0 d.0, same.0, same.1),
        omega (arith, v.1, same.1),
        omega (arith, w.1, same.2),
      ),
  λ h. ap (equal_taken comps) h.0
      ∙ rw (said-below comps a fits (omega (arith, h.1, h.2)), said-below comps b fits h.2, decimal-said (2 ^ 64 - 1) n (omega arith) (omega (arith, h.3)), lt-ltb a b h.1) refl,
)

state-parts : (v v' : ℕ) (es es' : List Atom) (x x' : Term) (r rest : Words) → ◌≡◌ {A = Test × Words} (StateTest v es x, r) (StateTest v' es' x', rest) → (v ≡ v') × (es ≡ es') × (x ≡ x') × (r ≡ rest)
state-parts v v' es es' x x' r rest e = let t : StateTest v es x ≡ StateTest v' es' x' = ap (λ (q : Test × Words). q.0) e in (cc, cc, cc, ap (λ (q : Test × Words). q.1) e)

pub states-taken : StatesAreTaken
states-taken comps arrays v es t ws rest fits few = (
  λ e.
      let p = and-some _ (taken (below_said arrays) ws) (StateTest v es t, rest) e in
      let q = and-some _ (taken (index_said comps) p.0.1) (StateTest v es t, rest) p.2 in
      let r = map-some (λ (y : Term × Words). (StateTest p.0.0 q.0.0 y.0, y.1)) (taken (term_said comps) q.0.1) (StateTest v es t, rest) q.2 in
      let x = taken-some (below_said arrays) ws p.0 p.1 in
      let y = taken-some (index_said comps) p.0.1 q.0 q.1 in
      let z = taken-some (term_said comps) q.0.1 r.0 r.1 in
      let u = below-said arrays p.0.0 x.0 few x.2 in
      let i = index-said comps fits y.0 q.0.0 y.2 in
      let w = term-said comps fits r.0.0 z.0 z.2 in
      let same = state-parts p.0.0 v q.0.0 es r.0.0 t r.0.1 rest (sym r.2) in (
        x.1 ∙ ap (λ l. x.0 ∷ l) (y.1 ∙ ap (λ l. y.0 ∷ l) z.1) ∙ (λ j. (u.0 ∙ ap decimal same.0) j ∷ (i.0 ∙ ap atoms_word same.1) j ∷ (w.0 ∙ ap term_word same.2) j ∷ same.3 j),
        omega (arith, u.1, same.0),
        subst (IsIndex comps) same.1 i.1,
        subst (IsTerm comps) same.2 w.1,
      ),
  λ h. ap (state_taken comps arrays) h.0 ∙ rw (said-below arrays v few h.1, said-index comps fits es h.2, said-term comps fits t h.3) refl,
)

-- names

pub Lacks-all : (p : ℕ → Bool) (s : ℕ) → p s ≡ false → (w : List ℕ) → list_all p w ≡ true → Lacks s w
Lacks-all p s out [] e = tt
Lacks-all p s out (b ∷ bs) e =
    let k = and_parts (p b) (list_all p bs) e in
    (ne_eqb b s (λ is. absurd (clash (sym k.0 ∙ ap p is ∙ out))), Lacks-all p s out bs k.1)
  where
    clash : true ≡ false → ⊥
    clash e = cc

pub Lacks-switch : (w : List ℕ) → is_switch_name w ≡ true → Lacks 32 w
Lacks-switch w e = Lacks-all is_name_byte 32 refl w (and_parts (nat_lt 0 (length w)) (list_all is_name_byte w) e).1

pub switches-said : SwitchesAreSaid
switches-said name w = (
  λ e.
      let a = and-some _ (opened (codes "switch") (parts_by is_space w)) name e in
      let b = and-some _ (taken (name_said is_switch_name) a.0) name a.2 in
      let d = chosen (no_words b.0.1) b.0.0 name b.2 in
      let x = taken-some (name_said is_switch_name) a.0 b.0 b.1 in
      let n = chosen (is_switch_name x.0) x.0 b.0.0 x.2 in
      let is : x.0 ≡ name = sym n.1 ∙ sym d.1 in (
        text-of w (codes "switch") (name ∷ []) (opened-some (codes "switch") (parts_by is_space w) a.0 a.1 ∙ ap (λ r. codes "switch" ∷ r) (x.1 ∙ ap (λ r. x.0 ∷ r) (none-left b.0.1 d.0) ∙ ap (λ y. y ∷ []) is)),
        subst (λ y. is_switch_name y ≡ true) is n.0,
      ),
  λ h.
      ap (λ x. switch_said (parts_by is_space x)) h.0
      ∙ ap switch_said (parts-join 32 (codes "switch") (name ∷ []) (refl, (refl, (refl, (refl, (refl, (refl, tt)))))) (Lacks-switch name h.1, tt))
      ∙ rw h.1 refl,
)
