-- Which words say updates, exactly.
use Rattle.std.proofs.Common.{◌≡◌, ℕ, ◌-◌, ◌^◌, ◌<◌, Bool, true, false, cond, List, ◌∷◌, ◌++◌, Option, Some, None, refl, sym, ap, subst, ◌∙◌, arith}
use Rattle.std.specs.Prelude.{codes, nat_lt, option_map}
use Rattle.std.specs.Str.{bytes_eq}
use Rattle.std.proofs.lemmas.Bool.{ltb-true, lt-ltb}
use Rattle.std.proofs.lemmas.Slice.Eq.{bytes_eq-Decides}
use Rattle.snap_core.specs.declared.policy.Atom.{Atom}
use Rattle.snap_core.specs.declared.policy.Op.{Op}
use Rattle.snap_core.specs.declared.policy.Op.TheVariants.{Put, Add}
use Rattle.snap_core.specs.declared.policy.Update.{Update}
use Rattle.snap_tables.specs.Text.{Words, by_word, op_word, update_words}
use Rattle.snap_tables.specs.Reading.{atom_said, below_said, by_taken, index_said, op_said, taken, u64_said, update_taken}
use Rattle.snap_tables.specs.Laws.{IsOp, IsUpdateOf, UpdatesAreTaken}
use Rattle.snap_tables.proofs.Indexes.{index-said, said-index}
use Rattle.snap_tables.proofs.NumberLines.{taken-some, chosen}
use Rattle.snap_tables.proofs.Readings.{said-decimal, decimal-said}
use Rattle.snap_tables.proofs.Said.{atom-said, said-atom, below-said, said-below, map-some}
use Rattle.snap_tables.proofs.Terms.{and-some}

is_put : Op → Bool
is_put (Put a) = true
is_put (Add n) = false

module _ (comps arrays : ℕ) (fits : comps < 2 ^ 64) (few : arrays < 2 ^ 64) where
  record IsBy (put : Bool) (ws : Words) (y : Op × Words) : Type 0 where
    op : IsOp comps y.0
    which : (w : List ℕ) → op_said w ≡ Some put → w ≡ op_word y.0
    words : ws ≡ by_word y.0 ∷ y.1

  op-said : (w : List ℕ) (put : Bool) → op_said w ≡ Some put → w ≡ cond put (codes "put") (codes "add")
  op-said w put e = first (bytes_eq w (codes "put")) refl e
    where
      second : (z : Bool) → bytes_eq w (codes "add") ≡ z → cond z (Some false) None ≡ Some put → w ≡ cond put (codes "put") (codes "add")
      second false is e = absurd (cc)
      second true is e = let p : false ≡ put = cc in subst (λ b. w ≡ cond b (codes "put") (codes "add")) p ((bytes_eq-Decides w (codes "add")).0 is)

      first : (z : Bool) → bytes_eq w (codes "put") ≡ z → cond z (Some true) (cond (bytes_eq w (codes "add")) (Some false) None) ≡ Some put → w ≡ cond put (codes "put") (codes "add")
      first false is e = second (bytes_eq w (codes "add")) refl e
      first true is e = let p : true ≡ put = cc in subst (λ b. w ≡ cond b (codes "put") (codes "add")) p ((bytes_eq-Decides w (codes "put")).0 is)

  by-taken : (put : Bool) (ws : Words) (y : Op × Words) → by_taken comps put ws ≡ Some y → IsBy put ws y
  by-taken true ws y e =
      let k = map-some (λ (p : Atom × Words). (Put p.0, p.1)) (taken (atom_said comps) ws) y e in
      let t = taken-some (atom_said comps) ws k.0 k.1 in
      let a = atom-said comps k.0.0 t.0 fits t.2 in
      rw k.2 (record { op = a.1; which = λ w h. op-said w true h; words = t.1 ∙ ap (λ w. w ∷ k.0.1) a.0 })
  by-taken false ws y e =
      let k = and-some _ (taken u64_said ws) y e in
      let c = chosen (nat_lt 0 k.0.0) (Add k.0.0, k.0.1) y k.2 in
      let t = taken-some u64_said ws k.0 k.1 in
      let n = said-decimal (2 ^ 64 - 1) t.0 k.0.0 (omega arith) t.2 in
      rw c.1 (record { op = (omega (arith, ltb-true 0 k.0.0 c.0), omega (arith, n.1)); which = λ w h. op-said w false h; words = t.1 ∙ ap (λ w. w ∷ k.0.1) n.0 })

  pub update-taken : (u : Update) (ws rest : Words) → update_taken comps arrays ws ≡ Some (u, rest) → (ws ≡ update_words u ++ rest) × IsUpdateOf comps arrays u
  update-taken u ws rest e =
      let a = and-some _ (taken op_said ws) (u, rest) e in
      let b = and-some _ (taken (below_said arrays) a.0.1) (u, rest) a.2 in
      let c = and-some _ (taken (index_said comps) b.0.1) (u, rest) b.2 in
      let d = map-some (λ (y : Op × Words). (record { var = b.0.0; index = c.0.0; op = y.0 }, y.1)) (by_taken comps a.0.0 c.0.1) (u, rest) c.2 in
      let o = taken-some op_said ws a.0 a.1 in
      let x = taken-some (below_said arrays) a.0.1 b.0 b.1 in
      let i = taken-some (index_said comps) b.0.1 c.0 c.1 in
      let y = by-taken a.0.0 c.0.1 d.0 d.1 in
      let v = below-said arrays b.0.0 x.0 few x.2 in
      let es = index-said comps fits i.0 c.0.0 i.2 in
      subst (λ (q : Update × Words). (ws ≡ update_words q.0 ++ q.1) × IsUpdateOf comps arrays q.0) (sym d.2) (
        o.1 ∙ ap (λ r. o.0 ∷ r) (x.1 ∙ ap (λ r. x.0 ∷ r) (i.1 ∙ ap (λ r. i.0 ∷ r) y.words))
            ∙ (λ j. y.which o.0 o.2 j ∷ v.0 j ∷ es.0 j ∷ by_word d.0.0 ∷ d.0.1),
        (v.1, es.1, y.op),
      )

  said-by : (o : Op) (rest : Words) → IsOp comps o → by_taken comps (is_put o) (by_word o ∷ rest) ≡ Some (o, rest)
  unfolding is_put
  said-by (Put a) rest h = ap (λ (x : Option Atom). option_map (λ (p : Atom × Words). (Put p.0, p.1)) (option_map (λ a. (a, rest)) x)) (said-atom comps a fits h)
  said-by (Add n) rest h = rw (decimal-said (2 ^ 64 - 1) n (omega arith) (omega (arith, h.1)), lt-ltb 0 n (omega (arith, h.0))) refl

  said-op : (o : Op) → op_said (op_word o) ≡ Some (is_put o)
  unfolding is_put
  said-op (Put a) = refl
  said-op (Add n) = refl

  pub said-update : (u : Update) (rest : Words) → IsUpdateOf comps arrays u → update_taken comps arrays (update_words u ++ rest) ≡ Some (u, rest)
  said-update u rest h =
      rw (said-op u.op, said-below arrays u.var few h.0, said-index comps fits u.index h.1, said-by u.op rest h.2) refl

pub updates-taken : UpdatesAreTaken
updates-taken comps arrays u ws rest fits few = (
  λ e. update-taken comps arrays fits few u ws rest e,
  λ h. ap (update_taken comps arrays) h.0 ∙ said-update comps arrays fits few u rest h.1,
)
