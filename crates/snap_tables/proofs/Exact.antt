-- Two beginnings of one text, and the one tables that a text spells.
use Rattle.std.proofs.Common.{◌≡◌, ℕ, List, [], ◌∷◌, ◌++◌, refl, sym, ap, subst, ◌∙◌, arith, append-nil, append_assoc, ⊎_elim}
use Rattle.std.specs.Prelude.{◌⊎◌, codes, slice_index}
use Rattle.snap_rows.specs.declared.tables.Tables.{Tables}
use Rattle.snap_tables.specs.Drafts.{no_entries}
use Rattle.snap_tables.specs.Exact.{SpellsOne}
use Rattle.snap_tables.specs.Lines.{IsBeginning, front_text, item_line}
use Rattle.snap_tables.specs.Text.{first_line, last_line, names_text, rows_text, ways_text}
use Rattle.snap_tables.proofs.OneItem.{item-no-end}
use Rattle.snap_tables.proofs.PieceLaws.{tail-same}
use Rattle.snap_tables.proofs.ReadLemmas.{digit-body}
use Rattle.snap_tables.proofs.Walks.{Ahead, Walk, entries, lines, walk-text, walk-whole, walks}

front-same : (xs ys zs : List ℕ) → xs ++ ys ≡ xs ++ zs → ys ≡ zs
front-same [] ys zs e = e
front-same (x ∷ xs) ys zs e = front-same xs ys zs (tail-same x x (xs ++ ys) (xs ++ zs) e)

-- the version stands in the first line
one-two : (m n : List ℕ) → first_line 1 ++ m ≡ first_line 2 ++ n → ⊥
one-two m n e =
    let a = ap (λ l. (l ++ codes "\n") ++ m) (digit-body 1 (omega arith)) in
    let b = ap (λ l. (l ++ codes "\n") ++ n) (digit-body 2 (omega arith)) in
    omega (arith, ap (λ l. slice_index l 12) (a ∙ e ∙ sym b))

version-same : (a b : ℕ) (m n : List ℕ) → (a ≡ 1) ⊎ (a ≡ 2) → (b ≡ 1) ⊎ (b ≡ 2) → first_line a ++ m ≡ first_line b ++ n → a ≡ b
version-same a b m n f g e = ⊎_elim
    (λ p. ⊎_elim (λ q. p ∙ sym q) (λ q. absurd (one-two m n (ap (λ v. first_line v ++ m) (sym p) ∙ e ∙ ap (λ v. first_line v ++ n) q))) g)
    (λ p. ⊎_elim (λ q. absurd (one-two n m (ap (λ v. first_line v ++ n) (sym q) ∙ sym e ∙ ap (λ v. first_line v ++ m) p))) (λ q. p ∙ sym q) g) f

no-entries-begin : (v : ℕ) → (v ≡ 1) ⊎ (v ≡ 2) → IsBeginning (no_entries v)
no-entries-begin v h = record {
  version = h;
  fields = tt;
  switches = tt;
  arrays = tt;
  links = tt;
  ports = tt;
  hops = tt;
  rows = tt;
  ready = refl;
  few_comps = omega arith;
  few_switches = omega arith;
  few_arrays = omega arith;
  few_links = omega arith;
  few_ports = omega arith;
}

module _ (b t : Tables) (hb : IsBeginning b) (ht : IsBeginning t) (rest tail : List ℕ) (e : front_text b ++ rest ≡ front_text t ++ tail) where
  pub versions : b.version ≡ t.version
  versions = version-same b.version t.version ((names_text b ++ (ways_text b ++ rows_text b)) ++ rest) ((names_text t ++ (ways_text t ++ rows_text t)) ++ tail) hb.version ht.version
      (sym (append_assoc (first_line b.version) (names_text b ++ (ways_text b ++ rows_text b)) rest) ∙ e ∙ append_assoc (first_line t.version) (names_text t ++ (ways_text t ++ rows_text t)) tail)

  -- they are one, or one of them goes on behind the other
  pub meets : ((b ≡ t) × (rest ≡ tail)) ⊎ (Ahead t.version b rest ⊎ Ahead t.version t tail)
  meets =
      let s = no_entries t.version in
      let wb = subst (λ v. Walk (no_entries v) (entries b hb) b) versions (walk-whole b hb) in
      let wt = walk-whole t ht in
      let tb = walk-text s (entries b hb) b wb in
      let tt' = walk-text s (entries t ht) t wt in
      let both = sym (append_assoc (front_text s) (lines t.version (entries b hb)) rest) ∙ ap (λ l. l ++ rest) (sym tb) ∙ e ∙ ap (λ l. l ++ tail) tt' ∙ append_assoc (front_text s) (lines t.version (entries t ht)) tail in
      walks s (no-entries-begin t.version ht.version) (entries b hb) (entries t ht) b t rest tail wb wt
      (front-same (front_text s) (lines t.version (entries b hb) ++ rest) (lines t.version (entries t ht) ++ tail) both)

pub end-cut : (more : List ℕ) → last_line ++ more ≡ last_line → more ≡ []
end-cut more e = front-same last_line more [] (e ∙ sym (append-nil last_line))

pub spells-one : SpellsOne
spells-one t u ht wt hu wu e =
    let version = versions t u ht hu last_line last_line e in
    ⊎_elim (λ p. p.0)
    (λ o. absurd (⊎_elim
    (λ (a : Ahead u.version t last_line). item-no-end t ht a.entry a.more (codes "nd\n") (sym (subst (λ v. last_line ≡ item_line v a.entry ++ a.more) (sym version) a.line)))
    (λ (a : Ahead u.version u last_line). item-no-end u hu a.entry a.more (codes "nd\n") (sym a.line)) o))
    (meets t u ht hu last_line last_line e)
