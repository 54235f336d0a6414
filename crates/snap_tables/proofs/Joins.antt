-- Parts of a text, and the text that is put together of them.
use Rattle.std.proofs.Common.{◌≡◌, ℕ, Bool, true, false, cond, List, [], ◌∷◌, ◌++◌, refl, sym, ap, ◌∙◌}
use Rattle.std.specs.Prelude.{◌==◌}
use Rattle.std.proofs.lemmas.Bool.{eqb-true, eq-eqb}
use Rattle.snap_core.specs.Figures.{parts_by, onto_first}
use Rattle.snap_tables.specs.Joins.{behind, join, Lacks, AllLack}
use Rattle.snap_tables.proofs.Readings.{parts_by-some}

join-onto : (s b : ℕ) (ps : List (List ℕ)) → join s (onto_first b ps) ≡ b ∷ join s ps
join-onto s b [] = refl
join-onto s b (w ∷ ws) = refl

pub behind-parts : (s : ℕ) (p : ℕ → Bool) (bs : List ℕ) → behind s (parts_by p bs) ≡ s ∷ join s (parts_by p bs)
behind-parts s p bs = parts_by-some (λ ws. behind s ws ≡ s ∷ join s ws) (λ w ws. refl) p bs

-- the parts of a text make the text
pub join-parts : (s : ℕ) (bs : List ℕ) → join s (parts_by (λ b. b == s) bs) ≡ bs
join-parts s [] = refl
join-parts s (b ∷ bs) = at (join-parts s bs) (b == s) refl
  where
    at : join s (parts_by (λ b. b == s) bs) ≡ bs → (t : Bool) → (b == s) ≡ t → join s (parts_by (λ b. b == s) (b ∷ bs)) ≡ b ∷ bs
    at rest true e =
        ap (λ t. join s (cond t ([] ∷ parts_by (λ b. b == s) bs) (onto_first b (parts_by (λ b. b == s) bs)))) e
        ∙ behind-parts s (λ b. b == s) bs ∙ ap (λ l. s ∷ l) rest ∙ ap (λ x. x ∷ bs) (sym (eqb-true b s e))
    at rest false e =
        ap (λ t. join s (cond t ([] ∷ parts_by (λ b. b == s) bs) (onto_first b (parts_by (λ b. b == s) bs)))) e
        ∙ join-onto s b (parts_by (λ b. b == s) bs) ∙ ap (λ l. b ∷ l) rest

-- parts without the byte are the parts of the text that they make
pub parts-join : (s : ℕ) (w : List ℕ) (ws : List (List ℕ)) → Lacks s w → AllLack s ws → parts_by (λ b. b == s) (w ++ behind s ws) ≡ w ∷ ws
parts-join s [] [] lacks all = refl
parts-join s [] (v ∷ vs) lacks all =
    ap (λ t. cond t ([] ∷ parts_by (λ b. b == s) (v ++ behind s vs)) (onto_first s (parts_by (λ b. b == s) (v ++ behind s vs)))) (eq-eqb s s refl)
    ∙ ap (λ l. [] ∷ l) (parts-join s v vs all.0 all.1)
parts-join s (b ∷ w) ws lacks all =
    ap (λ t. cond t ([] ∷ parts_by (λ b. b == s) (w ++ behind s ws)) (onto_first b (parts_by (λ b. b == s) (w ++ behind s ws)))) lacks.0
    ∙ ap (onto_first b) (parts-join s w ws lacks.1 all)
