-- Lines of a schedule, and what they order.
use Rattle.std.proofs.Common.{◌≡◌, ◌≢◌, ℕ, Bool, true, false, List, [], ◌∷◌, refl, ap, ◌∙◌}
use Rattle.std.specs.Prelude.{◌==◌, if◌then◌else◌}
use Rattle.snap_core.specs.Figures.{onto_first, parts_by}
use Rattle.snap_runs.specs.Schedules.{lines_of, whole_lines}

-- there is always a part
parts-some : (separates : ℕ → Bool) (text : List ℕ) → parts_by separates text ≢ []
parts-some separates [] e = absurd (cc)
parts-some separates (b ∷ bs) e = by (separates b) (parts_by separates bs) e
  where
    by : (c : Bool) (parts : List (List ℕ)) → (if c then [] ∷ parts else onto_first b parts) ≡ [] → ⊥
    by true parts h = absurd (cc)
    by false [] h = absurd (cc)
    by false (part ∷ parts) h = absurd (cc)

lines-cons : (line : List ℕ) (parts : List (List ℕ)) → parts ≢ [] → whole_lines (line ∷ parts) ≡ line ∷ whole_lines parts
lines-cons line [] some = absurd (some refl)
lines-cons line (part ∷ parts) some = refl

-- a line, and the text behind it
pub lines-more : (text line behind : List ℕ) → parts_by (λ b. b == 10) text ≡ line ∷ parts_by (λ b. b == 10) behind → lines_of text ≡ line ∷ lines_of behind
lines-more text line behind e = ap whole_lines e ∙ lines-cons line (parts_by (λ b. b == 10) behind) (parts-some (λ b. b == 10) behind)
