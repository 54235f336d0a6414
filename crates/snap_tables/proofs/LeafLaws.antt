-- What words behind `leaf` say, exactly.
use Rattle.std.proofs.Common.{◌≡◌, ◌<◌, ◌≤◌, ◌^◌, Bool, true, false, List, [], ◌∷◌, length, refl, sym, ap, subst, ◌∙◌, append-nil}
use Rattle.std.specs.List.{All, flat_map}
use Rattle.snap_core.specs.declared.policy.Update.{Update}
use Rattle.snap_rows.specs.declared.tables.ArrayAt.{ArrayAt}
use Rattle.snap_rows.specs.declared.tables.Stage.{Stage as LeafStage}
use Rattle.snap_rows.specs.Entries.{Parts}
use Rattle.snap_tables.specs.Text.{Words, out_words, stage_words, update_words}
use Rattle.snap_tables.specs.Laws.{IsUpdateOf}
use Rattle.snap_tables.specs.Pieces.{FailsAfter, IsFront, IsNoFront, TakesAll, is_adjacent}
use Rattle.snap_tables.specs.Reading.{begins_update, no_words}
use Rattle.snap_tables.specs.Rows.{AreOuts, AreStages, AreStagesTaken, AreUpdates, AreUpdatesTaken, IsNoOuts, IsNoStages, IsNoUpdates, IsOut, IsStage, never, opens_out, opens_part, opens_stage, parts_less, rises_from, stands_apart}
use Rattle.snap_tables.specs.declared.piece.Counts.{Counts}
use Rattle.snap_tables.proofs.PieceLemmas.{AreApart, fails-none, false-true, takes-one}
use Rattle.snap_tables.proofs.PieceLaws.{outs-apart, stages-apart, updates-apart}

pub outs-no-stage : (os : List Parts) → opens_stage (flat_map out_words os) ≡ false
outs-no-stage [] = refl
outs-no-stage (o ∷ os) = refl

pub outs-no-update : (os : List Parts) → begins_update (flat_map out_words os) ≡ false
outs-no-update [] = refl
outs-no-update (o ∷ os) = refl

-- a list of pieces in front of outs
module _ {X : Type 0} (spelled : X → Words) (Fits : X → Type 0) (opens goes_on : Words → Bool) (apart : AreApart spelled Fits opens goes_on) (Are : List X → Type 0) (each : (xs : List X) → Are xs → All Fits xs)
    (k : Counts) (shut : (os : List Parts) → opens (flat_map out_words os) ≡ false) (quiet : (os : List Parts) → goes_on (flat_map out_words os) ≡ false) (ws : Words) where
  front-fails : FailsAfter spelled Fits opens goes_on ws → IsNoFront spelled Are out_words (AreOuts k) ws
  front-fails fails us os f g e = fails-none spelled Fits opens goes_on apart ws fails us (flat_map out_words os) (each us f) (shut os) (quiet os) e

  module _ (xs : List X) (left : Words) (takes : TakesAll spelled Fits opens goes_on ws xs left) where
    front-no : (Are xs → ⊥) → IsNoFront spelled Are out_words (AreOuts k) ws
    front-no bad us os f g e = bad (subst Are (sym (takes-one spelled Fits opens goes_on apart ws left xs takes us (flat_map out_words os) (each us f) (shut os) (quiet os) e).0) f)

    front-yes : Are xs → IsFront spelled Are out_words (AreOuts k) ws xs left
    front-yes fits = record {
      words = takes.words;
      fits = fits;
      one = λ us os f g e. takes-one spelled Fits opens goes_on apart ws left xs takes us (flat_map out_words os) (each us f) (shut os) (quiet os) e;
    }

module _ (k : Counts) (fits : k.comps < 2 ^ 64) (few : k.arrays < 2 ^ 64) (ends : k.switches < 2 ^ 64) (ws : Words) where
  pub outs-fail : FailsAfter out_words (IsOut k) opens_out opens_part ws → IsNoOuts k ws
  outs-fail fails os f e = fails-none out_words (IsOut k) opens_out opens_part (outs-apart k fits few ends) ws fails os [] f.0 refl refl (e ∙ sym (append-nil (flat_map out_words os)))

  module _ (outs : List Parts) (left : Words) (takes : TakesAll out_words (IsOut k) opens_out opens_part ws outs left) where
    pub outs-no : (is_adjacent parts_less outs ≡ true → no_words left ≡ true → ⊥) → IsNoOuts k ws
    outs-no bad os f e =
        let one = takes-one out_words (IsOut k) opens_out opens_part (outs-apart k fits few ends) ws left outs takes os [] f.0 refl refl (e ∙ sym (append-nil (flat_map out_words os))) in
        bad (ap (is_adjacent parts_less) one.0 ∙ f.1) (ap no_words one.1)

  pub stages-fail : FailsAfter stage_words (IsStage k) opens_stage begins_update ws → IsNoStages k ws
  stages-fail = front-fails stage_words (IsStage k) opens_stage begins_update (stages-apart k fits few ends) (AreStages k) (λ xs f. f.0) k outs-no-stage outs-no-update ws

  module _ (stages : List LeafStage) (left : Words) (takes : TakesAll stage_words (IsStage k) opens_stage begins_update ws stages left) where
    pub stages-no : (is_adjacent stands_apart stages ≡ true → length stages ≤ 65535 → ⊥) → IsNoStages k ws
    stages-no bad = front-no stage_words (IsStage k) opens_stage begins_update (stages-apart k fits few ends) (AreStages k) (λ xs f. f.0) k outs-no-stage outs-no-update ws stages left takes (λ f. bad f.1 f.2)

    pub stages-yes : is_adjacent stands_apart stages ≡ true → length stages ≤ 65535 → AreStagesTaken k ws stages left
    stages-yes a b = front-yes stage_words (IsStage k) opens_stage begins_update (stages-apart k fits few ends) (AreStages k) (λ xs f. f.0) k outs-no-stage outs-no-update ws stages left takes (takes.each, a, b)

  module _ (ranked : List ArrayAt) where
    pub updates-fail : FailsAfter update_words (IsUpdateOf k.comps k.arrays) begins_update never ws → IsNoUpdates k ranked ws
    updates-fail = front-fails update_words (IsUpdateOf k.comps k.arrays) begins_update never (updates-apart k.comps fits k.arrays few) (AreUpdates k ranked) (λ xs f. f.0) k outs-no-update (λ os. refl) ws

    module _ (ups : List Update) (left : Words) (takes : TakesAll update_words (IsUpdateOf k.comps k.arrays) begins_update never ws ups left) where
      pub updates-no : rises_from ranked 0 ups ≡ false → IsNoUpdates k ranked ws
      updates-no bad = front-no update_words (IsUpdateOf k.comps k.arrays) begins_update never (updates-apart k.comps fits k.arrays few) (AreUpdates k ranked) (λ xs f. f.0) k outs-no-update (λ os. refl) ws ups left takes (λ f. false-true (sym bad ∙ f.1))

      pub updates-yes : rises_from ranked 0 ups ≡ true → AreUpdatesTaken k ranked ws ups left
      updates-yes good = front-yes update_words (IsUpdateOf k.comps k.arrays) begins_update never (updates-apart k.comps fits k.arrays few) (AreUpdates k ranked) (λ xs f. f.0) k outs-no-update (λ os. refl) ws ups left takes (takes.each, good)
