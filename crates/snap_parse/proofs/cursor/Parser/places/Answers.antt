use Rattle.std.proofs.Common.{[], ◌∷◌, ◌++◌, ◌∙◌, ap, sym, arith, length}
use Rattle.snap_parse.specs.Kinds.{Kind, Sign}
use Rattle.snap_parse.specs.Machine.{close_place, at_value, past_places, stuck, front, placed, follow, run}
use Rattle.snap_parse.specs.declared.cursor.TheConstants.{MAX_DEPTH}
use Rattle.snap_parse.proofs.Steps.{met, missed, refuses, refuses_kind}
use Rattle.snap_parse.proofs.Parts.{exits_places}
use Rattle.snap_parse.proofs.cursor.Parser.places.Goals as goal

pub returns-in_err-after-clause-reads : goal.returns-in_err-after-clause-reads
returns-in_err-after-clause-reads c = let end = c.args.self.now.end in
    exits_places MAX_DEPTH end c.args.tokens.now c.from_residual-in_err-after.result _ c.from_residual-in_err-after.ensures.1 (λ name k fits. refuses MAX_DEPTH end _ _ _
    (c.places.invariant.reads name k fits ∙ c.in_ok-value.ensures.reads (close_place name c.places.places.items k) fits)
    (refuses_kind MAX_DEPTH end (Kind.Sign Sign.CloseSquare) (past_places name (c.places.places.items ++ c.in_ok-value.value ∷ []) k) c.in_ok-value.behind.now _ c.in_err-after.ensures))

pub places-preserved : goal.places-preserved
places-preserved c = let end = c.args.self.now.end in record {
  shorter = omega (arith, c.places.invariant.shorter, c.in_ok-value.ensures.shortens, ap (λ x. length x) c.in_ok-after.ensures.0, ap (λ x. length x) c.in-Some.ensures.0);
  reads = λ name k fits. ((c.places.invariant.reads name k fits ∙ c.in_ok-value.ensures.reads (close_place name c.places.places.items k) fits)
      ∙ met MAX_DEPTH end (Kind.Sign Sign.CloseSquare) (past_places name (c.places.places.items ++ c.in_ok-value.value ∷ []) k) stuck c.in_ok-value.behind.now c.in_ok-after.after.now _ c.in_ok-after.ensures fits)
      ∙ (met MAX_DEPTH end (Kind.Sign Sign.OpenSquare) (at_value (close_place name (c.places.places.items ++ c.in_ok-value.value ∷ []) k)) (placed name (c.places.places.items ++ c.in_ok-value.value ∷ []) k (front c.in_ok-after.after.now)) c.in_ok-after.after.now c.in-Some.inside.now _ c.in-Some.ensures fits
      ∙ ap (λ x. run MAX_DEPTH end (at_value (close_place name x k)) c.in-Some.inside.now) (sym c.in_ok-push.ensures.items));
}

pub returns-in-None-clause-reads : goal.returns-in-None-clause-reads
returns-in-None-clause-reads c = λ name k fits. let end = c.args.self.now.end in
    ((c.places.invariant.reads name k fits ∙ c.in_ok-value.ensures.reads (close_place name c.places.places.items k) fits)
    ∙ met MAX_DEPTH end (Kind.Sign Sign.CloseSquare) (past_places name (c.places.places.items ++ c.in_ok-value.value ∷ []) k) stuck c.in_ok-value.behind.now c.in_ok-after.after.now _ c.in_ok-after.ensures fits)
    ∙ (missed MAX_DEPTH end (Kind.Sign Sign.OpenSquare) (at_value (close_place name (c.places.places.items ++ c.in_ok-value.value ∷ []) k)) (placed name (c.places.places.items ++ c.in_ok-value.value ∷ []) k (front c.in_ok-after.after.now)) c.in_ok-after.after.now c.in-None.ensures
    ∙ ap (λ x. follow MAX_DEPTH end (placed name x k (front c.in_ok-after.after.now)) c.in_ok-after.after.now) (sym c.in_ok-push.ensures.items))
