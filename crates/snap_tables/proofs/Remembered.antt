-- Rows that are remembered stand where they are when more rows come behind them.
use Rattle.std.proofs.Common.{ℕ, List, [], ◌∷◌, ◌++◌, length, sym, subst, arith}
use Rattle.std.proofs.Math.ListN.{get_or-append}
use Rattle.std.proofs.Math.Seq.{get_or-append_seam}
use Rattle.std.proofs.lemmas.List.{length-append}
use Rattle.snap_rows.specs.declared.tables.ArrayAt.{ArrayAt}
use Rattle.snap_rows.specs.declared.tables.Row.TheVariants as row
use Rattle.snap_rows.specs.declared.tables.RowAt.{RowAt}
use Rattle.snap_tables.specs.Known.{AreSaid, IsSaidAt}
use Rattle.snap_tables.specs.Rows.{IsRowSaid}
use Rattle.snap_tables.specs.declared.known.Said.{Said}
use Rattle.snap_tables.specs.declared.piece.Counts.{Counts}

-- any row, for places that have one
abbrev pub none : RowAt
none = record { at = 0; number = 0; row = row.Stop }

module _ (v : ℕ) (k : Counts) (ranked : List ArrayAt) (rows : List RowAt) where
  said_still : (more : List RowAt) (words : List (List ℕ)) (i : ℕ) → IsSaidAt v k ranked rows words i → IsSaidAt v k ranked (rows ++ more) words i
  said_still more words i h = record {
    placed = omega (arith, h.placed, length-append rows more);
    said = subst (λ (r : RowAt). IsRowSaid v k ranked words r.row) (sym (get_or-append rows more none i h.placed)) h.said;
  }

  pub said_more : (more : List RowAt) (said : List Said) → AreSaid v k ranked rows said → AreSaid v k ranked (rows ++ more) said
  said_more more said all i d l = said_still more _ _ (all i d l)

  -- the row that comes next stands behind these
  pub said_last : (words : List (List ℕ)) (r : RowAt) → IsRowSaid v k ranked words r.row → IsSaidAt v k ranked (rows ++ r ∷ []) words (length rows)
  said_last words r is = record {
    placed = omega (arith, length-append rows (r ∷ []));
    said = subst (λ (s : RowAt). IsRowSaid v k ranked words s.row) (sym (get_or-append_seam rows r [] none)) is;
  }
