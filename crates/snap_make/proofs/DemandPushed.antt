-- Which row a switch has for a number.
use Rattle.std.proofs.Common.{◌≡◌, ℕ, ◌+◌, Bool, true, false, cond, List, length, Some, None, ap, ◌∙◌}
use Rattle.std.specs.Prelude.{nat_eq, option_map, slice_get, unwrap_or}
use Rattle.snap_rows.specs.declared.tables.Row.{Row}
use Rattle.snap_rows.specs.declared.tables.Row.TheVariants as row
use Rattle.snap_rows.specs.declared.tables.Tables.{Tables}
use Rattle.snap_rows.specs.Entries.{var_of}
use Rattle.snap_make.specs.declared.switches.Switches.{Switches}
use Rattle.snap_make.specs.Marks.{has_switch}
use Rattle.snap_faithful.specs.OnDemand.{place_of}
use Rattle.snap_make.specs.Demanded.{body_on, demanded, gone, place_on, with_gone}
use Rattle.snap_make.proofs.Behind.{own_body, body_behind}

module _ (t : Tables) (bodies : List Row) (marks : List Switches) (w n : ℕ) (m : Switches) (mark : slice_get marks n ≡ Some m) where
  pub row_there : (b : Row) → slice_get bodies n ≡ Some b → has_switch m w ≡ true → demanded t bodies marks w n ≡ Some (body_on (place_of t) w b)
  row_there b body is =
      (λ i. cond (unwrap_or (option_map (λ s. has_switch s w) (mark i)) false) (option_map (body_on (place_of t) w) (body i)) None)
      ∙ ap (λ c. cond c (Some (body_on (place_of t) w b)) None) is

  pub none_there : has_switch m w ≡ false → demanded t bodies marks w n ≡ None
  none_there is =
      (λ i. cond (unwrap_or (option_map (λ s. has_switch s w) (mark i)) false) (option_map (body_on (place_of t) w) (slice_get bodies n)) None)
      ∙ ap (λ c. cond c (option_map (body_on (place_of t) w) (slice_get bodies n)) None) is

-- where its body stands
module _ (place : ℕ → ℕ) (w : ℕ) (bodies : List Row) (n : ℕ) where
  pub placed_on : (b : Row) → slice_get bodies n ≡ Some b → slice_get (with_gone place bodies) (place_on place w b n (length bodies + n)) ≡ Some (body_on place w b)
  placed_on (row.State test y z) at = by (nat_eq (place (var_of test)) w)
    where
      by : (c : Bool) → slice_get (with_gone place bodies) (cond c n (length bodies + n)) ≡ Some (cond c (row.State test y z) (row.Go (place (var_of test))))
      by true = own_body (gone place) bodies n (row.State test y z) at
      by false = body_behind (gone place) bodies n (row.State test y z) at
  placed_on (row.Field test y z) at = own_body (gone place) bodies n (row.Field test y z) at
  placed_on (row.Go x) at = own_body (gone place) bodies n (row.Go x) at
  placed_on (row.Leaf ss os) at = own_body (gone place) bodies n (row.Leaf ss os) at
  placed_on row.Stop at = own_body (gone place) bodies n row.Stop at
  placed_on (row.Last us os) at = own_body (gone place) bodies n (row.Last us os) at
