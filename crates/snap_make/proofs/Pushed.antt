-- Rows one after another.
use Rattle.std.proofs.Common.{◌≡◌, ℕ, zero, suc, ◌+◌, Bool, true, false, cond, List, [], ◌∷◌, ◌++◌, map, length, Option, Some, None, refl, sym, ap, ◌∙◌, arith, append_assoc, append-nil}
use Rattle.std.specs.Prelude.{◌||◌, ◌&&◌, nat_eq, not, is_some}
use Rattle.std.specs.List.{list_any}
use Rattle.std.proofs.lemmas.Bool.{ne_eqb, false≢true}
use Rattle.std.proofs.lemmas.List.{map-append}
use Rattle.snap_core.specs.declared.ports.PortAt.{PortAt}
use Rattle.snap_rows.specs.declared.tables.Row.{Row}
use Rattle.snap_rows.specs.declared.tables.Row.TheVariants.{Field, State, Go, Leaf as StageLeaf, Stop, Last}
use Rattle.snap_rows.specs.declared.tables.Tables.{Tables}
use Rattle.snap_rows.specs.Entries.{rank_of, ranks, var_of}
use Rattle.snap_faithful.specs.Planned.{has_port, stop_at, row_for}
use Rattle.snap_make.specs.declared.sites.Site.{Site}
use Rattle.snap_make.specs.Pairs.{Entry, one_entry, at_switch, at_switches}
use Rattle.snap_make.specs.Sites.{IsSite, is_within, is_visited, has_leaves}

-- entries of a switch, and those of one more number
pub at_switch_more : {X : Type 0} (g : ℕ → Option X) (old before after : List (Entry X)) (w n : ℕ) → before ≡ old ++ at_switch g w n → after ≡ before ++ one_entry w n (g n) → after ≡ old ++ at_switch g w (n + 1)
at_switch_more g old before after w n so_far pushed =
    pushed ∙ (λ i. so_far i ++ one_entry w n (g n)) ∙ append_assoc old (at_switch g w n) (one_entry w n (g n)) ∙ ap (λ k. old ++ at_switch g w k) one_more
  where
    one_more : suc n ≡ n + 1
    one_more = omega arith

-- entries of switches, and those of one more switch
pub at_switches_more : {X : Type 0} (g : ℕ → ℕ → Option X) (before after : List (Entry X)) (at w n : ℕ) → at ≡ w → before ≡ at_switches g w n → after ≡ before ++ at_switch (g at) at n → after ≡ at_switches g (w + 1) n
at_switches_more g before after at w n same so_far pushed =
    pushed ∙ (λ i. so_far i ++ at_switch (g (same i)) (same i) n) ∙ ap (λ k. at_switches g k n) one_more
  where
    one_more : suc w ≡ w + 1
    one_more = omega arith

module _ {Y : Type 0} (f : Y → Entry Row) (rows old : List Y) (g : ℕ → Option Row) (w n : ℕ) (so_far : map f rows ≡ map f old ++ at_switch g w n) where
  one_later : (es : List (Entry Row)) → one_entry w n (g n) ≡ es → map f rows ++ es ≡ map f old ++ at_switch g w (n + 1)
  one_later es e = (λ i. so_far i ++ sym e i) ∙ append_assoc (map f old) (at_switch g w n) (one_entry w n (g n)) ∙ ap (λ k. map f old ++ at_switch g w k) one_more
    where
      one_more : suc n ≡ n + 1
      one_more = omega arith

  pub with_row : (r : Y) (b : Row) → f r ≡ (w, n, b) → g n ≡ Some b → map f (rows ++ r ∷ []) ≡ map f old ++ at_switch g w (n + 1)
  with_row r b e is = map-append f rows (r ∷ []) ∙ one_later (f r ∷ []) (ap (one_entry w n) is ∙ (λ i. sym e i ∷ []))

  pub without_row : g n ≡ None → map f rows ≡ map f old ++ at_switch g w (n + 1)
  without_row is = sym (append-nil (map f rows)) ∙ one_later [] (ap (one_entry w n) is)

pub some_port : (ps : List PortAt) → list_any (λ (p : PortAt). true) ps ≡ not (nat_eq (length ps) 0)
some_port [] = refl
some_port (p ∷ ps) = sym (ap not (ne_eqb (suc (length ps)) 0 (λ e. (omega (arith, e)))))

-- ---- a switch that isn't used has no rows
pub no_entries : {X : Type 0} (g : ℕ → Option X) → ((n : ℕ) → g n ≡ None) → (w n : ℕ) → at_switch g w n ≡ []
no_entries g none w zero = refl
no_entries g none w (suc n) = (λ i. no_entries g none w n i ++ one_entry w n (none n i))

module _ (t : Tables) (s : Site) (site : IsSite t s) (is_unused : not (s.port || is_some s.least) ≡ true) where
  unused : (s.port || is_some s.least) ≡ false
  unused = by (s.port || is_some s.least) is_unused
    where
      by : (b : Bool) → not b ≡ true → b ≡ false
      by true e = absurd (false≢true e)
      by false e = refl

  no_port : has_port t s.at ≡ false
  no_port = sym site.port ∙ left s.port (is_some s.least) unused
    where
      left : (a b : Bool) → (a || b) ≡ false → a ≡ false
      left false b e = refl
      left true b e = e

  never : (q : ℕ) → is_visited t s.at q ≡ false
  never q = sym (site.least q) ∙ by s.least s.port unused
    where
      by : (o : Option ℕ) (a : Bool) → (a || is_some o) ≡ false → is_within o q ≡ false
      by None a e = refl
      by (Some r) true e = absurd (false≢true (sym e))
      by (Some r) false e = absurd (false≢true (sym e))

  no_stop : (f : Bool) → stop_at t s.at f ≡ None
  no_stop f = ap (λ c. cond (c && f) (Some Stop) None) no_port

  no_leaves : has_leaves t s.at ≡ false
  no_leaves = by (nat_eq (ranks t) 0)
    where
      by : (c : Bool) → cond c (has_port t s.at) (is_visited t s.at (ranks t)) ≡ false
      by true = no_port
      by false = never (ranks t)

  pub no_row : (f : Bool) (o : Option Row) → row_for t s.at f o ≡ None
  no_row f None = refl
  no_row f (Some (Field test y z)) = ap (λ c. cond c (Some (Field test y z)) None) no_port
  no_row f (Some (State test y z)) = ap (λ c. cond c (Some (State test y z)) (stop_at t s.at f)) (never (rank_of t (var_of test))) ∙ no_stop f
  no_row f (Some (Last us os)) = ap (λ c. cond c (Some (Last us os)) (stop_at t s.at f)) no_leaves ∙ no_stop f
  no_row f (Some (Go x)) = refl
  no_row f (Some (StageLeaf ss os)) = refl
  no_row f (Some Stop) = refl
