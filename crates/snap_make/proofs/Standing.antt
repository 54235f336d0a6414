-- Where planned rows stand.
use Rattle.std.proofs.Common.{◌≡◌, ℕ, suc, ◌<◌, ◌⊎◌, inl, inr, Bool, true, false, cond, not, List, [], ◌∷◌, Option, Some, None, refl, sym, ap, subst, arith, ◌&&◌}
use Rattle.std.specs.Prelude.{◌||◌, nat_eq, nat_le}
use Rattle.std.specs.List.{All, list_any}
use Rattle.std.proofs.lemmas.Bool.{eqb-true, and_parts, false≢true}
use Rattle.std.proofs.lemmas.Option.{none-some, same_Some}
use Rattle.snap_core.specs.declared.ports.PortAt.{PortAt}
use Rattle.snap_rows.specs.declared.tables.ArrayAt.{ArrayAt}
use Rattle.snap_rows.specs.declared.tables.Tables.{Tables}
use Rattle.snap_rows.specs.declared.tables.Row.{Row}
use Rattle.snap_rows.specs.declared.tables.Row.TheVariants.{Field, State, Go, Leaf as StageLeaf, Stop, Last}
use Rattle.snap_rows.specs.Entries.{rank_of, ranks, var_of}
use Rattle.snap_rows.specs.Handles.{is_field}
use Rattle.snap_faithful.specs.Planned.{has_port, has_ports, holds, stop_at, row_for}

-- a node, and no field row
abbrev pub no_field : Option Row → Bool
no_field None = false
no_field (Some b) = not (is_field b)

pub port_low : (ps : List PortAt) (s w : ℕ) → All (λ (p : PortAt). p.at < s) ps → list_any (λ (p : PortAt). nat_eq p.at w) ps ≡ true → w < s
port_low [] s w all e = absurd (false≢true e)
port_low (p ∷ ps) s w all e = by (nat_eq p.at w) refl e (port_low ps s w (λ i d l. all (suc i) d (omega (arith, l))))
  where
    by : (c : Bool) → nat_eq p.at w ≡ c → (c || list_any (λ (p : PortAt). nat_eq p.at w) ps) ≡ true → (list_any (λ (p : PortAt). nat_eq p.at w) ps ≡ true → w < s) → w < s
    by true same f rest = subst (λ x. x < s) (eqb-true p.at w same) (all 0 p (omega arith))
    by false other f rest = rest f

pub holder_low : (rs : List ArrayAt) (s w q : ℕ) → All (λ (a : ArrayAt). a.at < s) rs → list_any (λ (a : ArrayAt). nat_eq a.at w && nat_le a.rank q) rs ≡ true → w < s
holder_low [] s w q all e = absurd (false≢true e)
holder_low (a ∷ rs) s w q all e = by (nat_eq a.at w && nat_le a.rank q) refl e (holder_low rs s w q (λ i d l. all (suc i) d (omega (arith, l))))
  where
    by : (c : Bool) → (nat_eq a.at w && nat_le a.rank q) ≡ c → (c || list_any (λ (a : ArrayAt). nat_eq a.at w && nat_le a.rank q) rs) ≡ true → (list_any (λ (a : ArrayAt). nat_eq a.at w && nat_le a.rank q) rs ≡ true → w < s) → w < s
    by true same f rest = subst (λ x. x < s) (eqb-true a.at w (and_parts (nat_eq a.at w) (nat_le a.rank q) same).0) (all 0 a (omega arith))
    by false other f rest = rest f

module _ (n : Tables) (w : ℕ) (f : Bool) where
  -- a row is its node or `stop`, and its switch has a port or an array
  pub record Stands (c b : Row) : Type 0 where
    pub body : (b ≡ c) ⊎ (b ≡ Stop)
    pub has : (has_port n w ≡ true) ⊎ ((q : ℕ) × (holds n w q ≡ true))

  stops : (c b : Row) → stop_at n w f ≡ Some b → Stands c b
  stops c b e = by (has_port n w) refl e
    where
      by : (p : Bool) → has_port n w ≡ p → cond (p && f) (Some Stop) None ≡ Some b → Stands c b
      by true is g = on f g
        where
          on : (x : Bool) → cond x (Some Stop) None ≡ Some b → Stands c b
          on true h = record { body = inr (sym (same_Some Stop b h)); has = inl is }
          on false h = absurd (none-some b h)
      by false is g = absurd (none-some b g)

  held_or : (c b : Row) (q : ℕ) → cond (has_ports n && holds n w q) (Some c) (stop_at n w f) ≡ Some b → Stands c b
  held_or c b q e = by (has_ports n && holds n w q) refl e
    where
      by : (x : Bool) → (has_ports n && holds n w q) ≡ x → cond x (Some c) (stop_at n w f) ≡ Some b → Stands c b
      by true is g = record { body = inl (sym (same_Some c b g)); has = inr (q, (and_parts (has_ports n) (holds n w q) is).1) }
      by false is g = stops c b g

  port_or : (c b : Row) (o : Option Row) → (o ≡ Some b → Stands c b) → cond (has_port n w) (Some c) o ≡ Some b → Stands c b
  port_or c b o rest e = by (has_port n w) refl e
    where
      by : (x : Bool) → has_port n w ≡ x → cond x (Some c) o ≡ Some b → Stands c b
      by true is g = record { body = inl (sym (same_Some c b g)); has = inl is }
      by false is g = rest g

  pub stands : (c b : Row) → row_for n w f (Some c) ≡ Some b → Stands c b
  stands (Field t y z) b e = port_or (Field t y z) b None (λ g. absurd (none-some b g)) e
  stands (State t y z) b e = held_or (State t y z) b (rank_of n (var_of t)) e
  stands (Last us os) b e = by (nat_eq (ranks n) 0) e
    where
      by : (x : Bool) → cond (cond x (has_port n w) (has_ports n && holds n w (ranks n))) (Some (Last us os)) (stop_at n w f) ≡ Some b → Stands (Last us os) b
      by true g = port_or (Last us os) b (stop_at n w f) (stops (Last us os) b) g
      by false g = held_or (Last us os) b (ranks n) g
  stands (Go x) b e = absurd (none-some b e)
  stands (StageLeaf ss os) b e = absurd (none-some b e)
  stands Stop b e = absurd (none-some b e)

  -- a field row doesn't mind the front
  pub front_same : (o : Option Row) → row_for n w f o ≡ row_for n w (f && no_field o) o
  front_same None = refl
  front_same (Some (Field t y z)) = refl
  front_same (Some (State t y z)) = ap (λ x. cond (has_ports n && holds n w (rank_of n (var_of t))) (Some (State t y z)) (cond (has_port n w && x) (Some Stop) None)) (and_true f)
    where
      and_true : (b : Bool) → b ≡ (b && true)
      and_true true = refl
      and_true false = refl
  front_same (Some (Last us os)) = ap (λ x. cond (cond (nat_eq (ranks n) 0) (has_port n w) (has_ports n && holds n w (ranks n))) (Some (Last us os)) (cond (has_port n w && x) (Some Stop) None)) (and_true f)
    where
      and_true : (b : Bool) → b ≡ (b && true)
      and_true true = refl
      and_true false = refl
  front_same (Some (Go x)) = refl
  front_same (Some (StageLeaf ss os)) = refl
  front_same (Some Stop) = refl
