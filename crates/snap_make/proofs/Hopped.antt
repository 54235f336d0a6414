-- Next hops by pairs of switches.
use Rattle.std.proofs.Common.{◌≡◌, ◌≢◌, ℕ, suc, Bool, true, false, cond, List, [], ◌∷◌, map, Some, None, refl}
use Rattle.std.specs.Prelude.{slice_get, nat_eq, unwrap_or, ◌&&◌}
use Rattle.std.proofs.lemmas.Bool.{eqb-true, eqb-false, and_parts}
use Rattle.std.proofs.lemmas.Option.{none-some, same_Some}
use Rattle.snap_topology.specs.Tables.{Table, next_of}
use Rattle.snap_rows.specs.declared.tables.Hop.{Hop}
use Rattle.snap_rows.specs.Entries.{hop_in}
use Rattle.snap_make.specs.Pairs.{hop_entry, hop_for}
use Rattle.snap_make.proofs.Entries.{found}

pub hop_found : (hs : List Hop) (a b : ℕ) → hop_in hs a b ≡ unwrap_or (found (map hop_entry hs) a b) a
hop_found [] a b = refl
hop_found (h ∷ hs) a b = by (nat_eq h.from a && nat_eq h.target b) (hop_found hs a b)
  where
    by : (c : Bool) → hop_in hs a b ≡ unwrap_or (found (map hop_entry hs) a b) a → cond c h.next (hop_in hs a b) ≡ unwrap_or (cond c (Some h.next) (found (map hop_entry hs) a b)) a
    by true r = refl
    by false r = r

pub record HopAt (hs : List Hop) (a b : ℕ) : Type 0 where
  pub place : ℕ
  pub hop : Hop
  pub is : slice_get hs place ≡ Some hop
  pub from : hop.from ≡ a
  pub target : hop.target ≡ b

pub hop_at : (hs : List Hop) (a b x : ℕ) → found (map hop_entry hs) a b ≡ Some x → HopAt hs a b
hop_at [] a b x e = absurd (none-some x e)
hop_at (h ∷ hs) a b x e = by (nat_eq h.from a && nat_eq h.target b) refl e (hop_at hs a b x)
  where
    by : (c : Bool) → (nat_eq h.from a && nat_eq h.target b) ≡ c → cond c (Some h.next) (found (map hop_entry hs) a b) ≡ Some x → (found (map hop_entry hs) a b ≡ Some x → HopAt hs a b) → HopAt (h ∷ hs) a b
    by true same f rest = let parts = and_parts (nat_eq h.from a) (nat_eq h.target b) same in record { place = 0; hop = h; is = refl; from = eqb-true h.from a parts.0; target = eqb-true h.target b parts.1 }
    by false other f rest = let r = rest f in record { place = suc r.place; hop = r.hop; is = r.is; from = r.from; target = r.target }

pub hop_case : (routes : Table) (a b x : ℕ) → hop_for routes a b ≡ Some x → (a ≢ b) × (next_of routes a b ≡ x)
hop_case routes a b x e = by (nat_eq a b) refl e
  where
    by : (c : Bool) → nat_eq a b ≡ c → cond c None (Some (next_of routes a b)) ≡ Some x → (a ≢ b) × (next_of routes a b ≡ x)
    by true same f = absurd (none-some x f)
    by false other f = (eqb-false a b other, same_Some _ _ f)
