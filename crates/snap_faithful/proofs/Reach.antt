-- Distances of a topology, as next hops of tables of version 1 see them; and owners of arrays.
use Rattle.std.proofs.Common.{◌≡◌, ◌≢◌, ℕ, ◌<◌, length, Option, Some, None, refl, ap, subst}
use Rattle.std.specs.Prelude.{slice_get, option_map}
use Rattle.std.proofs.lemmas.Option.{none-some, same_Some}
use Rattle.snap_topology.specs.declared.topology.Topology.{Topology}
use Rattle.snap_topology.specs.Form as topo
use Rattle.snap_topology.specs.Walks.{Linked, IsNext, IsDiameter}
use Rattle.snap_topology.specs.Tables.{Table, AreRoutes}
use Rattle.snap_rows.specs.declared.tables.ArrayAt.{ArrayAt}
use Rattle.snap_rows.specs.declared.tables.Tables.{Tables}
use Rattle.snap_rows.specs.declared.tables.Row.TheVariants.{Leaf}
use Rattle.snap_rows.specs.Entries.{owner_of, next}
use Rattle.snap_rows.specs.Form.{IsWellFormed, IsArrayWellFormed, IsLeafStageWellFormed, array_count, switch_count}
use Rattle.snap_rows.proofs.Rows.{nodes, All-get}
use Rattle.snap_rows.proofs.Later.{var_array}
use Rattle.snap_faithful.proofs.Far.{far, distances}
use Rattle.snap_faithful.proofs.Hops.{HasReach}

pub owner_is_below : (t : Tables) → IsWellFormed t → (v x : ℕ) → owner_of t v ≡ Some x → x < switch_count t
owner_is_below t form v x e = by (slice_get t.arrays v) refl e
  where
    by : (o : Option ArrayAt) → slice_get t.arrays v ≡ o → option_map (λ (a : ArrayAt). a.at) o ≡ Some x → x < switch_count t
    by None is e = absurd (none-some x e)
    by (Some a) is e = subst (λ y. y < switch_count t) (same_Some a.at x e) (All-get (IsArrayWellFormed t) t.arrays v a form.arrays is).at

pub reach : (topology : Topology) → topo.IsWellFormed topology → (routes : Table) → AreRoutes topology routes → (t : Tables) → IsWellFormed t → switch_count t ≡ length topology.switches
    → ((a b : ℕ) → a < length topology.switches → b < length topology.switches → a ≢ b → IsNext (Linked topology.links) a b (next t a b))
    → (d : ℕ) → IsDiameter (Linked topology.links) (length topology.switches) d → HasReach t (far routes (length topology.switches)) d
reach topology form routes paths t inform count hops d diameter =
    let has = distances topology form routes paths t inform count hops d diameter in record {
      most = has.most;
      next = has.next;
      owners = owner_is_below t inform;
      stages = λ n i ss os s node found. (All-get (IsLeafStageWellFormed t) ss i s (nodes t inform n (Leaf ss os) node).0.2 found).at;
      ports = has.ports;
    }

-- each array has an owner
pub has_owner : (t : Tables) (v : ℕ) → v < array_count t → (w : ℕ) × (owner_of t v ≡ Some w) × (owner_of t v ≡ Some w)
has_owner t v within = let a = var_array t v within in let e = ap (option_map (λ (a : ArrayAt). a.at)) a.1 in (a.0.at, e, e)
