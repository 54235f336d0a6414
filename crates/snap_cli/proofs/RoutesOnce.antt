-- A file has one topology with routes and one text of these, or one reason why it has none.
use Rattle.std.proofs.Common.{◌≡◌, ◌⊎◌, ℕ, List, Result, Ok, Err, refl, sym, ◌∙◌, ap, inl, inr}
use Rattle.snap_cli.specs.declared.refusal.Refusal.TheVariants.{Unreachable}
use Rattle.snap_cli.specs.Routes.{HasNoRoutes, IsTextOf}
use Rattle.snap_cli.proofs.Shared.{AreRoutes, IsUnreachable, Refusal, routes_text, Table, Topology, TopologyOf}
use Rattle.snap_cli.proofs.OneTable.{apart_once, none_apart, same_routes}
use Rattle.snap_cli.proofs.OneTopology.{topology_once}
use Rattle.snap_cli.proofs.Pipeline.{After, Agree, Alike, IsSameOutcome, alike, cases_once, next_once, refused_alike}

-- a topology that was read has routes, or two of its switches are apart
abbrev Searched : Topology → Result Topology Refusal → Type 0
Searched t r =
    (((table : Table) × AreRoutes t table) × (r ≡ Ok t))
    ⊎ ((a : ℕ) × (b : ℕ) × IsUnreachable t a b × (r ≡ Err (Unreachable t.switches a b)))

searched_once : (t : Topology) → Agree ◌≡◌ (Searched t) (Searched t)
searched_once t r s =
    cases_once (λ h k. h.1 ∙ sym k.1) (λ h k. none_apart t h.0.0 k.0 k.1 h.0.1 k.2) (λ h k. none_apart t h.0.0 k.0 k.1 h.0.1 k.2)
    (λ h k. let pair = apart_once t h.0 h.1 k.0 k.1 h.2 k.2 in h.3 ∙ ((λ i. Err (Unreachable t.switches (pair.0 i) (pair.1 i))) ∙ sym k.3))

module _ (file : List ℕ) where
  -- the topology of a file, which has routes, or why there is none
  abbrev pub Routed : Result Topology Refusal → Type 0
  Routed (Ok t) = (table : Table) × TopologyOf file (Ok t) × AreRoutes t table
  Routed (Err e) = HasNoRoutes file e

  abbrev Reads : Result Topology Refusal → Type 0
  Reads = After (TopologyOf file) (λ e r. r ≡ Err e) Searched

  reads_once : Agree ◌≡◌ Reads Reads
  reads_once = next_once (topology_once file) _ _ _ _ (λ e a b h k. h ∙ sym k) (λ t is. searched_once t)

  searched : (r : Result Topology Refusal) → Routed r → Reads r
  searched (Ok t) h = inr (t, h.1, inl ((h.0, h.2), refl))
  searched (Err (Unreachable switches a b)) h = inr (h.0, h.1, inr (a, b, h.2, ap (λ names. Err (Unreachable names a b)) h.3))
  searched (Err e) h = inl (e, h, refl)

  pub routed_once : Agree (Alike ◌≡◌) Routed Routed
  routed_once = alike (λ r s h k. reads_once r s (searched r h) (searched s k))

  -- the text of its routes, or why there is none
  abbrev pub GivesRoutes : Result (List ℕ) Refusal → Type 0
  GivesRoutes = After Routed (λ e r. r ≡ Err e) (λ t r. (table : Table) × AreRoutes t table × (r ≡ Ok (routes_text t.switches table)))

  pub routes_once : Agree (IsSameOutcome ◌≡◌) GivesRoutes GivesRoutes
  routes_once = next_once routed_once _ _ _ _ (refused_alike _) (λ t is a b h k. rw h.2 (rw k.2 (same_routes t h.0 k.0 h.1 k.1)))

  pub no_routes : (e : Refusal) → HasNoRoutes file e → GivesRoutes (Err e)
  no_routes e h = inl (e, h, refl)

  pub routes_text_of : (text : List ℕ) → IsTextOf file text → GivesRoutes (Ok text)
  routes_text_of text (t, table, h, r, is) = inr (t, (table, h, r), (table, r, ap (λ x. Ok x) is))
