-- All numbered nodes are nodes of tables on demand.
use Rattle.std.proofs.Common.{◌≡◌, ◌≢◌, ℕ, zero, suc, ◌<◌, ◌⊎◌, inl, inr, Bool, true, false, cond, Option, Some, None, refl, sym, ap, subst, ◌∙◌, arith}
use Rattle.std.specs.Prelude.{nat_eq, IsSome}
use Rattle.std.proofs.lemmas.Bool.{eqb-false, false≢true}
use Rattle.std.proofs.lemmas.Option.{slice_get-get_or, same_Some}
use Rattle.snap_rows.specs.declared.tables.Tables.{Tables}
use Rattle.snap_rows.specs.declared.tables.Row.{Row}
use Rattle.snap_rows.specs.declared.tables.Row.TheVariants.{Field, State, Go, Leaf, Stop, Last}
use Rattle.snap_rows.specs.Entries.{row_at, node_of, var_of, is_node}
use Rattle.snap_rows.specs.Form.{IsWellFormed}
use Rattle.snap_rows.specs.Ways.{Reached, port, lead}
use Rattle.snap_rows.proofs.Rows.{node_entry, row_form}
use Rattle.snap_rows.specs.Leads.{IsNumberAfter}
use Rattle.snap_faithful.specs.Planned.{IsNodeKind, AreHops}
use Rattle.snap_faithful.specs.OnDemand.{staged, row_on, place_of, HasNodes, AreOnDemand}
use Rattle.snap_faithful.proofs.Stages.{stages_all}
use Rattle.snap_faithful.proofs.Plain.{unstaged}
use Rattle.snap_faithful.proofs.StagedPlanning.{is_node_of, state_there}

-- the node of version 1 is the one of version 2 with stages
pub unstaged_staged : (at : ℕ → ℕ) (c : Row) → IsNodeKind c → unstaged (staged at c) ≡ c
unstaged_staged at (Field test y z) kind = refl
unstaged_staged at (State test y z) kind = refl
unstaged_staged at (Last us os) kind = ap (λ l. Last l os) (stages_all at us)
unstaged_staged at (Go x) kind = absurd kind
unstaged_staged at (Leaf ss os) kind = absurd kind
unstaged_staged at Stop kind = absurd kind

staged_node : (at : ℕ → ℕ) (c : Row) → IsNodeKind c → is_node (staged at c) ≡ true
staged_node at (Field test y z) kind = refl
staged_node at (State test y z) kind = refl
staged_node at (Last us os) kind = refl
staged_node at (Go x) kind = absurd kind
staged_node at (Leaf ss os) kind = absurd kind
staged_node at Stop kind = absurd kind

module _ (t : Tables) (nodes : ℕ → Option Row) (form : IsWellFormed t) (one : t.version ≡ 1) (good : HasNodes t nodes) (hops : AreHops t) (plan : AreOnDemand t nodes) where
  -- a number with a row anywhere has its node somewhere
  node_here : (w n : ℕ) (c : Row) → nodes n ≡ Some c → IsSome (row_at t w n) → (x : ℕ) × (row_at t x n ≡ Some (staged (place_of t) c))
  node_here w n c node is = by (row_at t w n) refl is
    where
      of : (c : Row) → nodes n ≡ Some c → row_at t w n ≡ Some (row_on (place_of t) w c) → (x : ℕ) × (row_at t x n ≡ Some (staged (place_of t) c))
      of (Field test y z) node row = (w, row)
      of (State test y z) node row = stands (nat_eq (place_of t (var_of test)) w) refl row
        where
          stands : (b : Bool) → nat_eq (place_of t (var_of test)) w ≡ b → row_at t w n ≡ Some (cond b (State test y z) (Go (place_of t (var_of test)))) → (x : ℕ) × (row_at t x n ≡ Some (State test y z))
          stands true e row = (w, row)
          stands false e row =
              let apart : place_of t (var_of test) ≢ w = eqb-false (place_of t (var_of test)) w e in (
                place_of t (var_of test),
                state_there t nodes form one good hops plan (suc (hops.distance w (place_of t (var_of test)))) w n (place_of t (var_of test)) test y z (omega arith)
                    (row_form t form w n (Go (place_of t (var_of test))) row).1 (λ same. apart (sym same)) node refl row,
              )
      of (Last us os) node row = (w, row)
      of (Go x) node row = absurd (good.kinds n (Go x) node)
      of (Leaf ss os) node row = absurd (good.kinds n (Leaf ss os) node)
      of Stop node row = absurd (good.kinds n Stop node)

      by : (o : Option Row) → row_at t w n ≡ o → IsSome o → (x : ℕ) × (row_at t x n ≡ Some (staged (place_of t) c))
      by None e is = absurd (false≢true is)
      by (Some b) e is =
          let d = plan.bodies w n b e in
          of c node (e ∙ ap Some (d.2 ∙ ap (row_on (place_of t) w) (same_Some d.0 c (sym d.1 ∙ node))))

  -- where anything is reached there is a port
  a_port : {w n : ℕ} → Reached t w n → (x : ℕ) × IsSome (row_at t x 0)
  a_port (port {p = p} {w = w} c) = (w, plan.ports c.0 (record { port = p; at = w }) (slice_get-get_or t.ports c.0 (record { port = p; at = w }) c.1 ∙ ap Some c.2))
  a_port (lead before row to) = a_port before

  module _ (parents : (n : ℕ) (b : Row) → nodes n ≡ Some b → (n ≡ 0) ⊎ ((m : ℕ) × (c : Row) × (nodes m ≡ Some c) × IsNumberAfter c n)) where
    on_ways : (w m n : ℕ) (c : Row) → nodes m ≡ Some c → row_at t w m ≡ Some (staged (place_of t) c) → IsNumberAfter c n → IsSome (row_at t w n)
    on_ways w m n (Field test y z) node row way = plan.leads w m w n (Field test y z) row (refl, way)
    on_ways w m n (State test y z) node row way = plan.leads w m w n (State test y z) row (inl (refl, way))
    on_ways w m n (Last us os) node row way = absurd way
    on_ways w m n (Go x) node row way = absurd way
    on_ways w m n (Leaf ss os) node row way = absurd way
    on_ways w m n Stop node row way = absurd way

    shown : (fuel n : ℕ) (b : Row) → n < fuel → nodes n ≡ Some b → (x : ℕ) × IsSome (row_at t x 0) → (w : ℕ) × (row_at t w n ≡ Some (staged (place_of t) b))
    shown zero n b l node first = absurd (omega (arith, l))
    shown (suc fuel) n b l node first = by (parents n b node) (λ m c low is. shown fuel m c low is first)
      where
        by : (n ≡ 0) ⊎ ((m : ℕ) × (c : Row) × (nodes m ≡ Some c) × IsNumberAfter c n) → ((m : ℕ) (c : Row) → m < fuel → nodes m ≡ Some c → (w : ℕ) × (row_at t w m ≡ Some (staged (place_of t) c)))
            → (w : ℕ) × (row_at t w n ≡ Some (staged (place_of t) b))
        by (inl root) go = node_here first.0 n b node (subst (λ v. IsSome (row_at t first.0 v)) (sym root) first.1)
        by (inr x) go =
            let low = (good.ways x.0 n x.1 x.2 x.3).0 in
            let r = go x.0 x.1 (omega (arith, low, l)) x.2 in
            node_here r.0 n b node (on_ways r.0 x.0 n x.1 x.2 r.1 x.3)

    -- where one number has a node all have theirs
    pub all_shown : (j : ℕ) (c : Row) → node_of t j ≡ Some c → (n : ℕ) (b : Row) → nodes n ≡ Some b → node_of t n ≡ Some (staged (place_of t) b)
    all_shown j c some n b node =
        let i = node_entry t.rows j c some in
        let first = a_port (plan.least i.entry.at i.entry.number i.entry.row (plan.once i.place i.entry i.is)) in
        let r = shown (suc n) n b (omega arith) node first in
        is_node_of t nodes form one good hops plan r.0 n (staged (place_of t) b) r.1 (staged_node (place_of t) b (good.kinds n b node))
