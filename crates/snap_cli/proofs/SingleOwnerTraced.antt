-- What is compiled onto one switch and then traced by a schedule is what one big switch does in the order of the forks.
use Rattle.std.proofs.Common.{◌≡◌, ℕ, ◌≤◌, List, [], ◌∷◌, Option, Some, None, length, map, refl, sym, subst, ◌∙◌, inr, arith}
use Rattle.std.specs.Prelude.{IfSome}
use Rattle.std.proofs.lemmas.List.Elements.{All-contains}
use Rattle.snap_core.specs.declared.policy.Update.{Update}
use Rattle.snap_rows.specs.declared.tables.ArrayAt.{ArrayAt}
use Rattle.snap_rows.specs.declared.tables.Row.{Row}
use Rattle.snap_rows.specs.declared.tables.Row.TheVariants.{Leaf}
use Rattle.snap_rows.specs.declared.tables.RowAt.{RowAt}
use Rattle.snap_rows.specs.declared.tables.Rule.TheVariants.{Owner}
use Rattle.snap_rows.specs.declared.tables.Spot.TheVariants as spot
use Rattle.snap_rows.specs.declared.tables.Stage.{Stage as LeafStage}
use Rattle.snap_rows.specs.Entries.{Parts, node_of, owner_of}
use Rattle.snap_rows.specs.Form.{IsLeafStageWellFormed}
use Rattle.snap_rows.specs.Happenings.{commits}
use Rattle.snap_rows.specs.SingleOwner.{Chain, IsSingleOwner, IsSingleOwner1, field, leaf, state}
use Rattle.snap_rows.specs.Rules.{IsValid, RowKeeps}
use Rattle.std.proofs.lemmas.Option.{same_Some}
use Rattle.snap_rows.proofs.Rows.{All-get, node_entry, nodes}
use Rattle.snap_cli.specs.Headline.{SingleOwnerPlacementsTraceInForkOrder, SingleOwnerTablesTraceInForkOrder, TracesByOrder}
use Rattle.snap_cli.proofs.Shared.{All, All-cons, All-head, All-nil, All-tail, AnswersExactly, CompilesExactly, file_of, IsWellFormed, option_map, schedule, slice_get, Tables}
use Rattle.snap_cli.proofs.Traced.{compiled, same_tables}

all_at : (arrays : List ArrayAt) (w : ℕ) → All (λ x. x ≡ w) (map (λ (a : ArrayAt). a.at) arrays) → All (λ (a : ArrayAt). a.at ≡ w) arrays
all_at [] w all = All-nil (λ (a : ArrayAt). a.at ≡ w)
all_at (a ∷ more) w all =
    All-cons (λ (a : ArrayAt). a.at ≡ w) a more (All-head (λ x. x ≡ w) a.at (map (λ (a : ArrayAt). a.at) more) all) (all_at more w (All-tail (λ x. x ≡ w) a.at (map (λ (a : ArrayAt). a.at) more) all))

-- ---- valid tables whose arrays all stand at one switch
module _ (t : Tables) (w : ℕ) (at : All (λ (a : ArrayAt). a.at ≡ w) t.arrays) where
  owner_at : (v x : ℕ) → owner_of t v ≡ Some x → x ≡ w
  owner_at v x own = by (slice_get t.arrays v) refl own
    where
      by : (o : Option ArrayAt) → slice_get t.arrays v ≡ o → option_map (λ (a : ArrayAt). a.at) o ≡ Some x → x ≡ w
      by None is e = absurd (cc)
      by (Some a) is e = sym (same_Some a.at x e) ∙ All-get (λ (a : ArrayAt). a.at ≡ w) t.arrays v a at is

  -- a stage has an update
  turn_at : (s : LeafStage) → IsLeafStageWellFormed t s → All (λ (u : Update). owner_of t u.var ≡ Some s.at) s.ups → s.at ≡ w
  turn_at s form own = by s.ups form.some own
    where
      by : (us : List Update) → 1 ≤ length us → All (λ (u : Update). owner_of t u.var ≡ Some s.at) us → s.at ≡ w
      by [] some own = absurd (omega (arith, some))
      by (u ∷ us) some own = owner_at u.var s.at (All-head (λ (u : Update). owner_of t u.var ≡ Some s.at) u us own)

  abbrev OwnsTurn : LeafStage → Type 0
  OwnsTurn s = All (λ (u : Update). owner_of t u.var ≡ Some s.at) s.ups

  turns_at : (ss : List LeafStage) → All (IsLeafStageWellFormed t) ss → All OwnsTurn ss → All (λ x. x ≡ w) (map (λ (s : LeafStage). s.at) ss)
  turns_at [] form own = All-nil (λ x. x ≡ w)
  turns_at (s ∷ ss) form own =
      All-cons (λ x. x ≡ w) s.at (map (λ (s : LeafStage). s.at) ss) (turn_at s (All-head (IsLeafStageWellFormed t) s ss form) (All-head OwnsTurn s ss own))
      (turns_at ss (All-tail (IsLeafStageWellFormed t) s ss form) (All-tail OwnsTurn s ss own))

  module _ (form : IsWellFormed t) (valid : IsValid t) (one : t.version ≡ 1) where
    leaf_at : (n : ℕ) (ss : List LeafStage) (os : List Parts) → node_of t n ≡ Some (Leaf ss os) → All (λ x. x ≡ w) (map (λ (s : LeafStage). s.at) ss)
    leaf_at n ss os node =
        let i = node_entry t.rows n (Leaf ss os) node in
        let there = subst (λ o. IfSome o (λ (r : RowAt). RowKeeps t Owner r.at r.number r.row)) i.is (valid Owner (spot.Row i.place)) in
        let keeps = subst (λ (b : Row). RowKeeps t Owner i.entry.at i.entry.number b) i.body there in
        turns_at ss (nodes t form n (Leaf ss os) node).0.2 (keeps one)

    chain_at : {n : ℕ} {ws : List ℕ} → Chain t n ws → All (λ x. x ≡ w) ws
    chain_at (field node way rest) = chain_at rest
    chain_at (state {w = x} {ws = ws} node own way rest) = All-cons (λ y. y ≡ w) x ws (owner_at _ x own) (chain_at rest)
    chain_at (leaf {n = n} {ss = ss} {os = os} node) = leaf_at n ss os node

    single_owner_one : IsSingleOwner1 t
    single_owner_one ws chain v x here there = All-contains (λ y. y ≡ w) ws v (chain_at chain) here ∙ sym (All-contains (λ y. y ≡ w) ws x (chain_at chain) there)

-- they are single-owner, of either version
placed_at_one : (t : Tables) (places : List ℕ) → IsWellFormed t → IsValid t → map (λ (a : ArrayAt). a.at) t.arrays ≡ places → (w : ℕ) × All (λ x. x ≡ w) places → IsSingleOwner t
placed_at_one t places form valid owners one =
    let at = all_at t.arrays one.0 (subst (All (λ x. x ≡ one.0)) (sym owners) one.1) in
    (λ first. single_owner_one t one.0 at form valid first, λ _. (one.0, at))

pub single_owner_tables : ((lines : List ℕ) → TracesByOrder (schedule lines)) → SingleOwnerTablesTraceInForkOrder
single_owner_tables law files later program topology placement tables packets lines on_demand hops output report c is single_owner d =
    let x = law lines files later program topology placement tables packets on_demand hops output report c is d in
    (x.0, x.1, x.2, x.3, x.3.one_switch (commits x.3.run.happenings) (inr (single_owner x.3.run.tables x.3.run.read, refl)))

-- what is compiled onto one switch is read as such tables
pub single_owner_placement : AnswersExactly → CompilesExactly → SingleOwnerTablesTraceInForkOrder → SingleOwnerPlacementsTraceInForkOrder
single_owner_placement exactly compiles law files later program topology placement tables packets lines on_demand hops output report c at_one is d =
    let made = compiled exactly compiles files program topology placement on_demand output c in
    let of = made.1 in
    let shape = of.4.0.shape in
    law files later program topology placement tables packets lines on_demand hops output report c is
    (λ t read. subst IsSingleOwner (sym (same_tables (file_of later tables) made.0 t made.2 (is ∙ made.3) read)) (placed_at_one made.0 of.2 shape.form shape.valid shape.owners (at_one of.0 of.1 of.2 of.3))) d
