use Rattle.std.proofs.Common.{◌≡◌, ◌≤◌, Some, None, refl, sym, ap, subst, ◌∙◌, ⊎_elim}
use Rattle.std.specs.Prelude.{is_some, MatchOption}
use Rattle.std.specs.BTreeMap.{btree_map_len, get, Updates}
use Rattle.std.specs.Ordering.{nat_cmp}
use Rattle.std.proofs.lemmas.Bool.{false≢true, cases_lt}
use Rattle.std.proofs.lemmas.Option.{same_Some, slice_get_within}
use Rattle.snap_rows.specs.declared.rules.alone.Standing.{Standing}
use Rattle.snap_rows.specs.declared.tables.Row.{Row}
use Rattle.snap_rows.specs.declared.tables.RowAt.{RowAt}
use Rattle.snap_rows.specs.Standing.{of_node, standing_in, Splits, AreNodesFrom, IsNodeFrom}
use Rattle.snap_rows.specs.Bodies.{lent}
use Rattle.snap_rows.specs.Entries.{node_of}
use Rattle.snap_rows.proofs.Growing.{not_two, grown_none, grown_more, split_found, single_owner_at_end}
use Rattle.snap_rows.proofs.rules.alone.is_single_owner_one.Goals as goal

pub loop-number-init : goal.loop-number-init
loop-number-init c =
    let t = c.args.tables.now in
    let nodes : AreNodesFrom t 0 (get nat_cmp c.into_map-rest.result) = λ n. subst (λ o. MatchOption o (node_of t n ≡ None) (IsNodeFrom t 0 n)) (sym (c.into_map-rest.ensures n)) (c.in_ok-nodes.ensures.nodes n) in
    grown_none t c.into_map-rest.result c.new-known.result nodes c.new-known.ensures.empty

pub at-requires : goal.at-requires
at-requires c =
    let at = c.loop-number.invariant.nodes c.in-Some.number c.in-Some.at c.in-Some.ensures.value in
    slice_get_within c.args.tables.now.rows c.in-Some.at at.entry at.is

pub returns-then-splits : goal.returns-then-splits
returns-then-splits c =
    let t = c.args.tables.now in
    let rest = c.loop-number.rest in
    let known = c.loop-number.known in
    let n = c.in-Some.number in
    let i = c.in-Some.at in
    let at = c.loop-number.invariant.nodes n i c.in-Some.ensures.value in
    let same : lent c.at.result ≡ at.entry = same_Some _ _ (sym c.at.ensures ∙ at.is) in
    let node : c.at.result.row.now ≡ at.entry.row = ap (λ (r : RowAt). r.row) same in
    let split = subst (λ (b : Row). Splits b (of_node t (standing_in known) b)) node (subst (Splits c.at.result.row.now) c.of_node-standing.ensures (c.splits.ensures.0 c.if-splits.true)) in (
      λ h. absurd (false≢true h),
      λ single_owner. absurd (split_found t c.requires.valid c.requires.form c.requires.version rest known n i c.loop-number.invariant c.in-Some.ensures.greatest at split (single_owner.0 c.requires.version)),
    )

pub loop-number-preserved : goal.loop-number-preserved
loop-number-preserved c =
    let t = c.args.tables.now in
    let rest = c.loop-number.rest in
    let known = c.loop-number.known in
    let n = c.in-Some.number in
    let i = c.in-Some.at in
    let at = c.loop-number.invariant.nodes n i c.in-Some.ensures.value in
    let same : lent c.at.result ≡ at.entry = same_Some _ _ (sym c.at.ensures ∙ at.is) in
    let node : c.at.result.row.now ≡ at.entry.row = ap (λ (r : RowAt). r.row) same in
    let whole = λ (split : Splits at.entry.row (of_node t (standing_in known) at.entry.row)).
    false≢true (sym c.if-splits.false ∙ c.splits.ensures.1 (subst (Splits c.at.result.row.now) (sym c.of_node-standing.ensures) (subst (λ (b : Row). Splits b (of_node t (standing_in known) b)) (sym node) split))) in
    let standing : c.of_node-standing.result ≡ of_node t (standing_in known) at.entry.row = c.of_node-standing.ensures ∙ ap (of_node t (standing_in known)) node in
    grown_more t c.requires.valid c.requires.form c.requires.version rest c.pop_last.new.self known c.insert.new.self n i c.loop-number.invariant c.in-Some.ensures.greatest at whole c.in-Some.ensures.updates
    (subst (λ (s : Standing). Updates nat_cmp known c.insert.new.self n (Some s)) standing c.in_ok-insert.ensures.updates)

pub returns : goal.returns
returns c =
    let t = c.args.tables.now in
    let rest = c.loop-number.rest in
    let none : btree_map_len rest ≤ 0 = ⊎_elim (λ some. absurd (false≢true (sym (ap (λ o. is_some o) c.in_default.is) ∙ c.pop_last.ensures.variant.1 some))) (λ le. le) (cases_lt 0 (btree_map_len rest)) in (
      λ h. ((λ one. single_owner_at_end t rest c.loop-number.known c.loop-number.invariant none), (λ two. absurd (not_two t c.requires.version two))),
      λ single_owner. refl,
    )
