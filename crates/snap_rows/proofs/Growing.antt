-- From greater numbers to a smaller one: where its chains stand, and whether they are single-owner.
use Rattle.std.proofs.Common.{◌≡◌, ◌≢◌, ℕ, suc, add-one, ◌+◌, ◌<◌, ◌≤◌, Bool, true, false, List, [], ◌∷◌, drop, length, Option, Some, None, refl, sym, ap, ap₂, subst, ◌∙◌, arith, inl, ⊎_elim}
use Rattle.std.specs.Prelude.{◌==◌, ◌&&◌, if◌then◌else◌, slice_get, IfSome, IsSome, is_some, option_map, MatchOption, unwrap_or}
use Rattle.std.specs.BTreeMap.{BTreeMap, btree_map_len, get, Updates, IsUpperBound}
use Rattle.std.specs.Map.{lookup}
use Rattle.std.specs.Ordering.{nat_cmp, is_eq}
use Rattle.std.proofs.lemmas.Bool.Decides.{nat_tests}
use Rattle.std.proofs.lemmas.Bool.{false≢true, cases_eq, eq-eqb, ne_eqb}
use Rattle.std.proofs.lemmas.Map.Keys.{ge_from_not_lt}
use Rattle.snap_core.specs.declared.policy.Test.{Test}
use Rattle.snap_core.specs.declared.policy.Test.TheVariants.{Value, Equal, State as StateTest}
use Rattle.snap_rows.specs.declared.rules.alone.Standing.{Standing}
use Rattle.snap_rows.specs.declared.rules.alone.Standing.TheVariants.{Nowhere, Apart}
use Rattle.snap_rows.specs.declared.tables.ArrayAt.{ArrayAt}
use Rattle.snap_rows.specs.declared.tables.RowAt.{RowAt}
use Rattle.snap_rows.specs.declared.tables.Rule.{Rule}
use Rattle.snap_rows.specs.declared.tables.Rule.TheVariants.{Kind, Rise, Missing, Spare}
use Rattle.snap_rows.specs.declared.tables.Spot.TheVariants as spot
use Rattle.snap_rows.specs.declared.tables.Tables.{Tables}
use Rattle.snap_rows.specs.declared.tables.Row.{Row}
use Rattle.snap_rows.specs.declared.tables.Row.TheVariants.{Field, State, Go, Leaf, Stop, Last}
use Rattle.snap_rows.specs.Entries.{row_at, node_in, node_of, owner_of, var_of, is_node}
use Rattle.snap_rows.specs.Form.{IsWellFormed, IsRowWellFormed, IsStateTest}
use Rattle.snap_rows.specs.Rules.{IsValid, RowKeeps, IsKind1, IsStateRow}
use Rattle.snap_rows.specs.Ways.{LeadsTo, Reached, port, lead}
use Rattle.snap_rows.specs.SingleOwner.{Chain, field, state, leaf, IsSingleOwnerFrom}
use Rattle.snap_rows.specs.Standing.{StandsAt, AreSo, beside_owner, both, of_stages, of_node, standing_in, Splits, Facts, IsNodeFrom, AreNodesFrom, IsGrown}
use Rattle.snap_rows.proofs.Arrives.{drop_get}
use Rattle.snap_rows.proofs.Own.{past}
use Rattle.snap_rows.proofs.Rows.{row_keeps, row_form, node_entry, nodes}
use Rattle.snap_rows.proofs.Alone.{field_so, state_so, leaf_so, single_owner_from_so, field_single_owner, not_apart, state_share, leaf_share, single_owner_after}

pub not_two : (t : Tables) → t.version ≡ 1 → t.version ≡ 2 → ⊥
not_two t one two = let h : 1 ≡ 2 = sym one ∙ two in omega arith

-- what valid tables say of a row at its place
row_there : (t : Tables) → IsValid t → (rule : Rule) (i : ℕ) (r : RowAt) → slice_get t.rows i ≡ Some r → RowKeeps t rule r.at r.number r.row
row_there t valid rule i r is = subst (λ o. IfSome o (λ (r : RowAt). RowKeeps t rule r.at r.number r.row)) is (valid rule (spot.Row i))

-- the switch of a state row's array
pub owner_there : (t : Tables) (test : Test) → IsStateTest t test → (w : ℕ) × (owner_of t (var_of test) ≡ Some w)
owner_there t (Value c n) h = absurd h
owner_there t (Equal a b n) h = absurd h
owner_there t (StateTest v es x) h = by (slice_get t.arrays v) refl
  where
    by : (o : Option ArrayAt) → slice_get t.arrays v ≡ o → (w : ℕ) × (owner_of t v ≡ Some w)
    by None e = absurd (past t.arrays v h.0 e)
    by (Some a) e = (a.at, ap (option_map (λ (a : ArrayAt). a.at)) e)

-- a number with a row has a node
pub node_there : (t : Tables) → IsValid t → t.version ≡ 1 → (w n : ℕ) → IsSome (row_at t w n) → (b : Row) × (node_of t n ≡ Some b)
node_there t valid one w n some = by (row_at t w n) refl some
  where
    kind : (w : ℕ) (b : Row) → row_at t w n ≡ Some b → IsKind1 t w n b
    kind w b e = (row_keeps t valid Kind w n b e).0 one

    at_state : (w : ℕ) (b : Row) → row_at t w n ≡ Some b → IsStateRow b → (b : Row) × (node_of t n ≡ Some b)
    at_state w (State test y z) e h = (_, kind w (State test y z) e)
    at_state w (Field test y z) e h = absurd h
    at_state w (Go x) e h = absurd h
    at_state w (Leaf ss os) e h = absurd h
    at_state w Stop e h = absurd h
    at_state w (Last us os) e h = absurd h

    found : (b : Row) → row_at t w n ≡ Some b → (b : Row) × (node_of t n ≡ Some b)
    found (Field test y z) e = (_, kind w (Field test y z) e)
    found (State test y z) e = (_, kind w (State test y z) e)
    found (Go x) e = let g = (kind w (Go x) e).1 in at_state x g.0 g.1 g.2
    found (Leaf ss os) e = (_, kind w (Leaf ss os) e)
    found Stop e = (_, kind w Stop e)
    found (Last us os) e = (_, kind w (Last us os) e)

    by : (o : Option Row) → row_at t w n ≡ o → IsSome (row_at t w n) → (b : Row) × (node_of t n ≡ Some b)
    by None e some = absurd (false≢true (sym (ap (λ (o : Option Row). is_some o) e) ∙ some))
    by (Some b) e some = found b e

-- ---- chains from 0 come to each number that is reached

reached_single_owner : (t : Tables) → IsValid t → IsWellFormed t → t.version ≡ 1 → (w n : ℕ) → Reached t w n → IsSingleOwnerFrom t 0 → IsSingleOwnerFrom t n
reached_single_owner t valid form one w n (port at) single_owner = single_owner
reached_single_owner t valid form one w n (lead {w = v} {n = m} {b = b} r row to) single_owner = by b row to (reached_single_owner t valid form one v m r single_owner)
  where
    by : (b : Row) → row_at t v m ≡ Some b → LeadsTo t v m b w n → IsSingleOwnerFrom t m → IsSingleOwnerFrom t n
    by (Field test y z) row to from = λ ws c. from ws (field ((row_keeps t valid Kind v m (Field test y z) row).0 one) to.1 c)
    by (State test y z) row to from = ⊎_elim
        (λ side. let own = owner_there t test (row_form t form v m (State test y z) row).1 in
        single_owner_after t m own.0 n y z test ((row_keeps t valid Kind v m (State test y z) row).0 one) own.1 side.1 from)
        (λ two. absurd (not_two t one two.0))
        to
    by (Go x) row to from = subst (IsSingleOwnerFrom t) (sym to.1) from
    by (Leaf ss os) row to from = subst (IsSingleOwnerFrom t) (sym to.0) from
    by Stop row to from = subst (IsSingleOwnerFrom t) (sym to.1) from
    by (Last us os) row to from = subst (IsSingleOwnerFrom t) (sym to.0) from

-- ---- one number more
pub record Given (t : Tables) (i : ℕ) (r : RowAt) (so : ℕ → Standing) : Type 0 where
  pub valid : IsValid t
  pub form : IsWellFormed t
  pub one : t.version ≡ 1
  pub is : slice_get t.rows i ≡ Some r
  pub node : node_of t r.number ≡ Some r.row
  pub later : (q : ℕ) → r.number < q → Facts t q (so q)

-- the chain from a side of a test row
side_chain : (t : Tables) (so : ℕ → Standing) (w x : ℕ) → IsValid t → t.version ≡ 1 → IsSome (row_at t w x) → Facts t x (so x) → (ws : List ℕ) × Chain t x ws
side_chain t so w x valid one some facts = let node = node_there t valid one w x some in facts.chain node.0 node.1

-- where the chains of a node stand
so_of_node : (t : Tables) (i : ℕ) (r : RowAt) (so : ℕ → Standing) → Given t i r so → AreSo (StandsAt t r.number) (of_node t so r.row) × ((ws : List ℕ) × Chain t r.number ws)
so_of_node t i r so given = by r.row given.node (nodes t given.form r.number r.row given.node).0 (row_there t given.valid Rise i r given.is) (row_there t given.valid Missing i r given.is)
  where
    n : ℕ
    n = r.number

    by : (b : Row) → node_of t n ≡ Some b → IsRowWellFormed t b → RowKeeps t Rise r.at n b → RowKeeps t Missing r.at n b → AreSo (StandsAt t n) (of_node t so b) × ((ws : List ℕ) × Chain t n ws)
    by (Field test y z) node fits rise there =
        let fy = given.later y rise.0 in
        let c = side_chain t so r.at y given.valid given.one (there r.at y (refl, inl refl)) fy in
        (field_so t n y z test (so y) (so z) node fy.so (given.later z rise.1).so, (c.0, field node (inl refl) c.1))
    by (State test y z) node fits rise there =
        let fy = given.later y rise.0 in
        let own = owner_there t test fits.1 in
        let c = side_chain t so r.at y given.valid given.one (there r.at y (inl (refl, inl refl))) fy in (
          subst (λ o. AreSo (StandsAt t n) (beside_owner o (both (so y) (so z)))) (sym own.1) (state_so t n own.0 y z test (so y) (so z) node own.1 c.0 c.1 fy.so (given.later z rise.1).so),
          (own.0 ∷ c.0, state node own.1 (inl refl) c.1),
        )
    by (Leaf ss os) node fits rise there = (leaf_so t n ss os node fits.3, (_, leaf node))
    by (Go x) node fits rise there = absurd (false≢true (node_entry t.rows n (Go x) node).node)
    by Stop node fits rise there = absurd (false≢true (node_entry t.rows n Stop node).node)
    by (Last us os) node fits rise there = absurd (not_two t given.one fits.0)

pub grown : (t : Tables) (i : ℕ) (r : RowAt) (so : ℕ → Standing) → Given t i r so → (Splits r.row (of_node t so r.row) → ⊥) → Facts t r.number (of_node t so r.row)
grown t i r so given whole =
    let s = so_of_node t i r so given in
    record {
      single_owner = by r.row given.node (row_there t given.valid Rise i r given.is) whole s.0;
      so = s.0;
      chain = λ b e. s.1;
    }
  where
    n : ℕ
    n = r.number

    by : (b : Row) → node_of t n ≡ Some b → RowKeeps t Rise r.at n b → (Splits b (of_node t so b) → ⊥) → AreSo (StandsAt t n) (of_node t so b) → IsSingleOwnerFrom t n
    by (Field test y z) node rise whole s = field_single_owner t n y z test node (given.later y rise.0).single_owner (given.later z rise.1).single_owner
    by (State test y z) node rise whole s = single_owner_from_so t n (of_node t so (State test y z)) (λ e. whole (e, λ h. h)) s
    by (Leaf ss os) node rise whole s = single_owner_from_so t n (of_node t so (Leaf ss os)) (λ e. whole (e, λ h. h)) s
    by (Go x) node rise whole s = single_owner_from_so t n (of_node t so (Go x)) (λ e. whole (e, λ h. h)) s
    by Stop node rise whole s = single_owner_from_so t n (of_node t so Stop) (λ e. whole (e, λ h. h)) s
    by (Last us os) node rise whole s = single_owner_from_so t n (of_node t so (Last us os)) (λ e. whole (e, λ h. h)) s

-- a row that splits is on a chain from 0
pub not_single_owner : (t : Tables) (i : ℕ) (r : RowAt) (so : ℕ → Standing) → Given t i r so → Splits r.row (of_node t so r.row) → IsSingleOwnerFrom t 0 → ⊥
not_single_owner t i r so given split single_owner =
    let s = subst (AreSo (StandsAt t r.number)) split.0 (so_of_node t i r so given).0 in
    by r.row given.node (nodes t given.form r.number r.row given.node).0 split s (reached_single_owner t given.valid given.form given.one r.at r.number (row_there t given.valid Spare i r given.is) single_owner)
  where
    n : ℕ
    n = r.number

    leaf_apart : (ss : List _) (os : _) → node_of t n ≡ Some (Leaf ss os) → of_stages ss ≡ Apart → AreSo (StandsAt t n) Apart → IsSingleOwnerFrom t n → ⊥
    leaf_apart [] os node e s from = (cc)
    leaf_apart (x ∷ ss) os node e s from = not_apart t n x.at (leaf_share t n x ss os node) s from

    by : (b : Row) → node_of t n ≡ Some b → IsRowWellFormed t b → Splits b (of_node t so b) → AreSo (StandsAt t n) Apart → IsSingleOwnerFrom t n → ⊥
    by (Field test y z) node fits split s from = split.1 tt
    by (State test y z) node fits split s from = let own = owner_there t test fits.1 in not_apart t n own.0 (state_share t n own.0 y z test node own.1) s from
    by (Leaf ss os) node fits split s from = leaf_apart ss os node split.0 s from
    by (Go x) node fits split s from = false≢true (node_entry t.rows n (Go x) node).node
    by Stop node fits split s from = false≢true (node_entry t.rows n Stop node).node
    by (Last us os) node fits split s from = not_two t given.one fits.0

-- ---- the maps
apart : (a b : ℕ) → a ≢ b → is_eq (nat_cmp a b) ≡ false
apart a b other = grind (arith, nat_tests)

pub MatchOption-weaker : {X : Type 0} (o : Option X) {A A' : Type 0} {B B' : X → Type 0} → (A → A') → ((x : X) → B x → B' x) → MatchOption o A B → MatchOption o A' B'
MatchOption-weaker None f g h = f h
MatchOption-weaker (Some x) f g h = g x h

-- one row more before those from k + 1 on
node_before : (t : Tables) (k n : ℕ) (r : RowAt) → slice_get t.rows k ≡ Some r → node_in (drop k t.rows) n ≡ (if (r.number == n) && is_node r.row then Some r.row else node_in (drop (k + 1) t.rows) n)
node_before t k n r is = ap (λ rs. node_in rs n) (drop_get t.rows k r is ∙ ap (λ j. r ∷ drop j t.rows) (sym (add-one k)))

before_same : (t : Tables) (k n : ℕ) (at : ℕ → Option ℕ) → node_in (drop k t.rows) n ≡ node_in (drop (k + 1) t.rows) n → MatchOption (at n) (node_in (drop (k + 1) t.rows) n ≡ None) (IsNodeFrom t (k + 1) n)
    → MatchOption (at n) (node_in (drop k t.rows) n ≡ None) (IsNodeFrom t k n)
before_same t k n at same = MatchOption-weaker (at n) (λ e. same ∙ e) (λ i h. record { entry = h.entry; is = h.is; number = h.number; node = same ∙ h.node })

pub nodes_same : (t : Tables) (k : ℕ) (r : RowAt) (m : ℕ → Option ℕ) → slice_get t.rows k ≡ Some r → is_node r.row ≡ false → AreNodesFrom t (k + 1) m → AreNodesFrom t k m
nodes_same t k r m is other before n = before_same t k n m (node_before t k n r is ∙ by (r.number == n) (is_node r.row) other) (before n)
  where
    by : (s c : Bool) → c ≡ false → (if s && c then Some r.row else node_in (drop (k + 1) t.rows) n) ≡ node_in (drop (k + 1) t.rows) n
    by true true e = absurd (false≢true (sym e))
    by true false e = refl
    by false c e = refl

pub nodes_more : (t : Tables) (k : ℕ) (r : RowAt) (m m' : ℕ → Option ℕ) → slice_get t.rows k ≡ Some r → is_node r.row ≡ true → AreNodesFrom t (k + 1) m → m' r.number ≡ Some k → ((n : ℕ) → r.number ≢ n → m' n ≡ m n) → AreNodesFrom t k m'
nodes_more t k r m m' is node before put others n = ⊎_elim here there (cases_eq r.number n)
  where
    shape : (s : Bool) → (r.number == n) ≡ s → node_in (drop k t.rows) n ≡ (if s then Some r.row else node_in (drop (k + 1) t.rows) n)
    shape s e = node_before t k n r is ∙ ap₂ (λ (a b : Bool). if a && b then Some r.row else node_in (drop (k + 1) t.rows) n) e node ∙ by s
      where
        by : (s : Bool) → (if s && true then Some r.row else node_in (drop (k + 1) t.rows) n) ≡ (if s then Some r.row else node_in (drop (k + 1) t.rows) n)
        by true = refl
        by false = refl

    here : r.number ≡ n → MatchOption (m' n) (node_in (drop k t.rows) n ≡ None) (IsNodeFrom t k n)
    here e =
        let at : m' n ≡ Some k = subst (λ n. m' n ≡ Some k) e put in
        subst (λ o. MatchOption o (node_in (drop k t.rows) n ≡ None) (IsNodeFrom t k n)) (sym at)
        (record { entry = r; is = is; number = e; node = shape true (eq-eqb r.number n e) })

    there : r.number ≢ n → MatchOption (m' n) (node_in (drop k t.rows) n ≡ None) (IsNodeFrom t k n)
    there other =
        subst (λ o. MatchOption o (node_in (drop k t.rows) n ≡ None) (IsNodeFrom t k n)) (sym (others n other))
        (before_same t k n m (shape false (ne_eqb r.number n other)) (before n))

-- ---- one turn
given_at : (t : Tables) → IsValid t → IsWellFormed t → t.version ≡ 1 → (rest : BTreeMap ℕ ℕ) (known : BTreeMap ℕ Standing) (n i : ℕ) → IsGrown t rest known → IsUpperBound nat_cmp rest n → (at : IsNodeFrom t 0 n i)
    → Given t i at.entry (standing_in known)
given_at t valid form one rest known n i grown top at = record {
  valid = valid;
  form = form;
  one = one;
  is = at.is;
  node = subst (λ n. node_of t n ≡ Some at.entry.row) (sym at.number) at.node;
  later = λ q more. grown.facts q (by q (let e : at.entry.number ≡ n = at.number in omega arith) (get nat_cmp rest q) refl);
}
  where
    by : (q : ℕ) → n < q → (o : Option ℕ) → get nat_cmp rest q ≡ o → get nat_cmp rest q ≡ None
    by q more None e = e
    by q more (Some j) e = absurd (let h : q ≤ n = ge_from_not_lt n q (top q (ap (λ (o : Option ℕ). is_some o) e)) in omega arith)

pub grown_more : (t : Tables) → IsValid t → IsWellFormed t → t.version ≡ 1 → (rest rest' : BTreeMap ℕ ℕ) (known known' : BTreeMap ℕ Standing) (n i : ℕ) → IsGrown t rest known → IsUpperBound nat_cmp rest n → (at : IsNodeFrom t 0 n i)
    → (Splits at.entry.row (of_node t (standing_in known) at.entry.row) → ⊥) → Updates nat_cmp rest rest' n None → Updates nat_cmp known known' n (Some (of_node t (standing_in known) at.entry.row)) → IsGrown t rest' known'
grown_more t valid form one rest rest' known known' n i before top at whole pops puts = record {
  nodes = λ q j e. ⊎_elim
      (λ same. absurd (false≢true (ap (λ (o : Option ℕ). is_some o) (sym pops.1 ∙ subst (λ q. get nat_cmp rest' q ≡ Some j) (sym same) e))))
      (λ other. before.nodes q j (sym (pops.2 q (apart n q other)) ∙ e))
      (cases_eq n q);
  facts = λ q e. ⊎_elim
      (λ same. subst (λ q. Facts t q (standing_in known' q)) same here)
      (λ other. let a = apart n q other in subst (Facts t q) (ap (λ o. unwrap_or o Nowhere) (sym (puts.2 q a))) (before.facts q (sym (pops.2 q a) ∙ e)))
      (cases_eq n q);
}
  where
    now : Standing
    now = of_node t (standing_in known) at.entry.row

    here : Facts t n (standing_in known' n)
    here = subst (Facts t n) (sym (ap (λ o. unwrap_or o Nowhere) puts.1))
        (subst (λ n. Facts t n now) at.number (grown t i at.entry (standing_in known) (given_at t valid form one rest known n i before top at) whole))

pub split_found : (t : Tables) → IsValid t → IsWellFormed t → t.version ≡ 1 → (rest : BTreeMap ℕ ℕ) (known : BTreeMap ℕ Standing) (n i : ℕ) → IsGrown t rest known → IsUpperBound nat_cmp rest n → (at : IsNodeFrom t 0 n i)
    → Splits at.entry.row (of_node t (standing_in known) at.entry.row) → IsSingleOwnerFrom t 0 → ⊥
split_found t valid form one rest known n i before top at split = not_single_owner t i at.entry (standing_in known) (given_at t valid form one rest known n i before top at) split

-- at first nothing is known, and nothing need be of a number without a node
no_chain : (t : Tables) (n : ℕ) (ws : List ℕ) → node_of t n ≡ None → Chain t n ws → ⊥
no_chain t n ws none (field node way c) = false≢true (ap (λ (o : Option Row). is_some o) (sym none ∙ node))
no_chain t n ws none (state node own way c) = false≢true (ap (λ (o : Option Row). is_some o) (sym none ∙ node))
no_chain t n ws none (leaf node) = false≢true (ap (λ (o : Option Row). is_some o) (sym none ∙ node))

pub grown_none : (t : Tables) (rest : BTreeMap ℕ ℕ) (known : BTreeMap ℕ Standing) → AreNodesFrom t 0 (get nat_cmp rest) → known.entries ≡ [] → IsGrown t rest known
grown_none t rest known nodes empty = record {
  nodes = λ n i e. subst (λ o. MatchOption o (node_of t n ≡ None) (IsNodeFrom t 0 n)) e (nodes n);
  facts = λ n e.
      let none : node_of t n ≡ None = subst (λ o. MatchOption o (node_of t n ≡ None) (IsNodeFrom t 0 n)) e (nodes n) in
      subst (Facts t n) (ap (λ es. unwrap_or (lookup (λ q. is_eq (nat_cmp n q)) es) Nowhere) (sym empty))
      (record {
        single_owner = λ ws c. absurd (no_chain t n ws none c);
        so = λ w s. no_chain t n s.0 none s.1;
        chain = λ b node. absurd (false≢true (ap (λ (o : Option Row). is_some o) (sym none ∙ node)));
      });
}

pub single_owner_at_end : (t : Tables) (rest : BTreeMap ℕ ℕ) (known : BTreeMap ℕ Standing) → IsGrown t rest known → btree_map_len rest ≤ 0 → IsSingleOwnerFrom t 0
single_owner_at_end t rest known grown none = (grown.facts 0 (by rest.entries none)).single_owner
  where
    by : (es : List (ℕ × ℕ)) → length es ≤ 0 → lookup (λ q. is_eq (nat_cmp 0 q)) es ≡ None
    by [] none = refl
    by (e ∷ es) none = absurd (let h : suc (length es) ≤ 0 = none in omega arith)
