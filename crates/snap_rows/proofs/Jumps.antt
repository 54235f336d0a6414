-- Where field rows lead, and chains of tests.
use Rattle.std.proofs.Common.{◌≡◌, ℕ, ◌<◌, Bool, true, false, List, [], ◌∷◌, ◌++◌, Option, Some, None, refl, sym, ap, subst, ◌∙◌, arith, ⊎_elim}
use Rattle.std.specs.Prelude.{◌==◌, if◌then◌else◌, IfSome, IsSome, is_some, slice_index, unwrap_or}
use Rattle.std.specs.Option.{option_or}
use Rattle.std.proofs.lemmas.Bool.{eqb-true, eqb-false, false≢true}
use Rattle.snap_core.specs.Arrays.{Arrays}
use Rattle.snap_core.specs.Cases.{case_at}
use Rattle.snap_core.proofs.CaseLemmas.{case_at-append}
use Rattle.snap_core.specs.declared.policy.Test.{Test}
use Rattle.snap_core.specs.declared.policy.Test.TheVariants.{Value}
use Rattle.snap_rows.specs.declared.tables.RowAt.{RowAt}
use Rattle.snap_rows.specs.declared.tables.Tables.{Tables}
use Rattle.snap_rows.specs.declared.tables.Row.{Row}
use Rattle.snap_rows.specs.declared.tables.Row.TheVariants.{Field, State, Go, Leaf, Stop, Last}
use Rattle.snap_rows.specs.declared.tables.Rule.TheVariants.{Kind}
use Rattle.snap_rows.specs.Chains.{PassesFields, Jumps, LeadsOn}
use Rattle.snap_rows.specs.Entries.{row_at, node_of}
use Rattle.snap_rows.specs.Form.{IsWellFormed, comps}
use Rattle.snap_rows.specs.Rules.{IsValid, IsStateRow, IsFieldRow, IsKind1, IsKind2}
use Rattle.snap_rows.specs.Steps.{IsFieldRowWellFormed, GoesOn, IsStep}
use Rattle.std.proofs.lemmas.Option.{same_Some}
use Rattle.snap_rows.proofs.Rows.{All-get, node_entry, nodes, row_form, row_keeps}
use Rattle.snap_rows.proofs.Ways.{field_row_form, goes_on_by_test}

-- ---- the row of a number whose node is a field row is that node, at each switch
same_node : (t : Tables) (n : ℕ) (a b : Row) → node_of t n ≡ Some a → node_of t n ≡ Some b → b ≡ a
same_node t n a b e f = same_Some b a (sym f ∙ e)

state_node : (t : Tables) (w n : ℕ) (b : Row) → IsStateRow b → IsKind1 t w n b → node_of t n ≡ Some b
state_node t w n (State test y z) h kind = kind
state_node t w n (Field test y z) h kind = absurd h
state_node t w n (Go x) h kind = absurd h
state_node t w n (Leaf ss os) h kind = absurd h
state_node t w n Stop h kind = absurd h
state_node t w n (Last us os) h kind = absurd h

field_one : (t : Tables) → IsValid t → t.version ≡ 1 → (w n : ℕ) (test : Test) (y z : ℕ) → node_of t n ≡ Some (Field test y z) → (b : Row) → IsKind1 t w n b → b ≡ Field test y z
field_one t valid one w n test y z e (Go x) kind =
    let s = kind.1 in
    let there : node_of t n ≡ Some s.0 = state_node t x n s.0 s.2 ((row_keeps t valid Kind x n s.0 s.1).0 one) in
    absurd (subst IsStateRow (same_node t n (Field test y z) s.0 e there) s.2)
field_one t valid one w n test y z e (Field test' y' z') kind = same_node t n (Field test y z) (Field test' y' z') e kind
field_one t valid one w n test y z e (State test' y' z') kind = same_node t n (Field test y z) (State test' y' z') e kind
field_one t valid one w n test y z e (Leaf ss os) kind = same_node t n (Field test y z) (Leaf ss os) e kind
field_one t valid one w n test y z e Stop kind = same_node t n (Field test y z) Stop e kind
field_one t valid one w n test y z e (Last us os) kind = same_node t n (Field test y z) (Last us os) e kind

field_two : (t : Tables) (w n : ℕ) (test : Test) (y z : ℕ) → node_of t n ≡ Some (Field test y z) → (b : Row) → IsKind2 t w n b → b ≡ Field test y z
field_two t w n test y z e Stop kind =
    let i = node_entry t.rows n (Field test y z) e in
    absurd (All-get (λ (r : RowAt). r.number ≡ n → ¬ IsFieldRow r.row) t.rows i.place i.entry kind.0 i.is i.number (subst IsFieldRow (sym i.body) tt))
field_two t w n test y z e (Field test' y' z') kind = same_node t n (Field test y z) (Field test' y' z') e kind.0
field_two t w n test y z e (State test' y' z') kind = same_node t n (Field test y z) (State test' y' z') e kind.0
field_two t w n test y z e (Go x) kind = same_node t n (Field test y z) (Go x) e kind.0
field_two t w n test y z e (Leaf ss os) kind = same_node t n (Field test y z) (Leaf ss os) e kind.0
field_two t w n test y z e (Last us os) kind = same_node t n (Field test y z) (Last us os) e kind.0

field_there : (t : Tables) → IsValid t → IsWellFormed t → (w n : ℕ) (test : Test) (y z : ℕ) → node_of t n ≡ Some (Field test y z) → (b : Row) → row_at t w n ≡ Some b → b ≡ Field test y z
field_there t valid form w n test y z e b here =
    let kind = row_keeps t valid Kind w n b here in
    ⊎_elim (λ one. field_one t valid one w n test y z e b (kind.0 one)) (λ two. field_two t w n test y z e b (kind.1 two)) form.version

-- ---- jumps
eqb_swap : (a b : ℕ) → (a == b) ≡ (b == a)
eqb_swap a b = by (a == b) (b == a) refl refl
  where
    by : (s r : Bool) → (a == b) ≡ s → (b == a) ≡ r → s ≡ r
    by true true e f = refl
    by false false e f = refl
    by true false e f = absurd (eqb-false b a f (sym (eqb-true a b e)))
    by false true e f = absurd (eqb-false a b e (sym (eqb-true b a f)))

jump_node : (t : Tables) → IsValid t → IsWellFormed t → (n c v y z : ℕ) → node_of t n ≡ Some (Field (Value c v) y z) → (k : List ℕ) → Jumps t k n (if v == slice_index k c then y else z)
jump_node t valid form n c v y z e k w there p fields m = by (row_at t w n) refl there
  where
    by : (o : Option Row) → row_at t w n ≡ o → IsSome o → GoesOn t w k p m n (if v == slice_index k c then y else z)
    by None here some = absurd (false≢true some)
    by (Some b) here some =
        let row = here ∙ ap Some (field_there t valid form w n (Value c v) y z e b here) in
        goes_on_by_test t valid w n (Field (Value c v) y z) row k p m _ (fields (Value c v) y z) (ap (λ (s : Bool). Some (if s then y else z)) (eqb_swap (slice_index k c) v))

jumps_on : (t : Tables) (k : List ℕ) (n x y : ℕ) → Jumps t k n x → Jumps t k x y → Jumps t k n y
jumps_on t k n x y first after w there p fields m =
    let f : GoesOn t w k p m n x = first w there p fields m in
    let g : GoesOn t w k p m x y = after w f.there p fields m in
    let low : n < x = f.up in
    let up : x < y = g.up in
    record { up = omega arith; there = g.there; way = λ v h. f.way v (g.way v h) }

-- where these cases of a component lead from number n, and where r is the number for all others
abbrev pub CasesLead : Tables → ℕ → ℕ → List (ℕ × ℕ) → ℕ → Type 0
CasesLead t n c cs r = (k : List ℕ) → Jumps t k n (unwrap_or (case_at cs (slice_index k c)) r)

-- one more case, behind the others
case_more : (cs : List (ℕ × ℕ)) (v y z i : ℕ) → unwrap_or (case_at (cs ++ (v, y) ∷ []) i) z ≡ unwrap_or (case_at cs i) (if v == i then y else z)
case_more cs v y z i = ap (λ o. unwrap_or o z) (case_at-append cs ((v, y) ∷ []) i) ∙ by (case_at cs i) (v == i)
  where
    by : (o : Option ℕ) (s : Bool) → unwrap_or (option_or o (if s then Some y else None)) z ≡ unwrap_or o (if s then y else z)
    by (Some x) s = refl
    by None true = refl
    by None false = refl

past_cases : (t : Tables) (k : List ℕ) (n r x : ℕ) (o : Option ℕ) → Jumps t k n (unwrap_or o r) → Jumps t k r x → Jumps t k n (unwrap_or o x)
past_cases t k n r x None first after = jumps_on t k n r x first after
past_cases t k n r x (Some y) first after = first

pub one_leads : (t : Tables) → IsValid t → IsWellFormed t → (n c v y z : ℕ) → node_of t n ≡ Some (Field (Value c v) y z) → CasesLead t n c ((v, y) ∷ []) z
one_leads t valid form n c v y z e k = subst (Jumps t k n) (sym (case_more [] v y z (slice_index k c))) (jump_node t valid form n c v y z e k)

pub more_lead : (t : Tables) → IsValid t → IsWellFormed t → (n c : ℕ) (cs : List (ℕ × ℕ)) (r v y z : ℕ) → CasesLead t n c cs r → node_of t r ≡ Some (Field (Value c v) y z) → CasesLead t n c (cs ++ (v, y) ∷ []) z
more_lead t valid form n c cs r v y z lead e k =
    subst (Jumps t k n) (sym (case_more cs v y z (slice_index k c))) (past_cases t k n r _ (case_at cs (slice_index k c)) (lead k) (jump_node t valid form r c v y z e k))

-- the same by a list with the same cases
pub cases_lead_so : (t : Tables) (n c : ℕ) (cs ds : List (ℕ × ℕ)) (r : ℕ) → ((i : ℕ) → case_at ds i ≡ case_at cs i) → CasesLead t n c cs r → CasesLead t n c ds r
cases_lead_so t n c cs ds r same lead k = subst (λ o. Jumps t k n (unwrap_or o r)) (sym (same (slice_index k c))) (lead k)

-- the component of a value test is one of the packet's
pub comp_below : (t : Tables) → IsWellFormed t → (n c v y z : ℕ) → node_of t n ≡ Some (Field (Value c v) y z) → c < comps t
comp_below t form n c v y z e = (nodes t form n (Field (Value c v) y z) e).0.0

-- ---- a step along a row, by where it leads
pub leads_step : (t : Tables) → IsValid t → IsWellFormed t → (w n : ℕ) (b : Row) → row_at t w n ≡ Some b → (k : List ℕ) (p : Row → Bool) (m : Arrays) (x : Option ℕ)
    → PassesFields p → p b ≡ is_some x → (IsFieldRowWellFormed b → IfSome x (LeadsOn t k n b m)) → IsStep t w k p m n x
leads_step t valid form w n b e k p m None fields test leads = record { body = b; row = e; test = test; goes = tt }
leads_step t valid form w n b e k p m (Some y) fields test leads = record {
  body = b;
  row = e;
  test = test;
  goes = ⊎_elim
      (λ goes. goes_on_by_test t valid w n b e k p m y test goes)
      (λ jumps. jumps w (ap (λ (o : Option Row). is_some o) e) p fields m)
      (leads (field_row_form t b (row_form t form w n b e)));
}
