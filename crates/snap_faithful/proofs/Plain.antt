-- Tables of version 1 as those of version 2 with the same nodes: what is proved of the meaning of the one holds of the other.
use Rattle.std.proofs.Common.{◌≡◌, ℕ, Bool, true, false, cond, List, [], ◌∷◌, Option, Some, None, refl, sym, ap, ◌∙◌, ◌&&◌}
use Rattle.std.specs.Prelude.{nat_eq, option_map}
use Rattle.std.proofs.lemmas.Bool.{both_ways}
use Rattle.std.proofs.lemmas.Option.{none-some, same_Some}
use Rattle.snap_core.specs.declared.policy.Pol.{Pol}
use Rattle.snap_core.specs.declared.program.Program.{Program}
use Rattle.snap_core.specs.declared.policy.Test.{Test}
use Rattle.snap_core.specs.Arrays.{Arrays}
use Rattle.snap_rows.specs.declared.tables.RowAt.{RowAt}
use Rattle.snap_rows.specs.declared.tables.Tables.{Tables}
use Rattle.snap_rows.specs.declared.tables.Row.{Row}
use Rattle.snap_rows.specs.declared.tables.Row.TheVariants.{Field, State, Go, Leaf, Stop, Last}
use Rattle.snap_rows.specs.Entries.{node_in, node_of, is_node}
use Rattle.snap_rows.specs.Handles.{side, is_test}
use Rattle.snap_faithful.specs.Facts.{HasMeaning}
use Rattle.snap_faithful.specs.Faithful.{IsMet, IsTestUsed, IsUsed, IsLiveAndReduced}
use Rattle.snap_faithful.specs.Visits.{Comes, here, on}
use Rattle.snap_faithful.specs.StagedFacts.{all_ups, HasStagedMeaning}

-- a leaf with its stages as one with their updates
abbrev pub unstaged : Row → Row
unstaged (Leaf ss os) = Last (all_ups ss) os
unstaged b = b

abbrev pub plain_rows : List RowAt → List RowAt
plain_rows [] = []
plain_rows (r ∷ rs) = record r { row = unstaged r.row } ∷ plain_rows rs

abbrev pub plain : Tables → Tables
plain t = record t { rows = plain_rows t.rows }

as_node : (b : Row) → is_node (unstaged b) ≡ is_node b
as_node (Field test y z) = refl
as_node (State test y z) = refl
as_node (Go x) = refl
as_node (Leaf ss os) = refl
as_node Stop = refl
as_node (Last us os) = refl

plain_node_in : (rs : List RowAt) (n : ℕ) → node_in (plain_rows rs) n ≡ option_map unstaged (node_in rs n)
plain_node_in [] n = refl
plain_node_in (r ∷ rs) n =
    ap (λ s. cond (nat_eq r.number n && s) (Some (unstaged r.row)) (node_in (plain_rows rs) n)) (as_node r.row)
    ∙ by (nat_eq r.number n && is_node r.row) (plain_node_in rs n)
  where
    by : (c : Bool) → node_in (plain_rows rs) n ≡ option_map unstaged (node_in rs n) → cond c (Some (unstaged r.row)) (node_in (plain_rows rs) n) ≡ option_map unstaged (cond c (Some r.row) (node_in rs n))
    by true e = refl
    by false e = e

pub plain_node : (t : Tables) (n : ℕ) → node_of (plain t) n ≡ option_map unstaged (node_of t n)
plain_node t n = plain_node_in t.rows n

pub plain_is : (t : Tables) (n : ℕ) (b : Row) → node_of t n ≡ Some b → node_of (plain t) n ≡ Some (unstaged b)
plain_is t n b e = plain_node t n ∙ ap (option_map unstaged) e

pub plain_from : (t : Tables) (n : ℕ) (c : Row) → node_of (plain t) n ≡ Some c → (b : Row) × (node_of t n ≡ Some b) × (unstaged b ≡ c)
plain_from t n c e = by (node_of t n) refl (sym (plain_node t n) ∙ e)
  where
    by : (o : Option Row) → node_of t n ≡ o → option_map unstaged o ≡ Some c → (b : Row) × (node_of t n ≡ Some b) × (unstaged b ≡ c)
    by None f g = absurd (none-some c g)
    by (Some b) f g = (b, f, same_Some (unstaged b) c g)

test_same : (b : Row) → is_test b ≡ true → unstaged b ≡ b
test_same (Field test y z) e = refl
test_same (State test y z) e = refl
test_same (Go x) e = absurd (both_ways _ refl e)
test_same (Leaf ss os) e = absurd (both_ways _ refl e)
test_same Stop e = absurd (both_ways _ refl e)
test_same (Last us os) e = absurd (both_ways _ refl e)

test_back : (b : Row) → is_test (unstaged b) ≡ true → is_test b ≡ true
test_back (Field test y z) e = refl
test_back (State test y z) e = refl
test_back (Go x) e = absurd (both_ways _ refl e)
test_back (Leaf ss os) e = absurd (both_ways _ refl e)
test_back Stop e = absurd (both_ways _ refl e)
test_back (Last us os) e = absurd (both_ways _ refl e)

module _ (t : Tables) (k : List ℕ) (m : Arrays) where
  pub to_plain : {a n : ℕ} → Comes t k is_test m a n → Comes (plain t) k is_test m a n
  to_plain here = here
  to_plain (on {n = a} {b = b} node is way rest) = on (plain_is t a b node ∙ ap Some (test_same b is)) is way (to_plain rest)

  pub from_plain : {a n : ℕ} → Comes (plain t) k is_test m a n → Comes t k is_test m a n
  from_plain here = here
  from_plain (on {n = a} {x = x} {b = c} node is way rest) =
      let b = plain_from t a c node in
      let test = test_back b.0 (ap is_test b.2 ∙ is) in
      on b.1 test (ap (λ d. side d m k) (sym (test_same b.0 test) ∙ b.2) ∙ way) (from_plain rest)

pub staged_meaning : (p : Pol) (comps : ℕ) (t : Tables) → HasMeaning p comps (plain t) → HasStagedMeaning p comps t
staged_meaning p comps t meaning m k store packet n ss os comes node o outcome = meaning m k store packet n (all_ups ss) os (to_plain t k m comes) (plain_is t n (Leaf ss os) node) o outcome

pub staged_live : (p : Program) (t : Tables) → IsLiveAndReduced p (plain t) → IsLiveAndReduced p t
staged_live p t live = record {
  used = λ n b node. back n b (live.used n (unstaged b) (plain_is t n b node));
  one = λ i j b f g. live.one i j (unstaged b) (plain_is t i b f) (plain_is t j b g);
}
  where
    met : (n : ℕ) (test : Test) (way : Bool) → IsMet p (plain t) n test way → IsMet p t n test way
    met n test way i = record { m = i.m; k = i.k; input = i.input; comes = from_plain t i.k i.m i.comes; goes = i.goes }

    used : (n : ℕ) (test : Test) (y z : ℕ) → IsTestUsed p (plain t) n test y z → IsTestUsed p t n test y z
    used n test y z u = record { met = λ way. met n test way (u.met way); differ = u.differ }

    back : (n : ℕ) (b : Row) → IsUsed p (plain t) n (unstaged b) → IsUsed p t n b
    back n (Field test y z) u = used n test y z u
    back n (State test y z) u = used n test y z u
    back n (Go x) u = tt
    back n (Leaf ss os) u = tt
    back n Stop u = tt
    back n (Last us os) u = tt
