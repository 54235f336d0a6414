-- Tables that show a diagram mean what it means, and are live and reduced where it is live.
use Rattle.std.proofs.Common.{◌≡◌, ◌≢◌, ℕ, Bool, true, false, cond, List, [], length, Some, None, refl, sym, ap, subst, ◌∙◌}
use Rattle.std.specs.Prelude.{slice_get}
use Rattle.std.proofs.lemmas.Option.{none-some, same_Some}
use Rattle.snap_core.specs.declared.place.Place.{Place}
use Rattle.snap_core.specs.declared.policy.Test.{Test}
use Rattle.snap_core.specs.declared.policy.Test.TheVariants.{Value, Equal, State as StateTest}
use Rattle.snap_core.specs.declared.policy.Update.{Update}
use Rattle.snap_core.specs.declared.program.Program.{Program}
use Rattle.snap_core.specs.Arrays.{Arrays, updates}
use Rattle.snap_core.specs.Fields.{count}
use Rattle.snap_core.specs.Inputs.{IsInput}
use Rattle.snap_core.specs.Listing.{number_in}
use Rattle.snap_core.specs.Meaning.{Meaning}
use Rattle.snap_core.specs.Tests.{passes, results}
use Rattle.snap_diagrams.specs.declared.node.Node.{Node}
use Rattle.snap_diagrams.specs.declared.node.Node.TheVariants as node
use Rattle.snap_diagrams.specs.Arena.{IsArena}
use Rattle.snap_diagrams.specs.declared.leaf.Leaf.{Leaf}
use Rattle.snap_diagrams.specs.declared.leaf.Leaf.TheVariants.{Race, Go as Goes}
use Rattle.snap_diagrams.specs.Diagrams.{Diagram, Asks, diagram, walk, IsNodeOf}
use Rattle.snap_diagrams.specs.Pruned.{Someone, With, IsLive}
use Rattle.snap_diagrams.proofs.Shared as shared
use Rattle.snap_diagrams.proofs.Cutting.{live_weaker}
use Rattle.snap_rows.specs.declared.tables.Tables.{Tables}
use Rattle.snap_rows.specs.declared.tables.Row.{Row}
use Rattle.snap_rows.specs.declared.tables.Row.TheVariants.{Last}
use Rattle.snap_rows.specs.Entries.{Parts, node_of}
use Rattle.snap_rows.specs.Handles.{side, is_test}
use Rattle.snap_faithful.specs.Facts.{HasMeaning}
use Rattle.snap_faithful.specs.Faithful.{IsMet, IsUsed}
use Rattle.snap_faithful.specs.Visits.{Comes, here, on}
use Rattle.snap_faithful.specs.Shown as shown
use Rattle.snap_faithful.specs.Shown.{row_of, Leads, yes_way, no_way, IsNumbering, IsOf, Shows, LeafGives, IsOutcomeOf, ShownTablesMean, IsBare, HasBareLeaves, ShownTablesAreLive}
use Rattle.snap_faithful.proofs.Walks.{joined}

-- of a larger set a diagram is live too
someone_more : (P Q : Arrays → List ℕ → Type 0) → ((m : Arrays) (k : List ℕ) → P m k → Q m k) → Someone P → Someone Q
someone_more P Q f s = record { entries = s.entries; packet = s.packet; store = s.store; is = f (number_in s.entries) s.packet s.is }

-- ---- rows of nodes
module _ (number : ℕ → ℕ) where
  last_no_ask : (us : List Update) (os : List Parts) (t : Test) (y z : ℕ) → Last us os ≡ row_of number (node.Ask t y z) → ⊥
  last_no_ask us os (Value c n) y z e = cc
  last_no_ask us os (Equal a b n) y z e = cc
  last_no_ask us os (StateTest v ix x) y z e = cc

  leaf_no_ask : (l : Leaf) (t : Test) (y z : ℕ) → row_of number (node.Leaf l) ≡ row_of number (node.Ask t y z) → ⊥
  leaf_no_ask Race t y z e = last_no_ask [] [] t y z e
  leaf_no_ask (Goes g) t y z e = last_no_ask g.ups g.outs t y z e

  asks_same : (t u : Test) (y z y' z' : ℕ) → row_of number (node.Ask t y z) ≡ row_of number (node.Ask u y' z') → (t ≡ u) × (number y ≡ number y') × (number z ≡ number z')
  asks_same (Value c n) (Value d o) y z y' z' e = (cc, cc, cc)
  asks_same (Value c n) (Equal a b o) y z y' z' e = (cc, cc, cc)
  asks_same (Value c n) (StateTest v ix x) y z y' z' e = (cc, cc, cc)
  asks_same (Equal a b n) (Value d o) y z y' z' e = (cc, cc, cc)
  asks_same (Equal a b n) (Equal c d o) y z y' z' e = (cc, cc, cc)
  asks_same (Equal a b n) (StateTest v ix x) y z y' z' e = (cc, cc, cc)
  asks_same (StateTest v ix x) (Value d o) y z y' z' e = (cc, cc, cc)
  asks_same (StateTest v ix x) (Equal a b o) y z y' z' e = (cc, cc, cc)
  asks_same (StateTest v ix x) (StateTest w iy u) y z y' z' e = (cc, cc, cc)

  leaves_same : (l l' : Leaf) → IsBare l → IsBare l' → row_of number (node.Leaf l) ≡ row_of number (node.Leaf l') → l ≡ l'
  leaves_same Race l' a b e = absurd a
  leaves_same (Goes g) Race a b e = absurd b
  leaves_same (Goes g) (Goes h) a b e =
      let outs : g.outs ≡ h.outs = cc in
      let ups : g.ups ≡ h.ups = cc in
      λ x. Goes (record { outs = outs x; ups = ups x; reads = (a.0 ∙ sym b.0) x; writes = (a.1 ∙ sym b.1) x })

  ask_side : (t : Test) (y z : ℕ) (m : Arrays) (k : List ℕ) → side (row_of number (node.Ask t y z)) m k ≡ Some (cond (passes t m k) (number y) (number z))
  ask_side (Value c n) y z m k = refl
  ask_side (Equal a b n) y z m k = refl
  ask_side (StateTest v ix x) y z m k = refl

  ask_is_test : (t : Test) (y z : ℕ) → is_test (row_of number (node.Ask t y z)) ≡ true
  ask_is_test (Value c n) y z = refl
  ask_is_test (Equal a b n) y z = refl
  ask_is_test (StateTest v ix x) y z = refl

  leaf_side : (l : Leaf) (m : Arrays) (k : List ℕ) → side (row_of number (node.Leaf l)) m k ≡ None
  leaf_side Race m k = refl
  leaf_side (Goes g) m k = refl

module _ (p : Program) (ns : List (Node Leaf)) (top : ℕ) (ids : List ℕ) (number : ℕ → ℕ) (t : Tables) (arena : IsArena ns) (num : IsNumbering ns top ids number) (shows : Shows ns ids number t) where
  is_node : (d : ℕ) (n : Node Leaf) → slice_get ns d ≡ Some n → IsNodeOf ns d n
  is_node d n e = shared.node_of ns d n e (arena.lower d n e)

  same_id : (i d : ℕ) (b : Row) → slice_get ids i ≡ Some d → (o : IsOf ns ids number i b) → slice_get ns d ≡ Some o.node
  same_id i d b e o = subst (λ x. slice_get ns x ≡ Some o.node) (same_Some o.id d (sym o.at ∙ e)) o.is

  -- the leaf of number i by the store and packet
  record Leafs (d : ℕ) (m : Arrays) (k : List ℕ) (ups : List Update) (outs : List Parts) : Type 0 where
    leaf : Leaf
    walked : walk (diagram ns d) m k ≡ leaf
    row : Last ups outs ≡ row_of number (node.Leaf leaf)

  -- the walk of the tables from a number is the walk of its diagram
  walks : (m : Arrays) (k : List ℕ) (ups : List Update) (outs : List Parts) {i v : ℕ} (d : ℕ) → slice_get ids i ≡ Some d → Comes t k is_test m i v → node_of t v ≡ Some (Last ups outs) → Leafs d m k ups outs
  walks m k ups outs {i = i} d at here last = by o.node (same_id i d (Last ups outs) at o) o.row
    where
      o : IsOf ns ids number i (Last ups outs)
      o = shows.each i (Last ups outs) last

      by : (n : Node Leaf) → slice_get ns d ≡ Some n → Last ups outs ≡ row_of number n → Leafs d m k ups outs
      by (node.Leaf l) is row = record { leaf = l; walked = ap (λ (x : Diagram). walk x m k) (is_node d (node.Leaf l) is); row = row }
      by (node.Ask test y z) is row = absurd (last_no_ask number ups outs test y z row)
  walks m k ups outs {i = i} d at (on {x = x} {b = b} node' yes_p way rest) last = by o.node (same_id i d b at o) o.row (λ d' at'. walks m k ups outs d' at' rest last)
    where
      o : IsOf ns ids number i b
      o = shows.each i b node'

      by : (n : Node Leaf) → slice_get ns d ≡ Some n → b ≡ row_of number n → ((d' : ℕ) → slice_get ids x ≡ Some d' → Leafs d' m k ups outs) → Leafs d m k ups outs
      by (node.Leaf l) is row go = absurd (none-some x (sym (ap (λ b. side b m k) row ∙ leaf_side number l m k) ∙ way))
      by (node.Ask test y z) is row go = chosen (passes test m k) refl
        where
          shape : diagram ns d ≡ Asks test (diagram ns y) (diagram ns z)
          shape = (is_node d (node.Ask test y z) is).0

          gone : Some (cond (passes test m k) (number y) (number z)) ≡ Some x
          gone = sym (ap (λ b. side b m k) row ∙ ask_side number test y z m k) ∙ way

          walked : (c : Bool) → passes test m k ≡ c → walk (diagram ns d) m k ≡ cond c (walk (diagram ns y) m k) (walk (diagram ns z) m k)
          walked c e = ap (λ (x : Diagram). walk x m k) shape ∙ ap (λ c. cond c (walk (diagram ns y) m k) (walk (diagram ns z) m k)) e

          chosen : (c : Bool) → passes test m k ≡ c → Leafs d m k ups outs
          chosen true e =
              let to : number y ≡ x = same_Some (number y) x (sym (ap (λ c. Some (cond c (number y) (number z))) e) ∙ gone) in
              let r = go y (subst (λ v. slice_get ids v ≡ Some y) to (num.yes_side i d y z test at is).1) in
              record { leaf = r.leaf; walked = walked true e ∙ r.walked; row = r.row }
          chosen false e =
              let to : number z ≡ x = same_Some (number z) x (sym (ap (λ c. Some (cond c (number y) (number z))) e) ∙ gone) in
              let r = go z (subst (λ v. slice_get ids v ≡ Some z) to (num.no_side i d y z test at is).1) in
              record { leaf = r.leaf; walked = walked false e ∙ r.walked; row = r.row }

  gives : (m : Arrays) (k : List ℕ) (o : Meaning) (l : Leaf) (ups : List Update) (outs : List Parts) → LeafGives l m k o → Last ups outs ≡ row_of number (node.Leaf l)
      → (o.packets ≡ results outs k) × ((q : Place) → o.arrays q ≡ updates m ups k q)
  gives m k o Race ups outs h e = absurd h
  gives m k o (Goes g) ups outs h e =
      let same_outs : g.outs ≡ outs = cc in
      let same_ups : g.ups ≡ ups = cc in
      (h.0 ∙ ap (λ l. results l k) same_outs, λ q. h.1 q ∙ ap (λ l. updates m l k q) same_ups)

  pub means : IsOutcomeOf p (diagram ns top) → HasMeaning p.body (count p.fields) t
  means outcome m k store packet n ups outs comes last o e =
      let w = walks m k ups outs top num.first comes last in
      gives m k o w.leaf ups outs (subst (λ l. LeafGives l m k o) w.walked (outcome m k o store packet e)) w.row

  -- ---- live
  -- the inputs that come to a number
  abbrev Coming : ℕ → Arrays → List ℕ → Type 0
  Coming i m k = IsInput (count p.fields) (length p.arrays) m k × Comes t k is_test m 0 i

  module _ (j : ℕ) (c : Row) (some : node_of t j ≡ Some c) where
    is_row : (i d : ℕ) (n : Node Leaf) → slice_get ids i ≡ Some d → slice_get ns d ≡ Some n → node_of t i ≡ Some (row_of number n)
    is_row i d n at is = shows.all j c some i (row_of number n) (record { id = d; node = n; at = at; is = is; row = refl })

    -- what is so of a node to which ways lead
    record Reaches (d : ℕ) : Type 0 where
      at : slice_get ids (number d) ≡ Some d
      live : IsLive (Coming (number d)) (diagram ns d)
      bare : HasBareLeaves (diagram ns d)

    one_way : (d e : ℕ) (test : Test) (y z : ℕ) (w : Bool) → e ≡ cond w y z → slice_get ids (number d) ≡ Some d → slice_get ns d ≡ Some (node.Ask test y z)
        → (m : Arrays) (k : List ℕ) → With (Coming (number d)) test w m k → Coming (number e) m k
    one_way d e test y z w same at is m k g = (
      g.0.0,
      joined t k is_test m g.0.1
          (on (is_row (number d) d (node.Ask test y z) at is) (ask_is_test number test y z) (ask_side number test y z m k ∙ ap (λ c. Some (cond c (number y) (number z))) g.1 ∙ by w same) here),
    )
      where
        by : (w : Bool) → e ≡ cond w y z → Some (cond w (number y) (number z)) ≡ Some (number e)
        by true e' = ap (λ x. Some (number x)) (sym e')
        by false e' = ap (λ x. Some (number x)) (sym e')

    reaches : IsLive (IsInput (count p.fields) (length p.arrays)) (diagram ns top) → HasBareLeaves (diagram ns top) → {d : ℕ} → Leads ns top d → Reaches d
    reaches live bare shown.here =
        let zero_is = num.own 0 top num.first in
        record {
          at = subst (λ i. slice_get ids i ≡ Some top) (sym zero_is) num.first;
          live = subst (λ i. IsLive (Coming i) (diagram ns top)) (sym zero_is) (live_weaker (IsInput (count p.fields) (length p.arrays)) (Coming 0) (λ m k input. (input, here)) (diagram ns top) live);
          bare = bare;
        }
    reaches live bare (yes_way {d = d} {y = y} {z = z} {t = test} chain is) =
        let c = reaches live bare chain in
        let shape = (is_node d (node.Ask test y z) is).0 in
        let l : IsLive (Coming (number d)) (Asks test (diagram ns y) (diagram ns z)) = subst (IsLive (Coming (number d))) shape c.live in
        let b : HasBareLeaves (Asks test (diagram ns y) (diagram ns z)) = subst HasBareLeaves shape c.bare in
        record {
          at = (num.yes_side (number d) d y z test c.at is).1;
          live = live_weaker (With (Coming (number d)) test true) (Coming (number y)) (one_way d y test y z true refl c.at is) (diagram ns y) l.2;
          bare = b.0;
        }
    reaches live bare (no_way {d = d} {y = y} {z = z} {t = test} chain is) =
        let c = reaches live bare chain in
        let shape = (is_node d (node.Ask test y z) is).0 in
        let l : IsLive (Coming (number d)) (Asks test (diagram ns y) (diagram ns z)) = subst (IsLive (Coming (number d))) shape c.live in
        let b : HasBareLeaves (Asks test (diagram ns y) (diagram ns z)) = subst HasBareLeaves shape c.bare in
        record {
          at = (num.no_side (number d) d y z test c.at is).1;
          live = live_weaker (With (Coming (number d)) test false) (Coming (number z)) (one_way d z test y z false refl c.at is) (diagram ns z) l.3;
          bare = b.1;
        }

  -- ways with one number are one
  same_way : (x y : ℕ) → slice_get ids (number x) ≡ Some x → slice_get ids (number y) ≡ Some y → number x ≡ number y → x ≡ y
  same_way x y a b e = same_Some x y (sym a ∙ ap (slice_get ids) e ∙ b)

  met : (i : ℕ) (test : Test) (way : Bool) → Someone (With (Coming i) test way) → IsMet p t i test way
  met i test way s = record { m = number_in s.entries; k = s.packet; input = s.is.0.0; comes = s.is.0.1; goes = s.is.1 }

  ask_used : (i : ℕ) (test : Test) (y z : ℕ) → ((way : Bool) → IsMet p t i test way) → number y ≢ number z → IsUsed p t i (row_of number (node.Ask test y z))
  ask_used i (Value c n) y z m ne = record { met = m; differ = ne }
  ask_used i (Equal a b n) y z m ne = record { met = m; differ = ne }
  ask_used i (StateTest v ix x) y z m ne = record { met = m; differ = ne }

  leaf_used : (i : ℕ) (l : Leaf) → IsUsed p t i (row_of number (node.Leaf l))
  leaf_used i Race = tt
  leaf_used i (Goes g) = tt

  module _ (live : IsLive (IsInput (count p.fields) (length p.arrays)) (diagram ns top)) (bare : HasBareLeaves (diagram ns top)) where
    here_live : (i : ℕ) (b : Row) → node_of t i ≡ Some b → (o : IsOf ns ids number i b) → IsLive (Coming i) (diagram ns o.id) × HasBareLeaves (diagram ns o.id)
    here_live i b some o =
        let c = reaches i b some live bare (num.reached i o.id o.at) in
        (subst (λ x. IsLive (Coming x) (diagram ns o.id)) (num.own i o.id o.at) c.live, c.bare)

    used : (i : ℕ) (b : Row) → node_of t i ≡ Some b → IsUsed p t i b
    used i b some = by o.node o.is o.row
      where
        o : IsOf ns ids number i b
        o = shows.each i b some

        by : (n : Node Leaf) → slice_get ns o.id ≡ Some n → b ≡ row_of number n → IsUsed p t i b
        by (node.Leaf l) is row = subst (IsUsed p t i) (sym row) (leaf_used i l)
        by (node.Ask test y z) is row =
            let l : IsLive (Coming i) (Asks test (diagram ns y) (diagram ns z)) = subst (IsLive (Coming i)) (is_node o.id (node.Ask test y z) is).0 (here_live i b some o).0 in
            subst (IsUsed p t i) (sym row)
            (ask_used i test y z (both l.0 l.1)
            (λ e. (arena.lower o.id (node.Ask test y z) is).2 (same_way y z (num.yes_side i o.id y z test o.at is).1 (num.no_side i o.id y z test o.at is).1 e)))
          where
            both : Someone (With (Coming i) test true) → Someone (With (Coming i) test false) → (way : Bool) → IsMet p t i test way
            both a b true = met i test true a
            both a b false = met i test false b

    bare_leaf : (i : ℕ) (b : Row) (some : node_of t i ≡ Some b) (o : IsOf ns ids number i b) (l : Leaf) → slice_get ns o.id ≡ Some (node.Leaf l) → IsBare l
    bare_leaf i b some o l is = subst HasBareLeaves (is_node o.id (node.Leaf l) is) (here_live i b some o).1

    same : (i j : ℕ) (b : Row) → node_of t i ≡ Some b → node_of t j ≡ Some b → i ≡ j
    same i j b some also = sym (num.own i oi.id oi.at) ∙ ap number (arena.once oi.id oj.id oj.node (by oi.node oj.node oi.is oj.is (sym oi.row ∙ oj.row)) oj.is) ∙ num.own j oj.id oj.at
      where
        oi : IsOf ns ids number i b
        oi = shows.each i b some

        oj : IsOf ns ids number j b
        oj = shows.each j b also

        by : (n n' : Node Leaf) → slice_get ns oi.id ≡ Some n → slice_get ns oj.id ≡ Some n' → row_of number n ≡ row_of number n' → slice_get ns oi.id ≡ Some n'
        by (node.Leaf l) (node.Leaf l') is is' e = is ∙ ap (λ x. Some (node.Leaf x)) (leaves_same number l l' (bare_leaf i b some oi l is) (bare_leaf j b also oj l' is') e)
        by (node.Leaf l) (node.Ask test y z) is is' e = absurd (leaf_no_ask number l test y z e)
        by (node.Ask test y z) (node.Leaf l) is is' e = absurd (leaf_no_ask number l test y z (sym e))
        by (node.Ask test y z) (node.Ask test' y' z') is is' e =
            let parts = asks_same number test test' y z y' z' e in
            is ∙ (λ x. Some (node.Ask (parts.0 x)
            (same_way y y' (num.yes_side i oi.id y z test oi.at is).1 (num.yes_side j oj.id y' z' test' oj.at is').1 parts.1 x)
            (same_way z z' (num.no_side i oi.id y z test oi.at is).1 (num.no_side j oj.id y' z' test' oj.at is').1 parts.2 x)))

pub shown_mean : ShownTablesMean
shown_mean p ns top ids number t arena num shows outcome = means p ns top ids number t arena num shows outcome

pub shown_live : ShownTablesAreLive
shown_live p ns top ids number t arena num shows live bare = record {
  used = used p ns top ids number t arena num shows live bare;
  one = same p ns top ids number t arena num shows live bare;
}
