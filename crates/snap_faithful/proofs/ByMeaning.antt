-- A packet on its way through tables that mean a program.
use Rattle.std.proofs.Common.{◌≡◌, ℕ, ◌+◌, ◌<◌, ◌≤◌, Bool, true, false, List, Some, refl, sym, ap, subst, ◌∙◌, arith}
use Rattle.std.specs.Prelude.{nat_eq, IfSome}
use Rattle.std.proofs.lemmas.Bool.{eqb-true, eqb-false}
use Rattle.snap_core.specs.declared.place.Place.{Place}
use Rattle.snap_core.specs.declared.policy.Pol.{Pol}
use Rattle.snap_core.specs.declared.policy.Update.{Update}
use Rattle.snap_core.specs.Arrays.{Arrays, updates}
use Rattle.snap_core.specs.Inputs.{IsStore, IsPacket}
use Rattle.snap_core.specs.Meaning.{Meaning, eval}
use Rattle.snap_core.specs.Tests.{results}
use Rattle.snap_dep.specs.Locality.{AgreeOn}
use Rattle.snap_rows.specs.declared.tables.Tables.{Tables}
use Rattle.snap_rows.specs.declared.tables.Row.TheVariants.{Last}
use Rattle.snap_rows.specs.Entries.{Parts, row_at, rank_at, rank_of, ranks}
use Rattle.snap_rows.specs.Handles.{Visits, Follows, is_field, is_test}
use Rattle.snap_rows.proofs.Later.{rank_is_below}
use Rattle.snap_faithful.specs.InOrder.{StandsAt}
use Rattle.snap_faithful.proofs.Nodes.{IsTwo, own_node, may_begin}
use Rattle.snap_faithful.proofs.Walks.{is_early, moved, along, stops, early_goes, early_is_test, field_goes, field_is_node}
use Rattle.snap_faithful.proofs.Acting.{Means, IsAt, Acts, visit_acts}
use Rattle.snap_faithful.proofs.Guides.{Guide, Holds, after, after_own, after_other}

-- the number behind the field rows is where the walk begins, whatever the arrays
pub entered : (t : Tables) (two : IsTwo t) (k : List ℕ) (w v : ℕ) (s : Arrays) → Follows t w k is_field s 0 v → (m : Arrays) → IsAt t k m 0 v
entered t two k w v s follow m =
    let stop = stops t k w is_field s follow in
    record {
      walk = moved t k two is_field (is_early t 0) s m (field_goes t k s m) (along t k two w is_field s (field_is_node t k) follow);
      next = may_begin t two w v stop.0 stop.1 stop.2;
    }

-- the arrays of ranks below r are as after the packet, the others as before it
pub record IsMixed (t : Tables) (m : Arrays) (o : Meaning) (r : ℕ) (a : Arrays) : Type 0 where
  pub done : (q : Place) → rank_of t q.var < r → a q ≡ o.arrays q
  pub left : (q : Place) → r ≤ rank_of t q.var → a q ≡ m q

-- after the last visit the arrays that stand anywhere are the outcome's
pub record IsOutcome (t : Tables) (o : Meaning) (a : Arrays) : Type 0 where
  pub stands : (w : ℕ) (q : Place) → StandsAt t w q.var → a q ≡ o.arrays q

module _ (p : Pol) (c n : ℕ) (order : List ℕ) (t : Tables) (means : Means p c n order t) (m : Arrays) (k : List ℕ) (o : Meaning) (store : IsStore m) (packet : IsPacket c k) (outcome : eval p m k ≡ Some o) where
  pub begins : (w v : ℕ) (s a : Arrays) → ((q : Place) → a q ≡ m q) → Follows t w k is_field s 0 v → IsAt t k m 0 v × IsMixed t m o 0 a
  begins w v s a same follow = (entered t means.two k w v s follow m, record { done = λ q l. absurd (omega (arith, l)); left = λ q l. same q })

  pub on : (w r v x : ℕ) (s a : Arrays) (us : List Update) → IsAt t k m r v × IsMixed t m o r a → rank_at t r ≡ Some w → Holds t w s a → Visits t w k s r v x us
      → IsAt t k m (r + 1) x × IsMixed t m o (r + 1) (after t k r s us a)
  on w r v x s a us at own held visit = (acted.at, record { done = done; left = left })
    where
      level : AgreeOn (λ v. nat_eq (rank_of t v) r) m s
      level q e =
          let same = eqb-true (rank_of t q.var) r e in
          sym (held q (ap (rank_at t) same ∙ own) ∙ at.1.left q (omega (arith, same)))

      acted : Acts p t k m s r x us
      acted = visit_acts p c n order t means m s k store packet w r v x us at.0 level visit

      done : (q : Place) → rank_of t q.var < r + 1 → after t k r s us a q ≡ o.arrays q
      done q l = by (nat_eq (rank_of t q.var) r) refl
        where
          by : (b : Bool) → nat_eq (rank_of t q.var) r ≡ b → after t k r s us a q ≡ o.arrays q
          by true e =
              let same = eqb-true (rank_of t q.var) r e in
              after_own t k r s us a q same ∙ subst (λ x. IfSome x (λ (y : Meaning). updates s us k q ≡ y.arrays q)) outcome (acted.own q same)
          by false e = let ne = eqb-false (rank_of t q.var) r e in after_other t k r s us a q ne ∙ at.1.done q (omega (arith, l, ne))

      left : (q : Place) → r + 1 ≤ rank_of t q.var → after t k r s us a q ≡ m q
      left q l = after_other t k r s us a q (λ e. (omega (arith, l, e))) ∙ at.1.left q (omega (arith, l))

  pub ends : (w v : ℕ) (a : Arrays) (us : List Update) (os : List Parts) → IsAt t k m (ranks t) v × IsMixed t m o (ranks t) a → row_at t w v ≡ Some (Last us os) → (o.packets ≡ results os k) × IsOutcome t o a
  ends w v a us os at row =
      let walk = moved t k means.two (is_early t (ranks t)) is_test m m (early_goes t k (ranks t) m m (λ q e. refl) is_test (early_is_test t k (ranks t))) at.0.walk in (
        (means.meaning m k store packet v us os walk (own_node t means.two w v (Last us os) row refl) o outcome).0,
        record { stands = λ w q stands. at.1.done q (rank_is_below t (rank_of t q.var) w stands) },
      )

  abbrev pub by_meaning : Guide t k
  by_meaning = record {
    AtWalk = λ w a. ((q : Place) → a q ≡ m q);
    AtVisit = λ r v a. IsAt t k m r v × IsMixed t m o r a;
    AtEnd = λ set a. (o.packets ≡ set) × IsOutcome t o a;
    enters = begins;
    goes_on = on;
    ends = ends;
  }
