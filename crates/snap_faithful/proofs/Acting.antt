-- A visit goes on where the walk does, and leaves the arrays of its rank as the program does.
use Rattle.std.proofs.Common.{◌≡◌, ◌≢◌, ℕ, ◌+◌, ◌≤◌, List, Option, Some, None, refl, sym, ap, ◌∙◌, arith}
use Rattle.std.specs.Prelude.{nat_eq, nat_lt, IfSome}
use Rattle.std.proofs.lemmas.Bool.{eqb-true, le-leb, ltb-true, cond-true}
use Rattle.snap_core.specs.declared.place.Place.{Place}
use Rattle.snap_core.specs.declared.policy.Pol.{Pol}
use Rattle.snap_core.specs.declared.policy.Update.{Update}
use Rattle.snap_core.specs.Arrays.{Arrays, updates}
use Rattle.snap_core.specs.Fits.{PolFits}
use Rattle.snap_core.specs.Inputs.{IsStore, IsPacket}
use Rattle.snap_core.specs.Meaning.{Meaning, eval}
use Rattle.snap_dep.specs.Ranks.{IsRank, IsRankIn}
use Rattle.snap_dep.specs.Locality.{AgreeOn, NeverRaces, cut, arrays_after}
use Rattle.snap_dep.proofs.ByRank.{acts, cut_store}
use Rattle.snap_dep.proofs.Below.{UsesBelow-fits}
use Rattle.snap_rows.specs.declared.tables.Tables.{Tables}
use Rattle.snap_rows.specs.declared.tables.Row.TheVariants.{Last}
use Rattle.snap_rows.specs.Entries.{node_of, rank_of}
use Rattle.snap_rows.specs.Rules.{MayFollow}
use Rattle.snap_rows.specs.Handles.{Visits, is_test, is_ranked}
use Rattle.snap_faithful.specs.Facts.{HasMeaning}
use Rattle.snap_faithful.specs.Visits.{Comes}
use Rattle.snap_faithful.proofs.Nodes.{IsTwo, own_node}
use Rattle.snap_faithful.proofs.Walks.{is_early, moved, joined, along, stops, begins, early_goes, ranked_goes, early_is_test, ranked_is_node, early_more, ranked_is_early, keeps_order, goes_beyond, tail, rank_updates, rank_keeps}
use Rattle.snap_rows.proofs.Able.{ranked_tests}

-- a program, and valid tables of version 2 that mean it
pub record Means (p : Pol) (c n : ℕ) (order : List ℕ) (t : Tables) : Type 0 where
  pub fits : PolFits c n p
  pub never : NeverRaces p c
  pub rank : IsRank p n order
  pub ranks : IsRankIn p n order (rank_of t)
  pub meaning : HasMeaning p c t
  pub two : IsTwo t

-- the walk on m comes to n after all its tests of fields and of ranks below r
pub record IsAt (t : Tables) (k : List ℕ) (m : Arrays) (r n : ℕ) : Type 0 where
  pub walk : Comes t k (is_early t r) m 0 n
  pub next : IfSome (node_of t n) (MayFollow t r)

-- whatever the other arrays hold, the visit of rank r goes on where the walk on m does, and leaves the arrays of its rank as the program does
pub record Acts (p : Pol) (t : Tables) (k : List ℕ) (m s : Arrays) (r v : ℕ) (us : List Update) : Type 0 where
  pub at : IsAt t k m (r + 1) v
  pub own : (q : Place) → rank_of t q.var ≡ r → IfSome (eval p m k) (λ (o : Meaning). updates s us k q ≡ o.arrays q)
  pub others : (q : Place) → rank_of t q.var ≢ r → updates s us k q ≡ s q

-- arrays of ranks up to r are as they were before the cut
up_to : (t : Tables) (r : ℕ) (m : Arrays) (q : Place) → rank_of t q.var ≤ r → m q ≡ cut (rank_of t) r m q
up_to t r m q l = sym (cond-true _ _ _ (le-leb (rank_of t q.var) r l))

through : (m : Arrays) (q : Place) (v w : ℕ) (x y : Option Meaning) → arrays_after m x q ≡ arrays_after m y q → y ≢ None → ((o : Meaning) → y ≡ Some o → o.arrays q ≡ w) → v ≡ w
    → IfSome x (λ (o : Meaning). v ≡ o.arrays q)
through m q v w None y e d h f = tt
through m q v w (Some a) None e d h f = absurd (d refl)
through m q v w (Some a) (Some b) e d h f = f ∙ sym (h b refl) ∙ sym e

pub visit_acts : (p : Pol) (c n : ℕ) (order : List ℕ) (t : Tables) → Means p c n order t → (m s : Arrays) (k : List ℕ) → IsStore m → IsPacket c k
    → (w r i v : ℕ) (us : List Update) → IsAt t k m r i → AgreeOn (λ x. nat_eq (rank_of t x) r) m s → Visits t w k s r i v us → Acts p t k m s r v us
visit_acts p c n order t means m s k store packet w r i v us at agree visit =
    let two = means.two in
    let ct : Arrays = cut (rank_of t) r m in
    let lower : AgreeOn (λ x. nat_lt (rank_of t x) r) m ct = λ q e. (let l = ltb-true (rank_of t q.var) r e in up_to t r m q (omega (arith, l))) in
    let level : AgreeOn (λ x. nat_eq (rank_of t x) r) s ct = λ q e. sym (agree q e) ∙ (let l = eqb-true (rank_of t q.var) r e in up_to t r m q (omega (arith, l))) in
    let back : AgreeOn (λ x. nat_eq (rank_of t x) r) s m = λ q e. sym (agree q e) in
    let number = along t k two w (is_ranked t r) s (ranked_is_node t k r) visit.number in
    let stop = stops t k w (is_ranked t r) s visit.number in
    let begin = begins t k w (cut (rank_of t) r s) visit.ups visit.outs visit.walk visit.row in
    let beyond = goes_beyond t k two r w v begin.0 stop.0 begin.1 begin.2 stop.1 stop.2 (keeps_order t k two r w s at.next visit.number) in
    let first = moved t k two (is_early t r) is_test m ct (early_goes t k r m ct lower is_test (early_is_test t k r)) at.walk in
    let second = moved t k two (is_ranked t r) is_test s ct (ranked_goes t k r s ct level is_test (ranked_tests t r)) number in
    let third = tail t k two r w m s beyond visit.walk in
    let whole = joined t k is_test ct (joined t k is_test ct first second) third in
    record {
      at = record {
        walk = joined t k (is_early t (r + 1)) m
            (moved t k two (is_early t r) (is_early t (r + 1)) m m (early_goes t k r m m (λ q e. refl) (is_early t (r + 1)) (early_more t k r)) at.walk)
            (moved t k two (is_ranked t r) (is_early t (r + 1)) s m (ranked_goes t k r s m back (is_early t (r + 1)) (ranked_is_early t k r)) number);
        next = beyond;
      };
      own = λ q e.
          through m q (updates s us k q) (updates ct visit.ups k q) (eval p m k) (eval p ct k)
          (acts p c n (UsesBelow-fits c n p means.fits) means.never order (rank_of t) means.rank means.ranks m k store packet r q (omega (arith, e)))
          (means.never ct k (cut_store (rank_of t) r m store) packet)
          (λ o is. (means.meaning ct k (cut_store (rank_of t) r m store) packet visit.leaf visit.ups visit.outs whole (own_node t two w visit.leaf (Last visit.ups visit.outs) visit.row refl) o is).1 q)
          (ap (λ l. updates s l k q) visit.updates ∙ rank_updates t k r visit.ups s ct level q e);
      others = λ q ne. ap (λ l. updates s l k q) visit.updates ∙ rank_keeps t k r visit.ups s q ne;
    }
