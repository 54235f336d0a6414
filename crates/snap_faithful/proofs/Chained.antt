-- Ways, visits and chains are determined, and the next visit of a chain is at home.
use Rattle.std.proofs.Common.{◌≡◌, ℕ, ◌+◌, ◌<◌, Bool, true, cond, List, [], Some, refl, sym, ap, subst, ◌∙◌, arith}
use Rattle.std.specs.Prelude.{nat_eq}
use Rattle.std.specs.List.{filter}
use Rattle.std.proofs.lemmas.Bool.{both_ways}
use Rattle.snap_core.specs.declared.policy.Update.{Update}
use Rattle.snap_core.specs.Arrays.{Arrays}
use Rattle.snap_rows.specs.declared.tables.Tables.{Tables}
use Rattle.snap_rows.specs.declared.tables.Row.{Row}
use Rattle.snap_rows.specs.declared.tables.Row.TheVariants.{Field, Last}
use Rattle.snap_rows.specs.Entries.{row_at, rank_at, rank_of, ranks}
use Rattle.snap_rows.specs.Home.{IsVisitAtHome}
use Rattle.snap_rows.specs.Handles.{side, is_field, is_test, is_ranked, Follows, arrives, follows, Visits, cut}
use Rattle.std.proofs.lemmas.Option.{same_Some}
use Rattle.snap_rows.proofs.Rows.{row_form, nodes}
use Rattle.snap_rows.proofs.Visited.{visit_end}
use Rattle.snap_rows.proofs.Later.{next_home, enter_home}
use Rattle.snap_faithful.specs.Visits.{Enters, Chained, begun, visited}
use Rattle.snap_faithful.specs.Chains.{VisitsAreOne, ChainsAreOne, FieldsGoAlike, ChainsAreAtHome}
use Rattle.snap_faithful.proofs.Nodes.{IsTwo}
use Rattle.snap_rows.proofs.OwnReads.{field_passes}
use Rattle.snap_faithful.proofs.Walks.{stops}

follows_one : (t : Tables) (w : ℕ) (k : List ℕ) (p : Row → Bool) (m : Arrays) {n v x : ℕ} → Follows t w k p m n v → Follows t w k p m n x → v ≡ x
follows_one t w k p m (arrives row no_p) (arrives row' no_p') = refl
follows_one t w k p m (arrives row no_p) (follows row' yes_p way rest) = absurd (both_ways _ (ap p (same_Some _ _ (sym row' ∙ row)) ∙ no_p) yes_p)
follows_one t w k p m (follows row yes_p way rest) (arrives row' no_p) = absurd (both_ways _ (ap p (same_Some _ _ (sym row ∙ row')) ∙ no_p) yes_p)
follows_one t w k p m {x = x} (follows {x = a} row yes_p way rest) (follows {x = b} row' yes_p' way' rest') =
    let same = same_Some _ _ (sym way ∙ ap (λ y. side y m k) (same_Some _ _ (sym row ∙ row')) ∙ way') in
    follows_one t w k p m rest (subst (λ y. Follows t w k p m y x) (sym same) rest')

last_ups : List Update → Row → List Update
last_ups d (Last us os) = us
last_ups d _ = d

pub visits_one : VisitsAreOne
unfolding last_ups
visits_one t w k m r n v x us vs a b =
    let same = follows_one t w k (is_ranked t r) m a.number b.number in
    let leaf = follows_one t w k is_test (cut t r m) a.walk (subst (λ y. Follows t w k is_test (cut t r m) y b.leaf) (sym same) b.walk) in
    let rows = same_Some (Last a.ups a.outs) (Last b.ups b.outs) (sym a.row ∙ ap (row_at t w) leaf ∙ b.row) in
    (same, a.updates ∙ ap (filter (λ (u : Update). nat_eq (rank_of t u.var) r)) (ap (last_ups []) rows) ∙ sym b.updates)

module _ (t : Tables) (k : List ℕ) (m : Arrays) (n : ℕ) where
  by_rank : {r q v x : ℕ} → r ≡ q → Chained t k m n r v → Chained t k m n q x → v ≡ x
  by_rank e begun begun = refl
  by_rank e begun (visited {r = q} c own visit) = absurd (let f : 0 ≡ q + 1 = e in omega arith)
  by_rank e (visited {r = r} c own visit) begun = absurd (let f : r + 1 ≡ 0 = e in omega arith)
  by_rank e (visited {w = w} {r = r} {v = v} {x = x} {us = us} c own visit) (visited {w = w'} {r = q} {v = v'} {x = x'} {us = us'} c' own' visit') =
      let same : r ≡ q = (let f : r + 1 ≡ q + 1 = e in omega arith) in
      let at : v ≡ v' = by_rank same c c' in
      let there : w ≡ w' = same_Some _ _ (sym own ∙ ap (rank_at t) same ∙ own') in
      let v1 : Visits t w k m r v' x' us' = subst (λ y. Visits t y k m r v' x' us') (sym there) (subst (λ y. Visits t w' k m y v' x' us') (sym same) visit') in
      (visits_one t w k m r v x x' us us' visit (subst (λ y. Visits t w k m r y x' us') (sym at) v1)).0

pub chains_one : ChainsAreOne
chains_one t k m n r v x a b = by_rank t k m n refl a b

pub fields_alike : FieldsGoAlike
fields_alike t form w k m s n v (arrives row no_p) = arrives row no_p
fields_alike t form w k m s n v (follows {x = x} {b = b} row yes_p way rest) = follows row yes_p (by b row yes_p ∙ way) (fields_alike t form w k m s x v rest)
  where
    by : (b : Row) → row_at t w n ≡ Some b → is_field b ≡ true → side b s k ≡ side b m k
    by (Field test y z) row e = ap (λ (b : Bool). Some (cond b y z)) (field_passes s m k test (row_form t form w n (Field test y z) row).1)
    by _ row e = absurd (both_ways _ refl e)

-- where a packet's chain begins is determined
pub enters_one : (t : Tables) (k : List ℕ) (m : Arrays) (n x : ℕ) → Enters t k m n → Enters t k m x → n ≡ x
enters_one t k m n x a b = follows_one t a.at k is_field m a.fields (subst (λ y. Follows t y k is_field m 0 x) (same_Some _ _ (sym b.port ∙ a.port)) b.fields)

module _ (t : Tables) (two : IsTwo t) (k : List ℕ) where
  -- a visit at home leads to one at home
  pub home_on : (m : Arrays) (w r v x : ℕ) (us : List Update) → IsVisitAtHome t r v → rank_at t r ≡ Some w → Visits t w k m r v x us → r + 1 < ranks t → IsVisitAtHome t (r + 1) x
  home_on m w r v x us home own visit more =
      let there : home.owner ≡ w = same_Some _ _ (sym home.rank ∙ own) in
      let end = visit_end t two.valid two.form two.version (nodes t two.form) w k r m v x home.body (subst (λ y. row_at t y v ≡ Some home.body) there home.row) home.visited visit.number in
      next_home t two.valid two.version w x (r + 1) end.0 end.1 end.2 more

  pub home_first : (m : Arrays) (w n v : ℕ) → Follows t w k is_field m n v → 0 < ranks t → IsVisitAtHome t 0 v
  home_first m w n v f some =
      let stop = stops t k w is_field m f in
      enter_home t two.valid two.form two.version w v stop.0 stop.1 stop.2 (λ e. (omega (arith, some, e)))

  pub chain_home : (m : Arrays) (n : ℕ) → Enters t k m n → {r v : ℕ} → Chained t k m n r v → r < ranks t → IsVisitAtHome t r v
  chain_home m n enters begun low = home_first m enters.at 0 n enters.fields low
  chain_home m n enters (visited {w = w} {r = r} {v = v} {x = x} {us = us} c own visit) low = home_on m w r v x us (chain_home m n enters c (omega (arith, low))) own visit low

pub chains_home : ChainsAreAtHome
chains_home t form valid version k m n r v enters c low = chain_home t (record { form = form; valid = valid; version = version }) k m n enters c low
