-- Ports, and the packets that go to them.
use Rattle.std.proofs.Common.{◌≡◌, ℕ, zero, suc, ◌<◌, get_or, Option, None, sym, subst, ⊎_elim, ◌+◌, ◌-◌, ◌≤◌, Bool, true, false, not, ◌==◌, List, [], ◌∷◌, map, length, Some, refl, ap, ap₂, ◌∙◌, arith}
use Rattle.std.specs.Prelude.{◌||◌, if◌then◌else◌, IfSome, is_some, slice_index, slice_get, option_map, nat_lt}
use Rattle.std.specs.List.{list_any, filter}
use Rattle.std.specs.List.Sorted.{IsStrictlySortedBy, IsPartitionedBy, IsPartitionPoint}
use Rattle.std.specs.Ordering.{nat_cmp}
use Rattle.std.proofs.lemmas.Bool.{eqb-true, eq-eqb, false≢true, cases_lt}
use Rattle.std.proofs.lemmas.Bool.Decides.{nat_tests}
use Rattle.std.proofs.lemmas.Map.Keys.{below_from_sorted}
use Rattle.std.proofs.lemmas.Option.{slice_get_within, get_or_from_slice_get, same_Some}
use Rattle.std.proofs.lemmas.List.{length-map, get_or-map}
use Rattle.std.proofs.lemmas.List.Filters.{length-filter_both}
use Rattle.snap_core.specs.declared.ports.PortAt.{PortAt}
use Rattle.snap_core.specs.Packets.{listed}
use Rattle.snap_core.specs.Switch.{goes_out}
use Rattle.snap_core.specs.Tests.{after_out, results}
use Rattle.snap_core.proofs.EvalLemmas.{listed-one}
use Rattle.snap_rows.specs.declared.tables.Tables.{Tables}
use Rattle.snap_rows.specs.Actions.{Fork}
use Rattle.snap_rows.specs.declared.head.Sent.{Sent}
use Rattle.snap_core.specs.Ports.{port_in}
use Rattle.snap_rows.specs.Entries.{Parts, port_numbers}
use Rattle.snap_rows.specs.Handles.{sent, forked}
use Rattle.snap_rows.specs.Places.{port_said}
use Rattle.snap_rows.specs.Stepping.{IsSpread, lost_to, sent_to}

-- a number is that of a port where it has a switch
pub port_is_found : (ps : List PortAt) (n : ℕ) → list_any (λ port. port == n) (map (λ (p : PortAt). p.port) ps) ≡ is_some (port_in ps n)
port_is_found [] n = refl
port_is_found (p ∷ ps) n = by (p.port == n) (port_is_found ps n)
  where
    by : (b : Bool) → list_any (λ port. port == n) (map (λ (q : PortAt). q.port) ps) ≡ is_some (port_in ps n)
        → (b || list_any (λ port. port == n) (map (λ (q : PortAt). q.port) ps)) ≡ is_some (if b then Some p.at else port_in ps n)
    by true rest = refl
    by false rest = rest

-- a port's entry
pub port_entry : (ps : List PortAt) (n w : ℕ) → port_in ps n ≡ Some w → (i : ℕ) × (p : PortAt) × (slice_get ps i ≡ Some p) × (p.port ≡ n) × (p.at ≡ w)
port_entry [] n w e = absurd (false≢true (ap (λ (o : Option ℕ). is_some o) e))
port_entry (q ∷ ps) n w e = by (q.port == n) refl e (port_entry ps n w)
  where
    by : (b : Bool) → (q.port == n) ≡ b → (if b then Some q.at else port_in ps n) ≡ Some w → (port_in ps n ≡ Some w → (i : ℕ) × (p : PortAt) × (slice_get ps i ≡ Some p) × (p.port ≡ n) × (p.at ≡ w))
        → (i : ℕ) × (p : PortAt) × (slice_get (q ∷ ps) i ≡ Some p) × (p.port ≡ n) × (p.at ≡ w)
    by true c h rest = (0, q, refl, eqb-true q.port n c, same_Some _ _ h)
    by false c h rest = let r = rest h in (suc r.0, r.1, r.2, r.3, r.4)

port_absent : (ps : List PortAt) (n i : ℕ) (p : PortAt) → port_in ps n ≡ None → slice_get ps i ≡ Some p → p.port ≡ n → ⊥
port_absent [] n i p none is e = false≢true (ap (λ (o : Option PortAt). is_some o) is)
port_absent (q ∷ ps) n i p none is e = by (q.port == n) refl none i is (λ j. port_absent ps n j p)
  where
    by : (b : Bool) → (q.port == n) ≡ b → (if b then Some q.at else port_in ps n) ≡ None → (i : ℕ) → slice_get (q ∷ ps) i ≡ Some p → ((j : ℕ) → port_in ps n ≡ None → slice_get ps j ≡ Some p → p.port ≡ n → ⊥) → ⊥
    by true c h i is rest = false≢true (sym (ap (λ (o : Option ℕ). is_some o) h))
    by false c h zero is rest = false≢true (sym c ∙ eq-eqb q.port n (ap (λ (x : PortAt). x.port) (same_Some _ _ is) ∙ e))
    by false c h (suc j) is rest = rest j h is e

port_below : (ps : List PortAt) → IsStrictlySortedBy nat_cmp (map (λ (p : PortAt). p.port) ps) → (i j : ℕ) (d : PortAt) → i < j → j < length ps → (get_or ps i d).port < (get_or ps j d).port
port_below ps rise i j d less within =
    let far : j < length (map (λ (p : PortAt). p.port) ps) = subst (λ n. j < n) (sym (length-map ps (λ (p : PortAt). p.port))) within in
    let low : i < length ps = omega arith in
    subst (λ n. n < (get_or ps j d).port) (get_or-map (λ (p : PortAt). p.port) ps i d 0 low)
    (subst (λ n. get_or (map (λ (p : PortAt). p.port) ps) i 0 < n) (get_or-map (λ (p : PortAt). p.port) ps j d 0 within) (below_from_sorted (map (λ (p : PortAt). p.port) ps) i j 0 rise less far))

pub ports_parted : (ps : List PortAt) → IsStrictlySortedBy nat_cmp (map (λ (p : PortAt). p.port) ps) → (n : ℕ) → IsPartitionedBy (λ (p : PortAt). nat_lt p.port n) ps
ports_parted ps rise n i j d le within before = ⊎_elim
    (λ lt. let h = port_below ps rise i j d lt within in grind (arith, nat_tests, h, before))
    (λ ge. let same : j ≡ i = omega arith in subst (λ k. nat_lt (get_or ps k d).port n ≡ true) same before)
    (cases_lt i j)

-- a port of the number stands where the search ends
port_there : (ps : List PortAt) → IsStrictlySortedBy nat_cmp (map (λ (p : PortAt). p.port) ps) → (n i j : ℕ) (p : PortAt) → IsPartitionPoint (λ (p : PortAt). nat_lt p.port n ≡ true) (λ (p : PortAt). nat_lt p.port n ≡ false) ps i → slice_get ps j ≡ Some p → p.port ≡ n → j ≡ i
port_there ps rise n i j p point is e =
    let within : j < length ps = slice_get_within ps j p is in
    let number : (get_or ps j p).port ≡ n = ap (λ (x : PortAt). x.port) (get_or_from_slice_get ps j p p is) ∙ e in
    ⊎_elim
    (λ lt. let before = point.0 j p (omega arith) lt in absurd (let no' : ⊥ = grind (arith, nat_tests, number, before) in no'))
    (λ ge. ⊎_elim
    (λ lt. let after = point.1 i p (omega arith) (omega arith) in let less = port_below ps rise i j p lt within in absurd (let no' : ⊥ = grind (arith, nat_tests, number, after, less) in no'))
    (λ le. omega arith)
    (cases_lt i j))
    (cases_lt j i)

-- two ports of one number are one
one_port : (ps : List PortAt) → IsStrictlySortedBy nat_cmp (map (λ (p : PortAt). p.port) ps) → (i j : ℕ) (p q : PortAt) → slice_get ps i ≡ Some p → slice_get ps j ≡ Some q → p.port ≡ q.port → i ≡ j
one_port ps rise i j p q is there e =
    let m : i < length ps = slice_get_within ps i p is in
    let n : j < length ps = slice_get_within ps j q there in
    let a : (get_or ps i p).port ≡ p.port = ap (λ (x : PortAt). x.port) (get_or_from_slice_get ps i p p is) in
    let b : (get_or ps j p).port ≡ q.port = ap (λ (x : PortAt). x.port) (get_or_from_slice_get ps j q p there) in
    ⊎_elim
    (λ lt. let less = port_below ps rise i j p lt n in omega arith)
    (λ ge. ⊎_elim (λ lt. let less = port_below ps rise j i p lt m in omega arith) (λ le. omega arith) (cases_lt j i))
    (cases_lt i j)

pub port_said_there : (ps : List PortAt) → IsStrictlySortedBy nat_cmp (map (λ (p : PortAt). p.port) ps) → (n i : ℕ) → IsPartitionPoint (λ (p : PortAt). nat_lt p.port n ≡ true) (λ (p : PortAt). nat_lt p.port n ≡ false) ps i
    → option_map (λ (p : PortAt). p.at) (port_said (slice_get ps i) n) ≡ port_in ps n
port_said_there ps rise n i point = by (port_in ps n) refl
  where
    other : (o : Option PortAt) → slice_get ps i ≡ o → port_in ps n ≡ None → option_map (λ (p : PortAt). p.at) (port_said o n) ≡ None
    other None is none = refl
    other (Some p) is none = case (p.port == n) refl
      where
        case : (b : Bool) → (p.port == n) ≡ b → option_map (λ (p : PortAt). p.at) (if b then Some p else None) ≡ None
        case true c = absurd (port_absent ps n i p none is (eqb-true p.port n c))
        case false c = refl

    by : (o : Option ℕ) → port_in ps n ≡ o → option_map (λ (p : PortAt). p.at) (port_said (slice_get ps i) n) ≡ port_in ps n
    by None e = other (slice_get ps i) refl e ∙ sym e
    by (Some w) e =
        let r = port_entry ps n w e in
        let same : r.0 ≡ i = port_there ps rise n i r.0 r.1 point r.2 r.3 in
        ap (λ o. option_map (λ (p : PortAt). p.at) (port_said o n)) (ap (slice_get ps) (sym same) ∙ r.2)
        ∙ ap (λ b. option_map (λ (p : PortAt). p.at) (if b then Some r.1 else None)) (eq-eqb r.1.port n r.3)
        ∙ ap Some r.4 ∙ sym e

-- the port at a place is that of its number
pub port_here : (ps : List PortAt) → IsStrictlySortedBy nat_cmp (map (λ (p : PortAt). p.port) ps) → (n i : ℕ) (p : PortAt) → port_said (slice_get ps i) n ≡ Some p → Some p.at ≡ port_in ps n
port_here ps rise n i p said = by (slice_get ps i) refl said
  where
    one : (q : PortAt) → slice_get ps i ≡ Some q → q.port ≡ n → (o : Option ℕ) → port_in ps n ≡ o → Some q.at ≡ o
    one q is number None none = absurd (port_absent ps n i q none is number)
    one q is number (Some w) e =
        let r = port_entry ps n w e in
        let same : r.0 ≡ i = one_port ps rise r.0 i r.1 q r.2 is (r.3 ∙ sym number) in
        ap Some (ap (λ (x : PortAt). x.at) (same_Some _ _ (sym is ∙ ap (slice_get ps) (sym same) ∙ r.2)) ∙ r.4)

    by : (o : Option PortAt) → slice_get ps i ≡ o → port_said o n ≡ Some p → Some p.at ≡ port_in ps n
    by None is e = absurd (false≢true (ap (λ (o : Option PortAt). is_some o) e))
    by (Some q) is e = case (q.port == n) refl e
      where
        case : (b : Bool) → (q.port == n) ≡ b → (if b then Some q else None) ≡ Some p → Some p.at ≡ port_in ps n
        case true c f = ap (λ (x : PortAt). Some x.at) (sym (same_Some _ _ f)) ∙ one q is (eqb-true q.port n c) (port_in ps n) refl
        case false c f = absurd (false≢true (ap (λ (o : Option PortAt). is_some o) f))

-- the packets that don't go to a port are lost
pub forks_so : (t : Tables) (os : List Parts) (k : List ℕ) (ks : List (List ℕ)) (copies : List Sent) → ks ≡ listed (results os k) → copies ≡ map sent (filter (goes_out (port_numbers t)) ks)
    → (length copies ≤ length ks) × (Fork copies (length ks - length copies) ≡ forked t os k)
forks_so t os k ks copies are go =
    let out = goes_out (port_numbers t) in
    let few : length copies ≡ length (filter out ks) = ap length go ∙ length-map (filter out ks) sent in
    let both : length (filter out ks) + length (filter (λ l. not (out l)) ks) ≡ length ks = length-filter_both out (λ l. not (out l)) (λ l. refl) ks in
    let rest : length ks - length copies ≡ length (filter (λ l. not (out l)) ks) = omega arith in
    (omega arith, ap₂ Fork (go ∙ ap (λ ls. map sent (filter out ls)) are) (rest ∙ ap (λ ls. length (filter (λ l. not (out l)) ls)) are))

-- what the one packet of an out becomes
forks_one : (t : Tables) (o : Parts) (k k' : List ℕ) (b : Bool) → k' ≡ after_out o k → goes_out (port_numbers t) k' ≡ b → forked t (o ∷ []) k ≡ Fork (map sent (if b then k' ∷ [] else [])) (length (if not b then k' ∷ [] else []))
forks_one t o k k' b after goes =
    let out = goes_out (port_numbers t) in
    let all : listed (results (o ∷ []) k) ≡ k' ∷ [] = listed-one (after_out o k) ∙ ap (λ l. l ∷ []) (sym after) in
    ap (λ ls. Fork (map sent (filter out ls)) (length (filter (λ l. not (out l)) ls))) all
    ∙ ap (λ b. Fork (map sent (if b then k' ∷ [] else [])) (length (if not b then k' ∷ [] else []))) goes

pub fork_sent : (t : Tables) (o : Parts) (k k' : List ℕ) → k' ≡ after_out o k → goes_out (port_numbers t) k' ≡ true → Fork (sent k' ∷ []) 0 ≡ forked t (o ∷ []) k
fork_sent t o k k' after goes = sym (forks_one t o k k' true after goes)

pub fork_lost : (t : Tables) (o : Parts) (k k' : List ℕ) → k' ≡ after_out o k → goes_out (port_numbers t) k' ≡ false → Fork [] 1 ≡ forked t (o ∷ []) k
fork_lost t o k k' after goes = sym (forks_one t o k k' false after goes)

pub spread_one : (t : Tables) (o : Parts) (k k' : List ℕ) (port : Option ℕ) → k' ≡ after_out o k → is_some port ≡ goes_out (port_numbers t) k' → IfSome port (λ p. p ≡ slice_index k' 1) → IsSpread t (o ∷ []) k (sent_to port k') (lost_to port)
spread_one t o k k' None after goes same = fork_lost t o k k' after (sym goes)
spread_one t o k k' (Some p) after goes same = ap (λ p. Fork (record { port = p; packet = k' } ∷ []) 0) same ∙ fork_sent t o k k' after (sym goes)
