-- Each step leaves fewer steps to be made.
use Rattle.std.proofs.Common.{◌≡◌, ℕ, zero, suc, add-one, ◌+◌, ◌*◌, ◌<◌, ◌≤◌, Bool, true, false, cond, List, [], ◌∷◌, ◌++◌, map, take, drop, Option, Some, length, refl, sym, ap, subst, ◌∙◌, arith, filter}
use Rattle.std.specs.Prelude.{slice_get, is_some, sum_by}
use Rattle.std.specs.List.{All}
use Rattle.std.specs.FinMap.{contains_key, len, len-insert, len-entries, len-empty}
use Rattle.std.specs.Cmp.Lexicographic.{nat_list_cmp_total}
use Rattle.std.proofs.lemmas.Bool.{false≢true}
use Rattle.std.proofs.lemmas.List.{length-map, take-append-drop}
use Rattle.std.proofs.lemmas.List.Elements.{All-head, All-tail}
use Rattle.std.proofs.lemmas.List.Sums.{sum_by-cons, sum_by-append}
use Rattle.std.proofs.Math.Nat.{suc-mul, mul-le-mul_right}
use Rattle.snap_core.specs.Arrays.{Arrays}
use Rattle.snap_core.specs.Packets.{PacketSet, packet_cmp, listed, no_packets, with_packet}
use Rattle.snap_core.specs.Switch.{delivered, goes_out}
use Rattle.snap_core.specs.Tests.{results, results_from, after_out}
use Rattle.snap_rows.specs.declared.tables.RowAt.{RowAt}
use Rattle.snap_rows.specs.declared.tables.Tables.{Tables}
use Rattle.snap_rows.specs.declared.tables.Row.{Row}
use Rattle.snap_rows.specs.declared.tables.Row.TheVariants.{Leaf, Last}
use Rattle.snap_rows.specs.declared.head.Head.{Head}
use Rattle.snap_rows.specs.declared.head.Head.TheVariants.{Walk, Stage, Out, Visit}
use Rattle.snap_rows.specs.Actions.{Action, Forward, Deliver, Fork}
use Rattle.snap_rows.specs.declared.head.Sent.{Sent}
use Rattle.snap_rows.specs.Entries.{Parts, row_at, port_numbers, next}
use Rattle.snap_rows.specs.Form.{IsWellFormed, switch_count}
use Rattle.snap_rows.specs.Rules.{IsValid}
use Rattle.snap_rows.specs.Steps.{Arrives, IsSent}
use Rattle.snap_rows.specs.Handles.{Handles, sent, forked, asks, goes, forks, begins, passes_on, goes_on, completes, enters, enters_last, seeks, visits, concludes, delivers, carries}
use Rattle.snap_rows.specs.Network.{Copy, step, moved}
use Rattle.snap_rows.specs.Bound.{longest, left, IsBounded}
use Rattle.snap_rows.specs.Weight.{outs_of, most_outs, most_outs_in, is_out, weight, weight_after, EachStepIsLighter, steps_left, StepsFall}
use Rattle.std.proofs.lemmas.Option.{same_Some}
use Rattle.snap_rows.proofs.Rows.{entry_of, All-get}
use Rattle.snap_rows.proofs.Arrives.{arrives, drop_get}
use Rattle.snap_rows.proofs.Bounded.{Falls, port_short, carry_falls}
use Rattle.snap_rows.proofs.Measured.{measures}

-- ---- a fork makes no more copies than its leaf has outs
listed_long : (s : PacketSet) → length (listed s) ≡ len s
listed_long s = length-map _ _ ∙ sym (len-entries s)

listed_more : (s : PacketSet) (x : List ℕ) → length (listed (with_packet s x)) ≤ length (listed s) + 1
listed_more s x = by (contains_key s x) (listed_long (with_packet s x) ∙ len-insert nat_list_cmp_total s x tt) (listed_long s)
  where
    by : (b : Bool) → length (listed (with_packet s x)) ≡ cond b (len s) (len s + 1) → length (listed s) ≡ len s → length (listed (with_packet s x)) ≤ length (listed s) + 1
    by true e f = omega arith
    by false e f = omega arith

results_few : (os : List Parts) (s : PacketSet) (k : List ℕ) → length (listed (results_from s os k)) ≤ length (listed s) + length os
results_few [] s k = omega arith
results_few (o ∷ os) s k = let h = results_few os (with_packet s (after_out o k)) k in let g = listed_more s (after_out o k) in omega arith

filter_few : (p : List ℕ → Bool) (xs : List (List ℕ)) → length (filter p xs) ≤ length xs
filter_few p [] = omega arith
filter_few p (x ∷ xs) = by (p x) (filter_few p xs)
  where
    by : (b : Bool) → length (filter p xs) ≤ length xs → length (cond b (x ∷ filter p xs) (filter p xs)) ≤ suc (length xs)
    by true h = omega arith
    by false h = omega arith

copies_few : (t : Tables) (os : List Parts) (k : List ℕ) → length (map sent (delivered (port_numbers t) (results os k))) ≤ length os
copies_few t os k =
    let e : length (map sent (delivered (port_numbers t) (results os k))) ≡ length (delivered (port_numbers t) (results os k)) = length-map _ _ in
    let f = filter_few (goes_out (port_numbers t)) (listed (results os k)) in
    let g = results_few os no_packets k in
    let n : length (listed no_packets) ≡ 0 = listed_long no_packets ∙ len-empty packet_cmp (Unit {0}) in
    omega arith

outs_in : (rs : List RowAt) (i : ℕ) (r : RowAt) → slice_get rs i ≡ Some r → outs_of r.row ≤ most_outs_in rs
outs_in [] i r is = absurd (false≢true (ap (λ (o : Option RowAt). is_some o) is))
outs_in (x ∷ xs) zero r is = let e : outs_of x.row ≡ outs_of r.row = ap (λ (r : RowAt). outs_of r.row) (same_Some _ _ is) in omega arith
outs_in (x ∷ xs) (suc i) r is = let h : outs_of r.row ≤ most_outs_in xs = outs_in xs i r is in omega arith

few_outs : (t : Tables) (w n : ℕ) (b : Row) → row_at t w n ≡ Some b → outs_of b ≤ most_outs t
few_outs t w n b row =
    let i = entry_of t.rows w n b row in
    subst (λ (b : Row). outs_of b ≤ most_outs t) i.body (outs_in t.rows i.place i.entry i.is)

-- so many copies at most
abbrev Few : Tables → Action → Type 0
Few t (Fork copies lost) = length copies ≤ most_outs t
Few t _ = Unit {0}

fork_few : (t : Tables) (k : List ℕ) (os : List Parts) (n : ℕ) → n ≡ length os → n ≤ most_outs t → Few t (forked t os k)
fork_few t k os n e few = let h = copies_few t os k in omega arith

few : (t : Tables) (w : ℕ) (k : List ℕ) (m : Arrays) (h : Head) (m' : Arrays) (a : Action) → Handles t w k m h m' a → Few t a
few t w k m h m' a (asks one row to f) = few t w k m _ m' a f
few t w k m h m' a (goes row) = tt
few t w k m h m' a (forks {n = n} {os = os} row) = fork_few t k os _ refl (few_outs t w n (Leaf [] os) row)
few t w k m h m' a (begins row f) = few t w k m _ m' a f
few t w k m h m' a (passes_on row is away) = tt
few t w k m h m' a (goes_on row is stands more f) = few t w k _ _ m' a f
few t w k m h m' a (completes {n = n} {ss = ss} {os = os} row is stands last) = fork_few t k os _ refl (few_outs t w n (Leaf ss os) row)
few t w k m h m' a (enters two some way f) = few t w k m _ m' a f
few t w k m h m' a (enters_last {v = v} {us = us} {os = os} two none way row) = fork_few t k os _ refl (few_outs t w v (Last us os) row)
few t w k m h m' a (seeks rank away) = tt
few t w k m h m' a (visits rank visit more f) = few t w k _ _ m' a f
few t w k m h m' a (concludes {v = v} {ups = us} {os = os} rank visit last row) = fork_few t k os _ refl (few_outs t w v (Last us os) row)
few t w k m h m' a (delivers at) = tt
few t w k m h m' a (carries at away) = tt

-- ---- weights
-- the copies of a fork weigh the longest way and one at most
copies_light : (t : Tables) → IsValid t → IsWellFormed t → (w : ℕ) → w < switch_count t → (k : List ℕ) (xs : List Sent) → All (IsSent t k) xs → sum_by (λ (x : Sent). weight t w (Out x.port)) xs ≤ length xs * (longest t + 1)
copies_light t valid form w low k [] all = omega arith
copies_light t valid form w low k (x ∷ xs) all =
    let h = copies_light t valid form w low k xs (All-tail (IsSent t k) x xs all) in
    let e : sum_by (λ (x : Sent). weight t w (Out x.port)) (x ∷ xs) ≡ weight t w (Out x.port) + sum_by (λ (x : Sent). weight t w (Out x.port)) xs = sum_by-cons (λ (x : Sent). weight t w (Out x.port)) x xs in
    let short = port_short t valid form w x.port low (All-head (IsSent t k) x xs all).port in
    let f : suc (length xs) * (longest t + 1) ≡ length xs * (longest t + 1) + (longest t + 1) = suc-mul (length xs) (longest t + 1) in
    omega arith

-- a head that isn't on its way to a port
others_lighter : (t : Tables) → IsValid t → IsWellFormed t → (w : ℕ) → w < switch_count t → (k : List ℕ) (h : Head) (a : Action) → is_out h ≡ false → Arrives t k a → Falls t w (left t w h) a → Few t a → weight_after t w a < weight t w h
others_lighter t valid form w low k h a other arrive f n = subst (λ b. weight_after t w a < left t w h + 1 + cond b 0 (most_outs t * (longest t + 1))) (sym other) (by a arrive f n)
  where
    by : (a : Action) → Arrives t k a → Falls t w (left t w h) a → Few t a → weight_after t w a < left t w h + 1 + most_outs t * (longest t + 1)
    by (Forward to head) arrive f n = extra (is_out head)
      where
        extra : (b : Bool) → left t to head + 1 + cond b 0 (most_outs t * (longest t + 1)) < left t w h + 1 + most_outs t * (longest t + 1)
        extra true = let p = most_outs t * (longest t + 1) in let h' : left t to head + 1 ≤ left t w h = f in omega arith
        extra false = let p = most_outs t * (longest t + 1) in let h' : left t to head + 1 ≤ left t w h = f in omega arith
    by (Deliver port) arrive f n = let p = most_outs t * (longest t + 1) in omega arith
    by (Fork copies lost) arrive f n =
        let l = copies_light t valid form w low k copies arrive in
        let p : length copies * (longest t + 1) ≤ most_outs t * (longest t + 1) = mul-le-mul_right (longest t + 1) n in
        omega arith

out_lighter : (t : Tables) → IsValid t → IsWellFormed t → (w : ℕ) → w < switch_count t → (k : List ℕ) (m : Arrays) (p : ℕ) (h : Head) (m' : Arrays) (a : Action) → h ≡ Out p → Handles t w k m h m' a → weight_after t w a < weight t w (Out p)
out_lighter t valid form w low k m p h m' a e (delivers at) = omega arith
out_lighter t valid form w low k m p h m' a e (carries {p = q} {x = x} at away) =
    let same : q ≡ p = cc in
    let f = carry_falls t valid form w q x low at away in
    subst (λ p. left t (next t w x) (Out q) + 1 + 0 < left t w (Out p) + 1 + 0) same (omega arith)
out_lighter t valid form w low k m p h m' a e (asks {n = n} one row to f) = absurd (cc)
out_lighter t valid form w low k m p h m' a e (goes row) = absurd (cc)
out_lighter t valid form w low k m p h m' a e (forks row) = absurd (cc)
out_lighter t valid form w low k m p h m' a e (begins row f) = absurd (cc)
out_lighter t valid form w low k m p h m' a e (passes_on row is away) = absurd (cc)
out_lighter t valid form w low k m p h m' a e (goes_on row is stands more f) = absurd (cc)
out_lighter t valid form w low k m p h m' a e (completes row is stands last) = absurd (cc)
out_lighter t valid form w low k m p h m' a e (enters two some way f) = absurd (cc)
out_lighter t valid form w low k m p h m' a e (enters_last two none way row) = absurd (cc)
out_lighter t valid form w low k m p h m' a e (seeks rank away) = absurd (cc)
out_lighter t valid form w low k m p h m' a e (visits rank visit more f) = absurd (cc)
out_lighter t valid form w low k m p h m' a e (concludes rank visit last row) = absurd (cc)

pub lighter : EachStepIsLighter
lighter t valid form w low k m (Out p) m' a home handles = out_lighter t valid form w low k m p (Out p) m' a refl handles
lighter t valid form w low k m (Walk n) m' a home handles =
    others_lighter t valid form w low k (Walk n) a refl (arrives t valid form w low k m (Walk n) m' a home handles) ((measures t valid form).falls w low k m (Walk n) m' a home handles) (few t w k m (Walk n) m' a handles)
lighter t valid form w low k m (Stage n i) m' a home handles =
    others_lighter t valid form w low k (Stage n i) a refl (arrives t valid form w low k m (Stage n i) m' a home handles) ((measures t valid form).falls w low k m (Stage n i) m' a home handles) (few t w k m (Stage n i) m' a handles)
lighter t valid form w low k m (Visit r n) m' a home handles =
    others_lighter t valid form w low k (Visit r n) a refl (arrives t valid form w low k m (Visit r n) m' a home handles) ((measures t valid form).falls w low k m (Visit r n) m' a home handles) (few t w k m (Visit r n) m' a handles)

-- ---- states

sum_map : (t : Tables) (f : Sent → Copy) (xs : List Sent) → sum_by (λ (c : Copy). weight t c.at c.head) (map f xs) ≡ sum_by (λ (x : Sent). weight t (f x).at (f x).head) xs
sum_map t f [] = refl
sum_map t f (x ∷ xs) =
    sum_by-cons (λ (c : Copy). weight t c.at c.head) (f x) (map f xs)
    ∙ ap (λ n. weight t (f x).at (f x).head + n) (sum_map t f xs)
    ∙ sym (sum_by-cons (λ (x : Sent). weight t (f x).at (f x).head) x xs)

pub moved_weight : (t : Tables) (c : Copy) (a : Action) → steps_left t (moved c a) ≡ weight_after t c.at a
moved_weight t c (Forward to head) =
    let d : Copy = record c { at = to; head = head; hops = c.hops + 1; steps = c.steps + 1 } in
    let e : steps_left t (moved c (Forward to head)) ≡ weight t to head + 0 = sum_by-cons (λ (c : Copy). weight t c.at c.head) d [] in
    omega arith
moved_weight t c (Deliver port) = refl
moved_weight t c (Fork copies lost) = sum_map t (λ (x : Sent). record c { head = Out x.port; packet = x.packet; steps = c.steps + 1 }) copies

pub steps_fall : StepsFall
steps_fall t valid form s s' j hs all (step {i = i} {c = c} {m = m} {a = a} is handles) =
    let W : Copy → ℕ = λ c. weight t c.at c.head in
    let b = All-get (IsBounded t) s.flying i c all is in
    let less = lighter t valid form c.at b.at c.packet (s.stores c.at) c.head m a b.home handles in
    let e : steps_left t (take i s.flying ++ (moved c a ++ drop (i + 1) s.flying)) ≡ steps_left t (take i s.flying) + steps_left t (moved c a ++ drop (i + 1) s.flying) = sum_by-append W (take i s.flying) (moved c a ++ drop (i + 1) s.flying) in
    let f : steps_left t (moved c a ++ drop (i + 1) s.flying) ≡ steps_left t (moved c a) + steps_left t (drop (i + 1) s.flying) = sum_by-append W (moved c a) (drop (i + 1) s.flying) in
    let g = moved_weight t c a in
    let at : drop i s.flying ≡ c ∷ drop (i + 1) s.flying = drop_get s.flying i c is ∙ ap (λ j. c ∷ drop j s.flying) (sym (add-one i)) in
    let h : steps_left t s.flying ≡ steps_left t (take i s.flying) + steps_left t (drop i s.flying) = ap (steps_left t) (sym (take-append-drop i s.flying)) ∙ sum_by-append W (take i s.flying) (drop i s.flying) in
    let k : steps_left t (drop i s.flying) ≡ weight t c.at c.head + steps_left t (drop (i + 1) s.flying) = ap (steps_left t) at ∙ sum_by-cons W c (drop (i + 1) s.flying) in
    omega arith
