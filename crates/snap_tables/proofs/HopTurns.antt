-- Next hops that came in sequence: they rise, and none is left out.
use Rattle.std.proofs.Common.{◌≡◌, ◌≢◌, ℕ, ◌+◌, ◌-◌, ◌*◌, ◌<◌, ◌≤◌, Bool, true, false, cond, List, [], ◌∷◌, ◌++◌, Some, length, refl, sym, ap, subst, ◌∙◌, arith, add-one, append_assoc, inl, inr, get_or}
use Rattle.std.specs.Prelude.{◌⊎◌, ◌==◌, ◌||◌, Contains, nat_le, nat_lt, slice_get}
use Rattle.std.specs.List.{All}
use Rattle.std.specs.List.Sorted.{IsStrictlySortedBy}
use Rattle.std.specs.Option.{option_map_or}
use Rattle.std.specs.Ordering.{nat_cmp, ordering_then}
use Rattle.std.specs.Cmp.{nat_cmp_is}
use Rattle.std.specs.declared.cmp.Ordering.TheVariants.{Less, Equal, Greater}
use Rattle.std.proofs.lemmas.Bool.{and_from, and_parts, cases_lt, cases_order, eq-eqb, eqb-false, eqb-true, le-leb, ltb-false, ltb-true, or_left, or_right}
use Rattle.std.proofs.lemmas.Nat.{mul-le}
use Rattle.std.proofs.Math.Nat.{suc-mul}
use Rattle.std.proofs.lemmas.List.Elements.{All-append, All-cons, All-contains, All-from_recursion, All-head, All-nil, All-push, All-tail, Contains-append_left, Contains-push}
use Rattle.snap_core.proofs.Elements.{All-back, All-front}
use Rattle.snap_core.proofs.Orders.{lt-from_Less}
use Rattle.snap_rows.specs.declared.tables.Hop.{Hop}
use Rattle.snap_rows.specs.Form.{hop_cmp}
use Rattle.snap_tables.specs.Entries.{AllFrom, AreInSequence, IsNextHop, next_pair, pair_from, due_pair}
use Rattle.snap_tables.proofs.PieceLemmas.{all-push}
use Rattle.snap_tables.proofs.Splits.{sorted-before, sorted-behind}
use Rattle.snap_tables.proofs.Turns.{in-turn}

-- pairs by one number, in their order
pub code : ℕ → ℕ → ℕ
code a x = a * 65536 + x

pub cut : ℕ → ℕ → ℕ
cut a x = cond (nat_lt a x) 1 0

cut-less : (a x : ℕ) → a < x → cut a x ≡ 1
unfolding cut
cut-less a x h = ap (λ b. cond b 1 0) (Rattle.std.proofs.lemmas.Bool.lt-ltb a x h)

cut-not : (a x : ℕ) → x ≤ a → cut a x ≡ 0
unfolding cut
cut-not a x h = ap (λ b. cond b 1 0) (Rattle.std.proofs.lemmas.Bool.le-ltb a x h)

-- the pair behind another
pub record IsBehind (n a x : ℕ) (q : ℕ × ℕ) : Type 0 where
  pub above : code a x < code q.0 q.1
  pub between : (b y : ℕ) → b < n → y < n → b ≢ y → code b y < code q.0 q.1 → code a x ≤ code b y → (b ≡ a) × (y ≡ x)
  pub apart : q.0 ≢ q.1
  pub count : a * (n - 1) + x + 1 + cut q.0 q.1 ≡ q.0 * (n - 1) + q.1 + cut a x
  pub most : q.0 ≤ n
  pub ends : (q.1 < n) ⊎ (q.1 ≡ 0)
  pub last : q.0 ≡ n → q.1 ≡ 0

more-mul : (a m : ℕ) → (a + 1) * m ≡ a * m + m
more-mul a m = ap (λ k. k * m) (add-one a) ∙ suc-mul a m

module _ (n : ℕ) (few : n ≤ 256) (a x : ℕ) (la : a < n) (lx : x < n) (other : a ≢ x) where
  -- within the same switch
  stays : (y : ℕ) → y < n → a ≢ y → x < y → ((z : ℕ) → x < z → z < y → z ≡ a) → (a * (n - 1) + x + 1 + cut a y ≡ a * (n - 1) + y + cut a x) → IsBehind n a x (a, y)
  unfolding code
  stays y ly apart lt gap c = record {
    above = omega (arith, lt);
    between = λ b z lb lz o below least.
        let same : b ≡ a = omega (arith, below, least, lz, lx, ly, few) in
        let upper : z < y = omega (arith, below, same) in
        let lower : x ≤ z = omega (arith, least, same) in
        (same, at z lower upper o same);
    apart = apart;
    count = c;
    most = omega (arith, la);
    ends = inl ly;
    last = λ e. absurd (omega (arith, e, la));
  }
    where
      at : (z : ℕ) → x ≤ z → z < y → {b : ℕ} → b ≢ z → b ≡ a → z ≡ x
      at z lower upper o same = Rattle.std.proofs.Common.⊎_elim (λ l. absurd (o (same ∙ sym (gap z l upper)))) (λ g. omega (arith, g, lower)) (cases_lt x z)

  -- on to the next switch
  goes : ((z : ℕ) → x < z → z < n → z ≡ a) → (a * (n - 1) + x + 1 ≡ (a + 1) * (n - 1) + cut a x) → IsBehind n a x (a + 1, 0)
  unfolding code
  goes gap c = record {
    above = omega (arith, lx, few);
    between = λ b z lb lz o below least.
        let same : b ≡ a = omega (arith, below, least, lz, lx, few) in
        let lower : x ≤ z = omega (arith, least, same) in
        (same, at z lower lz o same);
    apart = λ e. omega (arith, e);
    count = omega (arith, c, cut-not (a + 1) 0 (omega arith));
    most = omega (arith, la);
    ends = inr refl;
    last = λ e. refl;
  }
    where
      at : (z : ℕ) → x ≤ z → z < n → {b : ℕ} → b ≢ z → b ≡ a → z ≡ x
      at z lower upper o same = Rattle.std.proofs.Common.⊎_elim (λ l. absurd (o (same ∙ sym (gap z l upper)))) (λ g. omega (arith, g, lower)) (cases_lt x z)

  from-pair : (y : ℕ) → (y ≡ x + 1) ⊎ ((y ≡ x + 2) × (x + 1 ≡ a)) → a ≢ y → IsBehind n a x (pair_from n a y)
  from-pair y which apart = at (nat_lt y n) refl
    where
      gap : (z : ℕ) → x < z → z < y → z ≡ a
      gap z lo hi = Rattle.std.proofs.Common.⊎_elim (λ e. absurd (omega (arith, e, lo, hi))) (λ e. omega (arith, e.0, e.1, lo, hi)) which

      cuts : a * (n - 1) + x + 1 + cut a y ≡ a * (n - 1) + y + cut a x
      cuts = Rattle.std.proofs.Common.⊎_elim
          (λ e. Rattle.std.proofs.Common.⊎_elim (λ l. omega (arith, e, cut-less a x l, cut-less a y (omega (arith, e, l)))) (λ g. omega (arith, e, cut-not a x g, cut-not a y (omega (arith, e, g, apart, other)))) (cases_lt a x))
          (λ e. omega (arith, e.0, e.1, cut-not a x (omega (arith, e.1)), cut-less a y (omega (arith, e.0, e.1)))) which

      wraps : n ≤ y → a * (n - 1) + x + 1 ≡ (a + 1) * (n - 1) + cut a x
      wraps h =
          let m = more-mul a (n - 1) in
          Rattle.std.proofs.Common.⊎_elim
          (λ e. omega (arith, m, e, h, cut-less a x (omega (arith, e, h, la, other)), lx))
          (λ e. omega (arith, m, e.0, e.1, h, cut-not a x (omega (arith, e.1)), la)) which

      at : (b : Bool) → nat_lt y n ≡ b → IsBehind n a x (cond b (a, y) (a + 1, 0))
      at true is = let ly = ltb-true y n is in stays y ly apart (Rattle.std.proofs.Common.⊎_elim (λ e. omega (arith, e)) (λ e. omega (arith, e.0)) which) gap cuts
      at false is = let h = ltb-false y n is in goes (λ z lo hi. gap z lo (omega (arith, hi, h))) (wraps h)

  pub behind : IsBehind n a x (next_pair n (a, x))
  behind = at (x + 1 == a) refl
    where
      at : (b : Bool) → (x + 1 == a) ≡ b → IsBehind n a x (pair_from n a (cond b (x + 2) (x + 1)))
      at true is = let e = eqb-true (x + 1) a is in from-pair (x + 2) (inr (refl, e)) (λ s. omega (arith, s, e))
      at false is = from-pair (x + 1) (inl refl) (λ s. eqb-false (x + 1) a is (sym s))

-- the turn behind one more
last-push : (hs : List Hop) (h : Hop) → slice_get (hs ++ (h ∷ [])) (length (hs ++ (h ∷ [])) - 1) ≡ Some h
last-push hs h = ap (λ i. slice_get (hs ++ (h ∷ [])) i) (let l = Rattle.std.proofs.lemmas.List.length_push hs h in let e : length (hs ++ (h ∷ [])) - 1 ≡ length hs = omega (arith, l) in e) ∙ at hs
  where
    at : (hs : List Hop) → slice_get (hs ++ (h ∷ [])) (length hs) ≡ Some h
    at [] = refl
    at (g ∷ gs) = at gs

turn-push : (n : ℕ) (hs : List Hop) (h : Hop) → due_pair n (hs ++ (h ∷ [])) ≡ next_pair n (h.from, h.target)
turn-push n hs h = ap (λ o. option_map_or (λ (h : Hop). next_pair n (h.from, h.target)) o (0, 1)) (last-push hs h)

abbrev pub HasPair : List Hop → ℕ → ℕ → Type 0
HasPair hs a x = (h : Hop) × Contains hs h × (h.from ≡ a) × (h.target ≡ x)

pub record IsGood (n : ℕ) (h : Hop) : Type 0 where
  pub from : h.from < n
  pub target : h.target < n
  pub other : h.from ≢ h.target
  pub next : h.next < n

record SoFar (n : ℕ) (hs : List Hop) : Type 0 where
  each : All (IsGood n) hs
  sorted : IsStrictlySortedBy hop_cmp hs
  below : All (λ (h : Hop). code h.from h.target < code (due_pair n hs).0 (due_pair n hs).1) hs
  full : (a x : ℕ) → a < n → x < n → a ≢ x → code a x < code (due_pair n hs).0 (due_pair n hs).1 → HasPair hs a x
  apart : (due_pair n hs).0 ≢ (due_pair n hs).1
  count : length hs + cut (due_pair n hs).0 (due_pair n hs).1 ≡ (due_pair n hs).0 * (n - 1) + (due_pair n hs).1
  most : (due_pair n hs).0 ≤ n
  ends : ((due_pair n hs).1 < n) ⊎ (((due_pair n hs).1 ≡ 0) ⊎ (n ≤ 1))
  last : (due_pair n hs).0 ≡ n → ((due_pair n hs).1 ≡ 0) ⊎ (n ≤ 1)

hop-less : (g h : Hop) → g.target < 65536 → h.target < 65536 → code g.from g.target < code h.from h.target → hop_cmp g h ≡ Less
unfolding code
hop-less g h gt ht lt = Rattle.std.proofs.Common.⊎_elim
    (λ e. ap (λ r. ordering_then r (nat_cmp g.target h.target)) (sym (nat_cmp_is g.from h.from Equal e)) ∙ sym (nat_cmp_is g.target h.target Less (omega (arith, lt, e))))
    (λ o. Rattle.std.proofs.Common.⊎_elim
    (λ l. ap (λ r. ordering_then r (nat_cmp g.target h.target)) (sym (nat_cmp_is g.from h.from Less l)))
    (λ b. absurd (omega (arith, lt, b, gt, ht))) o) (cases_order g.from h.from)

sorted-above : (hs : List Hop) (h : Hop) → IsStrictlySortedBy hop_cmp hs → All (λ g. hop_cmp g h ≡ Less) hs → IsStrictlySortedBy hop_cmp (hs ++ (h ∷ []))
unfolding IsStrictlySortedBy
sorted-above [] h s all = (tt, tt)
sorted-above (g ∷ gs) h s all = (all-push (λ q. hop_cmp g q ≡ Less) gs h s.0 (all 0 g (omega arith)), sorted-above gs h s.1 (All-tail (λ q. hop_cmp q h ≡ Less) g gs all))

has-more : (hs : List Hop) (h : Hop) (a x : ℕ) → HasPair hs a x → HasPair (hs ++ (h ∷ [])) a x
has-more hs h a x p = (p.0, Contains-append_left hs (h ∷ []) p.0 p.1, p.2, p.3)

has-last : (hs : List Hop) (h : Hop) → HasPair (hs ++ (h ∷ [])) h.from h.target
has-last hs h = (h, Contains-push hs h, refl, refl)

module _ (n : ℕ) (few : n ≤ 256) where
  first-ends : (m : ℕ) → (1 < m) ⊎ ((◌≡◌ {A = ℕ} 1 0) ⊎ (m ≤ 1))
  first-ends m = Rattle.std.proofs.Common.⊎_elim (λ l. inl l) (λ g. inr (inr g)) (cases_lt 1 m)

  first-last : (m : ℕ) → 0 ≡ m → (◌≡◌ {A = ℕ} 1 0) ⊎ (m ≤ 1)
  first-last m e = inr (omega (arith, e))

  none-yet : SoFar n []
  unfolding code cut IsStrictlySortedBy
  none-yet = record {
    each = All-nil (IsGood n);
    sorted = tt;
    below = All-nil (λ (h : Hop). code h.from h.target < code (due_pair n []).0 (due_pair n []).1);
    full = λ a x la lx o lt. absurd (o (omega (arith, lt)));
    apart = λ e. omega (arith, e);
    count = omega arith;
    most = omega arith;
    ends = first-ends n;
    last = first-last n;
  }

  module _ (hs : List Hop) (h : Hop) (s : SoFar n hs) (next : IsNextHop n hs h) where
    is-from : h.from ≡ (due_pair n hs).0
    is-from = eqb-true h.from (due_pair n hs).0 (and_parts (h.from == (due_pair n hs).0) (h.target == (due_pair n hs).1) next.3).0

    is-target : h.target ≡ (due_pair n hs).1
    is-target = eqb-true h.target (due_pair n hs).1 (and_parts (h.from == (due_pair n hs).0) (h.target == (due_pair n hs).1) next.3).1

    differ : h.from ≢ h.target
    differ e = s.apart (sym is-from ∙ e ∙ is-target)

    step : IsBehind n h.from h.target (next_pair n (h.from, h.target))
    step = behind n few h.from h.target next.0 next.1 differ

    here : code h.from h.target ≡ code (due_pair n hs).0 (due_pair n hs).1
    here = (λ i. code (is-from i) (is-target i))

    good-below : (g : Hop) → code g.from g.target < code (due_pair n hs).0 (due_pair n hs).1 → code g.from g.target < code (next_pair n (h.from, h.target)).0 (next_pair n (h.from, h.target)).1
    good-below g lt = omega (arith, lt, here, step.above)

    lesses : (gs : List Hop) → All (IsGood n) gs → All (λ (g : Hop). code g.from g.target < code (due_pair n hs).0 (due_pair n hs).1) gs → All (λ g. hop_cmp g h ≡ Less) gs
    lesses gs a b = λ i d l. hop-less (get_or gs i d) h (omega (arith, (a i d l).target, few)) (omega (arith, next.1, few)) (omega (arith, b i d l, here))

    all-below : (gs : List Hop) → All (λ (g : Hop). code g.from g.target < code (due_pair n hs).0 (due_pair n hs).1) gs → All (λ (g : Hop). code g.from g.target < code (next_pair n (h.from, h.target)).0 (next_pair n (h.from, h.target)).1) gs
    all-below gs b = λ i d l. good-below (get_or gs i d) (b i d l)

    filled : (a x : ℕ) → a < n → x < n → a ≢ x → code a x < code (next_pair n (h.from, h.target)).0 (next_pair n (h.from, h.target)).1 → HasPair (hs ++ (h ∷ [])) a x
    filled a x la lx o lt = Rattle.std.proofs.Common.⊎_elim
        (λ l. has-more hs h a x (s.full a x la lx o (omega (arith, l, here))))
        (λ g. let same = step.between a x la lx o lt g in subst (λ b. HasPair (hs ++ (h ∷ [])) b x) (sym same.0) (subst (λ y. HasPair (hs ++ (h ∷ [])) h.from y) (sym same.1) (has-last hs h)))
        (cases_lt (code a x) (code h.from h.target))

    counted : length (hs ++ (h ∷ [])) + cut (next_pair n (h.from, h.target)).0 (next_pair n (h.from, h.target)).1 ≡ (next_pair n (h.from, h.target)).0 * (n - 1) + (next_pair n (h.from, h.target)).1
    counted =
        let c : length hs + cut h.from h.target ≡ h.from * (n - 1) + h.target = (λ i. length hs + cut (is-from i) (is-target i)) ∙ s.count ∙ sym (λ i. is-from i * (n - 1) + is-target i) in
        omega (arith, Rattle.std.proofs.lemmas.List.length_push hs h, c, step.count)

    one-more : SoFar n (hs ++ (h ∷ []))
    one-more =
        let t = turn-push n hs h in
        record {
          each = All-push (IsGood n) hs h s.each (record { from = next.0; target = next.1; other = differ; next = next.2 });
          sorted = sorted-above hs h s.sorted (lesses hs s.each s.below);
          below = subst (λ (q : ℕ × ℕ). All (λ (g : Hop). code g.from g.target < code q.0 q.1) (hs ++ (h ∷ []))) (sym t)
              (All-push (λ (g : Hop). code g.from g.target < code (next_pair n (h.from, h.target)).0 (next_pair n (h.from, h.target)).1) hs h (all-below hs s.below) step.above);
          full = λ a x la lx o lt. filled a x la lx o (subst (λ (q : ℕ × ℕ). code a x < code q.0 q.1) t lt);
          apart = λ e. step.apart (sym (ap (λ (q : ℕ × ℕ). q.0) t) ∙ e ∙ ap (λ (q : ℕ × ℕ). q.1) t);
          count = subst (λ (q : ℕ × ℕ). length (hs ++ (h ∷ [])) + cut q.0 q.1 ≡ q.0 * (n - 1) + q.1) (sym t) counted;
          most = subst (λ (q : ℕ × ℕ). q.0 ≤ n) (sym t) step.most;
          ends = subst (λ (q : ℕ × ℕ). (q.1 < n) ⊎ ((q.1 ≡ 0) ⊎ (n ≤ 1))) (sym t) (Rattle.std.proofs.Common.⊎_elim (λ l. inl l) (λ z. inr (inl z)) step.ends);
          last = subst (λ (q : ℕ × ℕ). q.0 ≡ n → (q.1 ≡ 0) ⊎ (n ≤ 1)) (sym t) (λ e. inl (step.last e));
        }

  so-far : (hs : List Hop) → AreInSequence (IsNextHop n) hs → SoFar n hs
  so-far hs turn' = in-turn (IsNextHop n) (SoFar n) one-more none-yet hs turn'

  pub hops-good : (hs : List Hop) → AreInSequence (IsNextHop n) hs → All (IsGood n) hs
  hops-good hs t = (so-far hs t).each

  pub hops-rise : (hs : List Hop) → AreInSequence (IsNextHop n) hs → IsStrictlySortedBy hop_cmp hs
  hops-rise hs t = (so-far hs t).sorted

  -- no pair is left out where none is left
  pub hops-all : (hs : List Hop) → AreInSequence (IsNextHop n) hs → (n ≤ (due_pair n hs).0) ⊎ (n ≤ (due_pair n hs).1) → (a x : ℕ) → a < n → x < n → a ≢ x → HasPair hs a x
  unfolding code
  hops-all hs t over a x la lx o =
      let s = so-far hs t in
      Rattle.std.proofs.Common.⊎_elim
      (λ l. s.full a x la lx o (omega (arith, l, la, lx, few)))
      (λ l. Rattle.std.proofs.Common.⊎_elim (λ e. absurd (omega (arith, l, e))) (λ e. Rattle.std.proofs.Common.⊎_elim (λ z. absurd (omega (arith, l, z, la))) (λ m. absurd (o (omega (arith, m, la, lx)))) e) s.ends) over

  pub hops-few : (hs : List Hop) → AreInSequence (IsNextHop n) hs → length hs ≤ 65280
  hops-few hs t =
      let s = so-far hs t in
      let p = (due_pair n hs).0 in
      let q = (due_pair n hs).1 in
      Rattle.std.proofs.Common.⊎_elim
      (λ l.
      let m = mul-le p (n - 1) 255 255 (omega (arith, l, few)) (omega (arith, few)) in
      Rattle.std.proofs.Common.⊎_elim (λ e. omega (arith, s.count, m, e, few)) (λ e. Rattle.std.proofs.Common.⊎_elim (λ z. omega (arith, s.count, m, z)) (λ w. short p q w) e) s.ends)
      (λ g.
      let m = mul-le p (n - 1) 256 255 (omega (arith, s.most, few)) (omega (arith, few)) in
      Rattle.std.proofs.Common.⊎_elim (λ z. omega (arith, s.count, m, z)) (λ w. short p q w) (s.last (omega (arith, g, s.most)))) (cases_lt p n)
    where
      short : (p q : ℕ) → n ≤ 1 → length hs ≤ 65280
      short p q w = none hs t w
        where
          none : (gs : List Hop) → AreInSequence (IsNextHop n) gs → n ≤ 1 → length gs ≤ 65280
          none [] t w = omega arith
          none (g ∷ gs) t w = absurd (let f = t.0.3 in let d = and_parts (g.from == 0) (g.target == 1) f in let e = eqb-true g.target 1 d.1 in omega (arith, t.0.1, w, e))

-- ---- the other way: next hops that rise and leave no pair out came in sequence
less-code : (g h : Hop) → g.target < 65536 → h.target < 65536 → hop_cmp g h ≡ Less → code g.from g.target < code h.from h.target
unfolding code
less-code g h gt ht lt = Rattle.std.proofs.Common.⊎_elim
    (λ e. omega (arith, e, lt-from_Less g.target h.target (ap (λ r. ordering_then r (nat_cmp g.target h.target)) (nat_cmp_is g.from h.from Equal e) ∙ lt)))
    (λ o. Rattle.std.proofs.Common.⊎_elim (λ l. omega (arith, l, gt))
    (λ b. absurd (greater-less (ap (λ r. ordering_then r (nat_cmp g.target h.target)) (nat_cmp_is g.from h.from Greater b) ∙ lt))) o) (cases_order g.from h.from)
  where
    greater-less : Greater ≡ Less → ⊥
    greater-less e = cc

below-not : (k : ℕ) (gs : List Hop) → All (λ (g : Hop). code g.from g.target < k) gs → All (λ (g : Hop). code g.from g.target ≢ k) gs
below-not k gs a = λ i d l e. omega (arith, e, a i d l)

module _ (n : ℕ) (few : n ≤ 256) (hs : List Hop) (good : All (IsGood n) hs) (rise : IsStrictlySortedBy hop_cmp hs)
    (every : (a x : ℕ) → a < n → x < n → a ≢ x → HasPair hs a x) where
  -- no hop of a list is this pair's
  none-is : (gs : List Hop) (a x : ℕ) → All (λ (g : Hop). code g.from g.target ≢ code a x) gs → HasPair gs a x → ⊥
  none-is gs a x all p = All-contains (λ (g : Hop). code g.from g.target ≢ code a x) gs p.0 all p.1 (λ i. code (p.2 i) (p.3 i))

  module _ (ys : List Hop) (h : Hop) (zs : List Hop) (e : hs ≡ ys ++ (h ∷ zs)) (s : SoFar n ys) where
    all-good : All (IsGood n) (ys ++ (h ∷ zs))
    all-good = subst (All (IsGood n)) e good

    in-order : IsStrictlySortedBy hop_cmp (ys ++ (h ∷ zs))
    in-order = subst (IsStrictlySortedBy hop_cmp) e rise

    is-good : IsGood n h
    is-good = All-head (IsGood n) h zs (All-back (IsGood n) ys (h ∷ zs) all-good)

    lower : (gs : List Hop) → All (IsGood n) gs → All (λ g. hop_cmp g h ≡ Less) gs → All (λ (g : Hop). code g.from g.target < code h.from h.target) gs
    lower gs a b = λ i d l. less-code (get_or gs i d) h (omega (arith, (a i d l).target, few)) (omega (arith, is-good.target, few)) (b i d l)

    upper : (gs : List Hop) → All (IsGood n) gs → All (λ g. hop_cmp h g ≡ Less) gs → All (λ (g : Hop). code h.from h.target < code g.from g.target) gs
    upper gs a b = λ i d l. less-code h (get_or gs i d) (omega (arith, is-good.target, few)) (omega (arith, (a i d l).target, few)) (b i d l)

    lowers : All (λ (g : Hop). code g.from g.target < code h.from h.target) ys
    lowers = lower ys (All-front (IsGood n) ys (h ∷ zs) all-good) (All-from_recursion (λ g. hop_cmp g h ≡ Less) ys (sorted-before hop_cmp ys h zs in-order))

    uppers : All (λ (g : Hop). code h.from h.target < code g.from g.target) zs
    uppers = upper zs (All-tail (IsGood n) h zs (All-back (IsGood n) ys (h ∷ zs) all-good)) (All-from_recursion (λ g. hop_cmp h g ≡ Less) zs (sorted-behind hop_cmp ys h zs in-order))

    above-not : (k : ℕ) (gs : List Hop) → k < code h.from h.target → All (λ (g : Hop). code h.from h.target < code g.from g.target) gs → All (λ (g : Hop). code g.from g.target ≢ k) gs
    above-not k gs lt a = λ i d l e. omega (arith, e, a i d l, lt)

    not-before : code h.from h.target < code (due_pair n ys).0 (due_pair n ys).1 → ⊥
    not-before lt = none-is ys h.from h.target (below-not (code h.from h.target) ys lowers) (s.full h.from h.target is-good.from is-good.target is-good.other lt)

    turn-target : (due_pair n ys).1 < n
    turn-target = Rattle.std.proofs.Common.⊎_elim (λ l. l)
        (λ r. Rattle.std.proofs.Common.⊎_elim (λ z. omega (arith, z, is-good.from)) (λ m. absurd (is-good.other (omega (arith, m, is-good.from, is-good.target)))) r) s.ends

    turn-from : code (due_pair n ys).0 (due_pair n ys).1 < code h.from h.target → (due_pair n ys).0 < n
    unfolding code
    turn-from lt = omega (arith, lt, is-good.from, is-good.target, few)

    not-behind : code (due_pair n ys).0 (due_pair n ys).1 < code h.from h.target → ⊥
    not-behind lt = none-is (ys ++ (h ∷ zs)) (due_pair n ys).0 (due_pair n ys).1
        (All-append (λ (g : Hop). code g.from g.target ≢ code (due_pair n ys).0 (due_pair n ys).1) ys (h ∷ zs) (below-not (code (due_pair n ys).0 (due_pair n ys).1) ys s.below)
        (All-cons (λ (g : Hop). code g.from g.target ≢ code (due_pair n ys).0 (due_pair n ys).1) h zs (λ same. omega (arith, same, lt)) (above-not (code (due_pair n ys).0 (due_pair n ys).1) zs lt uppers)))
        (subst (λ gs. HasPair gs (due_pair n ys).0 (due_pair n ys).1) e (every (due_pair n ys).0 (due_pair n ys).1 (turn-from lt) turn-target s.apart))

    same-code : code h.from h.target ≡ code (due_pair n ys).0 (due_pair n ys).1
    same-code = Rattle.std.proofs.Common.⊎_elim (λ e. e) (λ o. Rattle.std.proofs.Common.⊎_elim (λ l. absurd (not-before l)) (λ g. absurd (not-behind g)) o) (cases_order (code h.from h.target) (code (due_pair n ys).0 (due_pair n ys).1))

    same-from : h.from ≡ (due_pair n ys).0
    unfolding code
    same-from = omega (arith, same-code, is-good.target, turn-target, few)

    same-target : h.target ≡ (due_pair n ys).1
    unfolding code
    same-target = omega (arith, same-code, is-good.target, turn-target, few)

    may-come : IsNextHop n ys h
    may-come = (is-good.from, is-good.target, is-good.next, and_from (h.from == (due_pair n ys).0) (h.target == (due_pair n ys).1) (eq-eqb h.from (due_pair n ys).0 same-from) (eq-eqb h.target (due_pair n ys).1 same-target))

  turns-behind : (ys zs : List Hop) → hs ≡ ys ++ zs → SoFar n ys → AllFrom (IsNextHop n) ys zs
  turns-behind ys [] e s = tt
  turns-behind ys (h ∷ zs) e s = let k = may-come ys h zs e s in (k, turns-behind (ys ++ (h ∷ [])) zs (e ∙ sym (append_assoc ys (h ∷ []) zs)) (one-more n few ys h s k))

  pub hops-turn : AreInSequence (IsNextHop n) hs
  hops-turn = turns-behind [] hs refl (none-yet n few)

  -- and no pair is left
  pub hops-over : (nat_le n (due_pair n hs).0 || nat_le n (due_pair n hs).1) ≡ true
  hops-over =
      let s = so-far n few hs hops-turn in
      Rattle.std.proofs.Common.⊎_elim
      (λ l. Rattle.std.proofs.Common.⊎_elim (λ m. absurd (none-is hs (due_pair n hs).0 (due_pair n hs).1 (below-not (code (due_pair n hs).0 (due_pair n hs).1) hs s.below) (every (due_pair n hs).0 (due_pair n hs).1 l m s.apart)))
      (λ g. or_right (nat_le n (due_pair n hs).0) (nat_le n (due_pair n hs).1) (le-leb n (due_pair n hs).1 g)) (cases_lt (due_pair n hs).1 n))
      (λ g. or_left (nat_le n (due_pair n hs).0) (nat_le n (due_pair n hs).1) (le-leb n (due_pair n hs).0 g)) (cases_lt (due_pair n hs).0 n)
