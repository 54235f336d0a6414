-- Copies are dealt out and stores exchanged, one after another.
use Rattle.std.proofs.Common.{◌≡◌, ◌≢◌, ⊎_elim, ℕ, ◌+◌, ◌<◌, ◌≤◌, ◌*◌, ◌-◌, ◌/◌, ◌%◌, Bool, true, false, List, [], ◌∷◌, ◌++◌, get_or, length, refl, sym, ap, ap₂, subst, ◌∙◌, arith, append_assoc, append-nil}
use Rattle.std.specs.Prelude.{nat_eq}
use Rattle.std.specs.Int.{div_ceil}
use Rattle.std.proofs.Math.ListN.{set}
use Rattle.std.proofs.lemmas.Bool.{cases_lt, eqb-false, eqb-true}
use Rattle.std.proofs.Math.Nat.{add-mul, div-add-mod, mul_comm, mul-le-mul_right}
use Rattle.std.proofs.lemmas.Grind.{div_ceil_times}
use Rattle.std.proofs.lemmas.List.{get_or-set_other, get_or-set_same, length-set}
use Rattle.snap_core.specs.Cells.{Kept}
use Rattle.snap_net.specs.declared.flying.Flying.{Flying}
use Rattle.snap_order.specs.declared.job.Job.{Job}
use Rattle.snap_order.specs.Dealing.{AreDealt, AreExchanged, ArePlaces, SameButCopies, SameButStores, kept_at}
use Rattle.snap_order.specs.Hands.{share}
use Rattle.snap_order.proofs.Weaving.{share_other, share_own}

-- a job has its stores
pub same_stores : (x : Job) → SameButStores x x
same_stores x = record { workers = refl; long = refl; counts = refl; copies = refl; done = refl; is_short = refl }

-- ---- copies
-- a job has its copies, but for those of them that are left
pub record DealtTo (workers rest n : ℕ) (left all : List Flying) (job : Job) : Type 0 where
  pub number : job.workers ≡ workers
  pub places : ArePlaces workers rest n (length job.stores.items)
  pub copies : job.copies.items ++ left ≡ all
  pub fresh : job.counts.items ≡ []
  pub undone : job.done.items ≡ []
  pub enough : job.is_short ≡ false

pub record DealtSo (workers switches : ℕ) (left all : List Flying) (jobs : List Job) : Type 0 where
  pub count : length jobs ≡ workers
  pub each : (j : ℕ) (d : Job) → j < workers → DealtTo workers j switches (share workers j left) (share workers j all) (get_or jobs j d)

pub dealt_first : (workers switches : ℕ) (all : List Flying) (jobs : List Job) → AreDealt workers switches [] jobs → DealtSo workers switches all all jobs
dealt_first workers switches all jobs are = record {
  count = are.count;
  each = λ j d low.
      let is = are.each j d low in
      record { number = is.number; places = is.places; copies = ap (λ (l : List Flying). l ++ share workers j all) is.copies; fresh = is.fresh; undone = is.undone; enough = is.enough };
}

pub dealt_last : (workers switches : ℕ) (all : List Flying) (jobs : List Job) → DealtSo workers switches [] all jobs → AreDealt workers switches all jobs
dealt_last workers switches all jobs so = record {
  count = so.count;
  each = λ j d low.
      let is = so.each j d low in
      record { number = is.number; places = is.places; copies = sym (append-nil (get_or jobs j d).copies.items) ∙ is.copies; fresh = is.fresh; undone = is.undone; enough = is.enough };
}

module _ (workers switches : ℕ) (c : Flying) (left all : List Flying) (old new : List Job) (so : DealtSo workers switches (c ∷ left) all old)
    (same : (j : ℕ) (d : Job) → j < length old → SameButCopies (get_or old j d) (get_or new j d)) (here : (d : Job) → (get_or new (c.at % workers) d).copies.items ≡ (get_or old (c.at % workers) d).copies.items ++ c ∷ [])
    (others : (j : ℕ) (d : Job) → j ≢ c.at % workers → get_or new j d ≡ get_or old j d) (long : length new ≡ length old) where
  one : (j : ℕ) (d : Job) → j < workers → (b : Bool) → nat_eq j (c.at % workers) ≡ b → DealtTo workers j switches (share workers j left) (share workers j all) (get_or new j d)
  one j d low true e =
      let at : j ≡ c.at % workers = eqb-true j (c.at % workers) e in
      let is = so.each j d low in
      let count = so.count in
      let s = same j d (omega (arith, low, count)) in
      let put : (get_or new j d).copies.items ≡ (get_or old j d).copies.items ++ c ∷ [] =
      ap (λ (k : ℕ). (get_or new k d).copies.items) at ∙ here d ∙ ap (λ (k : ℕ). (get_or old k d).copies.items ++ c ∷ []) (sym at) in
      record {
        number = s.workers ∙ is.number;
        places = subst (ArePlaces workers j switches) (ap length (sym s.stores)) is.places;
        copies = ap (λ (l : List Flying). l ++ share workers j left) put ∙ append_assoc (get_or old j d).copies.items (c ∷ []) (share workers j left)
            ∙ ap (λ (l : List Flying). (get_or old j d).copies.items ++ l) (sym (share_own workers j c left (sym at))) ∙ is.copies;
        fresh = s.counts ∙ is.fresh;
        undone = s.done ∙ is.undone;
        enough = s.is_short ∙ is.enough;
      }
  one j d low false e =
      let ne : j ≢ c.at % workers = eqb-false j (c.at % workers) e in
      let is = so.each j d low in
      subst (DealtTo workers j switches (share workers j left) (share workers j all)) (sym (others j d ne))
      (record {
        number = is.number;
        places = is.places;
        copies = ap (λ (l : List Flying). (get_or old j d).copies.items ++ l) (sym (share_other workers j c left (λ o. ne (sym o)))) ∙ is.copies;
        fresh = is.fresh;
        undone = is.undone;
        enough = is.enough;
      })

  pub dealt_more : DealtSo workers switches left all new
  dealt_more = record { count = long ∙ so.count; each = λ j d low. one j d low (nat_eq j (c.at % workers)) refl }

-- ---- stores
-- numbers of one remainder and one quotient are one
pub same_number : (b x y : ℕ) → x / b ≡ y / b → x % b ≡ y % b → x ≡ y
same_number b x y quotients rests = sym (div-add-mod x b) ∙ ap₂ (λ q r. b * q + r) quotients rests ∙ div-add-mod y b

-- a quotient, rounded up, is the number of places
pub counts_places : (workers rest n m : ℕ) → rest < workers → m ≡ div_ceil (n - rest) workers → ArePlaces workers rest n m
counts_places workers rest n m below so = λ w is.
    let b = div_ceil_times (n - rest) workers (omega (arith, below)) in
    let q = w / workers in
    let whole : workers * q + rest ≡ w = ap (λ r. workers * q + r) (sym is) ∙ div-add-mod w workers in
    let turned : workers * q ≡ q * workers = mul_comm workers q in
    let up : n - rest ≤ m * workers = subst (λ k. n - rest ≤ k * workers) (sym so) b.0 in
    let down : m * workers < n - rest + workers = subst (λ k. k * workers < n - rest + workers) (sym so) b.1 in (
      λ (low : w < n). ⊎_elim (λ (lt : q < m). lt) (λ (le : m ≤ q). absurd (let t = mul-le-mul_right workers le in omega (arith, t, up, whole, turned, low))) (cases_lt q m),
      λ (lt : q < m). let t : (q + 1) * workers ≤ m * workers = mul-le-mul_right workers (omega (arith, lt)) in let s : (q + 1) * workers ≡ q * workers + 1 * workers = add-mul q 1 workers in omega (arith, t, s, down, whole, turned),
    )

pub exchanged_none : (workers : ℕ) (stores : List Kept) (jobs : List Job) → AreExchanged workers 0 stores jobs stores jobs
exchanged_none workers stores jobs = record {
  long = refl;
  count = refl;
  lent = λ w d low. absurd (let l : w < 0 = low in omega arith);
  given = λ w d low. absurd (let l : w < 0 = low in omega arith);
  still_here = λ w high. refl;
  still_there = λ w d high. refl;
  same = λ j d low. same_stores (get_or jobs j d);
}

module _ (workers n : ℕ) (stores mid new : List Kept) (jobs jobs1 jobs2 : List Job) (so : AreExchanged workers n stores jobs mid jobs1) (within : n < length mid)
    (room : (d : Job) → n / workers < length (get_or jobs1 (n % workers) d).stores.items)
    (put : (d : Job) → new ≡ set mid n (get_or (get_or jobs1 (n % workers) d).stores.items (n / workers) []))
    (here : (d : Job) → (get_or jobs2 (n % workers) d).stores.items ≡ set (get_or jobs1 (n % workers) d).stores.items (n / workers) (get_or mid n []))
    (same : (j : ℕ) (d : Job) → j < length jobs1 → SameButStores (get_or jobs1 j d) (get_or jobs2 j d)) (others : (j : ℕ) (d : Job) → j ≢ n % workers → get_or jobs2 j d ≡ get_or jobs1 j d) (long : length jobs2 ≡ length jobs1) where
  kept_by : (w : ℕ) (d : Job) → w ≢ n → (b : Bool) → nat_eq (w % workers) (n % workers) ≡ b → kept_at workers jobs2 d w ≡ kept_at workers jobs1 d w
  kept_by w d ne true e =
      let at : w % workers ≡ n % workers = eqb-true (w % workers) (n % workers) e in
      ap (λ (k : ℕ). get_or (get_or jobs2 k d).stores.items (w / workers) []) at
      ∙ ap (λ (l : List Kept). get_or l (w / workers) []) (here d)
      ∙ get_or-set_other (get_or jobs1 (n % workers) d).stores.items (n / workers) (w / workers) (get_or mid n []) [] (λ q. ne (same_number workers w n q at))
      ∙ ap (λ (k : ℕ). get_or (get_or jobs1 k d).stores.items (w / workers) []) (sym at)
  kept_by w d ne false e = ap (λ (x : Job). get_or x.stores.items (w / workers) []) (others (w % workers) d (eqb-false (w % workers) (n % workers) e))

  kept_away : (w : ℕ) (d : Job) → w ≢ n → kept_at workers jobs2 d w ≡ kept_at workers jobs1 d w
  kept_away w d ne = kept_by w d ne (nat_eq (w % workers) (n % workers)) refl

  kept_here : (d : Job) → kept_at workers jobs2 d n ≡ get_or mid n []
  kept_here d = ap (λ (l : List Kept). get_or l (n / workers) []) (here d) ∙ get_or-set_same (get_or jobs1 (n % workers) d).stores.items (n / workers) (get_or mid n []) [] (room d)

  put_here : (d : Job) → get_or new n [] ≡ kept_at workers jobs1 d n
  put_here d = ap (λ (l : List Kept). get_or l n []) (put d) ∙ get_or-set_same mid n (get_or (get_or jobs1 (n % workers) d).stores.items (n / workers) []) [] within

  put_away : (w : ℕ) → w ≢ n → Job → get_or new w [] ≡ get_or mid w []
  put_away w ne d = ap (λ (l : List Kept). get_or l w []) (put d) ∙ get_or-set_other mid n w (get_or (get_or jobs1 (n % workers) d).stores.items (n / workers) []) [] ne

  lent_by : (w : ℕ) (d : Job) → w < n + 1 → (b : Bool) → nat_eq w n ≡ b → kept_at workers jobs2 d w ≡ get_or stores w []
  lent_by w d low true e =
      let at : w ≡ n = eqb-true w n e in
      ap (kept_at workers jobs2 d) at ∙ kept_here d ∙ so.still_here n (omega arith) ∙ ap (λ (k : ℕ). get_or stores k []) (sym at)
  lent_by w d low false e = let ne : w ≢ n = eqb-false w n e in kept_away w d ne ∙ so.lent w d (omega (arith, low, ne))

  given_by : (w : ℕ) (d : Job) → w < n + 1 → (b : Bool) → nat_eq w n ≡ b → get_or new w [] ≡ kept_at workers jobs d w
  given_by w d low true e =
      let at : w ≡ n = eqb-true w n e in
      ap (λ (k : ℕ). get_or new k []) at ∙ put_here d ∙ so.still_there n d (omega arith) ∙ ap (kept_at workers jobs d) (sym at)
  given_by w d low false e = let ne : w ≢ n = eqb-false w n e in put_away w ne d ∙ so.given w d (omega (arith, low, ne))

  pub exchanged_more : Job → AreExchanged workers (n + 1) stores jobs new jobs2
  exchanged_more x = record {
    long = ap length (put x) ∙ length-set mid n (get_or (get_or jobs1 (n % workers) x).stores.items (n / workers) []) ∙ so.long;
    count = long ∙ so.count;
    lent = λ w d low. lent_by w d low (nat_eq w n) refl;
    given = λ w d low. given_by w d low (nat_eq w n) refl;
    still_here = λ w high. put_away w (λ e. absurd (omega (arith, e, high))) x ∙ so.still_here w (omega (arith, high));
    still_there = λ w d high. kept_away w d (λ e. absurd (omega (arith, e, high))) ∙ so.still_there w d (omega (arith, high));
    same = λ j d low.
        let a = so.same j d low in
        let count = so.count in
        let b = same j d (omega (arith, low, count)) in
        record { workers = b.workers ∙ a.workers; long = b.long ∙ a.long; counts = b.counts ∙ a.counts; copies = b.copies ∙ a.copies; done = b.done ∙ a.done; is_short = b.is_short ∙ a.is_short };
  }

-- some job
pub some_of : {X : Type 0} (l : List X) → 0 < length l → X
some_of [] some = absurd (let l : 0 < 0 = some in omega arith)
some_of (x ∷ xs) some = x
