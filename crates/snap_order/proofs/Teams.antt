-- Jobs that are done side by side.
use Rattle.std.proofs.Common.{◌≡◌, ⊎_elim, ℕ, ◌+◌, ◌<◌, ◌≤◌, suc, List, [], ◌∷◌, ◌++◌, get_or, length, take, refl, sym, ap, subst, ◌∙◌, arith}
use Rattle.std.specs.List.{All, AllZip}
use Rattle.std.proofs.Math.ListN.{set}
use Rattle.std.proofs.Math.ListN.{get_or-eq_default}
use Rattle.std.proofs.lemmas.Bool.{cases_lt}
use Rattle.std.proofs.lemmas.List.{get_or_default, nil_from_length, take_more}
use Rattle.std.proofs.lemmas.List.Elements.{All-append, All-cons, All-head, All-nil, All-tail}
use Rattle.snap_core.proofs.Elements.{All-back, All-front}
use Rattle.snap_rows.specs.declared.tables.Tables.{Tables}
use Rattle.snap_order.specs.declared.job.Job.{Job}
use Rattle.snap_order.specs.Hands.{Works, idles, part_of}
use Rattle.snap_order.specs.Jobs.{AreReady, HasWorked, IsJob, counts_after}

-- one more has the property
pub all_more : {X : Type 0} (P : X → Type 0) (xs : List X) (i : ℕ) (x : X) → i < length xs → x ≡ get_or xs i x → All P (take i xs) → P x → All P (take (i + 1) xs)
all_more P xs i x lt is h p = subst (All P) (ap (λ z. take i xs ++ z ∷ []) is ∙ sym (take_more xs i x lt)) (All-append P (take i xs) (x ∷ []) h (All-cons P x [] p (All-nil P)))

pub zip_append : {X : Type 0} (R : X → X → Type 0) (xs xs' ys ys' : List X) → AllZip R xs xs' → AllZip R ys ys' → AllZip R (xs ++ ys) (xs' ++ ys')
zip_append R [] [] ys ys' h k = k
zip_append R [] (x ∷ xs') ys ys' h k = absurd h
zip_append R (x ∷ xs) [] ys ys' h k = absurd h
zip_append R (x ∷ xs) (y ∷ xs') ys ys' h k = (h.0, zip_append R xs xs' ys ys' h.1 k)

pub zip_one : {X : Type 0} (R : X → X → Type 0) (xs : List X) (x y : X) → length xs ≡ 1 → R (get_or xs 0 x) y → AllZip R xs (set xs 0 y)
zip_one R [] x y one r = absurd (let o : 0 ≡ 1 = one in omega (arith, o))
zip_one R (z ∷ []) x y one r = (r, tt)
zip_one R (z ∷ (v ∷ xs)) x y one r = absurd (let o : suc (suc (length xs)) ≡ 1 = one in omega (arith, o))

-- jobs of which some are such
pub ready_front : (t : Tables) (counts : List ℕ) (xs ys zs : List Job) → zs ≡ xs ++ ys → AreReady t counts zs → AreReady t counts xs
ready_front t counts xs ys zs e r = record { tables = r.tables; long = r.long; each = All-front (IsJob t) xs ys (subst (All (IsJob t)) e r.each) }

pub ready_back : (t : Tables) (counts : List ℕ) (xs ys zs : List Job) → zs ≡ xs ++ ys → AreReady t counts zs → AreReady t counts ys
ready_back t counts xs ys zs e r = record { tables = r.tables; long = r.long; each = All-back (IsJob t) xs ys (subst (All (IsJob t)) e r.each) }

-- numbers of as many ranks
pub after_same : (counts own : List ℕ) → length own ≡ length counts → counts_after counts own ≡ own
after_same counts [] long = nil_from_length counts (sym long)
after_same counts (n ∷ own) long = refl

pub after_counted : (counts own : List ℕ) → length own ≡ length counts → (r : ℕ) → get_or (counts_after counts own) r 0 ≡ get_or own r (get_or counts r 0)
after_counted counts own long r =
    ap (λ (l : List ℕ). get_or l r 0) (after_same counts own long) ∙ ⊎_elim
    (λ (low : r < length own). get_or_default own r 0 (get_or counts r 0) low)
    (λ (high : length own ≤ r). get_or-eq_default own 0 high ∙ sym (get_or-eq_default own (get_or counts r 0) high ∙ get_or-eq_default counts 0 (omega (arith, long, high))))
    (cases_lt r (length own))

-- a job without copies is done
idle_works : (t : Tables) (counts : List ℕ) (job : Job) → IsJob t job → job.copies.items ≡ [] → HasWorked t counts job job
idle_works t counts job is none = λ enough. record {
  works = subst (λ xs. Works t job.workers (part_of job.workers job.stores.items counts) job.copies.items (part_of job.workers job.stores.items (counts_after counts job.counts.items)) xs) (sym is.undone)
      (subst (λ cs. Works t job.workers (part_of job.workers job.stores.items counts) cs (part_of job.workers job.stores.items (counts_after counts job.counts.items)) []) (sym none)
      (subst (λ l. Works t job.workers (part_of job.workers job.stores.items counts) [] (part_of job.workers job.stores.items (counts_after counts l)) []) (sym is.fresh) idles));
  counted = λ r. ap (λ (l : List ℕ). get_or (counts_after counts l) r 0) is.fresh ∙ ap (λ (l : List ℕ). get_or l r (get_or counts r 0)) (sym is.fresh);
  long = refl;
}

pub idle_zip : (t : Tables) (counts : List ℕ) (jobs : List Job) → All (IsJob t) jobs → All (λ (j : Job). j.copies.items ≡ []) jobs → AllZip (HasWorked t counts) jobs jobs
idle_zip t counts [] are none = tt
idle_zip t counts (x ∷ xs) are none =
    let is = All-head (IsJob t) x xs are in
    let idle = All-head (λ (j : Job). j.copies.items ≡ []) x xs none in (
      idle_works t counts x is idle,
      idle_zip t counts xs (All-tail (IsJob t) x xs are) (All-tail (λ (j : Job). j.copies.items ≡ []) x xs none),
    )
