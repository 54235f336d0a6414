-- What is answered at each stage of a reading, and what it gives.
use Rattle.std.proofs.Common.{◌≡◌, ◌↔◌, ℕ, ◌+◌, ◌<◌, Bool, true, false, not, cond, List, [], ◌∷◌, length, Option, Some, None, Result, Ok, Err, refl, sym, subst, arith, All}
use Rattle.std.specs.List.{position_from}
use Rattle.std.proofs.lemmas.List.{length-map}
use Rattle.std.proofs.lemmas.List.Elements.{All-nil, All-cons}
use Rattle.std.proofs.lemmas.Bool.{not-false}
use Rattle.snap_topology.proofs.Forms.{number_of-below}
use Rattle.snap_placement.specs.Shape.{PlaceFault, Apart}
use Rattle.snap_placement.specs.Answer.{place_of, is_at_switch, owner_at, no_variable, missing, no_switch, owners, OwnersThen, SwitchThen, MissingThen, VariableThen, IsAnswerFor, ShapeThen}
use Rattle.snap_placement.specs.Together.{IsTogether, IsFirstApart, TellsApart}

abbrev Answer : Type 0
Answer = Result (List ℕ) PlaceFault

-- ---- pairs

apart-by : (T U : ℕ → ℕ → Type 0) (owned : List ℕ) → ((a b : ℕ) → a < length owned → b < length owned → T a b ↔ U a b) → (a b : ℕ) → IsFirstApart T owned a b → IsFirstApart U owned a b
apart-by T U owned same a b is = record {
  lesser = is.lesser;
  below = is.below;
  together = (let lt = is.lesser in let low = is.below in (same a b (omega arith) low).0 is.together);
  apart = is.apart;
  first = λ c d lt low earlier tied. is.first c d lt low earlier ((same c d (omega arith) low).1 tied);
}

together-by : (T U : ℕ → ℕ → Type 0) (owned : List ℕ) → ((a b : ℕ) → a < length owned → b < length owned → T a b ↔ U a b) → IsTogether T owned → IsTogether U owned
together-by T U owned same is a b lt low tied = is a b lt low ((same a b (omega arith) low).1 tied)

tells-by : (T U : ℕ → ℕ → Type 0) (owned : List ℕ) → ((a b : ℕ) → a < length owned → b < length owned → T a b ↔ U a b) → (e : PlaceFault) → TellsApart T owned e → TellsApart U owned e
tells-by T U owned same (Apart a b) is = apart-by T U owned same a b is
tells-by T U owned same _ is = absurd is

-- ---- by another relation
owners-by : (T U : ℕ → ℕ → Type 0) (owned : List ℕ) (r : Answer) → ((a b : ℕ) → a < length owned → b < length owned → T a b ↔ U a b) → OwnersThen T owned r → OwnersThen U owned r
owners-by T U owned (Ok p) same is = (is.0, together-by T U owned same is.1)
owners-by T U owned (Err e) same is = tells-by T U owned same e is

switch-by : (T U : ℕ → ℕ → Type 0) (owned : List ℕ) (o : Option ℕ) (r : Answer) → ((a b : ℕ) → a < length owned → b < length owned → T a b ↔ U a b) → SwitchThen T owned o r → SwitchThen U owned o r
switch-by T U owned (Some var) r same is = is
switch-by T U owned None r same is = owners-by T U owned r same is

length-owners : (arrays switches : List (List ℕ)) (entries : List (List ℕ × List ℕ)) → length (owners arrays switches entries) ≡ length arrays
length-owners arrays switches entries = length-map arrays (λ name. owner_at switches (place_of entries name))

missing-by : (T U : ℕ → ℕ → Type 0) (arrays switches : List (List ℕ)) (entries : List (List ℕ × List ℕ)) (o : Option ℕ) (r : Answer) → ((a b : ℕ) → a < length arrays → b < length arrays → T a b ↔ U a b) → MissingThen T arrays switches entries o r → MissingThen U arrays switches entries o r
missing-by T U arrays switches entries (Some var) r same is = is
missing-by T U arrays switches entries None r same is =
    let size = length-owners arrays switches entries in
    switch-by T U (owners arrays switches entries) (no_switch arrays switches entries) r (λ a b low also. same a b (omega arith) (omega arith)) is

variable-by : (T U : ℕ → ℕ → Type 0) (arrays switches : List (List ℕ)) (entries : List (List ℕ × List ℕ)) (o : Option (List ℕ × List ℕ)) (r : Answer) → ((a b : ℕ) → a < length arrays → b < length arrays → T a b ↔ U a b) → VariableThen T arrays switches entries o r → VariableThen U arrays switches entries o r
variable-by T U arrays switches entries (Some entry) r same is = is
variable-by T U arrays switches entries None r same is = missing-by T U arrays switches entries (missing arrays entries) r same is

pub answer-by : (T U : ℕ → ℕ → Type 0) (arrays switches : List (List ℕ)) (entries : List (List ℕ × List ℕ)) (r : Answer) → ((a b : ℕ) → a < length arrays → b < length arrays → T a b ↔ U a b) → IsAnswerFor T arrays switches entries r → IsAnswerFor U arrays switches entries r
answer-by T U arrays switches entries r same is = variable-by T U arrays switches entries (no_variable arrays entries) r same is

-- ---- owners are switches
at-step : (b : Bool) (i : ℕ) (o : Option ℕ) → cond b (Some i) o ≡ None → (b ≡ false) × (o ≡ None)
at-step true i o is = cc
at-step false i o is = (refl, is)

owner-below : (switches : List (List ℕ)) (o : Option (List ℕ)) → is_at_switch switches o ≡ true → owner_at switches o < length switches
owner-below switches (Some place) is = number_of-below switches place is
owner-below switches None is = cc

owners-below : (arrays switches : List (List ℕ)) (entries : List (List ℕ × List ℕ)) (i : ℕ) → position_from (λ name. not (is_at_switch switches (place_of entries name))) i arrays ≡ None → All (λ at. at < length switches) (owners arrays switches entries)
owners-below [] switches entries i is = All-nil (λ at. at < length switches)
owners-below (v ∷ arrays) switches entries i is =
    let parts = at-step (not (is_at_switch switches (place_of entries v))) i (position_from (λ name. not (is_at_switch switches (place_of entries name))) (i + 1) arrays) is in
    All-cons (λ at. at < length switches) (owner_at switches (place_of entries v)) (owners arrays switches entries) (owner-below switches (place_of entries v) (not-false _ parts.0)) (owners-below arrays switches entries (i + 1) parts.1)

-- what an answer of owners is like
pub record IsPlaced (T : ℕ → ℕ → Type 0) (n count : ℕ) (owned : List ℕ) : Type 0 where
  pub size : length owned ≡ n
  pub below : All (λ at. at < count) owned
  pub together : IsTogether T owned

placed-owners : (T : ℕ → ℕ → Type 0) (arrays switches : List (List ℕ)) (entries : List (List ℕ × List ℕ)) (p : List ℕ) → no_switch arrays switches entries ≡ None → OwnersThen T (owners arrays switches entries) (Ok p) → IsPlaced T (length arrays) (length switches) p
placed-owners T arrays switches entries p found is =
    subst (λ (o : List ℕ). IsPlaced T (length arrays) (length switches) o) (sym is.0) (record { size = length-owners arrays switches entries; below = owners-below arrays switches entries 0 found; together = is.1 })

placed-switch : (T : ℕ → ℕ → Type 0) (arrays switches : List (List ℕ)) (entries : List (List ℕ × List ℕ)) (p : List ℕ) (o : Option ℕ) → no_switch arrays switches entries ≡ o → SwitchThen T (owners arrays switches entries) o (Ok p) → IsPlaced T (length arrays) (length switches) p
placed-switch T arrays switches entries p (Some var) found is = cc
placed-switch T arrays switches entries p None found is = placed-owners T arrays switches entries p found is

placed-missing : (T : ℕ → ℕ → Type 0) (arrays switches : List (List ℕ)) (entries : List (List ℕ × List ℕ)) (p : List ℕ) (o : Option ℕ) → MissingThen T arrays switches entries o (Ok p) → IsPlaced T (length arrays) (length switches) p
placed-missing T arrays switches entries p (Some var) is = cc
placed-missing T arrays switches entries p None is = placed-switch T arrays switches entries p (no_switch arrays switches entries) refl is

placed-variable : (T : ℕ → ℕ → Type 0) (arrays switches : List (List ℕ)) (entries : List (List ℕ × List ℕ)) (p : List ℕ) (o : Option (List ℕ × List ℕ)) → VariableThen T arrays switches entries o (Ok p) → IsPlaced T (length arrays) (length switches) p
placed-variable T arrays switches entries p (Some entry) is = cc
placed-variable T arrays switches entries p None is = placed-missing T arrays switches entries p (missing arrays entries) is

pub placed-from : (T : ℕ → ℕ → Type 0) (arrays switches : List (List ℕ)) (entries : List (List ℕ × List ℕ)) (p : List ℕ) → IsAnswerFor T arrays switches entries (Ok p) → IsPlaced T (length arrays) (length switches) p
placed-from T arrays switches entries p is = placed-variable T arrays switches entries p (no_variable arrays entries) is

-- ---- the whole
pub read-answer : (T U : ℕ → ℕ → Type 0) (arrays switches names places : List (List ℕ)) (entries listed : List (List ℕ × List ℕ)) (o : Result (List (List ℕ × List ℕ)) PlaceFault) (r : Answer) → names ≡ arrays → places ≡ switches → listed ≡ entries → o ≡ Ok entries
    → ((a b : ℕ) → a < length arrays → b < length arrays → T a b ↔ U a b) → IsAnswerFor T names places listed r → ShapeThen U arrays switches o r
read-answer T U arrays switches names places entries listed o r same also texts shape tied is =
    let by-names = subst (λ (x : List (List ℕ)). IsAnswerFor T x places listed r) same is in
    let by-places = subst (λ (x : List (List ℕ)). IsAnswerFor T arrays x listed r) also by-names in
    let by-texts = subst (λ (x : List (List ℕ × List ℕ)). IsAnswerFor T arrays switches x r) texts by-places in
    subst (λ (x : Result (List (List ℕ × List ℕ)) PlaceFault). ShapeThen U arrays switches x r) (sym shape) (answer-by T U arrays switches entries r tied by-texts)

pub read-placed : (U : ℕ → ℕ → Type 0) (arrays switches : List (List ℕ)) (entries : List (List ℕ × List ℕ)) (o : Result (List (List ℕ × List ℕ)) PlaceFault) (p : List ℕ) → o ≡ Ok entries → ShapeThen U arrays switches o (Ok p) → IsPlaced U (length arrays) (length switches) p
read-placed U arrays switches entries o p shape is = placed-from U arrays switches entries p (subst (λ (x : Result (List (List ℕ × List ℕ)) PlaceFault). ShapeThen U arrays switches x (Ok p)) shape is)
