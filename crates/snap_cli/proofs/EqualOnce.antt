-- `equal` deserves one ending and one text, but that each pair on which a program races, or two differ, may be told.
use Rattle.std.proofs.Common.{◌≡◌, ◌≤◌, ◌⊎◌, ℕ, List, [], length, Ok, Err, refl, sym, ◌∙◌, subst, inl, inr}
use Rattle.snap_core.specs.declared.place.Place.{Place}
use Rattle.snap_core.specs.Meaning.{eval}
use Rattle.snap_equal.specs.Same.{MeanSame, SameOutcome, TellApart}
use Rattle.snap_cli.specs.declared.refusal.Refusal.TheVariants.{Declarations, Differ}
use Rattle.snap_cli.specs.Equal.{AreComparable, AreDeclaredAlike, Differs, EndsCompared, EndsEqual, IsComparedText, IsEqualText, IsFirstRefusal, TellsOneRace}
use Rattle.snap_cli.proofs.Shared.{Arrays, core_program, count, Ending, file_of, Files, IsPacket, IsSameEnding, Program, ProgramOf, Race, Refusal, SpellsOneProgram, status_of}
use Rattle.snap_cli.proofs.CheckOnce.{never_both, same_never}
use Rattle.snap_cli.proofs.Pipeline.{After, Agree, after_once, cases_once, one_program, past, relayed}
use Rattle.snap_cli.proofs.SameCore.{same_eval, same_fields, same_names}

-- p and q have the core programs of r and s
module _ (p q r s : Program) (left : core_program p ≡ core_program r) (right : core_program q ≡ core_program s) where
  alike : AreDeclaredAlike p q → AreDeclaredAlike r s
  alike h = record {
    fields = sym (same_fields p r left) ∙ h.fields ∙ same_fields q s right;
    arrays = sym (same_names p r left) ∙ h.arrays ∙ same_names q s right;
  }

  comparable : AreComparable p q → AreComparable r s
  comparable h = record { declared = alike h.declared; left = same_never p r left h.left; right = same_never q s right h.right }

  outcome : (m : Arrays) (k : List ℕ) → SameOutcome (eval p.body m k) (eval q.body m k) → SameOutcome (eval r.body m k) (eval s.body m k)
  outcome m k h = subst (λ x. SameOutcome x (eval s.body m k)) (same_eval p r left m k) (subst (SameOutcome (eval p.body m k)) (same_eval q s right m k) h)

  outcome_back : (m : Arrays) (k : List ℕ) → SameOutcome (eval r.body m k) (eval s.body m k) → SameOutcome (eval p.body m k) (eval q.body m k)
  outcome_back m k h = subst (λ x. SameOutcome x (eval q.body m k)) (sym (same_eval p r left m k)) (subst (SameOutcome (eval r.body m k)) (sym (same_eval q s right m k)) h)

  mean_same : MeanSame p q → MeanSame r s
  mean_same h m k store packet = outcome m k (h m k store (subst (λ fields. IsPacket (count fields) k) (sym (same_fields p r left)) packet))

  pub differ_same : (m : Arrays) (k : List ℕ) → TellApart p q m k → MeanSame r s → ⊥
  differ_same m k apart same = apart.differ (outcome_back m k (same m k apart.of.store (subst (λ fields. IsPacket (count fields) k) (same_fields p r left) apart.of.packet)))

  pub race_never : (text : List ℕ) → TellsOneRace p q text → AreComparable r s → ⊥
  race_never text (inl race) race_free = never_both r p (sym left) race_free.left race.0 race.1 race.2
  race_never text (inr race) race_free = never_both s q (sym right) race_free.right race.1.0 race.1.1 race.1.2

  differs : Differs p q → Differs r s
  differs h = (
    h.0,
    h.1,
    record {
      of = record {
        packet = subst (λ fields. IsPacket (count fields) h.1) (same_fields p r left) h.2.of.packet;
        store = h.2.of.store;
        only = subst (λ arrays. (at : Place) → length arrays ≤ at.var → h.0 at ≡ 0) (same_names p r left) h.2.of.only;
      };
      differ = λ same. h.2.differ (outcome_back h.0 h.1 same);
    },
  )

-- the endings of two programs that were read
module _ (p q r s : Program) (left : core_program p ≡ core_program r) (right : core_program q ≡ core_program s) where
  compared_once : (a b : Ending) → EndsCompared p q a → EndsCompared r s b → IsSameEnding a b
  compared_once (Ok u) (Ok v) h k = inl refl
  compared_once (Ok u) (Err Declarations) h k = absurd (k (alike p q r s left right h.0.declared))
  compared_once (Ok u) (Err (Race text)) h k = absurd (race_never r s p q (sym left) (sym right) text.items k.1 h.0)
  compared_once (Ok u) (Err (Differ text)) h k = absurd (differ_same r s p q (sym left) (sym right) k.1.0 k.1.1 k.1.2 h.1)
  compared_once (Err Declarations) (Ok v) h k = absurd (h (alike r s p q (sym left) (sym right) k.0.declared))
  compared_once (Err Declarations) (Err Declarations) h k = inl refl
  compared_once (Err Declarations) (Err (Race text)) h k = absurd (h (alike r s p q (sym left) (sym right) k.0))
  compared_once (Err Declarations) (Err (Differ text)) h k = absurd (h (alike r s p q (sym left) (sym right) k.0.declared))
  compared_once (Err (Race text)) (Ok v) h k = absurd (race_never p q r s left right text.items h.1 k.0)
  compared_once (Err (Race text)) (Err Declarations) h k = absurd (k (alike p q r s left right h.0))
  compared_once (Err (Race text)) (Err (Race other)) h k = inr tt
  compared_once (Err (Race text)) (Err (Differ other)) h k = absurd (race_never p q r s left right text.items h.1 k.0)
  compared_once (Err (Differ text)) (Ok v) h k = absurd (differ_same p q r s left right h.1.0 h.1.1 h.1.2 k.1)
  compared_once (Err (Differ text)) (Err Declarations) h k = absurd (k (alike p q r s left right h.0.declared))
  compared_once (Err (Differ text)) (Err (Race other)) h k = absurd (race_never r s p q (sym left) (sym right) other.items k.1 h.0)
  compared_once (Err (Differ text)) (Err (Differ other)) h k = inr tt
  compared_once a b h k = absurd search

  text_compared_once : Agree ◌≡◌ (IsComparedText p q) (IsComparedText r s)
  text_compared_once a b =
      cases_once (λ h k. h.2 ∙ sym k.2) (λ h k. k.0 (comparable p q r s left right h.0) (mean_same p q r s left right h.1))
      (λ h k. k.0 (comparable r s p q (sym left) (sym right) h.0) (mean_same r s p q (sym left) (sym right) h.1)) (λ h k. h.1 ∙ sym k.1)

  -- the status of comparable programs that were read
  pub compared_status : AreComparable r s → (e : Ending) → EndsCompared p q e → ((status_of e ≡ 0) × MeanSame r s) ⊎ ((status_of e ≡ 18) × Differs r s)
  compared_status race_free (Ok u) h = inl (refl, mean_same p q r s left right h.1)
  compared_status race_free (Err Declarations) h = absurd (h (alike r s p q (sym left) (sym right) race_free.declared))
  compared_status race_free (Err (Race text)) h = absurd (race_never p q r s left right text.items h.1 race_free)
  compared_status race_free (Err (Differ text)) h = inr (refl, differs p q r s left right (h.1.0, h.1.1, h.1.2))
  compared_status race_free (Err e) h = absurd h

-- ---- the command
abbrev Fails : Refusal → Ending → Type 0
Fails e ending = ending ≡ Err e

abbrev Empty : Refusal → List ℕ → Type 0
Empty e text = text ≡ []

-- the first program, the second, and what is made of both
module _ {Y : Type 0} (files : Files) (left right : List ℕ) (Refuses : Refusal → Y → Type 0) (Both : Program → Program → Y → Type 0) where
  abbrev pub Reads : Y → Type 0
  Reads = After (ProgramOf (file_of files left)) Refuses (λ p. After (ProgramOf (file_of files right)) Refuses (Both p))

  pub reads : (y : Y) → ((e : Refusal) × IsFirstRefusal files left right e × Refuses e y) ⊎ ((p : Program) × (q : Program) × ProgramOf (file_of files left) (Ok p) × ProgramOf (file_of files right) (Ok q) × Both p q y) → Reads y
  reads y (inl (e, inl h, is)) = inl (e, h, is)
  reads y (inl (e, inr (p, h, k), is)) = inr (p, h, inl (e, k, is))
  reads y (inr (p, q, h, k, is)) = inr (p, h, inr (q, k, is))

module _ (spells : SpellsOneProgram) (files : Files) (left right : List ℕ) where
  -- what is made of two programs agrees, where it does for those with one core program
  pub both_once : {Y : Type 0} {S : Y → Y → Type 0} (Refuses : Refusal → Y → Type 0) (Both : Program → Program → Y → Type 0)
      → ((e : Refusal) → Agree S (Refuses e) (Refuses e)) → ((p q r s : Program) → core_program p ≡ core_program r → core_program q ≡ core_program s → Agree S (Both p q) (Both r s))
      → Agree S (Reads files left right Refuses Both) (Reads files left right Refuses Both)
  both_once Refuses Both refused both =
      after_once (one_program spells (file_of files left)) _ _ _ _ refused
      (λ p r first h k. after_once (one_program spells (file_of files right)) _ _ _ _ refused (λ q s second m n. both p q r s first second))

  pub ends_equal_once : Agree IsSameEnding (EndsEqual files left right) (EndsEqual files left right)
  ends_equal_once a b h k = both_once Fails EndsCompared relayed compared_once a b (reads files left right Fails EndsCompared a h) (reads files left right Fails EndsCompared b k)

  pub equal_text_once : Agree ◌≡◌ (IsEqualText files left right) (IsEqualText files left right)
  equal_text_once a b h k = both_once Empty IsComparedText (λ e x y m n. m ∙ sym n) text_compared_once a b (reads files left right Empty IsComparedText a h) (reads files left right Empty IsComparedText b k)

  -- the status of two programs that were read
  pub equal_status : (p q : Program) → ProgramOf (file_of files left) (Ok p) → ProgramOf (file_of files right) (Ok q) → AreComparable p q → (e : Ending) → EndsEqual files left right e
      → ((status_of e ≡ 0) × MeanSame p q) ⊎ ((status_of e ≡ 18) × Differs p q)
  equal_status p q l r race_free e h =
      let (other, first, is, rest) = past (one_program spells (file_of files left)) Fails (λ p. After (ProgramOf (file_of files right)) Fails (EndsCompared p)) p l e (reads files left right Fails EndsCompared e h) in
      let (another, second, was, compared) = past (one_program spells (file_of files right)) Fails (EndsCompared other) q r e rest in
      compared_status other another p q (sym first) (sym second) race_free e compared
