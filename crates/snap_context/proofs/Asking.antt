-- What a model answers is no impossible answer.
use Rattle.std.proofs.Common.{◌≡◌, ℕ, ◌^◌, ◌<◌, ◌≤◌, true, List, [], ◌∷◌, length, map, refl, ap, ◌∙◌, arith}
use Rattle.std.specs.Prelude.{◌==◌}
use Rattle.std.proofs.lemmas.Bool.{eq-eqb}
use Rattle.std.proofs.lemmas.List.{length-map}
use Rattle.std.proofs.lemmas.List.Elements.{All-map}
use Rattle.snap_core.specs.declared.place.Place.{Place}
use Rattle.snap_core.specs.declared.policy.Atom.TheVariants.{Num as Number}
use Rattle.snap_core.specs.Arrays.{Arrays, value_of}
use Rattle.snap_core.specs.Fits.{AtomFits}
use Rattle.snap_core.specs.Listing.{number_in}
use Rattle.snap_core.specs.Tests.{passes, TestFits}
use Rattle.snap_core.specs.Inputs.{IsStore, IsPacket}
use Rattle.snap_context.specs.Meets.{IsMet}
use Rattle.snap_context.specs.Classes.{index_of}
use Rattle.snap_context.specs.View.{View}
use Rattle.snap_context.proofs.Answers.{Meets-with_fact}
use Rattle.snap_context.specs.declared.ask.Ask.{Ask}
use Rattle.snap_context.specs.declared.ask.Ask.TheVariants.{Component, At}
use Rattle.snap_context.specs.Asks.{IsNever, test_of, answer_of, AskFits}

pub ask_fits : (comps : ℕ) (ask : Ask) (n : ℕ) → AskFits comps ask → TestFits comps (test_of ask n)
ask_fits comps (Component c) n h = h
ask_fits comps (At p) n h = (All-map (AtomFits comps) Number p.index (λ i d l. tt), tt)

pub ask_short : (comps : ℕ) (ask : Ask) (n : ℕ) → AskFits comps ask → length (index_of (test_of ask n)) ≤ 8
ask_short comps (Component c) n h = omega arith
ask_short comps (At p) n h = rw length-map h

num_values : (k : List ℕ) (ix : List ℕ) → map (λ a. value_of a k) (map Number ix) ≡ ix
num_values k [] = refl
num_values k (x ∷ ix) = ap (λ xs. x ∷ xs) (num_values k ix)

-- the test passes exactly where the answer is the number
pub passes-ask : (m : Arrays) (k : List ℕ) (ask : Ask) (n : ℕ) → passes (test_of ask n) m k ≡ (answer_of ask m k == n)
passes-ask m k (Component c) n = refl
passes-ask m k (At p) n = ap (λ xs. let q : Place = record { var = p.var; index = xs } in m q == n) (num_values k p.index)

answer_small : (comps : ℕ) (m : Arrays) (k : List ℕ) (ask : Ask) → AskFits comps ask → IsStore m → IsPacket comps k → answer_of ask m k < 2 ^ 64
answer_small comps m k (Component c) o s p = p.numbers c 0 (rw p.long o)
answer_small comps m k (At q) o s p = s q

-- a context that is met has an answer that is possible
pub some_answer : (v : View) (ask : Ask) → AskFits (length v.classes) ask → IsMet (length v.classes) v.facts → ((j : ℕ) → j < 2 ^ 64 → IsNever v ask j) → ⊥
some_answer v ask o met none =
    let n : ℕ = answer_of ask (number_in met.entries) met.packet in
    none (answer_of ask (number_in met.entries) met.packet) (answer_small (length v.classes) (number_in met.entries) met.packet ask o met.is_store met.is_packet)
    (number_in met.entries) met.packet met.is_packet
    (Meets-with_fact v.facts (test_of ask (answer_of ask (number_in met.entries) met.packet)) true (number_in met.entries) met.packet met.meets
    (passes-ask (number_in met.entries) met.packet ask (answer_of ask (number_in met.entries) met.packet) ∙ eq-eqb _ _ refl))
