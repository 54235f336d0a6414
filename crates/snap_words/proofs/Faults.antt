-- What `clap` finds wrong in words, one word after the other.
use Rattle.std.proofs.Common.{◌≡◌, ◌∙◌, refl, sym, ap, Bool, true, false, cond, List, [], ◌∷◌, codes, Option, fold}
use Rattle.std.proofs.Math.Bool.{or-true}
use Rattle.clap.specs.Words.{Row, Text}
use Rattle.clap.specs.Kinds.{Kinds, or_else}
use Rattle.clap.specs.Faults.{check_fault, defaults_fault, settle_fault, turn_fault, walk_fault}
use Rattle.clap.specs.Walk.{Held, Walk, finished, has_row, reading_by, settled, walked, with_values}
use Rattle.clap.specs.declared.parser.matches.ValueSource.TheVariants.{DefaultValue}
use Rattle.clap.specs.declared.error.kind.ErrorKind.{ErrorKind}
use Rattle.clap.specs.declared.error.kind.ErrorKind.TheVariants.{InvalidValue}
use Rattle.clap.proofs.OnLiterals.{clap_on_literals}
use Rattle.snap_words.specs.Words.{Flag, Valued, flag_text, hops_flag, ordered_flag, schedule_option}
use Rattle.snap_words.proofs.Turns.{done, flag_built, held, settles, top, waits}

or_else-nil : (k : Kinds) → or_else k [] ≡ k
or_else-nil [] = refl
or_else-nil (k ∷ ks) = refl

pub first_nil : (a b : Kinds) → or_else a b ≡ [] → a ≡ []
first_nil [] b e = refl
first_nil (k ∷ ks) b e = absurd (cc)

or_else-assoc : (a b c : Kinds) → or_else (or_else a b) c ≡ or_else a (or_else b c)
or_else-assoc [] b c = refl
or_else-assoc (k ∷ ks) b c = refl

abbrev ending : Held → Kinds
ending end = or_else (settle_fault top.rules false end) (or_else (defaults_fault (settled top.rules end).rows top.rules) (check_fault top (finished top.rules end) false))

abbrev pub fault : Walk → List Text → Kinds
fault w words = or_else (walk_fault top [] w words) (ending (fold (walked top.rules []) w words).held)

abbrev pub final : Walk → List Text → List Row
final w words = finished top.rules (fold (walked top.rules []) w words).held

pub fault-more : (w : Walk) (x : Text) (xs : List Text) → fault w (x ∷ xs) ≡ or_else (turn_fault top [] w x) (fault (walked top.rules [] w x) xs)
unfolding walk_fault
fault-more w x xs = or_else-assoc (turn_fault top [] w x) (walk_fault top [] (walked top.rules [] w x) xs) _

pub fault-none : (w : Walk) → fault w [] ≡ ending w.held
unfolding walk_fault
fault-none w = refl

-- the rows with a flag's default, where it isn't there
abbrev off : Flag → Bool → List Row → List Row
off f there rows = cond there rows (with_values (flag_text f) (reading_by (flag_built f)) DefaultValue (codes "false" ∷ []) rows)

defaults-by : (rows : List Row) (h o d : Bool) → has_row (codes "hops") rows ≡ h → has_row (codes "ordered") (off hops_flag h rows) ≡ o → has_row (codes "on-demand") (off ordered_flag o (off hops_flag h rows)) ≡ d
    → defaults_fault rows top.rules ≡ []
unfolding clap_on_literals
defaults-by rows true true true hops ordered on_demand = simp (hops, ordered, on_demand, or-true) refl
defaults-by rows _ true true hops ordered on_demand = simp (hops, ordered, on_demand, or-true) refl
defaults-by rows _ _ true hops ordered on_demand = simp (hops, ordered, on_demand, or-true) refl
defaults-by rows _ _ _ hops ordered on_demand = simp (hops, ordered, on_demand, or-true) refl

pub ends : (r : List Row) (q : Option (Text × List Text)) → ending (held r q) ≡ settles r q
ends r q = ap (λ k. or_else (settles r q) (or_else k [])) (defaults-by (done r q) _ _ _ refl refl refl) ∙ or_else-nil (settles r q)

pub waits-ends : (o : Valued) (r : List Row) (t : Bool) → ending (waits o r t).held ≡ InvalidValue ∷ []
unfolding clap_on_literals
waits-ends schedule_option r t = refl
waits-ends _ r t = refl

pub turn_nil : (w : Walk) (x : Text) (xs : List Text) → fault w (x ∷ xs) ≡ [] → turn_fault top [] w x ≡ []
turn_nil w x xs none = first_nil _ _ (sym (fault-more w x xs) ∙ none)

pub fails : (w : Walk) (x : Text) (xs : List Text) (k : ErrorKind) → turn_fault top [] w x ≡ k ∷ [] → fault w (x ∷ xs) ≡ [] → ⊥
fails w x xs k is none = let e : k ∷ [] ≡ [] = sym is ∙ turn_nil w x xs none in cc
