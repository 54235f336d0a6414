-- Where `clap` finds nothing wrong, an option that waits for its value is settled.
use Rattle.std.proofs.Common.{◌≡◌, ◌∙◌, refl, sym, ap, Bool, true, false, List, [], ◌∷◌, codes, Option, Some, None, IsUtf8, bytes_eq}
use Rattle.clap.specs.Words.{Row, Text}
use Rattle.clap.specs.Lexer.{long_of, short_of}
use Rattle.clap.specs.Kinds.{or_else}
use Rattle.clap.specs.Faults.{turn_fault}
use Rattle.clap.specs.Walk.{walked}
use Rattle.clap.specs.declared.error.kind.ErrorKind.TheVariants.{UnknownArgument, TooManyValues}
use Rattle.snap_words.proofs.Shapes.{AllText, first_char, short_text}
use Rattle.snap_words.proofs.Turns.{at, dashes_moves, dashes_turn, flag_turn, flag_valued, held, long_turn, name_turn, settles, short_turn, top, trail_turn, value_turn, wait_turn}
use Rattle.snap_words.specs.Words.{Flag, Valued, flag_text, option_text}
use Rattle.snap_words.proofs.Names.{Named, a_flag, an_option, named, unknown}
use Rattle.snap_words.proofs.Faults.{first_nil, fault, fault-more, fault-none, ends, turn_nil}

trails-owe : (ws : List Text) (r : List Row) (q : Option (Text × List Text)) (p : Bool) → fault (at (held r q) p true) ws ≡ [] → settles r q ≡ []
trails-owe [] r q p none = sym (fault-none (at (held r q) p true) ∙ ends r q) ∙ none
trails-owe (w ∷ ws) r q p none = sym (trail_turn r q p w) ∙ turn_nil (at (held r q) p true) w ws none

-- a short flag is refused
pub short_by : (r : List Row) (q : Option (Text × List Text)) (p : Bool) (w f : Text) → bytes_eq w (codes "--") ≡ false → long_of w ≡ None → short_of w ≡ Some f → IsUtf8 f × ((f ≡ []) → ⊥) → turn_fault top [] (at (held r q) p false) w ≡ UnknownArgument ∷ []
short_by r q p w [] single long short text = absurd (text.1 refl)
short_by r q p w (y ∷ ys) single long short text = let c = first_char y ys _ refl text.0 in short_turn r q w single p y ys c.0 long short c.1

owes-flag : (r : List Row) (q : Option (Text × List Text)) (p : Bool) (w : Text) (f : Flag) (v : Option Text) → bytes_eq w (codes "--") ≡ false → long_of w ≡ Some (flag_text f, v) → turn_fault top [] (at (held r q) p false) w ≡ [] → settles r q ≡ []
owes-flag r q p w f None single long none = first_nil _ _ (first_nil _ _ (sym (flag_turn r q w single f p _ long refl) ∙ none))
owes-flag r q p w f (Some v) single long none = absurd (let e : TooManyValues ∷ [] ≡ [] = sym (flag_valued r q w single f p v long) ∙ none in cc)

owes-option : (r : List Row) (q : Option (Text × List Text)) (p : Bool) (w : Text) (o : Valued) (v : Option Text) → bytes_eq w (codes "--") ≡ false → long_of w ≡ Some (option_text o, v) → turn_fault top [] (at (held r q) p false) w ≡ [] → settles r q ≡ []
owes-option r q p w o None single long none = first_nil _ _ (sym (wait_turn r q w single o p long) ∙ none)
owes-option r q p w o (Some v) single long none = first_nil _ _ (first_nil _ _ (sym (value_turn r q w single o p _ v long refl) ∙ none))

owes-named : (r : List Row) (q : Option (Text × List Text)) (p : Bool) (w name : Text) (v : Option Text) → Named name → bytes_eq w (codes "--") ≡ false → long_of w ≡ Some (name, v) → turn_fault top [] (at (held r q) p false) w ≡ [] → settles r q ≡ []
owes-named r q p w name v (a_flag f is) single long none = owes-flag r q p w f v single (long ∙ ap (λ n. Some (n, v)) is) none
owes-named r q p w name v (an_option o is) single long none = owes-option r q p w o v single (long ∙ ap (λ n. Some (n, v)) is) none
owes-named r q p w name v (unknown u) single long none = absurd (let e : UnknownArgument ∷ [] ≡ [] = sym (long_turn r q w single p name v long u) ∙ none in cc)

owes-word : (r : List Row) (q : Option (Text × List Text)) (p : Bool) (w : Text) (l : Option (Text × Option Text)) (f : Option Text) → IsUtf8 w → bytes_eq w (codes "--") ≡ false → long_of w ≡ l → short_of w ≡ f
    → turn_fault top [] (at (held r q) p false) w ≡ [] → settles r q ≡ []
owes-word r q p w (Some n) f text single long short none = owes-named r q p w n.0 n.1 (named n.0) single long none
owes-word r q p w None (Some f) text single long short none = absurd (let e : UnknownArgument ∷ [] ≡ [] = sym (short_by r q p w f single long short (short_text w f text short)) ∙ none in cc)
owes-word r q p w None None text single long short none = sym (name_turn r q w single p long short) ∙ none

owes-by : (r : List Row) (q : Option (Text × List Text)) (p : Bool) (w : Text) (ws : List Text) (b : Bool) → IsUtf8 w → bytes_eq w (codes "--") ≡ b → fault (at (held r q) p false) (w ∷ ws) ≡ [] → settles r q ≡ []
owes-by r q p w ws true text is none =
    let goes : fault (at (held r q) p false) (w ∷ ws) ≡ fault (at (held r q) p true) ws = fault-more (at (held r q) p false) w ws
    ∙ ap (λ k. or_else k (fault (walked top.rules [] (at (held r q) p false) w) ws)) (dashes_turn r q p w is) ∙ ap (λ u. fault u ws) (dashes_moves r q p w is) in
    trails-owe ws r q p (sym goes ∙ none)
owes-by r q p w ws false text is none = owes-word r q p w _ _ text is refl refl (turn_nil (at (held r q) p false) w ws none)

pub owes : (ws : List Text) → AllText ws → (r : List Row) (q : Option (Text × List Text)) (p : Bool) → fault (at (held r q) p false) ws ≡ [] → settles r q ≡ []
owes [] text r q p none = sym (fault-none (at (held r q) p false) ∙ ends r q) ∙ none
owes (w ∷ ws) text r q p none = owes-by r q p w ws _ text.0 refl none
