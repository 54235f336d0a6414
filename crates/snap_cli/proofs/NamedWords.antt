-- Which command words are that name files.
use Rattle.std.proofs.Common.{◌≡◌, ℕ, ◌==◌, ◌&&◌, Bool, true, false, not, List, [], ◌∷◌, codes, Some, None, refl, ap, ◌∙◌}
use Rattle.std.specs.Prelude.{option_and_then, if◌then◌else◌, nat_lt}
use Rattle.std.specs.List.{list_all}
use Rattle.std.specs.Str.{is_utf8, IsAscii}
use Rattle.std.proofs.lemmas.Bool.{false≢true, and_parts, ltb-true}
use Rattle.std.proofs.lemmas.Str.{IsUtf8-from_ascii, is_utf8-from_IsUtf8}
use Rattle.std.proofs.lemmas.Str.Ascii.{IsAscii-nil, IsAscii-cons}
use Rattle.snap_words.specs.Commands.{command_of, command_for, command_in}
use Rattle.snap_words.specs.Words.{ArgumentsView, add, checked, flagged, is_name, name_word, nothing, on_demand_flag, arguments_of, with_names, word_of}
use Rattle.snap_cli.specs.Headline.{CanName, compile_words, trace_words}
use Rattle.snap_cli.proofs.Shared.{compile, plain, trace}

-- words of ASCII alone
ascii : (bs : List ℕ) → list_all (λ b. nat_lt b 128) bs ≡ true → IsAscii bs
ascii [] e = IsAscii-nil
ascii (b ∷ bs) e = let p = and_parts _ _ e in IsAscii-cons b bs (ltb-true b 128 p.0) (ascii bs p.1)

plain_utf8 : (bs : List ℕ) → list_all (λ b. nat_lt b 128) bs ≡ true → is_utf8 bs ≡ true
plain_utf8 bs e = is_utf8-from_IsUtf8 bs (IsUtf8-from_ascii bs (ascii bs e))

word_of-name : (word : List ℕ) → is_name word ≡ true → word_of word ≡ name_word
word_of-name [] h = absurd (false≢true h)
word_of-name (x ∷ xs) h = by (x == 45) refl h
  where
    by : (b : Bool) → (x == 45) ≡ b → not b ≡ true → word_of (x ∷ xs) ≡ name_word
    by true e k = absurd (false≢true k)
    by false e k = rw e refl

-- names behind what was said before
arguments_of-two : (t : ArgumentsView) (a b : List ℕ) → CanName a → CanName b → arguments_of (a ∷ b ∷ []) None t ≡ Some (with_names (with_names t (a ∷ [])) (b ∷ []))
arguments_of-two t a b h k =
    ap (λ w. add w t a (b ∷ []) (arguments_of (b ∷ []))) (word_of-name a h.1)
    ∙ ap (λ w. add w (with_names t (a ∷ [])) b [] (arguments_of [])) (word_of-name b k.1)

arguments_of-three : (t : ArgumentsView) (a b c : List ℕ) → CanName a → CanName b → CanName c
    → arguments_of (a ∷ b ∷ c ∷ []) None t ≡ Some (with_names (with_names (with_names t (a ∷ [])) (b ∷ [])) (c ∷ []))
arguments_of-three t a b c h k l = ap (λ w. add w t a (b ∷ c ∷ []) (arguments_of (b ∷ c ∷ []))) (word_of-name a h.1) ∙ arguments_of-two (with_names t (a ∷ [])) b c k l

pub command_of-compile : (on_demand : Bool) (a b c : List ℕ) → CanName a → CanName b → CanName c → command_of (compile_words on_demand a b c) ≡ Some (compile a b c on_demand)
command_of-compile false a b c h k l =
    ap (λ (x : Bool). if x then command_in (compile_words false a b c) else None) (λ i. plain_utf8 (codes "compile") refl i && (h.0 i && (k.0 i && (l.0 i && true))))
    ∙ ap (λ t. option_and_then (command_for (codes "compile")) (option_and_then checked t)) (arguments_of-three nothing a b c h k l)
    ∙ ap (λ (x : Bool). option_and_then (command_for (codes "compile")) (if x then Some (with_names (with_names (with_names nothing (a ∷ [])) (b ∷ [])) (c ∷ [])) else None)) (λ i. (h.1 i && (k.1 i && (l.1 i && true))) && true)
command_of-compile true a b c h k l =
    ap (λ (x : Bool). if x then command_in (compile_words true a b c) else None) (λ i. plain_utf8 (codes "compile") refl i && (plain_utf8 (codes "--on-demand") refl i && (h.0 i && (k.0 i && (l.0 i && true)))))
    ∙ ap (λ t. option_and_then (command_for (codes "compile")) (option_and_then checked t)) (arguments_of-three (flagged nothing on_demand_flag) a b c h k l)
    ∙ ap (λ (x : Bool). option_and_then (command_for (codes "compile")) (if x then Some (with_names (with_names (with_names (flagged nothing on_demand_flag) (a ∷ [])) (b ∷ [])) (c ∷ [])) else None)) (λ i. (h.1 i && (k.1 i && (l.1 i && true))) && true)

pub command_of-trace : (a b : List ℕ) → CanName a → CanName b → command_of (trace_words a b) ≡ Some (trace a b false plain)
command_of-trace a b h k =
    ap (λ (x : Bool). if x then command_in (trace_words a b) else None) (λ i. plain_utf8 (codes "trace") refl i && (h.0 i && (k.0 i && true)))
    ∙ ap (λ t. option_and_then (command_for (codes "trace")) (option_and_then checked t)) (arguments_of-two nothing a b h k)
    ∙ ap (λ (x : Bool). option_and_then (command_for (codes "trace")) (if x then Some (with_names (with_names nothing (a ∷ [])) (b ∷ [])) else None)) (λ i. (h.1 i && (k.1 i && true)) && true)
