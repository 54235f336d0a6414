-- What a line of a packets file says.
use Rattle.std.specs.Prelude.{◌≡◌, ℕ, not, slice_get, ◌-◌, ◌^◌, ◌/◌, ◌%◌, Bool, true, false, ◌==◌, ◌||◌, nat_le, if◌then◌else◌, List, [], ◌∷◌, filter, length, take, slice_set, replicate, bit_or, Some, None, option_and_then, option_map}
use Rattle.std.specs.Option.{option_map_or}
use Rattle.std.specs.declared.option.Option.{Option}
use Rattle.snap_core.specs.declared.program.Field.{Field}
use Rattle.snap_core.specs.declared.program.Found.{Found}
use Rattle.snap_core.specs.declared.program.Found.TheVariants.{Plain, Split}
use Rattle.snap_core.specs.Fields.{count, found}
use Rattle.snap_core.specs.Figures.{number_up_to, number_of, address_of, parts_at, parts_by}
use Rattle.snap_core.specs.Arrays.{has}

-- what a line says: nothing, a packet that comes in at the port of its first component, or nothing in form
pub data Said : Type 0 where
  skip : Said
  inject : (packet : List ℕ) → Said
  bad : Said

-- a space or a tab
abbrev pub is_blank : ℕ → Bool
is_blank b = b == 32 || b == 9

abbrev pub is_some_text : List ℕ → Bool
is_some_text [] = false
is_some_text (b ∷ bs) = true

-- the words of a text, between blanks
abbrev pub words_of : List ℕ → List (List ℕ)
words_of text = filter is_some_text (parts_by is_blank text)

abbrev pub is_inked : ℕ → Bool
is_inked b = not (is_blank b)

-- the first byte is no blank
abbrev pub BeginsWord : List ℕ → Type 0
BeginsWord [] = ⊥
BeginsWord (b ∷ bs) = is_blank b ≡ false

abbrev pub ends_with_return : List ℕ → Bool
ends_with_return text = option_map_or (λ b. b == 13) (slice_get text (length text - 1)) false

-- a text without the CR at its end, where it has one
abbrev pub without_return : List ℕ → List ℕ
without_return text = if ends_with_return text then take (length text - 1) text else text

-- the value of a plain field or of a component: a number or an address
abbrev pub plain_or : Option ℕ → Option ℕ → Option ℕ
plain_or (Some n) address = Some n
plain_or None address = address

abbrev pub plain_value : List ℕ → Option ℕ
plain_value text = plain_or (number_of text) (address_of text)

-- the values of a split field's components: an address, cut behind its prefix, or `NET:HOST`
abbrev pub both_numbers : List (List ℕ) → Option (ℕ × ℕ)
both_numbers (net ∷ host ∷ []) = option_and_then (λ n. option_map (λ h. (n, h)) (number_of host)) (number_of net)
both_numbers parts = None

abbrev pub split_or : (prefix : ℕ) → Option ℕ → Option (ℕ × ℕ) → Option (ℕ × ℕ)
split_or prefix (Some address) numbers = Some (address / 2 ^ (32 - prefix), address % 2 ^ (32 - prefix))
split_or prefix None numbers = numbers

abbrev pub split_value : (prefix : ℕ) → List ℕ → Option (ℕ × ℕ)
split_value prefix text = split_or prefix (address_of text) (both_numbers (parts_at 58 text))

-- A packet as far as it is read: its numbers, and the set of components that were named.
pub record Draft : Type 0 where
  pub numbers : List ℕ
  pub named : ℕ

-- the draft with one more component, which was not named before
abbrev pub with_number : ℕ → ℕ → Draft → Option Draft
with_number comp n draft =
    if has draft.named comp then None else
    Some (record { numbers = slice_set draft.numbers comp n; named = bit_or draft.named (2 ^ comp) })

-- the draft with what stands behind a name and `=`
abbrev pub with_value : Option Found → List ℕ → Draft → Option Draft
with_value None text draft = None
with_value (Some (Plain comp)) text draft = option_and_then (λ n. with_number comp n draft) (plain_value text)
with_value (Some (Split net host prefix)) text draft =
    option_and_then (λ (pair : ℕ × ℕ). option_and_then (with_number host pair.1) (with_number net pair.0 draft)) (split_value prefix text)

abbrev pub with_parts : List Field → List (List ℕ) → Draft → Option Draft
with_parts fields (name ∷ value ∷ []) draft = with_value (found fields name) value draft
with_parts fields parts draft = None

-- the draft with a word `NAME=VALUE`
abbrev pub with_word : List Field → List ℕ → Draft → Option Draft
with_word fields word draft = with_parts fields (parts_at 61 word) draft

abbrev pub with_words : List Field → List (List ℕ) → Draft → Option Draft
with_words fields [] draft = Some draft
with_words fields (word ∷ words) draft = option_and_then (with_words fields words) (with_word fields word draft)

-- a port is a number from 1 to 4294967295
abbrev pub is_port : ℕ → Bool
is_port n = nat_le 1 n

-- the packet before the words that name its components. None may name `inport`
abbrev pub draft_at_first : List Field → Draft
draft_at_first fields = record { numbers = replicate (count fields) 0; named = 1 }

-- the packet of a port and of words that name components: `inport` is the port, and what isn't named is 0
abbrev pub packet_at : List Field → List (List ℕ) → ℕ → Option (List ℕ)
packet_at fields words port =
    if is_port port then option_map (λ (draft : Draft). slice_set draft.numbers 0 port) (with_words fields words (draft_at_first fields))
    else None

abbrev pub packet_of_words : List Field → List (List ℕ) → Option (List ℕ)
packet_of_words fields [] = None
packet_of_words fields (word ∷ words) = option_and_then (packet_at fields words) (number_up_to (2 ^ 32 - 1) word)

abbrev pub said_or_bad : Option (List ℕ) → Said
said_or_bad None = bad
said_or_bad (Some packet) = inject packet

abbrev pub said_by_words : List Field → List (List ℕ) → Said
said_by_words fields [] = skip
said_by_words fields (word ∷ words) = said_or_bad (packet_of_words fields (word ∷ words))

-- A line without words, or whose first byte is `#`, says nothing.
abbrev pub said_by : List Field → List ℕ → Said
said_by fields [] = skip
said_by fields (b ∷ bs) = if b == 35 then skip else said_by_words fields (words_of (without_return (b ∷ bs)))
