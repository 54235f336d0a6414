-- One turn of a loop that puts names into a set, each of which is to be new.
use Rattle.std.proofs.Common.{◌≡◌, ◌∙◌, ℕ, ◌+◌, ◌<◌, Bool, true, false, cond, List, [], ◌∷◌, ◌++◌, length, get_or, drop, Some, sym, ap, append_assoc, String, string_bytes, Global, bytes_eq}
use Rattle.std.specs.Borrow.{Bor}
use Rattle.std.specs.List.{list_any}
use Rattle.std.proofs.lemmas.List.{drop_more, map-append}
use Rattle.snap_topology.specs.Answer.{repeat_after}
use Rattle.snap_topology.specs.Listing.{lent_texts, string_texts}
use Rattle.snap_topology.specs.Spells.{is_switch}
use Rattle.snap_topology.proofs.NumberLemmas.{is_switch-texts}

pub string_texts-drop : (names : List (String Global)) (i : ℕ) (x : String Global) → i < length names → x ≡ get_or names i x → string_texts (drop i names) ≡ string_bytes x ∷ string_texts (drop (i + 1) names)
string_texts-drop names i x lt is = ap string_texts (drop_more names i x lt ∙ ap (λ y. y ∷ drop (i + 1) names) (sym is))

repeats-at : (seen left rest : List (List ℕ)) (name : List ℕ) → left ≡ name ∷ rest → is_switch seen name ≡ true → repeat_after seen left ≡ Some name
repeats-at seen left rest name more found = ap (repeat_after seen) more ∙ ap (λ b. cond b (Some name) (repeat_after (seen ++ name ∷ []) rest)) found

pub repeats-here : (keys : List (Bor (List ℕ))) (names : List (String Global)) (i : ℕ) (x : String Global) (text : List ℕ) → i < length names → x ≡ get_or names i x → text ≡ string_bytes x
    → list_any (λ (k : Bor (List ℕ)). bytes_eq text k.now) keys ≡ true → repeat_after (lent_texts keys) (string_texts (drop i names)) ≡ Some text
repeats-here keys names i x text lt is same found =
    repeats-at (lent_texts keys) _ (string_texts (drop (i + 1) names)) text (string_texts-drop names i x lt is ∙ ap (λ t. t ∷ string_texts (drop (i + 1) names)) (sym same)) (is_switch-texts text keys ∙ found)

repeats-after : (seen left rest : List (List ℕ)) (name : List ℕ) → left ≡ name ∷ rest → is_switch seen name ≡ false → repeat_after seen left ≡ repeat_after (seen ++ name ∷ []) rest
repeats-after seen left rest name more found = ap (repeat_after seen) more ∙ ap (λ b. cond b (Some name) (repeat_after (seen ++ name ∷ []) rest)) found

pub put_keys : (b : Bool) (keys new : List (Bor (List ℕ))) (lent : Bor (List ℕ)) → b ≡ false → new ≡ cond b keys (keys ++ lent ∷ []) → lent_texts new ≡ lent_texts keys ++ lent.now ∷ []
put_keys b keys new lent absent is = ap lent_texts (is ∙ ap (λ x. cond x keys (keys ++ lent ∷ [])) absent) ∙ map-append (λ (k : Bor (List ℕ)). k.now) keys (lent ∷ [])

pub repeats-on : (keys new : List (Bor (List ℕ))) (names : List (String Global)) (i : ℕ) (x : String Global) (lent : Bor (List ℕ)) (text : List ℕ) → i < length names → x ≡ get_or names i x → text ≡ string_bytes x → lent.now ≡ text
    → list_any (λ (k : Bor (List ℕ)). bytes_eq text k.now) keys ≡ false → new ≡ cond (list_any (λ (k : Bor (List ℕ)). bytes_eq lent.now k.now) keys) keys (keys ++ lent ∷ [])
    → (lent_texts new ++ string_texts (drop (i + 1) names) ≡ lent_texts keys ++ string_texts (drop i names))
    × (repeat_after (lent_texts new) (string_texts (drop (i + 1) names)) ≡ repeat_after (lent_texts keys) (string_texts (drop i names)))
repeats-on keys new names i x lent text lt is same own not put =
    let left : string_texts (drop i names) ≡ text ∷ string_texts (drop (i + 1) names) = string_texts-drop names i x lt is ∙ ap (λ t. t ∷ string_texts (drop (i + 1) names)) (sym same) in
    let absent : list_any (λ (k : Bor (List ℕ)). bytes_eq lent.now k.now) keys ≡ false = ap (λ (t : List ℕ). list_any (λ (k : Bor (List ℕ)). bytes_eq t k.now) keys) own ∙ not in
    let texts_new : lent_texts new ≡ lent_texts keys ++ text ∷ [] = put_keys _ keys new lent absent put ∙ ap (λ t. lent_texts keys ++ t ∷ []) own in (
      ap (λ ts. ts ++ string_texts (drop (i + 1) names)) texts_new ∙ append_assoc (lent_texts keys) (text ∷ []) (string_texts (drop (i + 1) names)) ∙ ap (λ ts. lent_texts keys ++ ts) (sym left),
      ap (λ ts. repeat_after ts (string_texts (drop (i + 1) names))) texts_new ∙ sym (repeats-after (lent_texts keys) _ (string_texts (drop (i + 1) names)) text left (is_switch-texts text keys ∙ not)),
    )
