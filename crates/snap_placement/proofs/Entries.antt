-- One turn of a loop over the entries of a placement.
use Rattle.std.proofs.Common.{◌≡◌, ◌∙◌, ℕ, List, [], ◌∷◌, ◌++◌, string_bytes, Option, Some, None, option_map, refl, sym, ap, append_assoc, String, Global}
use Rattle.std.proofs.lemmas.List.{map-append}
use Rattle.toml.specs.declared.value.Value.{Value}
use Rattle.toml.specs.View.{members_view, view}
use Rattle.snap_topology.specs.Shape.{name_in, with_first}
use Rattle.snap_placement.specs.Shape.{entries_in, entry_of}
use Rattle.snap_placement.specs.Texts.{entry_text, entry_texts}

step : (before : List (List ℕ × List ℕ)) (o : Option (List ℕ)) (key place : List ℕ) (rest : Option (List (List ℕ × List ℕ))) → Some place ≡ o
    → option_map (λ r. (before ++ (key, place) ∷ []) ++ r) rest ≡ option_map (λ r. before ++ r) (with_first (entry_of key o) rest)
step before (Some p) key place None is = refl
step before (Some p) key place (Some xs) is = let same : place ≡ p = cc in ap (λ (x : List (List ℕ × List ℕ)). Some x) (append_assoc before ((key, place) ∷ []) xs ∙ ap (λ (q : List ℕ). before ++ ((key, q) ∷ [] ++ xs)) same)
step before None key place rest is = cc

pub entries-turn : (old new : List (String Global × String Global)) (left rest : List (String Global × Value)) (key : String Global) (value : Value) (place : List ℕ) (name spot : String Global)
    → left ≡ (key, value) ∷ rest → Some place ≡ name_in (view value) → string_bytes name ≡ string_bytes key → string_bytes spot ≡ place → new ≡ old ++ (name, spot) ∷ []
    → option_map (λ r. entry_texts new ++ r) (entries_in (members_view rest)) ≡ option_map (λ r. entry_texts old ++ r) (entries_in (members_view left))
entries-turn old new left rest key value place name spot more is named placed put =
    let before = entry_texts old in
    let texts : entry_texts new ≡ before ++ (string_bytes key, place) ∷ [] =
    ap entry_texts put ∙ map-append entry_text old ((name, spot) ∷ []) ∙ ap (λ (n : List ℕ). before ++ (n, string_bytes spot) ∷ []) named ∙ ap (λ (p : List ℕ). before ++ (string_bytes key, p) ∷ []) placed in
    ap (λ (ts : List (List ℕ × List ℕ)). option_map (λ r. ts ++ r) (entries_in (members_view rest))) texts
    ∙ step before (name_in (view value)) (string_bytes key) place (entries_in (members_view rest)) is
    ∙ ap (λ (es : List (String Global × Value)). option_map (λ r. before ++ r) (entries_in (members_view es))) (sym more)
