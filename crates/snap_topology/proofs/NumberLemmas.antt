-- Names of switches, by a set of texts.
use Rattle.std.proofs.Common.{◌≡◌, ◌∙◌, ℕ, ◌+◌, Bool, true, false, ◌||◌, not, cond, List, [], ◌∷◌, Some, None, position, refl, sym, ap, bytes_eq}
use Rattle.std.specs.List.{list_any, position_or_len}
use Rattle.std.specs.Borrow.{Bor}
use Rattle.snap_topology.specs.Listing.{lent_texts}
use Rattle.snap_topology.specs.Spells.{is_switch, number_of}

pub is_switch-texts : (name : List ℕ) (keys : List (Bor (List ℕ))) → is_switch (lent_texts keys) name ≡ list_any (λ (k : Bor (List ℕ)). bytes_eq name k.now) keys
is_switch-texts name [] = refl
is_switch-texts name (k ∷ keys) = ap (λ b. bytes_eq name k.now || b) (is_switch-texts name keys)

pub number_of-texts : (name : List ℕ) (keys : List (Bor (List ℕ))) → number_of (lent_texts keys) name ≡ position_or_len (λ (k : Bor (List ℕ)). bytes_eq name k.now) keys
number_of-texts name [] = refl
number_of-texts name (k ∷ keys) = ap (λ n. cond (not (bytes_eq name k.now)) (1 + n) 0) (number_of-texts name keys)

pub Some-cond : (b : Bool) (n i : ℕ) → Some i ≡ cond b (Some n) None → i ≡ n
Some-cond true n i is = cc
Some-cond false n i is = cc

-- what a look-up found
pub number-found : (name : List ℕ) (keys : List (Bor (List ℕ))) (i : ℕ) → Some i ≡ position (λ (k : Bor (List ℕ)). bytes_eq name k.now) keys → true ≡ list_any (λ (k : Bor (List ℕ)). bytes_eq name k.now) keys
    → (is_switch (lent_texts keys) name ≡ true) × (i ≡ number_of (lent_texts keys) name)
number-found name keys i is found = (is_switch-texts name keys ∙ sym found, Some-cond _ _ i is ∙ sym (number_of-texts name keys))
