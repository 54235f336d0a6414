-- What is left of facts, and all of them.
use Rattle.std.proofs.Common.{◌≡◌, List, ◌∷◌, sym, subst}
use Rattle.std.specs.Prelude.{All}
use Rattle.std.proofs.lemmas.List.Elements.{All-cons, All-tail}

-- where the first of those left is so, and all are if those left are, all are if the others are
pub all_behind : {X : Type 0} (P : X → Type 0) (x : X) (left others all : List X) → left ≡ x ∷ others → P x → (All P left → All P all) → All P others → All P all
all_behind P x left others all e here h rest = h (subst (All P) (sym e) (All-cons P x others here rest))

pub others_are : {X : Type 0} (P : X → Type 0) (x : X) (left others : List X) → left ≡ x ∷ others → All P left → All P others
others_are P x left others e h = All-tail P x others (subst (All P) e h)
