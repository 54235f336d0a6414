use Rattle.std.proofs.Common.{rules, tests, ◌≡◌, ◌∙◌, ◌==◌, ap, sym, refl, Bool, true, false, cond, List, [], ◌∷◌, ◌||◌, Option, Some, None, IsSome, is_some, option_map, map, find}
use Rattle.std.specs.List.{ends_with, list_any}
use Rattle.std.proofs.lemmas.Iterator.{YieldsList-from_slice}
use Rattle.std.proofs.lemmas.Iterator.Search.{find_from_yields_List}
use Rattle.snap_words.proofs.calls.word.Goals as goal

module _ {X : Type 0} (p : X → Bool) where
  some_by : (x : X) (xs : List X) (b : Bool) → is_some (find p xs) ≡ list_any p xs → is_some (cond b (Some x) (find p xs)) ≡ (b || list_any p xs)
  some_by x xs true h = refl
  some_by x xs false h = h

  is_some-find : (xs : List X) → is_some (find p xs) ≡ list_any p xs
  is_some-find [] = refl
  is_some-find (x ∷ xs) = some_by x xs (p x) (is_some-find xs)

  list_any-map : {Y : Type 0} (h : Y → X) (ys : List Y) → list_any p (map h ys) ≡ list_any (λ y. p (h y)) ys
  list_any-map h [] = refl
  list_any-map h (y ∷ ys) = ap (λ b. p (h y) || b) (list_any-map h ys)

some_lent : {A B : Type 0} (f : A → B) (o : Option A) → is_some (option_map f o) ≡ true → IsSome o
some_lent f None h = cc
some_lent f (Some x) h = search rules

pub unwrap-word-requires : goal.unwrap-word-requires
unwrap-word-requires c =
    let found = find_from_yields_List (λ w. ends_with ◌==◌ w.items c.args.name.now) _ _ c.find.result c.find.ensures.ran (YieldsList-from_slice c.args.words.now cc) (λ x b q k. search (rules, tests)) in
    some_lent _ c.find.result (ap is_some found ∙ is_some-find (λ w. ends_with ◌==◌ w.items c.args.name.now) c.args.words.now
    ∙ sym (list_any-map (λ w. ends_with ◌==◌ w c.args.name.now) (λ w. w.items) c.args.words.now) ∙ c.requires)
