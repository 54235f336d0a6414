-- A text that is put behind what waits, one part after another.
use Rattle.std.proofs.Common.{◌≡◌, ℕ, ◌+◌, ◌<◌, List, [], ◌∷◌, ◌++◌, Option, Result, Ok, Err, length, take, drop, get_or, refl, sym, ap, subst, ◌∙◌, append_assoc, append-nil, take-append-drop}
use Rattle.std.proofs.lemmas.List.{take_more, at_drop_more}
use Rattle.std.proofs.lemmas.List.Concat.{flat_map-append}
use Rattle.std.specs.List.{flat_map}
use Rattle.std.specs.Io.KnownBytes.{Appends}
use Rattle.std.specs.Prelude.{OnErr, OnOk}
use Rattle.std.proofs.KnownBytes.{Appends-nil, Appends-trans}
use Rattle.snap_io.specs.Outputs.{Puts, Waits}
use Rattle.snap_io.specs.Sinks.{AppendsPart}
use Rattle.snap_io.proofs.SinksLemmas.{part_of_pair}

-- nothing waits
pub waits-all : (a b : Option (List ℕ)) (text now : List ℕ) → now ≡ [] → Waits a b text now → Appends a b text
waits-all a b text now none w = subst (Appends a b) (sym (w.whole ∙ ap (λ l. w.front ++ l) none ∙ append-nil w.front)) w.taken

-- nothing was written of what waits
pub waits-first : (a : Option (List ℕ)) (waiting : List ℕ) → Waits a a waiting waiting
waits-first a waiting = record { front = []; taken = Appends-nil a; whole = refl }

-- more was put behind what waits, and a first part of both was written
pub waits-then : (a b c : Option (List ℕ)) (text waiting more now : List ℕ) → Waits a b text waiting → Waits b c (waiting ++ more) now → Waits a c (text ++ more) now
waits-then a b c text waiting more now v w = record {
  front = v.front ++ w.front;
  taken = Appends-trans a b c v.front w.front v.taken w.taken;
  whole =
      ap (λ l. l ++ more) v.whole ∙ append_assoc v.front waiting more ∙ ap (λ l. v.front ++ l) w.whole
      ∙ sym (append_assoc v.front w.front now);
}

-- some of what waits was written
pub waits-written : (a b c : Option (List ℕ)) (text waiting now : List ℕ) → Waits a b text waiting → Waits b c (waiting ++ []) now → Waits a c text now
waits-written a b c text waiting now v w = subst (λ l. Waits a c l now) (append-nil text) (waits-then a b c text waiting [] now v w)

-- more was put behind what waits, and some first bytes of both were written
pub waits-part : (a b c : Option (List ℕ)) (text waiting more : List ℕ) → Waits a b text waiting → AppendsPart b c (waiting ++ more) → AppendsPart a c (text ++ more)
waits-part a b c text waiting more v part =
    let whole : text ++ more ≡ v.front ++ ((waiting ++ more) ++ []) =
    ap (λ l. l ++ more) v.whole ∙ append_assoc v.front waiting more ∙ ap (λ l. v.front ++ l) (sym (append-nil (waiting ++ more))) in
    part_of_pair a c v.front (waiting ++ more) [] (text ++ more) whole part.0 (Appends-trans a b c v.front (take part.0 (waiting ++ more)) v.taken part.1)

-- more text waits
pub waits-more : (a b : Option (List ℕ)) (text waiting more now : List ℕ) → now ≡ waiting ++ more → Waits a b text waiting → Waits a b (text ++ more) now
waits-more a b text waiting more now e w = record {
  front = w.front;
  taken = w.taken;
  whole = ap (λ l. l ++ more) w.whole ∙ append_assoc w.front waiting more ∙ ap (λ l. w.front ++ l) (sym e);
}

pub waits-same : (a b : Option (List ℕ)) (text text' waiting now : List ℕ) → text ≡ text' → now ≡ waiting → Waits a b text waiting → Waits a b text' now
waits-same a b text text' waiting now e f w = record { front = w.front; taken = w.taken; whole = sym e ∙ w.whole ∙ ap (λ l. w.front ++ l) (sym f) }

-- nothing more was put
pub puts-nothing : (a : Option (List ℕ)) (waiting : List ℕ) → Waits a a (waiting ++ []) waiting
puts-nothing a waiting = waits-same a a waiting (waiting ++ []) waiting waiting (sym (append-nil waiting)) refl (waits-first a waiting)

-- what waited was written, and then the bytes behind it
pub puts-written : {E : Type 0} (a b c : Option (List ℕ)) (w bytes now : List ℕ) (r : Result (Unit {0}) E) → Waits a b (w ++ []) now → now ≡ [] → OnOk r (Appends b c bytes) → OnErr r (AppendsPart b c bytes) → Puts a c w bytes r now
puts-written a b c w bytes now (Ok u) first none all part = record {
  front = w ++ bytes;
  taken = Appends-trans a b c w bytes (subst (Appends a b) (append-nil w) (waits-all a b (w ++ []) now none first)) all;
  whole = sym (append-nil (w ++ bytes)) ∙ ap (λ l. (w ++ bytes) ++ l) (sym none);
}
puts-written a b c w bytes now (Err e) first none all part =
    let written = subst (Appends a b) (append-nil w) (waits-all a b (w ++ []) now none first) in
    part_of_pair a c w bytes [] (w ++ bytes) (ap (λ l. w ++ l) (sym (append-nil bytes))) part.0 (Appends-trans a b c w (take part.0 bytes) written part.1)

-- one part was put, and then the rest, or some first bytes of it went out
pub puts-then : {E : Type 0} (a b c : Option (List ℕ)) (w x y w' w'' : List ℕ) (r : Result (Unit {0}) E) → Waits a b (w ++ x) w' → Puts b c w' y r w'' → Puts a c w (x ++ y) r w''
puts-then a b c w x y w' w'' (Ok u) before after = subst (λ l. Waits a c l w'') (append_assoc w x y) (waits-then a b c (w ++ x) w' y w'' before after)
puts-then a b c w x y w' w'' (Err e) before part = subst (AppendsPart a c) (append_assoc w x y) (waits-part a b c (w ++ x) w' y before part)

-- some first bytes of the first part went out
pub puts-short : (a b : Option (List ℕ)) (w x y : List ℕ) → AppendsPart a b (w ++ x) → AppendsPart a b (w ++ (x ++ y))
puts-short a b w x y part = part_of_pair a b [] (w ++ x) y (w ++ (x ++ y)) (sym (append_assoc w x y)) part.0 part.1

module _ {X : Type 0} (f : X → List ℕ) (a b c : Option (List ℕ)) (w w' : List ℕ) (items : List X) (i : ℕ) (item : X) (within : i < length items) (is : item ≡ get_or items i item)
    (before : Waits a b (w ++ flat_map f (take i items)) w') where
  -- the texts of the items up to this one were put, and now this one's
  pub puts-more : (w'' : List ℕ) → Waits b c (w' ++ f item) w'' → Waits a c (w ++ flat_map f (take (i + 1) items)) w''
  puts-more w'' more =
      let grown : flat_map f (take (i + 1) items) ≡ flat_map f (take i items) ++ f item =
      ap (flat_map f) (take_more items i item within ∙ ap (λ x. take i items ++ x ∷ []) (sym is)) ∙ flat_map-append f (take i items) (item ∷ []) ∙ ap (λ l. flat_map f (take i items) ++ l) (append-nil (f item)) in
      subst (λ l. Waits a c (w ++ l) w'') (sym grown) (puts-then {E = ℕ} a b c w (flat_map f (take i items)) (f item) w' w'' (Ok tt) before more)

  -- and some first bytes of this one's went out
  pub puts-part : AppendsPart b c (w' ++ f item) → AppendsPart a c (w ++ flat_map f items)
  puts-part part =
      let front = flat_map f (take i items) in
      let behind = flat_map f (drop (i + 1) items) in
      let whole : flat_map f items ≡ (front ++ f item) ++ behind =
      ap (flat_map f) (sym (take-append-drop i items)) ∙ flat_map-append f (take i items) (drop i items)
      ∙ ap (λ l. front ++ l) (at_drop_more (flat_map f) items i item within ∙ ap (λ x. f x ++ behind) (sym is)) ∙ sym (append_assoc front (f item) behind) in
      let cut = puts-then {E = ℕ} a b c w front (f item) w' w' (Err 0) before part in
      subst (λ l. AppendsPart a c (w ++ l)) (sym whole) (puts-short a c w (front ++ f item) behind cut)
