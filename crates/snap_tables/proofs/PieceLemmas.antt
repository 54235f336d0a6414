-- Pieces of a line, one behind another: words are those of one list of pieces.
use Rattle.std.proofs.Common.{◌≡◌, ◌≢◌, ◌<◌, Bool, true, false, List, [], ◌∷◌, ◌++◌, Option, Some, None, length, refl, sym, ap, ◌∙◌, arith, append_assoc, append-nil}
use Rattle.std.specs.Prelude.{MatchOption}
use Rattle.std.specs.List.{All, AllByRecursion, flat_map}
use Rattle.std.proofs.lemmas.List.Concat.{flat_map-append}
use Rattle.std.proofs.lemmas.List.Elements.{All-push, All-tail}
use Rattle.snap_tables.specs.Text.{Words}
use Rattle.snap_tables.specs.Pieces.{FailsAfter, IsPiece, TakesAll}

pub option-cases : {A : Type 0} (o : Option A) {P : Type 0} {Q : A → Type 0} → (o ≡ None → P) → ((x : A) → o ≡ Some x → Q x) → MatchOption o P Q
option-cases None f g = f refl
option-cases (Some x) f g = g x refl

pub false-true : false ≡ true → ⊥
false-true e = cc

pub all-push : {X : Type 0} (P : X → Type 0) (xs : List X) (x : X) → AllByRecursion P xs → P x → AllByRecursion P (xs ++ (x ∷ []))
all-push P [] x h p = (p, tt)
all-push P (y ∷ ys) x h p = (h.0, all-push P ys x h.1 p)

pub flat_map-push : {X Y : Type 0} (f : X → List Y) (xs : List X) (x : X) → flat_map f (xs ++ (x ∷ [])) ≡ flat_map f xs ++ f x
flat_map-push f xs x = flat_map-append f xs (x ∷ []) ∙ ap (λ l. flat_map f xs ++ l) (append-nil (f x))

-- one more piece behind others
module _ {X : Type 0} (spelled : X → Words) (Fits : X → Type 0) (goes_on : Words → Bool) (ws left more : Words) (xs : List X) (x : X)
    (words : ws ≡ flat_map spelled xs ++ left) (each : All Fits xs) (piece : IsPiece spelled Fits goes_on left x more) where
  pub pieces-words : ws ≡ flat_map spelled (xs ++ (x ∷ [])) ++ more
  pieces-words =
      words ∙ ap (λ l. flat_map spelled xs ++ l) piece.words ∙ sym (append_assoc (flat_map spelled xs) (spelled x) more)
      ∙ ap (λ l. l ++ more) (sym (flat_map-push spelled xs x))

  pub pieces-each : All Fits (xs ++ (x ∷ []))
  pieces-each = All-push Fits xs x each piece.fits

-- what is asked of pieces: their beginning shows, words spell one of them, and a beginning goes on no other
pub record AreApart {X : Type 0} (spelled : X → Words) (Fits : X → Type 0) (opens goes_on : Words → Bool) : Type 0 where
  pub shows : (x : X) (more : Words) → opens (spelled x ++ more) ≡ true
  pub one : (x y : X) (m n : Words) → Fits x → Fits y → goes_on m ≡ false → goes_on n ≡ false → spelled x ++ m ≡ spelled y ++ n → (x ≡ y) × (m ≡ n)
  pub stops : (m : Words) → opens m ≡ true → goes_on m ≡ false

module _ {X : Type 0} (spelled : X → Words) (Fits : X → Type 0) (opens goes_on : Words → Bool) (apart : AreApart spelled Fits opens goes_on) where
  stopped : (ys : List X) (r : Words) → goes_on r ≡ false → goes_on (flat_map spelled ys ++ r) ≡ false
  stopped [] r h = h
  stopped (y ∷ ys) r h =
      apart.stops (flat_map spelled (y ∷ ys) ++ r) (ap opens (append_assoc (spelled y) (flat_map spelled ys) r) ∙ apart.shows y (flat_map spelled ys ++ r))

  record Behind (xs ys : List X) (l r : Words) : Type 0 where
    more : List X
    whole : ys ≡ xs ++ more
    fits : All Fits more
    left : l ≡ flat_map spelled more ++ r

  cancel : (xs ys : List X) (l r : Words) → All Fits xs → All Fits ys → (0 < length xs → goes_on l ≡ false) → opens r ≡ false → goes_on r ≡ false
      → flat_map spelled xs ++ l ≡ flat_map spelled ys ++ r → Behind xs ys l r
  cancel [] ys l r hx hy last ends quiet e = record { more = ys; whole = refl; fits = hy; left = e }
  cancel (x ∷ xs) [] l r hx hy last ends quiet e =
      absurd (false-true (sym ends ∙ ap opens (sym e ∙ append_assoc (spelled x) (flat_map spelled xs) l) ∙ apart.shows x (flat_map spelled xs ++ l)))
  cancel (x ∷ xs) (y ∷ ys) l r hx hy last ends quiet e =
      let same = sym (append_assoc (spelled x) (flat_map spelled xs) l) ∙ e ∙ append_assoc (spelled y) (flat_map spelled ys) r in
      let k = apart.one x y (flat_map spelled xs ++ l) (flat_map spelled ys ++ r) (hx 0 x (omega arith)) (hy 0 y (omega arith)) (stopped xs l (last (omega arith))) (stopped ys r quiet) same in
      let b = cancel xs ys l r (All-tail Fits x xs hx) (All-tail Fits y ys hy) (λ some. last (omega arith)) ends quiet k.1 in
      record { more = b.more; whole = (λ i. sym k.0 i ∷ b.whole i); fits = b.fits; left = b.left }

  pub fails-none : (ws : Words) → FailsAfter spelled Fits opens goes_on ws → (ys : List X) (r : Words) → All Fits ys → opens r ≡ false → goes_on r ≡ false → ws ≢ flat_map spelled ys ++ r
  fails-none ws f ys r hy ends quiet e =
      let b = cancel f.done ys f.left r f.each hy (λ some. apart.stops f.left f.begins) ends quiet (sym f.words ∙ e) in
      at b.more b.fits b.left
    where
      at : (more : List X) → All Fits more → f.left ≡ flat_map spelled more ++ r → ⊥
      at [] h e = false-true (sym ends ∙ ap opens (sym e) ∙ f.begins)
      at (z ∷ zs) h e = f.none z (flat_map spelled zs ++ r) (h 0 z (omega arith)) (stopped zs r quiet) (e ∙ append_assoc (spelled z) (flat_map spelled zs) r)

  pub takes-one : (ws left : Words) (xs : List X) → TakesAll spelled Fits opens goes_on ws xs left → (ys : List X) (r : Words) → All Fits ys → opens r ≡ false → goes_on r ≡ false
      → ws ≡ flat_map spelled ys ++ r → (xs ≡ ys) × (left ≡ r)
  takes-one ws left xs t ys r hy ends quiet e =
      let b = cancel xs ys left r t.each hy t.last ends quiet (sym t.words ∙ e) in
      at b.more b.whole b.left
    where
      at : (more : List X) → ys ≡ xs ++ more → left ≡ flat_map spelled more ++ r → (xs ≡ ys) × (left ≡ r)
      at [] whole e = (sym (whole ∙ append-nil xs), e)
      at (z ∷ zs) whole e = absurd (false-true (sym t.ends ∙ ap opens (e ∙ append_assoc (spelled z) (flat_map spelled zs) r) ∙ apart.shows z (flat_map spelled zs ++ r)))

  pub lists-one : (xs ys : List X) (l r : Words) → All Fits xs → All Fits ys → opens l ≡ false → goes_on l ≡ false → opens r ≡ false → goes_on r ≡ false
      → flat_map spelled xs ++ l ≡ flat_map spelled ys ++ r → (xs ≡ ys) × (l ≡ r)
  lists-one xs ys l r hx hy el ql er qr e = takes-one (flat_map spelled xs ++ l) l xs (record { words = refl; each = hx; last = λ some. ql; ends = el }) ys r hy er qr e
