-- Texts one behind another in one list stay where they are when more bytes come behind them.
use Rattle.std.proofs.Common.{◌≡◌, ◌∙◌, ℕ, ◌+◌, ◌-◌, ◌≤◌, List, [], ◌∷◌, ◌++◌, length, map, take, drop, refl, ap, arith}
use Rattle.std.specs.List.{All, between}
use Rattle.std.proofs.Math.Seq.{drop-append_seam}
use Rattle.std.proofs.lemmas.List.{drop-append-le, length-drop, map-append, take-append-le}
use Rattle.std.proofs.lemmas.List.Elements.{All-head, All-tail}
use Rattle.std.proofs.lemmas.Slice.{between_to_end}
use Rattle.snap_tables.specs.Texts.{IsWithin, spanned}
use Rattle.snap_tables.specs.declared.texts.Span.{Span}

between-append : (bytes more : List ℕ) (i j : ℕ) → i ≤ j → j ≤ length bytes → between i j (bytes ++ more) ≡ between i j bytes
between-append bytes more i j low high =
    ap (λ (l : List ℕ). take (j - i) l) (drop-append-le i bytes more (omega arith)) ∙ take-append-le (j - i) (drop i bytes) more (omega (arith, length-drop i bytes))

map-append_bytes : (bytes more : List ℕ) (spans : List Span) → All (IsWithin bytes) spans → map (spanned (bytes ++ more)) spans ≡ map (spanned bytes) spans
map-append_bytes bytes more [] within = refl
map-append_bytes bytes more (s ∷ rest) within =
    let here = All-head (IsWithin bytes) s rest within in
    let head = between-append bytes more s.start s.end here.0 here.1 in
    let tail = map-append_bytes bytes more rest (All-tail (IsWithin bytes) s rest within) in
    λ i. head i ∷ tail i

-- one more text, behind the bytes so far
module _ (bytes text : List ℕ) (spans : List Span) (s : Span) (start : s.start ≡ length bytes) (end : s.end ≡ length (bytes ++ text)) (within : All (IsWithin bytes) spans) where
  last : spanned (bytes ++ text) s ≡ text
  last = between_to_end (bytes ++ text) s.start s.end (omega (arith, end)) ∙ ap (λ (i : ℕ). drop i (bytes ++ text)) start ∙ drop-append_seam bytes text

  pub texts-push : map (spanned (bytes ++ text)) (spans ++ s ∷ []) ≡ map (spanned bytes) spans ++ text ∷ []
  texts-push =
      let before = map-append_bytes bytes text spans within in
      map-append (spanned (bytes ++ text)) spans (s ∷ []) ∙ (λ i. before i ++ last i ∷ [])
