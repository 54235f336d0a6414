use Rattle.std.proofs.Common.{◌≡◌, ◌∙◌, ◌∷◌, ◌++◌, [], ℕ, List, length, map, ap, arith}
use Rattle.snap_tables.specs.Texts.{spanned}
use Rattle.snap_tables.specs.declared.texts.Span.{Span}
use Rattle.snap_tables.proofs.Spans.{texts-push}
use Rattle.snap_tables.proofs.texts.Texts.push.Goals as goal

pub returns : goal.returns
returns c =
    let text = c.args.text.now in
    let bytes = c.self.inside.bytes.items in
    let spans = c.self.inside.spans.items in
    let span : Span = record { start = c.len-start.result; end = c.len-end.result } in
    let longer : c.extend_from_slice.new.self.items ≡ bytes ++ text = c.in_ok-extend_from_slice.ensures.items in
    let more : c.push.new.self.items ≡ spans ++ span ∷ [] = c.in_ok-push.ensures.items in
    let size = ap (λ (l : List ℕ). length l) longer in
    let start : span.start ≡ length bytes = omega (arith, c.len-start.ensures, c.self.inside.bytes.ok.0) in
    let end : span.end ≡ length (bytes ++ text) = omega (arith, size, c.len-end.ensures, c.extend_from_slice.new.self.ok.0) in
    (λ i. map (spanned (longer i)) (more i)) ∙ texts-push bytes text spans span start end c.self.invariant ∙ (λ i. c.self.view_is i ++ text ∷ [])
