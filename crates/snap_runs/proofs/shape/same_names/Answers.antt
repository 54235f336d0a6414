-- One name more.
use Rattle.std.proofs.Common.{◌≡◌, ◌<◌, ℕ, List, length, get_or, sym, ap, ◌∙◌, arith}
use Rattle.std.proofs.lemmas.Bool.{false≢true}
use Rattle.std.proofs.lemmas.List.{get_or_default, length-map}
use Rattle.snap_rows.specs.declared.tables.ArrayAt.{ArrayAt}
use Rattle.snap_runs.specs.Reports.{names_of}
use Rattle.snap_core.proofs.AlikeLemmas.{take_both}
use Rattle.snap_runs.proofs.Shapes.{name_of}
use Rattle.snap_runs.proofs.shape.same_names.Goals as goal

pub loop-i-preserved : goal.loop-i-preserved
loop-i-preserved c =
    let left = c.args.left.now in
    let right = c.args.right.now in
    let i = c.loop-i.i in
    let l : ArrayAt = c.index-left-i.result in
    let r : ArrayAt = c.index-right-i.result in
    let within : i < length left = c.loop-i-test.true in
    let there : i < length right = omega arith in
    let one = length-map left (λ (a : ArrayAt). a.name) in
    let two = length-map right (λ (a : ArrayAt). a.name) in
    take_both (names_of left) (names_of right) i l.name r.name (omega (arith, one, within)) (omega (arith, two, there)) (name_of left i l within c.index-left-i.is) (name_of right i r there c.index-right-i.is)
    (ap (λ (a : ArrayAt). a.name) c.index-left-i.is ∙ c.is_same_name.ensures.0 c.if-not-is_same_name.false ∙ sym (ap (λ (a : ArrayAt). a.name) c.index-right-i.is)) c.loop-i.invariant

pub returns-then-not-is_same_name : goal.returns-then-not-is_same_name
returns-then-not-is_same_name c =
    let left = c.args.left.now in
    let right = c.args.right.now in
    let i = c.loop-i.i in
    let l : ArrayAt = c.index-left-i.result in
    let r : ArrayAt = c.index-right-i.result in
    let within : i < length left = c.loop-i-test.true in
    let there : i < length right = omega arith in
    let two = length-map right (λ (a : ArrayAt). a.name) in (
      λ no. absurd (false≢true no),
      λ same.
          let names : l.name ≡ r.name = name_of left i l within c.index-left-i.is ∙ ap (λ (xs : List (List ℕ)). get_or xs i l.name) same
          ∙ get_or_default (names_of right) i l.name r.name (omega (arith, two, there)) ∙ sym (name_of right i r there c.index-right-i.is) in
          absurd (false≢true (sym c.if-not-is_same_name.true ∙ c.is_same_name.ensures.1 (sym (ap (λ (a : ArrayAt). a.name) c.index-left-i.is) ∙ names ∙ ap (λ (a : ArrayAt). a.name) c.index-right-i.is))),
    )
