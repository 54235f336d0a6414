use Rattle.std.proofs.Common.{◌≡◌, ◌<◌, ◌∙◌, true, false, eqb, length, sym, arith}
use Rattle.std.proofs.lemmas.Bool.Decides.{nat_tests}
use Rattle.snap_core.proofs.OctetLemmas.{address-more, address-no_fourth, address-no_part, address-no_second, address-no_third, address-whole}
use Rattle.snap_core.proofs.figures.address.Goals as goal

pub returns-in_err-first : goal.returns-in_err-first
returns-in_err-first c = c.from_residual.ensures ∙ sym (address-no_part c.args.text.now c.in_err-first.ensures.read)

pub returns-in_err-second : goal.returns-in_err-second
returns-in_err-second c =
    let a = c.in_ok-first in
    c.from_residual-in_err-second.ensures ∙ sym (address-no_second c.args.text.now a.rest.now a.first a.ensures.read c.in_err-second.ensures.read)

pub returns-in_err-third : goal.returns-in_err-third
returns-in_err-third c =
    let a = c.in_ok-first in let b = c.in_ok-second in
    c.from_residual-in_err-third.ensures
    ∙ sym (address-no_third c.args.text.now a.rest.now a.first a.ensures.read b.rest.now b.second b.ensures.read c.in_err-third.ensures.read)

pub returns-in_err-fourth : goal.returns-in_err-fourth
returns-in_err-fourth c =
    let a = c.in_ok-first in let b = c.in_ok-second in let d = c.in_ok-third in
    c.from_residual-in_err-fourth.ensures
    ∙ sym (address-no_fourth c.args.text.now a.rest.now a.first a.ensures.read b.rest.now b.second b.ensures.read d.rest.now d.third d.ensures.read c.in_err-fourth.ensures.read)

pub returns-then-is_empty : goal.returns-then-is_empty
returns-then-is_empty c =
    let a = c.in_ok-first in let b = c.in_ok-second in let d = c.in_ok-third in let e = c.in_ok-fourth in
    let test : eqb (length e.rest.now) 0 ≡ true = sym c.if-is_empty.ensures in
    let ends : length e.rest.now ≡ 0 = grind (arith, nat_tests) in
    sym (address-whole c.args.text.now a.rest.now a.first a.ensures.read b.rest.now b.second b.ensures.read d.rest.now d.third d.ensures.read e.rest.now e.fourth e.ensures.read ends)

pub returns-else-is_empty : goal.returns-else-is_empty
returns-else-is_empty c =
    let a = c.in_ok-first in let b = c.in_ok-second in let d = c.in_ok-third in let e = c.in_ok-fourth in
    let test : eqb (length e.rest.now) 0 ≡ false = sym c.if-is_empty.ensures in
    let more : 0 < length e.rest.now = grind (arith, nat_tests) in
    sym (address-more c.args.text.now a.rest.now a.first a.ensures.read b.rest.now b.second b.ensures.read d.rest.now d.third d.ensures.read e.rest.now e.fourth e.ensures.read more)
