use Rattle.std.proofs.Common.{◌≡◌, ℕ, List, [], ◌∷◌, ◌++◌, length, ◌≤◌, sym, ap, subst, ◌∙◌, arith, ⊎_elim}
use Rattle.std.specs.Prelude.{Contains, is_some}
use Rattle.std.specs.Option.{option_to_list}
use Rattle.std.proofs.lemmas.Bool.{false≢true, cases_lt}
use Rattle.std.proofs.lemmas.List.{nil_from_length}
use Rattle.std.proofs.lemmas.List.Elements.{Contains-push}
use Rattle.std.proofs.lemmas.Option.{get_or_from_slice_get}
use Rattle.snap_rows.specs.Following.{IsFollowed}
use Rattle.snap_rows.proofs.Following.{left_place, not_left, swapped, marked_more, are_marked}
use Rattle.snap_rows.specs.Bodies.{lent}
use Rattle.snap_rows.proofs.rules.follow.reached_rows.Goals as goal

-- the place that was taken is left before
taken : (old new : List ℕ) (i : ℕ) → old ≡ new ++ i ∷ [] → Contains old i
taken old new i e = subst (λ l. Contains l i) (sym e) (Contains-push new i)

pub at-requires : goal.at-requires
at-requires c =
    let t = c.args.tables.now in
    let split : c.loop-place.search.left.items ≡ c.pop.new.self.items ++ c.in-Some.place ∷ [] = c.pop.ensures.items ∙ ap (λ o. c.pop.new.self.items ++ option_to_list o) c.in-Some.is in
    (left_place t c.loop-place.search.marks.items c.loop-place.search.left.items c.in-Some.place c.loop-place.invariant.long c.loop-place.invariant.followed (taken c.loop-place.search.left.items c.pop.new.self.items c.in-Some.place split)).0

pub follow-requires-clause-entry : goal.follow-requires-clause-entry
follow-requires-clause-entry c =
    let t = c.args.tables.now in
    let split : c.loop-place.search.left.items ≡ c.pop.new.self.items ++ c.in-Some.place ∷ [] = c.pop.ensures.items ∙ ap (λ o. c.pop.new.self.items ++ option_to_list o) c.in-Some.is in
    let there = left_place t c.loop-place.search.marks.items c.loop-place.search.left.items c.in-Some.place c.loop-place.invariant.long c.loop-place.invariant.followed (taken c.loop-place.search.left.items c.pop.new.self.items c.in-Some.place split) in
    (c.in-Some.place, there.0, get_or_from_slice_get t.rows c.in-Some.place (lent c.at.result) (lent c.at.result) c.at.ensures)

pub follow-requires-clause-reached : goal.follow-requires-clause-reached
follow-requires-clause-reached c =
    let t = c.args.tables.now in
    let split : c.loop-place.search.left.items ≡ c.pop.new.self.items ++ c.in-Some.place ∷ [] = c.pop.ensures.items ∙ ap (λ o. c.pop.new.self.items ++ option_to_list o) c.in-Some.is in
    let there = left_place t c.loop-place.search.marks.items c.loop-place.search.left.items c.in-Some.place c.loop-place.invariant.long c.loop-place.invariant.followed (taken c.loop-place.search.left.items c.pop.new.self.items c.in-Some.place split) in
    c.loop-place.invariant.followed.sound c.in-Some.place (lent c.at.result) c.at.ensures there.1

pub loop-place-preserved : goal.loop-place-preserved
loop-place-preserved c =
    let t = c.args.tables.now in
    let i = c.in-Some.place in
    let r = lent c.at.result in
    let marks = c.loop-place.search.marks.items in
    let more = c.follow.new.self.marks.items in
    let rest = c.pop.new.self.items in
    let grows = c.in_ok-follow.ensures.grows in
    let split : c.loop-place.search.left.items ≡ rest ++ i ∷ [] = c.pop.ensures.items ∙ ap (λ o. rest ++ option_to_list o) c.in-Some.is in
    let there = left_place t marks c.loop-place.search.left.items i c.loop-place.invariant.long c.loop-place.invariant.followed (taken c.loop-place.search.left.items rest i split) in
    let before : IsFollowed t marks (i ∷ [] ++ rest) = swapped t marks rest (i ∷ []) (subst (IsFollowed t marks) split c.loop-place.invariant.followed) in
    record {
      long = grows.long ∙ c.loop-place.invariant.long;
      followed = not_left t more c.follow.new.self.left.items i r c.at.ensures c.in_ok-follow.ensures.marked (grows.followed (i ∷ []) before);
      ports = λ p is. marked_more t marks more p.at 0 grows.kept (c.loop-place.invariant.ports p is);
    }

pub returns-clause-marked : goal.returns-clause-marked
returns-clause-marked c =
    let t = c.args.tables.now in
    let marks = c.loop-place.search.marks.items in
    let left = c.loop-place.search.left in
    let none : left.len ≤ 0 = ⊎_elim (λ some. absurd (false≢true (sym (ap (λ o. is_some o) c.in_default.is) ∙ c.pop.ensures.variant.1 some))) (λ le. le) (cases_lt 0 left.len) in
    let e : left.items ≡ [] = nil_from_length left.items (let long : left.len ≡ length left.items = left.ok.0 in omega arith) in
    are_marked t c.requires.form c.requires.kind marks (subst (IsFollowed t marks) e c.loop-place.invariant.followed) c.loop-place.invariant.ports
