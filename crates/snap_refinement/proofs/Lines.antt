-- The changes that a file says come behind rising numbers of packets.
use Rattle.std.proofs.Common.{◌≡◌, ℕ, ◌+◌, ◌≤◌, Bool, true, false, List, [], ◌∷◌, Option, Some, None, Result, Ok, Err, refl, subst, arith}
use Rattle.std.specs.Prelude.{◌==◌, nat_lt, if◌then◌else◌}
use Rattle.std.proofs.lemmas.Bool.{ltb-false}
use Rattle.snap_core.specs.declared.program.Which.TheVariants.{Changes}
use Rattle.snap_runs.specs.Schedules.{lines_of}
use Rattle.snap_runs.specs.declared.change.Change.{Change}
use Rattle.snap_runs.specs.declared.change.ChangesFault.{ChangesFault}
use Rattle.snap_runs.specs.declared.change.ChangesFault.TheVariants.{Line, Limit}
use Rattle.snap_refinement.specs.ChangeLaws.{SaidChangesRise}
use Rattle.snap_runs.specs.ChangeLines.{AreRising, IsBehind, behind, change_by, changes_from, is_skipped, least_behind, with_change}

-- the first comes behind at least so many packets
abbrev IsAtLeast : ℕ → List Change → Type 0
IsAtLeast n [] = Unit {0}
IsAtLeast n (c ∷ cs) = n ≤ c.after

at_behind : (n : ℕ) (cs : List Change) → IsAtLeast (n + 1) cs → IsBehind n cs
at_behind n [] h = tt
at_behind n (c ∷ cs) h = omega (arith, h)

abbrev Rise : ℕ → List Change → Type 0
Rise n cs = IsAtLeast n cs × AreRising cs

by_rest : (x : Change) (least : ℕ) → least ≤ x.after → (r : Result (List Change) ChangesFault) → ((ds : List Change) → r ≡ Ok ds → Rise (x.after + 1) ds) → (cs : List Change) → behind (x ∷ []) r ≡ Ok cs → Rise least cs
by_rest x least low (Ok ds) f cs e =
    let h = f ds refl in
    let same : x ∷ ds ≡ cs = cc in
    let all : Rise least (x ∷ ds) = (low, (at_behind x.after ds h.0, h.1)) in
    subst (Rise least) same all
by_rest x least low (Err y) f cs e = absurd (cc)

by_change : (line least count : ℕ) (said : Option (ℕ × List ℕ)) (r : Result (List Change) ChangesFault) → ((ds : List Change) → r ≡ Ok ds → Rise (least_behind said) ds) → (cs : List Change) → with_change line least count said r ≡ Ok cs → Rise least cs
by_change line least count None r f cs e = absurd (cc)
by_change line least count (Some said) r f cs e = low (nat_lt said.0 least) refl e
  where
    full : least ≤ said.0 → (b : Bool) → (if b then Err (Limit Changes 17) else behind (record { after = said.0; line = line; name = said.1 } ∷ []) r) ≡ Ok cs → Rise least cs
    full h true e = absurd (cc)
    full h false e = by_rest (record { after = said.0; line = line; name = said.1 }) least h r f cs e

    low : (b : Bool) → nat_lt said.0 least ≡ b → (if b then Err (Line line) else if count == 16 then Err (Limit Changes 17) else behind (record { after = said.0; line = line; name = said.1 } ∷ []) r) ≡ Ok cs → Rise least cs
    low true is e = absurd (cc)
    low false is e = full (ltb-false said.0 least is) (count == 16) e

rise_from : (line least count : ℕ) (lines : List (List ℕ)) (cs : List Change) → changes_from line least count lines ≡ Ok cs → Rise least cs
rise_from line least count [] cs e = let none : ◌≡◌ {A = List Change} [] cs = cc in subst (Rise least) none (tt, tt)
rise_from line least count (text ∷ lines) cs e =
    by (is_skipped text) (λ ds h. rise_from (line + 1) least count lines ds h) (λ ds h. rise_from (line + 1) (least_behind (change_by text)) (count + 1) lines ds h) e
  where
    by : (b : Bool) → ((ds : List Change) → changes_from (line + 1) least count lines ≡ Ok ds → Rise least ds)
        → ((ds : List Change) → changes_from (line + 1) (least_behind (change_by text)) (count + 1) lines ≡ Ok ds → Rise (least_behind (change_by text)) ds)
        → (if b then changes_from (line + 1) least count lines else with_change line least count (change_by text) (changes_from (line + 1) (least_behind (change_by text)) (count + 1) lines)) ≡ Ok cs → Rise least cs
    by true f g h = f cs h
    by false f g h = by_change line least count (change_by text) (changes_from (line + 1) (least_behind (change_by text)) (count + 1) lines) g cs h

pub said_changes_rise : SaidChangesRise
said_changes_rise text cs e = (rise_from 1 0 0 (lines_of text) cs e).1
