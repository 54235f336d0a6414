-- Tallies of what happens in turns.
use Rattle.std.proofs.Common.{◌≡◌, ℕ, ◌+◌, ◌<◌, Bool, true, false, List, [], ◌∷◌, ◌++◌, Option, Some, None, length, refl, sym, ap, subst, ◌∙◌, arith, append-nil}
use Rattle.std.specs.Prelude.{if◌then◌else◌}
use Rattle.std.specs.List.{All}
use Rattle.std.proofs.lemmas.List.Elements.{All-nil}
use Rattle.std.proofs.lemmas.Option.{none-some, same_Some}
use Rattle.snap_rows.specs.declared.tables.Tables.{Tables}
use Rattle.snap_rows.specs.Form.{comps}
use Rattle.snap_rows.specs.Happenings.{number_of}
use Rattle.snap_rows.specs.Network.{Copy, Step, Happening}
use Rattle.snap_rows.proofs.Rows.{All-get}
use Rattle.snap_net.specs.declared.flying.Flying.{Flying}
use Rattle.snap_net.specs.declared.happened.Moved.{Moved}
use Rattle.snap_net.specs.Shown.{moving}
use Rattle.snap_faithful.specs.InOrder.{Becomes, SentOn, Waiting, Forks}
use Rattle.snap_runs.specs.declared.frames.Frames.TheVariants.{Numbered}
use Rattle.snap_runs.specs.declared.tally.Tally.{Tally}
use Rattle.snap_runs.specs.Playing.{AreTallied, HasNoted}
use Rattle.snap_runs.specs.Tallies.{IsTally, delivered_by, lost_by, number_by}
use Rattle.snap_runs.proofs.Steps.{delivered_long}
use Rattle.snap_runs.proofs.Tallied.{tallied-moved, tallied-noted}
use Rattle.snap_order.specs.Ordered.{Ordered, OrderedHappening, Happens, Stays, Waits, LeadsInOrder, happenings, moves, turn_of, visits, waits}
use Rattle.snap_order.specs.Playing.{NotesTurn}
use Rattle.snap_order.specs.Shown.{StandsTurn, told_of}
use Rattle.snap_order.proofs.Overlap.{happenings_more}

-- what happens in a list of one turn
abbrev happening_in : List OrderedHappening → Option Happening
happening_in (Happens x ∷ us) = Some x
happening_in _ = None

happens_same : (x y : Happening) → Happens x ∷ [] ≡ Happens y ∷ [] → x ≡ y
happens_same x y e = same_Some x y (ap happening_in e)

stays_apart : (c : Copy) (r : ℕ) (x : Happening) → Stays c r ∷ [] ≡ Happens x ∷ [] → ⊥
stays_apart c r x e = none-some x (ap happening_in e)

waits_apart : (c : Copy) (r : ℕ) (x : Happening) → Waits c r ∷ [] ≡ Happens x ∷ [] → ⊥
waits_apart c r x e = none-some x (ap happening_in e)

turned_long : (n : ℕ) (c : Copy) (b : Becomes) (x : Happening) → turn_of c b ∷ [] ≡ Happens x ∷ [] → All (λ k. length k ≡ n) (delivered_by (moving x))
turned_long n c (SentOn to r v) x e = subst (λ y. All (λ k. length k ≡ n) (delivered_by (moving y))) (happens_same _ x e) (All-nil (λ k. length k ≡ n))
turned_long n c (Waiting r v) x e = absurd (stays_apart c r x e)
turned_long n c (Forks copies lost) x e = subst (λ y. All (λ k. length k ≡ n) (delivered_by (moving y))) (happens_same _ x e) (All-nil (λ k. length k ≡ n))

pub step_long : {t : Tables} {s s' : Ordered} {j : ℕ} {us : List OrderedHappening} (n : ℕ) → All (λ (c : Copy). length c.packet ≡ n) s.net.flying → LeadsInOrder t s (Step j) s' us → (x : Happening) → us ≡ Happens x ∷ [] → All (λ k. length k ≡ n) (delivered_by (moving x))
step_long {s = s} n all (moves {i = i} {c = c} {a = a} is none handles) x e =
    subst (λ y. All (λ k. length k ≡ n) (delivered_by (moving y))) (happens_same _ x e) (delivered_long n c a (All-get (λ (c : Copy). length c.packet ≡ n) s.net.flying i c all is))
step_long n all (visits {c = c} {b = b} is before turn takes) x e = turned_long n c b x e
step_long n all (waits {c = c} {r = r} is before early) x e = absurd (waits_apart c r x e)

-- ---- tallies
-- there is a tally of each of the first n packets
abbrev pub Tallied : Tables → (hops : Bool) → (n : ℕ) → List OrderedHappening → List Tally → Type 0
Tallied t hops n us ys = AreTallied Numbered t hops n (happenings us) ys

-- nothing is told of a copy that stays
no_line : (hops : Bool) → ◌≡◌ {A = List ℕ} (if hops then [] else []) []
no_line true = refl
no_line false = refl

module _ (t : Tables) (hops : Bool) (n : ℕ) (us : List OrderedHappening) (old new : List Tally) (p : Tallied t hops n us old) (ts : List OrderedHappening) where
  tallied_more : (gs : List Happening) → happenings ts ≡ gs → AreTallied Numbered t hops n (happenings us ++ gs) new → Tallied t hops n (us ++ ts) new
  tallied_more gs is q = subst (λ hs. AreTallied Numbered t hops n hs new) (sym (happenings_more us ts ∙ ap (λ l. happenings us ++ l) is)) q

  -- of a copy that stays where it is
  tallied_still : (m : Moved) → HasNoted (if hops then [] else []) m old new → happenings ts ≡ [] → delivered_by m ≡ [] → lost_by m ≡ 0 → Tallied t hops n (us ++ ts) new
  tallied_still m noted none delivers loses =
      tallied_more [] none
      (tallied-noted Numbered t hops n (happenings us) old new p [] (All-nil (λ g. number_of g < n)) (if hops then [] else []) m noted (All-nil (λ g. number_of g ≡ number_by m)) (subst (All (λ k. length k ≡ comps t)) (sym delivers) (All-nil (λ k. length k ≡ comps t)))
      (λ is. subst (λ l. IsTally Numbered t hops (number_by m) l noted.after) (sym (append-nil (happenings us))) (record {
        delivered = noted.delivered ∙ ap (λ l. noted.before.delivered.items ++ l) delivers ∙ append-nil noted.before.delivered.items ∙ is.delivered;
        lost = noted.lost ∙ ap (λ x. noted.before.lost + x) loses ∙ (let e : noted.before.lost + 0 ≡ noted.before.lost = omega arith in e) ∙ is.lost;
        hops_told = noted.hops_told ∙ ap (λ l. noted.before.hops.items ++ l) (no_line hops) ∙ append-nil noted.before.hops.items ∙ is.hops_told;
      })))

  -- what a turn tells was noted
  pub tallied_turn : (u : OrderedHappening) → ts ≡ u ∷ [] → (cs : List Flying) (place : ℕ) → StandsTurn cs place u → (m : Moved) → m ≡ told_of u → NotesTurn hops t.switches cs place m old new → All (λ g. number_of g < n) (happenings ts)
      → ((x : Happening) → ts ≡ Happens x ∷ [] → All (λ k. length k ≡ comps t) (delivered_by (moving x))) → Tallied t hops n (us ++ ts) new
  tallied_turn (Happens x) what cs place there m e noted below fits =
      tallied_more (x ∷ []) (ap happenings what)
      (tallied-moved Numbered t hops n (happenings us) old new p x (subst (All (λ g. number_of g < n)) (ap happenings what) below) cs place there (subst (λ y. NotesTurn hops t.switches cs place y old new) e noted) (fits x what))
  tallied_turn (Stays c r) what cs place there m e noted below fits = tallied_still (told_of (Stays c r)) (subst (λ y. NotesTurn hops t.switches cs place y old new) e noted) (ap happenings what) refl refl
  tallied_turn (Waits c r) what cs place there m e noted below fits = tallied_still (told_of (Waits c r)) (subst (λ y. NotesTurn hops t.switches cs place y old new) e noted) (ap happenings what) refl refl
