-- Tallies of what happens to packets.
use Rattle.std.proofs.Common.{◌≡◌, ◌≢◌, ◌⊎◌, inl, inr, ℕ, zero, suc, ◌+◌, ◌<◌, ◌≤◌, Bool, true, false, List, [], ◌∷◌, ◌++◌, Option, Some, map, get_or, length, refl, sym, ap, subst, ◌∙◌, arith, append-nil}
use Rattle.std.specs.Prelude.{◌==◌, is_some, slice_get, sum, if◌then◌else◌}
use Rattle.std.specs.List.{All}
use Rattle.std.proofs.lemmas.Bool.{eqb-true, eq-eqb, false≢true}
use Rattle.std.proofs.Math.ListN.{set}
use Rattle.std.proofs.lemmas.List.{length-append, length-set}
use Rattle.std.proofs.lemmas.List.Elements.{All-append, All-cons, All-nil, All-weaker}
use Rattle.std.proofs.lemmas.Option.{same_Some, slice_get_read, slice_get_within}
use Rattle.snap_rows.specs.declared.tables.Tables.{Tables}
use Rattle.snap_rows.specs.declared.head.Sent.{Sent}
use Rattle.snap_rows.specs.Form.{comps}
use Rattle.snap_rows.specs.Happenings.{deliveries_of, losses_of, number_of}
use Rattle.snap_rows.specs.Network.{Happening, Crossed, Delivered, Forked}
use Rattle.snap_net.specs.declared.flying.Flying.{Flying}
use Rattle.snap_net.specs.declared.happened.Moved.{Moved}
use Rattle.snap_net.specs.Shown.{StandsThere, moving}
use Rattle.snap_runs.specs.declared.frames.Frames.{Frames}
use Rattle.snap_runs.specs.declared.tally.Tally.{Tally}
use Rattle.snap_runs.specs.Playing.{AreTallied, HasNoted, IsLong}
use Rattle.snap_runs.specs.Reports.{hops_text}
use Rattle.snap_runs.specs.Tallies.{IsTally, IsThere, Notes, delivered_by, hop_told, line_after, line_of, lost_by, number_by}
use Rattle.snap_runs.proofs.Blocks.{in_pushed}
use Rattle.snap_rows.proofs.Happenings.{deliveries_of-append, losses_of-append}
use Rattle.snap_runs.proofs.Happenings.{HappenElsewhere, deliveries_of-others, losses_of-others, hops_text-append, hops_text-others, tally-more}

-- ---- tallies
-- what happens to others is nothing to packet i
tally_other : (f : Frames) (t : Tables) (hops : Bool) (i : ℕ) (hs gs : List Happening) (y : Tally) → HappenElsewhere i gs → IsTally f t hops i hs y → IsTally f t hops i (hs ++ gs) y
tally_other f t hops i hs gs y other is = record {
  delivered = is.delivered ∙ ap (map (λ (x : Sent). x.packet)) (sym (deliveries_of-append i hs gs ∙ ap (λ l. deliveries_of i hs ++ l) (deliveries_of-others i gs other) ∙ append-nil (deliveries_of i hs)));
  lost = is.lost ∙ ap sum (sym (losses_of-append i hs gs ∙ ap (λ l. losses_of i hs ++ l) (losses_of-others i gs other) ∙ append-nil (losses_of i hs)));
  hops_told = is.hops_told ∙ sym (hops_text-append f t hops i hs gs ∙ ap (λ l. hops_text f t hops i hs ++ l) (hops_text-others f t hops i gs other) ∙ append-nil (hops_text f t hops i hs));
}

-- nothing has happened to packet i
tally_fresh : (f : Frames) (t : Tables) (hops : Bool) (i : ℕ) (hs : List Happening) (y : Tally) → HappenElsewhere i hs → y.delivered.items ≡ [] → y.lost ≡ 0 → y.hops.items ≡ [] → IsTally f t hops i hs y
tally_fresh f t hops i hs y other d l h = record {
  delivered = d ∙ ap (map (λ (x : Sent). x.packet)) (sym (deliveries_of-others i hs other));
  lost = l ∙ ap sum (sym (losses_of-others i hs other));
  hops_told = h ∙ sym (hops_text-others f t hops i hs other);
}

elsewhere : (n i : ℕ) (hs : List Happening) → n ≤ i → All (λ h. number_of h < n) hs → HappenElsewhere i hs
elsewhere n i hs le all = All-weaker (λ h. number_of h < n) (λ h. number_of h ≢ i) (λ h less e. omega (arith, less, e, le)) hs all

-- ---- a step that is noted
pub number_by-moving : (x : Happening) → number_by (moving x) ≡ number_of x
number_by-moving (Crossed c to head) = refl
number_by-moving (Delivered c port) = refl
number_by-moving (Forked c copies lost) = refl

-- the line is that of the copy which stands there
line-told : (f : Frames) (switches : List (List ℕ)) (cs : List Flying) (place : ℕ) (x : Happening) → StandsThere cs place x → line_after f switches cs place (moving x) ≡ hop_told f switches x
line-told f switches cs place (Crossed c to head) there = ap (line_of f switches c.at) there
line-told f switches cs place (Delivered c port) there = refl
line-told f switches cs place (Forked c copies lost) there = refl

-- if any, there is a copy
pub is-there : (cs : List Flying) (place : ℕ) (x : Happening) → StandsThere cs place x → IsThere cs place (moving x)
is-there cs place (Crossed c to head) there = slice_get_within cs place _ there
is-there cs place (Delivered c port) there = tt
is-there cs place (Forked c copies lost) there = tt

set-same : (ys : List Tally) (i : ℕ) (y : Tally) → i < length ys → slice_get (set ys i y) i ≡ Some y
set-same [] i y within = absurd (omega (arith, within))
set-same (z ∷ zs) zero y within = refl
set-same (z ∷ zs) (suc i) y within = set-same zs i y (omega (arith, within))

set-other : (ys : List Tally) (i j : ℕ) (y : Tally) → (j ≡ i → ⊥) → slice_get (set ys i y) j ≡ slice_get ys j
set-other [] i j y other = refl
set-other (z ∷ zs) zero zero y other = absurd (other refl)
set-other (z ∷ zs) zero (suc j) y other = refl
set-other (z ∷ zs) (suc i) zero y other = refl
set-other (z ∷ zs) (suc i) (suc j) y other = set-other zs i j y (λ e. other (ap suc e))

-- one tally of all was changed
pub has-noted : (ys : List Tally) (number : ℕ) (y y' : Tally) (lines : List ℕ) (m : Moved) → number < length ys → y ≡ get_or ys number y → number ≡ number_by m → y'.delivered.items ≡ y.delivered.items ++ delivered_by m → y'.lost ≡ y.lost + lost_by m
    → y'.hops.items ≡ y.hops.items ++ lines → HasNoted lines m ys (set ys number y')
has-noted ys number y y' lines m within is own d l told = record {
  before = y;
  after = y';
  is = subst (λ i. slice_get ys i ≡ Some y) own (slice_get_read ys (length ys) number y refl within is);
  delivered = d;
  lost = l;
  hops_told = told;
  count = length-set ys number y';
  here = subst (λ i. slice_get (set ys number y') i ≡ Some y') own (set-same ys number y' within);
  others = λ i other. set-other ys number i y' (λ e. other (e ∙ own));
}

-- what was noted of a step is what happened
pub notes-of : (f : Frames) (t : Tables) (hops : Bool) (cs : List Flying) (place : ℕ) (x : Happening) (ys zs : List Tally) → StandsThere cs place x → (n : HasNoted (if hops then line_after f t.switches cs place (moving x) else []) (moving x) ys zs) → Notes f t hops x n.before n.after
notes-of f t hops cs place x ys zs there n = record { delivered = n.delivered; lost = n.lost; hops_told = n.hops_told ∙ ap (λ l. n.before.hops.items ++ (if hops then l else [])) (line-told f t.switches cs place x there) }

-- ---- all tallies
module _ (f : Frames) (t : Tables) (hops : Bool) where
  pub tallied-first : (ys : List Tally) → ys ≡ [] → AreTallied f t hops 0 [] ys
  tallied-first ys none = record {
    counted = ap length none;
    before = All-nil (λ h. number_of h < 0);
    tallied = λ i y is. absurd (false≢true (ap (λ (o : Option Tally). is_some o) (ap (λ l. slice_get l i) (sym none) ∙ is)));
    long = λ i y is. absurd (false≢true (ap (λ (o : Option Tally). is_some o) (ap (λ l. slice_get l i) (sym none) ∙ is)));
  }

  module _ (n : ℕ) (hs : List Happening) (old new : List Tally) (p : AreTallied f t hops n hs old) where
    -- one of a packet to which nothing has happened comes behind the others
    module _ (y : Tally) (more : new ≡ old ++ y ∷ []) (d : y.delivered.items ≡ []) (l : y.lost ≡ 0) (h : y.hops.items ≡ []) where
      one_more : (i : ℕ) (z : Tally) → ((i < length old) × (slice_get old i ≡ Some z)) ⊎ ((i ≡ length old) × (y ≡ z)) → IsTally f t hops i hs z × IsLong (comps t) z
      one_more i z (inl k) = (p.tallied i z k.1, p.long i z k.1)
      one_more i z (inr k) =
          let e = k.0 in
          let g = p.counted in
          subst (λ x. IsTally f t hops i hs x × IsLong (comps t) x) k.1
          (tally_fresh f t hops i hs y (elsewhere n i hs (omega (arith, e, g)) p.before) d l h, subst (All (λ x. length x ≡ comps t)) (sym d) (All-nil (λ x. length x ≡ comps t)))

      pub tallied-injected : (n' : ℕ) → n' ≡ n + 1 → AreTallied f t hops n' hs new
      tallied-injected n' next = record {
        counted = ap length more ∙ length-append old (y ∷ []) ∙ ap (λ m. m + 1) p.counted ∙ sym next;
        before = All-weaker (λ x. number_of x < n) (λ x. number_of x < n') (λ x less. omega (arith, less, next)) hs p.before;
        tallied = λ i z is. (one_more i z (in_pushed old y z i (ap (λ ys. slice_get ys i) (sym more) ∙ is))).0;
        long = λ i z is. (one_more i z (in_pushed old y z i (ap (λ ys. slice_get ys i) (sym more) ∙ is))).1;
      }

    -- a step was noted, and what it adds to its packet's tally is what happened
    module _ (gs : List Happening) (below : All (λ g. number_of g < n) gs) (lines : List ℕ) (m : Moved) (noted : HasNoted lines m old new) (mine : All (λ g. number_of g ≡ number_by m) gs) (fits : All (λ k. length k ≡ comps t) (delivered_by m))
        (grows : IsTally f t hops (number_by m) hs noted.before → IsTally f t hops (number_by m) (hs ++ gs) noted.after) where
      one_noted : (i : ℕ) (z : Tally) → slice_get new i ≡ Some z → (b : Bool) → (i == number_by m) ≡ b → IsTally f t hops i (hs ++ gs) z × IsLong (comps t) z
      one_noted i z is true e =
          let at : i ≡ number_by m = eqb-true i (number_by m) e in
          let what : noted.after ≡ z = same_Some noted.after z (sym noted.here ∙ ap (λ j. slice_get new j) (sym at) ∙ is) in
          subst (λ x. IsTally f t hops i (hs ++ gs) x × IsLong (comps t) x) what (
            subst (λ j. IsTally f t hops j (hs ++ gs) noted.after) (sym at) (grows (p.tallied (number_by m) noted.before noted.is)),
            subst (All (λ k. length k ≡ comps t)) (sym noted.delivered) (All-append (λ k. length k ≡ comps t) noted.before.delivered.items (delivered_by m) (p.long (number_by m) noted.before noted.is) fits),
          )
      one_noted i z is false e =
          let other : i ≢ number_by m = λ g. false≢true (sym e ∙ eq-eqb i (number_by m) g) in
          let was : slice_get old i ≡ Some z = sym (noted.others i other) ∙ is in
          (tally_other f t hops i hs gs z (All-weaker (λ g. number_of g ≡ number_by m) (λ g. number_of g ≢ i) (λ g own same. other (sym same ∙ own)) gs mine) (p.tallied i z was), p.long i z was)

      pub tallied-noted : AreTallied f t hops n (hs ++ gs) new
      tallied-noted = record {
        counted = noted.count ∙ p.counted;
        before = All-append (λ g. number_of g < n) hs gs p.before below;
        tallied = λ i z is. (one_noted i z is (i == number_by m) refl).0;
        long = λ i z is. (one_noted i z is (i == number_by m) refl).1;
      }

    -- so it is where this happened to a copy
    pub tallied-moved : (x : Happening) → All (λ g. number_of g < n) (x ∷ []) → (cs : List Flying) (place : ℕ) → StandsThere cs place x → HasNoted (if hops then line_after f t.switches cs place (moving x) else []) (moving x) old new
        → All (λ k. length k ≡ comps t) (delivered_by (moving x)) → AreTallied f t hops n (hs ++ x ∷ []) new
    tallied-moved x below cs place there noted fits =
        let m = moving x in
        let own = number_by-moving x in
        let mine : All (λ g. number_of g ≡ number_by m) (x ∷ []) = All-cons (λ g. number_of g ≡ number_by m) x [] (sym own) (All-nil (λ g. number_of g ≡ number_by m)) in
        tallied-noted (x ∷ []) below (if hops then line_after f t.switches cs place m else []) m noted mine fits (λ is. tally-more f t hops (number_by m) hs x noted.before noted.after (sym own) is (notes-of f t hops cs place x old new there noted))
