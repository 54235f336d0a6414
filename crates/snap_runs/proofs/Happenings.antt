-- What happens to one packet, in lists of happenings one behind another.
use Rattle.std.proofs.Common.{◌≡◌, ◌≢◌, ℕ, ◌+◌, Bool, true, false, List, [], ◌∷◌, ◌++◌, map, refl, sym, ap, ◌∙◌, arith, append_assoc, append-nil}
use Rattle.std.specs.Prelude.{◌==◌, sum, if◌then◌else◌}
use Rattle.std.specs.List.{All}
use Rattle.std.proofs.lemmas.Bool.{eq-eqb, ne_eqb}
use Rattle.std.proofs.lemmas.List.{map-append}
use Rattle.std.proofs.lemmas.List.Elements.{All-head, All-tail}
use Rattle.std.proofs.lemmas.List.Sums.{sum_by-append, sum_by-cons}
use Rattle.snap_rows.specs.declared.tables.Tables.{Tables}
use Rattle.snap_rows.specs.declared.head.Sent.{Sent}
use Rattle.snap_rows.specs.Happenings.{deliveries_of, losses_of, number_of}
use Rattle.snap_rows.specs.Network.{Happening, Crossed, Delivered, Forked}
use Rattle.snap_net.specs.Shown.{moving}
use Rattle.snap_rows.proofs.Happenings.{deliveries_of-append, losses_of-append}
use Rattle.snap_runs.specs.declared.frames.Frames.{Frames}
use Rattle.snap_runs.specs.declared.tally.Tally.{Tally}
use Rattle.snap_runs.specs.Reports.{hop_line, hop_lines, hops_text, packets_delivered}
use Rattle.snap_runs.specs.Tallies.{IsTally, Notes, delivered_by, hop_told, lost_by}

hop_lines-append : (f : Frames) (t : Tables) (i : ℕ) (hs gs : List Happening) → hop_lines f t i (hs ++ gs) ≡ hop_lines f t i hs ++ hop_lines f t i gs
hop_lines-append f t i [] gs = refl
hop_lines-append f t i (Delivered c port ∷ hs) gs = hop_lines-append f t i hs gs
hop_lines-append f t i (Crossed c to head ∷ hs) gs = by (c.number == i) (hop_lines-append f t i hs gs)
  where
    by : (b : Bool) → hop_lines f t i (hs ++ gs) ≡ hop_lines f t i hs ++ hop_lines f t i gs
        → (if b then hop_line f t c to head ++ hop_lines f t i (hs ++ gs) else hop_lines f t i (hs ++ gs)) ≡ (if b then hop_line f t c to head ++ hop_lines f t i hs else hop_lines f t i hs) ++ hop_lines f t i gs
    by true e = ap (λ l. hop_line f t c to head ++ l) e ∙ sym (append_assoc (hop_line f t c to head) (hop_lines f t i hs) (hop_lines f t i gs))
    by false e = e
hop_lines-append f t i (Forked c copies lost ∷ hs) gs = hop_lines-append f t i hs gs

pub hops_text-append : (f : Frames) (t : Tables) (hops : Bool) (i : ℕ) (hs gs : List Happening) → hops_text f t hops i (hs ++ gs) ≡ hops_text f t hops i hs ++ hops_text f t hops i gs
hops_text-append f t true i hs gs = hop_lines-append f t i hs gs
hops_text-append f t false i hs gs = refl

-- ---- what happens to others is nothing to packet i
abbrev pub HappenElsewhere : ℕ → List Happening → Type 0
HappenElsewhere i hs = All (λ h. number_of h ≢ i) hs

pub deliveries_of-others : (i : ℕ) (hs : List Happening) → HappenElsewhere i hs → deliveries_of i hs ≡ []
deliveries_of-others i [] all = refl
deliveries_of-others i (Delivered c port ∷ hs) all =
    ap (λ b. if b then (record { port = port; packet = c.packet } ∷ deliveries_of i hs) else deliveries_of i hs) (ne_eqb c.number i (All-head (λ h. number_of h ≢ i) (Delivered c port) hs all))
    ∙ deliveries_of-others i hs (All-tail (λ h. number_of h ≢ i) (Delivered c port) hs all)
deliveries_of-others i (Crossed c to head ∷ hs) all = deliveries_of-others i hs (All-tail (λ h. number_of h ≢ i) (Crossed c to head) hs all)
deliveries_of-others i (Forked c copies lost ∷ hs) all = deliveries_of-others i hs (All-tail (λ h. number_of h ≢ i) (Forked c copies lost) hs all)

pub losses_of-others : (i : ℕ) (hs : List Happening) → HappenElsewhere i hs → losses_of i hs ≡ []
losses_of-others i [] all = refl
losses_of-others i (Delivered c port ∷ hs) all = losses_of-others i hs (All-tail (λ h. number_of h ≢ i) (Delivered c port) hs all)
losses_of-others i (Crossed c to head ∷ hs) all = losses_of-others i hs (All-tail (λ h. number_of h ≢ i) (Crossed c to head) hs all)
losses_of-others i (Forked c copies lost ∷ hs) all =
    ap (λ b. if b then (lost ∷ losses_of i hs) else losses_of i hs) (ne_eqb c.number i (All-head (λ h. number_of h ≢ i) (Forked c copies lost) hs all))
    ∙ losses_of-others i hs (All-tail (λ h. number_of h ≢ i) (Forked c copies lost) hs all)

hop_lines-others : (f : Frames) (t : Tables) (i : ℕ) (hs : List Happening) → HappenElsewhere i hs → hop_lines f t i hs ≡ []
hop_lines-others f t i [] all = refl
hop_lines-others f t i (Delivered c port ∷ hs) all = hop_lines-others f t i hs (All-tail (λ h. number_of h ≢ i) (Delivered c port) hs all)
hop_lines-others f t i (Crossed c to head ∷ hs) all =
    ap (λ b. if b then hop_line f t c to head ++ hop_lines f t i hs else hop_lines f t i hs) (ne_eqb c.number i (All-head (λ h. number_of h ≢ i) (Crossed c to head) hs all))
    ∙ hop_lines-others f t i hs (All-tail (λ h. number_of h ≢ i) (Crossed c to head) hs all)
hop_lines-others f t i (Forked c copies lost ∷ hs) all = hop_lines-others f t i hs (All-tail (λ h. number_of h ≢ i) (Forked c copies lost) hs all)

pub hops_text-others : (f : Frames) (t : Tables) (hops : Bool) (i : ℕ) (hs : List Happening) → HappenElsewhere i hs → hops_text f t hops i hs ≡ []
hops_text-others f t true i hs all = hop_lines-others f t i hs all
hops_text-others f t false i hs all = refl

-- ---- one more step
module _ (i : ℕ) where
  delivered_one : (x : Happening) → number_of x ≡ i → packets_delivered i (x ∷ []) ≡ delivered_by (moving x)
  delivered_one (Delivered c port) e = ap (λ b. map (λ (y : Sent). y.packet) (if b then (record { port = port; packet = c.packet } ∷ []) else [])) (eq-eqb c.number i e)
  delivered_one (Crossed c to head) e = refl
  delivered_one (Forked c copies lost) e = refl

  pub packets_delivered-more : (hs : List Happening) (x : Happening) → number_of x ≡ i → packets_delivered i (hs ++ x ∷ []) ≡ packets_delivered i hs ++ delivered_by (moving x)
  packets_delivered-more hs x e =
      ap (map (λ (y : Sent). y.packet)) (deliveries_of-append i hs (x ∷ []))
      ∙ map-append (λ (y : Sent). y.packet) (deliveries_of i hs) (deliveries_of i (x ∷ []))
      ∙ ap (λ l. packets_delivered i hs ++ l) (delivered_one x e)

  sum_one : (lost : ℕ) → sum (lost ∷ []) ≡ lost
  sum_one lost = let e : sum (lost ∷ []) ≡ lost + 0 = sum_by-cons (λ n. n) lost [] in omega (arith, e)

  lost_one : (x : Happening) → number_of x ≡ i → sum (losses_of i (x ∷ [])) ≡ lost_by (moving x)
  lost_one (Delivered c port) e = refl
  lost_one (Crossed c to head) e = refl
  lost_one (Forked c copies lost) e = ap (λ b. sum (if b then (lost ∷ []) else [])) (eq-eqb c.number i e) ∙ sum_one lost

  pub losses_of-more : (hs : List Happening) (x : Happening) → number_of x ≡ i → sum (losses_of i (hs ++ x ∷ [])) ≡ sum (losses_of i hs) + lost_by (moving x)
  losses_of-more hs x e =
      ap sum (losses_of-append i hs (x ∷ []))
      ∙ sum_by-append (λ n. n) (losses_of i hs) (losses_of i (x ∷ []))
      ∙ ap (λ n. sum (losses_of i hs) + n) (lost_one x e)

  hop_one : (f : Frames) (t : Tables) (x : Happening) → number_of x ≡ i → hop_lines f t i (x ∷ []) ≡ hop_told f t.switches x
  hop_one f t (Delivered c port) e = refl
  hop_one f t (Crossed c to head) e = ap (λ b. if b then hop_line f t c to head ++ [] else []) (eq-eqb c.number i e) ∙ append-nil (hop_line f t c to head)
  hop_one f t (Forked c copies lost) e = refl

  pub hops_text-more : (f : Frames) (t : Tables) (hops : Bool) (hs : List Happening) (x : Happening) → number_of x ≡ i → hops_text f t hops i (hs ++ x ∷ []) ≡ hops_text f t hops i hs ++ (if hops then hop_told f t.switches x else [])
  hops_text-more f t true hs x e = hop_lines-append f t i hs (x ∷ []) ∙ ap (λ l. hop_lines f t i hs ++ l) (hop_one f t x e)
  hops_text-more f t false hs x e = refl

-- what was noted of a packet, and its next step
pub tally-more : (f : Frames) (t : Tables) (hops : Bool) (i : ℕ) (hs : List Happening) (x : Happening) (y y' : Tally) → number_of x ≡ i → IsTally f t hops i hs y → Notes f t hops x y y' → IsTally f t hops i (hs ++ x ∷ []) y'
tally-more f t hops i hs x y y' e is notes = record {
  delivered = notes.delivered ∙ ap (λ l. l ++ delivered_by (moving x)) is.delivered ∙ sym (packets_delivered-more i hs x e);
  lost = notes.lost ∙ ap (λ n. n + lost_by (moving x)) is.lost ∙ sym (losses_of-more i hs x e);
  hops_told = notes.hops_told ∙ ap (λ l. l ++ (if hops then hop_told f t.switches x else [])) is.hops_told ∙ sym (hops_text-more i f t hops hs x e);
}
