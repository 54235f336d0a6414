-- Blocks, one behind another.
use Rattle.std.proofs.Common.{◌≡◌, ◌≢◌, ◌⊎◌, inl, inr, ℕ, zero, suc, ◌+◌, ◌<◌, Bool, List, [], ◌∷◌, ◌++◌, Option, Some, map, length, refl, sym, ap, subst, ◌∙◌, arith, append_assoc, append-nil}
use Rattle.std.specs.Prelude.{slice_get, is_some, sum, IsPermutation}
use Rattle.std.specs.List.{All, concat}
use Rattle.std.proofs.lemmas.Bool.{false≢true}
use Rattle.std.proofs.lemmas.List.{length-append}
use Rattle.std.proofs.lemmas.List.Elements.{All-weaker}
use Rattle.snap_rows.specs.declared.tables.Tables.{Tables}
use Rattle.snap_rows.specs.declared.head.Sent.{Sent}
use Rattle.snap_rows.specs.Happenings.{deliveries_of, losses_of, number_of}
use Rattle.snap_rows.specs.Network.{Happening}
use Rattle.std.proofs.lemmas.Option.{same_Some}
use Rattle.snap_report.specs.Reports.{out_lines, lost_line}
use Rattle.snap_runs.specs.declared.frames.Frames.{Frames}
use Rattle.snap_runs.specs.Reports.{AreBlocksBy, IsBlockBy, hops_text, packet_line}
use Rattle.snap_runs.specs.Tracing.{HappenTo}
use Rattle.snap_rows.proofs.Happenings.{deliveries_of-append, losses_of-append}
use Rattle.snap_runs.proofs.Happenings.{HappenElsewhere, deliveries_of-others, losses_of-others, hops_text-append, hops_text-others}

module _ (f : Frames) (t : Tables) (hops : Bool) (i : ℕ) (text : List ℕ) where
  -- the block tells of packet i alone
  block-same : (hs gs : List Happening) → deliveries_of i hs ≡ deliveries_of i gs → losses_of i hs ≡ losses_of i gs → hops_text f t hops i hs ≡ hops_text f t hops i gs → IsBlockBy f t hops i gs text → IsBlockBy f t hops i hs text
  block-same hs gs d l h b = record {
    outs = b.outs;
    rising = b.rising;
    delivered = subst (λ ds. IsPermutation b.outs (map (λ (x : Sent). x.packet) ds)) (sym d) b.delivered;
    is = b.is ∙ (λ j. packet_line (i + 1) ++ sym h j ++ out_lines t.fields b.outs ++ lost_line (sum (sym l j)));
  }

  block-front : (hs gs : List Happening) → HappenElsewhere i gs → IsBlockBy f t hops i hs text → IsBlockBy f t hops i (hs ++ gs) text
  block-front hs gs other = block-same (hs ++ gs) hs
      (deliveries_of-append i hs gs ∙ ap (λ l. deliveries_of i hs ++ l) (deliveries_of-others i gs other) ∙ append-nil (deliveries_of i hs))
      (losses_of-append i hs gs ∙ ap (λ l. losses_of i hs ++ l) (losses_of-others i gs other) ∙ append-nil (losses_of i hs))
      (hops_text-append f t hops i hs gs ∙ ap (λ l. hops_text f t hops i hs ++ l) (hops_text-others f t hops i gs other) ∙ append-nil (hops_text f t hops i hs))

  block-behind : (hs gs : List Happening) → HappenElsewhere i hs → IsBlockBy f t hops i gs text → IsBlockBy f t hops i (hs ++ gs) text
  block-behind hs gs other = block-same (hs ++ gs) gs
      (deliveries_of-append i hs gs ∙ ap (λ l. l ++ deliveries_of i gs) (deliveries_of-others i hs other))
      (losses_of-append i hs gs ∙ ap (λ l. l ++ losses_of i gs) (losses_of-others i hs other))
      (hops_text-append f t hops i hs gs ∙ ap (λ l. l ++ hops_text f t hops i gs) (hops_text-others f t hops i hs other))

-- ---- lists
pub concat-push : (xs : List (List ℕ)) (x : List ℕ) → concat (xs ++ x ∷ []) ≡ concat xs ++ x
concat-push [] x = append-nil x
concat-push (y ∷ ys) x = ap (λ l. y ++ l) (concat-push ys x) ∙ sym (append_assoc y (concat ys) x)

-- an element of a list with one more behind
pub in_pushed : {X : Type 0} (xs : List X) (x y : X) (i : ℕ) → slice_get (xs ++ x ∷ []) i ≡ Some y → ((i < length xs) × (slice_get xs i ≡ Some y)) ⊎ ((i ≡ length xs) × (x ≡ y))
in_pushed [] x y zero e = inr (refl, same_Some x y e)
in_pushed {X = X} [] x y (suc i) e = absurd (false≢true (ap (λ (o : Option X). is_some o) e))
in_pushed (z ∷ zs) x y zero e = inl (omega arith, e)
in_pushed (z ∷ zs) x y (suc i) e = by (in_pushed zs x y i e)
  where
    by : ((i < length zs) × (slice_get zs i ≡ Some y)) ⊎ ((i ≡ length zs) × (x ≡ y)) → ((suc i < suc (length zs)) × (slice_get zs i ≡ Some y)) ⊎ ((suc i ≡ suc (length zs)) × (x ≡ y))
    by (inl h) = let l = h.0 in inl (omega (arith, l), h.1)
    by (inr h) = inr (ap suc h.0, h.1)

-- ---- the packets of two parts of a run
module _ (n : ℕ) (hs gs : List Happening) (before : All (λ h. number_of h < n) hs) (happen : HappenTo n gs) where
  -- nothing of the second part happens to a packet of the first
  pub later-elsewhere : (i : ℕ) → i < n → HappenElsewhere i gs
  later-elsewhere i less = All-weaker (λ h. number_of h ≡ n) (λ h. number_of h ≢ i) (λ h e f. (let g : n ≡ i = sym e ∙ f in omega (arith, g, less))) gs happen

  -- and nothing of the first to that of the second
  pub earlier-elsewhere : HappenElsewhere n hs
  earlier-elsewhere = All-weaker (λ h. number_of h < n) (λ h. number_of h ≢ n) (λ h less e. omega (arith, less, e)) hs before

-- ---- one block more
module _ (f : Frames) (t : Tables) (hops : Bool) (n : ℕ) (hs gs : List Happening) (text block : List ℕ) (before : All (λ h. number_of h < n) hs) (happen : HappenTo n gs) where
  pub blocks-push : AreBlocksBy f t hops n hs text → IsBlockBy f t hops n gs block → AreBlocksBy f t hops (n + 1) (hs ++ gs) (text ++ block)
  blocks-push all one = record {
    each = all.each ++ block ∷ [];
    as_many = length-append all.each (block ∷ []) ∙ ap (λ m. m + 1) all.as_many;
    blocks = λ i x is. by i x (in_pushed all.each block x i is);
    is = ap (λ l. l ++ block) all.is ∙ sym (concat-push all.each block);
  }
    where
      by : (i : ℕ) (x : List ℕ) → ((i < length all.each) × (slice_get all.each i ≡ Some x)) ⊎ ((i ≡ length all.each) × (block ≡ x)) → IsBlockBy f t hops i (hs ++ gs) x
      by i x (inl h) = let l = h.0 in let m = all.as_many in block-front f t hops i x hs gs (later-elsewhere n hs gs before happen i (omega (arith, l, m))) (all.blocks i x h.1)
      by i x (inr h) = subst (λ j. IsBlockBy f t hops j (hs ++ gs) x) (sym (h.0 ∙ all.as_many)) (subst (IsBlockBy f t hops n (hs ++ gs)) h.1 (block-behind f t hops n block hs gs (earlier-elsewhere n hs gs before happen) one))

-- no blocks
pub blocks-none : (f : Frames) (t : Tables) (hops : Bool) → AreBlocksBy f t hops 0 [] []
blocks-none f t hops = record { each = []; as_many = refl; blocks = λ i x is. absurd (false≢true (ap (λ (o : Option (List ℕ)). is_some o) is)); is = refl }
