-- Outs, updates and leaves behind an out.
use Rattle.std.proofs.Common.{◌≡◌, inl, inr, ℕ, ◌+◌, ◌<◌, ◌≤◌, Bool, true, false, cond, List, [], ◌∷◌, ◌++◌, Some, length, take, get_or, refl, sym, ap, ◌∙◌, subst, arith, length-append}
use Rattle.std.specs.Prelude.{◌==◌, All, map}
use Rattle.std.proofs.lemmas.Bool.{eqb-true, eqb-false, ne_eqb, cases_eq, cond-false}
use Rattle.std.proofs.lemmas.List.{take_more, get_or_append_left, get_or_push, ext_get_or, map-append}
use Rattle.std.proofs.lemmas.List.Elements.{All-map, All-push, All-weaker}
use Rattle.snap_core.specs.declared.policy.Atom.{Atom}
use Rattle.snap_core.specs.declared.policy.Atom.TheVariants.{Num as Number, Comp}
use Rattle.snap_core.specs.declared.policy.Op.{Op}
use Rattle.snap_core.specs.declared.policy.Op.TheVariants.{Put, Add}
use Rattle.snap_core.specs.declared.policy.Update.{Update}
use Rattle.snap_core.specs.declared.place.Place.{Place}
use Rattle.snap_core.specs.Arrays.{Arrays, value_of, number_after, update, updates, has}
use Rattle.snap_core.specs.Fits.{OpFits}
use Rattle.snap_core.specs.Packets.{with_packet}
use Rattle.snap_core.specs.Tests.{OutFits, PartFits, IsRisingOut, after_out, results}
use Rattle.snap_diagrams.specs.declared.leaf.Leaf.{Leaf}
use Rattle.snap_diagrams.specs.declared.leaf.Go.{Go}
use Rattle.snap_diagrams.specs.declared.leaf.Leaf.TheVariants.{Go as Goes}
use Rattle.snap_diagrams.specs.Bounds.{Sizes, UpdateIn, LeafIn, IsIn}
use Rattle.snap_diagrams.specs.Diagrams.{Diagram, Only}
use Rattle.snap_compose.specs.PulledBack.{atom_from, atom_after, early_atom, early_op, early_update, with_part, IsEarlyOut, IsEarlyLeaf, IsComposing}
use Rattle.snap_compose.specs.Marks.{AreLogged, LeafLogsUpdates}
use Rattle.snap_compose.proofs.Values.{after_out-length, after_out-at, atom_after-fits, early_atom-value, early_atom-fits, early_index-values, early_index-in}
use Rattle.snap_compose.proofs.Settled.{results_push}

-- ---- one part more
atom_from-push : (a : Atom) (ps : List (ℕ × Atom)) (p : ℕ × Atom) (c : ℕ) → atom_from a (ps ++ p ∷ []) c ≡ cond (p.0 == c) p.1 (atom_from a ps c)
atom_from-push a [] p c = refl
atom_from-push a (x ∷ ps) p c = atom_from-push (cond (x.0 == c) x.1 a) ps p c

rising_push : (ps : List (ℕ × Atom)) (i : ℕ) (a : Atom) → IsRisingOut ps → All (λ (p : ℕ × Atom). p.0 < i) ps → IsRisingOut (ps ++ (i, a) ∷ [])
rising_push ps i a r b = rw (map-append (λ (p : ℕ × Atom). p.0) ps ((i, a) ∷ [])) (λ k h. by k h)
  where
    xs : List ℕ
    xs = map (λ (p : ℕ × Atom). p.0) ps

    all : All (λ (n : ℕ). n < i) xs
    all = All-map (λ (n : ℕ). n < i) (λ (p : ℕ × Atom). p.0) ps b

    by : (k : ℕ) → k + 1 < length (xs ++ i ∷ []) → get_or (xs ++ i ∷ []) k 0 < get_or (xs ++ i ∷ []) (k + 1) 0
    by k h = elim (cases_eq (k + 1) (length xs)) as (λ x. get_or (xs ++ i ∷ []) k 0 < get_or (xs ++ i ∷ []) (k + 1) 0) [
      | inl e ↦ (let a = get_or_push xs i 0 (k + 1) (sym e) in
          let b = get_or_append_left xs (i ∷ []) 0 k (omega (arith, e)) in
          let l = all k 0 (omega (arith, e)) in
          omega (arith, a, b, l))
      | inr e ↦ (let n = length-append xs (i ∷ []) in
          let low : k + 1 < length xs = omega (arith, h, n, e) in
          let a = get_or_append_left xs (i ∷ []) 0 k (omega (arith, low)) in
          let b = get_or_append_left xs (i ∷ []) 0 (k + 1) low in
          let l = r k low in
          omega (arith, a, b, l))
    ]

all_later : (ps : List (ℕ × Atom)) (i : ℕ) → All (λ (p : ℕ × Atom). p.0 < i) ps → All (λ (p : ℕ × Atom). p.0 < i + 1) ps
all_later ps i a k d h = let l = a k d h in omega (arith, l)

-- the component i keeps its own value
composing_own : (comps : ℕ) (out later ps : List (ℕ × Atom)) (i : ℕ) → IsComposing comps out later ps i → early_atom out (atom_after later i) ≡ Comp i → IsComposing comps out later ps (i + 1)
composing_own comps out later ps i h own = record {
  fits = h.fits;
  rising = h.rising;
  below = all_later ps i h.below;
  low = λ c l. at c l (c == i) refl;
  high = λ c l. h.high c (omega (arith, l));
}
  where
    at : (c : ℕ) → c < i + 1 → (t : Bool) → (c == i) ≡ t → atom_after ps c ≡ early_atom out (atom_after later c)
    at c l true e = let same : c ≡ i = eqb-true c i e in rw same (h.high i (omega arith) ∙ sym own)
    at c l false e = h.low c (let d = eqb-false c i e in omega (arith, l, d))

-- it is set to an atom
composing_set : (comps : ℕ) (out later ps : List (ℕ × Atom)) (i : ℕ) → i < comps → OutFits comps out → OutFits comps later → IsComposing comps out later ps i
    → IsComposing comps out later (ps ++ (i, early_atom out (atom_after later i)) ∷ []) (i + 1)
composing_set comps out later ps i hi fo fl h = record {
  fits = All-push (PartFits comps) ps (i, new) h.fits (record { comp = hi; atom = early_atom-fits comps out (atom_after later i) fo (atom_after-fits comps later i fl hi) });
  rising = rising_push ps i new h.rising h.below;
  below = All-push (λ (p : ℕ × Atom). p.0 < i + 1) ps (i, new) (all_later ps i h.below) (omega arith);
  low = λ c l. atom_from-push (Comp c) ps (i, new) c ∙ at c l (i == c) refl;
  high = λ c l. atom_from-push (Comp c) ps (i, new) c ∙ cond-false (i == c) new (atom_after ps c) (ne_eqb i c (λ e. absurd (omega (arith, e, l)))) ∙ h.high c (omega (arith, l));
}
  where
    new : Atom
    new = early_atom out (atom_after later i)

    at : (c : ℕ) → c < i + 1 → (t : Bool) → (i == c) ≡ t → cond t new (atom_after ps c) ≡ early_atom out (atom_after later c)
    at c l true e = ap (λ n. early_atom out (atom_after later n)) (eqb-true i c e)
    at c l false e = h.low c (let d = eqb-false i c e in omega (arith, l, d))

pub composing_more : (comps : ℕ) (out later ps : List (ℕ × Atom)) (i : ℕ) → i < comps → OutFits comps out → OutFits comps later → IsComposing comps out later ps i
    → IsComposing comps out later (with_part ps i (early_atom out (atom_after later i))) (i + 1)
composing_more comps out later ps i hi fo fl h = by (early_atom out (atom_after later i)) refl
  where
    pushed : (a : Atom) → early_atom out (atom_after later i) ≡ a → IsComposing comps out later (ps ++ (i, a) ∷ []) (i + 1)
    pushed a e = subst (λ (x : Atom). IsComposing comps out later (ps ++ (i, x) ∷ []) (i + 1)) e (composing_set comps out later ps i hi fo fl h)

    own : (d : ℕ) → early_atom out (atom_after later i) ≡ Comp d → (t : Bool) → (d == i) ≡ t → IsComposing comps out later (cond t ps (ps ++ (i, Comp d) ∷ [])) (i + 1)
    own d e true f = composing_own comps out later ps i h (e ∙ ap Comp (eqb-true d i f))
    own d e false f = pushed (Comp d) e

    by : (a : Atom) → early_atom out (atom_after later i) ≡ a → IsComposing comps out later (with_part ps i a) (i + 1)
    by (Number n) e = pushed (Number n) e
    by (Comp d) e = own d e (d == i) refl

pub composed_out : (comps : ℕ) (out later ps : List (ℕ × Atom)) (i : ℕ) → comps ≤ i → OutFits comps out → OutFits comps later → IsComposing comps out later ps i → IsEarlyOut comps out later ps
composed_out comps out later ps i hi fo fl h k len =
    ext_get_or 0 _ _ (after_out-length ps k ∙ sym (after_out-length later (after_out out k) ∙ after_out-length out k))
    (λ c l. after_out-at comps ps k c len h.fits
    ∙ ap (λ a. value_of a k) (h.low c (let e = after_out-length ps k in omega (arith, l, e, len, hi)))
    ∙ early_atom-value comps out (atom_after later c) k len fo
    ∙ sym (after_out-at comps later (after_out out k) c (after_out-length out k ∙ len) fl))

-- ---- outs

pub results_more : (comps : ℕ) (out both o : List (ℕ × Atom)) (outs later : List (List (ℕ × Atom))) (i : ℕ) → i < length later → o ≡ get_or later i o → IsEarlyOut comps out o both
    → ((k : List ℕ) → length k ≡ comps → results outs k ≡ results (take i later) (after_out out k))
    → (k : List ℕ) → length k ≡ comps → results (outs ++ both ∷ []) k ≡ results (take (i + 1) later) (after_out out k)
results_more comps out both o outs later i hi is e h k len =
    results_push _ outs both k
    ∙ (λ j. with_packet (h k len j) (e k len j))
    ∙ sym (ap (λ (os : List (List (ℕ × Atom))). results os (after_out out k)) (take_more later i o hi ∙ ap (λ x. take i later ++ x ∷ []) (sym is)) ∙ results_push _ (take i later) o (after_out out k))

-- ---- updates
update_early : (comps : ℕ) (out : List (ℕ × Atom)) (u : Update) (m : Arrays) (k : List ℕ) → length k ≡ comps → OutFits comps out → update m (early_update out u) k ≡ update m u (after_out out k)
update_early comps out u m k len fits = λ i. update_with (record { var = u.var; index = early_index-values comps out u.index k len fits i }) (λ n. op u.op n i)
  where
    update_with : Place → (ℕ → ℕ) → Arrays
    update_with p f = Rattle.snap_core.specs.Arrays.put m p (f (m p))

    op : (o : Op) (n : ℕ) → number_after (early_op out o) n k ≡ number_after o n (after_out out k)
    op (Put a) n = early_atom-value comps out a k len fits
    op (Add b) n = refl

pub updates_early : (comps : ℕ) (out : List (ℕ × Atom)) (us : List Update) (m : Arrays) (k : List ℕ) → length k ≡ comps → OutFits comps out → updates m (map (early_update out) us) k ≡ updates m us (after_out out k)
updates_early comps out [] m k len fits = refl
updates_early comps out (u ∷ us) m k len fits = ap (λ (n : Arrays). updates n (map (early_update out) us) k) (update_early comps out u m k len fits) ∙ updates_early comps out us (update m u (after_out out k)) k len fits

op_early : (comps : ℕ) (out : List (ℕ × Atom)) (o : Op) → OutFits comps out → OpFits comps o → OpFits comps (early_op out o)
op_early comps out (Put a) fits f = early_atom-fits comps out a fits f
op_early comps out (Add n) fits f = tt

updates_in : (s : Sizes) (out : List (ℕ × Atom)) (us : List Update) → OutFits s.comps out → All (UpdateIn s) us → All (UpdateIn s) (map (early_update out) us)
updates_in s out us fits a =
    All-map (UpdateIn s) (early_update out) us
    (All-weaker (UpdateIn s) (λ u. UpdateIn s (early_update out u)) (λ u h. record { var = h.var; index = early_index-in s.comps out u.index fits h.index; op = op_early s.comps out u.op fits h.op }) us a)

-- ---- leaves
pub leaf_in : (s : Sizes) (out : List (ℕ × Atom)) (g : Go) (outs : List (List (ℕ × Atom))) → OutFits s.comps out → LeafIn s (Goes g) → All (OutFits s.comps) outs
    → LeafIn s (Goes (record { outs = outs; ups = map (early_update out) g.ups; reads = g.reads; writes = g.writes }))
leaf_in s out g outs fits h a = (a, updates_in s out g.ups fits h.1, h.2, h.3)

pub leaf_early : (comps : ℕ) (out : List (ℕ × Atom)) (g : Go) (outs : List (List (ℕ × Atom))) → OutFits comps out → ((k : List ℕ) → length k ≡ comps → results outs k ≡ results g.outs (after_out out k))
    → IsEarlyLeaf comps out (Goes g) (Goes (record { outs = outs; ups = map (early_update out) g.ups; reads = g.reads; writes = g.writes }))
leaf_early comps out g outs fits both m k len = λ i. Some (record { arrays = updates_early comps out g.ups m k len fits i; packets = both k len i; reads = g.reads; writes = g.writes })

pub all_pushed : (comps : ℕ) (outs : List (List (ℕ × Atom))) (o : List (ℕ × Atom)) → All (λ (os : List (ℕ × Atom)). OutFits comps os) outs → OutFits comps o → All (λ (os : List (ℕ × Atom)). OutFits comps os) (outs ++ o ∷ [])
all_pushed comps outs o a f = All-push (OutFits comps) outs o a f

pub leaf_of_node : (s : Sizes) (d : Diagram) (l : Leaf) (g : Go) → d ≡ Only l → l ≡ Goes g → IsIn s d → LeafIn s (Goes g)
leaf_of_node s d l g e is h = subst (LeafIn s) is (subst (IsIn s) e h)

pub same_only : (l n : Leaf) → Only l ≡ Only n → l ≡ n
same_only l n e = cc

pub leaf_early_of : (comps : ℕ) (out : List (ℕ × Atom)) (d : Diagram) (l n : Leaf) (g : Go) (r : Leaf) → d ≡ Only l → l ≡ Goes g → d ≡ Only n → IsEarlyLeaf comps out (Goes g) r → IsEarlyLeaf comps out n r
leaf_early_of comps out d l n g r e is f h = subst (λ (x : Leaf). IsEarlyLeaf comps out x r) (sym is ∙ same_only l n (sym e ∙ f)) h

logs_early : (set : ℕ) (out : List (ℕ × Atom)) (us : List Update) → AreLogged set us → AreLogged set (map (early_update out) us)
logs_early set out us h = All-map (λ (u : Update). has set u.var ≡ true) (early_update out) us h

pub leaf_logs_early : (out : List (ℕ × Atom)) (d : Diagram) (l n : Leaf) (g : Go) (outs : List (List (ℕ × Atom))) → d ≡ Only l → l ≡ Goes g → d ≡ Only n → LeafLogsUpdates n
    → LeafLogsUpdates (Goes (record { outs = outs; ups = map (early_update out) g.ups; reads = g.reads; writes = g.writes }))
leaf_logs_early out d l n g outs e is f h = logs_early g.writes out g.ups (subst LeafLogsUpdates (same_only n l (sym f ∙ e) ∙ is) h)
