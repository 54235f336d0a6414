-- Updates alone, one after another.
use Rattle.std.proofs.Common.{◌≡◌, ℕ, ◌<◌, ◌^◌, List, [], ◌++◌, Some, map, refl, sym, ap, ◌∙◌, arith, bit_or}
use Rattle.std.specs.Prelude.{All, option_map, option_and_then}
use Rattle.std.proofs.Math.Pow.{pow-lt}
use Rattle.std.proofs.lemmas.Nat.{or_lt}
use Rattle.std.proofs.lemmas.List.Elements.{All-cons, All-nil, All-append}
use Rattle.snap_core.proofs.Elements.{All-back, All-front}
use Rattle.snap_core.specs.declared.policy.Pol.{Pol}
use Rattle.snap_core.specs.declared.policy.Pol.TheVariants.{Filter, Set, Change, Par', Seq', If', Atomic'}
use Rattle.snap_core.specs.declared.policy.Update.{Update}
use Rattle.snap_core.specs.Arrays.{Arrays, updates}
use Rattle.snap_core.specs.Laws.{write_vars}
use Rattle.snap_core.specs.Meaning.{eval, logged, all_together}
use Rattle.snap_core.specs.Packets.{no_packets, with_packet, listed}
use Rattle.snap_core.specs.Tests.{OutFits, PartFits}
use Rattle.snap_core.proofs.EvalLemmas.{each_one}
use Rattle.snap_core.proofs.Updates.{updates-append}
use Rattle.snap_diagrams.specs.Bounds.{Sizes, LeafIn, UpdateIn}
use Rattle.snap_diagrams.specs.Leaves.{answer_of, outcome_of}
use Rattle.snap_compose.specs.Additions.{AreSame}
use Rattle.snap_build.specs.Parts.{PolIn, UpdatesAlone, update_leaf, updates_of}

pub alone_evals : (p : Pol) → UpdatesAlone p → (m : Arrays) (k : List ℕ) → eval p m k ≡ Some (record { arrays = updates m (updates_of p) k; packets = with_packet no_packets k; reads = 0; writes = write_vars p })
alone_evals (Filter x) a m k = absurd a
alone_evals (Set c n) a m k = absurd a
alone_evals (Change u) a m k = refl
alone_evals (Par' _ p _ q) a m k = absurd a
alone_evals (Seq' _ p _ q) a m k =
    let n : Arrays = updates m (updates_of p) k in
    ap (option_and_then (λ o. option_map (logged o.reads o.writes) (all_together o.arrays (map (λ l. eval q o.arrays l) (listed o.packets))))) (alone_evals p a.0 m k)
    ∙ ap (option_map (logged 0 (write_vars p))) (each_one n q k ∙ alone_evals q a.1 n k)
    ∙ (λ i. Some (record { arrays = sym (updates-append (updates_of p) (updates_of q) m k) i; packets = with_packet no_packets k; reads = 0; writes = bit_or (write_vars p) (write_vars q) }))
alone_evals (If' x _ p _ q) a m k = absurd a
alone_evals (Atomic' _ p) a m k = absurd a

pub alone_fits : (s : Sizes) (p : Pol) → UpdatesAlone p → PolIn s p → All (UpdateIn s) (updates_of p) × (write_vars p < 2 ^ s.arrays)
alone_fits s (Filter x) a h = absurd a
alone_fits s (Set c n) a h = absurd a
alone_fits s (Change u) a h = (All-cons (UpdateIn s) u [] h (All-nil (UpdateIn s)), pow-lt h.var)
alone_fits s (Par' _ p _ q) a h = absurd a
alone_fits s (Seq' _ p _ q) a h =
    let l = alone_fits s p a.0 h.0 in
    let r = alone_fits s q a.1 h.1 in
    (All-append (UpdateIn s) (updates_of p) (updates_of q) l.0 r.0, or_lt s.arrays (write_vars p) (write_vars q) l.1 r.1)
alone_fits s (If' x _ p _ q) a h = absurd a
alone_fits s (Atomic' _ p) a h = absurd a

pub same_appended : (ws us vs xs : List Update) → AreSame ws (us ++ xs) → AreSame us vs → AreSame ws (vs ++ xs)
same_appended ws us vs xs a b = record {
  after = λ m k. a.after m k ∙ updates-append us xs m k ∙ ap (λ (n : Arrays). updates n xs k) (b.after m k) ∙ sym (updates-append vs xs m k);
  fits = λ s h. a.fits s (All-append (UpdateIn s) us xs (b.fits s (All-front (UpdateIn s) vs xs h)) (All-back (UpdateIn s) vs xs h));
}

-- ---- the leaf of such updates, or of updates that do the same
pub leaf_fits : (s : Sizes) (p : Pol) (us : List Update) → UpdatesAlone p → PolIn s p → AreSame us (updates_of p) → LeafIn s (update_leaf us (write_vars p))
leaf_fits s p us a h same =
    let f = alone_fits s p a h in
    let below = f.1 in
    (All-cons (OutFits s.comps) [] [] (All-nil (PartFits s.comps)) (All-nil (OutFits s.comps)), same.fits s f.0, omega (arith, below), below)

pub leaf_evals : (p : Pol) (us : List Update) (m : Arrays) (k : List ℕ) → UpdatesAlone p → AreSame us (updates_of p) → outcome_of (answer_of (update_leaf us (write_vars p)) k) m ≡ eval p m k
leaf_evals p us m k a same =
    (λ i. Some (record { arrays = same.after m k i; packets = with_packet no_packets k; reads = 0; writes = write_vars p }))
    ∙ sym (alone_evals p a m k)
