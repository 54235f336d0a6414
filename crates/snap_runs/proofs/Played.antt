-- The report of a run over a schedule.
use Rattle.std.proofs.Common.{◌≡◌, ◌⊎◌, inl, inr, ℕ, zero, suc, ◌+◌, ◌<◌, Bool, List, [], ◌∷◌, ◌++◌, Some, length, reverse, refl, sym, ap, subst, ◌∙◌, arith, append_assoc}
use Rattle.std.specs.Prelude.{slice_get, IsPermutation}
use Rattle.std.specs.List.{concat}
use Rattle.std.proofs.lemmas.List.{length-append, reverse-append}
use Rattle.std.proofs.lemmas.Option.{slice_get_within}
use Rattle.snap_core.specs.Arrays.{zero_arrays}
use Rattle.snap_core.specs.declared.place.Entry.{Entry}
use Rattle.snap_core.specs.declared.program.Field.{Field}
use Rattle.snap_core.specs.Listing.{IsListing}
use Rattle.snap_rows.specs.declared.tables.Tables.{Tables}
use Rattle.snap_rows.specs.Network.{Net, Event, Happening, Leads, inject, step, packets_of, start, global_store}
use Rattle.snap_rows.proofs.Runs.{runs-count}
use Rattle.snap_net.specs.Shown.{NetView, Represents}
use Rattle.snap_report.specs.Reports.{end_text, out_lines, lost_line}
use Rattle.snap_runs.specs.declared.frames.Frames.{Frames}
use Rattle.snap_runs.specs.declared.play.Play.{Play}
use Rattle.snap_runs.specs.declared.tally.Tally.{Tally}
use Rattle.snap_runs.specs.Playing.{AreTallied, Plays, PutsBlocks, SoPut, left_in}
use Rattle.snap_runs.specs.Reports.{IsBlockBy, IsRunReport, IsRunReportBy, PutsEnd, array_names, packet_line}
use Rattle.snap_runs.specs.Runner.{PlaysLines}
use Rattle.snap_runs.specs.Schedules.{IsScheduleReport, Obeys, ObeysBy, Spells, nothing, skips, injects, steps}
use Rattle.snap_runs.specs.Tallies.{IsBlockText, IsTally}
use Rattle.snap_runs.proofs.Blocks.{concat-push, in_pushed}

-- ---- blocks
pub so_put-more : (fields : List Field) (ys left rest : List Tally) (y : Tally) (number : ℕ) (before mid after : List ℕ) → SoPut fields ys left number before mid → reverse left ≡ y ∷ reverse rest → IsBlockText fields (number + 1) y mid after
    → SoPut fields ys rest (number + 1) before after
so_put-more fields ys left rest y number before mid after s e put =
    let text = packet_line (number + 1) ++ y.hops.items ++ out_lines fields put.outs ++ lost_line y.lost in
    record {
      done = s.done ++ y ∷ [];
      are = s.are ∙ ap (λ l. s.done ++ l) e ∙ sym (append_assoc s.done (y ∷ []) (reverse rest));
      is = ap (λ n. n + 1) s.is ∙ sym (length-append s.done (y ∷ []));
      puts = record {
        each = s.puts.each ++ text ∷ [];
        as_many = length-append s.puts.each (text ∷ []) ∙ ap (λ n. n + 1) s.puts.as_many ∙ sym (length-append s.done (y ∷ []));
        blocks = λ i z x at is. by i z x (in_pushed s.done y z i at) (in_pushed s.puts.each text x i is);
        is = put.is ∙ ap (λ l. l ++ text) s.puts.is ∙ append_assoc before (concat s.puts.each) text ∙ ap (λ l. before ++ l) (sym (concat-push s.puts.each text));
      };
    }
  where
    by : (i : ℕ) (z : Tally) (x : List ℕ) → ((i < length s.done) × (slice_get s.done i ≡ Some z)) ⊎ ((i ≡ length s.done) × (y ≡ z))
        → ((i < length s.puts.each) × (slice_get s.puts.each i ≡ Some x)) ⊎ ((i ≡ length s.puts.each) × (packet_line (number + 1) ++ y.hops.items ++ out_lines fields put.outs ++ lost_line y.lost ≡ x)) → IsBlockText fields (i + 1) z [] x
    by i z x (inl a) (inl b) = s.puts.blocks i z x a.1 b.1
    by i z x (inl a) (inr b) = let l = a.0 in let m = b.0 in let n = s.puts.as_many in absurd (omega (arith, l, m, n))
    by i z x (inr a) (inl b) = let l = a.0 in let m = b.0 in let n = s.puts.as_many in absurd (omega (arith, l, m, n))
    by i z x (inr a) (inr b) =
        subst (λ w. IsBlockText fields (i + 1) w [] x) a.1 (subst (λ j. IsBlockText fields (j + 1) y [] x) (sym (a.0 ∙ sym s.is))
        (record { outs = put.outs; rising = put.rising; delivered = put.delivered; is = sym b.1 }))

some-within : (ys : List Tally) (i : ℕ) → i < length ys → (y : Tally) × (slice_get ys i ≡ Some y)
some-within [] i within = absurd (omega (arith, within))
some-within (y ∷ ys) zero within = (y, refl)
some-within (y ∷ ys) (suc i) within = some-within ys i (omega (arith, within))

block-of : (f : Frames) (t : Tables) (hops : Bool) (i : ℕ) (hs : List Happening) (y : Tally) (text : List ℕ) → IsTally f t hops i hs y → IsBlockText t.fields (i + 1) y [] text → IsBlockBy f t hops i hs text
block-of f t hops i hs y text is put = record {
  outs = put.outs;
  rising = put.rising;
  delivered = subst (IsPermutation put.outs) is.delivered put.delivered;
  is = put.is ∙ (λ j. packet_line (i + 1) ++ is.hops_told j ++ out_lines t.fields put.outs ++ lost_line (is.lost j));
}

-- ---- counts
spells-count : {lines ks left : List (List ℕ)} {es : List Event} → Spells lines ks es left → length ks ≡ length (packets_of es) + length left
spells-count (nothing {ks = ks}) = omega arith
spells-count (skips e rest) = spells-count rest
spells-count (injects e rest) = let h = spells-count rest in omega (arith, h)
spells-count (steps e rest) = spells-count rest

pub leads-count : (t : Tables) (s s' : Net) (e : Event) (h : List Happening) → Leads t s e s' h → s'.injected ≡ s.injected + length (packets_of (e ∷ []))
leads-count t s s' e h (inject at first) = refl
leads-count t s s' e h (step is handles) = omega arith

-- all packets were injected
pub obeys-count : {S L : Type 0} (net : S → Net) (leads : S → Event → S → List L → Type 0) → ((s s' : S) (e : Event) (h : List L) → leads s e s' h → (net s').injected ≡ (net s).injected + length (packets_of (e ∷ [])))
    → {begin s : S} {ks lines : List (List ℕ)} {told : List L} → (net begin).injected ≡ 0 → ObeysBy leads begin ks lines [] s told → (net s).injected ≡ length ks
obeys-count net leads counted none obeys = let a = spells-count obeys.spells in let b = runs-count net leads counted obeys.run in omega (arith, a, b, none)

-- ---- the report
-- as tallies tell it
pub tallied-report : (f : Frames) (t : Tables) (hops : Bool) (s : Net) (hs : List Happening) (ys : List Tally) (v : NetView) (mid out : List ℕ) → AreTallied f t hops s.injected hs ys → v.tables ≡ t → Represents v s
    → PutsBlocks v.tables.fields ys [] mid → PutsEnd v mid out → IsRunReportBy f t hops s.injected s hs out
tallied-report f t hops s hs ys v mid out tallies tables shows puts end =
    let e = puts.as_many in
    let still = subst (λ t'. (s : Net) → Represents v s → (entries : List Entry) × IsListing (global_store t' s) entries × (out ≡ mid ++ end_text (array_names t') entries)) tables end in
    let listed = still s shows in
    record {
      blocks = mid;
      are = record {
        each = puts.each;
        as_many = e ∙ tallies.counted;
        blocks = λ i text is.
            (let at : i < length puts.each = slice_get_within puts.each i text is in
            let y = some-within ys i (omega (arith, at, e)) in
            block-of f t hops i hs y.0 text (tallies.tallied i y.0 y.1) (subst (λ (x : Tables). IsBlockText x.fields (i + 1) y.0 [] text) tables (puts.blocks i y.0 text y.1 is)));
        is = puts.is;
      };
      entries = listed.0;
      listed = listed.1;
      is = listed.2;
    }

pub schedule-report : (t : Tables) (hops : Bool) (ks lines : List (List ℕ)) (v : Play) (text : List ℕ) (p : PlaysLines (λ (s : Net). s) Leads (λ t'. start t' zero_arrays) Plays left_in t hops ks lines v) → left_in v ≡ [] → p.state.flying ≡ []
    → IsRunReport t hops p.state.injected p.state p.told text → IsScheduleReport t hops ks lines text
schedule-report t hops ks lines v text p left rests report =
    let obeys = subst (λ l. Obeys t ks lines l p.state p.told) left p.obeys in
    record {
      state = p.state;
      happenings = p.told;
      obeys = obeys;
      ended = rests;
      report = subst (λ n. IsRunReport t hops n p.state p.told text) (obeys-count (λ (s : Net). s) (Leads t) (leads-count t) refl obeys) report;
    }

-- ---- the tally that is next
reverse-last : (left rest : List Tally) (y : Tally) → left ≡ rest ++ y ∷ [] → reverse left ≡ y ∷ reverse rest
reverse-last left rest y e = ap reverse e ∙ reverse-append rest (y ∷ [])

at-seam : (xs zs : List Tally) (y : Tally) → slice_get (xs ++ y ∷ zs) (length xs) ≡ Some y
at-seam [] zs y = refl
at-seam (x ∷ xs) zs y = at-seam xs zs y

module _ (fields : List Field) (ys left rest : List Tally) (y : Tally) (number : ℕ) (before mid : List ℕ) (s : SoPut fields ys left number before mid) (e : left ≡ rest ++ y ∷ []) where
  pub next-is : slice_get ys number ≡ Some y
  next-is = (λ i. slice_get (s.are i) (s.is i)) ∙ ap (λ l. slice_get (s.done ++ l) (length s.done)) (reverse-last left rest y e) ∙ at-seam s.done (reverse rest) y

  pub next-put : (after : List ℕ) → IsBlockText fields (number + 1) y mid after → SoPut fields ys rest (number + 1) before after
  next-put after put = so_put-more fields ys left rest y number before mid after s (reverse-last left rest y e) put

  pub fewer : length left ≡ length rest + 1
  fewer = ap length e ∙ length-append rest (y ∷ [])
