-- How a network's run comes from one packet to the next.
use Rattle.std.proofs.Common.{◌≡◌, ℕ, ◌+◌, ◌<◌, true, List, [], ◌∷◌, ◌++◌, Option, Ok, Err, length, refl, sym, ap, subst, ◌∙◌, arith}
use Rattle.std.specs.Prelude.{is_some, slice_index}
use Rattle.std.specs.List.{All}
use Rattle.std.proofs.lemmas.List.{length-append, map-append}
use Rattle.std.proofs.lemmas.List.Elements.{All-append, All-nil, All-weaker}
use Rattle.snap_core.specs.declared.place.Entry.{Entry}
use Rattle.snap_core.specs.Arrays.{zero_arrays}
use Rattle.snap_core.specs.Listing.{IsListing}
use Rattle.snap_io.proofs.OutputLemmas.{waits-first, waits-same}
use Rattle.snap_rows.specs.Entries.{port_at}
use Rattle.snap_rows.specs.Network.{Inject, IsPlainRun, start, rests, global_store}
use Rattle.snap_net.specs.Shown.{Represents}
use Rattle.snap_report.specs.declared.fault.TraceFault.TheVariants.{Read, Write, Limit, Packets, Undefined, NoMemory}
use Rattle.snap_report.specs.OneSwitch.{RunEnding}
use Rattle.snap_report.specs.Reports.{end_text}
use Rattle.snap_report.specs.Runner.{PutsEnd as EndPut, Takes}
use Rattle.snap_runs.specs.declared.tracer.Tracer.{Tracer}
use Rattle.snap_runs.specs.Plain.{ArePlainBlocksBy, IsPlainReportBy, entering}
use Rattle.snap_runs.specs.Reading.{has_port}
use Rattle.snap_runs.specs.Reports.{AreBlocksBy, IsBlockBy, PutsEnd, array_names}
use Rattle.snap_rows.specs.Happenings.{number_of}
use Rattle.snap_runs.specs.Tracing.{HasTaken, Stands, TakesPacket}
use Rattle.snap_runs.proofs.Blocks.{blocks-none, blocks-push}
use Rattle.snap_runs.proofs.Runs.{plain-then}

-- before the first packet
pub stands-first : (v : Tracer) → Represents v.net (start v.net.tables zero_arrays) → Stands v [] [] v
stands-first v shows = record {
  tables = refl;
  hops_same = refl;
  frames_same = refl;
  events = [];
  state = start v.net.tables zero_arrays;
  happenings = [];
  run = record { packets = refl; first = λ i d within. absurd (let h : i < 0 = within in omega arith); run = rests; ended = refl };
  shows = shows;
  injected = refl;
  before = All-nil (λ h. number_of h < 0);
  blocks = blocks-none v.frames v.net.tables v.hops;
}

module _ (first : Tracer) (packets : List (List ℕ)) (text : List ℕ) (v : Tracer) (c : Stands first packets text v) where
  pub are-blocks : ArePlainBlocksBy first.frames first.net.tables first.hops packets text
  are-blocks = record { events = c.events; end = c.state; happenings = c.happenings; run = c.run; blocks = c.blocks }

  -- a packet was taken
  stands-more : (k : List ℕ) (v' : Tracer) (before after : List ℕ) → v'.net.tables ≡ first.net.tables → v'.hops ≡ first.hops → v'.frames ≡ first.frames
      → (taken : HasTaken first.frames first.net.tables first.hops (slice_index k 0) k c.state v'.net before after) → Stands first (packets ++ k ∷ []) (text ++ taken.text) v'
  stands-more k v' before after tables same kind taken =
      let n = length packets in
      let longer : length (packets ++ k ∷ []) ≡ n + 1 = length-append packets (k ∷ []) in
      let blocks' : AreBlocksBy first.frames first.net.tables first.hops (n + 1) (c.happenings ++ taken.happenings) (text ++ taken.text) =
      blocks-push first.frames first.net.tables first.hops n c.happenings taken.happenings text taken.text c.before (subst (λ i. All (λ h. number_of h ≡ i) taken.happenings) c.injected taken.happen) c.blocks
      (subst (λ i. IsBlockBy first.frames first.net.tables first.hops i taken.happenings taken.text) c.injected taken.block) in
      record {
        tables = tables;
        hops_same = same;
        frames_same = kind;
        events = c.events ++ Inject (slice_index k 0) k ∷ taken.events;
        state = taken.state;
        happenings = c.happenings ++ taken.happenings;
        run = subst (λ ks. IsPlainRun first.net.tables zero_arrays ks (c.events ++ Inject (slice_index k 0) k ∷ taken.events) taken.state (c.happenings ++ taken.happenings)) (sym (map-append (λ x. (slice_index x 0, x)) packets (k ∷ [])))
            (plain-then first.net.tables zero_arrays (entering packets) c.events c.state c.happenings c.run (slice_index k 0) k taken.events taken.state taken.happenings taken.no_packets taken.first taken.run taken.rests);
        shows = taken.shows;
        injected = taken.injected ∙ ap (λ m. m + 1) c.injected ∙ sym longer;
        before = subst (λ m. All (λ h. number_of h < m) (c.happenings ++ taken.happenings)) (sym longer)
            (All-append (λ h. number_of h < n + 1) c.happenings taken.happenings
            (All-weaker (λ h. number_of h < n) (λ h. number_of h < n + 1) (λ h less. omega (arith, less)) c.happenings c.before)
            (All-weaker (λ h. number_of h ≡ c.state.injected) (λ h. number_of h < n + 1) (λ h is. (let g = c.injected in omega (arith, is, g))) taken.happenings taken.happen));
        blocks = subst (λ m. AreBlocksBy first.frames first.net.tables first.hops m (c.happenings ++ taken.happenings) (text ++ taken.text)) (sym longer) blocks';
      }

  -- the packet was taken, or it can't be
  pub took-packet : (number port : ℕ) (k : List ℕ) (v' : Tracer) (before after : List ℕ) → slice_index k 0 ≡ port → v'.net.tables ≡ v.net.tables → v'.hops ≡ v.hops → v'.frames ≡ v.frames → (r : RunEnding)
      → TakesPacket number port k v v' before after r → Takes (Stands first) (λ ks k' fault. ⊥) (has_port first.net.tables) number k packets text v' before after r
  took-packet number port k v' before after at tables same kind (Ok u) takes =
      let has : has_port first.net.tables k ≡ true = (λ i. is_some (port_at (sym c.tables i) (at i))) ∙ takes.0 in
      let here : HasTaken v.frames v.net.tables v.hops (slice_index k 0) k c.state v'.net before after = subst (λ p. HasTaken v.frames v.net.tables v.hops p k c.state v'.net before after) (sym at) (takes.1 c.state c.shows c.run.ended) in
      let taken : HasTaken first.frames first.net.tables first.hops (slice_index k 0) k c.state v'.net before after = subst (λ t. HasTaken first.frames t first.hops (slice_index k 0) k c.state v'.net before after) c.tables
      (subst (λ h. HasTaken first.frames v.net.tables h (slice_index k 0) k c.state v'.net before after) c.hops_same (subst (λ f. HasTaken f v.net.tables v.hops (slice_index k 0) k c.state v'.net before after) c.frames_same here)) in
      (has, (taken.text, stands-more k v' before after (tables ∙ c.tables) (same ∙ c.hops_same) (kind ∙ c.frames_same) taken, taken.put))
  took-packet number port k v' before after at tables same kind (Err (Packets line)) takes =
      (takes.0, (λ i. is_some (port_at (sym c.tables i) (at i))) ∙ ap (λ (o : Option ℕ). is_some o) takes.1, takes.2)
  took-packet number port k v' before after at tables same kind (Err NoMemory) takes = tt
  took-packet number port k v' before after at tables same kind (Err Read) takes = takes
  took-packet number port k v' before after at tables same kind (Err Write) takes = takes
  took-packet number port k v' before after at tables same kind (Err (Limit which count)) takes = takes
  took-packet number port k v' before after at tables same kind (Err (Undefined packet)) takes = absurd takes

  -- the end of the report was put
  pub report-put : (before after : List ℕ) → PutsEnd v.net before after → (out : Option (List ℕ)) → EndPut (IsPlainReportBy first.frames first.net.tables first.hops packets) text out out before after (Ok tt)
  report-put before after put out =
      let h = subst (λ t. (entries : List Entry) × IsListing (global_store t c.state) entries × (after ≡ before ++ end_text (array_names t) entries)) c.tables (put c.state c.shows) in
      let end = end_text (array_names first.net.tables) h.0 in (
        end,
        record { events = c.events; end = c.state; happenings = c.happenings; run = c.run; report = record { blocks = text; are = c.blocks; entries = h.0; listed = h.1; is = refl } },
        waits-same out out (before ++ end) (before ++ end) (before ++ end) after refl h.2 (waits-first out (before ++ end)),
      )
