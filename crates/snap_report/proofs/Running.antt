-- How the run of a machine comes from one line to the next.
use Rattle.std.proofs.Common.{◌≡◌, ℕ, ◌+◌, Bool, true, false, List, [], ◌∷◌, ◌++◌, Option, Some, None, Result, Ok, Err, take, length, refl, sym, ap, subst, ◌∙◌, arith, append_assoc, append-nil, inl, inr}
use Rattle.std.specs.Prelude.{if◌then◌else◌}
use Rattle.std.proofs.KnownBytes.{Appends-nil}
use Rattle.std.proofs.lemmas.List.{length-append, take-append-le}
use Rattle.std.proofs.Math.Seq.{take-length}
use Rattle.snap_core.specs.declared.program.Field.{Field}
use Rattle.snap_io.specs.Outputs.{Waits}
use Rattle.snap_io.specs.Sinks.{AppendsPart, AppendsSome}
use Rattle.snap_io.proofs.OutputLemmas.{waits-all, waits-more, waits-part, waits-same, waits-then, waits-written}
use Rattle.snap_report.specs.declared.fault.TraceFault.{TraceFault}
use Rattle.snap_report.specs.declared.fault.TraceFault.TheVariants.{Read, Write, Limit, Packets, Undefined, NoMemory}
use Rattle.snap_report.specs.declared.line.Line.{Line}
use Rattle.snap_report.specs.declared.line.Line.TheVariants.{Inject}
use Rattle.snap_report.specs.declared.packets.PacketLines.{PacketLines}
use Rattle.snap_report.specs.PacketLines.{inject, bad}
use Rattle.snap_report.specs.OneSwitch.{RunEnding}
use Rattle.snap_report.specs.Reading.{LeavesLine, left_for, packet_in, with_line}
use Rattle.snap_report.specs.Runner.{Closes, Comes, ComesOn, Ends, EndsRun, FirstBlocks, Follows, PutsEnd, Takes, WritesOut, is_complete}
use Rattle.snap_report.specs.Spelled.{Spelled, counted, ended, refused, stops, with_said}

module _ {M : Type 0} (stands : List (List ℕ) → List ℕ → M → Type 0) (all : Spelled) where
  -- before the first line
  pub comes-first : (left : ℕ → Spelled) → all ≡ left 0 → (m : M) → stands [] [] m → (now : Option (List ℕ)) (waiting : List ℕ) → waiting ≡ [] → Comes stands all left m now now waiting
  comes-first left e m stood now waiting none = record {
    packets = [];
    spelled = e;
    text = [];
    stood = stood;
    waits = record { front = []; taken = Appends-nil now; whole = sym none };
  }

  -- where memory is short before anything is read, nothing is written
  pub writes-nothing : (m : M) → stands [] [] m → (now : Option (List ℕ)) → AppendsSome (FirstBlocks stands all) now now
  writes-nothing m stood now = ([], record { count = 0; machine = m; stood = stood }, (0, Appends-nil now))

  module _ (left : ℕ → Spelled) (m : M) (old now : Option (List ℕ)) (waiting : List ℕ) (c : Comes stands all left m old now waiting) where
    -- what was taken is the first of all
    pub first-blocks : FirstBlocks stands all c.text
    first-blocks = record { count = length c.packets; machine = m; stood = subst (λ ks. stands ks c.text m) (sym first) c.stood }
      where
        first : take (length c.packets) all.packets ≡ c.packets
        first = ap (λ (s : Spelled). take (length c.packets) s.packets) c.spelled ∙ take-append-le (length c.packets) c.packets (left (length c.packets)).packets (omega arith) ∙ take-length c.packets

    -- some first bytes of the blocks went out, and some of what waits
    pub comes-part : (last : Option (List ℕ)) → AppendsPart now last (waiting ++ []) → AppendsSome (FirstBlocks stands all) old last
    comes-part last part = (c.text, first-blocks, subst (AppendsPart old last) (append-nil c.text) (waits-part old now last c.text waiting [] c.waits part))

    pub comes-nothing : AppendsSome (FirstBlocks stands all) old now
    comes-nothing = comes-part now (0, Appends-nil now)

    -- the same run, where some of what waits was written
    abbrev pub comes-written : (last : Option (List ℕ)) (waiting' : List ℕ) → Waits now last (waiting ++ []) waiting' → Comes stands all left m old last waiting'
    comes-written last waiting' written = record {
      packets = c.packets;
      spelled = c.spelled;
      text = c.text;
      stood = c.stood;
      waits = waits-written old now last c.text waiting waiting' c.waits written;
    }

    -- the same run, where what is left is said in another way
    pub comes-as : (left' : ℕ → Spelled) → left (length c.packets) ≡ left' (length c.packets) → Comes stands all left' m old now waiting
    comes-as left' e = record {
      packets = c.packets;
      spelled = c.spelled ∙ (λ i. record { packets = c.packets ++ (e i).packets; stop = (e i).stop });
      text = c.text;
      stood = c.stood;
      waits = c.waits;
    }

    -- a packet was taken
    pub comes-taken : (k : List ℕ) (rest : ℕ → Spelled) (m' : M) (block waiting' : List ℕ) → left (length c.packets) ≡ record { packets = k ∷ (rest (length c.packets + 1)).packets; stop = (rest (length c.packets + 1)).stop }
        → stands (c.packets ++ k ∷ []) (c.text ++ block) m' → waiting' ≡ waiting ++ block → Comes stands all rest m' old now waiting'
    comes-taken k rest m' block waiting' e stood put =
        let n = length c.packets in
        let longer : length (c.packets ++ k ∷ []) ≡ n + 1 = length-append c.packets (k ∷ []) in
        record {
          packets = c.packets ++ k ∷ [];
          spelled =
              c.spelled ∙ (λ i. record { packets = c.packets ++ (e i).packets; stop = (e i).stop })
              ∙ ap (λ ks. record { packets = ks; stop = (rest (n + 1)).stop }) (sym (append_assoc c.packets (k ∷ []) (rest (n + 1)).packets))
              ∙ ap (λ i. record { packets = (c.packets ++ k ∷ []) ++ (rest i).packets; stop = (rest i).stop }) (sym longer);
          text = c.text ++ block;
          stood = stood;
          waits = waits-more old now c.text waiting block waiting' put c.waits;
        }

    -- nothing is left
    whole : (s : Spelled) → s.packets ≡ [] → left (length c.packets) ≡ s → all ≡ record { packets = c.packets; stop = s.stop }
    whole s none e =
        c.spelled ∙ (λ i. record { packets = c.packets ++ (e i).packets; stop = (e i).stop })
        ∙ ap (λ ks. record { packets = c.packets ++ ks; stop = s.stop }) none ∙ ap (λ ks. record { packets = ks; stop = s.stop }) (append-nil c.packets)

    module _ (reports : List (List ℕ) → List ℕ → Type 0) (refuses : List (List ℕ) → List ℕ → TraceFault → Type 0) where
      -- reading has stopped
      pub comes-stopped : (fault : TraceFault) (waiting' : List ℕ) → left (length c.packets) ≡ stops (refused fault) → waiting' ≡ waiting → (text : List ℕ) × Ends stands reports refuses all (Err fault) text × Waits old now text waiting'
      comes-stopped fault waiting' e same =
          let is = whole (stops (refused fault)) refl e in (
            c.text,
            inl (record { machine = m; stood = subst (λ ks. stands ks c.text m) (sym (ap (λ (s : Spelled). s.packets) is)) c.stood; stop = ap (λ (s : Spelled). s.stop) is }),
            waits-same old now c.text c.text waiting waiting' refl same c.waits,
          )

      -- the machine refuses a packet
      pub comes-cut : (k : List ℕ) (rest : Spelled) (fault : TraceFault) (waiting' : List ℕ) → left (length c.packets) ≡ record { packets = k ∷ rest.packets; stop = rest.stop } → refuses c.packets k fault → waiting' ≡ waiting
          → (text : List ℕ) × Ends stands reports refuses all (Err fault) text × Waits old now text waiting'
      comes-cut k rest fault waiting' e refuse same = (
        c.text,
        inr (record { before = c.packets; packet = k; behind = rest.packets; are = ap (λ (s : Spelled). s.packets) c.spelled ∙ ap (λ (s : Spelled). c.packets ++ s.packets) e; machine = m; stood = c.stood; refused_so = refuse }),
        waits-same old now c.text c.text waiting waiting' refl same c.waits,
      )

      -- nothing is left, and the end of the report was put
      pub end-put : left (length c.packets) ≡ stops ended → (r : RunEnding) (last : Option (List ℕ)) (after : List ℕ) → PutsEnd (reports c.packets) c.text now last waiting after r → Closes stands reports refuses all r old last after
      end-put e (Ok u) last after put = (c.text ++ put.0, all-reported e put.0 put.1, waits-then old now last c.text waiting put.0 after c.waits put.2)
        where
          all-reported : left (length c.packets) ≡ stops ended → (tail : List ℕ) → reports c.packets (c.text ++ tail) → Ends stands reports refuses all (Ok u) (c.text ++ tail)
          all-reported e tail h = let is = whole (stops ended) refl e in (ap (λ (s : Spelled). s.stop) is, subst (λ ks. reports ks (c.text ++ tail)) (sym (ap (λ (s : Spelled). s.packets) is)) h)
      end-put e (Err Write) last after put =
          let is = whole (stops ended) refl e in
          inr (c.text ++ put.0, (Ok tt, (ap (λ (s : Spelled). s.stop) is, subst (λ ks. reports ks (c.text ++ put.0)) (sym (ap (λ (s : Spelled). s.packets) is)) put.1)), waits-part old now last c.text waiting put.0 c.waits put.2)
      end-put e (Err NoMemory) last after put = subst (λ o. AppendsSome (FirstBlocks stands all) old o) (sym put) comes-nothing
      end-put e (Err Read) last after put = absurd put
      end-put e (Err (Limit which count)) last after put = absurd put
      end-put e (Err (Packets line)) last after put = absurd put
      end-put e (Err (Undefined packet)) last after put = absurd put

  module _ (reports : List (List ℕ) → List ℕ → Type 0) (refuses : List (List ℕ) → List ℕ → TraceFault → Type 0) where
    -- ---- the next line
    pub follows : (fields : List Field) (accepts : ℕ → List ℕ → Bool) (file : List ℕ) (reader reader' : PacketLines) (m : M) (old now : Option (List ℕ)) (waiting : List ℕ) (c : Comes stands all (left_for fields accepts file reader) m old now waiting)
        → (r : Result (Option Line) TraceFault) → LeavesLine fields accepts (length c.packets) file reader reader' r → Follows stands reports refuses all fields accepts file reader' m old now waiting r
    follows fields accepts file reader reader' m old now waiting c (Ok (Some line)) h = comes-as (left_for fields accepts file reader) m old now waiting c (with_line accepts reader'.read (packet_in reader') line (left_for fields accepts file reader')) h
    follows fields accepts file reader reader' m old now waiting c (Ok None) h = comes-as (left_for fields accepts file reader) m old now waiting c (λ before. stops ended) h
    follows fields accepts file reader reader' m old now waiting c (Err Read) h = comes-nothing (left_for fields accepts file reader) m old now waiting c
    follows fields accepts file reader reader' m old now waiting c (Err NoMemory) h = absurd h
    follows fields accepts file reader reader' m old now waiting c (Err (Limit which count)) h = comes-stopped (left_for fields accepts file reader) m old now waiting c reports refuses (Limit which count) waiting h refl
    follows fields accepts file reader reader' m old now waiting c (Err (Packets line)) h = comes-stopped (left_for fields accepts file reader) m old now waiting c reports refuses (Packets line) waiting h refl
    follows fields accepts file reader reader' m old now waiting c (Err Write) h = absurd h
    follows fields accepts file reader reader' m old now waiting c (Err (Undefined packet)) h = absurd h

    -- ---- a packet that is taken
    module _ (accepts : ℕ → List ℕ → Bool) (number port : ℕ) (k : List ℕ) (rest : ℕ → Spelled) (m m' : M) (old now : Option (List ℕ)) (waiting after : List ℕ) (c : Comes stands all (with_line accepts number k (Inject port) rest) m old now waiting) where
      abbrev n : ℕ
      n = length c.packets

      -- what is left, where the packet is accepted or not
      said_so : (b : Bool) → accepts n k ≡ b → with_line accepts number k (Inject port) rest n ≡ (let said = if b then inject k else bad in with_said number said (rest (counted said n)))
      said_so b e = ap (λ b. let said = if b then inject k else bad in with_said number said (rest (counted said n))) e

      pub took : (r : RunEnding) → Takes stands refuses (accepts n) number k c.packets c.text m' waiting after r → ComesOn stands reports refuses all rest m' old now after r
      took (Ok u) h = comes-taken (with_line accepts number k (Inject port) rest) m old now waiting c k rest m' h.1.0 after (said_so true h.0) h.1.1 h.1.2
      took (Err (Packets line)) h = comes-stopped (with_line accepts number k (Inject port) rest) m old now waiting c reports refuses (Packets line) after (said_so false h.1 ∙ ap (λ l. stops (refused (Packets l))) (sym h.0)) h.2
      took (Err (Undefined packet)) h = comes-cut (with_line accepts number k (Inject port) rest) m old now waiting c reports refuses k (rest (n + 1)) (Undefined packet) after (said_so true h.0) h.1 h.2
      took (Err NoMemory) h = comes-nothing (with_line accepts number k (Inject port) rest) m old now waiting c
      took (Err Read) h = absurd h
      took (Err Write) h = absurd h
      took (Err (Limit which count)) h = absurd h

-- ---- how a run ends
module _ (Blocks : List ℕ → Type 0) (Ended : RunEnding → List ℕ → Type 0) (old now : Option (List ℕ)) (waiting : List ℕ) where
  -- what waited was written
  pub closes-written : (last : Option (List ℕ)) (after : List ℕ) → Waits now last (waiting ++ []) after → after ≡ [] → (ending : RunEnding) → is_complete ending ≡ true → EndsRun Blocks Ended ending old now waiting → WritesOut Blocks Ended ending old last
  closes-written last after written none ending told closed = by ending told closed
    where
      by : (e : RunEnding) → is_complete e ≡ true → EndsRun Blocks Ended e old now waiting → WritesOut Blocks Ended e old last
      by (Ok u) told c = (c.0, c.1, waits-all old last c.0 after none (waits-written old now last c.0 waiting after c.2 written))
      by (Err Read) told c = absurd (cc)
      by (Err Write) told c = absurd (cc)
      by (Err NoMemory) told c = absurd (cc)
      by (Err (Limit which count)) told c = (c.0, c.1, waits-all old last c.0 after none (waits-written old now last c.0 waiting after c.2 written))
      by (Err (Packets line)) told c = (c.0, c.1, waits-all old last c.0 after none (waits-written old now last c.0 waiting after c.2 written))
      by (Err (Undefined packet)) told c = (c.0, c.1, waits-all old last c.0 after none (waits-written old now last c.0 waiting after c.2 written))

  -- the sink failed at the end
  pub closes-failed : (last : Option (List ℕ)) → AppendsPart now last (waiting ++ []) → (ending : RunEnding) → is_complete ending ≡ true → EndsRun Blocks Ended ending old now waiting → WritesOut Blocks Ended (Err Write) old last
  closes-failed last part ending told closed = by ending told closed
    where
      some : (e : RunEnding) → (text : List ℕ) × Ended e text × Waits old now text waiting → WritesOut Blocks Ended (Err Write) old last
      some e c = inr (c.0, (e, c.1), subst (AppendsPart old last) (append-nil c.0) (waits-part old now last c.0 waiting [] c.2 part))

      by : (e : RunEnding) → is_complete e ≡ true → EndsRun Blocks Ended e old now waiting → WritesOut Blocks Ended (Err Write) old last
      by (Ok u) told c = some (Ok u) c
      by (Err Read) told c = absurd (cc)
      by (Err Write) told c = absurd (cc)
      by (Err NoMemory) told c = absurd (cc)
      by (Err (Limit which count)) told c = some (Err (Limit which count)) c
      by (Err (Packets line)) told c = some (Err (Packets line)) c
      by (Err (Undefined packet)) told c = some (Err (Undefined packet)) c

  -- a device failed or memory was short
  pub closes-short : (ending : RunEnding) → is_complete ending ≡ false → EndsRun Blocks Ended ending old now waiting → WritesOut Blocks Ended ending old now
  closes-short (Err Read) told c = c
  closes-short (Err Write) told c = c
  closes-short (Err NoMemory) told c = c
  closes-short (Ok u) told c = absurd (cc)
  closes-short (Err (Limit which count)) told c = absurd (cc)
  closes-short (Err (Packets line)) told c = absurd (cc)
  closes-short (Err (Undefined packet)) told c = absurd (cc)

-- what is said in another way
pub written-as : (Blocks Blocks' : List ℕ → Type 0) (Ended Ended' : RunEnding → List ℕ → Type 0) → ((text : List ℕ) → Blocks text → Blocks' text) → ((ending : RunEnding) (text : List ℕ) → Ended ending text → Ended' ending text)
    → (ending : RunEnding) (old now : Option (List ℕ)) → WritesOut Blocks Ended ending old now → WritesOut Blocks' Ended' ending old now
written-as Blocks Blocks' Ended Ended' blocks ends (Err Read) old now w = (w.0, blocks w.0 w.1, w.2)
written-as Blocks Blocks' Ended Ended' blocks ends (Err NoMemory) old now w = (w.0, blocks w.0 w.1, w.2)
written-as Blocks Blocks' Ended Ended' blocks ends (Err Write) old now (inl w) = inl (w.0, blocks w.0 w.1, w.2)
written-as Blocks Blocks' Ended Ended' blocks ends (Err Write) old now (inr w) = inr (w.0, (w.1.0, ends w.1.0 w.0 w.1.1), w.2)
written-as Blocks Blocks' Ended Ended' blocks ends (Err (Limit which count)) old now w = (w.0, ends (Err (Limit which count)) w.0 w.1, w.2)
written-as Blocks Blocks' Ended Ended' blocks ends (Err (Packets line)) old now w = (w.0, ends (Err (Packets line)) w.0 w.1, w.2)
written-as Blocks Blocks' Ended Ended' blocks ends (Err (Undefined packet)) old now w = (w.0, ends (Err (Undefined packet)) w.0 w.1, w.2)
written-as Blocks Blocks' Ended Ended' blocks ends (Ok u) old now w = (w.0, ends (Ok u) w.0 w.1, w.2)
