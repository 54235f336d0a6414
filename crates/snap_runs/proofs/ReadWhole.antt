-- The packets of a file, read to its end.
use Rattle.std.proofs.Common.{◌≡◌, ◌≢◌, ℕ, ◌+◌, ◌≤◌, true, List, [], ◌∷◌, ◌++◌, Some, None, Ok, Err, length, sym, ap, subst, ◌∙◌, arith, append_assoc, append-nil}
use Rattle.std.specs.Prelude.{is_some, slice_index, if◌then◌else◌}
use Rattle.std.specs.List.{All}
use Rattle.std.proofs.lemmas.List.{length-append, map-append}
use Rattle.std.proofs.lemmas.List.Elements.{All-push}
use Rattle.snap_rows.specs.declared.tables.Tables.{Tables}
use Rattle.snap_rows.specs.Entries.{port_at}
use Rattle.snap_rows.specs.Form.{comps}
use Rattle.snap_report.specs.declared.fault.TraceFault.{TraceFault}
use Rattle.snap_report.specs.declared.fault.TraceFault.TheVariants.{Read, Write, Limit, Packets, Undefined, NoMemory}
use Rattle.snap_report.specs.declared.line.Line.{Line}
use Rattle.snap_report.specs.declared.line.Line.TheVariants.{Skip, Inject}
use Rattle.snap_report.specs.PacketLines.{inject, bad}
use Rattle.snap_report.specs.Spelled.{Spelled, ended, refused, stops, with_said}
use Rattle.snap_report.specs.declared.packets.PacketLines.{PacketLines}
use Rattle.snap_runs.specs.declared.ready.Ready.{Ready}
use Rattle.snap_runs.specs.Plain.{at_ports, spelled_for}
use Rattle.snap_runs.specs.Playing.{AreAll, AreBefore, HasRead, IsReady, TakesLine, packets_in}
use Rattle.snap_report.specs.Reading.{FitsLine, packet_in, said_of}
use Rattle.snap_runs.specs.Reading.{GivesLine, left_of, said_at}

-- these packets were read, and this is left
abbrev pub AreRead : Tables → (file : List ℕ) → List Ready → Spelled → Type 0
AreRead t file rs left = spelled_for t file ≡ record { packets = packets_in rs ++ left.packets; stop = left.stop }

module _ (t : Tables) (file : List ℕ) where
  pub read-first : (left : Spelled) → spelled_for t file ≡ left → AreRead t file [] left
  read-first left e = e

  module _ (rs : List Ready) (left : Spelled) (are : AreRead t file rs left) where
    pub read-as : (left' : Spelled) → left ≡ left' → AreRead t file rs left'
    read-as left' e = are ∙ (λ i. record { packets = packets_in rs ++ (e i).packets; stop = (e i).stop })

    pub read-all : left ≡ stops ended → AreAll t file rs
    read-all e = read-as (stops ended) e ∙ ap (λ ks. record { packets = ks; stop = ended }) (append-nil (packets_in rs))

    pub read-before : (fault : TraceFault) → left ≡ stops (refused fault) → AreBefore t file rs fault
    read-before fault e = read-as (stops (refused fault)) e ∙ ap (λ ks. record { packets = ks; stop = refused fault }) (append-nil (packets_in rs))

  module _ (rs : List Ready) (old new : PacketLines) (are : AreRead t file rs (left_of (said_at t) file old)) where
    -- reading was refused
    pub read-refused : (fault : TraceFault) → GivesLine t file old new (Err fault) → HasRead t file rs (Err fault)
    read-refused Read h = tt
    read-refused NoMemory h = absurd h
    read-refused (Limit which count) h = read-before rs (left_of (said_at t) file old) are (Limit which count) h
    read-refused (Packets line) h = read-before rs (left_of (said_at t) file old) are (Packets line) h
    read-refused Write h = h
    read-refused (Undefined packet) h = h

    pub read-ended : GivesLine t file old new (Ok None) → AreAll t file rs
    read-ended h = read-all rs (left_of (said_at t) file old) are h

    -- a line names no port
    pub read-bad : (line : Line) → GivesLine t file old new (Ok (Some line)) → at_ports t (said_of (packet_in new) line) ≡ bad → AreBefore t file rs (Packets new.read)
    read-bad line h e = read-before rs (left_of (said_at t) file old) are (Packets new.read) (h ∙ ap (λ s. with_said new.read s (left_of (said_at t) file new)) e)

    -- a line isn't taken
    pub read-taken : (line : Line) (number : ℕ) (fault : TraceFault) → number ≡ new.read → (fault ≢ NoMemory → (fault ≡ Packets number) × (at_ports t (said_of (packet_in new) line) ≡ bad)) → GivesLine t file old new (Ok (Some line)) → HasRead t file rs (Err fault)
    read-taken line number NoMemory n h gives = tt
    read-taken line number (Packets l) n h gives =
        let k = h (λ e. absurd (cc)) in
        subst (AreBefore t file rs) (ap Packets (sym n) ∙ sym k.0) (read-bad line gives k.1)
    read-taken line number Read n h gives = let k = h (λ e. absurd (cc)) in let e : Read ≡ Packets number = k.0 in absurd (cc)
    read-taken line number Write n h gives = let k = h (λ e. absurd (cc)) in let e : Write ≡ Packets number = k.0 in absurd (cc)
    read-taken line number (Limit which count) n h gives = let k = h (λ e. absurd (cc)) in let e : Limit which count ≡ Packets number = k.0 in absurd (cc)
    read-taken line number (Undefined packet) n h gives = let k = h (λ e. absurd (cc)) in let e : Undefined packet ≡ Packets number = k.0 in absurd (cc)

    -- a line was taken
    pub read-more : (line : Line) (rs' : List Ready) → FitsLine (comps t) (packet_in new) line → GivesLine t file old new (Ok (Some line)) → TakesLine t (packet_in new) line rs rs' → AreRead t file rs' (left_of (said_at t) file new)
    read-more Skip rs' fits h takes = subst (λ x. AreRead t file x (left_of (said_at t) file new)) (sym takes) (read-as rs (left_of (said_at t) file old) are (left_of (said_at t) file new) h)
    read-more (Inject port) rs' fits h takes =
        let packet = packet_in new in
        let left = left_of (said_at t) file new in
        let has : is_some (port_at t (slice_index packet 0)) ≡ true = ap (λ p. is_some (port_at t p)) fits.1 ∙ takes.1 in
        let next : left_of (said_at t) file old ≡ record { packets = packet ∷ left.packets; stop = left.stop } = h ∙ ap (λ b. with_said new.read (if b then inject packet else bad) left) has in
        let r : Ready = record { port = port; packet = packet } in
        subst (λ x. AreRead t file x left) (sym takes.0)
        (read-as rs (left_of (said_at t) file old) are (record { packets = packet ∷ left.packets; stop = left.stop }) next
        ∙ ap (λ ks. record { packets = ks; stop = left.stop }) (sym (append_assoc (packets_in rs) (packet ∷ []) left.packets) ∙ ap (λ ks. ks ++ left.packets) (sym (map-append (λ (x : Ready). x.packet) rs (r ∷ [])))))

-- the packets that were taken can be injected
pub ready-more : (t : Tables) (packet : List ℕ) (line : Line) (rs rs' : List Ready) → FitsLine (comps t) packet line → TakesLine t packet line rs rs' → All (IsReady t) rs → All (IsReady t) rs'
ready-more t packet Skip rs rs' fits takes all = subst (All (IsReady t)) (sym takes) all
ready-more t packet (Inject port) rs rs' fits takes all =
    let r : Ready = record { port = port; packet = packet } in
    subst (All (IsReady t)) (sym takes.0) (All-push (IsReady t) rs r all (record { long = fits.0; first = fits.1; has = takes.1 }))

-- a line is one packet at most
pub taken-few : (t : Tables) (packet : List ℕ) (line : Line) (rs rs' : List Ready) (n : ℕ) → TakesLine t packet line rs rs' → length rs ≤ n → length rs' ≤ n + 1
taken-few t packet Skip rs rs' n takes few = let e : length rs' ≡ length rs = ap length takes in omega (arith, e, few)
taken-few t packet (Inject port) rs rs' n takes few =
    let r : Ready = record { port = port; packet = packet } in
    let e : length rs' ≡ length rs + 1 = ap length takes.0 ∙ length-append rs (r ∷ []) in
    omega (arith, e, few)
