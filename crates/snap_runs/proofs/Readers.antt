-- What is left of a packets file, at the ports of tables.
use Rattle.std.proofs.Common.{◌≡◌, ℕ, ◌+◌, ◌-◌, Bool, List, Option, Some, None, Result, Ok, Err, refl, sym, subst, ◌∙◌}
use Rattle.snap_core.specs.declared.program.Field.{Field}
use Rattle.snap_io.specs.LineReaders.{lines_given}
use Rattle.snap_rows.specs.declared.tables.Tables.{Tables}
use Rattle.snap_report.specs.declared.fault.TraceFault.{TraceFault}
use Rattle.snap_report.specs.declared.fault.TraceFault.TheVariants.{Read, Write, Limit, Packets, Undefined, NoMemory}
use Rattle.snap_report.specs.declared.line.Line.{Line}
use Rattle.snap_report.specs.declared.packets.PacketLines.{PacketLines}
use Rattle.snap_report.specs.PacketLines.{Said, skip, inject, bad, said_by}
use Rattle.snap_report.specs.Reading.{LeavesLine, left_for, packet_in, said_of, spelled_where, where_accepted}
use Rattle.snap_report.specs.Spelled.{counted, spelled_from, with_said}
use Rattle.snap_report.proofs.Readers.{spelled_behind-const}
use Rattle.snap_runs.specs.Plain.{at_ports, spelled_for}
use Rattle.snap_runs.specs.Reading.{GivesLine, has_port, left_of, said_at}

module _ (t : Tables) where
  pub accepted-ports : (said : Said) → where_accepted (has_port t) said ≡ at_ports t said
  accepted-ports skip = refl
  accepted-ports (inject packet) = refl
  accepted-ports bad = refl

  -- where the ports stay the same, it doesn't depend on how many packets come before
  at-ports : (file : List ℕ) (left line at before : ℕ) → spelled_from (λ text. where_accepted (has_port t) (said_by t.fields text)) file left line at ≡ spelled_from (said_at t) file left line at
  at-ports file left line at before = λ i. spelled_from (λ text. accepted-ports (said_by t.fields text) i) file left line at

  pub spelled-ports : (file : List ℕ) → spelled_where t.fields (λ n. has_port t) file ≡ spelled_for t file
  spelled-ports file = spelled_behind-const (λ text. where_accepted (has_port t) (said_by t.fields text)) file 1000000 1 0 0 ∙ at-ports file 1000000 1 0 0

  left-ports : (file : List ℕ) (reader : PacketLines) (before : ℕ) → left_for t.fields (λ n. has_port t) file reader before ≡ left_of (said_at t) file reader
  left-ports file reader before =
      spelled_behind-const (λ text. where_accepted (has_port t) (said_by t.fields text)) file (1000000 - reader.read) (reader.read + 1) (lines_given reader.lines) before
      ∙ at-ports file (1000000 - reader.read) (reader.read + 1) (lines_given reader.lines) before

  module _ (file : List ℕ) (old new : PacketLines) where
    line_at : (line : Line) → left_for t.fields (λ n. has_port t) file old 0 ≡ with_said new.read (where_accepted (has_port t) (said_of (packet_in new) line)) (left_for t.fields (λ n. has_port t) file new (counted (where_accepted (has_port t) (said_of (packet_in new) line)) 0)) → GivesLine t file old new (Ok (Some line))
    line_at line h =
        sym (left-ports file old 0) ∙ h
        ∙ (λ i. with_said new.read (accepted-ports (said_of (packet_in new) line) i) (left-ports file new (counted (where_accepted (has_port t) (said_of (packet_in new) line)) 0) i))

    leaves_at : (r : Result (Option Line) TraceFault) → LeavesLine t.fields (λ n. has_port t) 0 file old new r → GivesLine t file old new r
    leaves_at (Ok (Some line)) h = line_at line h
    leaves_at (Ok None) h = sym (left-ports file old 0) ∙ h
    leaves_at (Err Read) h = tt
    leaves_at (Err NoMemory) h = h
    leaves_at (Err (Limit which count)) h = sym (left-ports file old 0) ∙ h
    leaves_at (Err (Packets line)) h = sym (left-ports file old 0) ∙ h
    leaves_at (Err Write) h = h
    leaves_at (Err (Undefined packet)) h = h

-- the same of the reader's fields, which are those of the tables
pub gives-at : (t : Tables) {fields : List Field} → fields ≡ t.fields → (file : List ℕ) (old new : PacketLines) (r : Result (Option Line) TraceFault)
    → ((accepts : ℕ → List ℕ → Bool) (before : ℕ) → LeavesLine fields accepts before file old new r) → GivesLine t file old new r
gives-at t same file old new r leaves = leaves_at t file old new r (subst (λ f. LeavesLine f (λ n. has_port t) 0 file old new r) same (leaves (λ n. has_port t) 0))
