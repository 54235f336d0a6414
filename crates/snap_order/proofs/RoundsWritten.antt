-- What goes out of runs by rounds.
use Rattle.std.proofs.Common.{ℕ, Bool, List, Option, Ok, Err, sym, ap, subst}
use Rattle.std.specs.Io.KnownBytes.{Appends}
use Rattle.snap_io.specs.Sinks.{AppendsPart}
use Rattle.snap_rows.specs.declared.tables.Tables.{Tables}
use Rattle.snap_report.specs.declared.fault.TraceFault.TheVariants as trace
use Rattle.snap_report.specs.Spelled.{Spelled}
use Rattle.snap_runs.specs.declared.ready.Ready.{Ready}
use Rattle.snap_runs.specs.Playing.{AreAll, packets_in}
use Rattle.snap_order.specs.Rounds.{HasRoundReport, IsRoundReport, WritesRounds}

module _ (t : Tables) (hops : Bool) (file : List ℕ) (rs : List Ready) (all : AreAll t file rs) (text : List ℕ) (report : IsRoundReport t hops (packets_in rs) text) (old now : Option (List ℕ)) where
  has : HasRoundReport t hops file text
  has = (ap (λ (s : Spelled). s.stop) all, subst (λ ks. IsRoundReport t hops ks text) (sym (ap (λ (s : Spelled). s.packets) all)) report)

  pub rounds_written : Appends old now text → WritesRounds t hops file (Ok tt) old now
  rounds_written out = (text, has, out)

  pub rounds_part : AppendsPart old now text → WritesRounds t hops file (Err trace.Write) old now
  rounds_part out = (text, has, out)
