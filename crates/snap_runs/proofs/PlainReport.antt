-- The plain run of packets has one report.
use Rattle.std.proofs.Common.{◌≡◌, ℕ, Bool, List, length, sym, subst}
use Rattle.snap_core.specs.Arrays.{zero_arrays}
use Rattle.snap_rows.specs.declared.tables.Tables.{Tables}
use Rattle.snap_rows.specs.Form.{IsWellFormed}
use Rattle.snap_runs.specs.declared.frames.Frames.TheVariants.{Plain}
use Rattle.snap_runs.specs.Plain.{IsPlainReport, ArePlainBlocks, entering}
use Rattle.snap_runs.specs.Reports.{IsRunReport, AreBlocks}
use Rattle.snap_runs.proofs.OneReport.{blocks_one, reports_one}
use Rattle.snap_runs.proofs.OneRun.{plain_one}

pub plain_reports_one : (t : Tables) → IsWellFormed t → (hops : Bool) (ks : List (List ℕ)) (a b : List ℕ) → IsPlainReport t hops ks a → IsPlainReport t hops ks b → a ≡ b
plain_reports_one t form hops ks a b x y =
    let one = plain_one t form zero_arrays (entering ks) x.events y.events x.end y.end x.happenings y.happenings x.run y.run in
    reports_one Plain t hops (length ks) x.end x.happenings a b x.report
    (subst (λ hs. IsRunReport t hops (length ks) x.end hs b) (sym one.2) (subst (λ s. IsRunReport t hops (length ks) s y.happenings b) (sym one.1) y.report))

pub plain_blocks_one : (t : Tables) → IsWellFormed t → (hops : Bool) (ks : List (List ℕ)) (a b : List ℕ) → ArePlainBlocks t hops ks a → ArePlainBlocks t hops ks b → a ≡ b
plain_blocks_one t form hops ks a b x y =
    let one = plain_one t form zero_arrays (entering ks) x.events y.events x.end y.end x.happenings y.happenings x.run y.run in
    blocks_one Plain t hops (length ks) x.happenings a b x.blocks (subst (λ hs. AreBlocks t hops (length ks) hs b) (sym one.2) y.blocks)
