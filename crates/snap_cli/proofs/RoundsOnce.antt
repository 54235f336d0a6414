-- A run by rounds ends in one way, with one text.
use Rattle.std.proofs.Common.{Bool, sym, ◌∙◌, List, ℕ}
use Rattle.snap_order.specs.OneRounds.{RoundReportsAreOne}
use Rattle.snap_cli.specs.Rounds.{RunsByRoundsTo}
use Rattle.snap_cli.proofs.Shared.{file_of, Files, IsWellFormed, RoundsTo, spelled_for, Tables}
use Rattle.snap_cli.proofs.InOrderOnce.{by_version_once}
use Rattle.snap_cli.proofs.ObsOnce.{AreOne}
use Rattle.snap_cli.proofs.Pipeline.{cases_once}
use Rattle.snap_cli.proofs.ScheduleOnce.{packets_once, whole_or_not}

module _ (one : RoundReportsAreOne) (t : Tables) (form : IsWellFormed t) (hops : Bool) (files : Files) (packets : List ℕ) where
  rounds_once : AreOne (RoundsTo t hops (file_of files packets))
  rounds_once a b e f =
      let file = file_of files packets in
      cases_once (λ h k. (h.0 ∙ sym k.0, one t form hops (spelled_for t file).packets a b h.1.1 k.1.1)) (λ h k. whole_or_not t file k.1.0 k.1.1 h.1.0)
      (λ h k. whole_or_not t file k.1.0 k.1.1 h.1.0) (λ h k. (packets_once t file e f h.1 k.1, h.0 ∙ sym k.0))

  pub by_rounds_once : AreOne (RunsByRoundsTo files t packets hops)
  by_rounds_once = by_version_once t.version (RoundsTo t hops (file_of files packets)) rounds_once
