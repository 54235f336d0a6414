-- The report of a run without its hops.
use Rattle.std.proofs.Common.{◌≡◌, ℕ, Bool, true, false, List, [], length, refl, ◌∙◌}
use Rattle.std.specs.List.{concat}
use Rattle.std.proofs.lemmas.Option.{slice_get-get_or}
use Rattle.snap_rows.specs.declared.tables.Tables.{Tables}
use Rattle.snap_rows.specs.Network.{Happening}
use Rattle.snap_runs.specs.declared.frames.Frames.{Frames}
use Rattle.snap_runs.specs.Laws.{RunsReportWithoutHops}
use Rattle.snap_runs.specs.Reports.{IsBlockBy}
use Rattle.snap_runs.proofs.Choosing.{choose}

pub block_without : (f : Frames) (t : Tables) (hops : Bool) (i : ℕ) (hs : List Happening) (text : List ℕ) → IsBlockBy f t hops i hs text → (plain : List ℕ) × IsBlockBy f t false i hs plain
block_without f t hops i hs text b = (_, record { outs = b.outs; rising = b.rising; delivered = b.delivered; is = refl })

pub without_hops : RunsReportWithoutHops
without_hops f t false count s hs text r = (text, r, λ e. refl)
without_hops f t true count s hs text r =
    let each = r.are.each in
    let bare = choose (λ i. IsBlockBy f t false i hs) (length each) (λ i low. block_without f t true i hs _ (r.are.blocks i _ (slice_get-get_or each i [] low))) in (
      _,
      record {
        blocks = concat bare.0;
        are = record { each = bare.0; as_many = bare.1 ∙ r.are.as_many; blocks = bare.2; is = refl };
        entries = r.entries;
        listed = r.listed;
        is = refl;
      },
      λ (e : true ≡ false). absurd (cc),
    )
