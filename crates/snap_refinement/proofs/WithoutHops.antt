-- The report of a run with changes without its hops.
use Rattle.std.proofs.Common.{◌≡◌, ℕ, ◌+◌, Bool, true, false, List, [], ◌∷◌, ◌++◌, refl}
use Rattle.snap_runs.specs.declared.frames.Frames.TheVariants.{Plain}
use Rattle.snap_runs.proofs.WithoutHops.{block_without}
use Rattle.snap_runs.specs.Changing.{AreBlocksFrom, Passage}
use Rattle.snap_refinement.specs.ChangeLaws.{TurnsReportWithoutHops}

blocks_without : (hops : Bool) (i : ℕ) (turns : List Passage) (text : List ℕ) → AreBlocksFrom hops i turns text → (plain : List ℕ) × AreBlocksFrom false i turns plain
blocks_without hops i [] text are = ([], refl)
blocks_without hops i (x ∷ xs) text are =
    let here = block_without Plain x.tables hops i x.happenings are.0 are.2 in
    let others = blocks_without hops (i + 1) xs are.1 are.3 in
    (here.0 ++ others.0, (here.0, others.0, here.1, others.1, refl))

pub turns_without_hops : TurnsReportWithoutHops
turns_without_hops end s turns false text r = (text, r, λ e. refl)
turns_without_hops end s turns true text r =
    let bare = blocks_without true 0 turns r.blocks r.are in
    (_, record { blocks = bare.0; are = bare.1; entries = r.entries; listed = r.listed; is = refl }, λ (e : true ≡ false). absurd (cc))
