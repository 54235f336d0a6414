use Rattle.std.proofs.Common.{◌≡◌, ℕ, Bool, true, false, refl, sym, ◌∙◌}
use Rattle.std.specs.Prelude.{if◌then◌else◌, unwrap_or, option_map, ◌==◌}
use Rattle.snap_core.specs.declared.place.Place.{Place}
use Rattle.snap_core.specs.Arrays.{zero_arrays}
use Rattle.snap_rows.specs.Entries.{owner_of}
use Rattle.snap_rows.specs.Network.{start}
use Rattle.snap_net.proofs.net.open_net.Goals as goal

nothing : (b : Bool) → ◌≡◌ {A = ℕ} (if b then 0 else 0) 0
nothing true = refl
nothing false = refl

pub returns-clause-start : goal.returns-clause-start
returns-clause-start c =
    let t = c.args.tables in
    let zeros : (w : ℕ) → (start t zero_arrays).stores w ≡ zero_arrays = λ w i (p : Place). nothing (unwrap_or (option_map (λ o. o == w) (owner_of t p.var)) false) i in
    record {
      stores = λ w. zeros w ∙ sym (c.in_ok-stores.ensures.empty w);
      injected = refl;
      flying = sym c.new.ensures;
    }
