-- `demo` deserves one text.
use Rattle.std.proofs.Common.{◌≡◌, ℕ, List, length, sym, subst, ◌∙◌}
use Rattle.std.proofs.lemmas.Option.{same_Some}
use Rattle.snap_core.specs.Listing.{IsListing}
use Rattle.snap_demo.specs.Packets.{stated_packets}
use Rattle.snap_demo.specs.Row.{stated_topology}
use Rattle.snap_demo.specs.Summary.{IsSummary, all_delivered, all_lost, text_of, total_in}
use Rattle.snap_cli.proofs.Shared.{HasOneListing, ports_of, Switched, zero_arrays}
use Rattle.snap_cli.proofs.SameCore.{same_switch}

pub demo_text_once : HasOneListing → (switches : ℕ) (a b : List ℕ) → IsSummary switches a → IsSummary switches b → a ≡ b
demo_text_once lists n a b x y =
    let core = x.stated ∙ sym y.stated in
    let same : x.made ≡ y.made = same_Some x.made y.made (sym x.defined ∙ same_switch x.program y.program core (stated_packets n) zero_arrays ∙ y.defined) in
    let entries : x.entries ≡ y.entries = lists y.made.arrays x.entries y.entries (subst (λ (s : Switched). IsListing s.arrays x.entries) same x.listed) y.listed in
    let ports = ports_of (stated_topology n) in
    x.is ∙ (λ i. text_of n (length (stated_packets n)) (all_delivered ports (same i).packets) (all_lost ports (same i).packets) (total_in 0 (entries i)) (total_in 1 (entries i))) ∙ sym y.is
