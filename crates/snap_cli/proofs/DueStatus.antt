-- The status of a call, from what holds of each ending that its command deserves.
use Rattle.std.proofs.Common.{◌⊎◌, ℕ, List, Option, sym, subst, inl, inr}
use Rattle.snap_cli.proofs.Shared.{Command, Ending, Ends, Files, IsDue, IsExact, IsFailure, status_of}

pub due-status : (Holds : ℕ → Type 0) (files : Files) (command : Command) → ((e : Ending) → Ends files command e → Holds (status_of e))
    → (status : ℕ) (out_old out_new : Option (List ℕ)) (err_before err_now : ℕ) (err_old err_new : Option (List ℕ))
    → IsFailure status ⊎ ((ending : Ending) × (text : List ℕ) × IsDue files command ending text × IsExact ending text status out_old out_new err_before err_now err_old err_new)
    → IsFailure status ⊎ Holds status
due-status Holds files command each status out_old out_new err_before err_now err_old err_new (inl failed) = inl failed
due-status Holds files command each status out_old out_new err_before err_now err_old err_new (inr h) = inr (subst Holds (sym h.3.status_is) (each h.0 h.2.ends))
