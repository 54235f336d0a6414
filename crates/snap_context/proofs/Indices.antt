-- Indices with a different atom at one place differ.
use Rattle.std.proofs.Common.{◌≡◌, ℕ, ◌<◌, List, length, map, get_or, sym, ap, ◌∙◌}
use Rattle.std.proofs.lemmas.List.{get_or-map}
use Rattle.snap_core.specs.declared.policy.Atom.{Atom}
use Rattle.snap_core.specs.declared.policy.Term.{Term}
use Rattle.snap_core.specs.declared.policy.Term.TheVariants.{Num}
use Rattle.snap_context.specs.Classes.{atom_class}

pub same_at : (cl : List Term) (first second : List Atom) (i : ℕ) (d e : Atom) → i < length first → i < length second → map (atom_class cl) first ≡ map (atom_class cl) second → atom_class cl (get_or first i d) ≡ atom_class cl (get_or second i e)
same_at cl first second i d e h l s =
    sym (get_or-map (atom_class cl) first i d (Num 0) h) ∙ (ap (λ xs. get_or xs i (Num 0)) s ∙ get_or-map (atom_class cl) second i e (Num 0) l)
