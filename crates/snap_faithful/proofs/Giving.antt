-- Tidied leaves give what the leaves give.
use Rattle.std.proofs.Common.{◌<◌, List, ℕ, sym, ap, ◌∙◌}
use Rattle.std.specs.Prelude.{slice_index}
use Rattle.std.proofs.lemmas.List.Elements.{All-weaker}
use Rattle.snap_core.specs.declared.policy.Update.{Update}
use Rattle.snap_core.specs.Arrays.{Arrays, updates}
use Rattle.snap_core.specs.Inputs.{IsStore}
use Rattle.snap_core.specs.Laws.{AreSmall, OpIsSmall}
use Rattle.snap_core.specs.Meaning.{Meaning}
use Rattle.snap_diagrams.specs.declared.leaf.Leaf.{Leaf}
use Rattle.snap_diagrams.specs.declared.leaf.Leaf.TheVariants.{Race, Go as Goes}
use Rattle.snap_faithful.specs.Shown.{IsBare, LeafGives}
use Rattle.snap_faithful.specs.Tidied.{IsLeafOf}
use Rattle.snap_faithful.specs.Leaves.{IsTidy}
use Rattle.snap_faithful.proofs.Ranking.{ranked_updates}
use Rattle.snap_faithful.proofs.Outing.{same_results}

pub gives : (ranks : List ℕ) (n : ℕ) (l r : Leaf) (m : Arrays) (k : List ℕ) (o : Meaning) → IsTidy ranks n l r → IsLeafOf ranks n l → IsStore m → AreSmall k → LeafGives l m k o → LeafGives r m k o
gives ranks n Race r m k o tidy is store small h = absurd h
gives ranks n (Goes g) Race m k o tidy is store small h = absurd tidy
gives ranks n (Goes g) (Goes r) m k o tidy is store small h = (
  h.0 ∙ sym (same_results g.outs r.outs k is.1 tidy.outs),
  λ q. h.1 q ∙ sym (ap (λ (us : List Update). updates m us k q) tidy.ups ∙ ranked_updates ranks n k small g.ups
      (All-weaker (λ (u : Update). (slice_index ranks u.var < n) × OpIsSmall u.op) (λ (u : Update). slice_index ranks u.var < n) (λ u e. e.0) g.ups is.0)
      (All-weaker (λ (u : Update). (slice_index ranks u.var < n) × OpIsSmall u.op) (λ (u : Update). OpIsSmall u.op) (λ u e. e.1) g.ups is.0) m store q),
)

pub becomes_bare : (ranks : List ℕ) (n : ℕ) (l r : Leaf) → IsTidy ranks n l r → IsLeafOf ranks n l → IsBare r
becomes_bare ranks n Race r tidy is = absurd is
becomes_bare ranks n (Goes g) Race tidy is = absurd tidy
becomes_bare ranks n (Goes g) (Goes h) tidy is = (tidy.reads, tidy.writes)
