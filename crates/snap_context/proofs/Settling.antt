-- Each answer stays as the context grows, and all together are a model.
use Rattle.std.proofs.Common.{◌≡◌, ℕ, ◌+◌, ◌<◌, ◌≤◌, ⊎_elim, true, false, cond, Bool, List, [], ◌∷◌, ◌++◌, length, get_or, refl, sym, ap, subst, ◌∙◌, arith, length-append}
use Rattle.std.specs.Prelude.{slice_index}
use Rattle.std.proofs.lemmas.Bool.{eqb-true, cases_lt}
use Rattle.std.proofs.lemmas.Grind.{common_steps}
use Rattle.snap_core.proofs.Places.{same_place-exact}
use Rattle.snap_core.specs.declared.place.Place.{Place}
use Rattle.snap_core.specs.Arrays.{Arrays, put, same_place}
use Rattle.snap_core.specs.Tests.{passes}
use Rattle.snap_context.specs.declared.fact.Fact.{Fact}
use Rattle.snap_context.specs.Meets.{Meets}
use Rattle.snap_context.specs.View.{View}
use Rattle.snap_context.proofs.Answers.{Meets-parts}
use Rattle.snap_context.specs.declared.ask.Ask.{Ask}
use Rattle.snap_context.specs.declared.ask.Ask.TheVariants.{Component, At}
use Rattle.snap_context.specs.declared.ask.Settled.{Settled}
use Rattle.snap_context.specs.Asks.{test_of, IsSettled}
use Rattle.snap_context.specs.Models.{Extends, Forces, ForcesPacket, ForcesFact, IsRun, place_of}
use Rattle.snap_context.proofs.Asking.{passes-ask}

module _ (w : View) (ask : Ask) (s : Settled) (settled : IsSettled w ask s) where
  parts : (m : Arrays) (k : List ℕ) → Meets s.ctx.facts m k → Meets w.facts m k × (passes (test_of ask s.num) m k ≡ true)
  parts m k h = Meets-parts w.facts (test_of ask s.num) true m k (subst (λ (xs : List Fact). Meets xs m k) settled.facts h)

  pub settled_new : Forces s.ctx ask s.num
  settled_new m k p h = eqb-true _ _ (sym (passes-ask m k ask s.num) ∙ (parts m k h).1)

  pub settled_old : (a : Ask) (x : ℕ) → Forces w a x → Forces s.ctx a x
  settled_old a x f m k p h = f m k (record { long = p.long ∙ settled.same; numbers = p.numbers }) (parts m k h).0

  settled_extends : (v : View) → Extends v w → Extends v s.ctx
  settled_extends v e = record { same = settled.same ∙ e.same; meets = λ m k h. e.meets m k (parts m k h).0 }

  settled_packet : (packet : List ℕ) → ForcesPacket w packet → ForcesPacket s.ctx packet
  settled_packet packet f c l = settled_old (Component c) (slice_index packet c) (f c l)

  pub run_kept : (v : View) (packet : List ℕ) → IsRun v packet w → IsRun v packet s.ctx
  run_kept v packet run = record { extends = settled_extends v run.extends; forces = settled_packet packet run.forces }

get_or-left : (xs : List ℕ) (n c : ℕ) → c < length xs → get_or (xs ++ n ∷ []) c 0 ≡ get_or xs c 0
get_or-left xs n c h = grind (arith, common_steps)

get_or-here : (xs : List ℕ) (n : ℕ) → get_or (xs ++ n ∷ []) (length xs) 0 ≡ n
get_or-here [] n = refl
get_or-here (x ∷ xs) n = get_or-here xs n

-- one component more
pub run_more : (v : View) (packet more : List ℕ) (w : View) (s : Settled) → more ≡ packet ++ s.num ∷ [] → IsRun v packet w → IsSettled w (Component (length packet)) s → IsRun v more s.ctx
run_more v packet more w s e run settled =
    let kept : IsRun v packet s.ctx = run_kept w (Component (length packet)) s settled v packet run in
    record {
      extends = kept.extends;
      forces = λ c l.
          let lm : c < length packet + 1 = (let a : length more ≡ length packet + 1 = ap length e ∙ length-append packet (s.num ∷ []) in omega (arith, a, l)) in
          ⊎_elim
          (λ (h : c < length packet).
          let same : slice_index more c ≡ slice_index packet c = ap (λ (xs : List ℕ). get_or xs c 0) e ∙ get_or-left packet s.num c h in
          rw same (kept.forces c h))
          (λ (h : length packet ≤ c).
          let at : c ≡ length packet = omega (arith, h, lm) in
          let same : slice_index more c ≡ s.num = ap (λ (xs : List ℕ). get_or xs c 0) e ∙ (ap (λ i. get_or (packet ++ s.num ∷ []) i 0) at ∙ get_or-here packet s.num) in
          rw (same, at) (settled_new w (Component (length packet)) s settled))
          (cases_lt c (length packet));
    }

-- a place once settled stays so when another is settled and written
pub fact_kept : (w : View) (p : Place) (s : Settled) (k : List ℕ) (m n : Arrays) (f : Fact) → IsSettled w (At p) s → n ≡ put m p s.num → ForcesFact w k m f → ForcesFact s.ctx k n f
fact_kept w p s k m n f settled e h st =
    let q : Place = place_of f k in
    let by : (b : Bool) → same_place p (place_of f k) ≡ b → Forces s.ctx (At (place_of f k)) (cond b s.num (m (place_of f k)))
    = λ b. elim b as (λ b. same_place p (place_of f k) ≡ b → Forces s.ctx (At (place_of f k)) (cond b s.num (m (place_of f k)))) [
      | true ↦ λ t. subst (λ x. Forces s.ctx (At x) s.num) (same_place-exact p (place_of f k) t) (settled_new w (At p) s settled)
      | false ↦ λ t. settled_old w (At p) s settled (At (place_of f k)) (m (place_of f k)) (h st)
    ]
    in subst (λ (x : Arrays). Forces s.ctx (At (place_of f k)) (x (place_of f k))) (sym e) (by (same_place p (place_of f k)) refl)
