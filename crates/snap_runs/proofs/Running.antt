-- How a run over a schedule's lines goes on.
use Rattle.std.proofs.Common.{◌≡◌, ◌≢◌, ◌⊎◌, inl, inr, ℕ, ◌+◌, ◌<◌, Bool, true, false, List, [], ◌∷◌, ◌++◌, Some, Ok, length, refl, sym, ap, subst, ◌∙◌, arith, append_assoc, append-nil}
use Rattle.std.specs.Prelude.{slice_index}
use Rattle.std.proofs.lemmas.List.{length-append, nil_from_length}
use Rattle.snap_rows.specs.declared.tables.Tables.{Tables}
use Rattle.snap_rows.specs.Network.{Net, Event, Inject, Step, RunsBy, done}
use Rattle.snap_rows.proofs.Runs.{runs-then}
use Rattle.snap_runs.specs.declared.event.Instruction.TheVariants as order
use Rattle.snap_runs.specs.Runner.{HasDone, HasInjected, HasRun, HasStepped, IsPlaying, PlaysLines, RefusesLineBy, SoFar}
use Rattle.snap_runs.specs.Schedules.{CantBeDone, ObeysBy, Spells, nothing, lines_of, order_by}
use Rattle.snap_runs.proofs.Spelling.{spells-inject, spells-skip, spells-step}

module _ {S L P : Type 0} (net : S → Net) (Leads : Tables → S → Event → S → List L → Type 0) (begin : Tables → S) (Plays : Tables → Bool → S → List L → P → Type 0) (left_in : P → List (List ℕ)) where
  abbrev Lines : (t : Tables) → (hops : Bool) → (ks lines : List (List ℕ)) → P → Type 0
  Lines t hops ks lines v = PlaysLines net Leads begin Plays left_in t hops ks lines v

  -- before the first line
  pub so_far-first : (t : Tables) (hops : Bool) (rest : List ℕ) (v : P) → Plays t hops (begin t) [] v → SoFar net Leads begin Plays left_in t hops (left_in v) (lines_of rest) rest 0 v
  so_far-first t hops rest v plays = record {
    done = [];
    are = refl;
    is = refl;
    plays = record { state = begin t; told = []; plays = plays; obeys = record { events = []; spells = nothing; run = done } };
  }

  pub lines-playing : (t : Tables) (hops : Bool) (ks lines : List (List ℕ)) (v : P) → Lines t hops ks lines v → IsPlaying Plays v
  lines-playing t hops ks lines v p = (t, hops, p.state, p.told, p.plays)

  -- ---- a line
  pub done-skip : (line : List ℕ) (v : P) → order_by line ≡ Some order.Skip → HasDone net Leads begin Plays left_in line v v true
  done-skip line v e t hops ks lines p = record {
    state = p.state;
    told = p.told;
    plays = p.plays;
    obeys = record { events = p.obeys.events; spells = spells-skip line e p.obeys.spells; run = p.obeys.run };
  }

  pub done-inject : (line : List ℕ) (old new : P) → order_by line ≡ Some order.Inject → (b : Bool) → HasInjected Leads Plays left_in old new b → HasDone net Leads begin Plays left_in line old new b
  done-inject line old new e true does = λ t hops ks lines p.
      let a = does t hops p.state p.told p.plays in
      let event = Inject (slice_index a.packet 0) a.packet in
      record {
        state = a.state;
        told = p.told;
        plays = a.plays;
        obeys = record {
          events = p.obeys.events ++ event ∷ [];
          spells = spells-inject line a.packet (left_in new) e a.next p.obeys.spells;
          run = subst (RunsBy (Leads t) (begin t) (p.obeys.events ++ event ∷ []) a.state) (append-nil p.told) (runs-then event a.state [] p.obeys.run a.leads);
        };
      }
  done-inject line old new e false none = λ t hops ks lines p. subst (λ o. CantBeDone o (left_in old) (net p.state)) (sym e) none

  pub done-step : (line : List ℕ) (place : ℕ) (old new : P) → order_by line ≡ Some (order.Step place) → (b : Bool) → HasStepped Leads Plays left_in net place old new b → HasDone net Leads begin Plays left_in line old new b
  done-step line place old new e true does = λ t hops ks lines p.
      let a = does t hops p.state p.told p.plays in
      record {
        state = a.state;
        told = p.told ++ a.turns;
        plays = a.plays;
        obeys = record {
          events = p.obeys.events ++ Step place ∷ [];
          spells = subst (Spells (lines ++ line ∷ []) ks (p.obeys.events ++ Step place ∷ [])) (sym a.left) (spells-step line place e p.obeys.spells);
          run = runs-then (Step place) a.state a.turns p.obeys.run a.leads;
        };
      }
  done-step line place old new e false none = λ t hops ks lines p. subst (λ o. CantBeDone o (left_in old) (net p.state)) (sym e) (none t hops p.state p.told p.plays)

  -- ---- lines
  module _ (t : Tables) (hops : Bool) (ks lines : List (List ℕ)) (rest : List ℕ) (number : ℕ) (v : P) (s : SoFar net Leads begin Plays left_in t hops ks lines rest number v) where
    module _ (line behind : List ℕ) (e : lines_of rest ≡ line ∷ lines_of behind) (v' : P) where
      pub so_far-more : HasDone net Leads begin Plays left_in line v v' true → SoFar net Leads begin Plays left_in t hops ks lines behind (number + 1) v'
      so_far-more does = record {
        done = s.done ++ line ∷ [];
        are = s.are ∙ ap (λ l. s.done ++ l) e ∙ sym (append_assoc s.done (line ∷ []) (lines_of behind));
        is = ap (λ n. n + 1) s.is ∙ sym (length-append s.done (line ∷ []));
        plays = does t hops ks s.done s.plays;
      }

      pub stops-at : HasDone net Leads begin Plays left_in line v v' false → RefusesLineBy net (Leads t) (begin t) ks lines (number + 1)
      stops-at does = inl (record {
        before = s.done;
        line = line;
        behind = lines_of behind;
        are = s.are ∙ ap (λ l. s.done ++ l) e;
        is = ap (λ n. n + 1) s.is;
        left = left_in v;
        state = s.plays.state;
        told = s.plays.told;
        obeys = s.plays.obeys;
        stuck = does t hops ks s.done s.plays;
      })

    module _ (e : lines_of rest ≡ []) where
      all : lines ≡ s.done
      all = s.are ∙ ap (λ l. s.done ++ l) e ∙ append-nil s.done

      obeys_all : ObeysBy (Leads t) (begin t) ks lines (left_in v) s.plays.state s.plays.told
      obeys_all = subst (λ l. ObeysBy (Leads t) (begin t) ks l (left_in v) s.plays.state s.plays.told) (sym all) s.plays.obeys

      early : (left_in v ≢ []) ⊎ ((net s.plays.state).flying ≢ []) → RefusesLineBy net (Leads t) (begin t) ks lines (number + 1)
      early some = inr (record {
        is = ap (λ n. n + 1) (s.is ∙ ap length (sym all));
        left = left_in v;
        state = s.plays.state;
        told = s.plays.told;
        obeys = obeys_all;
        some = some;
      })

      pub early-waiting : (0 < length (left_in v)) → RefusesLineBy net (Leads t) (begin t) ks lines (number + 1)
      early-waiting some = early (inl (λ none. let zero_long : length (left_in v) ≡ 0 = ap length none in omega (arith, some, zero_long)))

      pub early-flying : (0 < length (net s.plays.state).flying) → RefusesLineBy net (Leads t) (begin t) ks lines (number + 1)
      early-flying some = early (inr (λ none. let zero_long : length (net s.plays.state).flying ≡ 0 = ap length none in omega (arith, some, zero_long)))

      -- nothing is left
      pub run-through : length (left_in v) ≡ 0 → length (net s.plays.state).flying ≡ 0 → HasRun net Leads begin Plays left_in t hops ks lines v (Ok tt)
      run-through none rests =
          (record { state = s.plays.state; told = s.plays.told; plays = s.plays.plays; obeys = obeys_all }, nil_from_length (left_in v) none, nil_from_length (net s.plays.state).flying rests)
