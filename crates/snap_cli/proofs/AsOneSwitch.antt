-- Where no hops are told the text is what one big switch does.
use Rattle.std.proofs.Common.{ℕ, Bool, false, List, Option, refl, subst, inl}
use Rattle.snap_faithful.specs.Agreement.{numbered}
use Rattle.snap_refinement.specs.InOrder.{InOrderItIsTheReport}
use Rattle.snap_refinement.specs.OneSwitch.{IsSwitchReport}
use Rattle.snap_cli.specs.Headline.{RoundsTraceAsOneSwitch, SchedulesTraceAsOneSwitch, TakeEffectIn, TellsByOrder, TracesAsOneSwitch, TracesByOrder, TurnsTraceAsOneSwitch}
use Rattle.snap_cli.proofs.Shared.{file_of, Files, in_order, Order, plain, ports_of, Program, rounds, schedule, spelled, Topology}

module _ (in_order_it_is : InOrderItIsTheReport) where
  -- where packets take effect as they come in
  as_injected : (files : Files) (order : Order) (file : List ℕ) (p : Program) (t : Topology) (on_demand : Bool) (ks : List (List ℕ)) (text : List ℕ) (told : TellsByOrder files order file p t on_demand ks false text)
      → TakeEffectIn files order told.run.tables ks told.run.happenings (numbered ks) → IsSwitchReport p (ports_of t) ks text
  as_injected files order file p t on_demand ks text told take = subst (IsSwitchReport p (ports_of t) ks) (told.same refl) (in_order_it_is p (ports_of t) ks told.plain (told.one_switch (numbered ks) take))

  pub traced : TracesByOrder plain → TracesAsOneSwitch
  traced law files later program topology placement tables packets on_demand output report c is d =
      let x = law files later program topology placement tables packets on_demand false output report c is d in
      (x.0, x.1, x.2, as_injected later plain (file_of later tables) x.0 x.1 on_demand (spelled x.0.fields (file_of later packets)).packets report x.3 refl)

  pub scheduled : ((lines : List ℕ) → TracesByOrder (schedule lines)) → SchedulesTraceAsOneSwitch
  scheduled law files later program topology placement tables packets lines on_demand output report c is d =
      let x = law lines files later program topology placement tables packets on_demand false output report c is d in
      (x.0, x.1, x.2, λ sequential. as_injected later (schedule lines) (file_of later tables) x.0 x.1 on_demand (spelled x.0.fields (file_of later packets)).packets report x.3 (inl (sequential x.3.run.tables x.3.run.read, refl)))

  pub turned : ((lines : Option (List ℕ)) → TracesByOrder (in_order lines)) → TurnsTraceAsOneSwitch
  turned law files later program topology placement tables packets on_demand lines output report c is d =
      let x = law lines files later program topology placement tables packets on_demand false output report c is d in
      (x.0, x.1, x.2, as_injected later (in_order lines) (file_of later tables) x.0 x.1 on_demand (spelled x.0.fields (file_of later packets)).packets report x.3 refl)

  pub in_rounds : ((workers : ℕ) → TracesByOrder (rounds workers)) → RoundsTraceAsOneSwitch
  in_rounds law files later program topology placement tables packets on_demand workers output report c is d =
      let x = law workers files later program topology placement tables packets on_demand false output report c is d in
      (x.0, x.1, x.2, as_injected later (rounds workers) (file_of later tables) x.0 x.1 on_demand (spelled x.0.fields (file_of later packets)).packets report x.3 refl)
