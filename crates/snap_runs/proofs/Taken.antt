-- A packet has passed, and its block was put.
use Rattle.std.proofs.Common.{◌≡◌, ℕ, ◌+◌, Bool, true, false, List, [], ◌++◌, refl, sym, subst, ◌∙◌, append-nil}
use Rattle.std.specs.Prelude.{IsPermutation}
use Rattle.snap_rows.specs.declared.tables.Tables.{Tables}
use Rattle.snap_rows.specs.Network.{Net, Happening}
use Rattle.snap_net.specs.Passing.{IsHeard, Passes, crossings}
use Rattle.snap_net.specs.Shown.{NetView, Represents}
use Rattle.snap_report.specs.Reports.{out_lines, lost_line}
use Rattle.snap_runs.specs.declared.frames.Frames.{Frames}
use Rattle.snap_runs.specs.declared.tally.Tally.{Tally}
use Rattle.snap_runs.specs.Crossings.{SeesLines, crossing_lines}
use Rattle.snap_runs.specs.Reports.{packet_line}
use Rattle.snap_runs.specs.Tallies.{PutsBlock}
use Rattle.snap_runs.specs.Tracing.{HasTaken, IsTraced}
use Rattle.snap_runs.proofs.Passing.{hop_lines-crossings}

pub passes-so : (port : ℕ) (k : List ℕ) (old new : NetView) (told all : List Happening → Type 0) → ((hs : List Happening) → told hs → all hs) → Passes port k old new told → Passes port k old new all
passes-so port k old new told all so passes s shows =
    let p = passes s shows in
    record {
      state = p.state;
      events = p.events;
      happenings = p.happenings;
      no_packets = p.no_packets;
      first = p.first;
      run = p.run;
      rests = p.rests;
      injected = p.injected;
      shows = p.shows;
      tells = so p.happenings p.tells;
    }

-- the lines of its links were put, or none are told
module _ (f : Frames) (t : Tables) (i : ℕ) (sent : List (List ℕ)) (lost : ℕ) (hs : List Happening) where
  pub traced-seen : (y y' : Tally) → y.frames ≡ f → y.hops.items ≡ [] → IsHeard (SeesLines t) i y y' sent lost hs → IsTraced f t true i y' sent lost hs
  traced-seen y y' kind none heard =
      let seen = heard.heard y [] (refl, sym (append-nil y.hops.items)) in
      record { told = heard.told; lines = seen.1 ∙ (λ j. none j ++ crossing_lines (kind j) t.switches (crossings hs)) ∙ sym (hop_lines-crossings f t i hs heard.told.happen) }

  pub traced-bare : {V : Type 0} (saw : V → List Happening → V → Type 0) (a b : V) (y : Tally) → y.hops.items ≡ [] → IsHeard saw i a b sent lost hs → IsTraced f t false i y sent lost hs
  traced-bare saw a b y none heard = record { told = heard.told; lines = none }

pub taken-passed : (f : Frames) (hops : Bool) (port : ℕ) (k : List ℕ) (old new : NetView) (y : Tally) (sent : List (List ℕ)) (lost : ℕ) (before after : List ℕ) → Passes port k old new (IsTraced f old.tables hops old.injected y sent lost)
    → PutsBlock old.tables.fields (old.injected + 1) y.hops.items sent lost before after → (s : Net) → Represents old s → HasTaken f old.tables hops port k s new before after
taken-passed f hops port k old new y sent lost before after passes put s shows =
    let t = old.tables in
    let p = passes s shows in
    let traced : IsTraced f t hops s.injected y sent lost p.happenings = subst (λ n. IsTraced f t hops n y sent lost p.happenings) (sym shows.injected) p.tells in
    record {
      events = p.events;
      no_packets = p.no_packets;
      first = p.first;
      state = p.state;
      happenings = p.happenings;
      run = p.run;
      rests = p.rests;
      injected = p.injected;
      shows = p.shows;
      happen = traced.told.happen;
      text = packet_line (old.injected + 1) ++ y.hops.items ++ out_lines t.fields put.outs ++ lost_line lost;
      block = record {
        outs = put.outs;
        rising = put.rising;
        delivered = subst (IsPermutation put.outs) (sym traced.told.sent_is) put.delivered;
        is = λ j. packet_line (sym shows.injected j + 1) ++ traced.lines j ++ out_lines t.fields put.outs ++ lost_line (sym traced.told.lost_is j);
      };
      put = put.is;
    }
