use Rattle.std.proofs.Common.{◌≡◌, ℕ, ◌+◌, ◌%◌, ◌<◌, List, [], ◌∷◌, ◌++◌, map, Option, Some, is_some, refl, sym, ap, subst, ◌∙◌, arith}
use Rattle.std.specs.List.{range_with_len}
use Rattle.std.proofs.lemmas.List.FromFn.{map-range_with_len_more}
use Rattle.snap_rows.specs.declared.tables.Tables.{Tables}
use Rattle.snap_core.specs.Ports.{port_in}
use Rattle.snap_rows.specs.Entries.{port_at}
use Rattle.snap_demo.specs.Packets.{packet_of}
use Rattle.snap_demo.specs.Row.{ports}
use Rattle.snap_demo.specs.Runs.{HasRun}
use Rattle.snap_demo.proofs.Counted.{has_run-none}
use Rattle.snap_demo.proofs.Row.{port_in-row}
use Rattle.snap_demo.proofs.run.run.Goals as goal

pub loop-number-init : goal.loop-number-init
loop-number-init c = record { run = has_run-none c.args.net.now _ refl refl c.requires.start; rests = sym c.requires.start.flying; tables = refl; injected = c.requires.injected }

pub run_packet-requires-clause-there : goal.run_packet-requires-clause-there
run_packet-requires-clause-there c =
    let n = c.args.switches in
    let p = c.loop-number.number % n in
    let some = c.requires.some in
    let here : c.loop-number.net.tables.ports ≡ ports n = ap (λ (t : Tables). t.ports) c.loop-number.invariant.tables ∙ c.requires.ports in
    let below : p < n = omega (arith, some) in
    let at : port_at c.loop-number.net.tables c.port_of.result ≡ Some p = (λ i. port_in (here i) (c.port_of.ensures i)) ∙ port_in-row 0 n p (omega arith) (omega (arith, below)) in
    ap (λ (o : Option ℕ). is_some o) at

pub loop-number-preserved : goal.loop-number-preserved
loop-number-preserved c =
    let n = c.args.switches in
    let i = c.loop-number.number in
    let ks : List (List ℕ) = map (packet_of n) (range_with_len 0 i) in
    let longer = ap (λ k. ks ++ k ∷ []) c.in_ok-packet.ensures ∙ sym (map-range_with_len_more (packet_of n) 0 i i (omega arith)) in
    record {
      run = subst (λ l. HasRun l c.run_packet.new.net c.run_packet.new.counts) longer (c.in_ok-run_packet.ensures.on ks c.loop-number.invariant.run);
      rests = c.run_packet.ensures.rests;
      tables = c.run_packet.ensures.tables ∙ c.loop-number.invariant.tables;
      injected = c.in_ok-run_packet.ensures.injected ∙ ap (λ m. m + 1) c.loop-number.invariant.injected;
    }
