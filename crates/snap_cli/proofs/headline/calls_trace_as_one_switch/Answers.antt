use Rattle.snap_cli.specs.Headline.{compile_words, trace_words}
use Rattle.snap_cli.proofs.NamedWords.{command_of-compile, command_of-trace}
use Rattle.snap_cli.proofs.headline.calls_trace_as_one_switch.Goals as goal

pub returns : goal.returns
returns c = λ files later program topology placement tables packets on_demand compiled report by_program by_topology by_placement by_tables by_packets wrote same told.
    c.traces_as_one_switch.ensures files later program topology placement tables packets on_demand compiled report
    (compile_words on_demand program topology placement, command_of-compile on_demand program topology placement by_program by_topology by_placement, wrote)
    same
    (trace_words tables packets, command_of-trace tables packets by_tables by_packets, told)
