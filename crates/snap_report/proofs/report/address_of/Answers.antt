use Rattle.std.proofs.Common.{◌-◌, arith}
use Rattle.snap_report.proofs.SplitLemmas.{address-fits, shifted}
use Rattle.snap_report.proofs.report.address_of.Goals as goal

pub overflow_cast-result : goal.overflow_cast-result
overflow_cast-result c =
    let prefix = c.args.prefix in
    let nets = shifted prefix (omega arith) in
    let hosts = shifted (32 - prefix) (omega arith) in
    record { fits = rw hosts (address-fits prefix c.args.net c.args.host c.requires (rw nets at c.if-net-prefix.true) (rw hosts at c.if-host-hosts.true)) }
