use Rattle.std.proofs.Common.{◌≡◌, ◌++◌, drop, sym, arith}
use Rattle.snap_runs.specs.Crossings.{link_of}
use Rattle.snap_runs.proofs.LineTexts.{drop-behind, length-link_of, link_of-append}
use Rattle.snap_runs.proofs.links.put_link_before.Goals as goal

pub returns-clause-rest : goal.returns-clause-rest
returns-clause-rest c =
    let from = c.args.from.now in
    let to = c.args.to.now in
    let rest = drop c.args.end c.args.buffer.now in
    let text : drop c.put_bytes_before.result c.put_bytes_before.new.buffer ≡ link_of from to ++ rest =
    rw (c.put_bytes_before.ensures.text, c.put_bytes_before-begin-2.ensures.text, c.put_byte_before-begin-2.ensures.text, c.put_bytes_before-begin.ensures.text, c.put_byte_before-begin.ensures.text) (sym (link_of-append from to rest)) in
    drop-behind c.put_bytes_before.result c.args.end (link_of from to) c.put_bytes_before.new.buffer rest (omega (arith, length-link_of from to)) text
