use Rattle.snap_base_tests.proofs.of_io.four.Goals as goal

pub put_next-requires : goal.put_next-requires
put_next-requires g c = c.in_ok-lines.ensures.agrees _
