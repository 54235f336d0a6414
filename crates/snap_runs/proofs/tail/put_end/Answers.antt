use Rattle.std.proofs.Common.{◌++◌, map, ap, sym, ◌∙◌}
use Rattle.std.specs.Prelude.{codes}
use Rattle.std.specs.List.{flat_map}
use Rattle.std.proofs.lemmas.List.Folds.{flat_map-map}
use Rattle.std.proofs.lemmas.Result.{on_ok_weaker}
use Rattle.snap_core.specs.Listing.{entry_of}
use Rattle.snap_report.specs.Reports.{array_line, listed_line}
use Rattle.snap_runs.specs.Reports.{names_of}
use Rattle.snap_runs.proofs.tail.put_end.Goals as goal

pub returns : goal.returns
returns c =
    let ls = c.in_ok-entries.entries.items in
    let before = c.args.out.now.items in
    on_ok_weaker c.put_rest.result (λ put s shows. (
      map entry_of ls,
      c.in_ok-entries.ensures s shows,
      put
          ∙ ap (λ es. before ++ (flat_map (listed_line (names_of c.arrays_of.result.now)) es ++ codes "end\n")) c.deref.ensures.value
          ∙ ap (λ a. before ++ (flat_map (listed_line (names_of a)) ls ++ codes "end\n")) c.arrays_of.ensures
          ∙ ap (λ l. before ++ (l ++ codes "end\n")) (sym (flat_map-map (array_line (names_of c.args.net.now.tables.arrays)) entry_of ls)),
    ))
    c.put_rest.ensures
