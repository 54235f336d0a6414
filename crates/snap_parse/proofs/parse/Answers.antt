use Rattle.snap_parse.specs.declared.cursor.TheConstants.{MAX_DEPTH}
use Rattle.snap_parse.proofs.Told.{told_ok, told_only, told_unexpected, told_too_deep, told_unexpected_comes, told_too_deep_comes}
use Rattle.snap_parse.proofs.parse.Goals as goal

pub returns : goal.returns
returns c =
    let ts = c.args.tokens.now in
    let r = c.program.result in
    record {
      ok = told_ok MAX_DEPTH _ ts r c.program.ensures;
      only = told_only MAX_DEPTH _ ts r c.program.ensures;
      unexpected = told_unexpected MAX_DEPTH _ ts r c.program.ensures;
      too_deep = told_too_deep MAX_DEPTH _ ts r c.program.ensures;
      unexpected_comes = told_unexpected_comes MAX_DEPTH _ ts r c.program.ensures;
      too_deep_comes = told_too_deep_comes MAX_DEPTH _ ts r c.program.ensures;
    }
