use Rattle.std.proofs.Common.{◌≡◌, ◌∙◌, ap, [], List, codes, unwrap_or, Option, Some, None, option_map}
use Rattle.std.proofs.lemmas.Result.{IfOk-weaker}
use Rattle.clap.specs.Words.{Text, all_of, found_of, matched_of, raw_values, rows_of}
use Rattle.clap.specs.declared.parser.matches.Found.{Found}
use Rattle.clap.proofs.WalkLemmas.{raw_values-rows}
use Rattle.snap_words.specs.Said.{lent}
use Rattle.snap_words.proofs.told.names_in.Goals as goal

-- what `get_raw` answers is in the rows
found : (f : Found) (o : Option (List Text)) → o ≡ option_map raw_values (matched_of f (codes "name")) → unwrap_or o [] ≡ unwrap_or (all_of (codes "name") (rows_of f)) []
found f o is = ap (λ names. unwrap_or names []) (is ∙ raw_values-rows f (codes "name"))

pub returns-in-Some : goal.returns-in-Some
returns-in-Some c =
    let all = found (found_of c.args.matches.now) (Some (lent c.in-Some.names.now)) c.in-Some.ensures in
    IfOk-weaker c.from_slice.result _ _ (λ v items. ap lent items ∙ all) c.from_slice.ensures.items

pub returns-in-None : goal.returns-in-None
returns-in-None c = ap lent c.new.ensures.items ∙ found (found_of c.args.matches.now) None c.in-None.ensures
