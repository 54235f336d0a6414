use Rattle.std.proofs.Common.{◌∙◌, sym}
use Rattle.std.proofs.lemmas.Result.{err_from_is_err_and}
use Rattle.clap.specs.Words.{found_of}
use Rattle.snap_words.specs.Said.{lent, said}
use Rattle.snap_words.specs.Words.{ArgumentsView}
use Rattle.snap_words.proofs.ClapTold.{Tells, checked-true, clap_err, told_from}
use Rattle.snap_words.proofs.told.read.Goals as goal
use Rattle.snap_words.proofs.Checked.{checked_bad}

pub returns-in_err-matches-clause-usage : goal.returns-in_err-matches-clause-usage
returns-in_err-matches-clause-usage c =
    let p = err_from_is_err_and c.from_residual.result c.from_residual.ensures.1 in
    rw (p.1, p.2) (λ usage. clap_err (lent c.args.words.now) c.requires (c.in_err-matches.ensures.usage usage))

pub returns-then-has_names-clause-ok : goal.returns-then-has_names-clause-ok
returns-then-has_names-clause-ok c =
    let t : ArgumentsView = said (record { hops = c.get_flag.result; ordered = c.get_flag-2.result; on_demand = c.get_flag-3.result; schedule = c.get_str.result; changes = c.get_str-2.result; workers = c.get_str-3.result; names = c.in_ok-names_in.field-0 }) in
    let tells : Tells (found_of c.in_ok-matches.matches) t = record {
      hops = (c.get_flag.ensures.value, c.get_flag.ensures.other);
      ordered = (c.get_flag-2.ensures.value, c.get_flag-2.ensures.other);
      on_demand = (c.get_flag-3.ensures.value, c.get_flag-3.ensures.other);
      schedule = c.get_str.ensures;
      changes = c.get_str-2.ensures;
      workers = c.get_str-3.ensures;
      names = c.in_ok-names_in.ensures;
    } in
    let same = told_from (lent c.args.words.now) (found_of c.in_ok-matches.matches) t c.requires c.in_ok-matches.ensures.ok.0 c.in_ok-matches.ensures.ok.1 tells in
    same ∙ checked-true t (sym c.has_names.ensures ∙ c.if-has_names.true)

pub returns-clause-usage : goal.returns-clause-usage
returns-clause-usage c = λ usage.
    let t : ArgumentsView = said (record { hops = c.get_flag.result; ordered = c.get_flag-2.result; on_demand = c.get_flag-3.result; schedule = c.get_str.result; changes = c.get_str-2.result; workers = c.get_str-3.result; names = c.in_ok-names_in.field-0 }) in
    let tells : Tells (found_of c.in_ok-matches.matches) t = record {
      hops = (c.get_flag.ensures.value, c.get_flag.ensures.other);
      ordered = (c.get_flag-2.ensures.value, c.get_flag-2.ensures.other);
      on_demand = (c.get_flag-3.ensures.value, c.get_flag-3.ensures.other);
      schedule = c.get_str.ensures;
      changes = c.get_str-2.ensures;
      workers = c.get_str-3.ensures;
      names = c.in_ok-names_in.ensures;
    } in
    let same = told_from (lent c.args.words.now) (found_of c.in_ok-matches.matches) t c.requires c.in_ok-matches.ensures.ok.0 c.in_ok-matches.ensures.ok.1 tells in
    same ∙ checked_bad t (sym c.has_names.ensures ∙ c.if-has_names.false)
