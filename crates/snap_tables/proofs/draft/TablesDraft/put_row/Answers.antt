use Rattle.std.proofs.Common.{[], ◌∷◌, ◌++◌, get_or, refl, sym, ap, subst, ◌∙◌}
use Rattle.std.proofs.lemmas.Option.{slice_get-get_or}
use Rattle.std.proofs.lemmas.Result.{IfOk-weaker}
use Rattle.snap_tables.specs.Drafts.{tables_of}
use Rattle.snap_tables.specs.Known.{IsBody, body_said}
use Rattle.snap_tables.proofs.Remembered.{none}
use Rattle.snap_tables.proofs.draft.TablesDraft.put_row.Goals as goal

pub push_as-requires : goal.push_as-requires
push_as-requires c = subst (IsBody c.args.self.now.rows) c.in-Same.is c.requires.placed

pub returns-in-Own : goal.returns-in-Own
returns-in-Own c =
    let d = c.args.self.now in
    let k = c.requires.kept in
    let r = c.args.row in
    IfOk-weaker c.push.result _ _ (λ u is. record {
      tables = ap (λ rs. record (tables_of d) { rows = rs }) (is ∙ ap (λ b. d.rows ++ record { at = r.at; number = r.number; row = body_said d.rows b } ∷ []) (sym c.in-Own.is));
      count = refl;
      kept = λ e. record { comps = k.comps; names = k.names; few_comps = k.few_comps; few_switches = k.few_switches; few_arrays = k.few_arrays };
    }) c.push.ensures

pub returns-in-Same : goal.returns-in-Same
returns-in-Same c =
    let d = c.args.self.now in
    let k = c.requires.kept in
    let r = c.args.row in
    let i = c.in-Same.place in
    let there = slice_get-get_or d.rows i none (subst (IsBody d.rows) c.in-Same.is c.requires.placed) in
    IfOk-weaker c.push_as.result _ _ (λ u same. record {
      tables = ap (λ rs. record (tables_of d) { rows = rs }) (same (get_or d.rows i none) there ∙ ap (λ b. d.rows ++ record { at = r.at; number = r.number; row = body_said d.rows b } ∷ []) (sym c.in-Same.is));
      count = refl;
      kept = λ e. record { comps = k.comps; names = k.names; few_comps = k.few_comps; few_switches = k.few_switches; few_arrays = k.few_arrays };
    }) c.push_as.ensures
