use Rattle.std.proofs.Common.{[], ◌∷◌, ◌++◌, sym, subst}
use Rattle.std.proofs.lemmas.Option.{MatchOption-at_some}
use Rattle.snap_tables.specs.Known.{IsSaidAt}
use Rattle.snap_tables.specs.Reading.{words_left}
use Rattle.snap_tables.specs.Rows.{IsRowSaid}
use Rattle.snap_tables.proofs.Remembered.{said_last, said_more}
use Rattle.snap_tables.proofs.known.Known.body_of.Goals as goal

pub returns-in-Some-clause-said : goal.returns-in-Some-clause-said
returns-in-Some-clause-said c = let d = c.args.draft.now in (c.in-Some.ensures d.version c.args.counts d.arrays.items d.rows c.requires).said

pub returns-in-Some-clause-placed : goal.returns-in-Some-clause-placed
returns-in-Some-clause-placed c = let d = c.args.draft.now in (c.in-Some.ensures d.version c.args.counts d.arrays.items d.rows c.requires).placed

pub returns-in-Some-clause-known : goal.returns-in-Some-clause-known
returns-in-Some-clause-known c = let d = c.args.draft.now in λ r is. said_more d.version c.args.counts d.arrays.items d.rows (r ∷ []) c.args.self.now.rows.items c.requires

pub returns-clause-said : goal.returns-clause-said
returns-clause-said c =
    let d = c.args.draft.now in
    subst (λ ranked. IsRowSaid d.version c.args.counts ranked (words_left c.args.rest) c.in-Some-2.row) c.deref.ensures.value (MatchOption-at_some _ _ _ c.in-Some-2.is c.in_ok-row.ensures)

pub returns-clause-known : goal.returns-clause-known
returns-clause-known c =
    let d = c.args.draft.now in
    let words = words_left c.args.rest in
    let own = subst (λ ranked. IsRowSaid d.version c.args.counts ranked words c.in-Some-2.row) c.deref.ensures.value (MatchOption-at_some _ _ _ c.in-Some-2.is c.in_ok-row.ensures) in
    λ r is. c.in_ok-remember.ensures d.version c.args.counts d.arrays.items (d.rows ++ r ∷ [])
    (said_more d.version c.args.counts d.arrays.items d.rows (r ∷ []) c.args.self.now.rows.items c.requires)
    (subst (IsSaidAt d.version c.args.counts d.arrays.items (d.rows ++ r ∷ []) words) (sym c.len.ensures)
    (said_last d.version c.args.counts d.arrays.items d.rows words r (subst (IsRowSaid d.version c.args.counts d.arrays.items words) (sym is) own)))
