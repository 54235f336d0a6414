-- Runs with changes, one behind another, and their blocks.
use Rattle.std.proofs.Common.{◌≡◌, ℕ, ◌+◌, Bool, List, [], ◌∷◌, ◌++◌, length, refl, sym, ap, subst, ◌∙◌, arith, append_assoc, append-nil}
use Rattle.snap_rows.specs.declared.tables.Tables.{Tables}
use Rattle.snap_rows.specs.Network.{Net, RunsBy, done, on}
use Rattle.snap_rows.proofs.Runs.{runs-behind}
use Rattle.snap_runs.specs.Reports.{IsBlock}
use Rattle.snap_runs.specs.declared.later.Later.{Later}
use Rattle.snap_runs.specs.Changing.{AreBlocksFrom, Between, Passage, RunsThrough, TakesTurn, Turn, changes, goes}

-- with more packets behind
abbrev with : Between → List (List ℕ) → Between
with b ks = record b { packets = b.packets ++ ks }

more_behind : {a b : Between} {es : List Turn} {turns : List Passage} (ks : List (List ℕ)) → RunsBy TakesTurn a es b turns → RunsBy TakesTurn (with a ks) es (with b ks) turns
more_behind ks done = done
more_behind ks (on (changes due) rest) = on (changes due) (more_behind ks rest)
more_behind ks (on (goes ahead through) rest) = on (goes ahead through) (more_behind ks rest)

-- a run, and one from its end on
pub through-then : {end : Tables} {left : List Later} {last : Net} {t : Tables} {ls : List Later} {s : Net} {ks : List (List ℕ)} {turns : List Passage} (end' : Tables) (left' : List Later) (last' : Net) (ks' : List (List ℕ)) (turns' : List Passage)
    → RunsThrough end left last t ls s ks turns → RunsThrough end' left' last' end left last ks' turns' → RunsThrough end' left' last' t ls s (ks ++ ks') (turns ++ turns')
through-then end' left' last' ks' turns' run more = (run.0 ++ more.0, runs-behind (more_behind ks' run.1) more.1)

-- one block more
pub blocks-push : (hops : Bool) (i n : ℕ) (turns : List Passage) (x : Passage) (text block : List ℕ) → n ≡ i + length turns → AreBlocksFrom hops i turns text → IsBlock x.tables hops n x.happenings block → AreBlocksFrom hops i (turns ++ x ∷ []) (text ++ block)
blocks-push hops i n [] x text block e are is =
    let same : n ≡ i = e ∙ omega arith in
    (block, [], subst (λ m. IsBlock x.tables hops m x.happenings block) same is, refl, ap (λ l. l ++ block) are ∙ sym (append-nil block))
blocks-push hops i n (y ∷ ys) x text block e are is =
    let next : n ≡ i + 1 + length ys = e ∙ omega arith in
    (are.0, are.1 ++ block, are.2, blocks-push hops (i + 1) n ys x are.1 block next are.3 is, ap (λ l. l ++ block) are.4 ∙ append_assoc are.0 are.1 block)
