use Rattle.std.proofs.Common.{◌≡◌, ℕ, List, [], Result, Ok, Err}
use Rattle.snap_parse.specs.Kinds.{Token}
use Rattle.snap_parse.specs.Machine.{ParseFault, Unexpected, TooDeep, at_decl, run}
use Rattle.snap_parse.specs.declared.fault.ParseFault.TheVariants.{NoMemory}
use Rattle.snap_parse.specs.Tree.{SourceTree}
use Rattle.snap_parse.specs.Laws.{Yields}
use Rattle.snap_parse.proofs.Exact.{derives_ok, unexpected_gives, too_deep_gives}
use Rattle.snap_parse.proofs.laws.parsing_is_deterministic.Goals as goal

-- it is what the machine answers
answered : (limit end : ℕ) (ts : List Token) (a : Result SourceTree ParseFault) → Yields limit end ts a → run limit end (at_decl []) ts ≡ a
answered limit end ts (Ok s) h = derives_ok limit end ts s h
answered limit end ts (Err (Unexpected at)) h = unexpected_gives limit end ts at h
answered limit end ts (Err (TooDeep at)) h = too_deep_gives limit end ts at h
answered limit end ts (Err NoMemory) h = absurd h

pub returns : goal.returns
returns c = λ limit end ts a b h k. let x = answered limit end ts a h in let y = answered limit end ts b k in cc
