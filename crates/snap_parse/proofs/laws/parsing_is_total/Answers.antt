use Rattle.std.proofs.Common.{◌≡◌, ℕ, List, [], ◌∷◌, Bool, true, false, cond, Result, Ok, Err, refl, nat_le}
use Rattle.snap_parse.specs.Kinds.{Token}
use Rattle.snap_parse.specs.Machine.{ParseFault, Unexpected, TooDeep, at_decl, state_depth, Move, go, done, stuck, front, step, follow, run}
use Rattle.snap_parse.specs.declared.fault.ParseFault.TheVariants.{NoMemory}
use Rattle.snap_parse.specs.Tree.{SourceTree}
use Rattle.snap_parse.specs.Laws.{Yields}
use Rattle.snap_parse.proofs.Exact.{ok_derives, unexpected_tells, too_deep_tells}
use Rattle.snap_parse.proofs.laws.parsing_is_total.Goals as goal

short_go : (x : Result SourceTree ParseFault) (at : ℕ) (b : Bool) → (x ≡ Err NoMemory → ⊥) → cond b x (Err (TooDeep at)) ≡ Err NoMemory → ⊥
short_go x at true never e = never e
short_go x at false never e = absurd (cc)

-- the machine never wants memory
never_short : (limit end : ℕ) (ts : List Token) (m : Move) → follow limit end m ts ≡ Err NoMemory → ⊥
unfolding follow
never_short limit end [] (go st) e = absurd (cc)
never_short limit end [] stuck e = absurd (cc)
never_short limit end (t ∷ ts) (go st) e = short_go (run limit end st ts) t.from (nat_le (state_depth st) limit) (never_short limit end ts (step st (front ts))) e
never_short limit end (t ∷ ts) stuck e = absurd (cc)
never_short limit end [] (done p) e = absurd (cc)
never_short limit end (t ∷ ts) (done p) e = absurd (cc)

yielded : (limit end : ℕ) (ts : List Token) (a : Result SourceTree ParseFault) → run limit end (at_decl []) ts ≡ a → (b : Result SourceTree ParseFault) × Yields limit end ts b
yielded limit end ts (Ok s) e = (Ok s, ok_derives limit end ts s e)
yielded limit end ts (Err (Unexpected at)) e = (Err (Unexpected at), unexpected_tells limit end ts at e)
yielded limit end ts (Err (TooDeep at)) e = (Err (TooDeep at), too_deep_tells limit end ts at e)
yielded limit end ts (Err NoMemory) e = absurd (never_short limit end ts (step (at_decl []) (front ts)) e)

pub returns : goal.returns
returns c = λ limit end ts. yielded limit end ts (run limit end (at_decl []) ts) refl
