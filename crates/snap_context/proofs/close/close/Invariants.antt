-- The classes so far follow from the facts and the first classes.
use Rattle.std.proofs.Common.{length}
use Rattle.std.specs.Prelude.{All, MatchResult}
use Rattle.snap_context.specs.Classes.{IsClass}
use Rattle.snap_context.specs.Closing.{Keeps, MeetsWith, AllRules, IsBreach}
use Rattle.snap_context.proofs.Merging.{roots}
use Rattle.snap_context.proofs.close.close.Given as goal

abbrev pub invariant-closing : goal.invariant-closing
invariant-closing l =
    All (IsClass l.classes) l.classes × Keeps (MeetsWith l.fact l.facts) l.initial.classes l.classes
    × MatchResult l.found (λ _. AllRules l.classes l.facts l.fact) (IsBreach (MeetsWith l.fact l.facts) l.classes)

abbrev pub decreases-closing : goal.decreases-closing
decreases-closing l = roots l.classes (length l.classes)
