use Rattle.std.proofs.Common.{List, take}
use Rattle.snap_parse.specs.declared.tree.Policy.{out-Policy}
use Rattle.snap_parse.specs.declared.tree.Either.{out-Either}
use Rattle.snap_names.specs.Core.{CorePolicy, filter}
use Rattle.snap_names.specs.Parts.{AreBodies, itself, HaveRead, env_in}
use Rattle.snap_names.specs.Reading.{read_sequences, read_choices, read_boths, read_singles}
use Rattle.snap_names.proofs.Operands.{policies, sequences, eithers, boths, of}
use Rattle.snap_names.proofs.scope.Scope.+reader.Given as goal

-- the operands so far were read
abbrev pub invariant-policy-loop-part : goal.invariant-policy-loop-part
invariant-policy-loop-part l = (lets : List CorePolicy) → AreBodies l.self.lets.items lets →
    HaveRead itself (read_sequences (env_in l.self lets) (of (policies (out-Policy l.tree).at) (take l.part-index (out-Policy l.tree).parts.items)) l.fn.tally.arities.items) l.fn.tally l.tally l.parts

abbrev pub invariant-sequence-loop-part : goal.invariant-sequence-loop-part
invariant-sequence-loop-part l = (lets : List CorePolicy) → AreBodies l.self.lets.items lets →
    HaveRead itself (read_choices (env_in l.self lets) (of (sequences l.tree.at) (take l.part-index l.tree.parts.items)) l.fn.tally.arities.items) l.fn.tally l.tally l.parts

abbrev pub invariant-either-loop-part : goal.invariant-either-loop-part
invariant-either-loop-part l = (lets : List CorePolicy) → AreBodies l.self.lets.items lets →
    HaveRead filter (read_boths (env_in l.self lets) (of (eithers (out-Either l.tree).at) (take l.part-index (out-Either l.tree).parts.items)) l.fn.tally.arities.items) l.fn.tally l.tally l.parts

abbrev pub invariant-both-loop-part : goal.invariant-both-loop-part
invariant-both-loop-part l = (lets : List CorePolicy) → AreBodies l.self.lets.items lets →
    HaveRead filter (read_singles (env_in l.self lets) (of (boths l.tree.at) (take l.part-index l.tree.parts.items)) l.fn.tally.arities.items) l.fn.tally l.tally l.parts
