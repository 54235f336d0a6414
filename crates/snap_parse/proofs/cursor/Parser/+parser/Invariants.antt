use Rattle.std.proofs.Common.{◌≡◌, ◌+◌, ◌*◌, ◌≤◌, length, map}
use Rattle.snap_parse.specs.declared.cursor.TheConstants.{MAX_DEPTH}
use Rattle.snap_parse.specs.Tree.{policy_append, policy_begin, sequence_append, sequence_begin, either_append, either_begin, both_append, both_begin, sequence_tree, choice_tree, both_tree, single_tree}
use Rattle.snap_parse.specs.Machine.{AfterPolicy, AfterSequence, AfterEither, AfterBoth, policy_depth, sequence_depth, either_depth, both_depth, at_policy, at_sequence, at_choice, at_either, at_both, at_single, part_of_policy, part_of_sequence, part_of_either, part_of_both, run}
use Rattle.snap_parse.proofs.cursor.Parser.+parser.Given as goal

abbrev pub decreases-policy : goal.decreases-policy
decreases-policy l = 8 * length l.tokens.now + 7

abbrev pub decreases-sequence : goal.decreases-sequence
decreases-sequence l = 8 * length l.tokens.now + 6

abbrev pub decreases-choice : goal.decreases-choice
decreases-choice l = 8 * length l.tokens.now + 5

abbrev pub decreases-either : goal.decreases-either
decreases-either l = 8 * length l.tokens.now + 4

abbrev pub decreases-both : goal.decreases-both
decreases-both l = 8 * length l.tokens.now + 3

abbrev pub decreases-single : goal.decreases-single
decreases-single l = 8 * length l.tokens.now + 2

abbrev pub decreases-branches : goal.decreases-branches
decreases-branches l = 8 * length l.tokens.now + 8

abbrev pub decreases-negation : goal.decreases-negation
decreases-negation l = 8 * length l.tokens.now + 8

abbrev pub decreases-enclosed : goal.decreases-enclosed
decreases-enclosed l = 8 * length l.tokens.now + 8

abbrev pub invariant-policy-parts : goal.invariant-policy-parts
invariant-policy-parts l = record {
  shorter : length l.rest ≤ length l.tokens;
  reads : (k : AfterPolicy) → policy_depth k ≡ l.depth →
      run MAX_DEPTH l.self.end (at_policy k) l.tokens
      ≡ run MAX_DEPTH l.self.end (at_sequence (part_of_policy (policy_append (policy_begin l.at) (map sequence_tree l.parts.items)) k)) l.rest;
}

abbrev pub decreases-policy-parts : goal.decreases-policy-parts
decreases-policy-parts l = length l.rest

abbrev pub invariant-sequence-parts : goal.invariant-sequence-parts
invariant-sequence-parts l = record {
  shorter : length l.rest ≤ length l.tokens;
  reads : (k : AfterSequence) → sequence_depth k ≡ l.depth →
      run MAX_DEPTH l.self.end (at_sequence k) l.tokens
      ≡ run MAX_DEPTH l.self.end (at_choice (part_of_sequence (sequence_append (sequence_begin l.at) (map choice_tree l.parts.items)) k)) l.rest;
}

abbrev pub decreases-sequence-parts : goal.decreases-sequence-parts
decreases-sequence-parts l = length l.rest

abbrev pub invariant-either-parts : goal.invariant-either-parts
invariant-either-parts l = record {
  shorter : length l.rest ≤ length l.tokens;
  reads : (k : AfterEither) → either_depth k ≡ l.depth →
      run MAX_DEPTH l.self.end (at_either k) l.tokens
      ≡ run MAX_DEPTH l.self.end (at_both (part_of_either (either_append (either_begin l.at) (map both_tree l.parts.items)) k)) l.rest;
}

abbrev pub decreases-either-parts : goal.decreases-either-parts
decreases-either-parts l = length l.rest

abbrev pub invariant-both-parts : goal.invariant-both-parts
invariant-both-parts l = record {
  shorter : length l.rest ≤ length l.tokens;
  reads : (k : AfterBoth) → both_depth k ≡ l.depth →
      run MAX_DEPTH l.self.end (at_both k) l.tokens
      ≡ run MAX_DEPTH l.self.end (at_single (part_of_both (both_append (both_begin l.at) (map single_tree l.parts.items)) k)) l.rest;
}

abbrev pub decreases-both-parts : goal.decreases-both-parts
decreases-both-parts l = length l.rest
