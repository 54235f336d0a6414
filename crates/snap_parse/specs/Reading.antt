-- What a function of the parser does, in the words of the machine, whatever is open around it.
use Rattle.std.specs.Prelude.{◌≡◌, ◌≢◌, ℕ, ◌+◌, ◌<◌, ◌≤◌, List, [], ◌∷◌, ◌++◌, length, Option, Some, None, Result, Ok, Err, Vec}
use Rattle.std.specs.Borrow.{Bor}
use Rattle.std.specs.declared.alloc.Global.{Global}
use Rattle.snap_lex.specs.declared.Token.{Token}
use Rattle.snap_lex.specs.declared.Kind.{Kind}
use Rattle.snap_parse.specs.declared.tree.Span.{Span}
use Rattle.snap_parse.specs.declared.tree.Literal.{Literal}
use Rattle.snap_parse.specs.declared.tree.Value.{Value}
use Rattle.snap_parse.specs.declared.tree.Source.{Source}
use Rattle.snap_parse.specs.declared.tree.Decl.{Decl}
use Rattle.snap_parse.specs.declared.tree.Policy.{Policy}
use Rattle.snap_parse.specs.declared.tree.Sequence.{Sequence}
use Rattle.snap_parse.specs.declared.tree.Choice.{Choice}
use Rattle.snap_parse.specs.declared.tree.Either.{Either}
use Rattle.snap_parse.specs.declared.tree.Both.{Both}
use Rattle.snap_parse.specs.declared.tree.Single.{Single}
use Rattle.snap_parse.specs.declared.fault.ParseFault.{ParseFault}
use Rattle.snap_parse.specs.declared.fault.ParseFault.TheVariants.{Unexpected, TooDeep, NoMemory}
use Rattle.snap_parse.specs.Tree.{PolicyTree, DeclTree, SourceTree, policy_tree, sequence_tree, choice_tree, either_tree, both_tree, single_tree, decl_tree, source_tree, span_of}
use Rattle.snap_parse.specs.Machine.{AfterPolicy, the_end, AfterSequence, AfterChoice, then_part, AfterEither, AfterBoth, AfterSingle, end_of_not, AfterValue, close_place, policy_depth, sequence_depth, choice_depth, either_depth, both_depth, single_depth, value_depth, State, at_decl, at_policy, at_sequence, at_choice, at_either, at_both, at_single, at_value, past_address, past_value, past_name, past_single, past_both, past_either, past_choice, past_sequence, past_policy, state_depth, Move, go, stuck, front, on_next, placed, literal_of, step, follow, run, place}

-- the machine refuses so too, unless memory ran out
abbrev pub Refuses : ParseFault → Result SourceTree ParseFault → Type 0
Refuses (Unexpected at) r = r ≡ Err (Unexpected at)
Refuses (TooDeep at) r = r ≡ Err (TooDeep at)
Refuses NoMemory r = Unit {0}

-- The move on all the tokens comes to the same as what was read and the tokens behind it, or the refusal is the machine's.
abbrev pub Comes : {X : Type 0} → ℕ → ℕ → Move → List Token → (X → State) → Result (X × Bor (List Token)) ParseFault → Type 0
Comes limit end m ts past (Ok x) = follow limit end m ts ≡ run limit end (past x.0) (x.1).now
Comes limit end m ts past (Err e) = Refuses e (follow limit end m ts)

-- so from a state
abbrev pub Reads : {X : Type 0} → ℕ → ℕ → State → List Token → (X → State) → Result (X × Bor (List Token)) ParseFault → Type 0
Reads limit end st ts past r = Comes limit end (step st (front ts)) ts past r

abbrev pub ReadsPolicy : ℕ → ℕ → ℕ → List Token → Result (Policy × Bor (List Token)) ParseFault → Type 0
ReadsPolicy limit end depth ts r = (k : AfterPolicy) → policy_depth k ≡ depth
    → Reads limit end (at_policy k) ts (λ p. past_policy (policy_tree p) k) r

abbrev pub ReadsSequence : ℕ → ℕ → ℕ → List Token → Result (Sequence × Bor (List Token)) ParseFault → Type 0
ReadsSequence limit end depth ts r = (k : AfterSequence) → sequence_depth k ≡ depth
    → Reads limit end (at_sequence k) ts (λ s. past_sequence (sequence_tree s) k) r

abbrev pub ReadsChoice : ℕ → ℕ → ℕ → List Token → Result (Choice × Bor (List Token)) ParseFault → Type 0
ReadsChoice limit end depth ts r = (k : AfterChoice) → choice_depth k ≡ depth
    → Reads limit end (at_choice k) ts (λ c. past_choice (choice_tree c) k) r

abbrev pub ReadsEither : ℕ → ℕ → ℕ → List Token → Result (Either × Bor (List Token)) ParseFault → Type 0
ReadsEither limit end depth ts r = (k : AfterEither) → either_depth k ≡ depth
    → Reads limit end (at_either k) ts (λ e. past_either (either_tree e) k) r

abbrev pub ReadsBoth : ℕ → ℕ → ℕ → List Token → Result (Both × Bor (List Token)) ParseFault → Type 0
ReadsBoth limit end depth ts r = (k : AfterBoth) → both_depth k ≡ depth → Reads limit end (at_both k) ts (λ b. past_both (both_tree b) k) r

abbrev pub ReadsSingle : ℕ → ℕ → ℕ → List Token → Result (Single × Bor (List Token)) ParseFault → Type 0
ReadsSingle limit end depth ts r = (k : AfterSingle) → single_depth k ≡ depth
    → Reads limit end (at_single k) ts (λ s. past_single (single_tree s) k) r

-- behind the `if` at `at`
abbrev pub ReadsBranches : ℕ → ℕ → ℕ → ℕ → List Token → Result (Choice × Bor (List Token)) ParseFault → Type 0
ReadsBranches limit end at depth ts r = (k : AfterChoice) (t : Token) → choice_depth k ≡ depth → t.from ≡ at →
    Comes limit end (go (at_either (then_part at k))) (t ∷ ts) (λ c. past_choice (choice_tree c) k) r

-- behind the `!` at `at`
abbrev pub ReadsNegation : ℕ → ℕ → ℕ → ℕ → List Token → Result (Single × Bor (List Token)) ParseFault → Type 0
ReadsNegation limit end at depth ts r = (k : AfterSingle) (t : Token) → single_depth k ≡ depth → t.from ≡ at →
    Comes limit end (go (at_single (end_of_not at k))) (t ∷ ts) (λ s. past_single (single_tree s) k) r

-- behind a bracket at `at`, up to one of this kind, which leads to the next state
abbrev pub ReadsEnclosed : ℕ → ℕ → ℕ → Kind → ℕ → List Token → Result (Policy × Bor (List Token)) ParseFault → Type 0
ReadsEnclosed limit end at close depth ts r = (k : AfterPolicy) (next : PolicyTree → State) (t : Token)
    → policy_depth k ≡ depth + 1 → t.from ≡ at →
    ((p : PolicyTree) (ts : List Token) → step (past_policy p k) (front ts) ≡ on_next close (front ts) (next p) stuck) →
    ((p : PolicyTree) → state_depth (next p) ≤ limit) →
    Comes limit end (go (at_policy k)) (t ∷ ts) (λ p. next (policy_tree p)) r

-- behind a name
abbrev pub ReadsNamed : ℕ → ℕ → Span → List Token → Result (Single × Bor (List Token)) ParseFault → Type 0
ReadsNamed limit end name ts r = (k : AfterSingle) → single_depth k ≤ limit
    → Reads limit end (past_name name k) ts (λ s. past_single (single_tree s) k) r

-- behind a name and its places
abbrev pub ReadsPlaced : ℕ → ℕ → Span → List Value → List Token → Result (Single × Bor (List Token)) ParseFault → Type 0
ReadsPlaced limit end name vs ts r = (k : AfterSingle) → single_depth k ≤ limit →
    Comes limit end (placed name vs k (front ts)) ts (λ s. past_single (single_tree s) k) r

-- behind a name's first `[`, up to what is no place any more
abbrev pub ReadsPlaces : ℕ → ℕ → List Token → Result (Vec Value Global × Bor (List Token)) ParseFault → Type 0
ReadsPlaces limit end ts (Ok x) = (name : Span) (k : AfterSingle) → single_depth k ≤ limit →
    run limit end (at_value (close_place name [] k)) ts ≡ follow limit end (placed name (x.0).items k (front (x.1).now)) (x.1).now
ReadsPlaces limit end ts (Err e) = (name : Span) (k : AfterSingle)
    → single_depth k ≤ limit → Refuses e (run limit end (at_value (close_place name [] k)) ts)

abbrev pub ReadsValue : ℕ → ℕ → List Token → Result (Value × Bor (List Token)) ParseFault → Type 0
ReadsValue limit end ts r = (k : AfterValue) → value_depth k ≤ limit → Reads limit end (at_value k) ts (λ v. past_value v k) r

-- behind an address
abbrev pub ReadsAddress : ℕ → ℕ → Span → List Token → Result (Value × Bor (List Token)) ParseFault → Type 0
ReadsAddress limit end address ts r = (k : AfterValue) → value_depth k ≤ limit
    → Reads limit end (past_address address k) ts (λ v. past_value v k) r

-- behind the keyword of a declaration
abbrev pub ReadsDecl : ℕ → ℕ → (List DeclTree → State) → List Token → Result (Decl × Bor (List Token)) ParseFault → Type 0
ReadsDecl limit end from ts r = (ds : List DeclTree) → Reads limit end (from ds) ts (λ d. at_decl (ds ++ decl_tree d ∷ [])) r

-- a declaration, or none where the policy begins
abbrev pub ReadsDeclaration : ℕ → ℕ → List Token → Result (Option (Decl × Bor (List Token))) ParseFault → Type 0
ReadsDeclaration limit end ts (Ok (Some x)) = (ds : List DeclTree)
    → run limit end (at_decl ds) ts ≡ run limit end (at_decl (ds ++ decl_tree x.0 ∷ [])) (x.1).now
ReadsDeclaration limit end ts (Ok None) = (ds : List DeclTree) → run limit end (at_decl ds) ts ≡ run limit end (at_policy (the_end ds)) ts
ReadsDeclaration limit end ts (Err e) = (ds : List DeclTree) → Refuses e (run limit end (at_decl ds) ts)

-- fewer tokens are left
abbrev pub Shortens : {X : Type 0} → List Token → Result (X × Bor (List Token)) ParseFault → Type 0
Shortens ts (Ok x) = length (x.1).now < length ts
Shortens ts (Err e) = Unit {0}

-- no more tokens are left
abbrev pub KeepsOrShortens : {X : Type 0} → List Token → Result (X × Bor (List Token)) ParseFault → Type 0
KeepsOrShortens ts (Ok x) = length (x.1).now ≤ length ts
KeepsOrShortens ts (Err e) = Unit {0}

abbrev pub ShortensIfSome : {X : Type 0} → List Token → Result (Option (X × Bor (List Token))) ParseFault → Type 0
ShortensIfSome ts (Ok (Some x)) = length (x.1).now < length ts
ShortensIfSome ts (Ok None) = Unit {0}
ShortensIfSome ts (Err e) = Unit {0}

-- no token of this kind comes next
abbrev pub Lacks : Kind → List Token → Type 0
Lacks kind ts = (t : Token) (rest : List Token) → ts ≡ t ∷ rest → t.kind ≢ kind

-- the next token, which is of this kind, and those behind it; or where another stands, or the end
abbrev pub ReadsKind : ℕ → Kind → List Token → Result (Token × Bor (List Token)) ParseFault → Type 0
ReadsKind end kind ts (Ok x) = (ts ≡ x.0 ∷ (x.1).now) × ((x.0).kind ≡ kind)
ReadsKind end kind ts (Err e) = (e ≡ Unexpected (place end ts)) × Lacks kind ts

-- the next token, if it's of this kind, and those behind it
abbrev pub IsNextIf : Kind → List Token → Option (Token × Bor (List Token)) → Type 0
IsNextIf kind ts (Some x) = (ts ≡ x.0 ∷ (x.1).now) × ((x.0).kind ≡ kind)
IsNextIf kind ts None = Lacks kind ts

-- a literal, and the tokens behind it; or where none stands
abbrev pub ReadsLiteral : ℕ → List Token → Result (Literal × Bor (List Token)) ParseFault → Type 0
ReadsLiteral end ts (Ok x) = (t : Token) × (ts ≡ t ∷ (x.1).now) × (literal_of t.kind (span_of t) ≡ Some x.0)
ReadsLiteral end ts (Err e) = (e ≡ Unexpected (place end ts))
    × ((t : Token) (rest : List Token) → ts ≡ t ∷ rest → literal_of t.kind (span_of t) ≡ None)

-- the answer is the machine's
abbrev pub Answers : Result Source ParseFault → Result SourceTree ParseFault → Type 0
Answers (Ok s) r = r ≡ Ok (source_tree s)
Answers (Err e) r = Refuses e r
