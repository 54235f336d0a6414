-- A text spells one program at most, or is refused for one reason.
use Rattle.std.proofs.Common.{◌≡◌, ◌<◌, ℕ, List, length, Result, Ok, Err, refl, sym, ◌∙◌, ap, subst, inl, inr, arith}
use Rattle.snap_core.specs.declared.program.Which.TheVariants.{Bytes}
use Rattle.snap_lex.specs.declared.Token.{Token}
use Rattle.snap_lex.specs.declared.LexFault.{LexFault}
use Rattle.snap_lex.specs.declared.LexFault.TheVariants as lex
use Rattle.snap_lex.specs.Lexemes.{SpellsTokens}
use Rattle.snap_lex.specs.Laws.{Finds, FindsOnce}
use Rattle.snap_parse.specs.Tree.{SourceTree}
use Rattle.snap_parse.specs.Grammar.{DerivesWithin}
use Rattle.snap_parse.specs.declared.fault.ParseFault.{ParseFault}
use Rattle.snap_parse.specs.declared.fault.ParseFault.TheVariants as tree
use Rattle.snap_parse.specs.Laws.{Yields, YieldsOnce}
use Rattle.snap_names.specs.declared.fault.NameFault.{NameFault}
use Rattle.snap_names.specs.declared.fault.NameFault.TheVariants as name
use Rattle.snap_names.specs.Declarations.{CoreProgram, resolved}
use Rattle.snap_cli.specs.declared.refusal.Refusal.TheVariants.{Syntax, Naming}
use Rattle.snap_cli.specs.declared.refusal.SyntaxFault.TheVariants.{BadByte, BadNumber, UnexpectedToken, TooDeep}
use Rattle.snap_cli.specs.declared.refusal.NamingFault.{NamingFault}
use Rattle.snap_cli.specs.declared.refusal.NamingFault.TheVariants.{UnknownName}
use Rattle.snap_cli.specs.Laws.{IsSame}
use Rattle.snap_cli.specs.ProgramOf.{ReadsAs, IsShort, naming_at}
use Rattle.snap_cli.specs.Spots.{spot_of}
use Rattle.snap_cli.specs.Steps.{refusal_of_names, refusal_of_tokens, refusal_of_tree}
use Rattle.snap_cli.proofs.Shared.{core_program, Limit, Program, ProgramOf, Refusal}

-- how far the reading of a text comes
data Reading : Type 0 where
  long : Reading
  lexed : LexFault → Reading
  parsed : ParseFault → Reading
  named : Result CoreProgram NameFault → Reading

abbrev Comes : List ℕ → Reading → Type 0
Comes text long = 262144 < length text
Comes text (lexed fault) = IsShort text × Finds text (Err fault)
Comes text (parsed fault) = IsShort text × ((ts : List Token) × SpellsTokens text ts × Yields 128 (length text) ts (Err fault))
Comes text (named reading) = IsShort text × ReadsAs text reading

-- what such a reading gives
abbrev Gives : List ℕ → Reading → Result Program Refusal → Type 0
Gives text long (Err e) = e ≡ Limit Bytes 262145
Gives text (lexed fault) (Err e) = e ≡ refusal_of_tokens text fault
Gives text (parsed fault) (Err e) = e ≡ refusal_of_tree text fault
Gives text (named (Ok core)) (Ok program) = core ≡ core_program program
Gives text (named (Err fault)) (Err e) = e ≡ refusal_of_names text fault
Gives text reading r = ⊥

named_so : (text : List ℕ) (fault : NamingFault) (at : ℕ) → Naming fault (spot_of text at) ≡ refusal_of_names text (naming_at fault at)
named_so text UnknownName at = refl
named_so text fault at = refl

-- each result comes of a reading
reading : (text : List ℕ) (r : Result Program Refusal) → ProgramOf text r → (x : Reading) × Comes text x × Gives text x r
reading text (Ok program) h = (named (Ok (core_program program)), (h.0, h.1), refl)
reading text (Err (Syntax BadByte spot)) h = (lexed (lex.BadByte h.0), (h.1, h.2), ap (λ s. Syntax BadByte s) h.3)
reading text (Err (Syntax BadNumber spot)) h = (lexed (lex.BadNumber h.0), (h.1, h.2), ap (λ s. Syntax BadNumber s) h.3)
reading text (Err (Syntax UnexpectedToken spot)) h = (parsed (tree.Unexpected h.1), (h.2, (h.0, h.3, h.4)), ap (λ s. Syntax UnexpectedToken s) h.5)
reading text (Err (Syntax TooDeep spot)) h = (parsed (tree.TooDeep h.1), (h.2, (h.0, h.3, h.4)), ap (λ s. Syntax TooDeep s) h.5)
reading text (Err (Naming fault spot)) h = (named (Err (naming_at fault h.0)), (h.1, h.2), ap (λ s. Naming fault s) h.3 ∙ named_so text fault h.0)
reading text (Err (Limit which count)) (inl h) = (long, h.2, cc)
reading text (Err (Limit which count)) (inr h) = (named (Err (name.Limit which count)), h, refl)
reading text (Err e) h = absurd h

-- readings of one kind give the same
gives_once : (text : List ℕ) (x : Reading) (a b : Result Program Refusal) → Gives text x a → Gives text x b → IsSame a b
gives_once text long (Err e) (Err f) h k = h ∙ sym k
gives_once text (lexed fault) (Err e) (Err f) h k = h ∙ sym k
gives_once text (parsed fault) (Err e) (Err f) h k = h ∙ sym k
gives_once text (named (Ok core)) (Ok p) (Ok q) h k = sym h ∙ k
gives_once text (named (Err fault)) (Err e) (Err f) h k = h ∙ sym k
gives_once text x a b h k = absurd search

module _ (finds : FindsOnce) (yields : YieldsOnce) (text : List ℕ) where
  one_spelling : (ts us : List Token) → SpellsTokens text ts → SpellsTokens text us → ts ≡ us
  one_spelling ts us h k = let e = finds text (Ok ts) (Ok us) h k in cc

  spelled_well : (ts : List Token) (fault : LexFault) → SpellsTokens text ts → Finds text (Err fault) → ⊥
  spelled_well ts fault h k = let e = finds text (Ok ts) (Err fault) h k in absurd (cc)

  one_yield : (ts us : List Token) (a b : Result SourceTree ParseFault) → SpellsTokens text ts → SpellsTokens text us
      → Yields 128 (length text) ts a → Yields 128 (length text) us b → a ≡ b
  one_yield ts us a b s t h k = yields 128 (length text) us a b (subst (λ x. Yields 128 (length text) x a) (one_spelling ts us s t) h) k

  one_reading : (a b : Result CoreProgram NameFault) → ReadsAs text a → ReadsAs text b → a ≡ b
  one_reading a b h k =
      let e = one_yield h.0 k.0 (Ok h.1) (Ok k.1) h.2 k.2 h.3 k.3 in
      let same : h.1 ≡ k.1 = cc in
      sym h.4 ∙ (ap (λ s. resolved text s) same ∙ k.4)

  one_refusal : (f g : ParseFault) (ts us : List Token) → SpellsTokens text ts → SpellsTokens text us
      → Yields 128 (length text) ts (Err f) → Yields 128 (length text) us (Err g) → f ≡ g
  one_refusal f g ts us s t h k = let e = one_yield ts us (Err f) (Err g) s t h k in cc

  derived_well : (ts us : List Token) (p : SourceTree) (f : ParseFault) → SpellsTokens text ts → SpellsTokens text us
      → DerivesWithin 128 ts p → Yields 128 (length text) us (Err f) → ⊥
  derived_well ts us p f s t h k = let e = one_yield ts us (Ok p) (Err f) s t h k in absurd (cc)

  comes_once : (x y : Reading) → Comes text x → Comes text y → x ≡ y
  comes_once long long h k = refl
  comes_once long y h k = absurd (omega (arith, k.0))
  comes_once x long h k = absurd (omega (arith, h.0))
  comes_once (lexed f) (lexed g) h k = let e = finds text (Err f) (Err g) h.1 k.1 in cc
  comes_once (lexed f) (parsed g) h k = absurd (spelled_well k.1.0 f k.1.1 h.1)
  comes_once (lexed f) (named b) h k = absurd (spelled_well k.1.0 f k.1.2 h.1)
  comes_once (parsed f) (lexed g) h k = absurd (spelled_well h.1.0 g h.1.1 k.1)
  comes_once (parsed f) (parsed g) h k = ap (λ x. parsed x) (one_refusal f g h.1.0 k.1.0 h.1.1 k.1.1 h.1.2 k.1.2)
  comes_once (parsed f) (named b) h k = absurd (derived_well k.1.0 h.1.0 k.1.1 f k.1.2 h.1.1 k.1.3 h.1.2)
  comes_once (named a) (lexed g) h k = absurd (spelled_well h.1.0 g h.1.2 k.1)
  comes_once (named a) (parsed g) h k = absurd (derived_well h.1.0 k.1.0 h.1.1 g h.1.2 k.1.1 h.1.3 k.1.2)
  comes_once (named a) (named b) h k = ap (λ x. named x) (one_reading a b h.1 k.1)

pub spells_once : FindsOnce → YieldsOnce → (text : List ℕ) (a b : Result Program Refusal) → ProgramOf text a → ProgramOf text b → IsSame a b
spells_once finds yields text a b h k =
    let x = reading text a h in
    let y = reading text b k in
    gives_once text y.0 a b (subst (λ z. Gives text z a) (comes_once finds yields text x.0 y.0 x.1 y.1) x.2) y.2
