-- What the scanner's answer tells, and where it comes.
use Rattle.std.proofs.Common.{ℕ, List, Result, Ok, Err, IfOk, Vec, Global}
use Rattle.snap_lex.specs.Lexemes.{Token, SpellsTokens}
use Rattle.snap_lex.specs.Laws.{LexFault, BadByte, BadNumber, NoMemory, Finds}
use Rattle.snap_lex.specs.Scanning.{Scans, GivesTokens, GivesLexFault}
use Rattle.snap_lex.proofs.Once.{lexing_is_deterministic}

pub gives_tokens : (text : List ℕ) (r : Result (Vec Token Global) LexFault) → Scans text r → (ts : List Token) → Finds text (Ok ts) → GivesTokens r ts
gives_tokens text (Ok v) h ts s = let e = lexing_is_deterministic text (Ok v.items) (Ok ts) h s in cc
gives_tokens text (Err (BadByte at)) h ts s = let e = lexing_is_deterministic text (Err (BadByte at)) (Ok ts) h s in absurd (cc)
gives_tokens text (Err (BadNumber at)) h ts s = let e = lexing_is_deterministic text (Err (BadNumber at)) (Ok ts) h s in absurd (cc)
gives_tokens text (Err NoMemory) h ts s = tt

pub gives_fault : (text : List ℕ) (r : Result (Vec Token Global) LexFault) → Scans text r → (f : LexFault) → Finds text (Err f) → GivesLexFault r f
gives_fault text (Ok v) h f k = let e = lexing_is_deterministic text (Ok v.items) (Err f) h k in absurd (cc)
gives_fault text (Err (BadByte at)) h f k = let e = lexing_is_deterministic text (Err (BadByte at)) (Err f) h k in cc
gives_fault text (Err (BadNumber at)) h f k = let e = lexing_is_deterministic text (Err (BadNumber at)) (Err f) h k in cc
gives_fault text (Err NoMemory) h f k = tt

pub scans_ok : (text : List ℕ) (r : Result (Vec Token Global) LexFault) → Scans text r → IfOk r (λ v. SpellsTokens text v.items)
scans_ok text (Ok v) h = h
scans_ok text (Err e) h = tt
