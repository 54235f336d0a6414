-- Laws of words: what a word says, exactly.
use Rattle.std.specs.Prelude.{Bool, IsTrue, ◌==◌, [], ◌∷◌, ◌≡◌, ◌↔◌, ℕ, ◌^◌, ◌<◌, ◌≤◌, ◌≢◌, List, ◌++◌, true, false, Some, codes, decimal, length}
use Rattle.snap_core.specs.Figures.{parts_by}
use Rattle.snap_core.specs.declared.ports.PortAt.{PortAt}
use Rattle.snap_core.specs.declared.policy.Op.{Op}
use Rattle.snap_core.specs.declared.policy.Op.TheVariants.{Put, Add}
use Rattle.snap_core.specs.declared.policy.Test.{Test}
use Rattle.snap_core.specs.declared.policy.Test.TheVariants.{Value, Equal, State as StateTest}
use Rattle.snap_core.specs.declared.policy.Update.{Update}
use Rattle.snap_rows.specs.declared.tables.Hop.{Hop}
use Rattle.std.specs.List.{All}
use Rattle.snap_core.specs.declared.policy.Atom.{Atom}
use Rattle.snap_core.specs.declared.policy.Atom.TheVariants.{Num, Comp}
use Rattle.snap_core.specs.declared.policy.Term.{Term}
use Rattle.snap_core.specs.declared.policy.Term.TheVariants.{Num as Only, Plus}
use Rattle.snap_tables.specs.Text.{Words, prefix_text, rank_words, update_words, atom_word, atoms_word, hop_words, link_words, port_words, spaced, part_word, term_word}
use Rattle.snap_tables.specs.Reading.{atom_said, hop_said, index_said, is_space, link_said, port_said, number_said, part_said, term_said, update_taken, switch_said, array_said, field_said, value_taken, equal_taken, state_taken}
use Rattle.snap_core.specs.Names.{is_switch_name}
use Rattle.snap_core.specs.Names.{IsName}
use Rattle.snap_core.specs.Fields.{PrefixFits}
use Rattle.snap_core.specs.declared.program.Field.{Field}
use Rattle.snap_rows.specs.declared.tables.ArrayAt.{ArrayAt}

-- numbers of 64 bits, and components below a count
abbrev pub IsAtom : (comps : ℕ) → Atom → Type 0
IsAtom comps (Num n) = n < 2 ^ 64
IsAtom comps (Comp c) = c < comps

abbrev pub IsTerm : (comps : ℕ) → Term → Type 0
IsTerm comps (Only n) = n < 2 ^ 64
IsTerm comps (Plus c n) = (c < comps) × (n < 2 ^ 64)

-- a word says a number exactly where it is the number in digits
abbrev pub NumbersAreSaid : Type 0
NumbersAreSaid = (most n : ℕ) (w : List ℕ) → most < 2 ^ 64 → (number_said most w ≡ Some n) ↔ ((w ≡ decimal n) × (n ≤ most))

abbrev pub AtomsAreSaid : Type 0
AtomsAreSaid = (comps : ℕ) (a : Atom) (w : List ℕ) → comps < 2 ^ 64 → (atom_said comps w ≡ Some a) ↔ ((w ≡ atom_word a) × IsAtom comps a)

abbrev pub TermsAreSaid : Type 0
TermsAreSaid = (comps : ℕ) (t : Term) (w : List ℕ) → comps < 2 ^ 64 → (term_said comps w ≡ Some t) ↔ ((w ≡ term_word t) × IsTerm comps t)

abbrev pub IsPart : (comps : ℕ) → ℕ × Atom → Type 0
IsPart comps p = (p.0 < comps) × IsAtom comps p.1 × (p.1 ≢ Comp p.0)

abbrev pub PartsAreSaid : Type 0
PartsAreSaid = (comps : ℕ) (p : ℕ × Atom) (w : List ℕ) → comps < 2 ^ 64
    → (part_said comps w ≡ Some p) ↔ ((w ≡ part_word p) × IsPart comps p)

-- one to eight atoms
abbrev pub IsIndex : (comps : ℕ) → List Atom → Type 0
IsIndex comps es = All (IsAtom comps) es × (1 ≤ length es) × (length es ≤ 8)

abbrev pub IndexesAreSaid : Type 0
IndexesAreSaid = (comps : ℕ) (es : List Atom) (w : List ℕ) → comps < 2 ^ 64
    → (index_said comps w ≡ Some es) ↔ ((w ≡ atoms_word es) × IsIndex comps es)

-- a line without its LF says a link exactly where it is the link's line
abbrev pub LinksAreSaid : Type 0
LinksAreSaid = (n : ℕ) (l : ℕ × ℕ) (w : List ℕ) → n < 2 ^ 64
    → (link_said n (parts_by is_space w) ≡ Some l) ↔ ((w ≡ codes "link" ++ spaced (link_words l)) × (l.0 < n) × (l.1 < n))

abbrev pub PortsAreSaid : Type 0
PortsAreSaid = (n : ℕ) (p : PortAt) (w : List ℕ) → n < 2 ^ 64
    → (port_said n (parts_by is_space w) ≡ Some p) ↔
    ((w ≡ codes "port" ++ spaced (port_words p)) × (1 ≤ p.port) × (p.port < 2 ^ 32) × (p.at < n))

abbrev pub HopsAreSaid : Type 0
HopsAreSaid = (n : ℕ) (h : Hop) (w : List ℕ) → n < 2 ^ 64
    → (hop_said n (parts_by is_space w) ≡ Some h) ↔
    ((w ≡ codes "hop" ++ spaced (hop_words h)) × (h.from < n) × (h.target < n) × (h.next < n))

abbrev pub IsOp : (comps : ℕ) → Op → Type 0
IsOp comps (Put a) = IsAtom comps a
IsOp comps (Add n) = (1 ≤ n) × (n < 2 ^ 64)

abbrev pub IsUpdateOf : (comps arrays : ℕ) → Update → Type 0
IsUpdateOf comps arrays u = (u.var < arrays) × IsIndex comps u.index × IsOp comps u.op

-- an update is taken from the front of words exactly where its words stand there
abbrev pub UpdatesAreTaken : Type 0
UpdatesAreTaken = (comps arrays : ℕ) (u : Update) (ws rest : Words) → comps < 2 ^ 64 → arrays < 2 ^ 64
    → (update_taken comps arrays ws ≡ Some (u, rest)) ↔ ((ws ≡ update_words u ++ rest) × IsUpdateOf comps arrays u)

abbrev pub IsTestOf : (comps arrays : ℕ) → Test → Type 0
IsTestOf comps arrays (Value c n) = (c < comps) × (n < 2 ^ 64)
IsTestOf comps arrays (Equal a b n) = (a < b) × (b < comps) × (n < 2 ^ 64)
IsTestOf comps arrays (StateTest v es x) = (v < arrays) × IsIndex comps es × IsTerm comps x

abbrev pub SwitchesAreSaid : Type 0
SwitchesAreSaid = (name w : List ℕ)
    → (switch_said (parts_by is_space w) ≡ Some name) ↔ ((w ≡ codes "switch" ++ spaced (name ∷ [])) × IsTrue (is_switch_name name))

-- the words of a test behind its first
abbrev pub ValuesAreTaken : Type 0
ValuesAreTaken = (comps c n : ℕ) (ws rest : Words) → comps < 2 ^ 64
    → (value_taken comps ws ≡ Some (Value c n, rest)) ↔ ((ws ≡ decimal c ∷ decimal n ∷ rest) × (c < comps) × (n < 2 ^ 64))

abbrev pub EqualsAreTaken : Type 0
EqualsAreTaken = (comps a b n : ℕ) (ws rest : Words) → comps < 2 ^ 64
    → (equal_taken comps ws ≡ Some (Equal a b n, rest)) ↔
    ((ws ≡ decimal a ∷ decimal b ∷ decimal n ∷ rest) × (a < b) × (b < comps) × (n < 2 ^ 64))

abbrev pub StatesAreTaken : Type 0
StatesAreTaken = (comps arrays v : ℕ) (es : List Atom) (x : Term) (ws rest : Words) → comps < 2 ^ 64 → arrays < 2 ^ 64
    → (state_taken comps arrays ws ≡ Some (StateTest v es x, rest)) ↔
    ((ws ≡ decimal v ∷ atoms_word es ∷ term_word x ∷ rest) × (v < arrays) × IsIndex comps es × IsTerm comps x)

-- an array's rank stands in version 2, and is 0 otherwise
abbrev pub IsRankIf : Bool → ℕ → Type 0
IsRankIf true r = r < 64
IsRankIf false r = r ≡ 0

abbrev pub IsRank : (version rank : ℕ) → Type 0
IsRank v r = IsRankIf (v == 2) r

abbrev pub ArraysAreSaid : Type 0
ArraysAreSaid = (v n : ℕ) (a : ArrayAt) (w : List ℕ) → n < 2 ^ 64
    → (array_said v n (parts_by is_space w) ≡ Some a) ↔
    ((w ≡ codes "array" ++ spaced (a.name ∷ decimal a.at ∷ rank_words v a.rank)) × IsName a.name × (a.at < n) × IsRank v a.rank)

abbrev pub FieldsAreSaid : Type 0
FieldsAreSaid = (f : Field) (w : List ℕ)
    → (field_said (parts_by is_space w) ≡ Some f) ↔
    ((w ≡ codes "field" ++ spaced ((f.name ++ prefix_text f.prefix) ∷ [])) × IsName f.name × PrefixFits f.prefix)
