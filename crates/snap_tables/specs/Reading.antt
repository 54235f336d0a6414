-- What words of a line say: the inverse of the text of tables.
use Rattle.std.specs.Prelude.{◌≡◌, ℕ, ◌-◌, ◌^◌, Bool, true, false, ◌&&◌, ◌==◌, nat_lt, nat_le, if◌then◌else◌, List, [], ◌∷◌, ◌++◌, length, codes, Some, None, MatchOption, option_and_then, option_map, is_some}
use Rattle.std.specs.Borrow.{Bor}
use Rattle.std.specs.Str.{bytes_eq}
use Rattle.std.specs.declared.option.Option.{Option}
use Rattle.snap_core.specs.declared.policy.Atom.{Atom}
use Rattle.snap_core.specs.declared.policy.Atom.TheVariants.{Num, Comp}
use Rattle.snap_core.specs.declared.policy.Op.{Op}
use Rattle.snap_core.specs.declared.policy.Op.TheVariants.{Put, Add}
use Rattle.snap_core.specs.declared.policy.Term.{Term}
use Rattle.snap_core.specs.declared.policy.Term.TheVariants.{Num as Only, Plus}
use Rattle.snap_core.specs.declared.policy.Test.{Test}
use Rattle.snap_core.specs.declared.policy.Test.TheVariants.{Value, Equal, State as StateTest}
use Rattle.snap_core.specs.declared.policy.Update.{Update}
use Rattle.snap_core.specs.declared.ports.PortAt.{PortAt}
use Rattle.snap_core.specs.declared.program.Field.{Field}
use Rattle.snap_core.specs.Names.{is_name}
use Rattle.snap_core.specs.Names.{is_switch_name}
use Rattle.snap_rows.specs.declared.tables.ArrayAt.{ArrayAt}
use Rattle.snap_rows.specs.declared.tables.Hop.{Hop}
use Rattle.snap_core.specs.Figures.{number_up_to, parts_by}
use Rattle.snap_tables.specs.Text.{Words}

abbrev pub is_space : ℕ → Bool
is_space b = b == 32

abbrev pub is_comma : ℕ → Bool
is_comma b = b == 44

-- the words that are left, where the text behind a blank is
abbrev pub words_left : Option (Bor (List ℕ)) → Words
words_left None = []
words_left (Some rest) = parts_by is_space rest.now

-- the answer is what is said, seen so
abbrev pub Gives : {X Y : Type 0} → Option Y → Option X → (Y → X) → Type 0
Gives answer said seen = MatchOption answer (said ≡ None) (λ y. said ≡ Some (seen y))

-- digits that begin with a zero, and more behind it
abbrev pub is_padded : List ℕ → Bool
is_padded [] = false
is_padded (d ∷ ds) = (d == 48) && nat_lt 0 (length ds)

-- the number of at most this value that a word spells, without leading zeros
abbrev pub number_said : (most : ℕ) → List ℕ → Option ℕ
number_said most w = if is_padded w then None else number_up_to most w

abbrev pub u64_said : List ℕ → Option ℕ
u64_said w = number_said (2 ^ 64 - 1) w

-- a number below a count
abbrev pub below_said : (count : ℕ) → List ℕ → Option ℕ
below_said count w = if nat_lt 0 count then number_said (count - 1) w else None

-- `#5`, or `c3` where there are more components
abbrev pub atom_said : (comps : ℕ) → List ℕ → Option Atom
atom_said comps [] = None
atom_said comps (b ∷ bs) =
    if b == 35 then option_map Num (u64_said bs) else
    if b == 99 then option_map Comp (below_said comps bs) else None

abbrev pub atoms_said : (comps : ℕ) → Words → Option (List Atom)
atoms_said comps [] = Some []
atoms_said comps (w ∷ ws) = option_and_then (λ a. option_map (λ (es : List Atom). a ∷ es) (atoms_said comps ws)) (atom_said comps w)

-- `#5`, `c3` or `c3+1`
abbrev pub plus_said : ℕ → Words → Option Term
plus_said c [] = Some (Plus c 0)
plus_said c (w ∷ []) = option_and_then (λ n. if n == 0 then None else Some (Plus c n)) (u64_said w)
plus_said c (w ∷ v ∷ ws) = None

abbrev pub comp_term_said : (comps : ℕ) → Words → Option Term
comp_term_said comps [] = None
comp_term_said comps (w ∷ ws) = option_and_then (λ c. plus_said c ws) (below_said comps w)

abbrev pub is_plus : ℕ → Bool
is_plus b = b == 43

abbrev pub term_said : (comps : ℕ) → List ℕ → Option Term
term_said comps [] = None
term_said comps (b ∷ bs) =
    if b == 35 then option_map Only (u64_said bs) else
    if b == 99 then comp_term_said comps (parts_by is_plus bs) else None

abbrev pub is_equals : ℕ → Bool
is_equals b = b == 61

-- `c3=#5`, and not `c3=c3`
abbrev pub changes : ℕ → Atom → Option (ℕ × Atom)
changes c (Num n) = Some (c, Num n)
changes c (Comp d) = if c == d then None else Some (c, Comp d)

abbrev pub both_said : (comps : ℕ) → Words → Option (ℕ × Atom)
both_said comps (w ∷ v ∷ []) = option_and_then (λ c. option_and_then (changes c) (atom_said comps v)) (below_said comps w)
both_said comps ws = None

abbrev pub part_said : (comps : ℕ) → List ℕ → Option (ℕ × Atom)
part_said comps [] = None
part_said comps (b ∷ bs) = if b == 99 then both_said comps (parts_by is_equals bs) else None

abbrev pub is_close : ℕ → Bool
is_close b = b == 93

-- at most eight
abbrev pub few : Option (List Atom) → Option (List Atom)
few None = None
few (Some es) = if nat_le (length es) 8 then Some es else None

abbrev pub inner_said : (comps : ℕ) → Words → Option (List Atom)
inner_said comps (inner ∷ [] ∷ []) = few (atoms_said comps (parts_by is_comma inner))
inner_said comps parts = None

-- `[#5,c3]`, with one to eight atoms
abbrev pub index_said : (comps : ℕ) → List ℕ → Option (List Atom)
index_said comps [] = None
index_said comps (b ∷ bs) = if b == 91 then inner_said comps (parts_by is_close bs) else None

-- atoms so far, and those that words say
abbrev pub with_atoms : (comps : ℕ) → Words → List Atom → Option (List Atom)
with_atoms comps ws es = option_map (λ (more : List Atom). es ++ more) (atoms_said comps ws)

-- Words taken from the front: what they say, and the words behind them.

abbrev pub taken : {A : Type 0} → (List ℕ → Option A) → Words → Option (A × Words)
taken says [] = None
taken says (w ∷ ws) = option_map (λ a. (a, ws)) (says w)

-- the words behind this one
abbrev pub opened : List ℕ → Words → Option Words
opened k [] = None
opened k (w ∷ ws) = if bytes_eq w k then Some ws else None

abbrev pub no_words : Words → Bool
no_words [] = true
no_words (w ∷ ws) = false

abbrev pub link_said : (switches : ℕ) → Words → Option (ℕ × ℕ)
link_said n ws =
    option_and_then (λ (r : Words).
    option_and_then (λ (x : ℕ × Words).
    option_and_then (λ (y : ℕ × Words). if no_words y.1 then Some (x.0, y.0) else None)
    (taken (below_said n) x.1)) (taken (below_said n) r)) (opened (codes "link") ws)

abbrev pub port_said : (switches : ℕ) → Words → Option PortAt
port_said n ws =
    option_and_then (λ (r : Words).
    option_and_then (λ (x : ℕ × Words).
    option_and_then (λ (y : ℕ × Words). if no_words y.1 && nat_lt 0 x.0 then Some (record { port = x.0; at = y.0 }) else None)
    (taken (below_said n) x.1)) (taken (number_said (2 ^ 32 - 1)) r)) (opened (codes "port") ws)

abbrev pub hop_said : (switches : ℕ) → Words → Option Hop
hop_said n ws =
    option_and_then (λ (r : Words).
    option_and_then (λ (x : ℕ × Words).
    option_and_then (λ (y : ℕ × Words).
    option_and_then (λ (z : ℕ × Words). if no_words z.1 then Some (record { from = x.0; target = y.0; next = z.0 }) else None)
    (taken (below_said n) y.1)) (taken (below_said n) x.1)) (taken (below_said n) r)) (opened (codes "hop") ws)

-- whether the first word of an update is `put`, and not `add`
abbrev pub op_said : List ℕ → Option Bool
op_said w = if bytes_eq w (codes "put") then Some true else if bytes_eq w (codes "add") then Some false else None

-- what an update does, behind its index: a number that is added isn't 0
abbrev pub by_taken : (comps : ℕ) → Bool → Words → Option (Op × Words)
by_taken comps true ws = option_map (λ (p : Atom × Words). (Put p.0, p.1)) (taken (atom_said comps) ws)
by_taken comps false ws = option_and_then (λ (p : ℕ × Words). if nat_lt 0 p.0 then Some (Add p.0, p.1) else None) (taken u64_said ws)

abbrev pub update_taken : (comps arrays : ℕ) → Words → Option (Update × Words)
update_taken comps arrays ws =
    option_and_then (λ (o : Bool × Words).
    option_and_then (λ (x : ℕ × Words).
    option_and_then (λ (i : List Atom × Words).
    option_map (λ (y : Op × Words). (record { var = x.0; index = i.0; op = y.0 }, y.1))
    (by_taken comps o.0 i.1)) (taken (index_said comps) x.1)) (taken (below_said arrays) o.1)) (taken op_said ws)

abbrev pub value_taken : (comps : ℕ) → Words → Option (Test × Words)
value_taken comps ws =
    option_and_then (λ (x : ℕ × Words).
    option_map (λ (y : ℕ × Words). (Value x.0 y.0, y.1)) (taken u64_said x.1)) (taken (below_said comps) ws)

-- the lesser component stands first
abbrev pub equal_taken : (comps : ℕ) → Words → Option (Test × Words)
equal_taken comps ws =
    option_and_then (λ (x : ℕ × Words).
    option_and_then (λ (y : ℕ × Words).
    option_and_then (λ (z : ℕ × Words). if nat_lt x.0 y.0 then Some (Equal x.0 y.0 z.0, z.1) else None)
    (taken u64_said y.1)) (taken (below_said comps) x.1)) (taken (below_said comps) ws)

abbrev pub state_taken : (comps arrays : ℕ) → Words → Option (Test × Words)
state_taken comps arrays ws =
    option_and_then (λ (x : ℕ × Words).
    option_and_then (λ (i : List Atom × Words).
    option_map (λ (y : Term × Words). (StateTest x.0 i.0 y.0, y.1))
    (taken (term_said comps) i.1)) (taken (index_said comps) x.1)) (taken (below_said arrays) ws)

abbrev pub name_said : (List ℕ → Bool) → List ℕ → Option (List ℕ)
name_said is w = if is w then Some w else None

abbrev pub switch_said : Words → Option (List ℕ)
switch_said ws =
    option_and_then (λ (r : Words).
    option_and_then (λ (x : List ℕ × Words). if no_words x.1 then Some x.0 else None)
    (taken (name_said is_switch_name) r)) (opened (codes "switch") ws)

-- ranks stand in version 2
abbrev pub rank_taken : (version : ℕ) → Words → Option (ℕ × Words)
rank_taken v ws = if v == 2 then taken (below_said 64) ws else Some (0, ws)

abbrev pub array_said : (version switches : ℕ) → Words → Option ArrayAt
array_said v n ws =
    option_and_then (λ (r : Words).
    option_and_then (λ (x : List ℕ × Words).
    option_and_then (λ (y : ℕ × Words).
    option_and_then (λ (z : ℕ × Words). if no_words z.1 then Some (record { name = x.0; at = y.0; rank = z.0 }) else None)
    (rank_taken v y.1)) (taken (below_said n) x.1)) (taken (name_said is_name) r)) (opened (codes "array") ws)

abbrev pub is_slash : ℕ → Bool
is_slash b = b == 47

-- `NAME` or `NAME/n`
abbrev pub declared_said : Words → Option Field
declared_said (name ∷ []) = if is_name name then Some (record { name = name; prefix = None }) else None
declared_said (name ∷ w ∷ []) =
    if is_name name
    then option_and_then (λ n. if nat_lt 0 n then Some (record { name = name; prefix = Some n }) else None) (number_said 31 w)
    else None
declared_said ws = None

abbrev pub field_said : Words → Option Field
field_said ws =
    option_and_then (λ (r : Words).
    option_and_then (λ (x : Field × Words). if no_words x.1 then Some x.0 else None)
    (taken (λ w. declared_said (parts_by is_slash w)) r)) (opened (codes "field") ws)

-- the next word begins an update
abbrev pub begins_update : Words → Bool
begins_update [] = false
begins_update (w ∷ ws) = is_some (op_said w)
