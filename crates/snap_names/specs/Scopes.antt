-- How a scope stands for what is declared.
use Rattle.std.specs.Prelude.{◌≡◌, ◌≢◌, ℕ, ◌≤◌, false, List, Option, Result, Ok, Err, is_some}
use Rattle.snap_core.specs.Fields.{count, IsFields}
use Rattle.snap_parse.specs.Tree.{DeclTree}
use Rattle.snap_names.specs.declared.scope.Part.{Part}
use Rattle.snap_names.specs.declared.scope.Sizes.{Sizes}
use Rattle.snap_names.specs.declared.scope.Scope.{Scope}
use Rattle.snap_names.specs.declared.fault.NameFault.{NameFault}
use Rattle.snap_names.specs.declared.fault.NameFault.TheVariants.{NoMemory}
use Rattle.snap_names.specs.Core.{CorePolicy, nodes}
use Rattle.snap_names.specs.Senses.{Arities}
use Rattle.snap_names.specs.Declarations.{Declared, short, capped, declare, CoreProgram, is_field_known, limited, with_field}
use Rattle.snap_names.specs.Parts.{AreBodies, IsPart, names_in}

-- what is declared in a scope, with what the bodies of `let` stand for
abbrev pub declared_in : Scope → List CorePolicy → Arities → Declared
declared_in s lets arities = record
    { fields = s.fields.items; arrays = s.arrays.items; lets = lets; names = names_in s.names.entries; arities = arities }

-- The bodies of `let` stand for these policies, and the components are counted.
pub record IsScope (s : Scope) (lets : List CorePolicy) : Type 0 where
  pub bodies : AreBodies s.lets.items lets
  pub comps : s.comps ≡ short (count s.fields.items)

-- What a text declares was declared in the scope.
pub record HasDeclared (text : List ℕ) (r : Result Declared NameFault) (s : Scope) (arities : Arities) : Type 0 where
  pub lets : List CorePolicy
  pub scope : IsScope s lets
  pub text_is : s.text.now ≡ text
  pub declares : r ≡ Ok (declared_in s lets arities)

-- A field whose names are new is declared behind all else.
abbrev pub FieldDeclared : Scope → Scope → List ℕ → Option ℕ → Type 0
FieldDeclared old new name prefix = is_field_known (names_in old.names.entries) name (is_some prefix) ≡ false
    → (lets : List CorePolicy) → IsScope old lets
    → (arities : Arities) → HasDeclared old.text.now (Ok (with_field (declared_in old lets arities) name prefix)) new arities

-- The declaration is declared in the scope, or refused as it says, but for want of memory.
abbrev pub Declares : DeclTree → Scope → Scope → Arities → Arities → Result Unit NameFault → Type 0
Declares t old new before behind (Ok u) = (lets : List CorePolicy) → IsScope old lets
    → HasDeclared old.text.now (declare old.text.now (declared_in old lets before) t) new behind
Declares t old new before behind (Err f) = f ≢ NoMemory → (lets : List CorePolicy)
    → IsScope old lets → declare old.text.now (declared_in old lets before) t ≡ Err f

-- The fields of a scope are those of a program, but for their number.
abbrev pub AreFields : Scope → Type 0
AreFields s = count s.fields.items ≤ 64 → IsFields s.fields.items

-- The program of a scope is within all limits, where a part stands for its body.
abbrev pub IsWithin : Scope → Sizes → Part → Type 0
IsWithin s tally part = (lets : List CorePolicy) (p : CorePolicy) → capped tally.nodes ≡ capped (nodes p)
    → IsPart p tally.nodes part → limited (declared_in s lets tally.arities.items) (p, tally.arities.items)
    ≡ Ok (record { fields = s.fields.items; arrays = s.arrays.items; body = p })

-- what `limited` gives for a scope, where a part stands for a whole body
abbrev pub Limits : Scope → Sizes → Part → (Result CoreProgram NameFault → Type 0) → Type 0
Limits s tally part Q = (lets : List CorePolicy) (p : CorePolicy) → capped tally.nodes ≡ capped (nodes p)
    → IsPart p tally.nodes part → Q (limited (declared_in s lets tally.arities.items) (p, tally.arities.items))
