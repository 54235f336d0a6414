-- What the fields of a program declare.
use Rattle.std.specs.Prelude.{◌≡◌, ℕ, ◌+◌, ◌<◌, ◌≤◌, Option, None, Some, List, [], ◌∷◌, ◌++◌, map, codes, take, ⊤}
use Rattle.std.specs.List.{All, IsDistinct}
use Rattle.std.specs.Map.{lookup}
use Rattle.std.specs.Str.{bytes_eq}
use Rattle.snap_core.specs.declared.program.Field.{Field}
use Rattle.snap_core.specs.declared.program.Found.{Found}
use Rattle.snap_core.specs.declared.program.Found.TheVariants.{Plain, Split}

-- how many components a field has
abbrev pub width : Option ℕ → ℕ
width None = 1
width (Some n) = 2

-- the number of components
abbrev pub count : List Field → ℕ
count [] = 0
count (f ∷ fs) = width f.prefix + count fs

-- the names that a field declares, each with what it stands for, where the field's components begin at c
abbrev pub declared_at : ℕ → List ℕ → Option ℕ → List (List ℕ × Found)
declared_at c name None = (name, Plain c) ∷ []
declared_at c name (Some n) = (name, Split c (c + 1) n) ∷ (name ++ codes ".net", Plain c) ∷ (name ++ codes ".host", Plain (c + 1)) ∷ []

-- the names of fields and components, in order of declaration
abbrev pub declared_from : ℕ → List Field → List (List ℕ × Found)
declared_from c [] = []
declared_from c (f ∷ fs) = declared_at c f.name f.prefix ++ declared_from (c + width f.prefix) fs

abbrev pub names_of : List Field → List (List ℕ)
names_of fs = map (λ e. e.0) (declared_from 0 fs)

-- what a name of a field or component stands for, and None where there is no such name
abbrev pub found : List Field → List ℕ → Option Found
found fs name = lookup (bytes_eq name) (declared_from 0 fs)

abbrev pub PrefixFits : Option ℕ → Type 0
PrefixFits None = ⊤
PrefixFits (Some n) = (1 ≤ n) × (n ≤ 31)

abbrev pub plain_field : List ℕ → Field
plain_field name = record { name = name; prefix = None }

-- the fields that every program has
abbrev pub the_ports : List Field
the_ports = plain_field (codes "inport") ∷ plain_field (codes "outport") ∷ []

-- the fields of a program
pub record IsFields (fs : List Field) : Type 0 where
  pub ports : take 2 fs ≡ the_ports
  pub different : IsDistinct bytes_eq (names_of fs)
  pub prefixes : All (λ f. PrefixFits f.prefix) fs
  pub few : count fs ≤ 64

-- what a name stands for lies below a number of components
abbrev pub FoundFits : ℕ → Option Found → Type 0
FoundFits comps None = ⊤
FoundFits comps (Some (Plain c)) = c < comps
FoundFits comps (Some (Split net host n)) = (net < comps) × (host < comps) × (1 ≤ n) × (n ≤ 31)
