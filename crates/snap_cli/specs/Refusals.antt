-- The status and the message of each ending.
use Rattle.std.specs.Prelude.{ℕ, List, [], ◌∷◌, Ok, Err, Result, codes, decimal}
use Rattle.std.specs.List.{concat}
use Rattle.snap_core.specs.declared.program.Which.{Which}
use Rattle.snap_core.specs.declared.program.Which.TheVariants as which
use Rattle.snap_rows.specs.declared.tables.Rule.{Rule}
use Rattle.snap_rows.specs.declared.tables.Rule.TheVariants as rule
use Rattle.snap_cli.specs.declared.refusal.Refusal.{Refusal}
use Rattle.snap_cli.specs.declared.refusal.Refusal.TheVariants.{Usage, Read, Write, Syntax, Naming, Limit, Topology, Unreachable, Race, Packets, NoMemory, Undefined, Declarations, Differ, Demand, Placement, Tables, Schedule, Changes, ReadChange, VersionOne}
use Rattle.snap_cli.specs.declared.refusal.SyntaxFault.{SyntaxFault}
use Rattle.snap_cli.specs.declared.refusal.SyntaxFault.TheVariants.{BadByte, BadNumber, UnexpectedToken, TooDeep}
use Rattle.snap_cli.specs.declared.refusal.NamingFault.{NamingFault}
use Rattle.snap_cli.specs.declared.refusal.NamingFault.TheVariants.{UnknownName, DeclaredTwice, WrongKind, WrongArity, TooWide, WrongPrefix}
use Rattle.snap_cli.specs.declared.refusal.NoDemand.{NoDemand}
use Rattle.snap_cli.specs.declared.refusal.NoDemand.TheVariants as none
use Rattle.snap_cli.specs.declared.refusal.NoPlacement.{NoPlacement}
use Rattle.snap_cli.specs.declared.refusal.NoPlacement.TheVariants as nowhere
use Rattle.snap_cli.specs.declared.refusal.NoTables.{NoTables}
use Rattle.snap_cli.specs.declared.refusal.NoTables.TheVariants.{Line, Broken}
use Rattle.snap_cli.specs.declared.refusal.TopologyFault.{TopologyFault}
use Rattle.snap_cli.specs.declared.refusal.TopologyFault.TheVariants.{NotToml, Shape, SwitchTwice, UnknownSwitch}
use Rattle.snap_cli.specs.declared.spot.Position.{Position}
use Rattle.snap_runs.specs.Tallies.{name_in}

-- how a command ends
abbrev pub Ending : Type 0
Ending = Result (Unit {0}) Refusal

abbrev pub status_of : Ending → ℕ
status_of (Ok u) = 0
status_of (Err Usage) = 1
status_of (Err (Read name)) = 2
status_of (Err Write) = 3
status_of (Err (Syntax fault spot)) = 4
status_of (Err (Naming fault spot)) = 5
status_of (Err (Limit which count)) = 6
status_of (Err (Topology fault)) = 7
status_of (Err (Unreachable switches a b)) = 8
status_of (Err (Race text)) = 10
status_of (Err (Packets line)) = 12
status_of (Err NoMemory) = 14
status_of (Err (Undefined packet)) = 15
status_of (Err Declarations) = 17
status_of (Err (Differ text)) = 18
status_of (Err (Demand fault)) = 19
status_of (Err (Placement fault)) = 9
status_of (Err (Tables fault)) = 11
status_of (Err (Schedule line)) = 13
status_of (Err (Changes line)) = 20
status_of (Err (ReadChange name)) = 2
status_of (Err VersionOne) = 16

abbrev pub which_text : Which → List ℕ
which_text which.Bytes = codes "bytes"
which_text which.Lines = codes "lines"
which_text which.Components = codes "components"
which_text which.Arrays = codes "arrays"
which_text which.Atoms = codes "atoms"
which_text which.Nodes = codes "nodes"
which_text which.Weight = codes "weight"
which_text which.Switches = codes "switches"
which_text which.Links = codes "links"
which_text which.Ports = codes "ports"
which_text which.Demands = codes "demands"
which_text which.Changes = codes "changes"

abbrev pub syntax_text : SyntaxFault → List ℕ
syntax_text BadByte = codes "bad byte"
syntax_text BadNumber = codes "bad number"
syntax_text UnexpectedToken = codes "unexpected token"
syntax_text TooDeep = codes "too deep"

abbrev pub naming_text : NamingFault → List ℕ
naming_text UnknownName = codes "unknown name"
naming_text DeclaredTwice = codes "declared twice"
naming_text WrongKind = codes "wrong kind"
naming_text WrongArity = codes "wrong number of indices"
naming_text TooWide = codes "number too wide"
naming_text WrongPrefix = codes "wrong prefix"

abbrev pub message_text : List ℕ → List ℕ
message_text text = concat (codes "snapc: " ∷ text ∷ codes "\n" ∷ [])

abbrev pub message_at : Position → List ℕ → List ℕ
message_at spot text = concat (codes "snapc: " ∷ decimal spot.line ∷ codes ":" ∷ decimal spot.column ∷ codes ": " ∷ text ∷ codes "\n" ∷ [])

abbrev pub message_with : List ℕ → ℕ → List ℕ
message_with text number = concat (codes "snapc: " ∷ text ∷ codes " " ∷ decimal number ∷ codes "\n" ∷ [])

abbrev pub message_of_limit : Which → ℕ → List ℕ
message_of_limit which count = concat (codes "snapc: limit: " ∷ which_text which ∷ codes " " ∷ decimal count ∷ codes "\n" ∷ [])

abbrev pub message_of_read : List ℕ → List ℕ
message_of_read name = concat (codes "snapc: cannot read " ∷ name ∷ codes "\n" ∷ [])

abbrev pub message_naming : List ℕ → List ℕ → List ℕ
message_naming text name = concat (codes "snapc: " ∷ text ∷ codes " " ∷ name ∷ codes "\n" ∷ [])

abbrev pub message_of_topology : TopologyFault → List ℕ
message_of_topology NotToml = message_text (codes "topology: not TOML")
message_of_topology (Shape rule) = message_with (codes "topology: shape") rule
message_of_topology (SwitchTwice name) = message_naming (codes "topology: switch twice") name
message_of_topology (UnknownSwitch name) = message_naming (codes "topology: unknown switch") name

abbrev pub message_apart : List (List ℕ) → ℕ → ℕ → List ℕ
message_apart switches a b = concat (codes "snapc: unreachable: " ∷ name_in switches a ∷ codes " " ∷ name_in switches b ∷ codes "\n" ∷ [])

abbrev pub message_of_demand : NoDemand → List ℕ
message_of_demand none.NotToml = message_text (codes "demand: not TOML")
message_of_demand (none.Shape rule) = message_with (codes "demand: shape") rule
message_of_demand (none.NoPort port) = message_with (codes "demand: no port") port
message_of_demand (none.NoArray name) = message_naming (codes "demand: no array") name
message_of_demand (none.NoSwitch name) = message_naming (codes "demand: no switch") name
message_of_demand (none.Nowhere arrays array) = message_naming (codes "demand: nowhere") (name_in arrays array)

abbrev pub message_torn : List (List ℕ) → ℕ → ℕ → List ℕ
message_torn arrays a b = concat (codes "snapc: placement: apart " ∷ name_in arrays a ∷ codes " " ∷ name_in arrays b ∷ codes "\n" ∷ [])

abbrev pub message_of_placement : NoPlacement → List ℕ
message_of_placement nowhere.NotToml = message_text (codes "placement: not TOML")
message_of_placement (nowhere.Shape rule) = message_with (codes "placement: shape") rule
message_of_placement (nowhere.NoArray name) = message_naming (codes "placement: no array") name
message_of_placement (nowhere.NoPlace arrays array) = message_naming (codes "placement: no place for") (name_in arrays array)
message_of_placement (nowhere.NoSwitch arrays array) = message_naming (codes "placement: no switch for") (name_in arrays array)
message_of_placement (nowhere.Apart arrays a b) = message_torn arrays a b

abbrev pub rule_text : Rule → List ℕ
rule_text rule.Link = codes "link"
rule_text rule.Loop = codes "loop"
rule_text rule.Kind = codes "kind"
rule_text rule.Owner = codes "owner"
rule_text rule.Rise = codes "rise"
rule_text rule.Order = codes "order"
rule_text rule.Missing = codes "missing"
rule_text rule.Spare = codes "spare"

abbrev pub message_named_rule : (name : List ℕ) → (line : ℕ) → List ℕ
message_named_rule name line = concat (codes "snapc: tables: rule " ∷ name ∷ codes " line " ∷ decimal line ∷ codes "\n" ∷ [])

abbrev pub message_of_rule : Rule → (line : ℕ) → List ℕ
message_of_rule broken line = message_named_rule (rule_text broken) line

abbrev pub message_of_tables : NoTables → List ℕ
message_of_tables (Line line) = message_with (codes "tables: line") line
message_of_tables (Broken broken line) = message_of_rule broken line

-- what is written to the error sink
abbrev pub message_of : Ending → List ℕ
message_of (Ok u) = []
message_of (Err Usage) = message_text (codes "usage")
message_of (Err (Read name)) = message_of_read name.now
message_of (Err Write) = message_text (codes "cannot write")
message_of (Err (Syntax fault spot)) = message_at spot (syntax_text fault)
message_of (Err (Naming fault spot)) = message_at spot (naming_text fault)
message_of (Err (Limit which count)) = message_of_limit which count
message_of (Err (Topology fault)) = message_of_topology fault
message_of (Err (Unreachable switches a b)) = message_apart switches a b
message_of (Err (Race text)) = text.items
message_of (Err Declarations) = message_text (codes "declarations differ")
message_of (Err (Differ text)) = text.items
message_of (Err (Packets line)) = message_with (codes "packets: line") line
message_of (Err NoMemory) = message_text (codes "out of memory")
message_of (Err (Undefined packet)) = message_with (codes "undefined: packet") packet
message_of (Err (Demand fault)) = message_of_demand fault
message_of (Err (Placement fault)) = message_of_placement fault
message_of (Err (Tables fault)) = message_of_tables fault
message_of (Err (Schedule line)) = message_with (codes "schedule: line") line
message_of (Err (Changes line)) = message_with (codes "changes: line") line
message_of (Err (ReadChange name)) = message_of_read name
message_of (Err VersionOne) = message_text (codes "tables: version 1")
