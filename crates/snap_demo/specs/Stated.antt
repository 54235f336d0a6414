-- The program of n ports.
use Rattle.std.specs.Prelude.{◌≡◌, ℕ, zero, suc, ◌+◌, ◌-◌, List, [], ◌∷◌, ◌++◌, codes}
use Rattle.snap_core.specs.declared.policy.Atom.TheVariants.{Num, Comp}
use Rattle.snap_core.specs.declared.policy.Op.TheVariants.{Add}
use Rattle.snap_core.specs.declared.policy.Update.{Update}
use Rattle.snap_core.specs.declared.program.Field.{Field}
use Rattle.snap_core.specs.declared.program.Program.{Program}
use Rattle.snap_core.specs.Fields.{plain_field, the_ports}
use Rattle.snap_names.specs.Core.{CorePolicy, change, choice, drop_test, field_test, filter, id_test, seq, set, state_test}
use Rattle.snap_names.specs.Declarations.{CoreProgram, core_program}

-- the components are 0 `inport`, 1 `outport` and 2 `key`
abbrev pub fields : List Field
fields = the_ports ++ plain_field (codes "key") ∷ []

abbrev pub arrays : List (List ℕ)
arrays = codes "seen" ∷ codes "count" ∷ []

-- `seen[key]++` and `count[inport]++`
abbrev pub sees : Update
sees = record { var = 0; index = Comp 2 ∷ []; op = Add 1 }

abbrev pub counts : Update
counts = record { var = 1; index = Comp 0 ∷ []; op = Add 1 }

-- `seen[key]++; if seen[key] = 1 then count[inport]++ else id`
abbrev pub counting : CorePolicy
counting = seq (change sees) (choice (state_test 0 (Comp 2 ∷ []) (Num 1)) (change counts) (filter id_test))

-- `if inport = 1 then outport <- n else if inport = 2 then outport <- n - 1 else ..`, the choices for so many last ports
abbrev pub egress : (n left : ℕ) → CorePolicy
egress n zero = filter drop_test
egress n (suc left) = choice (field_test 0 (n - left)) (set 1 (Num (left + 1))) (egress n left)

abbrev pub stated_program : ℕ → CoreProgram
stated_program n = record { fields = fields; arrays = arrays; body = seq counting (egress n n) }

-- the program does what is stated, wherever its parts lie in memory
abbrev pub IsStated : ℕ → Program → Type 0
IsStated n p = core_program p ≡ stated_program n
