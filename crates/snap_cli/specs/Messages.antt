-- The bytes of a message.
use Rattle.std.specs.Prelude.{ℕ, List, [], ◌∷◌, codes, decimal}
use Rattle.std.specs.List.{concat}
use Rattle.snap_cli.specs.declared.refusal.Message.{Message}
use Rattle.snap_cli.specs.declared.refusal.Message.TheVariants as message
use Rattle.snap_cli.specs.Refusals.{message_at, message_naming, message_text, message_with}

abbrev pub bytes_of : Message → List ℕ
bytes_of (message.Text text) = message_text text.now
bytes_of (message.Name text name) = message_naming text.now name.now
bytes_of (message.Number text number) = message_with text.now number
bytes_of (message.Names text from to) = concat (codes "snapc: " ∷ text.now ∷ codes " " ∷ from.now ∷ codes " " ∷ to.now ∷ codes "\n" ∷ [])
bytes_of (message.Counted text name between number) =
    concat (codes "snapc: " ∷ text.now ∷ codes " " ∷ name.now ∷ between.now ∷ decimal number ∷ codes "\n" ∷ [])
bytes_of (message.At spot text) = message_at spot text.now
bytes_of (message.Whole text) = text.now
