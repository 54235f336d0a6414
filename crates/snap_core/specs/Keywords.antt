-- The keywords, in three parts.
use Rattle.std.specs.Prelude.{ℕ, Bool, ◌||◌, List, codes}
use Rattle.std.specs.Str.{bytes_eq}

abbrev pub begins_declaration : List ℕ → Bool
begins_declaration w = bytes_eq w (codes "field") || bytes_eq w (codes "array") || bytes_eq w (codes "const") || bytes_eq w (codes "let")

abbrev pub belongs_to_choice : List ℕ → Bool
belongs_to_choice w = bytes_eq w (codes "if") || bytes_eq w (codes "then") || bytes_eq w (codes "else")

abbrev pub is_constant : List ℕ → Bool
is_constant w = bytes_eq w (codes "id") || bytes_eq w (codes "drop")
    || bytes_eq w (codes "atomic") || bytes_eq w (codes "True") || bytes_eq w (codes "False")
