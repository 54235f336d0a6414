-- Entries of strings, as texts.
use Rattle.std.specs.Prelude.{ℕ, List, map, String, Vec, string_bytes}
use Rattle.std.specs.declared.alloc.Global.{Global}

abbrev pub entry_text : String Global × String Global → List ℕ × List ℕ
entry_text e = (string_bytes e.0, string_bytes e.1)

abbrev pub entry_texts : List (String Global × String Global) → List (List ℕ × List ℕ)
entry_texts entries = map entry_text entries

abbrev pub vec_texts : Vec (String Global × String Global) Global → List (List ℕ × List ℕ)
vec_texts v = entry_texts v.items
