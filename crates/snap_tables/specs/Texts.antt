-- Texts one behind another in one list.
use Rattle.std.specs.Prelude.{ℕ, ◌≤◌, List, length}
use Rattle.std.specs.List.{between}
use Rattle.snap_tables.specs.declared.texts.Span.{Span}

-- a span is of bytes that are there
abbrev pub IsWithin : List ℕ → Span → Type 0
IsWithin bytes s = (s.start ≤ s.end) × (s.end ≤ length bytes)

-- the text of a span
abbrev pub spanned : List ℕ → Span → List ℕ
spanned bytes s = between s.start s.end bytes
