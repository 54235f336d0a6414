use Rattle.std.proofs.Common.{◌≡◌, ◌∙◌, cond, Some, None, true, false, ℕ, List, refl, sym, Bool, IsUtf8}
use Rattle.std.proofs.lemmas.Bool.{false≢true}
use Rattle.std.specs.Str.{is_utf8}
use Rattle.std.proofs.lemmas.Str.{is_utf8-from_IsUtf8, IsUtf8-from_is_utf8}
use Rattle.toml.specs.Data.{Members}
use Rattle.toml.specs.Parse.{parse_document}
use Rattle.snap_topology.specs.Spells.{document}
use Rattle.snap_topology.proofs.document.read_document.Goals as goal

of_text : (bytes : List ℕ) (m : Members) → IsUtf8 bytes → parse_document bytes ≡ Some m → document bytes ≡ Some m
of_text bytes m text is = rw (is_utf8-from_IsUtf8 bytes text) is

refused_by : (bytes : List ℕ) (b : Bool) → is_utf8 bytes ≡ b → (IsUtf8 bytes → parse_document bytes ≡ None) → cond b (parse_document bytes) None ≡ None
refused_by bytes true e h = h (IsUtf8-from_is_utf8 bytes e)
refused_by bytes false e h = refl

pub returns-in-Ok : goal.returns-in-Ok
returns-in-Ok c = sym (of_text _ _ c.in-Ok.ensures.ok.0 c.in-Ok.ensures.ok.1)

pub returns-else-is_memory : goal.returns-else-is_memory
returns-else-is_memory c = sym (refused_by _ _ refl (c.in-Err.ensures.refused (λ h. absurd (false≢true (sym c.if-is_memory.false ∙ c.is_memory.ensures.1 h)))))
