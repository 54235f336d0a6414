-- The lines of a placement are read as pairs of keys and strings, one after another.
use Rattle.std.proofs.Common.{◌≡◌, ◌∙◌, ℕ, zero, suc, ◌/◌, ◌%◌, Bool, true, false, ◌&&◌, ◌==◌, List, [], ◌∷◌, ◌++◌, length, codes, decimal, map, nat_lt, Some, refl, sym, ap, inl, inr, arith, append_assoc, flat_map}
use Rattle.std.specs.List.{AllByRecursion, list_all}
use Rattle.std.specs.Fmt.{digit_glyph, digits, digits_onto}
use Rattle.std.proofs.lemmas.Bool.{and_parts, cases_Bool}
use Rattle.std.proofs.lemmas.Bool.Decides.{nat_tests}
use Rattle.toml_parser.specs.Lexical.{is_non_eol, skip_blank, skip_from}
use Rattle.toml_writer.specs.Text as written
use Rattle.toml.specs.Data.{string}
use Rattle.toml.specs.Tables.{Expression, Nodes, no_nodes, close, key_value}
use Rattle.toml.specs.Parse.{lines, parse_document, skip_bom}
use Rattle.toml.specs.Text.{IsLinesText}
use Rattle.toml.proofs.ReadLines.{AllPrinted, read_lines, run}
use Rattle.toml.proofs.Turns.{document_some}
use Rattle.snap_core.specs.Names.{is_name_byte, is_switch_name}
use Rattle.snap_placement.specs.Printed.{cost_line, key_text, place_line}
use Rattle.snap_placement.proofs.Plain.{key_plain, string_plain}

abbrev pub Entry : Type 0
Entry = List ℕ × List ℕ

-- both are plain texts
abbrev pub IsPlain : Entry → Type 0
IsPlain e = (is_switch_name e.0 ≡ true) × (is_switch_name e.1 ≡ true)

abbrev pub pair_of : Entry → Expression
pair_of e = (([], e.0), key_value (string e.1))

-- ---- the line of a place

line_plain : (e : Entry) → IsPlain e → place_line e ≡ written.dotted_text ([], e.0) ++ (codes " = " ++ (written.string_text e.1 ++ 10 ∷ []))
line_plain e h =
    let bytes = and_parts (nat_lt 0 (length e.1)) (list_all is_name_byte e.1) h.1 in
    rw (key_plain e.0 h.0, string_plain e.1 bytes.1) (ap (λ (l : List ℕ). key_text e.0 ++ (codes " = \"" ++ l)) (sym (append_assoc e.1 (34 ∷ []) (10 ∷ []))))

lines_plain : (started : Bool) (es : List Entry) → AllByRecursion IsPlain es → IsLinesText false started (map pair_of es) (flat_map place_line es)
lines_plain started [] h = refl
lines_plain started (e ∷ es) h = (place_line e, flat_map place_line es, refl, (written.string_text e.1, line_plain e h.0, refl), lines_plain true es h.1)

pairs_printed : (es : List Entry) → AllPrinted (map pair_of es)
pairs_printed [] = tt
pairs_printed (e ∷ es) = ((refl, omega arith, refl), pairs_printed es)

-- ---- the comment

-- a byte from 32 to 126
abbrev pub is_shown : ℕ → Bool
is_shown c = is_non_eol c && nat_lt c 128

glyph_shown : (d : ℕ) → is_shown (digit_glyph false (d % 10)) ≡ true
glyph_shown d = grind (arith, nat_tests)

digits_shown : (k n : ℕ) (acc : List ℕ) → list_all is_shown acc ≡ true → list_all is_shown (digits_onto k 10 false n acc) ≡ true
digits_shown zero n acc h = h
digits_shown (suc k) n acc h =
    let more : list_all is_shown (digit_glyph false (n % 10) ∷ acc) ≡ true = rw (glyph_shown n) h in
    elim (cases_Bool (n / 10 == 0)) [
      | inl last ↦ rw last more
      | inr other ↦ rw other (digits_shown k (n / 10) (digit_glyph false (n % 10) ∷ acc) more)
    ]

pub decimal_shown : (n : ℕ) → list_all is_shown (decimal n) ≡ true
unfolding digits
decimal_shown n = digits_shown 64 n [] refl

-- a comment is skipped to its end
skip_comment : (s rest : List ℕ) → list_all is_shown s ≡ true → skip_from true true (s ++ 10 ∷ rest) ≡ skip_blank rest
unfolding skip_from
skip_comment [] rest h = refl
skip_comment (c ∷ cs) rest h =
    let parts = and_parts (is_shown c) (list_all is_shown cs) h in
    let line_feed : (c == 10) ≡ false = grind (arith, nat_tests) in
    let return : (c == 13) ≡ false = grind (arith, nat_tests) in
    let kept : is_non_eol c ≡ true = (and_parts (is_non_eol c) (nat_lt c 128) parts.0).0 in
    rw (line_feed, return, kept) (skip_comment cs rest parts.1)

skip_hash : (s : List ℕ) → skip_blank (35 ∷ s) ≡ skip_from true true s
unfolding skip_from
skip_hash s = refl

pub skip_cost : (cost : ℕ) (rest : List ℕ) → skip_blank (cost_line cost ++ rest) ≡ skip_blank rest
skip_cost cost rest =
    let digits = decimal_shown cost in
    let note : list_all is_shown (codes " cost " ++ decimal cost) ≡ true = digits in
    let regrouped : cost_line cost ++ rest ≡ 35 ∷ ((codes " cost " ++ decimal cost) ++ 10 ∷ rest) = simp append_assoc refl in
    ap skip_blank regrouped ∙ (skip_hash ((codes " cost " ++ decimal cost) ++ 10 ∷ rest) ∙ skip_comment (codes " cost " ++ decimal cost) rest note)

no_mark : (text : List ℕ) → skip_bom (35 ∷ text) ≡ 35 ∷ text
unfolding skip_bom
no_mark text = refl

-- ---- the document

-- the text is the document that its pairs define, one after another
pub document_of_lines : (cost : ℕ) (es : List Entry) (ns : Nodes) → AllByRecursion IsPlain es → run (no_nodes, []) (map pair_of es) ≡ Some (ns, [])
    → parse_document (cost_line cost ++ flat_map place_line es) ≡ Some (close ns)
document_of_lines cost es ns plain ran =
    let text = cost_line cost ++ flat_map place_line es in
    let read = read_lines false false (map pair_of es) (flat_map place_line es) text (no_nodes, []) (suc (length text)) (lines_plain false es plain) (pairs_printed es) (skip_cost cost (flat_map place_line es)) (omega arith) in
    document_some text (ns, []) (ap (lines (suc (length text)) (no_nodes, [])) (no_mark _) ∙ (read ∙ ran))
