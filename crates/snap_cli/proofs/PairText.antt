-- The text of a store and a packet, put together part by part.
use Rattle.std.proofs.Common.{◌≡◌, ℕ, List, [], ◌++◌, map, codes, append-nil, append_assoc, ap, sym, ◌∙◌}
use Rattle.std.proofs.lemmas.List.Folds.{flat_map-map}
use Rattle.snap_core.specs.declared.place.Listed.{Listed}
use Rattle.snap_core.specs.Listing.{entry_of}
use Rattle.snap_report.specs.Reports.{array_line, fields_text, listed_line}
use Rattle.snap_cli.specs.Pairs.{packet_line, pair_text}
use Rattle.snap_cli.proofs.Shared.{flat_map, Program}

module _ (Front : List ℕ) (p : Program) (listed : List Listed) (k : List ℕ) where
  abbrev Fields : List ℕ
  Fields = fields_text 0 p.fields k ++ codes "\n"

  pub pair-put : (a b c d : List ℕ) → a ≡ Front → b ≡ a ++ flat_map (listed_line p.arrays) listed → c ≡ b ++ codes "packet" → d ≡ c ++ Fields
      → d ≡ pair_text Front p (map entry_of listed) k
  pair-put a b c d first arrays word fields =
      let lines = flat_map (listed_line p.arrays) listed in
      let parts : d ≡ ((Front ++ lines) ++ codes "packet") ++ Fields =
      fields ∙ ap (λ x. x ++ Fields) (word ∙ ap (λ x. x ++ codes "packet") (arrays ∙ ap (λ x. x ++ lines) first)) in
      parts ∙ append_assoc (Front ++ lines) (codes "packet") Fields ∙ append_assoc Front lines (packet_line p.fields k)
      ∙ ap (λ x. Front ++ (lines ++ x)) (sym (append-nil (packet_line p.fields k)))
      ∙ ap (λ x. Front ++ (x ++ (packet_line p.fields k ++ []))) (sym (flat_map-map (array_line p.arrays) entry_of listed))
