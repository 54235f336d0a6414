use Rattle.std.proofs.Common.{◌≡◌, ◌++◌, codes, sym, ap, ◌∙◌}
use Rattle.std.proofs.lemmas.Result.{on_ok_weaker}
use Rattle.hex.specs.Hex.{encode_lower}
use Rattle.snap_rows.specs.declared.tables.Tables.{Tables}
use Rattle.snap_runs.specs.Crossings.{digits_of, link_of}
use Rattle.snap_runs.specs.Reports.{lead_of}
use Rattle.snap_runs.specs.Tallies.{line_of, name_in}
use Rattle.snap_runs.proofs.LineTexts.{line_text-split}
use Rattle.snap_runs.proofs.tally.Tally.put_hop.Goals as goal

pub returns-clause-line : goal.returns-clause-line
returns-clause-line c =
    let v = c.args.net.now in
    let from = c.args.from in
    let x = c.copy-copy.result.now in
    let sw = v.tables.switches in
    let f = c.args.frames in
    let before = c.args.self.now.hops.items in
    let digits = digits_of f x.number x.head x.packet in
    let tables = c.tables-2.ensures.tables ∙ c.tables.ensures.tables in
    let first : c.name_at.result.now ≡ name_in sw from = c.name_at.ensures ∙ ap (λ (t : Tables). name_in t.switches from) tables in
    let second : c.name_at-2.result.now ≡ name_in sw x.at = c.name_at-2.ensures ∙ ap (λ (t : Tables). name_in t.switches x.at) tables in
    let tail : c.deref-2.result.now ≡ digits ++ codes "\n" = c.deref-2.ensures.value ∙ c.in_ok-tail.ensures ∙ ap (λ b. encode_lower (lead_of f x.number ++ b) ++ codes "\n") (c.deref.ensures.value ∙ c.in_ok-frame.ensures) in
    on_ok_weaker c.put_long_line.result
    (λ line. line
    ∙ (λ j. before ++ (link_of (first j) (second j) ++ tail j))
    ∙ ap (λ l. before ++ l) (sym (line_text-split sw digits from x.at))
    ∙ ap (λ o. before ++ line_of f sw from o) (sym c.copy-copy.ensures))
    c.put_long_line.ensures
