use Rattle.std.proofs.Common.{◌<◌, ◌∙◌, length, length-set, sym, true, arith, string_bytes, String, Global}
use Rattle.std.proofs.lemmas.List.{length-map}
use Rattle.snap_topology.specs.Listing.{string_texts}
use Rattle.snap_placement.specs.DemandListing.{key_texts}
use Rattle.snap_placement.proofs.Marking.{known-more, marks-more, string_texts-at}
use Rattle.snap_placement.proofs.marks.marked.Goals as goal

pub loop-name-preserved : goal.loop-name-preserved
loop-name-preserved c =
    let names = c.args.names.now in
    let i = c.loop-name.name-index in
    let marks = c.loop-name.marks.items in
    let switches = key_texts c.args.numbers.now.keys in
    let lt = c.loop-name-test.true in
    let count = c.loop-name.invariant.count in
    let low = c.in-Some.ensures.0 in
    let all = c.requires in
    let inside : c.in-Some.at < length marks = omega arith in
    let size = length-map names (λ (s : String Global). string_bytes s) in
    let within : i < length (string_texts names) = omega arith in
    let text = string_texts-at names i c.name-item.result lt c.name-item.is ∙ sym c.as_bytes.ensures.value in
    record {
      count = length-set marks c.in-Some.at true ∙ count;
      marks = marks-more switches (string_texts names) marks i c.in-Some.at c.args.count c.as_bytes.result.now within text inside c.in-Some.ensures.2 c.loop-name.invariant.marks;
      known = known-more switches names i c.name-item.result c.as_bytes.result.now lt c.name-item.is c.as_bytes.ensures.value c.in-Some.ensures.1 ∙ c.loop-name.invariant.known;
    }
