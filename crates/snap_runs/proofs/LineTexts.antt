-- Lines of links, put together from their ends.
use Rattle.std.proofs.Common.{◌≡◌, ℕ, ◌+◌, List, ◌++◌, drop, length, sym, ap, ◌∙◌, arith, append_assoc, length-append, codes}
use Rattle.std.proofs.Math.Seq.{drop-append_seam}
use Rattle.std.proofs.lemmas.List.{drop-drop}
use Rattle.snap_runs.specs.Crossings.{line_text, link_of}
use Rattle.snap_runs.specs.Tallies.{name_in}

pub length-link_of : (from to : List ℕ) → length (link_of from to) ≡ length from + length to + 6
length-link_of from to = omega (arith, length-append from (codes " " ++ (to ++ codes " ")), length-append to (codes " "))

pub link_of-append : (from to rest : List ℕ) → link_of from to ++ rest ≡ codes "hop " ++ (from ++ (codes " " ++ (to ++ (codes " " ++ rest))))
link_of-append from to rest = simp append_assoc

pub line_text-split : (switches : List (List ℕ)) (digits : List ℕ) (from to : ℕ) → line_text switches digits from to ≡ link_of (name_in switches from) (name_in switches to) ++ (digits ++ codes "\n")
line_text-split switches digits from to = sym (link_of-append (name_in switches from) (name_in switches to) (digits ++ codes "\n"))

-- what stands behind a text that was put before it
pub drop-behind : (begin end : ℕ) (xs new rest : List ℕ) → begin + length xs ≡ end → drop begin new ≡ xs ++ rest → drop end new ≡ rest
drop-behind begin end xs new rest long is = ap (λ n. drop n new) (sym long) ∙ sym (drop-drop (length xs) begin new) ∙ ap (drop (length xs)) is ∙ drop-append_seam xs rest
