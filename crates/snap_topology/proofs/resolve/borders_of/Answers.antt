use Rattle.std.proofs.Common.{◌≡◌, ◌∙◌, ap, refl, sym, subst, List, ℕ, map, find, Contains, flat_map}
use Rattle.std.specs.List.Sorted.{IsStrictlySortedBy}
use Rattle.std.proofs.lemmas.Result.{err_from_is_err_and}
use Rattle.snap_topology.specs.Answer.{first_repeat, is_unknown}
use Rattle.snap_topology.specs.Listing.{key_texts, pair_text, spelled_by, string_texts}
use Rattle.snap_core.specs.Ports.{link_cmp}
use Rattle.snap_topology.specs.Spells.{numbered, port_at, ends}
use Rattle.snap_topology.proofs.Stages.{all-known, unknown-links, unknown-ports}
use Rattle.snap_topology.proofs.resolve.borders_of.Goals as goal

pub returns-in_err-links-clause-answer : goal.returns-in_err-links-clause-answer
returns-in_err-links-clause-answer c =
    let p = err_from_is_err_and c.from_residual-in_err-links.result c.from_residual-in_err-links.ensures.1 in
    let s = spelled_by c.args.listing.now in
    let names = key_texts c.in_ok-numbers.numbers in
    let texts = ap string_texts c.deref.ensures.value in
    rw (p.1, p.2) (λ memory. unknown-links s names c.in_err-links.field-0.0 (c.in_ok-numbers.ensures.ok.1 ∙ texts) c.in_ok-within_limits.ensures.ok (ap first_repeat (sym texts) ∙ c.in_ok-numbers.ensures.ok.0)
    (rw c.deref-2.ensures.value at (c.in_err-links.ensures.unknown memory)))

pub returns-in_err-ports-clause-answer : goal.returns-in_err-ports-clause-answer
returns-in_err-ports-clause-answer c =
    let p = err_from_is_err_and c.from_residual-in_err-ports.result c.from_residual-in_err-ports.ensures.1 in
    let s = spelled_by c.args.listing.now in
    let names = key_texts c.in_ok-numbers.numbers in
    let texts = ap string_texts c.deref.ensures.value in
    let links = ap (λ ls. find (is_unknown names) (flat_map ends (map pair_text ls))) (sym c.deref-2.ensures.value) in
    rw (p.1, p.2) (λ memory. unknown-ports s names c.in_err-ports.field-0.0 (c.in_ok-numbers.ensures.ok.1 ∙ texts) c.in_ok-within_limits.ensures.ok (ap first_repeat (sym texts) ∙ c.in_ok-numbers.ensures.ok.0)
    (links ∙ c.in_ok-links.ensures.ok.0) (c.in_err-ports.ensures.unknown memory))

pub returns-clause-answer : goal.returns-clause-answer
returns-clause-answer c =
    let s = spelled_by c.args.listing.now in
    let names = key_texts c.in_ok-numbers.numbers in
    let texts = ap string_texts c.deref.ensures.value in
    let same : names ≡ s.switches = c.in_ok-numbers.ensures.ok.1 ∙ texts in
    let links = ap (λ ls. find (is_unknown names) (flat_map ends (map pair_text ls))) (sym c.deref-2.ensures.value) in
    let listed : c.in_ok-links.links.items ≡ map (numbered s.switches) s.links = c.in_ok-links.ensures.ok.1 ∙ ap (λ ls. map (numbered names) (map pair_text ls)) c.deref-2.ensures.value ∙ ap (λ ns. map (numbered ns) s.links) same in
    all-known s names _ same c.in_ok-within_limits.ensures.ok (ap first_repeat (sym texts) ∙ c.in_ok-numbers.ensures.ok.0) (links ∙ c.in_ok-links.ensures.ok.0) c.in_ok-ports.ensures.ok.0
    (record {
      switches = refl;
      links = λ link. (
        λ here. subst (λ (ls : List (ℕ × ℕ)). Contains ls link) listed ((c.once.ensures.same link).0 (subst (λ (ls : List (ℕ × ℕ)). Contains ls link) c.new.ensures here)),
        λ there. subst (λ (ls : List (ℕ × ℕ)). Contains ls link) (sym c.new.ensures) ((c.once.ensures.same link).1 (subst (λ (ls : List (ℕ × ℕ)). Contains ls link) (sym listed) there)),
      );
      links_rise = subst (λ (ls : List (ℕ × ℕ)). IsStrictlySortedBy link_cmp ls) (sym c.new.ensures) c.once.ensures.rise;
      ports = c.new-2.ensures ∙ c.in_ok-ports.ensures.ok.1 ∙ ap (λ ns. map (port_at ns) s.ports) same;
    })
