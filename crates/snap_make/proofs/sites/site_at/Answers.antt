use Rattle.std.proofs.Common.{◌≡◌, ℕ, cond, true, ap, ◌∙◌}
use Rattle.std.specs.Prelude.{◌&&◌, nat_eq, nat_le}
use Rattle.std.specs.List.{list_any}
use Rattle.snap_core.specs.declared.ports.PortAt.{PortAt}
use Rattle.snap_rows.specs.declared.tables.ArrayAt.{ArrayAt}
use Rattle.snap_rows.specs.Entries.{ranks, ranks_in}
use Rattle.snap_faithful.specs.Planned.{has_port}
use Rattle.snap_make.specs.Sites.{is_visited, is_within}
use Rattle.snap_make.proofs.sites.site_at.Goals as goal

pub returns-clause-site : goal.returns-clause-site
returns-clause-site c =
    let port : c.has_port-port.result ≡ has_port c.args.tables.now c.args.at =
    c.has_port-port.ensures ∙ ap (λ ps. list_any (λ (p : PortAt). nat_eq p.at c.args.at) ps) c.items-ports.ensures in
    let least : (q : ℕ) → is_within c.visited_from-least.result q ≡ is_visited c.args.tables.now c.args.at q = λ q. c.visited_from-least.ensures q
    ∙ (λ i. list_any (λ (p : PortAt). true) (c.items-ports.ensures i) && list_any (λ (a : ArrayAt). nat_eq a.at c.args.at && nat_le a.rank q) (c.items-arrays.ensures i)) in
    let ranks_are : c.ranks-ranks.result ≡ ranks c.args.tables.now = c.ranks-ranks.ensures ∙ ap ranks_in c.items-arrays.ensures in
    let visited : is_within c.visited_from-least.result (ranks c.args.tables.now) ≡ is_visited c.args.tables.now c.args.at (ranks c.args.tables.now) = least (ranks c.args.tables.now) in
    record {
      port = port;
      least = least;
      leaves = c.is_last-leaves.ensures
          ∙ ap (λ n. cond (nat_eq n 0) c.has_port-port.result (is_within c.visited_from-least.result n)) ranks_are
          ∙ (λ i. cond (nat_eq (ranks c.args.tables.now) 0) (port i) (visited i));
    }
