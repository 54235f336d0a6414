use Rattle.std.proofs.Common.{◌≡◌, ◌≢◌, ◌<◌, ◌+◌, ◌++◌, refl, sym, ap, subst, ◌∙◌, arith, append_assoc, append-nil}
use Rattle.snap_rows.specs.declared.tables.Tables.{Tables}
use Rattle.snap_rows.specs.Bound.{distance}
use Rattle.snap_rows.specs.Entries.{next}
use Rattle.snap_rows.specs.Form.{switch_count}
use Rattle.snap_rows.specs.Ways.{Way}
use Rattle.snap_rows.proofs.Arrives.{next_below}
use Rattle.snap_rows.proofs.Bounded.{nearer}
use Rattle.snap_runs.specs.Crossings.{line_text, link_of, way_text}
use Rattle.snap_runs.specs.Tallies.{name_in}
use Rattle.snap_runs.proofs.LineTexts.{line_text-split}
use Rattle.snap_runs.proofs.Passing.{way_more, way_ends}
use Rattle.snap_runs.proofs.links.Tail.put_way.Goals as goal

pub loop-at-init : goal.loop-at-init
loop-at-init c = record { below = c.requires.from; tail = refl; put = λ digits ws is way. (ws, way, refl) }

pub loop-at-preserved : goal.loop-at-preserved
loop-at-preserved c =
    let t = c.args.tables.now in
    let x = c.args.to in
    let at = c.loop-at.at in
    let i = c.loop-at.invariant in
    let away : x ≢ at = λ e. c.loop-at-test.true (sym e) in
    let before = c.loop-at.out.items in
    record {
      below = subst (λ n. n < switch_count t) (sym c.next-next.ensures) (next_below t c.tables.ensures.form at x i.below);
      tail = c.put_line.ensures.tail ∙ i.tail;
      put = λ digits ws is way.
          let v = i.put digits ws is way in
          let m = way_more t x at v.0 c.loop-at-test.true v.1 in
          let line = ap (λ (t : Tables). link_of (name_in t.switches at) (name_in t.switches c.next-next.result)) c.tables.ensures.tables in (
            m.0,
            subst (λ n. Way t x n m.0) (sym c.next-next.ensures) m.2,
            ap (λ l. l ++ way_text t.switches digits c.next-next.result m.0)
                (c.in_ok-put_line.ensures.line ∙ (λ j. before ++ (line j ++ (i.tail ∙ is) j)) ∙ ap (λ l. before ++ l) (sym (line_text-split t.switches digits at c.next-next.result)))
                ∙ append_assoc before (line_text t.switches digits at c.next-next.result) (way_text t.switches digits c.next-next.result m.0)
                ∙ ap (λ n. before ++ (line_text t.switches digits at n ++ way_text t.switches digits n m.0)) c.next-next.ensures
                ∙ ap (λ l. before ++ way_text t.switches digits at l) (sym m.1)
                ∙ v.2,
          );
    }

pub loop-at-smaller : goal.loop-at-smaller
loop-at-smaller c =
    let t = c.args.tables.now in
    let x = c.args.to in
    let at = c.loop-at.at in
    let near : distance t (next t at x) x + 1 ≡ distance t at x = nearer t c.tables.ensures.valid c.tables.ensures.form at x c.loop-at.invariant.below c.requires.to (λ e. c.loop-at-test.true (sym e)) in
    let same : distance t c.next-next.result x ≡ distance t (next t at x) x = ap (λ n. distance t n x) c.next-next.ensures in
    omega (arith, near, same)

pub returns : goal.returns
returns c = λ digits is ws way.
    let t = c.args.tables.now in
    let v = c.loop-at.invariant.put digits ws is way in
    sym (append-nil c.loop-at.out.items)
    ∙ ap (λ l. c.loop-at.out.items ++ way_text t.switches digits c.loop-at.at l) (sym (way_ends t c.args.to c.loop-at.at v.0 c.loop-at-test.false v.1))
    ∙ v.2
