-- Component by component.
use Rattle.std.proofs.Common.{◌≡◌, ◌<◌, ◌++◌, ℕ, [], List, length, sym, ap, ◌∙◌, subst, arith, take}
use Rattle.std.proofs.lemmas.List.{append-nil, take_all}
use Rattle.snap_core.specs.declared.policy.Atom.{Atom}
use Rattle.snap_core.specs.declared.policy.Atom.TheVariants.{Comp}
use Rattle.snap_core.specs.declared.policy.Term.{Term}
use Rattle.snap_core.specs.Arrays.{value_of}
use Rattle.snap_core.specs.Fits.{AtomFits}
use Rattle.snap_core.specs.Tests.{after_out, term_value}
use Rattle.snap_core.specs.Terms.{term_code}
use Rattle.snap_compose.specs.PulledBack.{atom_from}
use Rattle.snap_equal.specs.Made.{packet_of}
use Rattle.snap_equal.proofs.Making.{after_out-at}
use Rattle.snap_equal.proofs.PacketCodes.{packet_of-more}
use Rattle.snap_compose.proofs.Values.{after_out-length, term_of-value}
use Rattle.snap_equal.proofs.spelling.spelling.Goals as goal

pub loop-comp-preserved : goal.loop-comp-preserved
loop-comp-preserved c = λ r m k i.
    let comp = c.loop-comp.comp in
    let atom : Atom = c.atom_in-atom.result in
    let size : length k ≡ length c.args.ctx.now.classes = i.packet.long in
    let below : comp < length k = omega (arith, size, c.loop-comp-test.true, c.comps-comps.ensures) in
    let fits : AtomFits (length c.args.ctx.now.classes) atom = subst (λ n. AtomFits n atom) c.comps-comps.ensures c.atom_in-atom.ensures.fits in
    rw c.in_ok-push_term.ensures
    (packet_of-more c.loop-comp.code.items c.read.result r k (after_out c.args.out.now k) comp
    (rw (after_out-length c.args.out.now k) below)
    (c.read.ensures.value m k i
    ∙ ap (λ (t : Term). term_value t k) c.term_of.ensures
    ∙ term_of-value (length c.args.ctx.now.classes) atom k i.packet fits
    ∙ ap (λ (a : Atom). value_of a k) (c.atom_in-atom.ensures.atom ∙ ap (λ (ps : List (ℕ × Atom)). atom_from (Comp comp) ps comp) c.parts.ensures.list)
    ∙ sym (after_out-at c.args.out.now k comp below))
    (c.loop-comp.invariant (term_code c.read.result ++ r) m k i))

pub returns : goal.returns
returns c = λ m k i.
    let size : length k ≡ length c.args.ctx.now.classes = i.packet.long in
    sym (ap (λ (q : List ℕ). packet_of q k) (append-nil c.loop-comp.code.items))
    ∙ c.loop-comp.invariant [] m k i
    ∙ append-nil (take c.loop-comp.comp (after_out c.args.out.now k))
    ∙ take_all c.loop-comp.comp (after_out c.args.out.now k) (let n = after_out-length c.args.out.now k in omega (arith, n, size, c.loop-comp-test.false, c.comps-comps.ensures))
