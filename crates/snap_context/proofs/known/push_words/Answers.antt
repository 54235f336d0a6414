-- One word more.
use Rattle.std.proofs.Common.{◌++◌, sym, ap, ◌∙◌, arith, List, ℕ}
use Rattle.std.specs.Global.{Vec}
use Rattle.snap_context.proofs.Words.{pushed_all, pushed_more, pushed_none, pushed_skip}
use Rattle.snap_context.proofs.known.push_words.Goals.{then-i-eq0+in_ok-extend_from_slice, else-i-eq0+else-not-same_words}
use Rattle.snap_context.proofs.known.push_words.Goals as goal

pub loop-i-init : goal.loop-i-init
loop-i-init c = pushed_none c.args.words.now c.args.key.now.items

pub loop-i-preserved : goal.loop-i-preserved
loop-i-preserved c = elim c.if-i-eq0.branch [
  | then-i-eq0+in_ok-extend_from_slice w ↦ rw w.key-is (
      pushed_more c.args.words.now c.loop-i.i c.args.key.now.items c.loop-i.key.items _ w.index-words-i-then-i-eq0.result c.loop-i-test.true (c.requires c.loop-i.i w.index-words-i-then-i-eq0.result c.loop-i-test.true)
      (w.in_ok-extend_from_slice.ensures.items ∙ ap (λ (xs : List ℕ). c.loop-i.key.items ++ xs) (w.deref-then-i-eq0.ensures.value ∙ ap (λ (v : Vec ℕ). v.items) w.index-words-i-then-i-eq0.is)) c.loop-i.invariant)
  | else-i-eq0+else-not-same_words w ↦ rw w.key-is (
      pushed_skip c.args.words.now c.loop-i.i c.args.key.now.items c.loop-i.key.items w.index-words-i.result w.index-words-i-else-i-eq0.result c.loop-i-test.true (omega (arith, w.if-i-eq0.false))
      (sym (w.deref.ensures.value ∙ ap (λ (v : Vec ℕ). v.items) w.index-words-i.is) ∙ (w.same_words.ensures w.if-not-same_words.false ∙ (w.deref-else-i-eq0.ensures.value ∙ ap (λ (v : Vec ℕ). v.items) w.index-words-i-else-i-eq0.is))) c.loop-i.invariant)
]

pub returns : goal.returns
returns c = pushed_all c.args.words.now c.loop-i.i c.args.key.now.items c.loop-i.key.items c.loop-i-test.false c.loop-i.invariant
