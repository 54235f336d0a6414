-- The key is the classes and the facts, behind the label.
use Rattle.std.proofs.Common.{◌++◌, List, ℕ, ap, refl, subst, ◌∙◌}
use Rattle.std.specs.Global.{Vec}
use Rattle.std.proofs.lemmas.List.Sorted.{IsPermutation-sym}
use Rattle.snap_context.specs.Known.{all_known, classes_key, normals_key, HasWords}
use Rattle.snap_context.proofs.Words.{each_is_word, same_facts, words_sorted}
use Rattle.snap_context.proofs.known.known.Goals as goal

pub returns-then-branch : goal.returns-then-branch
returns-then-branch c =
    let ns = all_known c.args.classes.now c.in-Some.roots c.settled-settled.result c.args.facts.now in (
      classes_key c.args.comps 0 c.args.classes.now ++ normals_key ns,
      rw (c.in_ok-push_facts.ensures, c.in_ok-key.ensures) refl,
      record {
        roots = c.in-Some.roots;
        settled = c.settled-settled.result;
        classes = c.in-Some.ensures.classes;
        facts = c.in-Some.ensures.facts;
        calm = c.settled-settled.ensures;
        told = ns;
        same = λ n. ((λ h. h), (λ h. h));
        is = refl;
      },
    )

pub push_words-requires : goal.push_words-requires
push_words-requires c =
    let ns = all_known c.args.classes.now c.in-Some.roots c.settled-settled.result c.args.facts.now in
    let p = c.sort_unstable_by.ensures.permutation in
    rw c.deref.ensures.value (each_is_word c.sort_unstable_by.new.self.items ns (words_sorted c.in_ok-words.words.items c.sort_unstable_by.new.self.items ns p (IsPermutation-sym _ _ p) c.in_ok-words.ensures))

pub returns : goal.returns
returns c =
    let ns = all_known c.args.classes.now c.in-Some.roots c.settled-settled.result c.args.facts.now in
    let p = c.sort_unstable_by.ensures.permutation in
    let sorted : HasWords c.sort_unstable_by.new.self.items ns = words_sorted c.in_ok-words.words.items c.sort_unstable_by.new.self.items ns p (IsPermutation-sym _ _ p) c.in_ok-words.ensures in
    let k = c.in_ok-push_words.ensures in
    let told : HasWords c.sort_unstable_by.new.self.items k.0 = subst (λ (ws : List (Vec ℕ)). HasWords ws k.0) c.deref.ensures.value k.1 in (
      classes_key c.args.comps 0 c.args.classes.now ++ normals_key k.0,
      k.2 ∙ ap (λ (xs : List ℕ). xs ++ normals_key k.0) c.in_ok-sorted.ensures,
      record {
        roots = c.in-Some.roots;
        settled = c.settled-settled.result;
        classes = c.in-Some.ensures.classes;
        facts = c.in-Some.ensures.facts;
        calm = c.settled-settled.ensures;
        told = k.0;
        same = same_facts c.sort_unstable_by.new.self.items k.0 ns told sorted;
        is = refl;
      },
    )
