-- Nothing is dead in a diagram that tests places alone, where those that are spelled differently differ.
use Rattle.std.proofs.Common.{◌≡◌, ◌⊎◌, inl, inr, ℕ, ◌+◌, ◌<◌, ◌≤◌, ◌^◌, Bool, true, false, List, [], ◌∷◌, ◌++◌, length, map, refl, sym, ap, subst, ◌∙◌, arith, append_assoc, append-nil, length-append, bit_or, get_or}
use Rattle.std.specs.Prelude.{All}
use Rattle.std.proofs.lemmas.List.Elements.{All-append, All-tail}
use Rattle.snap_core.proofs.Framed.{in_left}
use Rattle.snap_core.specs.declared.policy.Atom.{Atom}
use Rattle.snap_core.specs.declared.policy.Atom.TheVariants.{Num as Number, Comp}
use Rattle.snap_core.specs.declared.policy.Term.{Term}
use Rattle.snap_core.specs.declared.policy.Term.TheVariants.{Num, Plus}
use Rattle.snap_core.specs.declared.policy.Test.{Test}
use Rattle.snap_core.specs.declared.policy.Test.TheVariants.{Value, Equal, State}
use Rattle.snap_core.specs.Arrays.{Arrays}
use Rattle.snap_core.specs.Inputs.{IsPacket}
use Rattle.snap_core.specs.Listing.{number_in}
use Rattle.snap_context.specs.declared.fact.Fact.{Fact}
use Rattle.snap_context.specs.Classes.{wrap, class_of, normal, atom_class, is_state, var_of, index_of, left_of, IsAtom, IsTerm, IsTest, FactRule, PairRule, Rules, Says}
use Rattle.snap_context.specs.Known.{IsAmong, AtomOver, TermOver}
use Rattle.snap_context.specs.Meets.{Meets}
use Rattle.snap_context.specs.View.{View, IsContext}
use Rattle.snap_context.specs.Lean.{Among}
use Rattle.snap_context.proofs.Among.{all_among, among_at, among_last}
use Rattle.snap_context.proofs.Last.{with_last, last_parts}
use Rattle.snap_context.proofs.Model.{model}
use Rattle.snap_context.specs.declared.tested.Tested.{Tested}
use Rattle.snap_dep.specs.Ranks.{Grouping}
use Rattle.snap_diagrams.specs.Bounds.{Sizes, IsIn}
use Rattle.snap_diagrams.specs.Contexts.{Met}
use Rattle.snap_diagrams.specs.Diagrams.{Diagram, Only, Asks, depth}
use Rattle.snap_diagrams.specs.Order.{Above, IsOrdered}
use Rattle.snap_diagrams.specs.Picks.{IsDiagram, sizes}
use Rattle.snap_diagrams.specs.Places.{AreApart, AreKept, AsksPlaces, AtomIsOwn, AtomIsWithin, ComesBefore, IsKept, IsOutside, IsOwn, StandsAside, TermIsOwn}
use Rattle.snap_diagrams.specs.Pruned.{Someone, With, IsLive}
use Rattle.snap_diagrams.specs.Quiet.{BeginsElsewhere, SameSubject}
use Rattle.snap_diagrams.specs.Tested.{TestsOver}
use Rattle.snap_diagrams.specs.declared.places.Spelling.{Spelling}
use Rattle.snap_diagrams.proofs.Alike.{test_is}
use Rattle.snap_diagrams.proofs.Between.{same_between}
use Rattle.snap_diagrams.proofs.Consistent.{Agree, number_of}
use Rattle.snap_diagrams.proofs.Comparing.{less_trans, not_itself}
use Rattle.snap_diagrams.proofs.Quieting.{one_test, turned}

-- ---- sets of bound components
pub kept_more : (cl : List Term) (bound more c : ℕ) → IsKept cl bound (Comp c) → IsKept cl (bit_or bound more) (Comp c)
kept_more cl bound more c h = elim h [ inl o ↦ inl o | inr b ↦ inr (in_left bound more c b) ]

-- ---- tests of own components are as they are spelled
module _ (cl : List Term) (bound : ℕ) where
  own_index : (ix iy : List Atom) → All (IsAtom (length cl)) ix → All (IsAtom (length cl)) iy → All (AtomIsOwn cl bound) ix → All (AtomIsOwn cl bound) iy
      → map (atom_class cl) ix ≡ map (atom_class cl) iy → ix ≡ iy
  own_index [] [] p q a b e = refl
  own_index [] (y ∷ iy) p q a b e = absurd (cc)
  own_index (x ∷ ix) [] p q a b e = absurd (cc)
  own_index (x ∷ ix) (y ∷ iy) p q a b e =
      let first : atom_class cl x ≡ atom_class cl y = cc in
      let rest : map (atom_class cl) ix ≡ map (atom_class cl) iy = cc in
      let here : x ≡ y = own_atom x y (p 0 x (omega arith)) (q 0 y (omega arith)) (a 0 x (omega arith)) (b 0 y (omega arith)) first in
      let i = own_index ix iy (All-tail (IsAtom (length cl)) x ix p) (All-tail (IsAtom (length cl)) y iy q) (All-tail (AtomIsOwn cl bound) x ix a) (All-tail (AtomIsOwn cl bound) y iy b) rest in
      (λ j. here j ∷ i j)
    where
      own_atom : (x y : Atom) → IsAtom (length cl) x → IsAtom (length cl) y → AtomIsOwn cl bound x → AtomIsOwn cl bound y → atom_class cl x ≡ atom_class cl y → x ≡ y
      own_atom (Number n) (Number o) p q a b e = (let h : n ≡ o = cc in ap Number h)
      own_atom (Number n) (Comp d) p q a b e = elim b.1 [ inl k ↦ absurd (let l : class_of cl d ≡ Plus d 0 = k in cc) | inr h ↦ a.0 d q h (sym e) ]
      own_atom (Comp c) (Number o) p q a b e = elim a.1 [ inl k ↦ absurd (let l : class_of cl c ≡ Plus c 0 = k in cc) | inr h ↦ sym (b.0 c p h e) ]
      own_atom (Comp c) (Comp d) p q a b e = elim a.1 [
        | inr h ↦ sym (b.0 c p h e)
        | inl k ↦ elim b.1 [ inr h ↦ a.0 d q h (sym e) | inl l ↦ (let i : class_of cl c ≡ Plus c 0 = k in let j : class_of cl d ≡ Plus d 0 = l in let h : c ≡ d = cc in ap Comp h) ]
      ]

  own_term : (n : ℕ) (t : Term) → IsTerm n t → TermIsOwn cl t → normal cl t ≡ t
  own_term n (Num x) i o = refl
  own_term n (Plus c p) i o = rw o (let q : wrap 0 p ≡ p = (let l = i.1 in omega (arith, l)) in ap (λ (x : ℕ). Plus c x) q)

  own_pair : (f g : Fact) → IsTest (length cl) f.test → IsTest (length cl) g.test → IsOwn cl bound f.test → IsOwn cl bound g.test → Agree f g → PairRule cl f g
  own_pair f g tf tg hf hg agree passed same = by f.test g.test refl refl
    where
      tells : (y : Bool) (t u : Term) → Says y t u → Says y t u
      tells true t u h = h
      tells false t u h = h

      states : (v w : ℕ) (ix iy : List Atom) (t u : Term) → f.test ≡ State v ix t → g.test ≡ State w iy u → Says g.yes (normal cl t) (normal cl u)
      states v w ix iy t u ef eg =
          let af : IsTest (length cl) (State v ix t) = subst (IsTest (length cl)) ef tf in
          let ag : IsTest (length cl) (State w iy u) = subst (IsTest (length cl)) eg tg in
          let bf : IsOwn cl bound (State v ix t) = subst (IsOwn cl bound) ef hf in
          let bg : IsOwn cl bound (State w iy u) = subst (IsOwn cl bound) eg hg in
          let var : v ≡ w = ap var_of (sym ef) ∙ same.var ∙ ap var_of eg in
          let idx : map (atom_class cl) ix ≡ map (atom_class cl) iy
          = ap (λ (t : Test). map (atom_class cl) (index_of t)) (sym ef) ∙ same.index ∙ ap (λ (t : Test). map (atom_class cl) (index_of t)) eg in
          let subject : SameSubject f.test g.test = rw (ef, eg) (var, own_index ix iy af.1 ag.1 bf.0 bg.0 idx) in
          let h : Says g.yes (number_of f.test) (number_of g.test) = agree passed subject in
          rw (own_term (length cl) t af.2 bf.1, own_term (length cl) u ag.2 bg.1) (tells g.yes t u (rw (ef, eg) at h))

      by : (t u : Test) → f.test ≡ t → g.test ≡ u → Says g.yes (normal cl (left_of f.test)) (normal cl (left_of g.test))
      by (Value c n) u ef eg = absurd (subst (IsOwn cl bound) ef hf)
      by (Equal l r p) u ef eg = absurd (subst (IsOwn cl bound) ef hf)
      by (State v ix t) (Value c o) ef eg = absurd (subst (IsOwn cl bound) eg hg)
      by (State v ix t) (Equal l r p) ef eg = absurd (subst (IsOwn cl bound) eg hg)
      by (State v ix t) (State w iy u) ef eg = rw (ef, eg) (states v w ix iy t u ef eg)

-- ---- facts of a context, and a path behind them
module _ (ranks : List ℕ) (v : View) (ctx : IsContext v) (bound arrays : ℕ) where
  -- the facts of the path, and those of the context on arrays of the set
  abbrev Matters : List Fact → Fact → Type 0
  Matters path f = Among f path ⊎ (Among f v.facts × (is_state f.test ≡ true) × IsAmong arrays (var_of f.test))

  record IsPath (path : List Fact) : Type 0 where
    tests : (f : Fact) → Among f path → IsTest (length v.classes) f.test
    state : (f : Fact) → Among f path → (is_state f.test ≡ true) × IsAmong arrays (var_of f.test)
    own : (f : Fact) → Matters path f → IsOwn v.classes bound f.test
    agree : (f g : Fact) → Among f path → Matters path g → Agree f g × Agree g f

  abbrev Before : List Fact → Test → Type 0
  Before path t = (f : Fact) → Matters path f → ComesBefore ranks t f

  abbrev BeforeAll : List Fact → Diagram → Type 0
  BeforeAll path (Only l) = Unit {0}
  BeforeAll path (Asks t y n) = Before path t

  all_tests : (f : Fact) → Among f v.facts → IsTest (length v.classes) f.test
  all_tests = among_at (λ f. IsTest (length v.classes) f.test) v.facts ctx.rules.tests

  all_pairs : (f : Fact) → Among f v.facts → All (PairRule v.classes f) v.facts
  all_pairs = among_at (λ f. All (PairRule v.classes f) v.facts) v.facts ctx.rules.paired

  rules : (path : List Fact) → IsPath path → Rules (v.facts ++ path) v.classes
  rules path h = record {
    tests = All-append (λ f. IsTest (length v.classes) f.test) v.facts path ctx.rules.tests (all_among (λ f. IsTest (length v.classes) f.test) path h.tests);
    classes = ctx.rules.classes;
    alone = All-append (FactRule v.classes) v.facts path ctx.rules.alone (all_among (FactRule v.classes) path (λ f a i. absurd (let s = (h.state f a).0 in cc)));
    paired = All-append (λ f. All (PairRule v.classes f) (v.facts ++ path)) v.facts path
        (all_among (λ f. All (PairRule v.classes f) (v.facts ++ path)) v.facts
        (λ f a. All-append (PairRule v.classes f) v.facts path (all_pairs f a) (all_among (PairRule v.classes f) path (λ g b. old_new f g a b))))
        (all_among (λ f. All (PairRule v.classes f) (v.facts ++ path)) path
        (λ f a. All-append (PairRule v.classes f) v.facts path (all_among (PairRule v.classes f) v.facts (λ g b. new_old f g a b)) (all_among (PairRule v.classes f) path (λ g b. new_new f g a b))));
  }
    where
      old_new : (f g : Fact) → Among f v.facts → Among g path → PairRule v.classes f g
      old_new f g a b = λ y same.
          let m : Matters path f = inr (a, same.first, subst (IsAmong arrays) (sym same.var) (h.state g b).1) in
          own_pair v.classes bound f g (all_tests f a) (h.tests g b) (h.own f m) (h.own g (inl b)) (h.agree g f b m).1 y same

      new_old : (f g : Fact) → Among f path → Among g v.facts → PairRule v.classes f g
      new_old f g a b = λ y same.
          let m : Matters path g = inr (b, same.second, subst (IsAmong arrays) same.var (h.state f a).1) in
          own_pair v.classes bound f g (h.tests f a) (all_tests g b) (h.own f (inl a)) (h.own g m) (h.agree f g a m).0 y same

      new_new : (f g : Fact) → Among f path → Among g path → PairRule v.classes f g
      new_new f g a b = own_pair v.classes bound f g (h.tests f a) (h.tests g b) (h.own f (inl a)) (h.own g (inl b)) (h.agree f g a (inl b)).0

  matters_last : (path : List Fact) (new f : Fact) → Matters (path ++ new ∷ []) f → Matters path f ⊎ (f ≡ new)
  matters_last path new f (inl a) = elim (among_last f path new a) [ inl o ↦ inl (inl o) | inr e ↦ inr e ]
  matters_last path new f (inr o) = inl (inr o)

  -- a fact on a test that comes behind all
  new_agrees : (f : Fact) (t : Test) (b : Bool) → ComesBefore ranks t f → Agree f (record { test = t; yes = b }) × Agree (record { test = t; yes = b }) f
  new_agrees f t b before = ((λ passed same. absurd (before.1 passed same)), (λ passed same. old f.yes refl same))
    where
      old : (y : Bool) → f.yes ≡ y → SameSubject t f.test → Says y (number_of t) (number_of f.test)
      old true e same = absurd (before.1 e (turned t f.test same))
      old false e same = λ n. not_itself ranks f.test t before.0 (sym (one_test t f.test same n))

  itself_agrees : (t : Test) (b : Bool) → Agree (record { test = t; yes = b }) (record { test = t; yes = b })
  itself_agrees t true passed same = refl
  itself_agrees t false passed same = absurd (cc)

  path_more : (path : List Fact) (t : Test) (b : Bool) → IsPath path → IsTest (length v.classes) t → (is_state t ≡ true) × IsAmong arrays (var_of t) → IsOwn v.classes bound t → Before path t → IsPath (with_last path t b)
  path_more path t b h test state own before = record {
    tests = λ f a. elim (among_last f path new a) [ inl o ↦ h.tests f o | inr e ↦ rw e test ];
    state = λ f a. elim (among_last f path new a) [ inl o ↦ h.state f o | inr e ↦ rw e state ];
    own = λ f a. elim (matters_last path new f a) [ inl o ↦ h.own f o | inr e ↦ rw e own ];
    agree = λ f g a m. elim (among_last f path new a) [
      | inl o ↦ elim (matters_last path new g m) [ inl p ↦ h.agree f g o p | inr e ↦ rw e (new_agrees f t b (before f (inl o))) ]
      | inr e ↦ elim (matters_last path new g m) [ inl p ↦ rw e (let k = new_agrees g t b (before g p) in (k.1, k.0)) | inr i ↦ rw (e, i) (itself_agrees t b, itself_agrees t b) ]
    ];
  }
    where
      new : Fact
      new = record { test = t; yes = b }

  before_more : (path : List Fact) (t : Test) (b : Bool) (d : Diagram) → Before path t → Above ranks t d → (b ≡ true → BeginsElsewhere t d) → BeforeAll (with_last path t b) d
  before_more path t b (Only l) before above other = tt
  before_more path t b (Asks u y n) before above other = λ f m. elim (matters_last path (record { test = t; yes = b }) f m) [
    | inl o ↦ (less_trans ranks f.test t u (before f o).0 above, λ passed same. (before f o).1 passed (same_between ranks f.test t u (before f o).0 above same))
    | inr e ↦ rw e (above, other)
  ]

  module _ (sz : Sizes) (size : sz.comps ≡ length v.classes) (e : Tested) (set : e.arrays ≡ arrays) (s : Spelling) (kept : AreKept v.classes e.comps bound) (apart : AreApart v.classes e.comps bound s) where
    own_comp : (c : ℕ) → c < length v.classes → IsAmong e.comps c → AtomIsOwn v.classes bound (Comp c)
    own_comp c l a = let h = a (let f = ctx.few in omega (arith, l, f)) in ((apart c l).0 h, kept c l h)

    own_number : (n : ℕ) → AtomIsWithin s (Number n) → AtomIsOwn v.classes bound (Number n)
    own_number n w = ((λ d l h e. absurd (elim (subst (IsOutside s) e ((apart d l).1 h).0) [ inl g ↦ omega (arith, g, w.0) | inr g ↦ omega (arith, g, w.1) ])), tt)

    own_atom : (a : Atom) → IsAtom (length v.classes) a → AtomOver e.comps a → AtomIsWithin s a → AtomIsOwn v.classes bound a
    own_atom (Number n) i o w = own_number n w
    own_atom (Comp c) i o w = own_comp c i o

    own_of_term : (t : Term) → IsTerm (length v.classes) t → TermOver e.comps t → TermOver s.terms t → TermIsOwn v.classes t
    own_of_term (Num n) i o w = tt
    own_of_term (Plus c p) i o w = elim (own_comp c i.0 o).1 [
      | inl k ↦ k
      | inr h ↦ absurd (let no = ((apart c i.0).1 h).1 in let yes = w (let l = i.0 in let f = ctx.few in omega (arith, l, f)) in cc)
    ]

    live_path : (P : Arrays → List ℕ → Type 0) (path : List Fact) (d : Diagram)
        → ((m : Arrays) (k : List ℕ) → IsPacket (length v.classes) k → Meets (v.facts ++ path) m k → P m k)
        → IsPath path → BeforeAll path d → AsksPlaces s d → TestsOver e d → IsOrdered ranks d → IsIn sz d → length v.facts + (length path + depth d) ≤ 2 ^ 32 → IsLive P d
    live_path P path (Only l) covers h before asks over order bounds short = tt
    live_path P path (Asks (Value c x) y n) covers h before asks over order bounds short = absurd asks.0
    live_path P path (Asks (Equal l r p) y n) covers h before asks over order bounds short = absurd asks.0
    live_path P path (Asks (State w ix t) y n) covers h before asks over order bounds short = (
      someone true,
      someone false,
      live_path (With P u true) (with_last path u true) y (more true) (longer true)
          (before_more path u true y before order.0 (λ i. asks.1)) asks.2 over.2 order.2 bounds.1 (let a = added true in omega (arith, a, short)),
      live_path (With P u false) (with_last path u false) n (more false) (longer false)
          (before_more path u false n before order.1 (λ i. absurd (cc))) asks.3 over.3 order.3 bounds.2 (let a = added false in omega (arith, a, short)),
    )
      where
        u : Test
        u = State w ix t

        test : IsTest (length v.classes) (State w ix t)
        test = subst (λ (n : ℕ). IsTest n (State w ix t)) size (test_is sz (State w ix t) bounds.0 over.1)

        longer : (b : Bool) → IsPath (with_last path u b)
        longer b = path_more path u b h test (refl, subst (λ (a : ℕ). IsAmong a w) set over.0.0) ((λ i d l. own_atom (get_or ix i d) (test.1 i d l) (over.0.1 i d l) (asks.0.0 i d l)), own_of_term t test.2 over.0.2 asks.0.1) before

        added : (b : Bool) → length (with_last path u b) ≡ length path + 1
        added b = length-append path (record { test = u; yes = b } ∷ [])

        more : (b : Bool) (m : Arrays) (k : List ℕ) → IsPacket (length v.classes) k → Meets (v.facts ++ with_last path u b) m k → With P u b m k
        more b m k p meets =
            let parts = last_parts (v.facts ++ path) u b m k (subst (λ (fs : List Fact). Meets fs m k) (sym (append_assoc v.facts path (record { test = u; yes = b } ∷ []))) meets) in
            (covers m k p parts.0, parts.1)

        someone : (b : Bool) → Someone (With P u b)
        someone b =
            let l = length-append v.facts (with_last path u b) in
            let a = added b in
            let met = model (v.facts ++ with_last path u b) v.classes (rules (with_last path u b) (longer b)) ctx.few (omega (arith, l, a, short)) in
            record { entries = met.entries; packet = met.packet; store = met.is_store; is = more b (number_in met.entries) met.packet met.is_packet met.meets }

-- the law
pub places_live : (g : Grouping) (v : View) (ctx : IsContext v) (e : Tested) (s : Spelling) (bound : ℕ) (t : Test) (y n d : Diagram) → d ≡ Asks t y n
    → AreKept v.classes e.comps bound → AreApart v.classes e.comps bound s
    → All (StandsAside g.ranks v.classes bound e.arrays t) v.facts → AsksPlaces s d → TestsOver e d → IsDiagram g.ranks (sizes g v) d → length v.facts + depth d ≤ 2 ^ 32 → IsLive (Met v) d
places_live g v ctx e s bound t y n d is kept apart aside asks over diagram short =
    let stands = among_at (StandsAside g.ranks v.classes bound e.arrays t) v.facts aside in
    let i : IsDiagram g.ranks (sizes g v) (Asks t y n) = subst (IsDiagram g.ranks (sizes g v)) is diagram in
    rw is (live_path g.ranks v ctx bound e.arrays (sizes g v) refl e refl s kept apart (Met v) [] (Asks t y n)
    (λ m k p meets. record { packet = p; facts = subst (λ (fs : List Fact). Meets fs m k) (append-nil v.facts) meets })
    (record {
      tests = λ f a. absurd a;
      state = λ f a. absurd a;
      own = λ f m. elim m [ inl a ↦ absurd a | inr a ↦ (stands f a.0 a.1 a.2).0 ];
      agree = λ f g a m. absurd a;
    })
    (λ f m. elim m [ inl a ↦ absurd a | inr a ↦ (stands f a.0 a.1 a.2).1 ])
    (subst (AsksPlaces s) is asks) (subst (TestsOver e) is over) i.ordered i.bounds (let room : length v.facts + depth (Asks t y n) ≤ 2 ^ 32 = subst (λ (x : Diagram). length v.facts + depth x ≤ 2 ^ 32) is short in omega (arith, room)))
