-- What a test is about, with more besides.
use Rattle.std.proofs.Common.{ℕ, ◌+◌, ◌<◌, List, ◌∷◌, length, take, get_or, bit_or}
use Rattle.std.specs.Prelude.{All}
use Rattle.std.proofs.lemmas.List.{take_more}
use Rattle.std.proofs.lemmas.List.Elements.{All-cons, All-push, All-weaker}
use Rattle.snap_core.proofs.Framed.{in_left, in_right}
use Rattle.snap_core.specs.declared.policy.Atom.{Atom}
use Rattle.snap_core.specs.declared.policy.Atom.TheVariants.{Num as Number, Comp}
use Rattle.snap_core.specs.declared.policy.Term.{Term}
use Rattle.snap_core.specs.declared.policy.Term.TheVariants.{Num, Plus}
use Rattle.snap_core.specs.declared.policy.Test.{Test}
use Rattle.snap_core.specs.declared.policy.Test.TheVariants.{Value, Equal, State}
use Rattle.snap_context.specs.declared.fact.Fact.{Fact}
use Rattle.snap_context.specs.declared.tested.Tested.{Tested}
use Rattle.snap_context.specs.Known.{IsAmong, AtomOver, TermOver, TestOver}

pub among_left : (a b n : ℕ) → IsAmong a n → IsAmong (bit_or a b) n
among_left a b n h = λ l. in_left a b n (h l)

pub among_right : (a b n : ℕ) → IsAmong b n → IsAmong (bit_or a b) n
among_right a b n h = λ l. in_right a b n (h l)

atom_left : (a b : ℕ) (x : Atom) → AtomOver a x → AtomOver (bit_or a b) x
atom_left a b (Number n) h = tt
atom_left a b (Comp c) h = among_left a b c h

atom_right : (a b : ℕ) (x : Atom) → AtomOver b x → AtomOver (bit_or a b) x
atom_right a b (Number n) h = tt
atom_right a b (Comp c) h = among_right a b c h

pub index_left : (a b : ℕ) (ix : List Atom) → All (AtomOver a) ix → All (AtomOver (bit_or a b)) ix
index_left a b ix h = All-weaker (AtomOver a) (AtomOver (bit_or a b)) (atom_left a b) ix h

index_right : (a b : ℕ) (ix : List Atom) → All (AtomOver b) ix → All (AtomOver (bit_or a b)) ix
index_right a b ix h = All-weaker (AtomOver b) (AtomOver (bit_or a b)) (atom_right a b) ix h

term_left : (a b : ℕ) (t : Term) → TermOver a t → TermOver (bit_or a b) t
term_left a b (Num n) h = tt
term_left a b (Plus c p) h = among_left a b c h

pub term_right : (a b : ℕ) (t : Term) → TermOver b t → TermOver (bit_or a b) t
term_right a b (Num n) h = tt
term_right a b (Plus c p) h = among_right a b c h

pub atom_more : (a b : ℕ) (ix : List Atom) (i : ℕ) (x : Atom) → i < length ix → All (AtomOver a) (take i ix) → AtomOver b (get_or ix i x) → All (AtomOver (bit_or a b)) (take (i + 1) ix)
atom_more a b ix i x l h new = rw (take_more ix i x l)
    (All-push (AtomOver (bit_or a b)) (take i ix) (get_or ix i x) (index_left a b (take i ix) h) (atom_right a b (get_or ix i x) new))

pub test_left : (a b : Tested) (t : Test) → TestOver a.comps a.arrays t → TestOver (bit_or a.comps b.comps) (bit_or a.arrays b.arrays) t
test_left a b (Value c n) h = among_left a.comps b.comps c h
test_left a b (Equal l r p) h = (among_left a.comps b.comps l h.0, among_left a.comps b.comps r h.1)
test_left a b (State v ix t) h = (among_left a.arrays b.arrays v h.0, index_left a.comps b.comps ix h.1, term_left a.comps b.comps t h.2)

pub test_right : (a b : Tested) (t : Test) → TestOver b.comps b.arrays t → TestOver (bit_or a.comps b.comps) (bit_or a.arrays b.arrays) t
test_right a b (Value c n) h = among_right a.comps b.comps c h
test_right a b (Equal l r p) h = (among_right a.comps b.comps l h.0, among_right a.comps b.comps r h.1)
test_right a b (State v ix t) h = (among_right a.arrays b.arrays v h.0, index_right a.comps b.comps ix h.1, term_right a.comps b.comps t h.2)

pub all_over : (a b : Tested) (f : Fact) (fs : List Fact) → TestOver a.comps a.arrays f.test → All (λ g. TestOver b.comps b.arrays g.test) fs → All (λ g. TestOver (bit_or a.comps b.comps) (bit_or a.arrays b.arrays) g.test) (f ∷ fs)
all_over a b f fs h rest =
    All-cons (λ (g : Fact). TestOver (bit_or a.comps b.comps) (bit_or a.arrays b.arrays) g.test) f fs (test_left a b f.test h)
    (λ i d l. test_right a b (get_or fs i d).test (rest i d l))
