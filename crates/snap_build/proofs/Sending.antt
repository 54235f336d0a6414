-- A policy, and then what only sets components.
use Rattle.std.proofs.Common.{◌≡◌, ◌<◌, ℕ, Bool, true, false, List, [], ◌∷◌, Some, None, map, length, cond, refl, sym, ap, ◌∙◌, ⊎_elim}
use Rattle.std.specs.Prelude.{Option, option_map, slice_set}
use Rattle.std.specs.List.{list_any}
use Rattle.std.specs.FinMap.{contains_key-keys}
use Rattle.std.specs.Int.Bits.{or_zero_r}
use Rattle.std.specs.Ordering.{eq_by_cmp}
use Rattle.std.specs.Cmp.Lexicographic.{bytes_decides, nat_list_cmp_total}
use Rattle.std.proofs.lemmas.Bool.{false≢true, or_cases, or_left, or_right}
use Rattle.std.proofs.lemmas.Cmp.{eq_by_cmp_equiv}
use Rattle.std.proofs.lemmas.Map.Text.{is_eq-slice_cmp}
use Rattle.snap_core.specs.declared.policy.Pol.{Pol}
use Rattle.snap_core.specs.declared.policy.Pol.TheVariants.{Filter, Set, Change, Par', Seq', If', Atomic'}
use Rattle.snap_core.specs.Arrays.{Arrays, has, value_of}
use Rattle.snap_core.specs.Laws.{PutsSmall}
use Rattle.snap_core.specs.Meaning.{Meaning, beside, eval, logged}
use Rattle.snap_core.specs.Packets.{PacketSet, packet_cmp, no_packets, with_packet, with_packets, listed}
use Rattle.snap_core.proofs.EvalLemmas.{listed-one}
use Rattle.snap_core.proofs.PacketSets.{same_packets, contains-listed, union-one}
use Rattle.snap_core.proofs.Small.{Good, stays_fine}
use Rattle.snap_core.proofs.Truths.{both_or_neither}
use Rattle.snap_context.specs.View.{View}
use Rattle.snap_diagrams.specs.declared.node.Node.{Node}
use Rattle.snap_diagrams.specs.Arena.{ExtendsArena}
use Rattle.snap_diagrams.specs.declared.leaf.Leaf.{Leaf}
use Rattle.snap_diagrams.proofs.Shared.{kept}
use Rattle.snap_compose.specs.Substituted.{OnStores, outcome, outcome_at}
use Rattle.snap_compose.specs.Sequence.{in_sequence}
use Rattle.snap_compose.specs.Spread.{besides}
use Rattle.snap_compose.proofs.Folding.{besides_front, all_together-is}
use Rattle.snap_build.specs.Parts.{DoesAs, EndsInSet, IsSet, Sends, sent}
use Rattle.snap_build.proofs.Doing.{same_sequence}

-- ---- packets of a list of packets
abbrev eq : List ℕ → List ℕ → Bool
eq = eq_by_cmp packet_cmp

same : (x y : List ℕ) → eq x y ≡ true → x ≡ y
same x y h = (bytes_decides x y).0 (sym (is_eq-slice_cmp x y) ∙ h)

itself : (x : List ℕ) → eq x x ≡ true
itself x = (eq_by_cmp_equiv nat_list_cmp_total).refl x

found : (q : List ℕ) (g : List ℕ → List ℕ) (xs : List (List ℕ)) → list_any (eq q) (map g xs) ≡ true → (x : List ℕ) × (list_any (eq x) xs ≡ true) × (q ≡ g x)
found q g [] h = absurd (false≢true h)
found q g (x ∷ xs) h =
    ⊎_elim
    (λ here. (x, or_left (eq x x) (list_any (eq x) xs) (itself x), same q (g x) here))
    (λ there. let r = found q g xs there in (r.0, or_right (eq r.0 x) (list_any (eq r.0) xs) r.1, r.2))
    (or_cases (eq q (g x)) (list_any (eq q) (map g xs)) h)

met : (g : List ℕ → List ℕ) (x : List ℕ) (xs : List (List ℕ)) → list_any (eq x) xs ≡ true → list_any (eq (g x)) (map g xs) ≡ true
met g x [] h = absurd (false≢true h)
met g x (y ∷ ys) h =
    ⊎_elim
    (λ here. or_left (eq (g x) (g y)) (list_any (eq (g x)) (map g ys)) (ap (λ z. eq (g x) (g z)) (sym (same x y here)) ∙ itself (g x)))
    (λ there. or_right (eq (g x) (g y)) (list_any (eq (g x)) (map g ys)) (met g x ys there))
    (or_cases (eq x y) (list_any (eq x) ys) h)

twice : (f g : List ℕ → List ℕ) (ks : List (List ℕ)) → with_packets no_packets (map g (listed (with_packets no_packets (map f ks)))) ≡ with_packets no_packets (map (λ k. g (f k)) ks)
twice f g ks = same_packets _ _ (λ q.
    contains-listed (map g (listed first)) q
    ∙ both_or_neither (list_any (eq q) (map g (listed first))) (list_any (eq q) (map (λ k. g (f k)) ks))
    (λ h.
    let a = found q g (listed first) h in
    let b = found a.0 f ks (sym (within a.0) ∙ a.1) in
    ap (λ z. list_any (eq z) (map (λ k. g (f k)) ks)) (a.2 ∙ ap g b.2) ∙ met (λ k. g (f k)) b.0 ks b.1)
    (λ h.
    let b = found q (λ k. g (f k)) ks h in
    ap (λ z. list_any (eq z) (map g (listed first))) b.2 ∙ met g (f b.0) (listed first) (within (f b.0) ∙ met f b.0 ks b.1))
    ∙ sym (contains-listed (map (λ k. g (f k)) ks) q))
  where
    first : PacketSet
    first = with_packets no_packets (map f ks)

    within : (x : List ℕ) → list_any (eq x) (listed first) ≡ list_any (eq x) (map f ks)
    within x = sym (contains_key-keys first x) ∙ contains-listed (map f ks) x

-- ---- outcomes that only send packets
abbrev at : Arrays → PacketSet → Meaning
at m s = record { arrays = m; packets = s; reads = 0; writes = 0 }

abbrev sending : (List ℕ → List ℕ) → Arrays → List ℕ → Option Meaning
sending f m k = Some (sent m (f k))

one_more : (m : Arrays) (s : PacketSet) (k : List ℕ) → beside (Some (at m s)) (Some (sent m k)) ≡ Some (at m (with_packet s k))
one_more m s k = λ i. Some (record { arrays = λ p. either (has 0 p.var) (m p) i; packets = union-one s k i; reads = 0; writes = 0 })
  where
    either : (b : Bool) (x : ℕ) → cond b x x ≡ x
    either true x = refl
    either false x = refl

all_sent : (f : List ℕ → List ℕ) (m : Arrays) (s : PacketSet) (ks : List (List ℕ)) → besides (Some (at m s)) (map (sending f m) ks) ≡ Some (at m (with_packets s (map f ks)))
all_sent f m s [] = refl
all_sent f m s (k ∷ ks) =
    besides_front (Some (at m s)) (Some (sent m (f k))) (map (sending f m) ks)
    ∙ ap (λ a. beside a (Some (sent m (f k)))) (all_sent f m s ks)
    ∙ one_more m (with_packets s (map f ks)) (f k)

sends_all : (f : List ℕ → List ℕ) (o : Meaning) → in_sequence (Some o) (sending f) ≡ Some (record o { packets = with_packets no_packets (map f (listed o.packets)) })
sends_all f o =
    ap (option_map (logged o.reads o.writes)) (all_together-is o.arrays (map (sending f o.arrays) (listed o.packets)) ∙ all_sent f o.arrays no_packets (listed o.packets))
    ∙ (λ i. Some (record { arrays = o.arrays; packets = with_packets no_packets (map f (listed o.packets)); reads = or_zero_r o.reads i; writes = or_zero_r o.writes i }))

then_sends : (f g : List ℕ → List ℕ) (o : Option Meaning) → in_sequence (in_sequence o (sending f)) (sending g) ≡ in_sequence o (sending (λ k. g (f k)))
then_sends f g None = refl
then_sends f g (Some o) =
    ap (λ x. in_sequence x (sending g)) (sends_all f o)
    ∙ sends_all g (record o { packets = with_packets no_packets (map f (listed o.packets)) })
    ∙ (λ i. Some (record o { packets = twice f g (listed o.packets) i }))
    ∙ sym (sends_all (λ k. g (f k)) o)

one_sent : (g : List ℕ → List ℕ) (m : Arrays) (k : List ℕ) → in_sequence (Some (sent m k)) (sending g) ≡ Some (sent m (g k))
one_sent g m k = sends_all g (sent m k) ∙ ap (λ ks. Some (at m (with_packets no_packets (map g ks)))) (listed-one k)

-- ---- policies that only set a component
abbrev put : Pol → List ℕ → List ℕ
put (Filter x) k = k
put (Set c a) k = slice_set k c (value_of a k)
put (Change u) k = k
put (Par' _ p _ q) k = k
put (Seq' _ p _ q) k = k
put (If' x _ p _ q) k = k
put (Atomic' _ p) k = k

set_sends : (q : Pol) → IsSet q → (m : Arrays) (k : List ℕ) → eval q m k ≡ sending (put q) m k
set_sends (Filter x) s m k = absurd s
set_sends (Set c a) s m k = refl
set_sends (Change u) s m k = absurd s
set_sends (Par' _ p _ q) s m k = absurd s
set_sends (Seq' _ p _ q) s m k = absurd s
set_sends (If' x _ p _ q) s m k = absurd s
set_sends (Atomic' _ p) s m k = absurd s

pub sends_set : (v : View) (q : Pol) (ns : List (Node Leaf)) (d : ℕ) → IsSet q → DoesAs v q ns d → Sends v ns d
sends_set v q ns d s does = (put q, λ m k met small. does m k met small ∙ set_sends q s m k)

-- a component is set, and then more
both_send : (v : View) (q : Pol) (old new : List (Node Leaf)) (b d : ℕ) → v.facts ≡ [] → IsSet q → PutsSmall q → (s : Sends v old b)
    → OnStores v (λ m k. outcome new d m k ≡ in_sequence (eval q m k) (outcome old b))
    → OnStores v (λ m k. outcome new d m k ≡ sending (λ x. s.0 (put q x)) m k)
both_send v q old new b d free is puts s w m k met small =
    w m k met small
    ∙ same_sequence v (outcome old b) (sending s.0) (eval q m k) k free met.packet (stays_fine q m k (length k) puts small (refl, met.packet.numbers)) s.1
    ∙ ap (λ x. in_sequence x (sending s.0)) (set_sends q is m k)
    ∙ one_sent s.0 m (put q k)

pub sends_both : (v : View) (q : Pol) (old new : List (Node Leaf)) (b d : ℕ) → v.facts ≡ [] → IsSet q → PutsSmall q → Sends v old b
    → OnStores v (λ m k. outcome new d m k ≡ in_sequence (eval q m k) (outcome old b)) → Sends v new d
sends_both v q old new b d free is puts s w = ((λ x. s.0 (put q x)), both_send v q old new b d free is puts s w)

-- a part, what sets a component, and then more
pub then_does : (v : View) (pol p q : Pol) (old mid new : List (Node Leaf)) (b c d : ℕ) → v.facts ≡ [] → EndsInSet pol p q → PutsSmall p → PutsSmall q → Sends v old b
    → OnStores v (λ m k. outcome mid c m k ≡ in_sequence (eval q m k) (outcome old b))
    → OnStores v (λ m k. outcome new d m k ≡ in_sequence (eval p m k) (outcome mid c))
    → OnStores v (λ m k. outcome new d m k ≡ in_sequence (eval pol m k) (outcome old b))
then_does v pol p q old mid new b c d free e small_p small_q s w all m k met small =
    let good : Good (length k) k = (refl, met.packet.numbers) in
    let sends : eval q ≡ sending (put q) = λ i n x. set_sends q e.set n x i in
    all m k met small
    ∙ same_sequence v (outcome mid c) (sending (λ x. s.0 (put q x))) (eval p m k) k free met.packet (stays_fine p m k (length k) small_p small good) (both_send v q old mid b c free e.set small_q s w)
    ∙ sym (then_sends (put q) s.0 (eval p m k))
    ∙ sym (ap (λ (f : Arrays → List ℕ → Option Meaning). in_sequence (in_sequence (eval p m k) f) (sending s.0)) sends)
    ∙ sym (ap (λ x. in_sequence x (sending s.0)) (e.evals m k))
    ∙ sym (same_sequence v (outcome old b) (sending s.0) (eval pol m k) k free met.packet (stays_fine pol m k (length k) (e.small small_p small_q) small good) s.1)

-- a part, and then another by its diagram
pub then_part : (v : View) (pol p q : Pol) (old new : List (Node Leaf)) (b d : ℕ) → v.facts ≡ [] → EndsInSet pol p q → PutsSmall p → DoesAs v q old b
    → OnStores v (λ m k. outcome new d m k ≡ in_sequence (eval p m k) (outcome old b)) → DoesAs v pol new d
then_part v pol p q old new b d free e puts does w m k met small =
    w m k met small
    ∙ same_sequence v (outcome old b) (eval q) (eval p m k) k free met.packet (stays_fine p m k (length k) puts small (refl, met.packet.numbers)) does
    ∙ sym (e.evals m k)

-- a part by its diagram, and then another that stood before it
pub turn_does : (v : View) (p : Pol) (old mid new : List (Node Leaf)) (a b d : ℕ) → ExtendsArena old mid → b < length old → DoesAs v p mid a
    → OnStores v (λ m k. outcome new d m k ≡ in_sequence (outcome mid a m k) (outcome mid b))
    → OnStores v (λ m k. outcome new d m k ≡ in_sequence (eval p m k) (outcome old b))
turn_does v p old mid new a b d g h does w m k met small =
    w m k met small
    ∙ ap (λ x. in_sequence x (outcome mid b)) (does m k met small)
    ∙ ap (λ y. in_sequence (eval p m k) (outcome_at y)) (kept old mid b g h)
