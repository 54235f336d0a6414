-- A step of a copy at its switch, whatever the other switches hold.
use Rattle.std.proofs.Common.{◌≡◌, ◌≢◌, ⊎_elim, ℕ, ◌+◌, List, [], ◌∷◌, cond, get_or, Some, refl, sym, ap, subst, ◌∙◌}
use Rattle.std.specs.Prelude.{nat_eq, slice_get}
use Rattle.std.specs.List.{All}
use Rattle.std.proofs.lemmas.Bool.{cond-false, cond-true, eqb-false, eqb-true, eq-eqb, ne_eqb}
use Rattle.snap_core.specs.Arrays.{Arrays}
use Rattle.snap_rows.specs.Actions.{Action, Forward, Deliver}
use Rattle.snap_rows.specs.declared.head.Fate.{Fate}
use Rattle.snap_rows.specs.declared.head.Fate.TheVariants as fate
use Rattle.snap_rows.specs.declared.head.Head.TheVariants.{Visit}
use Rattle.snap_rows.specs.declared.tables.Tables.{Tables}
use Rattle.snap_rows.specs.Entries.{next, rank_at}
use Rattle.snap_rows.specs.Handles.{Handles, forked}
use Rattle.snap_rows.specs.Network.{Copy, happening, moved, stepped}
use Rattle.snap_rows.specs.Stepping.{ActsAs, ComesTo, FateArrives, IsBeforeNone, Steps}
use Rattle.snap_rows.specs.Stepping as stepping
use Rattle.snap_rows.proofs.Arrives.{fork_arrives, next_below}
use Rattle.snap_net.specs.declared.flying.Flying.{Flying}
use Rattle.snap_net.specs.declared.happened.Moved.{Moved}
use Rattle.snap_net.specs.Moves.{left_by, told_by}
use Rattle.snap_net.specs.Shown.{flown}
use Rattle.snap_net.proofs.Steps.{acts_leave, acts_tell, flown_moved, moving_of}
use Rattle.snap_faithful.proofs.Leaving.{split_up}
use Rattle.snap_faithful.proofs.Nodes.{IsTwo}
use Rattle.snap_faithful.specs.InOrder.{Becomes, TakesTurns}
use Rattle.snap_order.specs.Hands.{InPlace, StepsHere, StepsTo}
use Rattle.snap_order.specs.Ordered.{Ordered, Happens, Waits, turn_of, visited}
use Rattle.snap_order.specs.Ordered as ordered
use Rattle.snap_order.specs.Turning.{HasCounted, fate_behind, first_of, rank_behind}
use Rattle.snap_order.proofs.Handling.{arrived_in_place, counted_so, kept_so, taken_alike}
use Rattle.snap_order.proofs.Stepped.{Becoming, behind_acts, behind_becomes, counted_none, first_comes, in_order, left_becomes, no_visits, told_becomes, turns_taken}
use Rattle.snap_order.proofs.Taking.{Counts, counts}

-- what becomes of a copy is in its place again
left_in_place : (t : Tables) → IsTwo t → (c : Flying) (f : Fate) → InPlace t c → FateArrives t c.at f → All (InPlace t) (left_by t c f)
left_in_place t two c (fate.Seek x head) p arrives = arrived_in_place t c (Forward (next t c.at x) head) p (next_below t two.form c.at x p.at, arrives)
left_in_place t two c (fate.Deliver port) p arrives = arrived_in_place t c (Deliver port) p tt
left_in_place t two c (fate.Fork outs) p arrives = arrived_in_place t c (forked t outs.now c.packet) p (fork_arrives t c.packet outs.now)
left_in_place t two c (fate.Stay r n) p arrives = arrived_in_place t c (Forward c.at (Visit r n)) p (p.at, arrives)
left_in_place t two c (fate.Wait r) p arrives = arrived_in_place t c (Forward c.at c.head) p (p.at, p.home)

module _ (t : Tables) (two : IsTwo t) (old new : Arrays) (counted counted' : List ℕ) where
  here_is : (s : Ordered) (x : Copy) → cond (nat_eq x.at x.at) new (s.net.stores x.at) ≡ new
  here_is s x = cond-true _ _ _ (eq-eqb x.at x.at refl)

  -- copy x makes a step, of which this becomes
  module _ (x : Copy) (f : Fate) (left : List Flying) (told : Moved) (is : left ≡ left_by t (flown x) f) (tells : told ≡ told_by t (flown x) f) (numbers : HasCounted counted (first_of t x.head) (fate_behind t (first_of t x.head) f) (x.number + 1) counted') where
    -- in every state that has such arrays and numbers at its switch
    abbrev Goes : Type 0
    Goes = (s : Ordered) (i : ℕ) → slice_get s.net.flying i ≡ Some x → s.net.stores x.at ≡ old → ((r : ℕ) → rank_at t r ≡ Some x.at → s.handled r ≡ get_or counted r 0) → StepsTo t (flown x) new counted' left told s i

    -- ranks of other switches keep their numbers
    abbrev Keeps : Type 0
    Keeps = (r : ℕ) → rank_at t r ≢ Some x.at → get_or counted' r 0 ≡ get_or counted r 0

    -- it makes no visits
    passes : (a : Action) → IsBeforeNone t x.at x.packet x.head → ActsAs t x.at x.packet f a → Handles t x.at x.packet old x.head new a → Goes × Keeps
    passes a early acts does =
        let none = behind_acts t x.at x.packet (first_of t x.head) f a acts ∙ no_visits t two early does in (
          (λ s i found stores handled. record {
            state = record s { net = stepped s.net i x new a };
            turn = Happens (happening x a);
            leads = ordered.moves found (λ r n b. early two.version (s.net.stores x.at) r n b.comes b.owner) (subst (λ y. Handles t x.at x.packet y x.head new a) (sym stores) does);
            told_is = tells ∙ acts_tell t (flown x) f a acts ∙ moving_of x a;
            here = here_is s x;
            away = λ w ne. cond-false _ _ _ (ne_eqb w x.at ne);
            counted = λ r own. handled r own ∙ sym (counted_none numbers none r);
            others = λ r ne. refl;
            copies = moved x a;
            flying = refl;
            left_is = flown_moved x a ∙ sym (acts_leave t (flown x) f a acts) ∙ sym is;
            injected = refl;
          }),
          λ r ne. counted_none numbers none r,
        )

    -- it makes visits
    visits : (r n : ℕ) → ComesTo t x.at x.packet old x.head r n → rank_at t r ≡ Some x.at → get_or counted r 0 ≡ x.number → (h : ℕ → ℕ) (b : Becomes) → TakesTurns t x.at x.packet x.number old (λ j. get_or counted j 0) r n new h b
        → Becoming t x.at x.packet f b → Goes × Keeps
    visits r n comes own now h b takes becomes =
        let from = first_comes comes in
        let end : fate_behind t (first_of t x.head) f ≡ rank_behind t b = behind_becomes t x.at x.packet (first_of t x.head) f b becomes in
        let mine = subst (λ q. HasCounted counted q (fate_behind t (first_of t x.head) f) (x.number + 1) counted') from numbers in
        let tally : Counts t x.at x.packet x.number r (rank_behind t b) (λ j. get_or counted j 0) h = counts t x.at x.packet x.number takes in (
          (λ s i found stores handled. (let alike = taken_alike t x.at x.packet x.number takes s.handled handled in
              record {
                state = visited s i x new alike.numbers b;
                turn = turn_of x b;
                leads = ordered.visits found (record { comes = subst (λ y. ComesTo t x.at x.packet y x.head r n) (sym stores) comes; owner = own }) (handled r own ∙ now)
                    (subst (λ y. TakesTurns t x.at x.packet x.number y s.handled r n new alike.numbers b) (sym stores) alike.takes);
                told_is = tells ∙ told_becomes t x f b becomes;
                here = here_is s x;
                away = λ w ne. cond-false _ _ _ (ne_eqb w x.at ne);
                counted = λ q mine'. alike.own q mine' ∙ counted_so tally (λ j. refl) end mine q;
                others = alike.others;
                copies = ordered.left_by x b;
                flying = refl;
                left_is = left_becomes t x f b becomes ∙ sym is;
                injected = refl;
              })),
          λ q ne. kept_so tally end mine q ne,
        )

    -- it waits
    waits : (r n : ℕ) → ComesTo t x.at x.packet old x.head r n → rank_at t r ≡ Some x.at → get_or counted r 0 ≢ x.number → f ≡ fate.Wait r → new ≡ old → Goes × Keeps
    waits r n comes own early so same =
        let none = ap (fate_behind t (first_of t x.head)) so in (
          (λ s i found stores handled. record {
            state = s;
            turn = Waits x r;
            leads = ordered.waits found (record { comes = subst (λ y. ComesTo t x.at x.packet y x.head r n) (sym stores) comes; owner = own }) (λ e. early (sym (handled r own) ∙ e));
            told_is = tells ∙ ap (told_by t (flown x)) so;
            here = stores ∙ sym same;
            away = λ w ne. refl;
            counted = λ q mine. handled q mine ∙ sym (counted_none numbers none q);
            others = λ q ne. refl;
            copies = x ∷ [];
            flying = split_up s.net.flying i x found;
            left_is = sym (is ∙ ap (left_by t (flown x)) so);
            injected = refl;
          }),
          λ q ne. counted_none numbers none q,
        )

    goes : Steps t x.at x.packet (in_order counted x.number) old x.head new f → Goes × Keeps
    goes (stepping.goes {a = a} early acts does) = passes a early acts does
    goes (stepping.visits {r = r} {n = n} version comes own did) =
        ⊎_elim
        (λ w. waits r n comes own (eqb-false (get_or counted r 0) x.number w.2) w.0 w.1)
        (λ d. visits r n comes own (eqb-true (get_or counted r 0) x.number d.0) d.1.0 d.1.1 d.1.2 d.1.3)
        (turns_taken t x.at x.packet x.number (in_order counted x.number) (λ j. get_or counted j 0) old r n (λ j e. eqb-true (get_or counted j 0) x.number e) (λ j e. eqb-false (get_or counted j 0) x.number e) own f did)

  -- a copy makes a step with the visits that are in order
  pub steps_here : (c : Flying) → InPlace t c → (f : Fate) → Steps t c.at c.packet (in_order counted c.number) old c.head new f → FateArrives t c.at f → HasCounted counted (first_of t c.head) (fate_behind t (first_of t c.head) f) (c.number + 1) counted'
      → (left : List Flying) → left ≡ left_by t c f → (told : Moved) → told ≡ told_by t c f → StepsHere t c old counted new counted' left told
  steps_here c place f made arrives numbers left is told tells =
      let x : Copy = record { number = c.number; at = c.at; head = c.head; packet = c.packet; hops = 0; steps = 0 } in
      record {
        others = (goes x f left told is tells numbers made).1;
        long = numbers.long;
        placed = subst (All (InPlace t)) (sym is) (left_in_place t two c f place arrives);
        steps = λ s i y found shown.
            subst (λ (c : Flying). left ≡ left_by t c f → told ≡ told_by t c f → HasCounted counted (first_of t c.head) (fate_behind t (first_of t c.head) f) (c.number + 1) counted' → Steps t c.at c.packet (in_order counted c.number) old c.head new f
            → s.net.stores c.at ≡ old → ((r : ℕ) → rank_at t r ≡ Some c.at → s.handled r ≡ get_or counted r 0) → StepsTo t c new counted' left told s i) shown
            (λ is tells numbers made stores handled. (goes y f left told is tells numbers made).0 s i found stores handled) is tells numbers made;
      }
