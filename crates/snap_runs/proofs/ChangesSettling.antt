-- Changes that are due, and packets that go through.
use Rattle.std.proofs.Common.{◌≡◌, ◌≢◌, ℕ, ◌+◌, ◌≤◌, Bool, true, List, [], ◌∷◌, ◌++◌, length, reverse, refl, sym, ap, subst, ◌∙◌, arith, append-nil, length-append}
use Rattle.std.specs.Prelude.{nat_le, slice_index, if◌then◌else◌}
use Rattle.std.proofs.lemmas.Bool.{le-leb, lt-leb}
use Rattle.std.proofs.lemmas.List.{length-map, reverse-append, reverse-reverse}
use Rattle.std.proofs.lemmas.List.Elements.{All-head, All-tail, All-weaker}
use Rattle.snap_core.specs.Arrays.{zero_arrays}
use Rattle.snap_rows.specs.declared.tables.ArrayAt.{ArrayAt}
use Rattle.snap_rows.specs.declared.tables.Tables.{Tables}
use Rattle.snap_rows.specs.Form.{array_count}
use Rattle.snap_rows.specs.Network.{Net, done, on, start}
use Rattle.snap_net.specs.Shown.{Represents}
use Rattle.snap_runs.specs.declared.frames.Frames.TheVariants.{Plain}
use Rattle.snap_runs.specs.Tracing.{HasTaken, changed}
use Rattle.snap_runs.specs.declared.later.Later.{Later}
use Rattle.snap_runs.specs.declared.mover.Mover.{Mover}
use Rattle.snap_runs.specs.Changing.{GoesThrough, HaveShapeOf, IsAhead, IsRising, RunsThrough, Passage, in_force, Changes, Passes, changes, goes}
use Rattle.snap_runs.specs.Moving.{HasSettled, IsFrom, IsNotDue, IsSettled, Keeps, Stands, left_in}
use Rattle.snap_runs.specs.Shapes.{HaveOneShape}
use Rattle.snap_runs.proofs.Through.{through-then}

-- ---- shapes
pub shape-same : (t : Tables) → HaveOneShape t t
shape-same t = record { fields = refl; names = refl }

shape-by : (a b c : Tables) → HaveOneShape a b → HaveOneShape c b → HaveOneShape a c
shape-by a b c x y = record { fields = x.fields ∙ sym y.fields; names = x.names ∙ sym y.names }

pub shape-then : (a b c : Tables) → HaveOneShape a b → HaveOneShape b c → HaveOneShape a c
shape-then a b c x y = record { fields = x.fields ∙ y.fields; names = x.names ∙ y.names }

pub shape-count : (a b : Tables) → HaveOneShape a b → array_count a ≡ array_count b
shape-count a b x = sym (length-map a.arrays (λ (y : ArrayAt). y.name)) ∙ ap (λ (l : List (List ℕ)). length l) x.names ∙ length-map b.arrays (λ (y : ArrayAt). y.name)

-- ---- the next change
-- the next one stands last
next-first : (before : List Later) (l : Later) → reverse (before ++ l ∷ []) ≡ l ∷ reverse before
next-first before l = reverse-append before (l ∷ [])

pub from-ahead : (ls : List Later) (n m : ℕ) → n ≤ m + 1 → IsAhead ls m → IsFrom ls n
from-ahead [] n m less ahead = tt
from-ahead (l ∷ ls) n m less ahead = omega (arith, less, ahead)

-- where none is due, the next comes later
ahead-not_due : (rs : List Later) (n : ℕ) → IsFrom rs n → ((before : List Later) (l : Later) → rs ≡ l ∷ reverse before → l.after ≢ n) → IsAhead rs n
ahead-not_due [] n from other = tt
ahead-not_due (l ∷ ls) n from other =
    let ne : l.after ≢ n = other (reverse ls) l (ap (λ x. l ∷ x) (sym (reverse-reverse ls))) in
    let h : n ≤ l.after = from in
    omega (arith, ne, h)

pub settled-not_due : (m : Mover) → Keeps m → IsNotDue m.later.items m.tracer.net.injected → IsSettled m
settled-not_due m keeps none =
    ahead-not_due (left_in m) m.tracer.net.injected keeps.from
    (λ before l e. none before l (sym (reverse-reverse m.later.items) ∙ ap reverse (e ∙ sym (next-first before l)) ∙ reverse-reverse (before ++ l ∷ [])))

-- the next change has the tables' shape
pub next-shape : (m : Mover) (before : List Later) (l : Later) → m.later.items ≡ before ++ l ∷ [] → Keeps m → HaveOneShape l.tables m.tracer.net.tables
next-shape m before l is keeps =
    All-head (λ (x : Later). HaveOneShape x.tables m.tracer.net.tables) l (reverse before) (subst (HaveShapeOf m.tracer.net.tables) (ap reverse is ∙ next-first before l) keeps.shapes)

-- ---- a change
module _ (old new : Mover) (l : Later) (is : old.later.items ≡ new.later.items ++ l ∷ []) (due : l.after ≡ old.tracer.net.injected) (tables : new.tracer.net.tables ≡ l.tables) (same : new.tracer.net.injected ≡ old.tracer.net.injected) where
  left : left_in old ≡ l ∷ left_in new
  left = ap reverse is ∙ next-first new.later.items l

  module _ (keeps : Keeps old) where
    shapes : HaveShapeOf old.tracer.net.tables (l ∷ left_in new)
    shapes = subst (HaveShapeOf old.tracer.net.tables) left keeps.shapes

    here : HaveOneShape l.tables old.tracer.net.tables
    here = All-head (λ (x : Later). HaveOneShape x.tables old.tracer.net.tables) l (left_in new) shapes

    rising : IsAhead (left_in new) l.after × IsRising (left_in new)
    rising = subst IsRising left keeps.rising

    at : l.after ≡ new.tracer.net.injected
    at = due ∙ sym same

    pub keeps-changed : Keeps new
    keeps-changed = record {
      shapes = subst (λ t. HaveShapeOf t (left_in new)) (sym tables)
          (All-weaker (λ (x : Later). HaveOneShape x.tables old.tracer.net.tables) (λ (x : Later). HaveOneShape x.tables l.tables) (λ x h. shape-by x.tables old.tracer.net.tables l.tables h here) (left_in new)
          (All-tail (λ (x : Later). HaveOneShape x.tables old.tracer.net.tables) l (left_in new) shapes));
      rising = rising.1;
      from = from-ahead (left_in new) new.tracer.net.injected l.after (let h = at in omega (arith, h)) rising.0;
    }

    pub stands-changed : ((s : Net) → Represents old.tracer.net s → Represents new.tracer.net (changed l.tables old.tracer.net.tables s)) → HasSettled old new
    stands-changed shown first later packets turns stands =
        let t = old.tracer.net.tables in
        let ls = left_in new in
        let s' = changed l.tables t stands.state in
        let before : RunsThrough t (l ∷ ls) stands.state first later (start first zero_arrays) packets turns = subst (λ x. RunsThrough t x stands.state first later (start first zero_arrays) packets turns) left stands.run in
        let step : RunsThrough l.tables ls s' t (l ∷ ls) stands.state [] [] = (Changes ∷ [], on (changes (due ∙ sym stands.shows.injected)) done) in
        let run : RunsThrough l.tables ls s' first later (start first zero_arrays) (packets ++ []) (turns ++ []) = through-then l.tables ls s' [] [] before step in
        record {
          state = s';
          run = subst (λ x. RunsThrough x ls s' first later (start first zero_arrays) packets turns) (sym tables)
              (subst (λ ks. RunsThrough l.tables ls s' first later (start first zero_arrays) ks turns) (append-nil packets)
              (subst (λ xs. RunsThrough l.tables ls s' first later (start first zero_arrays) (packets ++ []) xs) (append-nil turns) run));
          shows = shown stands.state stands.shows;
          rests = refl;
          injected = stands.injected;
          as_many = stands.as_many;
          shape = subst (λ x. HaveOneShape x first) (sym tables) (shape-then l.tables t first here stands.shape);
          force = λ i more.
              let n : old.tracer.net.injected ≡ length packets = sym stands.shows.injected ∙ stands.injected in
              let low : nat_le l.after i ≡ true = le-leb l.after i (omega (arith, n, due, more)) in
              stands.force i more ∙ ap (λ x. in_force t x i) left ∙ ap (λ b. if b then in_force l.tables ls i else t) low ∙ ap (λ x. in_force x ls i) (sym tables);
        }

-- ---- a packet
module _ (old new : Mover) (later_same : new.later.items ≡ old.later.items) (tables : new.tracer.net.tables ≡ old.tracer.net.tables) (settled : IsSettled old) where
  pub stands-taken : (hops : Bool) (k before after : List ℕ) (first : Tables) (later : List Later) (packets : List (List ℕ)) (turns : List Passage) (stands : Stands first later packets turns old)
      → (taken : HasTaken Plain old.tracer.net.tables hops (slice_index k 0) k stands.state new.tracer.net before after)
      → Stands first later (packets ++ k ∷ []) (turns ++ record { tables = old.tracer.net.tables; happenings = taken.happenings } ∷ []) new
  stands-taken hops k before after first later packets turns stands taken =
      let t = old.tracer.net.tables in
      let ls = left_in old in
      let turn : Passage = record { tables = t; happenings = taken.happenings } in
      let through : GoesThrough t k stands.state taken.state taken.happenings = record { events = taken.events; no_packets = taken.no_packets; first = taken.first; run = taken.run; rests = taken.rests } in
      let ahead : IsAhead ls stands.state.injected = subst (IsAhead ls) (sym stands.shows.injected) settled in
      let step : RunsThrough t ls taken.state t ls stands.state (k ∷ []) (turn ∷ []) = (Passes k ∷ [], on (goes ahead through) done) in
      let run = through-then t ls taken.state (k ∷ []) (turn ∷ []) stands.run step in
      let longer : length (packets ++ k ∷ []) ≡ length packets + 1 = length-append packets (k ∷ []) in
      let more : length (turns ++ turn ∷ []) ≡ length turns + 1 = length-append turns (turn ∷ []) in
      record {
        state = taken.state;
        run = subst (λ x. RunsThrough x (left_in new) taken.state first later (start first zero_arrays) (packets ++ k ∷ []) (turns ++ turn ∷ [])) (sym tables)
            (subst (λ x. RunsThrough t x taken.state first later (start first zero_arrays) (packets ++ k ∷ []) (turns ++ turn ∷ [])) (sym (ap reverse later_same)) run);
        shows = taken.shows;
        rests = taken.rests;
        injected = taken.injected ∙ ap (λ m. m + 1) stands.injected ∙ sym longer;
        as_many = more ∙ ap (λ m. m + 1) stands.as_many ∙ sym longer;
        shape = subst (λ x. HaveOneShape x first) (sym tables) stands.shape;
        force = λ i within.
            stands.force i (omega (arith, longer, within)) ∙ ap (λ x. in_force t x i) (sym (ap reverse later_same)) ∙ ap (λ x. in_force x (left_in new) i) (sym tables);
      }

-- the tables that are in force
pub force-now : (t : Tables) (ls : List Later) (n : ℕ) → IsAhead ls n → in_force t ls n ≡ t
force-now t [] n ahead = refl
force-now t (l ∷ ls) n ahead = ap (λ b. if b then in_force l.tables ls n else t) (lt-leb l.after n ahead)
