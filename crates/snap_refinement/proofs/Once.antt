-- Packets have one report in a run with changes.
use Rattle.std.proofs.Common.{◌≡◌, ℕ, ◌+◌, ◌<◌, Bool, List, [], ◌∷◌, ◌++◌, refl, sym, ap, subst, ◌∙◌, ⊎_elim, append-nil, arith}
use Rattle.std.specs.Prelude.{slice_index}
use Rattle.std.proofs.lemmas.List.Elements.{All-cons, All-head, All-tail}
use Rattle.snap_core.specs.Listing.{IsListing}
use Rattle.snap_rows.specs.declared.tables.Tables.{Tables}
use Rattle.snap_rows.specs.Form.{IsWellFormed}
use Rattle.snap_rows.specs.Network.{Net, Event, Inject, Happening, Leads, RunsBy, StepsFirst, done, on, global_store}
use Rattle.snap_rows.proofs.Runs.{GoesOneWay, IsEnd, runs-end, runs-on, sequential-one}
use Rattle.snap_report.specs.Reports.{end_text}
use Rattle.snap_runs.specs.declared.frames.Frames.TheVariants.{Plain}
use Rattle.snap_runs.specs.Reports.{array_names}
use Rattle.snap_runs.proofs.OneReport.{block_one, listings_one}
use Rattle.snap_runs.proofs.OneRun.{leads_one, steps_copies}
use Rattle.snap_runs.specs.declared.later.Later.{Later}
use Rattle.snap_runs.specs.Changing.{AreBlocksFrom, Between, GoesThrough, IsAhead, Passage, RunsThrough, TakesTurn, Turn, changes, goes}
use Rattle.snap_refinement.specs.ChangeLaws.{AreWellFormed, ChangedBlocksAreOne, ChangedReportsAreOne}

-- ---- one packet
goes_one : (t : Tables) → IsWellFormed t → (k : List ℕ) (s n n' : Net) (hs hs' : List Happening) → GoesThrough t k s n hs → GoesThrough t k s n' hs' → (n ≡ n') × (hs ≡ hs')
goes_one t form k s n n' hs hs' a b =
    let e : Event = Inject (slice_index k 0) k in
    let r = sequential-one (Leads t) (λ (s : Net). s) (leads_one t form) (steps_copies t) (e ∷ a.events) (e ∷ b.events) (ap (λ l. (slice_index k 0, k) ∷ l) (a.no_packets ∙ sym b.no_packets))
    (All-cons StepsFirst e a.events tt a.first) (All-cons StepsFirst e b.events tt b.first) a.rests b.rests a.run b.run in
    (r.1, r.2)

-- ---- the run
-- no change is due where one comes later
never : (l : Later) (ls : List Later) (n : ℕ) → l.after ≡ n → IsAhead (l ∷ ls) n → ⊥
never l ls n due ahead = absurd (let h : n < l.after = ahead in omega (arith, due, h))

abbrev HaveForm : Between → Type 0
HaveForm b = AreWellFormed b.tables b.later

turn_one : GoesOneWay TakesTurn HaveForm
turn_one b e e' n n' h h' form (changes {l = l} {ls = ls} due) (changes due') = (refl, refl, refl, (All-head (λ (x : Later). IsWellFormed x.tables) l ls form.1, All-tail (λ (x : Later). IsWellFormed x.tables) l ls form.1))
turn_one b e e' n n' h h' form (changes {l = l} {ls = ls} {s = s} due) (goes ahead through) = absurd (never l ls s.injected due ahead)
turn_one b e e' n n' h h' form (goes ahead through) (changes {l = l} {ls = ls} {s = s} due) = absurd (never l ls s.injected due ahead)
turn_one b e e' n n' h h' form (goes {k = k} {ks = ks} {t = t} {ls = ls} {s = s} {s' = s1} {hs = hs} ahead through) (goes {s' = s2} {hs = hs'} ahead' through') =
    let one = goes_one t form.0 k s s1 s2 hs hs' through through' in
    (refl, (λ i. record { packets = ks; tables = t; later = ls; net = one.0 i }), (λ i. record { tables = t; happenings = one.1 i } ∷ []), form)

-- where no packet is left nothing more is told, and where no change is due nothing more is done
no_turns : {b n : Between} {es : List Turn} {turns : List Passage} → RunsBy TakesTurn b es n turns → b.packets ≡ [] → turns ≡ []
no_turns done none = refl
no_turns (on (changes due) rest) none = no_turns rest none
no_turns (on (goes {k = k} {ks = ks} ahead through) rest) none = let e : ◌≡◌ {A = List (List ℕ)} (k ∷ ks) [] = none in absurd (cc)

all_through : (t : Tables) (ls : List Later) (s : Net) → IsAhead ls s.injected → IsEnd TakesTurn (record { packets = []; tables = t; later = ls; net = s })
all_through t ls s ahead e n h (changes {l = l} {ls = later} due) = absurd (never l later s.injected due ahead)

-- packets go through one way
module _ {end end' : Tables} {left left' : List Later} {last last' : Net} {t : Tables} {ls : List Later} {s : Net} {ks : List (List ℕ)} {turns turns' : List Passage}
    (form : AreWellFormed t ls) (a : RunsThrough end left last t ls s ks turns) (b : RunsThrough end' left' last' t ls s ks turns') where
  turns_one : turns ≡ turns'
  turns_one = ⊎_elim
      (λ x. sym (x.4 ∙ ap (λ l. turns ++ l) (no_turns x.2 refl) ∙ append-nil turns))
      (λ x. x.4 ∙ ap (λ l. turns' ++ l) (no_turns x.2 refl) ∙ append-nil turns')
      (runs-on TakesTurn HaveForm turn_one form a.1 b.1)

  ends_one : IsAhead left last.injected → IsAhead left' last'.injected → (end ≡ end') × (last ≡ last')
  ends_one ahead ahead' =
      let one = runs-end TakesTurn HaveForm turn_one form a.1 b.1 (all_through end left last ahead) (all_through end' left' last' ahead') in
      (ap (λ (x : Between). x.tables) one.1, ap (λ (x : Between). x.net) one.1)

-- ---- blocks
blocks_one : (hops : Bool) (i : ℕ) (turns : List Passage) (a b : List ℕ) → AreBlocksFrom hops i turns a → AreBlocksFrom hops i turns b → a ≡ b
blocks_one hops i [] a b x y = x ∙ sym y
blocks_one hops i (t ∷ ts) a b x y =
    let here = block_one Plain t.tables hops i t.happenings x.0 y.0 x.2 y.2 in
    let others = blocks_one hops (i + 1) ts x.1 y.1 x.3 y.3 in
    x.4 ∙ (λ j. here j ++ others j) ∙ sym y.4

pub changed_blocks_one : ChangedBlocksAreOne
changed_blocks_one first later form hops ks a b x y =
    blocks_one hops 0 x.turns a b x.blocks (subst (λ turns. AreBlocksFrom hops 0 turns b) (sym (turns_one form x.run y.run)) y.blocks)

pub changed_reports_one : ChangedReportsAreOne
changed_reports_one first later form hops ks a b v w =
    let x = v.ran in
    let y = w.ran in
    let r = v.report in
    let q = w.report in
    let ends = ends_one form x.run y.run x.ahead y.ahead in
    let blocks = blocks_one hops 0 x.turns r.blocks q.blocks r.are (subst (λ turns. AreBlocksFrom hops 0 turns q.blocks) (sym (turns_one form x.run y.run)) q.are) in
    let entries = listings_one (global_store x.end x.state) r.entries q.entries r.listed (subst (λ m. IsListing m q.entries) (λ i. global_store (sym ends.0 i) (sym ends.1 i)) q.listed) in
    r.is ∙ (λ i. blocks i ++ end_text (array_names (ends.0 i)) (entries i)) ∙ sym q.is
