-- A text is read in one way.
use Rattle.std.proofs.Common.{◌≡◌, ◌≢◌, ℕ, ◌+◌, ◌<◌, List, [], ◌++◌, Some, None, Result, Ok, Err, refl, sym, ap, subst, ◌∙◌, arith, append-nil, append_assoc, inl, inr, ⊎_elim}
use Rattle.std.specs.Prelude.{◌⊎◌, ◌==◌, codes, if◌then◌else◌}
use Rattle.std.proofs.lemmas.Bool.{cases_lt}
use Rattle.snap_core.specs.declared.program.Which.{Which}
use Rattle.snap_rows.specs.declared.tables.Rule.{Rule}
use Rattle.snap_rows.specs.declared.tables.Rule.TheVariants.{Link, Loop, Kind, Owner, Rise, Order, Missing, Spare}
use Rattle.snap_rows.specs.declared.tables.Spot.{Spot}
use Rattle.snap_rows.specs.declared.tables.Spot.TheVariants as spot
use Rattle.snap_rows.specs.declared.tables.Tables.{Tables}
use Rattle.snap_rows.specs.Rules.{PrecedesSpot, IsFirstBroken, IsValid, rule_number}
use Rattle.snap_tables.specs.Drafts.{IsNoFirst}
use Rattle.snap_tables.specs.Exact.{ReadsEach, ReadsOneWay}
use Rattle.snap_tables.specs.Lines.{Begins, Follows, IsBadLine, IsBeginning, IsRead, IsWhole, at_first, behind_beginning, behind_last, front_text, item_line, line_of, lines_of, passed, with_item}
use Rattle.snap_tables.specs.Text.{first_line, last_line, names_text, rows_text, text, ways_text}
use Rattle.snap_tables.specs.declared.fault.TablesFault.{TablesFault}
use Rattle.snap_tables.specs.declared.fault.TablesFault.TheVariants as fault
use Rattle.snap_tables.specs.declared.item.Item.{Item}
use Rattle.snap_tables.proofs.Exact.{end-cut, meets, versions}
use Rattle.snap_tables.proofs.Formed.{in-form}
use Rattle.snap_tables.proofs.OneItem.{item-no-end, item-one}
use Rattle.snap_tables.proofs.PieceLaws.{none-some, some-same}
use Rattle.snap_tables.proofs.Walks.{Ahead}

-- ---- the first broken rule and its first spot are one

rule_at : ℕ → Rule
rule_at n = if n == 0 then Link else (if n == 1 then Loop else (if n == 2 then Kind else (if n == 3 then Owner else (if n == 4 then Rise else (if n == 5 then Order else (if n == 6 then Missing else Spare))))))

rule-there : (r : Rule) → rule_at (rule_number r) ≡ r
unfolding rule_at
rule-there Link = refl
rule-there Loop = refl
rule-there Kind = refl
rule-there Owner = refl
rule-there Rise = refl
rule-there Order = refl
rule-there Missing = refl
rule-there Spare = refl

same-rule : (a b : Rule) → rule_number a ≡ rule_number b → a ≡ b
same-rule a b e = sym (rule-there a) ∙ ap rule_at e ∙ rule-there b

numbers : {P : Type 0} (i j : ℕ) → (i < j → P) → (i ≡ j → P) → (j < i → P) → P
numbers i j less same more = ⊎_elim less (λ ge. ⊎_elim more (λ other. same (omega arith)) (cases_lt j i)) (cases_lt i j)

data Order' (x y : Spot) : Type 0 where
  before : PrecedesSpot x y → Order' x y
  same : x ≡ y → Order' x y
  after : PrecedesSpot y x → Order' x y

order : (x y : Spot) → Order' x y
order (spot.Hop i) (spot.Hop j) = numbers i j before (λ e. same (ap spot.Hop e)) after
order (spot.Hop i) (spot.Port j) = before tt
order (spot.Hop i) (spot.Row j) = before tt
order (spot.Hop i) (spot.Array j) = before tt
order (spot.Port i) (spot.Hop j) = after tt
order (spot.Port i) (spot.Port j) = numbers i j before (λ e. same (ap spot.Port e)) after
order (spot.Port i) (spot.Row j) = before tt
order (spot.Port i) (spot.Array j) = before tt
order (spot.Row i) (spot.Hop j) = after tt
order (spot.Row i) (spot.Port j) = after tt
order (spot.Row i) (spot.Row j) = numbers i j before (λ e. same (ap spot.Row e)) after
order (spot.Row i) (spot.Array j) = before tt
order (spot.Array i) (spot.Hop j) = after tt
order (spot.Array i) (spot.Port j) = after tt
order (spot.Array i) (spot.Row j) = after tt
order (spot.Array i) (spot.Array j) = numbers i j before (λ e. same (ap spot.Array e)) after

module _ (t : Tables) where
  rules-once : (a b : Rule) (x y : Spot) → IsFirstBroken t a x → IsFirstBroken t b y → a ≡ b
  rules-once a b x y h k = numbers (rule_number a) (rule_number b) (λ less. absurd (h.broken (k.rules a less x))) (same-rule a b) (λ more. absurd (k.broken (h.rules b more y)))

  spots-once : (rule : Rule) (x y : Spot) → IsFirstBroken t rule x → IsFirstBroken t rule y → x ≡ y
  spots-once rule x y h k = at (order x y)
    where
      at : Order' x y → x ≡ y
      at (before b) = absurd (h.broken (k.spots x b))
      at (same e) = e
      at (after b) = absurd (k.broken (h.spots y b))

  -- whole tables are valid, or break a rule
  abbrev IsJudged : Result Tables TablesFault → Type 0
  IsJudged a = ((a ≡ Ok t) × IsValid t) ⊎ ((rule : Rule) × (s : Spot) × IsFirstBroken t rule s × (a ≡ Err (fault.Broken rule (line_of t s))))

  judged-once : (a b : Result Tables TablesFault) → IsJudged a → IsJudged b → a ≡ b
  judged-once a b (inl h) (inl k) = h.0 ∙ sym k.0
  judged-once a b (inl h) (inr k) = absurd (k.2.broken (h.1 k.0 k.1))
  judged-once a b (inr h) (inl k) = absurd (h.2.broken (k.1 h.0 h.1))
  judged-once a b (inr h) (inr k) =
      let rules = rules-once h.0 k.0 h.1 k.1 h.2 k.2 in
      let spots = spots-once k.0 h.1 k.1 (subst (λ r. IsFirstBroken t r h.1) rules h.2) k.2 in
      h.3 ∙ (λ i. Err (fault.Broken (rules i) (line_of t (spots i)))) ∙ sym k.3

-- ---- where reading stops behind a beginning, and what it answers
data Stop (t : Tables) (rest : List ℕ) (a : Result Tables TablesFault) : Type 0 where
  bad : a ≡ Err (fault.Line (lines_of t + 1)) → ((it : Item) (more : List ℕ) → Follows t it → rest ≢ item_line t.version it ++ more) → ((more : List ℕ) → IsWhole t → rest ≢ last_line ++ more) → Stop t rest a
  past_end : (more : List ℕ) → a ≡ Err (fault.Line (lines_of t + 2)) → rest ≡ last_line ++ more → IsWhole t → more ≢ [] → Stop t rest a
  many : (which : Which) (n : ℕ) (it : Item) (more : List ℕ) → a ≡ Err (fault.Limit which n) → rest ≡ item_line t.version it ++ more → Follows t it → passed (with_item t it) it ≡ Some (which, n) → Stop t rest a
  whole : rest ≡ last_line → IsWhole t → IsJudged t a → Stop t rest a

module _ (t : Tables) (h : IsBeginning t) (rest : List ℕ) where
  end-no-entry : (more : List ℕ) (it : Item) (m : List ℕ) → rest ≡ last_line ++ more → rest ≡ item_line t.version it ++ m → ⊥
  end-no-entry more it m e f = item-no-end t h it m (codes "nd\n" ++ more) (sym f ∙ e)

  end-alone : rest ≡ last_line → rest ≡ last_line ++ []
  end-alone e = e ∙ sym (append-nil last_line)

  -- behind it no entry within the counts goes on
  stopped : (a : Result Tables TablesFault) → Stop t rest a → (it : Item) (more : List ℕ) → Follows t it → passed (with_item t it) it ≡ None → rest ≢ item_line t.version it ++ more
  stopped a (bad e none end) it more fo few is = none it more fo is
  stopped a (past_end m e was w other) it more fo few is = end-no-entry m it more was is
  stopped a (many which n jt m e was go over) it more fo few is =
      let one = (item-one t h jt it m more go fo (sym was ∙ is)).0 in
      none-some (which, n) (sym (ap (λ x. passed (with_item t x) x) one ∙ few) ∙ over)
  stopped a (whole was w j) it more fo few is = end-no-entry [] it more (end-alone was) is

  -- one answer is given there
  stop-once : (a b : Result Tables TablesFault) → Stop t rest a → Stop t rest b → a ≡ b
  stop-once a b (bad e none end) (bad f none' end') = e ∙ sym f
  stop-once a b (bad e none end) (past_end more f is w other) = absurd (end more w is)
  stop-once a b (bad e none end) (many which n it more f is fo over) = absurd (none it more fo is)
  stop-once a b (bad e none end) (whole is w j) = absurd (end [] w (end-alone is))
  stop-once a b (past_end more e is w other) (bad f none end) = absurd (end more w is)
  stop-once a b (past_end more e is w other) (past_end m f was w' other') = e ∙ sym f
  stop-once a b (past_end more e is w other) (many which n it m f was fo over) = absurd (end-no-entry more it m is was)
  stop-once a b (past_end more e is w other) (whole was w' j) = absurd (other (end-cut more (sym is ∙ was)))
  stop-once a b (many which n it more e is fo over) (bad f none end) = absurd (none it more fo is)
  stop-once a b (many which n it more e is fo over) (past_end m f was w other) = absurd (end-no-entry m it more was is)
  stop-once a b (many which n it more e is fo over) (many kind k jt m f was go past) =
      let one = (item-one t h it jt more m fo go (sym is ∙ was)).0 in
      let same = some-same (which, n) (kind, k) (sym over ∙ ap (λ x. passed (with_item t x) x) one ∙ past) in
      e ∙ ap (λ (x : Which × ℕ). Err (fault.Limit x.0 x.1)) same ∙ sym f
  stop-once a b (many which n it more e is fo over) (whole was w j) = absurd (end-no-entry [] it more (end-alone was) is)
  stop-once a b (whole is w j) (bad f none end) = absurd (end [] w (end-alone is))
  stop-once a b (whole is w j) (past_end m f was w' other) = absurd (other (end-cut m (sym was ∙ is)))
  stop-once a b (whole is w j) (many which n it m f was fo over) = absurd (end-no-entry [] it m (end-alone is) was)
  stop-once a b (whole is w j) (whole was w' k) = judged-once t a b j k

-- ---- texts

-- reading stops behind one beginning
module _ (bytes : List ℕ) (t u : Tables) (r q : List ℕ) (ht : Begins bytes t r) (hu : Begins bytes u q) (a b : Result Tables TablesFault) (s : Stop t r a) (z : Stop u q b) where
  fronts : front_text t ++ r ≡ front_text u ++ q
  fronts = sym ht.split ∙ hu.split

  one-beginning : (t ≡ u) × (r ≡ q)
  one-beginning =
      let version = versions t u ht.beginning hu.beginning r q fronts in
      ⊎_elim (λ p. p)
      (λ o. absurd (⊎_elim
      (λ (x : Ahead u.version t r). stopped t ht.beginning r a s x.entry x.more x.follows x.few (subst (λ v. r ≡ item_line v x.entry ++ x.more) (sym version) x.line))
      (λ (x : Ahead u.version u q). stopped u hu.beginning q b z x.entry x.more x.follows x.few x.line) o))
      (meets t u ht.beginning hu.beginning r q fronts)

  one-answer : a ≡ b
  one-answer =
      let same = one-beginning in
      stop-once u hu.beginning q a b (subst (λ x. Stop u x a) same.1 (subst (λ x. Stop x r a) same.0 s)) z

-- the first line is none, or reading stops behind a beginning
abbrev StopsAt : List ℕ → Result Tables TablesFault → Type 0
StopsAt bytes a = ((a ≡ Err (fault.Line 1)) × IsNoFirst bytes) ⊎ ((t : Tables) × (rest : List ℕ) × Begins bytes t rest × Stop t rest a)

bad-line : (bytes : List ℕ) (l : ℕ) → IsBadLine bytes l → StopsAt bytes (Err (fault.Line l))
bad-line bytes l (at_first none) = inl (refl, none)
bad-line bytes l (behind_beginning t rest begins none end) = inr (t, rest, begins, bad refl none end)
bad-line bytes l (behind_last t more begins w other) = inr (t, last_line ++ more, begins, past_end more refl refl w other)

begins-whole : (bytes : List ℕ) (t : Tables) → IsBeginning t → bytes ≡ text t → Begins bytes t last_line
begins-whole bytes t h e = record { beginning = h; split = e }

stops : (bytes : List ℕ) (a : Result Tables TablesFault) → IsRead bytes a → a ≢ Err fault.NoMemory → StopsAt bytes a
stops bytes (Ok t) h known = inr (t, last_line, begins-whole bytes t h.1 h.0, whole refl h.2 (inl (refl, h.4)))
stops bytes (Err (fault.Line l)) h known = bad-line bytes l h
stops bytes (Err (fault.Limit which n)) h known = inr (h.tables, item_line h.tables.version h.entry ++ h.rest, h.begins, many which n h.entry h.rest refl refl h.follows h.passes)
stops bytes (Err (fault.Broken rule l)) h known =
    inr (h.tables, last_line, begins-whole bytes h.tables h.beginning h.whole, whole refl h.is_whole (inr (rule, h.spot, h.first, ap (λ n. Err (fault.Broken rule n)) h.place)))
stops bytes (Err fault.NoMemory) h known = absurd (known refl)

-- a beginning has a first line
has-first : (bytes : List ℕ) (t : Tables) (rest : List ℕ) → Begins bytes t rest → IsNoFirst bytes → ⊥
has-first bytes t rest begins none = none t.version ((names_text t ++ (ways_text t ++ rows_text t)) ++ rest) begins.beginning.version (begins.split ∙ append_assoc (first_line t.version) (names_text t ++ (ways_text t ++ rows_text t)) rest)

stops-once : (bytes : List ℕ) (a b : Result Tables TablesFault) → StopsAt bytes a → StopsAt bytes b → a ≡ b
stops-once bytes a b (inl h) (inl k) = h.0 ∙ sym k.0
stops-once bytes a b (inl h) (inr k) = absurd (has-first bytes k.0 k.1 k.2 h.1)
stops-once bytes a b (inr h) (inl k) = absurd (has-first bytes h.0 h.1 h.2 k.1)
stops-once bytes a b (inr h) (inr k) = one-answer bytes h.0 k.0 h.1 k.1 h.2 k.2 a b h.3 k.3

pub reads-one-way : ReadsOneWay
reads-one-way bytes a b h k known other = stops-once bytes a b (stops bytes a h known) (stops bytes b k other)

pub reads-each : ReadsEach
reads-each t (Ok u) ht wt vt h = inl (reads-one-way (text t) (Ok u) (Ok t) h (refl, ht, wt, in-form t ht wt, vt) (λ e. cc) (λ e. cc))
reads-each t (Err (fault.Line l)) ht wt vt h = inl (reads-one-way (text t) (Err (fault.Line l)) (Ok t) h (refl, ht, wt, in-form t ht wt, vt) (λ e. cc) (λ e. cc))
reads-each t (Err (fault.Limit which n)) ht wt vt h = inl (reads-one-way (text t) (Err (fault.Limit which n)) (Ok t) h (refl, ht, wt, in-form t ht wt, vt) (λ e. cc) (λ e. cc))
reads-each t (Err (fault.Broken rule l)) ht wt vt h = inl (reads-one-way (text t) (Err (fault.Broken rule l)) (Ok t) h (refl, ht, wt, in-form t ht wt, vt) (λ e. cc) (λ e. cc))
reads-each t (Err fault.NoMemory) ht wt vt h = inr refl
