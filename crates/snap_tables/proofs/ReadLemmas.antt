-- A text, line by line.
use Rattle.std.proofs.Common.{◌≡◌, ◌≢◌, ℕ, ◌+◌, ◌<◌, ◌≤◌, Bool, true, false, cond, List, [], ◌∷◌, ◌++◌, Some, None, Ok, Err, length, refl, sym, ap, subst, ◌∙◌, arith, decimal, append-nil, append_assoc, inl, inr}
use Rattle.std.specs.Prelude.{◌⊎◌, ◌==◌, codes, slice_get, IfSome}
use Rattle.std.specs.Str.{bytes_eq}
use Rattle.std.proofs.lemmas.Bool.{and_parts, and_from}
use Rattle.std.proofs.lemmas.Slice.Eq.{bytes_eq-Decides}
use Rattle.std.proofs.lemmas.Fmt.{decimal_digit}
use Rattle.snap_core.specs.declared.program.Which.{Which}
use Rattle.snap_core.specs.Figures.{parts_by, onto_first}
use Rattle.snap_rows.specs.declared.tables.Rule.{Rule}
use Rattle.snap_rows.specs.declared.tables.Spot.{Spot}
use Rattle.snap_rows.specs.declared.tables.Spot.TheVariants as spot
use Rattle.snap_rows.specs.declared.tables.Tables.{Tables}
use Rattle.snap_rows.specs.Form.{IsWellFormed}
use Rattle.snap_rows.specs.Rules.{IsFirstBroken, IsValid, Keeps}
use Rattle.snap_tables.specs.Joins.{Lacks, join}
use Rattle.snap_tables.specs.Text.{Words, last_line, rank_words, row_words, text}
use Rattle.snap_tables.specs.Drafts.{ArePlaces, IsFirstSplit, IsItem, IsKept, IsLineFault, IsNoFirst, IsNone, IsPutLine, IsReadTo, first_body, is_last, place_of, tables_of}
use Rattle.snap_tables.specs.Lines.{Begins, Breaks, Follows, IsBadLine, at_first, behind_beginning, behind_last, IsBeginning, IsRead, IsWhole, Passes, counts_of, front_text, is_ready, item_body, item_line, line_of, lines_of, passed, with_item}
use Rattle.snap_tables.specs.declared.draft.TablesDraft.{TablesDraft}
use Rattle.snap_tables.specs.declared.fault.TablesFault.{TablesFault}
use Rattle.snap_tables.specs.declared.fault.TablesFault.TheVariants as fault
use Rattle.snap_tables.specs.declared.item.Item.{Item}
use Rattle.snap_tables.specs.declared.item.Item.TheVariants as item
use Rattle.snap_tables.specs.declared.places.Places.{Places}
use Rattle.snap_tables.proofs.Inks.{body-lacks, ink-if, prefix-ink, rank-ink, row-ink}
use Rattle.snap_tables.proofs.Joins.{behind-parts, join-parts}
use Rattle.snap_tables.proofs.PieceLaws.{head-same, opened-word, tail-same}
use Rattle.snap_tables.proofs.PieceLemmas.{false-true}
use Rattle.snap_tables.proofs.Readings.{parts_by-some}
use Rattle.snap_tables.proofs.Shades.{append-ink, decimal-ink, name-ink, switch-ink}
use Rattle.snap_tables.proofs.Steps.{beginning-put, front-put, lines-put}
use Rattle.snap_tables.proofs.Formed.{in-form}

abbrev pub is_lf : ℕ → Bool
is_lf b = b == 10

-- a line without its LF, and what stands behind it
pub split-text : (bytes line behind : List ℕ) → parts_by is_lf bytes ≡ line ∷ parts_by is_lf behind → bytes ≡ line ++ (10 ∷ behind)
split-text bytes line behind e =
    sym (join-parts 10 bytes) ∙ ap (join 10) e ∙ ap (λ l. line ++ l) (behind-parts 10 is_lf behind ∙ ap (λ l. 10 ∷ l) (join-parts 10 behind))

parts-line : (body more : List ℕ) → Lacks 10 body → parts_by is_lf (body ++ (10 ∷ more)) ≡ body ∷ parts_by is_lf more
parts-line [] more h = refl
parts-line (b ∷ w) more h =
    ap (λ t. cond t ([] ∷ parts_by is_lf (w ++ (10 ∷ more))) (onto_first b (parts_by is_lf (w ++ (10 ∷ more))))) h.0 ∙ ap (onto_first b) (parts-line w more h.1)

module _ (rest body more : List ℕ) (lacks : Lacks 10 body) (same : rest ≡ (body ++ codes "\n") ++ more) where
  pub whole-line : parts_by is_lf rest ≡ body ∷ parts_by is_lf more
  whole-line = ap (parts_by is_lf) (same ∙ append_assoc body (codes "\n") more) ∙ parts-line body more lacks

  pub line-is : (line behind : List ℕ) → parts_by is_lf rest ≡ line ∷ parts_by is_lf behind → line ≡ body
  line-is line behind e = head-same line body (parts_by is_lf behind) (parts_by is_lf more) (sym e ∙ whole-line)

  pub line-none : parts_by is_lf rest ≡ rest ∷ [] → ⊥
  line-none e = parts_by-some (λ ws. [] ≡ ws → ⊥) (λ w ws bad'. let b : ◌≡◌ {A = Words} [] (w ∷ ws) = bad' in cc) is_lf more (tail-same rest body [] (parts_by is_lf more) (sym e ∙ whole-line))

-- the first line
first-ink : (v : ℕ) → (v ≡ 1) ⊎ (v ≡ 2) → Lacks 10 (first_body v)
first-ink v h = body-lacks (codes "snap-tables") (decimal v ∷ []) (ink-if (codes "snap-tables") refl) (decimal-ink v (Rattle.std.proofs.Common.⊎_elim (λ e. omega (arith, e)) (λ e. omega (arith, e)) h), tt)

pub digit-body : (v : ℕ) → v < 10 → codes "snap-tables " ++ ((48 + v) ∷ []) ≡ first_body v
digit-body v h = ap (λ d. codes "snap-tables" ++ (32 ∷ (d ++ []))) (sym (decimal_digit v h))

pub first-is-one : (line : List ℕ) → bytes_eq line (codes "snap-tables 1") ≡ true → ((◌≡◌ {A = ℕ} 1 1) ⊎ (◌≡◌ {A = ℕ} 1 2)) × (line ≡ first_body 1)
first-is-one line e = (inl refl, opened-word (codes "snap-tables 1") line e ∙ digit-body 1 (omega arith))

pub first-is-two : (line : List ℕ) → bytes_eq line (codes "snap-tables 2") ≡ true → ((◌≡◌ {A = ℕ} 2 1) ⊎ (◌≡◌ {A = ℕ} 2 2)) × (line ≡ first_body 2)
first-is-two line e = (inr refl, opened-word (codes "snap-tables 2") line e ∙ digit-body 2 (omega arith))

pub first-other : (line : List ℕ) → bytes_eq line (codes "snap-tables 1") ≡ false → bytes_eq line (codes "snap-tables 2") ≡ false → (v : ℕ) → (v ≡ 1) ⊎ (v ≡ 2) → line ≢ first_body v
first-other line one two v h e = Rattle.std.proofs.Common.⊎_elim
    (λ is. false-true (sym one ∙ (bytes_eq-Decides line (codes "snap-tables 1")).1 (e ∙ ap first_body is ∙ sym (digit-body 1 (omega arith)))))
    (λ is. false-true (sym two ∙ (bytes_eq-Decides line (codes "snap-tables 2")).1 (e ∙ ap first_body is ∙ sym (digit-body 2 (omega arith))))) h

pub no-first-lf : (bytes : List ℕ) → parts_by is_lf bytes ≡ bytes ∷ [] → IsNoFirst bytes
no-first-lf bytes e v more h same = line-none bytes (first_body v) more (first-ink v h) same e

pub no-first : (bytes line behind : List ℕ) → parts_by is_lf bytes ≡ line ∷ parts_by is_lf behind → ((v : ℕ) → (v ≡ 1) ⊎ (v ≡ 2) → line ≢ first_body v) → IsNoFirst bytes
no-first bytes line behind e none v more h same = none v h (line-is bytes (first_body v) more (first-ink v h) same line behind e)

pub first-split : (bytes line behind : List ℕ) (v : ℕ) → parts_by is_lf bytes ≡ line ∷ parts_by is_lf behind → length behind < length bytes → (v ≡ 1) ⊎ (v ≡ 2) → line ≡ first_body v → IsFirstSplit bytes v behind
first-split bytes line behind v e short h is = (h, split-text bytes line behind e ∙ ap (λ l. l ++ (10 ∷ behind)) is ∙ sym (append_assoc (first_body v) (codes "\n") behind), short)

pub no-line-first : (bytes : List ℕ) → IsNoFirst bytes → IsBadLine bytes 1
no-line-first bytes none = at_first none

module _ (t : Tables) (b : IsBeginning t) where
  -- no line of an entry has an LF in it
  pub item-lacks : (it : Item) → Follows t it → Lacks 10 (item_body t.version it)
  item-lacks (item.Field f) fo = body-lacks (codes "field") ((f.name ++ Rattle.snap_tables.specs.Text.prefix_text f.prefix) ∷ []) (ink-if (codes "field") refl) (append-ink f.name (Rattle.snap_tables.specs.Text.prefix_text f.prefix) (name-ink f.name fo.next.0) (prefix-ink f.prefix fo.next.1), tt)
  item-lacks (item.Switch n) fo = body-lacks (codes "switch") (n ∷ []) (ink-if (codes "switch") refl) (switch-ink n fo.next.0, tt)
  item-lacks (item.Array a) fo = body-lacks (codes "array") (a.name ∷ decimal a.at ∷ rank_words t.version a.rank) (ink-if (codes "array") refl) (name-ink a.name fo.next.0, (decimal-ink a.at (omega (arith, fo.next.1, b.few_switches)), rank-ink t.version a.rank fo.next.2))
  item-lacks (item.Link l) fo = body-lacks (codes "link") (decimal l.0 ∷ decimal l.1 ∷ []) (ink-if (codes "link") refl) (decimal-ink l.0 (omega (arith, fo.next.0, b.few_switches)), (decimal-ink l.1 (omega (arith, fo.next.1, b.few_switches)), tt))
  item-lacks (item.Port p) fo = body-lacks (codes "port") (decimal p.port ∷ decimal p.at ∷ []) (ink-if (codes "port") refl) (decimal-ink p.port (omega (arith, fo.next.1)), (decimal-ink p.at (omega (arith, fo.next.2, b.few_switches)), tt))
  item-lacks (item.Hop h) fo =
      body-lacks (codes "hop") (decimal h.from ∷ decimal h.target ∷ decimal h.next ∷ []) (ink-if (codes "hop") refl)
      (decimal-ink h.from (omega (arith, fo.next.0, b.few_switches)), (decimal-ink h.target (omega (arith, fo.next.1, b.few_switches)), (decimal-ink h.next (omega (arith, fo.next.2, b.few_switches)), tt)))
  item-lacks (item.Row r) fo =
      body-lacks (codes "row") (decimal r.at ∷ decimal r.number ∷ row_words r.row) (ink-if (codes "row") refl)
      (decimal-ink r.at (omega (arith, fo.next.0, b.few_switches)), (decimal-ink r.number fo.next.1, row-ink (counts_of t) (omega (arith, b.few_comps)) (omega (arith, b.few_arrays)) (omega (arith, b.few_switches)) t.version t.arrays r.row fo.next.2))

module _ (bytes rest : List ℕ) (t : Tables) (begins : Begins bytes t rest) where
  end-line : (more : List ℕ) → rest ≡ last_line ++ more → rest ≡ (codes "end" ++ codes "\n") ++ more
  end-line more e = e

  end-lacks : Lacks 10 (codes "end")
  end-lacks = (refl, (refl, (refl, tt)))

  -- without an LF no line is left
  pub bad-lf : parts_by is_lf rest ≡ rest ∷ [] → IsBadLine bytes (lines_of t + 1)
  bad-lf e = behind_beginning t rest begins
      (λ it more fo same. line-none rest (item_body t.version it) more (item-lacks t begins.beginning it fo) same e)
      (λ more whole same. line-none rest (codes "end") more end-lacks (end-line more same) e)

  module _ (line behind : List ℕ) (split : parts_by is_lf rest ≡ line ∷ parts_by is_lf behind) where
    pub bad-line : IsNone t line → is_last t line ≡ false → IsBadLine bytes (lines_of t + 1)
    bad-line none other = behind_beginning t rest begins
        (λ it more fo same. none it fo (line-is rest (item_body t.version it) more (item-lacks t begins.beginning it fo) same line behind split))
        (λ more whole same.
        let is : line ≡ codes "end" = line-is rest (codes "end") more end-lacks (end-line more same) line behind split in
        false-true (sym other ∙ and_from (bytes_eq line (codes "end")) (is_ready t 8) ((bytes_eq-Decides line (codes "end")).1 is) whole))

    text-behind : bytes ≡ front_text t ++ (line ++ (10 ∷ behind))
    text-behind = begins.split ∙ ap (λ l. front_text t ++ l) (split-text rest line behind split)

    module _ (it : Item) (said : IsItem t line it) where
      item-behind : bytes ≡ front_text t ++ (item_line t.version it ++ behind)
      item-behind = text-behind ∙ ap (λ l. front_text t ++ (l ++ (10 ∷ behind))) said.1 ∙ ap (λ l. front_text t ++ l) (sym (append_assoc (item_body t.version it) (codes "\n") behind))

      pub begins-put : passed (with_item t it) it ≡ None → Begins bytes (with_item t it) behind
      begins-put few = record {
        beginning = beginning-put t begins.beginning it said.0 few;
        split = item-behind ∙ sym (append_assoc (front_text t) (item_line t.version it) behind) ∙ ap (λ l. l ++ behind) (sym (front-put t it said.0.order));
      }

      pub passes : (which : Which) (n : ℕ) → passed (with_item t it) it ≡ Some (which, n) → Passes bytes which n
      passes which n e = record { tables = t; entry = it; rest = behind; begins = record { beginning = begins.beginning; split = item-behind }; follows = said.0; passes = e }

    module _ (last : is_last t line ≡ true) where
      end-is : line ≡ codes "end"
      end-is = opened-word (codes "end") line (and_parts (bytes_eq line (codes "end")) (is_ready t 8) last).0

      pub is-whole : IsWhole t
      is-whole = (and_parts (bytes_eq line (codes "end")) (is_ready t 8) last).1

      end-behind : bytes ≡ front_text t ++ (last_line ++ behind)
      end-behind = text-behind ∙ ap (λ l. front_text t ++ (l ++ (10 ∷ behind))) end-is

      pub text-whole : behind ≡ [] → bytes ≡ text t
      text-whole e = end-behind ∙ ap (λ l. front_text t ++ (last_line ++ l)) e ∙ ap (λ l. front_text t ++ l) (append-nil last_line)

      pub bad-behind : behind ≢ [] → IsBadLine bytes (lines_of t + 2)
      bad-behind more = behind_last t behind (record { beginning = begins.beginning; split = end-behind }) is-whole more

-- the line of a spot at which a rule is broken
module _ (t : Tables) (p : Places) (are : ArePlaces t p) where
  pub place-line : (s : Spot) → place_of p s ≡ line_of t s
  place-line (spot.Array i) = ap (λ n. n + i) are.0
  place-line (spot.Port i) = ap (λ n. n + i) are.1
  place-line (spot.Hop i) = ap (λ n. n + i) are.2
  place-line (spot.Row i) = ap (λ n. n + i) are.3

  within : {X : Type 0} (xs : List X) (i : ℕ) (P : X → Type 0) → (IfSome (slice_get xs i) P → ⊥) → i < length xs
  within [] i P h = absurd (h tt)
  within (x ∷ xs) Rattle.std.proofs.Common.zero P h = omega arith
  within (x ∷ xs) (Rattle.std.proofs.Common.suc i) P h = omega (arith, within xs i P h)

  pub place-small : (rule : Rule) (s : Spot) → (Keeps t rule s → ⊥) → place_of p s ≤ lines_of t + 1
  place-small rule (spot.Array i) h = omega (arith, are.0, within t.arrays i _ h)
  place-small rule (spot.Port i) h = omega (arith, are.1, within t.ports i _ h)
  place-small rule (spot.Hop i) h = omega (arith, are.2, within t.hops i _ h)
  place-small rule (spot.Row i) h = omega (arith, are.3, within t.rows i _ h)

-- one turn of the reading loop
module _ (bytes rest : List ℕ) (d : TablesDraft) (begins : Begins bytes (tables_of d) rest) (line behind : List ℕ) (split : parts_by is_lf rest ≡ line ∷ parts_by is_lf behind) where
  pub fault-read : (number : ℕ) → number ≡ lines_of (tables_of d) + 1 → is_last (tables_of d) line ≡ false → (e : TablesFault) → IsLineFault d number line e → IsRead bytes (Err e)
  fault-read number same other (fault.Line l) h = subst (IsBadLine bytes) (sym (h.0 ∙ same)) (bad-line bytes rest (tables_of d) begins line behind split h.1 other)
  fault-read number same other (fault.Limit which n) h = passes bytes rest (tables_of d) begins line behind split h.0 h.1 which n h.2
  fault-read number same other (fault.Broken rule l) h = absurd h
  fault-read number same other fault.NoMemory h = tt

  module _ (e : TablesDraft) (put : IsPutLine d line e) where
    pub put-begins : Begins bytes (tables_of e) behind
    put-begins =
        let p = put.2 in
        subst (λ u. Begins bytes u behind) (sym p.tables) (begins-put bytes rest (tables_of d) begins line behind split put.0 put.1 (sym (p.count ∙ ap (λ u. passed u put.0) p.tables)))

    pub put-lines : lines_of (tables_of e) ≡ lines_of (tables_of d) + 1
    put-lines = ap lines_of put.2.tables ∙ lines-put (tables_of d) put.0

    pub put-kept : IsKept e
    put-kept = put.2.kept refl

  module _ (last : is_last (tables_of d) line ≡ true) where
    pub read-to : (few : lines_of (tables_of d) + length rest ≤ length bytes) → length behind < length rest → behind ≡ [] → IsReadTo bytes d
    read-to few short e = record {
      beginning = begins.beginning;
      whole = is-whole bytes rest (tables_of d) begins line behind split last;
      text = text-whole bytes rest (tables_of d) begins line behind split last e;
      few = omega (arith, few, short);
    }

    pub read-past : (number : ℕ) → number ≡ lines_of (tables_of d) + 2 → behind ≢ [] → (e : TablesFault) → e ≡ fault.Line number → IsRead bytes (Err e)
    read-past number same more e is = subst (λ e. IsRead bytes (Err e)) (sym is) (subst (IsBadLine bytes) (sym same) (bad-behind bytes rest (tables_of d) begins line behind split last more))

pub read-nothing : (bytes rest : List ℕ) (d : TablesDraft) → Begins bytes (tables_of d) rest → parts_by is_lf rest ≡ rest ∷ [] → (number : ℕ) → number ≡ lines_of (tables_of d) + 1 → IsBadLine bytes number
read-nothing bytes rest d begins e number same = subst (IsBadLine bytes) (sym same) (bad-lf bytes rest (tables_of d) begins e)

-- ---- the whole text
pub read-form : (bytes : List ℕ) (d : TablesDraft) → IsReadTo bytes d → IsWellFormed (tables_of d)
read-form bytes d r = in-form (tables_of d) r.beginning r.whole

pub read-breaks : (bytes : List ℕ) (d : TablesDraft) (p : Places) → IsReadTo bytes d → ArePlaces (tables_of d) p → (rule : Rule) (s : Spot) → IsFirstBroken (tables_of d) rule s → Breaks bytes rule (place_of p s)
read-breaks bytes d p r are rule s first = record { tables = tables_of d; spot = s; whole = r.text; beginning = r.beginning; is_whole = r.whole; form = read-form bytes d r; first = first; place = place-line (tables_of d) p are s }

pub read-valid : (bytes : List ℕ) (d : TablesDraft) (t : Tables) → IsReadTo bytes d → t ≡ tables_of d → IsValid t → IsRead bytes (Ok t)
read-valid bytes d t r same valid =
    let here : IsRead bytes (Ok (tables_of d)) = (r.text, r.beginning, r.whole, read-form bytes d r, subst IsValid same valid) in
    subst (λ x. IsRead bytes (Ok x)) (sym same) here
