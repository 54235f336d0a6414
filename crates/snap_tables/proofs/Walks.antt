-- Beginnings of tables, one entry after another, and what their texts say.
use Rattle.std.proofs.Common.{◌≡◌, ℕ, ◌≤◌, Bool, true, false, cond, List, [], ◌∷◌, ◌++◌, Option, Some, None, length, map, refl, sym, ap, subst, ◌∙◌, arith, append-nil, append_assoc, length-append, inl, inr}
use Rattle.std.specs.Prelude.{◌⊎◌, ◌&&◌, ◌||◌, nat_le, nat_lt}
use Rattle.std.proofs.lemmas.Bool.{and_parts, and_from, ltb-true, lt-ltb, le-ltb}
use Rattle.snap_core.specs.declared.ports.PortAt.{PortAt}
use Rattle.snap_core.specs.declared.program.Field.{Field}
use Rattle.snap_core.specs.declared.program.Which.{Which}
use Rattle.snap_core.specs.declared.program.Which.TheVariants.{Components, Arrays, Switches, Links, Ports}
use Rattle.snap_core.specs.Fields.{count}
use Rattle.snap_rows.specs.declared.tables.ArrayAt.{ArrayAt}
use Rattle.snap_rows.specs.declared.tables.Hop.{Hop}
use Rattle.snap_rows.specs.declared.tables.RowAt.{RowAt}
use Rattle.snap_rows.specs.declared.tables.Tables.{Tables}
use Rattle.snap_tables.specs.Drafts.{no_entries}
use Rattle.snap_tables.specs.Entries.{AllFrom, AreInSequence, IsNextArray, IsNextField, IsNextHop, IsNextLink, IsNextPort, IsNextRow, IsNextSwitch}
use Rattle.snap_tables.specs.Lines.{Follows, IsBeginning, counts_of, front_text, has, has_all_hops, is_ready, item_line, last_section, over, passed, with_item}
use Rattle.snap_tables.specs.declared.item.Item.{Item}
use Rattle.snap_tables.specs.declared.item.Item.TheVariants as item
use Rattle.snap_tables.proofs.OneItem.{item-one}
use Rattle.snap_tables.proofs.Steps.{beginning-put, front-put}

-- entries put one behind another
abbrev pub Walk : Tables → List Item → Tables → Type 0
Walk s [] e = s ≡ e
Walk s (it ∷ its) e = Follows s it × (passed (with_item s it) it ≡ None) × Walk (with_item s it) its e

abbrev pub lines : ℕ → List Item → List ℕ
lines v [] = []
lines v (it ∷ its) = item_line v it ++ lines v its

pub walk-join : (s : Tables) (its jts : List Item) (m e : Tables) → Walk s its m → Walk m jts e → Walk s (its ++ jts) e
walk-join s [] jts m e a b = subst (λ x. Walk x jts e) (sym a) b
walk-join s (it ∷ its) jts m e a b = (a.0, a.1, walk-join (with_item s it) its jts m e a.2 b)

same-version : (t : Tables) (it : Item) → (with_item t it).version ≡ t.version
same-version t (item.Field x) = refl
same-version t (item.Switch x) = refl
same-version t (item.Array x) = refl
same-version t (item.Link x) = refl
same-version t (item.Port x) = refl
same-version t (item.Hop x) = refl
same-version t (item.Row x) = refl

-- the text of what was put
pub walk-text : (s : Tables) (its : List Item) (e : Tables) → Walk s its e → front_text e ≡ front_text s ++ lines s.version its
walk-text s [] e w = ap front_text (sym w) ∙ sym (append-nil (front_text s))
walk-text s (it ∷ its) e w =
    walk-text (with_item s it) its e w.2 ∙ ap (λ l. l ++ lines (with_item s it).version its) (front-put s it w.0.order)
    ∙ append_assoc (front_text s) (item_line s.version it) (lines (with_item s it).version its) ∙ ap (λ v. front_text s ++ (item_line s.version it ++ lines v its)) (same-version s it)

-- ---- one section
module _ {X : Type 0} (make : X → Item) (state : List X → Tables) (IsNext' : List X → X → Type 0) (Within : List X → Type 0)
    (puts : (xs : List X) (x : X) → with_item (state xs) (make x) ≡ state (xs ++ (x ∷ [])))
    (next : (ys : List X) (x : X) (zs : List X) → Within (ys ++ (x ∷ zs)) → IsNext' ys x → Follows (state ys) (make x) × (passed (state (ys ++ (x ∷ []))) (make x) ≡ None)) where
  section-from : (before xs : List X) → Within (before ++ xs) → AllFrom IsNext' before xs → Walk (state before) (map make xs) (state (before ++ xs))
  section-from before [] w all = ap state (sym (append-nil before))
  section-from before (x ∷ xs) w all =
      let n = next before x xs w all.0 in
      let shift = append_assoc before (x ∷ []) xs in (
        n.0,
        ap (λ t. passed t (make x)) (puts before x) ∙ n.1,
        subst (λ t. Walk t (map make xs) (state (before ++ (x ∷ xs)))) (sym (puts before x))
            (subst (λ l. Walk (state (before ++ (x ∷ []))) (map make xs) (state l)) shift (section-from (before ++ (x ∷ [])) xs (subst Within (sym shift) w) all.1)),
      )

  section-walk : (xs : List X) → Within xs → AreInSequence IsNext' xs → Walk (state []) (map make xs) (state xs)
  section-walk xs w all = section-from [] xs w all

-- sections that have begun are ready
top : (b : Bool) (n r : ℕ) → r ≤ n → cond b n r ≤ n
top true n r h = omega arith
top false n r h = h

some-middle : {X : Type 0} (ys : List X) (x : X) (zs : List X) → has (ys ++ (x ∷ zs)) ≡ true
some-middle [] x zs = refl
some-middle (y ∷ ys) x zs = refl

chosen : (b : Bool) (n r k : ℕ) → b ≡ true → k ≤ n → k ≤ cond b n r
chosen b n r k e h = subst (λ c. k ≤ cond c n r) (sym e) h

deeper : (b : Bool) (n r k : ℕ) → k ≤ n → k ≤ r → k ≤ cond b n r
deeper true n r k a c = a
deeper false n r k a c = c

fewer : (a b : Bool) → (a ≡ true → b ≡ true) → (x : Bool) → (a || x) ≡ true → (b || x) ≡ true
fewer true b f x e = ap (λ c. c || x) (f refl)
fewer false true f x e = refl
fewer false false f x e = e

lt-mono : (k m n : ℕ) → k ≤ m → nat_lt m n ≡ true → nat_lt k n ≡ true
lt-mono k m n h e = lt-ltb k n (omega (arith, h, ltb-true m n e))

ready-mono : (t : Tables) (k m : ℕ) → k ≤ m → is_ready t m ≡ true → is_ready t k ≡ true
ready-mono t k m h e =
    let p = and_parts ((nat_lt m 2 || nat_le 2 (length t.fields)) && (nat_lt m 3 || has t.switches)) (nat_lt m 7 || has_all_hops t) e in
    let q = and_parts (nat_lt m 2 || nat_le 2 (length t.fields)) (nat_lt m 3 || has t.switches) p.0 in
    and_from ((nat_lt k 2 || nat_le 2 (length t.fields)) && (nat_lt k 3 || has t.switches)) (nat_lt k 7 || has_all_hops t)
    (and_from (nat_lt k 2 || nat_le 2 (length t.fields)) (nat_lt k 3 || has t.switches)
    (fewer (nat_lt m 2) (nat_lt k 2) (lt-mono k m 2 h) (nat_le 2 (length t.fields)) q.0) (fewer (nat_lt m 3) (nat_lt k 3) (lt-mono k m 3 h) (has t.switches) q.1))
    (fewer (nat_lt m 7) (nat_lt k 7) (lt-mono k m 7 h) (has_all_hops t) p.1)

within-none : (which : Which) (most n : ℕ) → n ≤ most → over which most n ≡ None
within-none which most n h = ap (λ b. cond {A = Option (Which × ℕ)} b (Some (which, n)) None) (le-ltb most n h)

count-more : (fs gs : List Field) → count fs ≤ count (fs ++ gs)
count-more [] gs = omega arith
count-more (f ∷ fs) gs = omega (arith, count-more fs gs)

part-length : {X : Type 0} (ys : List X) (x : X) (zs : List X) → length (ys ++ (x ∷ [])) ≤ length (ys ++ (x ∷ zs))
part-length ys x zs = omega (arith, length-append ys (x ∷ []), length-append ys (x ∷ zs))

-- ---- all sections
module _ (t : Tables) (b : IsBeginning t) where
  abbrev fields_to : List Field → Tables
  fields_to fs = record { version = t.version; fields = fs; switches = []; arrays = []; links = []; ports = []; hops = []; rows = [] }

  abbrev switches_to : List (List ℕ) → Tables
  switches_to ns = record { version = t.version; fields = t.fields; switches = ns; arrays = []; links = []; ports = []; hops = []; rows = [] }

  abbrev arrays_to : List ArrayAt → Tables
  arrays_to xs = record { version = t.version; fields = t.fields; switches = t.switches; arrays = xs; links = []; ports = []; hops = []; rows = [] }

  abbrev links_to : List (ℕ × ℕ) → Tables
  links_to xs = record { version = t.version; fields = t.fields; switches = t.switches; arrays = t.arrays; links = xs; ports = []; hops = []; rows = [] }

  abbrev ports_to : List PortAt → Tables
  ports_to xs = record { version = t.version; fields = t.fields; switches = t.switches; arrays = t.arrays; links = t.links; ports = xs; hops = []; rows = [] }

  abbrev hops_to : List Hop → Tables
  hops_to xs = record { version = t.version; fields = t.fields; switches = t.switches; arrays = t.arrays; links = t.links; ports = t.ports; hops = xs; rows = [] }

  abbrev rows_to : List RowAt → Tables
  rows_to xs = record { version = t.version; fields = t.fields; switches = t.switches; arrays = t.arrays; links = t.links; ports = t.ports; hops = t.hops; rows = xs }

  reached : (k : ℕ) → k ≤ last_section t → is_ready t k ≡ true
  reached k h = ready-mono t k (last_section t) h b.ready

  has-2 : has t.switches ≡ true → 2 ≤ last_section t
  has-2 e = deeper (has t.rows) 7 _ 2 (omega arith) (deeper (has t.hops) 6 _ 2 (omega arith) (deeper (has t.ports) 5 _ 2 (omega arith) (deeper (has t.links) 4 _ 2 (omega arith) (deeper (has t.arrays) 3 _ 2 (omega arith) (chosen (has t.switches) 2 1 2 e (omega arith))))))

  has-3 : has t.arrays ≡ true → 3 ≤ last_section t
  has-3 e = deeper (has t.rows) 7 _ 3 (omega arith) (deeper (has t.hops) 6 _ 3 (omega arith) (deeper (has t.ports) 5 _ 3 (omega arith) (deeper (has t.links) 4 _ 3 (omega arith) (chosen (has t.arrays) 3 _ 3 e (omega arith)))))

  has-4 : has t.links ≡ true → 4 ≤ last_section t
  has-4 e = deeper (has t.rows) 7 _ 4 (omega arith) (deeper (has t.hops) 6 _ 4 (omega arith) (deeper (has t.ports) 5 _ 4 (omega arith) (chosen (has t.links) 4 _ 4 e (omega arith))))

  has-5 : has t.ports ≡ true → 5 ≤ last_section t
  has-5 e = deeper (has t.rows) 7 _ 5 (omega arith) (deeper (has t.hops) 6 _ 5 (omega arith) (chosen (has t.ports) 5 _ 5 e (omega arith)))

  has-6 : has t.hops ≡ true → 6 ≤ last_section t
  has-6 e = deeper (has t.rows) 7 _ 6 (omega arith) (chosen (has t.hops) 6 _ 6 e (omega arith))

  has-7 : has t.rows ≡ true → 7 ≤ last_section t
  has-7 e = chosen (has t.rows) 7 _ 7 e (omega arith)

  whole-has : {X : Type 0} (xs ys zs : List X) (x : X) → ys ++ (x ∷ zs) ≡ xs → has xs ≡ true
  whole-has xs ys zs x e = ap has (sym e) ∙ some-middle ys x zs

  walk-fields : Walk (fields_to []) (map item.Field t.fields) (fields_to t.fields)
  walk-fields = section-walk item.Field fields_to IsNextField (λ l. l ≡ t.fields) (λ xs x. refl)
      (λ ys x zs w n. (
        record { order = omega arith; ready = refl; next = n },
        within-none Components 64 (count (ys ++ (x ∷ []))) (omega (arith, count-more (ys ++ (x ∷ [])) zs, ap count (append_assoc ys (x ∷ []) zs ∙ w), b.few_comps)),
      )) t.fields refl b.fields

  walk-switches : Walk (switches_to []) (map item.Switch t.switches) (switches_to t.switches)
  walk-switches = section-walk item.Switch switches_to IsNextSwitch (λ l. l ≡ t.switches) (λ xs x. refl)
      (λ ys x zs w n. (
        record { order = top (has ys) 2 1 (omega arith); ready = reached 2 (has-2 (whole-has t.switches ys zs x w)); next = n },
        within-none Switches 256 (length (ys ++ (x ∷ []))) (omega (arith, part-length ys x zs, ap length w, b.few_switches)),
      )) t.switches refl b.switches

  at2 : cond (has t.switches) 2 1 ≤ 2
  at2 = top (has t.switches) 2 1 (omega arith)

  at3 : (c : Bool) → cond c 3 (cond (has t.switches) 2 1) ≤ 3
  at3 c = top c 3 (cond (has t.switches) 2 1) (omega (arith, at2))

  at4 : (c : Bool) → cond c 4 (cond (has t.arrays) 3 (cond (has t.switches) 2 1)) ≤ 4
  at4 c = top c 4 (cond (has t.arrays) 3 (cond (has t.switches) 2 1)) (omega (arith, at3 (has t.arrays)))

  at5 : (c : Bool) → cond c 5 (cond (has t.links) 4 (cond (has t.arrays) 3 (cond (has t.switches) 2 1))) ≤ 5
  at5 c = top c 5 (cond (has t.links) 4 (cond (has t.arrays) 3 (cond (has t.switches) 2 1))) (omega (arith, at4 (has t.links)))

  at6 : (c : Bool) → cond c 6 (cond (has t.ports) 5 (cond (has t.links) 4 (cond (has t.arrays) 3 (cond (has t.switches) 2 1)))) ≤ 6
  at6 c = top c 6 (cond (has t.ports) 5 (cond (has t.links) 4 (cond (has t.arrays) 3 (cond (has t.switches) 2 1)))) (omega (arith, at5 (has t.ports)))

  at7 : (c : Bool) → cond c 7 (cond (has t.hops) 6 (cond (has t.ports) 5 (cond (has t.links) 4 (cond (has t.arrays) 3 (cond (has t.switches) 2 1))))) ≤ 7
  at7 c = top c 7 (cond (has t.hops) 6 (cond (has t.ports) 5 (cond (has t.links) 4 (cond (has t.arrays) 3 (cond (has t.switches) 2 1))))) (omega (arith, at6 (has t.hops)))

  walk-arrays : Walk (arrays_to []) (map item.Array t.arrays) (arrays_to t.arrays)
  walk-arrays = section-walk item.Array arrays_to (IsNextArray t.version (length t.switches)) (λ l. l ≡ t.arrays) (λ xs x. refl)
      (λ ys x zs w n. (
        record { order = at3 (has ys); ready = reached 3 (has-3 (whole-has t.arrays ys zs x w)); next = n },
        within-none Arrays 64 (length (ys ++ (x ∷ []))) (omega (arith, part-length ys x zs, ap length w, b.few_arrays)),
      )) t.arrays refl b.arrays

  walk-links : Walk (links_to []) (map item.Link t.links) (links_to t.links)
  walk-links = section-walk item.Link links_to (IsNextLink (length t.switches)) (λ l. l ≡ t.links) (λ xs x. refl)
      (λ ys x zs w n. (
        record { order = at4 (has ys); ready = reached 4 (has-4 (whole-has t.links ys zs x w)); next = n },
        within-none Links 4096 (length (ys ++ (x ∷ []))) (omega (arith, part-length ys x zs, ap length w, b.few_links)),
      )) t.links refl b.links

  walk-ports : Walk (ports_to []) (map item.Port t.ports) (ports_to t.ports)
  walk-ports = section-walk item.Port ports_to (IsNextPort (length t.switches)) (λ l. l ≡ t.ports) (λ xs x. refl)
      (λ ys x zs w n. (
        record { order = at5 (has ys); ready = reached 5 (has-5 (whole-has t.ports ys zs x w)); next = n },
        within-none Ports 1024 (length (ys ++ (x ∷ []))) (omega (arith, part-length ys x zs, ap length w, b.few_ports)),
      )) t.ports refl b.ports

  walk-hops : Walk (hops_to []) (map item.Hop t.hops) (hops_to t.hops)
  walk-hops = section-walk item.Hop hops_to (IsNextHop (length t.switches)) (λ l. l ≡ t.hops) (λ xs x. refl)
      (λ ys x zs w n. (record { order = at6 (has ys); ready = reached 6 (has-6 (whole-has t.hops ys zs x w)); next = n }, refl)) t.hops refl b.hops

  walk-rows : Walk (rows_to []) (map item.Row t.rows) (rows_to t.rows)
  walk-rows = section-walk item.Row rows_to (IsNextRow t.version (counts_of t) t.arrays) (λ l. l ≡ t.rows) (λ xs x. refl)
      (λ ys x zs w n. (record { order = at7 (has ys); ready = reached 7 (has-7 (whole-has t.rows ys zs x w)); next = n }, refl)) t.rows refl b.rows

  pub entries : List Item
  entries = map item.Field t.fields ++ (map item.Switch t.switches ++ (map item.Array t.arrays ++ (map item.Link t.links ++ (map item.Port t.ports ++ (map item.Hop t.hops ++ map item.Row t.rows)))))

  -- a beginning is its entries, put one behind another
  pub walk-whole : Walk (no_entries t.version) entries t
  unfolding entries
  walk-whole =
      walk-join (no_entries t.version) (map item.Field t.fields) _ (fields_to t.fields) t walk-fields
      (walk-join (switches_to []) (map item.Switch t.switches) _ (switches_to t.switches) t walk-switches
      (walk-join (arrays_to []) (map item.Array t.arrays) _ (arrays_to t.arrays) t walk-arrays
      (walk-join (links_to []) (map item.Link t.links) _ (links_to t.links) t walk-links
      (walk-join (ports_to []) (map item.Port t.ports) _ (ports_to t.ports) t walk-ports
      (walk-join (hops_to []) (map item.Hop t.hops) (map item.Row t.rows) (hops_to t.hops) t walk-hops walk-rows)))))

-- ---- two walks over one text
pub record Ahead (v : ℕ) (b : Tables) (rest : List ℕ) : Type 0 where
  pub entry : Item
  pub more : List ℕ
  pub follows : Follows b entry
  pub few : passed (with_item b entry) entry ≡ None
  pub line : rest ≡ item_line v entry ++ more

-- where one walk ends the other is at its end too, or one of them goes on with an entry
pub walks : (s : Tables) → IsBeginning s → (its jts : List Item) (b t : Tables) (rest tail : List ℕ) → Walk s its b → Walk s jts t → lines s.version its ++ rest ≡ lines s.version jts ++ tail
    → ((b ≡ t) × (rest ≡ tail)) ⊎ (Ahead s.version b rest ⊎ Ahead s.version t tail)
walks s h [] [] b t rest tail w u e = inl (sym w ∙ u, e)
walks s h [] (jt ∷ jts) b t rest tail w u e =
    inr (inl (record {
      entry = jt;
      more = lines s.version jts ++ tail;
      follows = subst (λ x. Follows x jt) w u.0;
      few = subst (λ x. passed (with_item x jt) jt ≡ None) w u.1;
      line = e ∙ append_assoc (item_line s.version jt) (lines s.version jts) tail;
    }))
walks s h (it ∷ its) [] b t rest tail w u e =
    inr (inr (record {
      entry = it;
      more = lines s.version its ++ rest;
      follows = subst (λ x. Follows x it) u w.0;
      few = subst (λ x. passed (with_item x it) it ≡ None) u w.1;
      line = sym e ∙ append_assoc (item_line s.version it) (lines s.version its) rest;
    }))
walks s h (it ∷ its) (jt ∷ jts) b t rest tail w u e =
    let both = sym (append_assoc (item_line s.version it) (lines s.version its) rest) ∙ e ∙ append_assoc (item_line s.version jt) (lines s.version jts) tail in
    let one = item-one s h it jt (lines s.version its ++ rest) (lines s.version jts ++ tail) w.0 u.0 both in
    let same : with_item s it ≡ with_item s jt = ap (with_item s) one.0 in
    let version = same-version s it in
    let next = walks (with_item s it) (beginning-put s h it w.0 w.1) its jts b t rest tail w.2 (subst (λ x. Walk x jts t) (sym same) u.2) (subst (λ v. lines v its ++ rest ≡ lines v jts ++ tail) (sym version) one.1) in
    subst (λ v. ((b ≡ t) × (rest ≡ tail)) ⊎ (Ahead v b rest ⊎ Ahead v t tail)) version next
