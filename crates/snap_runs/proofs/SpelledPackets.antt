-- The packets that a file spells fit the tables.
use Rattle.std.proofs.Common.{◌≡◌, ℕ, zero, suc, ◌+◌, ◌-◌, ◌*◌, ◌^◌, ◌<◌, ◌≤◌, ◌&&◌, Bool, true, false, cond, eqb, List, [], ◌∷◌, length, replicate, Option, Some, None, refl, ap, subst, ◌∙◌, arith, lit<, is_some}
use Rattle.std.specs.Prelude.{slice_set, slice_index, nat_le, option_and_then, option_map}
use Rattle.std.specs.List.{All, list_all}
use Rattle.std.specs.Char.{is_ascii_digit}
use Rattle.std.proofs.Math.ListN.{length-set}
use Rattle.std.proofs.lemmas.Bool.{leb-true}
use Rattle.std.proofs.lemmas.List.{length-replicate}
use Rattle.std.proofs.lemmas.List.Elements.{All-nil, All-cons, All-set, All-replicate}
use Rattle.std.proofs.lemmas.Nat.{shr_le, shr_split}
use Rattle.std.proofs.lemmas.Option.{cond_some, none-some, option_and_then_some, same_Some}
use Rattle.snap_core.specs.declared.program.Field.{Field}
use Rattle.snap_core.specs.declared.program.Found.{Found}
use Rattle.snap_core.specs.declared.program.Found.TheVariants.{Plain, Split}
use Rattle.snap_core.specs.Fields.{count, found}
use Rattle.snap_core.specs.Figures.{number_up_to, number_of, octet_of, address_behind, address_of_parts, address_of, value_of_digits, parts_by}
use Rattle.snap_core.specs.Inputs.{IsPacket}
use Rattle.snap_core.specs.Arrays.{has}
use Rattle.snap_io.specs.Lines.{Next, next_line, no_line, long_line, many_bytes, next_in}
use Rattle.snap_rows.specs.declared.tables.Tables.{Tables}
use Rattle.snap_rows.specs.Entries.{port_at}
use Rattle.snap_report.specs.PacketLines.{Said, skip, inject, bad, Draft, plain_or, plain_value, both_numbers, split_or, split_value, with_number, with_value, with_parts, with_word, with_words, is_port, draft_at_first, packet_at, packet_of_words, said_or_bad, said_by_words, said_by, words_of, without_return}
use Rattle.snap_report.specs.declared.fault.TraceFault.TheVariants.{Packets}
use Rattle.snap_report.specs.Spelled.{ended, refused, spelled, Spelled, with_said, with_next, after_last, spelled_from}
use Rattle.snap_runs.specs.Plain.{at_ports, spelled_for}

-- ---- numbers
second_of : {X : Type 0} (b : Bool) (x y : X) → cond b None (Some x) ≡ Some y → x ≡ y
second_of true x y is = absurd (none-some y is)
second_of false x y is = same_Some x y is

behind_test : {X : Type 0} (b : Bool) (o : Option X) (y : X) → cond b o None ≡ Some y → o ≡ Some y
behind_test true o y is = is
behind_test false o y is = absurd (none-some y is)

number-within : (most : ℕ) (text : List ℕ) (n : ℕ) → number_up_to most text ≡ Some n → n ≤ most
number-within most [] n is = absurd (none-some n is)
number-within most (d ∷ ds) n is =
    let v = value_of_digits (d ∷ ds) in
    let e = cond_some (list_all is_ascii_digit (d ∷ ds) && nat_le v most) v n is in
    subst (λ x. x ≤ most) e.1 (leb-true v most (and_right' (list_all is_ascii_digit (d ∷ ds)) (nat_le v most) e.0))
  where
    and_right' : (a b : Bool) → (a && b) ≡ true → b ≡ true
    and_right' true b e = e
    and_right' false b e = absurd (none-some true (ap (λ x. cond x (Some true) None) e))

number-small : (text : List ℕ) (n : ℕ) → number_of text ≡ Some n → n < 2 ^ 64
number-small text n is = let h : n ≤ 2 ^ 64 - 1 = number-within (2 ^ 64 - 1) text n is in omega arith

octet-within : (text : List ℕ) (n : ℕ) → octet_of text ≡ Some n → n ≤ 255
octet-within text n is = number-within 255 text n (behind_test (nat_le (length text) 3) (number_up_to 255 text) n is)

pub mapped : {X Y : Type 0} (f : X → Y) (o : Option X) (y : Y) → option_map f o ≡ Some y → (x : X) × (o ≡ Some x) × (f x ≡ y)
mapped f None y is = absurd (none-some y is)
mapped f (Some x) y is = (x, refl, same_Some _ y is)

behind-within : (text : List ℕ) (front n : ℕ) → address_behind front (octet_of text) ≡ Some n → n ≤ front * 256 + 255
behind-within text front n is = let m = mapped (λ x. front * 256 + x) (octet_of text) n is in let h = octet-within text m.0 m.1 in omega (arith, h, m.2)

address_of_parts-small : (parts : List (List ℕ)) (n : ℕ) → address_of_parts parts ≡ Some n → n < 2 ^ 32
address_of_parts-small [] n is = absurd (none-some n is)
address_of_parts-small (a ∷ []) n is = absurd (none-some n is)
address_of_parts-small (a ∷ b ∷ []) n is = absurd (none-some n is)
address_of_parts-small (a ∷ b ∷ c ∷ []) n is = absurd (none-some n is)
address_of_parts-small (a ∷ b ∷ c ∷ d ∷ e ∷ parts) n is = absurd (none-some n is)
address_of_parts-small (a ∷ b ∷ c ∷ d ∷ []) n is =
    let two = option_and_then (λ m. address_behind m (octet_of b)) (octet_of a) in
    let three = option_and_then (λ m. address_behind m (octet_of c)) two in
    option_and_then_some (λ m. address_behind m (octet_of d)) three n is (λ z ez behind_z.
    option_and_then_some (λ m. address_behind m (octet_of c)) two z ez (λ y ey behind_y.
    option_and_then_some (λ m. address_behind m (octet_of b)) (octet_of a) y ey (λ x ex behind_x.
    below x y z n (octet-within a x ex) (behind-within b x y behind_x) (behind-within c y z behind_y) (behind-within d z n behind_z))))
  where
    below : (x y z n : ℕ) → x ≤ 255 → y ≤ x * 256 + 255 → z ≤ y * 256 + 255 → n ≤ z * 256 + 255 → n < 2 ^ 32
    below x y z n p q r s = omega arith

address-small : (text : List ℕ) (n : ℕ) → address_of text ≡ Some n → n < 2 ^ 64
address-small text n is = let h : n < 2 ^ 32 = address_of_parts-small (parts_by (λ b. eqb b 46) text) n is in omega arith

plain_or-small : (o p : Option ℕ) (n : ℕ) → ((x : ℕ) → o ≡ Some x → x < 2 ^ 64) → ((x : ℕ) → p ≡ Some x → x < 2 ^ 64) → plain_or o p ≡ Some n → n < 2 ^ 64
plain_or-small None p n a b is = b n is
plain_or-small (Some x) p n a b is = a n is

plain-small : (text : List ℕ) (n : ℕ) → plain_value text ≡ Some n → n < 2 ^ 64
plain-small text n is = plain_or-small (number_of text) (address_of text) n (number-small text) (address-small text) is

abbrev AreSmall : ℕ × ℕ → Type 0
AreSmall p = (p.0 < 2 ^ 64) × (p.1 < 2 ^ 64)

both-small : (parts : List (List ℕ)) (p : ℕ × ℕ) → both_numbers parts ≡ Some p → AreSmall p
both-small [] p is = absurd (none-some p is)
both-small (a ∷ []) p is = absurd (none-some p is)
both-small (a ∷ b ∷ c ∷ parts) p is = absurd (none-some p is)
both-small (net ∷ host ∷ []) p is =
    option_and_then_some (λ n. option_map (λ h. (n, h)) (number_of host)) (number_of net) p is (λ n en rest.
    let m = mapped (λ h. (n, h)) (number_of host) p rest in
    subst AreSmall m.2 (number-small net n en, number-small host m.0 m.1))

split-small : (prefix : ℕ) (o : Option ℕ) (q : Option (ℕ × ℕ)) (p : ℕ × ℕ) → ((x : ℕ) → o ≡ Some x → x < 2 ^ 64) → ((x : ℕ × ℕ) → q ≡ Some x → AreSmall x) → split_or prefix o q ≡ Some p → AreSmall p
split-small prefix None q p a b is = b p is
split-small prefix (Some x) q p a b is =
    let small : x < 2 ^ 64 = a x refl in let net = shr_le x (32 - prefix) in let whole = shr_split x (32 - prefix) in
    subst AreSmall (same_Some _ p is) (omega arith, omega arith)

-- ---- drafts
module _ (m : ℕ) where
  abbrev Fits : Draft → Type 0
  Fits d = IsPacket m d.numbers

  set-fits : (k : List ℕ) (c n : ℕ) → IsPacket m k → n < 2 ^ 64 → IsPacket m (slice_set k c n)
  set-fits k c n fits small = record { long = length-set k c n ∙ fits.long; numbers = All-set (λ x. x < 2 ^ 64) k c n small fits.numbers }

  number-fits : (c n : ℕ) (d d' : Draft) → Fits d → n < 2 ^ 64 → with_number c n d ≡ Some d' → Fits d'
  number-fits c n d d' fits small is = subst Fits (second_of (has d.named c) _ d' is) (set-fits d.numbers c n fits small)

  value-fits : (named : Option Found) (text : List ℕ) (d d' : Draft) → Fits d → with_value named text d ≡ Some d' → Fits d'
  value-fits None text d d' fits is = absurd (none-some d' is)
  value-fits (Some (Plain c)) text d d' fits is =
      option_and_then_some (λ n. with_number c n d) (plain_value text) d' is (λ n en rest. number-fits c n d d' fits (plain-small text n en) rest)
  value-fits (Some (Split net host prefix)) text d d' fits is =
      option_and_then_some (λ (p : ℕ × ℕ). option_and_then (with_number host p.1) (with_number net p.0 d)) (split_value prefix text) d' is (λ p ep rest.
      let small : AreSmall p = split-small prefix _ _ p (address-small text) (both-small (parts_by (λ b. eqb b 58) text)) ep in
      option_and_then_some (with_number host p.1) (with_number net p.0 d) d' rest (λ d1 e1 rest1.
      number-fits host p.1 d1 d' (number-fits net p.0 d d1 fits small.0 e1) small.1 rest1))

  parts-fit : (fields : List Field) (parts : List (List ℕ)) (d d' : Draft) → Fits d → with_parts fields parts d ≡ Some d' → Fits d'
  parts-fit fields [] d d' fits is = absurd (none-some d' is)
  parts-fit fields (a ∷ []) d d' fits is = absurd (none-some d' is)
  parts-fit fields (a ∷ b ∷ c ∷ parts) d d' fits is = absurd (none-some d' is)
  parts-fit fields (name ∷ value ∷ []) d d' fits is = value-fits (found fields name) value d d' fits is

  words-fit : (fields : List Field) (words : List (List ℕ)) (d d' : Draft) → Fits d → with_words fields words d ≡ Some d' → Fits d'
  words-fit fields [] d d' fits is = subst Fits (same_Some d d' is) fits
  words-fit fields (word ∷ words) d d' fits is =
      option_and_then_some (with_words fields words) (with_word fields word d) d' is (λ d1 e1 rest.
      words-fit fields words d1 d' (parts-fit fields (parts_by (λ b. eqb b 61) word) d d1 fits e1) rest)

-- ---- packets
packet-fits : (fields : List Field) (words : List (List ℕ)) (k : List ℕ) → packet_of_words fields words ≡ Some k → IsPacket (count fields) k
packet-fits fields [] k is = absurd (none-some k is)
packet-fits fields (word ∷ words) k is =
    option_and_then_some (packet_at fields words) (number_up_to (2 ^ 32 - 1) word) k is (λ port ep rest.
    let d = mapped (λ (draft : Draft). slice_set draft.numbers 0 port) (with_words fields words (draft_at_first fields)) k (behind_test (is_port port) _ k rest) in
    let first : IsPacket (count fields) (replicate (count fields) 0) = record { long = length-replicate (count fields) 0; numbers = All-replicate (λ x. x < 2 ^ 64) (count fields) 0 (lit< tt) } in
    let small : port ≤ 2 ^ 32 - 1 = number-within (2 ^ 32 - 1) word port ep in
    subst (IsPacket (count fields)) d.2 (set-fits (count fields) d.0.numbers 0 port (words-fit (count fields) fields words (draft_at_first fields) d.0 first d.1) (omega arith)))

abbrev SaidFits : ℕ → Said → Type 0
SaidFits m skip = Unit {0}
SaidFits m (inject k) = IsPacket m k
SaidFits m bad = Unit {0}

or_bad-fits : (m : ℕ) (o : Option (List ℕ)) → ((k : List ℕ) → o ≡ Some k → IsPacket m k) → SaidFits m (said_or_bad o)
or_bad-fits m None h = tt
or_bad-fits m (Some k) h = h k refl

words_said-fit : (fields : List Field) (words : List (List ℕ)) → SaidFits (count fields) (said_by_words fields words)
words_said-fit fields [] = tt
words_said-fit fields (word ∷ words) = or_bad-fits (count fields) (packet_of_words fields (word ∷ words)) (packet-fits fields (word ∷ words))

said-fits : (fields : List Field) (line : List ℕ) → SaidFits (count fields) (said_by fields line)
said-fits fields [] = tt
said-fits fields (b ∷ bs) =
    elim (eqb b 35) as (λ t. SaidFits (count fields) (cond t skip (said_by_words fields (words_of (without_return (b ∷ bs)))))) [
      | true ↦ tt
      | false ↦ words_said-fit fields (words_of (without_return (b ∷ bs)))
    ]

at_ports-fits : (m : ℕ) (t : Tables) (said : Said) → SaidFits m said → SaidFits m (at_ports t said)
at_ports-fits m t skip fits = tt
at_ports-fits m t bad fits = tt
at_ports-fits m t (inject k) fits = elim (is_some (port_at t (slice_index k 0))) as (λ b. SaidFits m (cond b (inject k) bad)) [ true ↦ fits | false ↦ tt ]

-- ---- files
module _ (m : ℕ) (said : List ℕ → Said) (fits : (line : List ℕ) → SaidFits m (said line)) where
  said_then-fits : (line : ℕ) (s : Said) (after : Spelled) → SaidFits m s → All (IsPacket m) after.packets → All (IsPacket m) (with_said line s after).packets
  said_then-fits line skip after first all = all
  said_then-fits line (inject k) after first all = All-cons (IsPacket m) k after.packets first all
  said_then-fits line bad after first all = All-nil (IsPacket m)

  next-fits : (line : ℕ) (next : Next) (after : ℕ → Spelled) → ((behind : ℕ) → All (IsPacket m) (after behind).packets) → All (IsPacket m) (with_next said line next after).packets
  next-fits line (next_line text behind) after all = said_then-fits line (said text) (after behind) (fits text) (all behind)
  next-fits line no_line after all = All-nil (IsPacket m)
  next-fits line long_line after all = All-nil (IsPacket m)
  next-fits line many_bytes after all = All-nil (IsPacket m)

  last-fits : (next : Next) → All (IsPacket m) (after_last next).packets
  last-fits (next_line text behind) = All-nil (IsPacket m)
  last-fits no_line = All-nil (IsPacket m)
  last-fits long_line = All-nil (IsPacket m)
  last-fits many_bytes = All-nil (IsPacket m)

  spelled-fits : (file : List ℕ) (left line at : ℕ) → All (IsPacket m) (spelled_from said file left line at).packets
  unfolding spelled_from
  spelled-fits file zero line at = last-fits (next_in 67108864 65536 file at)
  spelled-fits file (suc left) line at = next-fits line (next_in 67108864 65536 file at) (λ behind. spelled_from said file left (line + 1) behind) (λ behind. spelled-fits file left (line + 1) behind)

pub spelled_packets_fit : (t : Tables) (file : List ℕ) → All (IsPacket (count t.fields)) (spelled_for t file).packets
spelled_packets_fit t file = spelled-fits (count t.fields) (λ line. at_ports t (said_by t.fields line)) (λ line. at_ports-fits (count t.fields) t (said_by t.fields line) (said-fits t.fields line)) file 1000000 1 0

-- ---- files that are read to their end
module _ (t : Tables) (said : List ℕ → Said) where
  abbrev pub at_them : List ℕ → Said
  at_them line = at_ports t (said line)

  pub said_same : (line : ℕ) (s : Said) (a b : Spelled) → (with_said line (at_ports t s) a).stop ≡ ended → (a.stop ≡ ended → a ≡ b) → with_said line (at_ports t s) a ≡ with_said line s b
  said_same line skip a b whole same = same whole
  said_same line bad a b whole same = refl
  said_same line (inject k) a b whole same = by (is_some (port_at t (slice_index k 0))) whole
    where
      by : (known : Bool) → (with_said line (cond known (inject k) bad) a).stop ≡ ended → with_said line (cond known (inject k) bad) a ≡ with_said line (inject k) b
      by true stop = let e = same stop in λ i. record { packets = k ∷ (e i).packets; stop = (e i).stop }
      by false stop = absurd (let apart : refused (Packets line) ≡ ended = stop in cc)

  next_same : (line : ℕ) (next : Next) (a b : ℕ → Spelled) → (with_next at_them line next a).stop ≡ ended → ((behind : ℕ) → (a behind).stop ≡ ended → a behind ≡ b behind) → with_next at_them line next a ≡ with_next said line next b
  next_same line (next_line text behind) a b whole same = said_same line (said text) (a behind) (b behind) whole (same behind)
  next_same line no_line a b whole same = refl
  next_same line long_line a b whole same = refl
  next_same line many_bytes a b whole same = refl

  spelled_same : (file : List ℕ) (left line at : ℕ) → (spelled_from at_them file left line at).stop ≡ ended → spelled_from at_them file left line at ≡ spelled_from said file left line at
  unfolding spelled_from
  spelled_same file zero line at whole = refl
  spelled_same file (suc left) line at whole =
      next_same line (next_in 67108864 65536 file at) (λ behind. spelled_from at_them file left (line + 1) behind) (λ behind. spelled_from said file left (line + 1) behind) whole
      (λ behind stop. spelled_same file left (line + 1) behind stop)

pub spelled_for_is_spelled : (t : Tables) (file : List ℕ) → (spelled_for t file).stop ≡ ended → spelled_for t file ≡ spelled t.fields file
spelled_for_is_spelled t file whole = spelled_same t (said_by t.fields) file 1000000 1 0 whole
