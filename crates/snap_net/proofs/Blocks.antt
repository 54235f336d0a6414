-- Edits of a list in blocks.
use Rattle.std.proofs.Common.{◌≡◌, ℕ, zero, suc, ◌+◌, ◌-◌, ◌<◌, ◌≤◌, List, [], ◌∷◌, ◌++◌, take, drop, length, get_or, refl, sym, ap, ◌∙◌, arith, append_assoc, Some, length-append}
use Rattle.std.specs.Prelude.{slice_get}
use Rattle.std.proofs.Math.ListN.{set}
use Rattle.std.proofs.Math.Seq.{take-append-add, drop-append-add}
use Rattle.std.proofs.lemmas.List.{take-append-le, drop-append-le, take_at, drop_at, drop_all, set_split, set-get_or, append-nil, get_or_read, length_push, length-take-le, length-drop, nil_from_length}
use Rattle.std.proofs.lemmas.Option.{get_or_from_slice_get}
use Rattle.std.specs.List.{insert}
use Rattle.std.proofs.lemmas.List.Concat.{flat_map-append}
use Rattle.snap_net.specs.declared.flying.Flying.{Flying}
use Rattle.snap_rows.specs.declared.head.Head.{Head}
use Rattle.snap_net.specs.declared.flights.Slot.{Slot}
use Rattle.snap_net.specs.Flights.{joined, spliced}
use Rattle.snap_net.specs.Spots.{IsSpot, number_at}

pub joined-append : (xs ys : List (List Flying)) → joined (xs ++ ys) ≡ joined xs ++ joined ys
joined-append xs ys = flat_map-append (λ b. b) xs ys

-- the list of blocks, of which block i is b
pub joined-set : (bs : List (List Flying)) (i : ℕ) (b : List Flying) → i < length bs → joined (set bs i b) ≡ joined (take i bs) ++ (b ++ joined (drop (suc i) bs))
joined-set bs i b within = ap joined (set_split bs i b within) ∙ joined-append (take i bs) (b ∷ drop (suc i) bs)

pub joined_at : (bs : List (List Flying)) (i : ℕ) → i < length bs → joined bs ≡ joined (take i bs) ++ (get_or bs i [] ++ joined (drop (suc i) bs))
joined_at bs i within = ap joined (sym (set-get_or bs i [])) ∙ joined-set bs i (get_or bs i []) within

-- an edit within the middle of three lists
splice_inside : (xs b zs ys : List Flying) (p n : ℕ) → p + n ≤ length b → spliced (xs ++ (b ++ zs)) (length xs + p) n ys ≡ xs ++ (spliced b p n ys ++ zs)
splice_inside xs b zs ys p n within =
    ap (λ l. l ++ (ys ++ drop (length xs + p + n) (xs ++ (b ++ zs)))) (take-append-add xs (b ++ zs) p ∙ ap (λ l. xs ++ l) (take-append-le p b zs (omega (arith, within))))
    ∙ ap (λ l. (xs ++ take p b) ++ (ys ++ l)) (
    ap (λ i. drop i (xs ++ (b ++ zs))) (let e : length xs + p + n ≡ length xs + (p + n) = omega arith in e)
    ∙ drop-append-add xs (b ++ zs) (p + n)
    ∙ drop-append-le (p + n) b zs within
    )
    ∙ append_assoc xs (take p b) (ys ++ (drop (p + n) b ++ zs))
    ∙ ap (λ l. xs ++ l) (sym (append_assoc (take p b) (ys ++ drop (p + n) b) zs ∙ ap (λ l. take p b ++ l) (append_assoc ys (drop (p + n) b) zs)))

-- an edit of a block is one of the list
pub block_edit : (bs : List (List Flying)) (i p n : ℕ) (ys : List Flying) → i < length bs → p + n ≤ length (get_or bs i [])
    → joined (set bs i (spliced (get_or bs i []) p n ys)) ≡ spliced (joined bs) (length (joined (take i bs)) + p) n ys
block_edit bs i p n ys within inside =
    joined-set bs i (spliced (get_or bs i []) p n ys) within
    ∙ sym (splice_inside (joined (take i bs)) (get_or bs i []) (joined (drop (suc i) bs)) ys p n inside)
    ∙ ap (λ l. spliced l (length (joined (take i bs)) + p) n ys) (sym (joined_at bs i within))

-- ---- elements
pub get_skip : (xs ys : List Flying) (p : ℕ) → slice_get (xs ++ ys) (length xs + p) ≡ slice_get ys p
get_skip [] ys p = ap (slice_get ys) (omega arith)
get_skip (x ∷ xs) ys p = ap (slice_get (x ∷ (xs ++ ys))) (let e : suc (length xs) + p ≡ suc (length xs + p) = omega arith in e) ∙ get_skip xs ys p

get_before : (ys zs : List Flying) (p : ℕ) → p < length ys → slice_get (ys ++ zs) p ≡ slice_get ys p
get_before [] zs p within = absurd (let h : p < 0 = within in omega arith)
get_before (y ∷ ys) zs zero within = refl
get_before (y ∷ ys) zs (suc p) within = get_before ys zs p (let h : suc p < suc (length ys) = within in omega arith)

-- a copy of a block is one of the list
pub block_get : (bs : List (List Flying)) (i p : ℕ) → i < length bs → p < length (get_or bs i []) → slice_get (joined bs) (length (joined (take i bs)) + p) ≡ slice_get (get_or bs i []) p
block_get bs i p within inside =
    ap (λ l. slice_get l (length (joined (take i bs)) + p)) (joined_at bs i within)
    ∙ get_skip (joined (take i bs)) (get_or bs i [] ++ joined (drop (suc i) bs)) p
    ∙ get_before (get_or bs i []) (joined (drop (suc i) bs)) p inside

-- ---- what is done to a block x, which becomes b
same_block : (bs : List (List Flying)) (i : ℕ) (x : List Flying) → i < length bs → x ≡ get_or bs i x → x ≡ get_or bs i []
same_block bs i x within read = get_or_read bs i x within read []

pub sent : (xs : List Flying) (i : ℕ) (x c : Flying) (at : ℕ) (head : Head) → i < length xs → x ≡ get_or xs i x → slice_get xs i ≡ Some c
    → set xs i (record { number = x.number; at = at; head = head; packet = x.packet }) ≡ spliced xs i 1 (record { number = c.number; at = at; head = head; packet = c.packet } ∷ [])
sent xs i x c at head within read is =
    ap (λ (y : Flying). set xs i (record { number = y.number; at = at; head = head; packet = y.packet })) (read ∙ get_or_from_slice_get xs i c x is)
    ∙ set_split xs i (record { number = c.number; at = at; head = head; packet = c.packet }) within
    ∙ ap (λ n. take i xs ++ (record { number = c.number; at = at; head = head; packet = c.packet } ∷ drop n xs)) (let e : suc i ≡ i + 1 = omega arith in e)

pub inserted : (bs : List (List Flying)) (s : Slot) (x b : List Flying) (copy : Flying) → IsSpot bs (number_at bs s) s → x ≡ get_or bs s.block x → b ≡ spliced x (s.place + 1) 0 (copy ∷ [])
    → joined (set bs s.block b) ≡ spliced (joined bs) (number_at bs s + 1) 0 (copy ∷ [])
inserted bs s x b copy spot read put =
    let place = spot.place in
    ap (λ b. joined (set bs s.block b)) (put ∙ ap (λ l. spliced l (s.place + 1) 0 (copy ∷ [])) (same_block bs s.block x spot.block read))
    ∙ block_edit bs s.block (s.place + 1) 0 (copy ∷ []) spot.block (omega (arith, place))
    ∙ ap (λ k. spliced (joined bs) k 0 (copy ∷ [])) (let e : length (joined (take s.block bs)) + (s.place + 1) ≡ length (joined (take s.block bs)) + s.place + 1 = omega arith in e)

pub one_replaced : (bs : List (List Flying)) (s : Slot) (x b ys : List Flying) → IsSpot bs (number_at bs s) s → x ≡ get_or bs s.block x → b ≡ spliced x s.place 1 ys
    → joined (set bs s.block b) ≡ spliced (joined bs) (number_at bs s) 1 ys
one_replaced bs s x b ys spot read put =
    let place = spot.place in
    ap (λ b. joined (set bs s.block b)) (put ∙ ap (λ l. spliced l s.place 1 ys) (same_block bs s.block x spot.block read))
    ∙ block_edit bs s.block s.place 1 ys spot.block (omega (arith, place))

pub at_spot : (bs : List (List Flying)) (s : Slot) (x : List Flying) → IsSpot bs (number_at bs s) s → x ≡ get_or bs s.block x → slice_get (joined bs) (number_at bs s) ≡ slice_get x s.place
at_spot bs s x spot read = block_get bs s.block s.place spot.block spot.place ∙ ap (λ l. slice_get l s.place) (sym (same_block bs s.block x spot.block read))

pub halved : (bs bs' : List (List Flying)) (i : ℕ) (x front half : List Flying) → i < length bs → x ≡ get_or bs i x → front ++ half ≡ x → bs' ≡ insert (set bs i front) (i + 1) half → joined bs' ≡ joined bs
halved bs bs' i x front half within read parts put =
    ap joined (put ∙ cut)
    ∙ joined-append (take i bs) (front ∷ half ∷ drop (suc i) bs)
    ∙ ap (λ l. joined (take i bs) ++ l) (sym (append_assoc front half (joined (drop (suc i) bs))) ∙ ap (λ l. l ++ joined (drop (suc i) bs)) (parts ∙ same_block bs i x within read))
    ∙ sym (joined_at bs i within)
  where
    before : List (List Flying)
    before = take i bs

    long : length (take i bs ++ front ∷ []) ≡ i + 1
    long = length_push (take i bs) front ∙ ap (λ n. n + 1) (length-take-le i bs (omega (arith, within)))

    whole : set bs i front ≡ (take i bs ++ front ∷ []) ++ drop (suc i) bs
    whole = set_split bs i front within ∙ sym (append_assoc (take i bs) (front ∷ []) (drop (suc i) bs))

    cut : insert (set bs i front) (i + 1) half ≡ take i bs ++ (front ∷ half ∷ drop (suc i) bs)
    cut =
        ap (λ l. insert l (i + 1) half) whole
        ∙ ap (λ l. l ++ (half ∷ drop (i + 1) ((take i bs ++ front ∷ []) ++ drop (suc i) bs))) (take_at (take i bs ++ front ∷ []) (drop (suc i) bs) (i + 1) long)
        ∙ ap (λ l. (take i bs ++ front ∷ []) ++ (half ∷ l)) (drop_at (take i bs ++ front ∷ []) (drop (suc i) bs) (i + 1) long)
        ∙ append_assoc (take i bs) (front ∷ []) (half ∷ drop (suc i) bs)

pub emptied : (bs bs' : List (List Flying)) (i : ℕ) (x : List Flying) → i < length bs → x ≡ get_or bs i x → length x ≡ 0 → bs' ≡ take i bs ++ drop (i + 1) bs → joined bs' ≡ joined bs
emptied bs bs' i x within read empty left =
    ap joined (left ∙ ap (λ n. take i bs ++ drop n bs) (let e : i + 1 ≡ suc i = omega arith in e))
    ∙ joined-append (take i bs) (drop (suc i) bs)
    ∙ ap (λ b. joined (take i bs) ++ (b ++ joined (drop (suc i) bs))) (sym (sym (same_block bs i x within read) ∙ nil_from_length x empty))
    ∙ sym (joined_at bs i within)

pub last_grown : (bs : List (List Flying)) (i : ℕ) (x b : List Flying) (copy : Flying) → i + 1 ≡ length bs → x ≡ get_or bs i x → b ≡ x ++ copy ∷ [] → joined (set bs i b) ≡ joined bs ++ copy ∷ []
last_grown bs i x b copy last read put =
    joined-set bs i b within
    ∙ ap (λ l. joined (take i bs) ++ (b ++ joined l)) none
    ∙ ap (λ l. joined (take i bs) ++ l) (append-nil b ∙ put ∙ ap (λ l. l ++ copy ∷ []) same)
    ∙ sym (append_assoc (joined (take i bs)) (get_or bs i []) (copy ∷ []))
    ∙ ap (λ l. l ++ copy ∷ []) (sym (joined_at bs i within ∙ ap (λ l. joined (take i bs) ++ (get_or bs i [] ++ joined l)) none ∙ ap (λ l. joined (take i bs) ++ l) (append-nil (get_or bs i []))))
  where
    within : i < length bs
    within = omega (arith, last)

    none : drop (suc i) bs ≡ []
    none = drop_all (suc i) bs (omega (arith, last))

    same : x ≡ get_or bs i []
    same = same_block bs i x within read

-- ---- the length of the list
pub found : (xs : List Flying) (k : ℕ) → k < length xs → (c : Flying) × (slice_get xs k ≡ Some c)
found [] k within = absurd (let h : k < 0 = within in omega arith)
found (x ∷ xs) zero within = (x, refl)
found (x ∷ xs) (suc k) within = found xs k (let h : suc k < suc (length xs) = within in omega arith)

one_for_one : (xs : List Flying) (k : ℕ) (c : Flying) → k < length xs → length (spliced xs k 1 (c ∷ [])) ≡ length xs
one_for_one xs k c within =
    length-append (take k xs) (c ∷ drop (k + 1) xs)
    ∙ (let before : length (take k xs) ≡ k = length-take-le k xs (omega (arith, within)) in
    let behind : length (drop (k + 1) xs) ≡ length xs - (k + 1) = length-drop (k + 1) xs in
    omega (arith, before, behind, within))

pub sent_length : (xs ys : List Flying) (k : ℕ) (f : Flying → Flying) → k < length xs → ((c : Flying) → slice_get xs k ≡ Some c → ys ≡ spliced xs k 1 (f c ∷ [])) → length ys ≡ length xs
sent_length xs ys k f within becomes =
    let c = found xs k within in
    ap length (becomes c.0 c.1) ∙ one_for_one xs k (f c.0) within
