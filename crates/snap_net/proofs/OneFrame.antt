-- A frame spells one head and one packet.
use Rattle.std.proofs.Common.{◌≡◌, ℕ, suc, ◌+◌, ◌*◌, ◌<◌, ◌≤◌, ◌^◌, true, List, [], ◌∷◌, ◌++◌, length, refl, sym, ap, ap₂, subst, ◌∙◌, arith, length-append, inl, inr, ⊎_elim, ◌⊎◌}
use Rattle.std.specs.Int.{to_be_bytes, from_be_bytes}
use Rattle.std.proofs.lemmas.Bool.{false≢true}
use Rattle.std.proofs.lemmas.Nat.{from_be_bytes-to_be_bytes_2, from_be_bytes-to_be_bytes_4, from_be_bytes-to_be_bytes_8}
use mir.Syntax.{w16, w32, w64}
use Rattle.snap_rows.specs.declared.head.Head.{Head}
use Rattle.snap_rows.specs.declared.head.Head.TheVariants.{Walk, Stage, Out, Visit}
use Rattle.snap_net.specs.declared.decode.HeadFault.{HeadFault}
use Rattle.snap_net.specs.declared.decode.HeadFault.TheVariants.{Short, Long, BadTag, NoMemory}
use Rattle.snap_net.specs.Faults.{IsFault}
use Rattle.snap_net.specs.Frames.{HeadFits, frame, head_bytes, packet_bytes, frame_length, is_tag}
use Rattle.snap_core.specs.Laws.{AreSmall}

-- two lists in front of others
split : (xs ys r s : List ℕ) → length xs ≡ length ys → xs ++ r ≡ ys ++ s → (xs ≡ ys) × (r ≡ s)
split [] [] r s l e = (refl, e)
split [] (y ∷ ys) r s l e = absurd (let h : 0 ≡ suc (length ys) = l in omega arith)
split (x ∷ xs) [] r s l e = absurd (let h : suc (length xs) ≡ 0 = l in omega arith)
split (x ∷ xs) (y ∷ ys) r s l e =
    let head : x ≡ y = cc in
    let tail : xs ++ r ≡ ys ++ s = cc in
    let rest = split xs ys r s (let h : suc (length xs) ≡ suc (length ys) = l in omega arith) tail in
    (ap₂ (λ (a : ℕ) (b : List ℕ). a ∷ b) head rest.0, rest.1)

same8 : (a b : ℕ) → a < 2 ^ 64 → b < 2 ^ 64 → to_be_bytes w64 a ≡ to_be_bytes w64 b → a ≡ b
same8 a b f g e = sym (from_be_bytes-to_be_bytes_8 a f) ∙ ap (from_be_bytes w64) e ∙ from_be_bytes-to_be_bytes_8 b g

same4 : (a b : ℕ) → a < 2 ^ 32 → b < 2 ^ 32 → to_be_bytes w32 a ≡ to_be_bytes w32 b → a ≡ b
same4 a b f g e = sym (from_be_bytes-to_be_bytes_4 a f) ∙ ap (from_be_bytes w32) e ∙ from_be_bytes-to_be_bytes_4 b g

same2 : (a b : ℕ) → a < 2 ^ 16 → b < 2 ^ 16 → to_be_bytes w16 a ≡ to_be_bytes w16 b → a ≡ b
same2 a b f g e = sym (from_be_bytes-to_be_bytes_2 a f) ∙ ap (from_be_bytes w16) e ∙ from_be_bytes-to_be_bytes_2 b g

fits_tail : (c : ℕ) (k : List ℕ) → AreSmall (c ∷ k) → AreSmall k
fits_tail c k h = λ i d within. h (suc i) d (let w : i < length k = within in omega arith)

same_packet : (k k' : List ℕ) → AreSmall k → AreSmall k' → length k ≡ length k' → packet_bytes k ≡ packet_bytes k' → k ≡ k'
same_packet [] [] f g l e = refl
same_packet [] (c ∷ k') f g l e = absurd (let h : 0 ≡ suc (length k') = l in omega arith)
same_packet (c ∷ k) [] f g l e = absurd (let h : suc (length k) ≡ 0 = l in omega arith)
same_packet (c ∷ k) (d ∷ k') f g l e =
    let s = split (to_be_bytes w64 c) (to_be_bytes w64 d) (packet_bytes k) (packet_bytes k') refl e in
    ap₂ (λ (a : ℕ) (b : List ℕ). a ∷ b) (same8 c d (f 0 c (let n = length k in omega arith)) (g 0 d (let n = length k' in omega arith)) s.0)
    (same_packet k k' (fits_tail c k f) (fits_tail d k' g) (let h : suc (length k) ≡ suc (length k') = l in omega arith) s.1)

tail_of : (x y : ℕ) (xs ys : List ℕ) → x ∷ xs ≡ y ∷ ys → xs ≡ ys
tail_of x y xs ys e = cc

head_of : (x y : ℕ) (xs ys : List ℕ) → x ∷ xs ≡ y ∷ ys → x ≡ y
head_of x y xs ys e = cc

other_tag : {P : Type 0} (x y : ℕ) (xs ys : List ℕ) → x < y ⊎ y < x → x ∷ xs ≡ y ∷ ys → P
other_tag x y xs ys apart e = let same : x ≡ y = head_of x y xs ys e in absurd (⊎_elim (λ lt. omega arith) (λ gt. omega arith) apart)

pub spells_one : (h h' : Head) (k k' : List ℕ) → HeadFits h → HeadFits h' → AreSmall k → AreSmall k' → length k ≡ length k' → frame h k ≡ frame h' k' → (h ≡ h') × (k ≡ k')
spells_one (Walk n) (Walk n') k k' f g fk gk l e =
    let s = split (to_be_bytes w64 n) (to_be_bytes w64 n') (packet_bytes k) (packet_bytes k') refl (tail_of 1 1 _ _ e) in
    (ap Walk (same8 n n' f g s.0), same_packet k k' fk gk l s.1)
spells_one (Stage n i) (Stage n' i') k k' f g fk gk l e =
    let s = split (to_be_bytes w64 n ++ to_be_bytes w16 i) (to_be_bytes w64 n' ++ to_be_bytes w16 i') (packet_bytes k) (packet_bytes k') refl (tail_of 2 2 _ _ e) in
    let p = split (to_be_bytes w64 n) (to_be_bytes w64 n') (to_be_bytes w16 i) (to_be_bytes w16 i') refl s.0 in
    (ap₂ Stage (same8 n n' f.0 g.0 p.0) (same2 i i' f.1 g.1 p.1), same_packet k k' fk gk l s.1)
spells_one (Out p) (Out p') k k' f g fk gk l e =
    let s = split (to_be_bytes w32 p) (to_be_bytes w32 p') (packet_bytes k) (packet_bytes k') refl (tail_of 3 3 _ _ e) in
    (ap Out (same4 p p' f g s.0), same_packet k k' fk gk l s.1)
spells_one (Visit r n) (Visit r' n') k k' f g fk gk l e =
    let s = split (to_be_bytes w16 r ++ to_be_bytes w64 n) (to_be_bytes w16 r' ++ to_be_bytes w64 n') (packet_bytes k) (packet_bytes k') refl (tail_of 4 4 _ _ e) in
    let p = split (to_be_bytes w16 r) (to_be_bytes w16 r') (to_be_bytes w64 n) (to_be_bytes w64 n') refl s.0 in
    (ap₂ Visit (same2 r r' f.0 g.0 p.0) (same8 n n' f.1 g.1 p.1), same_packet k k' fk gk l s.1)
spells_one (Walk n) (Stage n' i') k k' f g fk gk l e = other_tag 1 2 _ _ (inl (omega arith)) e
spells_one (Walk n) (Out p') k k' f g fk gk l e = other_tag 1 3 _ _ (inl (omega arith)) e
spells_one (Walk n) (Visit r' n') k k' f g fk gk l e = other_tag 1 4 _ _ (inl (omega arith)) e
spells_one (Stage n i) (Walk n') k k' f g fk gk l e = other_tag 2 1 _ _ (inr (omega arith)) e
spells_one (Stage n i) (Out p') k k' f g fk gk l e = other_tag 2 3 _ _ (inl (omega arith)) e
spells_one (Stage n i) (Visit r' n') k k' f g fk gk l e = other_tag 2 4 _ _ (inl (omega arith)) e
spells_one (Out p) (Walk n') k k' f g fk gk l e = other_tag 3 1 _ _ (inr (omega arith)) e
spells_one (Out p) (Stage n' i') k k' f g fk gk l e = other_tag 3 2 _ _ (inr (omega arith)) e
spells_one (Out p) (Visit r' n') k k' f g fk gk l e = other_tag 3 4 _ _ (inl (omega arith)) e
spells_one (Visit r n) (Walk n') k k' f g fk gk l e = other_tag 4 1 _ _ (inr (omega arith)) e
spells_one (Visit r n) (Stage n' i') k k' f g fk gk l e = other_tag 4 2 _ _ (inr (omega arith)) e
spells_one (Visit r n) (Out p') k k' f g fk gk l e = other_tag 4 3 _ _ (inr (omega arith)) e

long_packet : (k : List ℕ) → length (packet_bytes k) ≡ 8 * length k
long_packet [] = refl
long_packet (c ∷ k) = length-append (to_be_bytes w64 c) (packet_bytes k) ∙ (let h : length (packet_bytes k) ≡ 8 * length k = long_packet k in omega arith)

abbrev tag_of : Head → ℕ
tag_of (Walk n) = 1
tag_of (Stage n i) = 2
tag_of (Out p) = 3
tag_of (Visit r n) = 4

long_frame : (h : Head) (k : List ℕ) → length (frame h k) ≡ frame_length (tag_of h) (length k)
long_frame (Walk n) k = length-append (head_bytes (Walk n)) (packet_bytes k) ∙ ap (λ m. 9 + m) (long_packet k)
long_frame (Stage n i) k = length-append (head_bytes (Stage n i)) (packet_bytes k) ∙ ap (λ m. 11 + m) (long_packet k)
long_frame (Out p) k = length-append (head_bytes (Out p)) (packet_bytes k) ∙ ap (λ m. 5 + m) (long_packet k)
long_frame (Visit r n) k = length-append (head_bytes (Visit r n)) (packet_bytes k) ∙ ap (λ m. 11 + m) (long_packet k)

first_tag : (h : Head) (k : List ℕ) (tag : ℕ) (rest : List ℕ) → frame h k ≡ tag ∷ rest → tag_of h ≡ tag
first_tag (Walk n) k tag rest e = head_of 1 tag _ rest e
first_tag (Stage n i) k tag rest e = head_of 2 tag _ rest e
first_tag (Out p) k tag rest e = head_of 3 tag _ rest e
first_tag (Visit r n) k tag rest e = head_of 4 tag _ rest e

is_tagged : (h : Head) → is_tag (tag_of h) ≡ true
is_tagged (Walk n) = refl
is_tagged (Stage n i) = refl
is_tagged (Out p) = refl
is_tagged (Visit r n) = refl

some_long : (h : Head) (c : ℕ) → 5 ≤ frame_length (tag_of h) c
some_long (Walk n) c = omega arith
some_long (Stage n i) c = omega arith
some_long (Out p) c = omega arith
some_long (Visit r n) c = omega arith

pub has_no_fault : (h : Head) (k : List ℕ) (f : HeadFault) → IsFault (frame h k) (length k) f → f ≡ NoMemory
has_no_fault h k NoMemory is = refl
has_no_fault h k Short is = ⊎_elim
    (λ none. absurd (let a : length (frame h k) ≡ 0 = ap length none in let b : length (frame h k) ≡ frame_length (tag_of h) (length k) = long_frame h k in let d : 5 ≤ frame_length (tag_of h) (length k) = some_long h (length k) in omega arith))
    (λ less. absurd (let same : tag_of h ≡ less.0 = first_tag h k less.0 less.1.0 less.1.1 in
    let b : length (frame h k) ≡ frame_length less.0 (length k) = subst (λ t. length (frame h k) ≡ frame_length t (length k)) same (long_frame h k) in
    let l : length (frame h k) < frame_length less.0 (length k) = less.2 in omega arith))
    is
has_no_fault h k Long is =
    absurd (let same : tag_of h ≡ is.0 = first_tag h k is.0 is.1.0 is.1.1 in
    let b : length (frame h k) ≡ frame_length is.0 (length k) = subst (λ t. length (frame h k) ≡ frame_length t (length k)) same (long_frame h k) in
    let l : frame_length is.0 (length k) < length (frame h k) = is.2 in omega arith)
has_no_fault h k BadTag is =
    absurd (false≢true (sym is.3 ∙ (ap is_tag (sym (first_tag h k is.0 is.1 is.2)) ∙ is_tagged h)))
