-- One big switch, one packet after another.
use Rattle.std.proofs.Common.{◌≡◌, ◌⊎◌, ℕ, ◌+◌, true, zero, suc, List, [], ◌∷◌, ◌++◌, length, take, Option, Some, None, Ok, Err, refl, sym, ap, subst, ◌∙◌, inl, inr, arith, append_assoc, append-nil}
use Rattle.std.specs.Prelude.{option_and_then, option_map}
use Rattle.std.proofs.lemmas.List.{length-append}
use Rattle.std.proofs.KnownBytes.{Appends-nil}
use Rattle.std.proofs.Math.Seq.{take-append_seam, drop-append_seam, take-add}
use Rattle.snap_core.specs.declared.policy.Pol.{Pol}
use Rattle.snap_core.specs.declared.place.Entry.{Entry}
use Rattle.snap_core.specs.declared.program.Field.{Field}
use Rattle.snap_core.specs.declared.program.Program.{Program}
use Rattle.snap_core.specs.Arrays.{Arrays, zero_arrays}
use Rattle.snap_core.specs.Cells.{arrays_of}
use Rattle.snap_core.specs.Listing.{IsListing}
use Rattle.snap_core.specs.Meaning.{Meaning, eval}
use Rattle.snap_core.specs.Packets.{PacketSet}
use Rattle.snap_core.specs.Switch.{Switched, one_big_switch}
use Rattle.snap_report.specs.declared.fault.TraceFault.TheVariants.{Read, Write, Limit, Packets, Undefined, NoMemory}
use Rattle.snap_report.specs.declared.switch.Switch.{Switch}
use Rattle.snap_report.specs.OneSwitch.{AreBlocks, EndsAsRead, IsReport, IsUndefinedAfter, RunEnding, WritesReport, made_text}
use Rattle.snap_report.specs.PacketLines.{Said, skip, inject, bad, said_by}
use Rattle.snap_report.specs.Reading.{spelled_where, where_accepted}
use Rattle.snap_report.specs.Reports.{all_lines, block, blocks, end_text}
use Rattle.snap_report.specs.Runner.{Ends, FirstBlocks, WritesOut, WritesRun}
use Rattle.snap_report.specs.Spelled.{Spelled, spelled, spelled_behind}
use Rattle.snap_report.specs.Switching.{Stands, Reports, Refuses, after}
use Rattle.snap_report.proofs.Readers.{spelled_behind-const}
use Rattle.snap_report.proofs.Running.{written-as}
use Rattle.snap_core.proofs.Switching.{in_front}

some_of_map : (f : Switched → Switched) (o : Option Switched) (r : Switched) → option_map f o ≡ Some r → (s : Switched) × (o ≡ Some s)
some_of_map f None r e = absurd (cc)
some_of_map f (Some s) r e = (s, refl)

none_of_map : (f : Switched → Switched) (o : Option Switched) → option_map f o ≡ None → o ≡ None
none_of_map f None e = refl
none_of_map f (Some s) e = absurd (cc)

-- one big switch that is defined on packets is defined on the first of them
pub switch-take : (p : Pol) (packets : List (List ℕ)) (m : Arrays) (count : ℕ) (made : Switched) → one_big_switch p m packets ≡ Some made → one_big_switch p m (take count packets) ≡ None → ⊥
switch-take p [] m zero made e none = absurd (cc)
switch-take p [] m (suc count) made e none = absurd (cc)
switch-take p (packet ∷ packets) m zero made e none = absurd (cc)
switch-take p (packet ∷ packets) m (suc count) made e none = from (eval p m packet) (λ o. switch-take p packets o.arrays count) e none
  where
    from : (o : Option Meaning) → ((x : Meaning) (r : Switched) → one_big_switch p x.arrays packets ≡ Some r → one_big_switch p x.arrays (take count packets) ≡ None → ⊥)
        → option_and_then (λ x. option_map (in_front x) (one_big_switch p x.arrays packets)) o ≡ Some made
        → option_and_then (λ x. option_map (in_front x) (one_big_switch p x.arrays (take count packets))) o ≡ None → ⊥
    from None later f g = absurd (cc)
    from (Some x) later f g =
        let some = some_of_map (in_front x) (one_big_switch p x.arrays packets) made f in
        later x some.0 some.1 (none_of_map (in_front x) (one_big_switch p x.arrays (take count packets)) g)

blocks-append : (shown : PacketSet → List ℕ) (number : ℕ) (a b : List PacketSet) → blocks shown number (a ++ b) ≡ blocks shown number a ++ blocks shown (number + length a) b
blocks-append shown number [] b = ap (λ n. blocks shown n b) (let e : number ≡ number + 0 = omega arith in e)
blocks-append shown number (x ∷ a) b =
    let first = block shown number x in
    let more : number + 1 + length a ≡ number + suc (length a) = omega arith in
    ap (λ l. first ++ l) (blocks-append shown (number + 1) a b) ∙ sym (append_assoc first (blocks shown (number + 1) a) (blocks shown (number + 1 + length a) b))
    ∙ ap (λ n. (first ++ blocks shown (number + 1) a) ++ blocks shown n b) more

-- before the first packet
pub stands-first : (s : Switch) → arrays_of s.store ≡ zero_arrays → s.number ≡ 1 → Stands s [] [] s
stands-first s none first = record {
  program = refl;
  made = nothing;
  goes_on = λ more. same (one_big_switch s.program.now.body zero_arrays more);
  arrays = none;
  as_many = refl;
  number = first;
  blocks = refl;
}
  where
    nothing : Switched
    nothing = record { packets = []; arrays = zero_arrays }

    same : (o : Option Switched) → o ≡ option_map (after nothing) o
    same None = refl
    same (Some r) = refl

module _ (first : Switch) (packets : List (List ℕ)) (text : List ℕ) (now : Switch) (s : Stands first packets text now) where
  abbrev body : Pol
  body = first.program.now.body

  -- what was made of them
  pub stands-made : one_big_switch body zero_arrays packets ≡ Some s.made
  stands-made = ap (one_big_switch body zero_arrays) (sym (append-nil packets)) ∙ s.goes_on [] ∙ ap (λ l. Some (record { packets = l; arrays = s.made.arrays })) (append-nil s.made.packets)

  -- the places that aren't 0 are listed
  pub stands-listed : (entries : List Entry) → IsListing (arrays_of now.store) entries → Reports first packets (text ++ end_text now.program.now.arrays entries)
  stands-listed entries listing = (
    s.made,
    stands-made,
    (entries, subst (λ m. IsListing m entries) s.arrays listing, (λ i. s.blocks i ++ end_text (s.program i).arrays entries)),
  )

  -- the next packet was evaluated
  pub stands-more : (packet : List ℕ) (new : Switch) (o : Meaning) → new.program.now ≡ now.program.now → eval now.program.now.body (arrays_of now.store) packet ≡ Some o → arrays_of new.store ≡ o.arrays → new.number ≡ now.number + 1
      → Stands first (packets ++ packet ∷ []) (text ++ block (all_lines now.program.now.fields) now.number o.packets) new
  stands-more packet new o same is arrays number =
      let longer : length (packets ++ packet ∷ []) ≡ length packets + 1 = length-append packets (packet ∷ []) in
      let here : eval body s.made.arrays packet ≡ Some o = (λ i. eval (sym s.program i).body (sym s.arrays i) packet) ∙ is in
      record {
        program = same ∙ s.program;
        made = made;
        goes_on = λ more.
            ap (one_big_switch body zero_arrays) (append_assoc packets (packet ∷ []) more) ∙ s.goes_on (packet ∷ more)
            ∙ ap (λ x. option_map (after s.made) (option_and_then (λ (x : Meaning). option_map (in_front x) (one_big_switch body x.arrays more)) x)) here ∙ both (one_big_switch body o.arrays more);
        arrays = arrays;
        as_many = length-append s.made.packets (o.packets ∷ []) ∙ ap (λ n. n + 1) s.as_many ∙ sym longer;
        number = number ∙ ap (λ n. n + 1) (s.number ∙ sym longer);
        blocks = (λ i. s.blocks i ++ block (all_lines (s.program i).fields) (numbered i) o.packets) ∙ sym grown;
      }
    where
      made : Switched
      made = record { packets = s.made.packets ++ o.packets ∷ []; arrays = o.arrays }

      both : (x : Option Switched) → option_map (after s.made) (option_map (in_front o) x) ≡ option_map (after made) x
      both None = refl
      both (Some r) = ap (λ l. Some (record { packets = l; arrays = r.arrays })) (sym (append_assoc s.made.packets (o.packets ∷ []) r.packets))

      numbered : now.number ≡ 1 + length s.made.packets
      numbered = let n = s.number in let m = s.as_many in omega (arith, n, m)

      lines : PacketSet → List ℕ
      lines = all_lines first.program.now.fields

      grown : made_text first.program.now.fields made ≡ made_text first.program.now.fields s.made ++ block lines (1 + length s.made.packets) o.packets
      grown = blocks-append lines 1 s.made.packets (o.packets ∷ []) ∙ ap (λ l. made_text first.program.now.fields s.made ++ l) (append-nil (block lines (1 + length s.made.packets) o.packets))

-- ---- what the run writes
-- every packet comes in at a port
spelled_where-true : (fields : List Field) (file : List ℕ) → spelled_where fields (λ before packet. true) file ≡ spelled fields file
spelled_where-true fields file = (λ i. spelled_behind (λ before line. same (said_by fields line) i) file 1000000 1 0 0) ∙ spelled_behind-const (said_by fields) file 1000000 1 0 0
  where
    same : (said : Said) → where_accepted (λ packet. true) said ≡ said
    same skip = refl
    same (inject packet) = refl
    same bad = refl

module _ (s : Switch) (all : Spelled) where
  abbrev program : Program
  program = s.program.now

  first-blocks : (text : List ℕ) → FirstBlocks (Stands s) all text → (count : ℕ) × (made : Switched) × (one_big_switch program.body zero_arrays (take count all.packets) ≡ Some made) × (text ≡ made_text program.fields made)
  first-blocks text b = (b.count, b.stood.made, stands-made s (take b.count all.packets) text b.machine b.stood, b.stood.blocks)

  abbrev Report : RunEnding → List ℕ → Type 0
  Report ending text =
      ((made : Switched) × (one_big_switch program.body zero_arrays all.packets ≡ Some made) × EndsAsRead program.fields program.arrays all.stop made ending text)
      ⊎ ((before : ℕ) × (made : Switched) × IsUndefinedAfter program all.packets before made × (ending ≡ Err (Undefined (before + 1))) × (text ≡ made_text program.fields made))

  ends-report : (ending : RunEnding) (text : List ℕ) → Ends (Stands s) (Reports s) (Refuses s) all ending text → Report ending text
  ends-report (Ok u) text h = inl (h.1.0, h.1.1, subst (λ stop. EndsAsRead program.fields program.arrays stop h.1.0 (Ok u) text) (sym h.0) (refl, h.1.2))
  ends-report (Err fault) text (inl h) =
      inl (h.stood.made, stands-made s all.packets text h.machine h.stood, subst (λ stop. EndsAsRead program.fields program.arrays stop h.stood.made (Err fault) text) (sym h.stop) (refl, h.stood.blocks))
  ends-report (Err fault) text (inr h) =
      let n = length h.before in
      let front : take n all.packets ≡ h.before = ap (take n) h.are ∙ take-append_seam h.before (h.packet ∷ h.behind) in
      let longer : take (n + 1) all.packets ≡ h.before ++ h.packet ∷ [] =
      ap (take (n + 1)) h.are ∙ take-add n 1 (h.before ++ h.packet ∷ h.behind) ∙ (λ i. take-append_seam h.before (h.packet ∷ h.behind) i ++ take 1 (drop-append_seam h.before (h.packet ∷ h.behind) i)) in
      inr (
        n,
        h.stood.made,
        record {
          some = ap (one_big_switch program.body zero_arrays) front ∙ stands-made s h.before text h.machine h.stood;
          none = ap (one_big_switch program.body zero_arrays) longer ∙ h.refused_so.1;
        },
        ap (λ f. Err f) h.refused_so.0,
        h.stood.blocks,
      )

-- the run of one big switch writes its report
pub writes-report : (s : Switch) (file : List ℕ) (ending : RunEnding) (old new : Option (List ℕ)) → WritesRun (Stands s) (Reports s) (Refuses s) (spelled_where s.program.now.fields (λ before packet. true) file) ending old new
    → WritesReport s.program.now file ending old new
writes-report s file ending old new writes =
    by ending (written-as (FirstBlocks (Stands s) all) (AreBlocks s.program.now file) (Ends (Stands s) (Reports s) (Refuses s) all) (IsReport s.program.now file) (first-blocks s all) (ends-report s all) ending old new
    (subst (λ a. WritesRun (Stands s) (Reports s) (Refuses s) a ending old new) (spelled_where-true s.program.now.fields file) writes))
  where
    all : Spelled
    all = spelled s.program.now.fields file

    by : (e : RunEnding) → WritesOut (AreBlocks s.program.now file) (IsReport s.program.now file) e old new → WritesReport s.program.now file e old new
    by (Ok u) w = w
    by (Err Read) w = w
    by (Err Write) w = w
    by (Err NoMemory) w = w
    by (Err (Limit which count)) w = w
    by (Err (Packets line)) w = w
    by (Err (Undefined packet)) w = w

-- where memory is short before anything is read, nothing is written
pub writes-none : (p : Program) (file : List ℕ) (now : Option (List ℕ)) → WritesReport p file (Err NoMemory) now now
writes-none p file now = ([], (0, record { packets = []; arrays = zero_arrays }, refl, refl), (0, Appends-nil now))
