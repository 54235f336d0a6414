-- What an evaluation leaves as it is.
use Rattle.std.proofs.Common.{◌≡◌, ℕ, Bool, true, false, cond, List, [], ◌∷◌, Option, Some, None, map, refl, ◌∙◌, bit_or}
use Rattle.std.specs.Prelude.{option_and_then, option_map}
use Rattle.std.proofs.lemmas.Bool.{cond-false}
use Rattle.snap_core.specs.declared.place.Place.{Place}
use Rattle.snap_core.specs.declared.policy.Pol.{Pol}
use Rattle.snap_core.specs.declared.policy.Pol.TheVariants.{Filter, Set, Change, Par', Seq', If', Atomic'}
use Rattle.snap_core.specs.Arrays.{Arrays, has}
use Rattle.snap_core.specs.Packets.{listed}
use Rattle.snap_core.specs.Meaning.{Meaning, eval, truth, vars_of, any_clash, merge, all_writes, together, all_defined, logged}
use Rattle.snap_core.proofs.Unwritten.{neither, updated_keeps}

merged_unwritten : (m : Arrays) (os : List Meaning) (q : Place) → has (all_writes os) q.var ≡ false → merge m os q ≡ m q
merged_unwritten m [] q h = refl
merged_unwritten m (o ∷ os) q h =
    let parts = neither o.writes (all_writes os) q.var h in
    cond-false (has o.writes q.var) (o.arrays q) (merge m os q) parts.0 ∙ merged_unwritten m os q parts.1

-- m and o agree at q, if o did not write its variable
abbrev pub Keeps : Arrays → Place → Meaning → Type 0
Keeps m q o = has o.writes q.var ≡ false → o.arrays q ≡ m q

abbrev pub IfDefined : (Meaning → Type 0) → Option Meaning → Type 0
IfDefined P None = Unit {0}
IfDefined P (Some o) = P o

together_keeps : (m : Arrays) (os : List Meaning) (q : Place) (t : Bool) → IfDefined (Keeps m q) (cond t None (Some (record { arrays = merge m os; packets = Rattle.snap_core.specs.Meaning.all_packets os; reads = Rattle.snap_core.specs.Meaning.all_reads os; writes = all_writes os })))
together_keeps m os q true = tt
together_keeps m os q false = λ h. merged_unwritten m os q h

pub all_together_keeps : (m : Arrays) (q : Place) (d : Option (List Meaning)) → IfDefined (Keeps m q) (option_and_then (together m) d)
all_together_keeps m q None = tt
all_together_keeps m q (Some os) = together_keeps m os q (any_clash os)

logged_keeps : (m : Arrays) (q : Place) (r w : ℕ) (x : Option Meaning) → IfDefined (λ o. has (bit_or w o.writes) q.var ≡ false → o.arrays q ≡ m q) x → IfDefined (Keeps m q) (option_map (logged r w) x)
logged_keeps m q r w None h = tt
logged_keeps m q r w (Some o) h = h

more_logged : (m : Arrays) (q : Place) (w : ℕ) (x : Option Meaning) → IfDefined (Keeps m q) x → IfDefined (λ o. has (bit_or w o.writes) q.var ≡ false → o.arrays q ≡ m q) x
more_logged m q w None h = tt
more_logged m q w (Some o) h = λ n. h (neither w o.writes q.var n).1

-- the second part began where the first ended
after_keeps : (m : Arrays) (q : Place) (o : Meaning) → Keeps m q o → (x : Option Meaning) → IfDefined (Keeps o.arrays q) x → IfDefined (λ y. has (bit_or o.writes y.writes) q.var ≡ false → y.arrays q ≡ m q) x
after_keeps m q o first None h = tt
after_keeps m q o first (Some y) h = λ n. let parts = neither o.writes y.writes q.var n in h parts.1 ∙ first parts.0

then_keeps : (m : Arrays) (q : Place) (x : Option Meaning) (f : Meaning → Option Meaning) → IfDefined (Keeps m q) x → ((o : Meaning) → Keeps m q o → IfDefined (Keeps m q) (f o)) → IfDefined (Keeps m q) (option_and_then f x)
then_keeps m q None f h next = tt
then_keeps m q (Some o) f h next = next o h

either_keeps : (m : Arrays) (q : Place) (t : Bool) (x y : Option Meaning) → IfDefined (Keeps m q) x → IfDefined (Keeps m q) y → IfDefined (Keeps m q) (cond t x y)
either_keeps m q true x y a b = a
either_keeps m q false x y a b = b

pub keeps : (p : Pol) (m : Arrays) (k : List ℕ) (q : Place) → IfDefined (Keeps m q) (eval p m k)
keeps (Filter x) m k q = λ h. refl
keeps (Set c n) m k q = λ h. refl
keeps (Change u) m k q = updated_keeps u m k q
keeps (Par' _ a _ b) m k q = all_together_keeps m q (all_defined (eval a m k ∷ eval b m k ∷ []))
keeps (Seq' _ a _ b) m k q =
    then_keeps m q (eval a m k) _ (keeps a m k q)
    (λ o first. logged_keeps m q o.reads o.writes _ (after_keeps m q o first _ (all_together_keeps o.arrays q (all_defined (map (λ k'. eval b o.arrays k') (listed o.packets))))))
keeps (If' x _ a _ b) m k q =
    logged_keeps m q (vars_of x) 0 _ (more_logged m q 0 _ (either_keeps m q (truth x m k) (eval a m k) (eval b m k) (keeps a m k q) (keeps b m k q)))
keeps (Atomic' _ a) m k q = keeps a m k q
