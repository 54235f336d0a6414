-- Faults counted by the names of files.
use Rattle.std.proofs.Common.{◌≡◌, ◌≢◌, ℕ, ◌+◌, ◌-◌, ◌^◌, ◌<◌, min, inl, inr, Bool, true, false, is_none, List, [], ◌∷◌, length, get_or, set, None, Some, refl, sym, ap, ◌∙◌, arith}
use Rattle.std.proofs.lemmas.List.{get_or-set_same, get_or-set_other}
use Rattle.std.proofs.lemmas.List.Quantifiers.{position-Some}
use Rattle.std.proofs.lemmas.Iterator.Adapters.{position_from-zero}
use Rattle.std.specs.List.{position_from}
use Rattle.std.proofs.lemmas.Slice.Eq.{bytes_eq-Decides}
use Rattle.std.specs.Str.{bytes_eq}
use Rattle.std.specs.FinMap.{get}
use Rattle.std.specs.declared.option.Option.{Option}
use Rattle.snap_io.specs.declared.file.File.{File}
use Rattle.snap_io.specs.Causes.{Rose}
use Rattle.snap_io.specs.FaultCounts.{place_of, count_at, ShareCount, CountsFault}
use Rattle.snap_io.specs.MemoryFiles.{files_of}
use Rattle.snap_io.proofs.FilesLemmas.{found, found-here, found-later, get-files_of}

-- a name has a place where a file has it
none_by : (name : List ℕ) (file : File) (files : List File) (i : ℕ) (b : Bool) → bytes_eq name file.name.items ≡ b → is_none (found name files) ≡ is_none (position_from (λ (f : File). bytes_eq name f.name.items) (i + 1) files)
    → is_none (found name (file ∷ files)) ≡ is_none (position_from (λ (f : File). bytes_eq name f.name.items) i (file ∷ files))
none_by name file files i true e rest = ap is_none (found-here name file files e) ∙ (rw e refl)
none_by name file files i false e rest = ap is_none (found-later name file files e) ∙ rest ∙ (rw e refl)

none_from : (name : List ℕ) (files : List File) (i : ℕ) → is_none (found name files) ≡ is_none (position_from (λ (f : File). bytes_eq name f.name.items) i files)
none_from name [] i = refl
none_from name (file ∷ files) i = none_by name file files i _ refl (none_from name files (i + 1))

none : (name : List ℕ) (files : List File) → is_none (found name files) ≡ is_none (place_of files name)
none name files = none_from name files 0 ∙ ap is_none (sym (position_from-zero (λ (f : File). bytes_eq name f.name.items) files))

from_none : {X : Type 0} (o : Option X) → is_none o ≡ true → o ≡ None
from_none None e = refl
from_none (Some x) e = absurd (cc)

get-place : (files : List File) (name : List ℕ) → get (files_of files) name ≡ None → place_of files name ≡ None
get-place files name e = from_none _ (sym (none name files) ∙ ap is_none (sym (get-files_of files name) ∙ e))

place-get : (files : List File) (name : List ℕ) → place_of files name ≡ None → get (files_of files) name ≡ None
place-get files name e = get-files_of files name ∙ from_none _ (none name files ∙ ap is_none e)

-- names share a count where they have one place
one_place : (files : List File) (name other : List ℕ) → ShareCount (files_of files) name other → place_of files other ≡ place_of files name
one_place files name other (inl same) = ap (place_of files) (sym same)
one_place files name other (inr both) = get-place files other both.1 ∙ sym (get-place files name both.0)

shared_by : (files : List File) (name other : List ℕ) (place : Option ℕ) → place_of files name ≡ place → place_of files other ≡ place → ShareCount (files_of files) name other
shared_by files name other None here there = inr (place-get files name here, place-get files other there)
shared_by [] name other (Some place) here there = absurd (cc)
shared_by (file ∷ files) name other (Some place) here there =
    let named = (position-Some (λ (f : File). bytes_eq name f.name.items) (file ∷ files) place file here).1 in
    let also = (position-Some (λ (f : File). bytes_eq other f.name.items) (file ∷ files) place file there).1 in
    inl ((bytes_eq-Decides _ _).0 named ∙ sym ((bytes_eq-Decides _ _).0 also))

placed : (files : List File) (name : List ℕ) (place : ℕ) → place_of files name ≡ Some place → place < length files
placed [] name place here = absurd (cc)
placed (file ∷ files) name place here = (position-Some (λ (f : File). bytes_eq name f.name.items) (file ∷ files) place file here).0

-- a fault at a file
module _ (files : List File) (counts : List ℕ) (absent : ℕ) (name : List ℕ) (place count : ℕ) (here : place_of files name ≡ Some place) (each : length counts ≡ length files) where
  abbrev pub after : List ℕ
  after = set counts place count

  at_place : (other : List ℕ) → place_of files other ≡ Some place → (count_at files counts absent other ≡ get_or counts place 0) × (count_at files after absent other ≡ count)
  at_place other there = (rw there refl, rw there (get_or-set_same counts place count 0 (omega (arith, placed files name place here))))

  elsewhere : (other : List ℕ) (at : Option ℕ) → place_of files other ≡ at → at ≢ Some place → count_at files after absent other ≡ count_at files counts absent other
  elsewhere other None there apart = rw there refl
  elsewhere other (Some j) there apart = rw there (get_or-set_other counts place j count 0 (λ same. apart (ap Some same)))

  pub counted-file : count ≡ min (get_or counts place 0 + 1) (2 ^ 64 - 1) → CountsFault (files_of files) name (count_at files counts absent) (count_at files after absent)
  counted-file is = record {
    rises = λ other shared. let both = at_place other (one_place files name other shared ∙ here) in both.1 ∙ is ∙ ap (λ n. min (n + 1) (2 ^ 64 - 1)) (sym both.0);
    stays = λ other apart. elsewhere other _ refl (λ there. apart (shared_by files name other (Some place) here there));
  }

  pub rose-file : count ≡ min (get_or counts place 0 + 1) (2 ^ 64 - 1) → Rose (count_at files counts absent name) (count_at files after absent name)
  rose-file is = omega (arith, (counted-file is).rises name (inl refl))

-- a fault at a name that is not there
module _ (files : List File) (counts : List ℕ) (absent : ℕ) (name : List ℕ) (count : ℕ) (here : place_of files name ≡ None) where
  elsewhere_too : (other : List ℕ) (at : Option ℕ) → place_of files other ≡ at → at ≢ None → count_at files counts count other ≡ count_at files counts absent other
  elsewhere_too other None there apart = absurd (apart refl)
  elsewhere_too other (Some j) there apart = rw there refl

  pub counted-absent : count ≡ min (absent + 1) (2 ^ 64 - 1) → CountsFault (files_of files) name (count_at files counts absent) (count_at files counts count)
  counted-absent is = record {
    rises = λ other shared. let there = one_place files name other shared ∙ here in rw there is;
    stays = λ other apart. elsewhere_too other _ refl (λ there. apart (shared_by files name other None here there));
  }

  pub rose-absent : count ≡ min (absent + 1) (2 ^ 64 - 1) → Rose (count_at files counts absent name) (count_at files counts count name)
  rose-absent is = omega (arith, (counted-absent is).rises name (inl refl))
