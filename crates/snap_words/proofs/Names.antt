-- The names of options.
use Rattle.std.proofs.Common.{◌≡◌, refl, sym, Bool, true, false, codes, Option, Some, None, bytes_eq}
use Rattle.std.proofs.lemmas.Slice.Eq.{bytes_eq-Decides}
use Rattle.snap_words.specs.Words.{Flag, Text, Valued, changes_option, flag_text, flag_word, hops_flag, on_demand_flag, option_text, option_with, option_word, ordered_flag, schedule_option, value_word, workers_option}
use Rattle.snap_words.proofs.Turns.{IsUnknown}

-- a name is that of a flag, of an option with a value, or of none
pub data Named (name : Text) : Type 0 where
  a_flag : (f : Flag) → name ≡ flag_text f → Named name
  an_option : (o : Valued) → name ≡ option_text o → Named name
  unknown : IsUnknown name → Named name

spelled : (a b : Text) → bytes_eq a b ≡ true → b ≡ a
spelled a b is = sym ((bytes_eq-Decides a b).0 is)

by_workers : (name : Text) (b : Bool) → bytes_eq (codes "hops") name ≡ false → bytes_eq (codes "ordered") name ≡ false → bytes_eq (codes "on-demand") name ≡ false → bytes_eq (codes "schedule") name ≡ false → bytes_eq (codes "changes") name ≡ false → bytes_eq (codes "workers") name ≡ b → Named name
by_workers name true h o d s c w = an_option workers_option (spelled (codes "workers") name w)
by_workers name false h o d s c w = unknown (record { no_hops = h; no_ordered = o; no_on_demand = d; no_schedule = s; no_changes = c; no_workers = w })

by_changes : (name : Text) (b : Bool) → bytes_eq (codes "hops") name ≡ false → bytes_eq (codes "ordered") name ≡ false → bytes_eq (codes "on-demand") name ≡ false → bytes_eq (codes "schedule") name ≡ false → bytes_eq (codes "changes") name ≡ b → Named name
by_changes name true h o d s c = an_option changes_option (spelled (codes "changes") name c)
by_changes name false h o d s c = by_workers name _ h o d s c refl

by_schedule : (name : Text) (b : Bool) → bytes_eq (codes "hops") name ≡ false → bytes_eq (codes "ordered") name ≡ false → bytes_eq (codes "on-demand") name ≡ false → bytes_eq (codes "schedule") name ≡ b → Named name
by_schedule name true h o d s = an_option schedule_option (spelled (codes "schedule") name s)
by_schedule name false h o d s = by_changes name _ h o d s refl

by_on_demand : (name : Text) (b : Bool) → bytes_eq (codes "hops") name ≡ false → bytes_eq (codes "ordered") name ≡ false → bytes_eq (codes "on-demand") name ≡ b → Named name
by_on_demand name true h o d = a_flag on_demand_flag (spelled (codes "on-demand") name d)
by_on_demand name false h o d = by_schedule name _ h o d refl

by_ordered : (name : Text) (b : Bool) → bytes_eq (codes "hops") name ≡ false → bytes_eq (codes "ordered") name ≡ b → Named name
by_ordered name true h o = a_flag ordered_flag (spelled (codes "ordered") name o)
by_ordered name false h o = by_on_demand name _ h o refl

by_hops : (name : Text) (b : Bool) → bytes_eq (codes "hops") name ≡ b → Named name
by_hops name true h = a_flag hops_flag (spelled (codes "hops") name h)
by_hops name false h = by_ordered name _ h refl

pub named : (name : Text) → Named name
named name = by_hops name _ refl

-- ---- what a name says
pub flag_says : (f : Flag) → option_with (flag_text f) None ≡ Some (flag_word f)
flag_says hops_flag = refl
flag_says _ = refl

pub flag_takes_none : (f : Flag) (v : Text) → option_with (flag_text f) (Some v) ≡ None
flag_takes_none hops_flag v = refl
flag_takes_none _ v = refl

pub option_says : (o : Valued) → option_with (option_text o) None ≡ Some (option_word o)
option_says schedule_option = refl
option_says _ = refl

pub value_says : (o : Valued) (v : Text) → option_with (option_text o) (Some v) ≡ Some (value_word o v)
value_says schedule_option v = refl
value_says _ v = refl

pub unknown_says : (name : Text) (v : Option Text) → IsUnknown name → option_with name v ≡ None
unknown_says name None u = rw (u.no_hops, u.no_ordered, u.no_on_demand, u.no_schedule, u.no_changes, u.no_workers) refl
unknown_says name (Some v) u = rw (u.no_schedule, u.no_changes, u.no_workers) refl
