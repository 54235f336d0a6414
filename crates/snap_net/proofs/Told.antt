-- Runs one behind another, and what happens in them.
use Rattle.std.proofs.Common.{◌≡◌, List, [], ◌∷◌, ◌++◌, refl, sym, ap, subst, append_assoc}
use Rattle.snap_rows.specs.declared.tables.Tables.{Tables}
use Rattle.snap_rows.specs.Network.{Net, Event, Inject, Step, Happening, Crossed, Delivered, Forked, RunsSequentially, rests, injects, steps, packets_of}
use Rattle.snap_net.specs.Passing.{crossings}

pub packets_of-append : (es fs : List Event) → packets_of (es ++ fs) ≡ packets_of es ++ packets_of fs
packets_of-append [] fs = refl
packets_of-append (Inject port k ∷ es) fs = ap (λ l. (port, k) ∷ l) (packets_of-append es fs)
packets_of-append (Step i ∷ es) fs = packets_of-append es fs

-- a sequential run, and one from its end on
pub sequential-then : (t : Tables) {s s' : Net} {es : List Event} {hs : List Happening} (s'' : Net) (fs : List Event) (gs : List Happening) → RunsSequentially t s es s' hs → RunsSequentially t s' fs s'' gs → RunsSequentially t s (es ++ fs) s'' (hs ++ gs)
sequential-then t s'' fs gs rests more = more
sequential-then t s'' fs gs (injects {s = s} {port = port} {k = k} {es = es} {h = h} {hs = hs} still leads rest) more =
    subst (λ l. RunsSequentially t s (Inject port k ∷ (es ++ fs)) s'' l) (sym (append_assoc h hs gs)) (injects still leads (sequential-then t s'' fs gs rest more))
sequential-then t s'' fs gs (steps {s = s} {i = i} {es = es} {h = h} {hs = hs} leads rest) more =
    subst (λ l. RunsSequentially t s (Step i ∷ (es ++ fs)) s'' l) (sym (append_assoc h hs gs)) (steps leads (sequential-then t s'' fs gs rest more))

pub crossings-append : (hs gs : List Happening) → crossings (hs ++ gs) ≡ crossings hs ++ crossings gs
crossings-append [] gs = refl
crossings-append (Crossed c to head ∷ hs) gs = ap (λ l. Crossed c to head ∷ l) (crossings-append hs gs)
crossings-append (Delivered c port ∷ hs) gs = crossings-append hs gs
crossings-append (Forked c copies lost ∷ hs) gs = crossings-append hs gs
