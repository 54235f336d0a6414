-- The lines of the links that a packet's copies cross are put as they are told.
use Rattle.std.proofs.Common.{◌≡◌, ◌≢◌, ℕ, List, [], ◌∷◌, ◌++◌, refl, sym, ap, ap₂, ◌∙◌, append_assoc, append-nil}
use Rattle.std.specs.Prelude.{if◌then◌else◌}
use Rattle.hex.specs.Hex.{encode_lower}
use Rattle.std.proofs.lemmas.Bool.{eq-eqb}
use Rattle.std.proofs.lemmas.List.Elements.{All-head, All-tail}
use Rattle.snap_rows.specs.declared.tables.Tables.{Tables}
use Rattle.snap_rows.specs.declared.head.Head.{Head}
use Rattle.snap_rows.specs.Entries.{next}
use Rattle.snap_rows.specs.Happenings.{number_of}
use Rattle.snap_rows.specs.Network.{Happening, Crossed, Delivered, Forked}
use Rattle.snap_rows.specs.Ways.{Way, here, on}
use Rattle.snap_net.specs.Frames.{frame}
use Rattle.snap_net.specs.Passing.{crossings}
use Rattle.snap_net.specs.Travels.{Crosses, ends, goes, Hears}
use Rattle.snap_runs.specs.declared.frames.Frames.{Frames}
use Rattle.snap_runs.specs.declared.tally.Tally.{Tally}
use Rattle.snap_runs.specs.Crossings.{SeesLines, crossing_lines, digits_of, line_text, way_text}
use Rattle.snap_runs.specs.Reports.{hop_line, hop_lines, lead_of}
use Rattle.snap_runs.specs.Tracing.{HappenTo}
use Rattle.snap_runs.specs.Tallies.{hop_told}

-- ---- ways
pub way_more : (t : Tables) (x w : ℕ) (ws : List ℕ) → w ≢ x → Way t x w ws → (vs : List ℕ) × (ws ≡ next t w x ∷ vs) × Way t x (next t w x) vs
way_more t x w ws away here = absurd (away refl)
way_more t x w ws away (on {ws = vs} other way) = (vs, refl, way)

pub way_ends : (t : Tables) (x w : ℕ) (ws : List ℕ) → w ≡ x → Way t x w ws → ws ≡ []
way_ends t x w ws there here = refl
way_ends t x w ws there (on away way) = absurd (away there)

-- the lines of a way are those of the crossings along it, which are of one packet
crosses_lines : (f : Frames) (switches : List (List ℕ)) (i : ℕ) (h : Head) (p : List ℕ) (w : ℕ) (ws : List ℕ) (hs : List Happening) → Crosses i h p w ws hs → way_text switches (encode_lower (lead_of f i ++ frame h p)) w ws ≡ crossing_lines f switches hs
crosses_lines f switches i h p w ws hs ends = refl
crosses_lines f switches i h p w ws hs (goes {v = v} {vs = vs} {hs = gs} {c = c} mine at packet rest) =
    ap₂ (λ a b. a ++ b)
    (λ z. line_text switches (encode_lower (lead_of f (sym mine z) ++ frame h (sym packet z))) (sym at z) v)
    (crosses_lines f switches i h p v vs gs rest)

-- ---- lines
crossing_lines-append : (f : Frames) (switches : List (List ℕ)) (hs gs : List Happening) → crossing_lines f switches (hs ++ gs) ≡ crossing_lines f switches hs ++ crossing_lines f switches gs
crossing_lines-append f switches [] gs = refl
crossing_lines-append f switches (x ∷ hs) gs =
    ap (λ l. hop_told f switches x ++ l) (crossing_lines-append f switches hs gs)
    ∙ sym (append_assoc (hop_told f switches x) (crossing_lines f switches hs) (crossing_lines f switches gs))

-- what happens to packet i alone has the lines of its crossings
pub hop_lines-crossings : (f : Frames) (t : Tables) (i : ℕ) (hs : List Happening) → HappenTo i hs → hop_lines f t i hs ≡ crossing_lines f t.switches (crossings hs)
hop_lines-crossings f t i [] all = refl
hop_lines-crossings f t i (Crossed c to h ∷ hs) all =
    ap (λ b. if b then hop_line f t c to h ++ hop_lines f t i hs else hop_lines f t i hs) (eq-eqb c.number i (All-head (λ h. number_of h ≡ i) (Crossed c to h) hs all))
    ∙ ap (λ l. hop_line f t c to h ++ l) (hop_lines-crossings f t i hs (All-tail (λ h. number_of h ≡ i) (Crossed c to h) hs all))
hop_lines-crossings f t i (Delivered c port ∷ hs) all = hop_lines-crossings f t i hs (All-tail (λ h. number_of h ≡ i) (Delivered c port) hs all)
hop_lines-crossings f t i (Forked c copies lost ∷ hs) all = hop_lines-crossings f t i hs (All-tail (λ h. number_of h ≡ i) (Forked c copies lost) hs all)

-- the lines of a way were put
pub sees-way : (t : Tables) (y y' : Tally) (i : ℕ) (h : Head) (k : List ℕ) (w : ℕ) (ws : List ℕ) (gs : List Happening) → Crosses i h k w ws gs → y'.frames ≡ y.frames → y'.hops.items ≡ y.hops.items ++ way_text t.switches (digits_of y.frames i h k) w ws
    → Hears (SeesLines t) y y' gs
sees-way t y y' i h k w ws gs crosses same lines first before saw =
    let f = first.frames in
    let switches = t.switches in (
      same ∙ saw.0,
      lines ∙ ap (λ l. y.hops.items ++ l) (crosses_lines y.frames switches i h k w ws gs crosses)
          ∙ (λ j. saw.1 j ++ crossing_lines (saw.0 j) switches gs)
          ∙ append_assoc first.hops.items (crossing_lines f switches before) (crossing_lines f switches gs)
          ∙ ap (λ l. first.hops.items ++ l) (sym (crossing_lines-append f switches before gs)),
    )

-- the line of one link was put
pub sees-link : (t : Tables) (y y' : Tally) (i : ℕ) (h : Head) (k : List ℕ) (w v : ℕ) (ws : List ℕ) (gs : List Happening) → ws ≡ v ∷ [] → Crosses i h k w ws gs → y'.frames ≡ y.frames → y'.hops.items ≡ y.hops.items ++ line_text t.switches (digits_of y.frames i h k) w v
    → Hears (SeesLines t) y y' gs
sees-link t y y' i h k w v ws gs one crosses same line =
    let digits = digits_of y.frames i h k in
    sees-way t y y' i h k w ws gs crosses same (line ∙ ap (λ l. y.hops.items ++ l) (sym (append-nil (line_text t.switches digits w v)) ∙ ap (way_text t.switches digits w) (sym one)))
