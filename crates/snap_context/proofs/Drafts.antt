-- A draft from fact to fact, and what it is in the end.
use Rattle.std.proofs.Common.{◌≡◌, ℕ, ◌^◌, ◌<◌, ⊎_elim, true, false, cond, Bool, List, [], ◌∷◌, ◌++◌, length, get_or, refl, sym, ap, subst, ◌∙◌, Some, arith}
use Rattle.std.specs.Prelude.{◌==◌, All}
use Rattle.std.proofs.lemmas.Bool.{cases_Bool, cond-true}
use Rattle.std.proofs.lemmas.Grind.{same_number_lists}
use Rattle.std.proofs.lemmas.List.Elements.{All-nil, All-pop, All-push}
use Rattle.snap_core.proofs.Places.{same_place-itself, same_place-exact}
use Rattle.snap_core.specs.declared.place.Place.{Place}
use Rattle.snap_core.specs.declared.policy.Test.{Test}
use Rattle.snap_core.specs.declared.policy.Test.TheVariants.{Value, Equal, State}
use Rattle.snap_core.specs.Arrays.{Arrays, put, place_at, same_place}
use Rattle.snap_core.specs.Cells.{Kept, arrays_of}
use Rattle.snap_core.specs.Listing.{number_in}
use Rattle.snap_core.specs.Tests.{passes, term_value}
use Rattle.snap_context.specs.declared.fact.Fact.{Fact}
use Rattle.snap_context.specs.Meets.{Meets, IsMet}
use Rattle.snap_context.specs.Classes.{is_state, var_of, index_of}
use Rattle.snap_context.specs.View.{View}
use Rattle.snap_context.specs.declared.ask.Ask.TheVariants.{At}
use Rattle.snap_context.specs.declared.ask.Settled.{Settled}
use Rattle.snap_context.specs.declared.example.ExampleDraft.{ExampleDraft}
use Rattle.snap_context.specs.Asks.{IsSettled}
use Rattle.snap_core.specs.Inputs.{IsStore, IsPacket, IsZeroFrom}
use Rattle.snap_context.specs.Models.{current, Forces, IsDraft, Knows, Settles, place_of, FactBelow}
use Rattle.snap_context.proofs.Settling.{settled_new, run_kept, fact_kept}

IsStore-put : (m n : Arrays) (p : Place) (x : ℕ) → IsStore m → x < 2 ^ 64 → n ≡ put m p x → IsStore n
IsStore-put m n p x small lt e q =
    subst (λ (a : Arrays). a q < 2 ^ 64) (sym e)
    (elim (same_place p q) as (λ b. cond b x (m q) < 2 ^ 64) [ true ↦ lt | false ↦ small q ])

zero_put : (n : ℕ) (m w : Arrays) (p : Place) (x : ℕ) → p.var < n → w ≡ put m p x → IsZeroFrom n m → IsZeroFrom n w
zero_put n m w p x low e z q l = subst (λ (a : Arrays). a q ≡ 0) (sym e) (by (same_place p q) refl)
  where
    by : (b : Bool) → same_place p q ≡ b → cond b x (m q) ≡ 0
    by true f = (let v : p.var ≡ q.var = ap (λ (r : Place). r.var) (same_place-exact p q f) in absurd (omega (arith, v, low, l)))
    by false f = z q l

-- no facts yet
pub settles_none : (v : View) (y : Bool) (d : ExampleDraft) → IsDraft v d → Settles v y [] d d
settles_none v y d h = record { draft = h; places = All-nil (λ g. g.yes ≡ y → Knows v d g); kept = λ g k. k; only = λ n a z. z }

-- a fact with the other answer, or not on a place
pub settles_skip : (v : View) (y : Bool) (facts : List Fact) (old d : ExampleDraft) (f : Fact) → (f.yes ≡ y → Knows v d f) → Settles v y facts old d → Settles v y (facts ++ f ∷ []) old d
settles_skip v y facts old d f here h = record { draft = h.draft; places = All-push (λ g. g.yes ≡ y → Knows v d g) facts f h.places here; kept = h.kept; only = λ n a z. h.only n (All-pop (FactBelow n) (facts ++ f ∷ []) facts (Some f) refl a).0 z }

-- a fact whose place was settled
pub settles_more : (v : View) (y : Bool) (facts : List Fact) (old d : ExampleDraft) (f : Fact) (s : Settled) (store : Kept) → is_state f.test ≡ true → IsSettled (current v d.grown) (At (place_of f d.packet)) s → arrays_of store ≡ put (arrays_of d.store) (place_of f d.packet) s.num
    → Settles v y facts old d → Settles v y (facts ++ f ∷ []) old (record { packet = d.packet; store = store; grown = Some s.ctx })
settles_more v y facts old d f s store is settled written h =
    let w : View = current v d.grown in
    let p : Place = place_of f d.packet in
    let new : ExampleDraft = record { packet = d.packet; store = store; grown = Some s.ctx } in
    let keeps : (g : Fact) → Knows v d g → Knows v new g = λ g k. fact_kept w p s d.packet (arrays_of d.store) (arrays_of store) g settled written k in
    let here : Knows v new f = λ st.
    let number : arrays_of store p ≡ s.num = ap (λ (m : Arrays). m p) written ∙ cond-true (same_place p p) s.num (arrays_of d.store p) (same_place-itself p) in
    subst (λ n. Forces s.ctx (At p) n) (sym number) (settled_new w (At p) s settled)
    in record {
      draft = record {
        run = run_kept w (At p) s settled v d.packet h.draft.run;
        whole = h.draft.whole;
        small = IsStore-put (arrays_of d.store) (arrays_of store) p s.num h.draft.small settled.small written;
      };
      places = All-push (λ g. g.yes ≡ y → Knows v new g) facts f (λ i e l a. keeps (get_or facts i e) (h.places i e l a)) (λ _. here);
      kept = λ g k. keeps g (h.kept g k);
      only = λ n a z. (let t = All-pop (FactBelow n) (facts ++ f ∷ []) facts (Some f) refl a in zero_put n (arrays_of d.store) (arrays_of store) p s.num (t.1 is) written (h.only n t.0 z));
    }

passes-where_state : (m n : Arrays) (k : List ℕ) (t : Test) → (is_state t ≡ true → n (place_at (var_of t) (index_of t) k) ≡ m (place_at (var_of t) (index_of t) k)) → passes t n k ≡ passes t m k
passes-where_state m n k (Value c x) h = refl
passes-where_state m n k (Equal l r q) h = refl
passes-where_state m n k (State v ix u) h = ap (λ x. x == term_value u k) (h refl)

module _ (v : View) (d : ExampleDraft) (draft : IsDraft v d) (met : IsMet (length (current v d.grown).classes) (current v d.grown).facts) where
  same_packet : met.packet ≡ d.packet
  same_packet =
      let size : length met.packet ≡ length d.packet = met.is_packet.long ∙ (draft.run.extends.same ∙ sym draft.whole) in
      same_number_lists met.packet d.packet size (λ c l. draft.run.forces c (rw size at l) (number_in met.entries) met.packet met.is_packet met.meets)

  pub draft_packet : IsPacket (length v.classes) d.packet
  draft_packet = subst (λ (k : List ℕ). IsPacket (length v.classes) k) same_packet (record { long = met.is_packet.long ∙ draft.run.extends.same; numbers = met.is_packet.numbers })

  pub draft_meets : ((i : ℕ) (e : Fact) → i < length v.facts → Knows v d (get_or v.facts i e)) → Meets v.facts (arrays_of d.store) d.packet
  draft_meets known i e l =
      let old : Meets v.facts (number_in met.entries) d.packet = subst (λ (k : List ℕ). Meets v.facts (number_in met.entries) k) same_packet (draft.run.extends.meets (number_in met.entries) met.packet met.meets) in
      passes-where_state (number_in met.entries) (arrays_of d.store) d.packet (get_or v.facts i e).test
      (λ st. sym (known i e l st (number_in met.entries) met.packet met.is_packet met.meets))
      ∙ old i e l

-- each fact has one of the answers
pub known_all : (v : View) (d e : ExampleDraft) → All (λ f. f.yes ≡ true → Knows v d f) v.facts → Settles v false v.facts d e → (i : ℕ) (f : Fact) → i < length v.facts → Knows v e (get_or v.facts i f)
known_all v d e first second i f l =
    ⊎_elim
    (λ (y : (get_or v.facts i f).yes ≡ true). second.kept (get_or v.facts i f) (first i f l y))
    (λ (n : (get_or v.facts i f).yes ≡ false). second.places i f l n)
    (cases_Bool (get_or v.facts i f).yes)
