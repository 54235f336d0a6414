-- A program does what its core program says, wherever its parts lie in memory.
use Rattle.std.proofs.Common.{◌≡◌, ◌+◌, ℕ, Bool, true, false, List, [], ◌∷◌, map, take, Option, Some, None, refl, sym, ◌∙◌, ap, subst, inl, inr}
use Rattle.std.specs.Prelude.{if◌then◌else◌, not, ◌&&◌, ◌||◌, ◌==◌, ◌^◌, option_and_then, bit_or, slice_set}
use Rattle.snap_core.specs.declared.policy.Pol.TheVariants.{Filter, Set, Change, Par', Seq', If', Atomic'}
use Rattle.snap_core.specs.declared.policy.Pred.{Pred}
use Rattle.snap_core.specs.declared.policy.Pred.TheVariants.{Not', And', Or'}
use Rattle.snap_core.specs.declared.program.Field.{Field as FieldData}
use Rattle.snap_core.specs.Arrays.{update, place_at, value_of}
use Rattle.snap_core.specs.Packets.{no_packets, with_packet, listed}
use Rattle.snap_core.specs.Switch.{one_big_switch}
use Rattle.snap_core.specs.Meaning.{Meaning, eval, truth, vars_of, all_together, logged}
use Rattle.snap_names.specs.Core.{CoreTest, id_test, drop_test, field_test, state_test, not_test, and_test, or_test, CorePolicy, filter, set, change, par, seq, choice, atomic, core_test, core_policy}
use Rattle.snap_names.specs.Declarations.{CoreProgram}
use Rattle.snap_report.specs.OneSwitch.{EndsAsRead, IsReport, made_text}
use Rattle.snap_core.proofs.Switching.{in_front}
use Rattle.snap_cli.proofs.Shared.{Arrays, core_program, option_map, Pol, Program, RunEnding, slice_index, spelled, zero_arrays}

-- evaluation of the core language
abbrev core_truth : CoreTest → Arrays → List ℕ → Bool
core_truth id_test m k = true
core_truth drop_test m k = false
core_truth (field_test c n) m k = slice_index k c == n
core_truth (state_test s es a) m k = m (place_at s es k) == value_of a k
core_truth (not_test x) m k = not (core_truth x m k)
core_truth (and_test x y) m k = core_truth x m k && core_truth y m k
core_truth (or_test x y) m k = core_truth x m k || core_truth y m k

abbrev core_vars : CoreTest → ℕ
core_vars (state_test s es a) = 2 ^ s
core_vars (not_test x) = core_vars x
core_vars (and_test x y) = bit_or (core_vars x) (core_vars y)
core_vars (or_test x y) = bit_or (core_vars x) (core_vars y)
core_vars x = 0

abbrev core_eval : CorePolicy → Arrays → List ℕ → Option Meaning
core_eval (filter x) m k =
    Some (record { arrays = m; packets = if core_truth x m k then with_packet no_packets k else no_packets; reads = core_vars x; writes = 0 })
core_eval (set c a) m k = Some (record { arrays = m; packets = with_packet no_packets (slice_set k c (value_of a k)); reads = 0; writes = 0 })
core_eval (change u) m k = Some (record { arrays = update m u k; packets = with_packet no_packets k; reads = 0; writes = 2 ^ u.var })
core_eval (par p q) m k = all_together m (core_eval p m k ∷ core_eval q m k ∷ [])
core_eval (seq p q) m k =
    option_and_then (λ o.
    option_map (logged o.reads o.writes)
    (all_together o.arrays (map (λ k'. core_eval q o.arrays k') (listed o.packets))))
    (core_eval p m k)
core_eval (choice x p q) m k = option_map (logged (core_vars x) 0) (if core_truth x m k then core_eval p m k else core_eval q m k)
core_eval (atomic p) m k = core_eval p m k

same_truth : (x : Pred) (m : Arrays) (k : List ℕ) → truth x m k ≡ core_truth (core_test x) m k
same_truth (Not' _ x) m k = ap not (same_truth x m k)
same_truth (And' _ x _ y) m k = λ i. same_truth x m k i && same_truth y m k i
same_truth (Or' _ x _ y) m k = λ i. same_truth x m k i || same_truth y m k i
same_truth x m k = refl

same_vars : (x : Pred) → vars_of x ≡ core_vars (core_test x)
same_vars (Not' _ x) = same_vars x
same_vars (And' _ x _ y) = λ i. bit_or (same_vars x i) (same_vars y i)
same_vars (Or' _ x _ y) = λ i. bit_or (same_vars x i) (same_vars y i)
same_vars x = refl

by_core : (p : Pol) (m : Arrays) (k : List ℕ) → eval p m k ≡ core_eval (core_policy p) m k
by_core (Filter x) m k = λ i.
    Some (record { arrays = m; packets = if same_truth x m k i then with_packet no_packets k else no_packets; reads = same_vars x i; writes = 0 })
by_core (Set c a) m k = refl
by_core (Change u) m k = refl
by_core (Par' _ p _ q) m k = λ i. all_together m (by_core p m k i ∷ by_core q m k i ∷ [])
by_core (Seq' _ p _ q) m k = λ i.
    option_and_then (λ o.
    option_map (logged o.reads o.writes)
    (all_together o.arrays (map (λ k'. by_core q o.arrays k' i) (listed o.packets))))
    (by_core p m k i)
by_core (If' x _ p _ q) m k = λ i.
    option_map (logged (same_vars x i) 0) (if same_truth x m k i then by_core p m k i else by_core q m k i)
by_core (Atomic' _ p) m k = by_core p m k

-- two programs with one core program
module _ (p q : Program) (same : core_program p ≡ core_program q) where
  pub same_fields : p.fields ≡ q.fields
  same_fields = ap (λ (c : CoreProgram). c.fields) same

  pub same_names : p.arrays ≡ q.arrays
  same_names = ap (λ (c : CoreProgram). c.arrays) same

  pub same_eval : (m : Arrays) (k : List ℕ) → eval p.body m k ≡ eval q.body m k
  same_eval m k = by_core p.body m k ∙ (ap (λ (c : CoreProgram). core_eval c.body m k) same ∙ sym (by_core q.body m k))

  pub same_switch : (packets : List (List ℕ)) (m : Arrays) → one_big_switch p.body m packets ≡ one_big_switch q.body m packets
  same_switch [] m = refl
  same_switch (packet ∷ packets) m = λ i. option_and_then (λ o. option_map (in_front o) (same_switch packets o.arrays i)) (same_eval m packet i)

  module _ (file : List ℕ) (ending : RunEnding) (text : List ℕ) where
    pub same_report : IsReport p file ending text → IsReport q file ending text
    same_report (inl h) =
        let packets = λ (fields : List FieldData). (spelled fields file).packets in
        inl (
          h.0,
          subst (λ fields. one_big_switch q.body zero_arrays (packets fields) ≡ Some h.0) same_fields (sym (same_switch (packets p.fields) zero_arrays) ∙ h.1),
          subst (λ fields. EndsAsRead fields q.arrays (spelled fields file).stop h.0 ending text) same_fields
              (subst (λ names. EndsAsRead p.fields names (spelled p.fields file).stop h.0 ending text) same_names h.2),
        )
    same_report (inr h) =
        let packets = λ (fields : List FieldData). (spelled fields file).packets in
        let cut = h.2 in
        inr (
          h.0,
          h.1,
          record {
            some = subst (λ fields. one_big_switch q.body zero_arrays (take h.0 (packets fields)) ≡ Some h.1) same_fields (sym (same_switch (take h.0 (packets p.fields)) zero_arrays) ∙ cut.some);
            none = subst (λ fields. one_big_switch q.body zero_arrays (take (h.0 + 1) (packets fields)) ≡ None) same_fields (sym (same_switch (take (h.0 + 1) (packets p.fields)) zero_arrays) ∙ cut.none);
          },
          h.3,
          h.4 ∙ ap (λ fields. made_text fields h.1) same_fields,
        )
