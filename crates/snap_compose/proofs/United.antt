-- Outs each once give the packets of all.
use Rattle.std.proofs.Common.{◌≡◌, ℕ, Bool, true, false, cond, ◌||◌, List, [], ◌∷◌, ◌++◌, refl, sym, ap, ◌∙◌, map, arith}
use Rattle.std.specs.Prelude.{All}
use Rattle.std.specs.List.{list_any}
use Rattle.std.specs.Str.{bytes_eq}
use Rattle.std.specs.Ordering.{is_eq, eq_by_cmp}
use Rattle.std.specs.Cmp.{tied_itself}
use Rattle.std.specs.Cmp.Lexicographic.{bytes_decides, nat_list_cmp_total}
use Rattle.std.specs.FinMap.{contains_key}
use Rattle.std.proofs.lemmas.List.Elements.{All-nil, All-push, All-tail}
use Rattle.std.proofs.lemmas.Map.Text.{is_eq-slice_cmp}
use Rattle.std.proofs.lemmas.Slice.Eq.{bytes_eq-Decides}
use Rattle.std.proofs.lemmas.Bool.{or_right}
use Rattle.snap_core.specs.declared.policy.Atom.{Atom}
use Rattle.snap_core.specs.Packets.{PacketSet, packet_cmp, no_packets, with_packet}
use Rattle.snap_core.specs.Tests.{after_out, results_from, results}
use Rattle.snap_core.proofs.PacketSets.{same_packets, contains-with_packet}
use Rattle.snap_diagrams.specs.LeafCodes.{out_code}
use Rattle.snap_diagrams.proofs.Differ.{same_out}
use Rattle.snap_compose.specs.United.{has_code, with_out, with_outs, united}
use Rattle.snap_compose.proofs.Results.{contains-results}

module _ (k : List ℕ) where
  -- a packet is among those of outs one of which is spelled as its own
  gives : (o : List (ℕ × Atom)) (os : List (List (ℕ × Atom))) → has_code (out_code o) os ≡ true → list_any (eq_by_cmp packet_cmp (after_out o k)) (map (λ p. after_out p k) os) ≡ true
  gives o [] e = e
  gives o (p ∷ os) e = by (bytes_eq (out_code p) (out_code o)) refl (gives o os)
    where
      more : Bool → Bool
      more b = b || list_any (eq_by_cmp packet_cmp (after_out o k)) (map (λ p. after_out p k) os)

      by : (t : Bool) → bytes_eq (out_code p) (out_code o) ≡ t → (has_code (out_code o) os ≡ true → more false ≡ true) → more (eq_by_cmp packet_cmp (after_out o k) (after_out p k)) ≡ true
      by true t rest =
          let same : p ≡ o = (same_out p o [] [] (ap (λ c. c ++ []) ((bytes_eq-Decides (out_code p) (out_code o)).0 t))).0 in
          ap more (ap (λ q. eq_by_cmp packet_cmp (after_out o k) (after_out q k)) same ∙ ap is_eq (tied_itself nat_list_cmp_total (after_out o k)))
      by false t rest = or_right _ _ (rest (sym (ap (λ b. b || has_code (out_code o) os) t) ∙ e))

  with_more : (s : PacketSet) (os : List (List (ℕ × Atom))) (o : List (ℕ × Atom)) → results_from s (os ++ o ∷ []) k ≡ with_packet (results_from s os k) (after_out o k)
  with_more s [] o = refl
  with_more s (p ∷ os) o = with_more (with_packet s (after_out p k)) os o

  with_known : (os : List (List (ℕ × Atom))) (o : List (ℕ × Atom)) → has_code (out_code o) os ≡ true → results os k ≡ with_packet (results os k) (after_out o k)
  with_known os o e = same_packets _ _ (λ q. sym (contains-with_packet (results os k) (after_out o k) q ∙ at q (eq_by_cmp packet_cmp q (after_out o k)) refl))
    where
      at : (q : List ℕ) (t : Bool) → eq_by_cmp packet_cmp q (after_out o k) ≡ t → (t || contains_key (results os k) q) ≡ contains_key (results os k) q
      at q true t =
          let same : q ≡ after_out o k = (bytes_decides q (after_out o k)).0 (sym (is_eq-slice_cmp q (after_out o k)) ∙ t) in
          sym (ap (contains_key (results os k)) same ∙ contains-results no_packets os k (after_out o k) ∙ or_right (contains_key no_packets (after_out o k)) _ (gives o os e))
      at q false t = refl

  results-with_out : (os : List (List (ℕ × Atom))) (o : List (ℕ × Atom)) → results (with_out os o) k ≡ with_packet (results os k) (after_out o k)
  results-with_out os o = by (has_code (out_code o) os) refl
    where
      by : (t : Bool) → has_code (out_code o) os ≡ t → results (cond t os (os ++ o ∷ [])) k ≡ with_packet (results os k) (after_out o k)
      by true e = with_known os o e
      by false e = with_more no_packets os o

  results-with_outs : (os ps : List (List (ℕ × Atom))) → results (with_outs os ps) k ≡ results_from (results os k) ps k
  results-with_outs os [] = refl
  results-with_outs os (p ∷ ps) = results-with_outs (with_out os p) ps ∙ ap (λ s. results_from s ps k) (results-with_out os p)

  results_from-append : (s : PacketSet) (xs ys : List (List (ℕ × Atom))) → results_from s (xs ++ ys) k ≡ results_from (results_from s xs k) ys k
  results_from-append s [] ys = refl
  results_from-append s (x ∷ xs) ys = results_from-append (with_packet s (after_out x k)) xs ys

  pub results-united : (xs ys : List (List (ℕ × Atom))) → results (united xs ys) k ≡ results (xs ++ ys) k
  results-united xs ys =
      results-with_outs (with_outs [] xs) ys
      ∙ ap (λ s. results_from s ys k) (results-with_outs [] xs)
      ∙ sym (results_from-append no_packets xs ys)

-- what holds of all outs of two leaves holds of those that are kept
module _ (P : List (ℕ × Atom) → Type 0) where
  all_with : (os : List (List (ℕ × Atom))) (o : List (ℕ × Atom)) → All P os → P o → All P (with_out os o)
  all_with os o a h = by (has_code (out_code o) os)
    where
      by : (t : Bool) → All P (cond t os (os ++ o ∷ []))
      by true = a
      by false = All-push P os o a h

  all_with_outs : (os ps : List (List (ℕ × Atom))) → All P os → All P ps → All P (with_outs os ps)
  all_with_outs os [] a h = a
  all_with_outs os (p ∷ ps) a h = all_with_outs (with_out os p) ps (all_with os p a (h 0 p (omega arith))) (All-tail P p ps h)

  pub all_united : (xs ys : List (List (ℕ × Atom))) → All P xs → All P ys → All P (united xs ys)
  all_united xs ys a b = all_with_outs (with_outs [] xs) ys (all_with_outs [] xs (All-nil P) a) b
