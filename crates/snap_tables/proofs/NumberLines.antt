-- Which lines say links, ports and next hops, exactly.
use Rattle.std.proofs.Common.{◌≡◌, ℕ, ◌-◌, ◌^◌, ◌<◌, ◌≤◌, Bool, true, false, cond, List, [], ◌∷◌, ◌++◌, Option, Some, None, refl, sym, ap, ◌∙◌, arith, inl}
use Rattle.std.specs.Prelude.{◌&&◌, ◌⊎◌, codes, nat_lt}
use Rattle.std.specs.Str.{bytes_eq}
use Rattle.std.proofs.lemmas.Bool.{and_parts, ltb-true, lt-ltb}
use Rattle.std.proofs.lemmas.Slice.Eq.{bytes_eq-Decides}
use Rattle.snap_core.specs.Figures.{parts_by}
use Rattle.snap_core.specs.declared.ports.PortAt.{PortAt}
use Rattle.snap_rows.specs.declared.tables.Hop.{Hop}
use Rattle.snap_tables.specs.Joins.{join}
use Rattle.snap_tables.specs.Text.{Words, spaced, link_words, port_words, hop_words}
use Rattle.snap_tables.specs.Reading.{below_said, hop_said, is_space, link_said, no_words, number_said, opened, port_said, taken}
use Rattle.snap_tables.specs.Laws.{HopsAreSaid, LinksAreSaid, PortsAreSaid}
use Rattle.snap_tables.proofs.Joins.{join-parts, parts-join}
use Rattle.snap_tables.proofs.Readings.{said-decimal, decimal-said}
use Rattle.snap_tables.proofs.Said.{below-said, said-below, map-some}
use Rattle.snap_tables.proofs.Terms.{Lacks-decimal, and-some}

pub taken-some : {A : Type 0} (says : List ℕ → Option A) (ws : Words) (p : A × Words) → taken says ws ≡ Some p → (w : List ℕ) × (ws ≡ w ∷ p.1) × (says w ≡ Some p.0)
taken-some says [] p e = absurd (cc)
taken-some {A = A} says (w ∷ ws) p e =
    let k = map-some {A = A} {B = A × Words} (λ a. (a, ws)) (says w) p e in
    (w, ap (λ (q : A × Words). w ∷ q.1) (sym k.2), k.1 ∙ ap (λ (q : A × Words). Some q.0) (sym k.2))

pub opened-some : (k : List ℕ) (ws r : Words) → opened k ws ≡ Some r → ws ≡ k ∷ r
opened-some k [] r e = absurd (cc)
opened-some k (w ∷ ws) r e = at (bytes_eq w k) refl e
  where
    at : (z : Bool) → bytes_eq w k ≡ z → cond z (Some ws) None ≡ Some r → w ∷ ws ≡ k ∷ r
    at false is e = absurd (cc)
    at true is e = let same = (bytes_eq-Decides w k).0 is in cc

pub some-opened : (k : List ℕ) (ws : Words) → opened k (k ∷ ws) ≡ Some ws
some-opened k ws = ap (λ z. cond z (Some ws) None) ((bytes_eq-Decides k k).1 refl)

pub chosen : {A : Type 0} (b : Bool) (x y : A) → cond b (Some x) None ≡ Some y → (b ≡ true) × (y ≡ x)
chosen true x y e = (refl, cc)
chosen false x y e = absurd (cc)

pub none-left : (ws : Words) → no_words ws ≡ true → ws ≡ []
none-left [] e = refl
none-left (w ∷ ws) e = absurd (cc)

pub text-of : (w k : List ℕ) (ws : Words) → parts_by is_space w ≡ k ∷ ws → w ≡ k ++ spaced ws
text-of w k ws e = sym (join-parts 32 w) ∙ ap (join 32) e

pub space-out : (32 < 48) ⊎ (57 < 32)
space-out = inl (omega arith)

module _ (n : ℕ) (fits : n < 2 ^ 64) where
  link-said : (l : ℕ × ℕ) (ws : Words) → link_said n ws ≡ Some l → (ws ≡ codes "link" ∷ link_words l) × (l.0 < n) × (l.1 < n)
  link-said l ws e =
      let a = and-some _ (opened (codes "link") ws) l e in
      let b = and-some _ (taken (below_said n) a.0) l a.2 in
      let c = and-some _ (taken (below_said n) b.0.1) l b.2 in
      let d = chosen (no_words c.0.1) (b.0.0, c.0.0) l c.2 in
      let x = taken-some (below_said n) a.0 b.0 b.1 in
      let y = taken-some (below_said n) b.0.1 c.0 c.1 in
      let u = below-said n b.0.0 x.0 fits x.2 in
      let v = below-said n c.0.0 y.0 fits y.2 in
      rw d.1 (opened-some (codes "link") ws a.0 a.1 ∙ ap (λ r. codes "link" ∷ r) (x.1 ∙ ap (λ r. x.0 ∷ r) (y.1 ∙ ap (λ r. y.0 ∷ r) (none-left c.0.1 d.0)) ∙ (λ i. u.0 i ∷ v.0 i ∷ [])), u.1, v.1)

  said-link : (l : ℕ × ℕ) → l.0 < n → l.1 < n → link_said n (codes "link" ∷ link_words l) ≡ Some l
  said-link l a b =
      rw (said-below n l.0 fits a, said-below n l.1 fits b) refl

pub links-said : LinksAreSaid
links-said n l w fits = (
  λ e. let k = link-said n fits l (parts_by is_space w) e in (text-of w (codes "link") (link_words l) k.0, k.1, k.2),
  λ h. ap (λ x. link_said n (parts_by is_space x)) h.0
      ∙ ap (link_said n) (parts-join 32 (codes "link") (link_words l) (refl, (refl, (refl, (refl, tt)))) (Lacks-decimal 32 l.0 space-out (omega (arith, h.1)), (Lacks-decimal 32 l.1 space-out (omega (arith, h.2)), tt)))
      ∙ said-link n fits l h.1 h.2,
)

module _ (n : ℕ) (fits : n < 2 ^ 64) where
  port-said : (p : PortAt) (ws : Words) → port_said n ws ≡ Some p → (ws ≡ codes "port" ∷ port_words p) × (1 ≤ p.port) × (p.port < 2 ^ 32) × (p.at < n)
  port-said p ws e =
      let a = and-some _ (opened (codes "port") ws) p e in
      let b = and-some _ (taken (number_said (2 ^ 32 - 1)) a.0) p a.2 in
      let c = and-some _ (taken (below_said n) b.0.1) p b.2 in
      let d = chosen (no_words c.0.1 && nat_lt 0 b.0.0) (record { port = b.0.0; at = c.0.0 }) p c.2 in
      let t = and_parts (no_words c.0.1) (nat_lt 0 b.0.0) d.0 in
      let x = taken-some (number_said (2 ^ 32 - 1)) a.0 b.0 b.1 in
      let y = taken-some (below_said n) b.0.1 c.0 c.1 in
      let u = said-decimal (2 ^ 32 - 1) x.0 b.0.0 (omega arith) x.2 in
      let v = below-said n c.0.0 y.0 fits y.2 in
      rw d.1 (opened-some (codes "port") ws a.0 a.1 ∙ ap (λ r. codes "port" ∷ r) (x.1 ∙ ap (λ r. x.0 ∷ r) (y.1 ∙ ap (λ r. y.0 ∷ r) (none-left c.0.1 t.0)) ∙ (λ i. u.0 i ∷ v.0 i ∷ [])), omega (arith, ltb-true 0 b.0.0 t.1), omega (arith, u.1), v.1)

  said-port : (p : PortAt) → 1 ≤ p.port → p.port < 2 ^ 32 → p.at < n → port_said n (codes "port" ∷ port_words p) ≡ Some p
  said-port p a b c =
      rw (decimal-said (2 ^ 32 - 1) p.port (omega arith) (omega arith), said-below n p.at fits c, lt-ltb 0 p.port (omega arith)) refl

  hop-said : (h : Hop) (ws : Words) → hop_said n ws ≡ Some h → (ws ≡ codes "hop" ∷ hop_words h) × (h.from < n) × (h.target < n) × (h.next < n)
  hop-said h ws e =
      let a = and-some _ (opened (codes "hop") ws) h e in
      let b = and-some _ (taken (below_said n) a.0) h a.2 in
      let c = and-some _ (taken (below_said n) b.0.1) h b.2 in
      let d = and-some _ (taken (below_said n) c.0.1) h c.2 in
      let t = chosen (no_words d.0.1) (record { from = b.0.0; target = c.0.0; next = d.0.0 }) h d.2 in
      let x = taken-some (below_said n) a.0 b.0 b.1 in
      let y = taken-some (below_said n) b.0.1 c.0 c.1 in
      let z = taken-some (below_said n) c.0.1 d.0 d.1 in
      let u = below-said n b.0.0 x.0 fits x.2 in
      let v = below-said n c.0.0 y.0 fits y.2 in
      let w = below-said n d.0.0 z.0 fits z.2 in
      rw t.1 (opened-some (codes "hop") ws a.0 a.1 ∙ ap (λ r. codes "hop" ∷ r) (x.1 ∙ ap (λ r. x.0 ∷ r) (y.1 ∙ ap (λ r. y.0 ∷ r) (z.1 ∙ ap (λ r. z.0 ∷ r) (none-left d.0.1 t.0))) ∙ (λ i. u.0 i ∷ v.0 i ∷ w.0 i ∷ [])), u.1, v.1, w.1)

  said-hop : (h : Hop) → h.from < n → h.target < n → h.next < n → hop_said n (codes "hop" ∷ hop_words h) ≡ Some h
  said-hop h a b c = rw (said-below n h.from fits a, said-below n h.target fits b, said-below n h.next fits c) refl

pub ports-said : PortsAreSaid
ports-said n p w fits = (
  λ e. let k = port-said n fits p (parts_by is_space w) e in (text-of w (codes "port") (port_words p) k.0, k.1, k.2, k.3),
  λ h. ap (λ x. port_said n (parts_by is_space x)) h.0
      ∙ ap (port_said n) (parts-join 32 (codes "port") (port_words p) (refl, (refl, (refl, (refl, tt)))) (Lacks-decimal 32 p.port space-out (omega (arith, h.2)), (Lacks-decimal 32 p.at space-out (omega (arith, h.3)), tt)))
      ∙ said-port n fits p h.1 h.2 h.3,
)

pub hops-said : HopsAreSaid
hops-said n p w fits = (
  λ e. let k = hop-said n fits p (parts_by is_space w) e in (text-of w (codes "hop") (hop_words p) k.0, k.1, k.2, k.3),
  λ h. ap (λ x. hop_said n (parts_by is_space x)) h.0
      ∙ ap (hop_said n) (parts-join 32 (codes "hop") (hop_words p) (refl, (refl, (refl, tt))) (Lacks-decimal 32 p.from space-out (omega (arith, h.1)), (Lacks-decimal 32 p.target space-out (omega (arith, h.2)), (Lacks-decimal 32 p.next space-out (omega (arith, h.3)), tt))))
      ∙ said-hop n fits p h.1 h.2 h.3,
)
