-- Different leaves have different codes.
use Rattle.std.proofs.Common.{◌≡◌, ℕ, List, [], ◌∷◌, ◌++◌, refl, ap, drop, arith, append_assoc}
use Rattle.snap_core.specs.declared.policy.Atom.{Atom}
use Rattle.snap_core.specs.declared.policy.Atom.TheVariants.{Num, Comp}
use Rattle.snap_core.specs.declared.policy.Op.{Op}
use Rattle.snap_core.specs.declared.policy.Op.TheVariants.{Put, Add}
use Rattle.snap_core.specs.declared.policy.Update.{Update}
use Rattle.snap_diagrams.specs.Codes.{atom_code}
use Rattle.snap_diagrams.proofs.Injective.{same_index}
use Rattle.snap_diagrams.specs.declared.leaf.Leaf.{Leaf}
use Rattle.snap_diagrams.specs.declared.leaf.Leaf.TheVariants.{Race, Go as Goes}
use Rattle.snap_diagrams.specs.LeafCodes.{out_code, outs_code, op_code, ups_code, leaf_code}

same_atom : (a b : Atom) (r s : List ℕ) → atom_code a ++ r ≡ atom_code b ++ s → (a ≡ b) × (r ≡ s)
same_atom (Num n) (Num o) r s e = (grind arith, grind arith)
same_atom (Num n) (Comp o) r s e = absurd (grind arith)
same_atom (Comp n) (Num o) r s e = absurd (grind arith)
same_atom (Comp n) (Comp o) r s e = (grind arith, grind arith)

same_op : (a b : Op) (r s : List ℕ) → op_code a ++ r ≡ op_code b ++ s → (a ≡ b) × (r ≡ s)
same_op (Put a) (Put b) r s e = let i = same_atom a b r s (grind arith) in (rw i.0 refl, i.1)
same_op (Put a) (Add o) r s e = absurd (grind arith)
same_op (Add n) (Put b) r s e = absurd (grind arith)
same_op (Add n) (Add o) r s e = (grind arith, grind arith)

pub same_out : (xs ys : List (ℕ × Atom)) (r s : List ℕ) → out_code xs ++ r ≡ out_code ys ++ s → (xs ≡ ys) × (r ≡ s)
same_out [] [] r s e = (refl, grind arith)
same_out [] ((d, b) ∷ ys) r s e = absurd (grind arith)
same_out ((c, a) ∷ xs) [] r s e = absurd (grind arith)
same_out ((c, a) ∷ xs) ((d, b) ∷ ys) r s e =
    let hc : c ≡ d = grind arith in
    let i = same_atom a b (out_code xs ++ r) (out_code ys ++ s) (grind (arith, append_assoc {A = ℕ})) in
    let j = same_out xs ys r s i.1 in
    (rw (hc, i.0, j.0) refl, j.1)

same_outs : (xs ys : List (List (ℕ × Atom))) (r s : List ℕ) → outs_code xs ++ r ≡ outs_code ys ++ s → (xs ≡ ys) × (r ≡ s)
same_outs [] [] r s e = (refl, grind arith)
same_outs [] (y ∷ ys) r s e = absurd (grind arith)
same_outs (x ∷ xs) [] r s e = absurd (grind arith)
same_outs (x ∷ xs) (y ∷ ys) r s e =
    let i = same_out x y (outs_code xs ++ r) (outs_code ys ++ s) (grind (arith, append_assoc {A = ℕ})) in
    let j = same_outs xs ys r s i.1 in
    (rw (i.0, j.0) refl, j.1)

same_update : (u v : Update) → u.var ≡ v.var → u.index ≡ v.index → u.op ≡ v.op → u ≡ v
same_update u v a b c = λ i. record { var = a i; index = b i; op = c i }

same_ups : (xs ys : List Update) → ups_code xs ≡ ups_code ys → xs ≡ ys
same_ups [] [] e = refl
same_ups [] (y ∷ ys) e = absurd (grind arith)
same_ups (x ∷ xs) [] e = absurd (grind arith)
same_ups (x ∷ xs) (y ∷ ys) e =
    let hv : x.var ≡ y.var = grind arith in
    let i = same_index x.index y.index (op_code x.op ++ ups_code xs) (op_code y.op ++ ups_code ys) (ap (drop 2) e) in
    let o = same_op x.op y.op (ups_code xs) (ups_code ys) i.1 in
    let j = same_ups xs ys o.1 in
    (λ k. same_update x y hv i.0 o.0 k ∷ j k)

pub same_leaf : (a b : Leaf) → leaf_code a ≡ leaf_code b → a ≡ b
same_leaf Race Race e = refl
same_leaf Race (Goes h) e = absurd (grind arith)
same_leaf (Goes g) Race e = absurd (grind arith)
same_leaf (Goes g) (Goes h) e =
    let hr : g.reads ≡ h.reads = grind arith in
    let hw : g.writes ≡ h.writes = grind arith in
    let i = same_outs g.outs h.outs (ups_code g.ups) (ups_code h.ups) (grind arith) in
    let j = same_ups g.ups h.ups i.1 in
    (λ k. Goes (record { outs = i.0 k; ups = j k; reads = hr k; writes = hw k }))
