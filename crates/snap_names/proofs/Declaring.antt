-- What a declaration adds to a scope.
use Rattle.std.proofs.Common.{◌≡◌, ℕ, suc, ◌+◌, Bool, true, false, List, [], ◌∷◌, ◌++◌, length, codes, Option, None, Some, is_some, Result, Ok, Err, cond, if◌then◌else◌, min, refl, sym, ap, ◌∙◌, subst, arith, append_assoc, length-append, Vec, ◌||◌, Global, bytes_eq}
use Rattle.std.specs.Map.{lookup}
use Rattle.std.proofs.lemmas.Bool.{or_parts}
use Rattle.indexmap.specs.IndexMap.{insert_entry}
use Rattle.snap_names.specs.Declarations.{Field, Declared, ports, field_senses, short, capped, with_field, with_let, is_field_known}
use Rattle.snap_core.specs.Fields.{count, width}
use Rattle.snap_names.specs.Senses.{Sense, Plain, Split, Policy, NameFault, Arities}
use Rattle.snap_names.specs.Parts.{Body, Part, Scope, names_in, AreBodies, no_bodies, more_bodies, IsBody, IsPart}
use Rattle.snap_names.specs.Core.{CorePolicy, nodes}
use Rattle.snap_names.specs.Spells.{is_known}
use Rattle.snap_names.specs.Scopes.{declared_in, IsScope, HasDeclared, FieldDeclared}
use Rattle.snap_names.proofs.PartLemmas.{IsPart-later}
use Rattle.snap_core.proofs.FieldLemmas.{count-append, bytes_eq-apart}

insert_step : (b : Bool) (e : Vec ℕ Global × Sense) (es more : List (Vec ℕ Global × Sense)) (name : Vec ℕ Global) (s : Sense)
    → (is_known (names_in es) name.items ≡ false → names_in more ≡ names_in es ++ (name.items, s) ∷ [])
    → is_some (cond b (Some e.1) (lookup (bytes_eq name.items) (names_in es))) ≡ false
    → names_in (if b then (e.0, s) ∷ es else e ∷ more) ≡ (e.0.items, e.1) ∷ (names_in es ++ (name.items, s) ∷ [])
insert_step true e es more name s rest h = cc
insert_step false e es more name s rest h = ap (λ xs. (e.0.items, e.1) ∷ xs) (rest h)

-- A new name stands behind those before.
pub names_in-insert_entry : (es : List (Vec ℕ Global × Sense)) (name : Vec ℕ Global) (s : Sense)
    → is_known (names_in es) name.items ≡ false → names_in (insert_entry (λ x y. bytes_eq x.items y.items) es name s) ≡ names_in es ++ (name.items, s) ∷ []
names_in-insert_entry [] name s h = refl
names_in-insert_entry (e ∷ es) name s h = insert_step (bytes_eq name.items e.0.items) e es (insert_entry (λ x y. bytes_eq x.items y.items) es name s) name s (names_in-insert_entry es name s) h

lookup_step : (b : Bool) (x : Sense) (o p : Option Sense) → (is_some o ≡ false → is_some p ≡ false) → is_some (cond b (Some x) o) ≡ false → is_some (cond b (Some x) p) ≡ false
lookup_step true x o p rest h = h
lookup_step false x o p rest h = rest h

-- A name that is neither among those before nor the new one isn't known.
pub is_known-append : (names : List (List ℕ × Sense)) (e : List ℕ × Sense) (name : List ℕ) → is_known names name ≡ false → bytes_eq name e.0 ≡ false → is_known (names ++ e ∷ []) name ≡ false
is_known-append [] e name h k = rw k refl
is_known-append (x ∷ names) e name h k = lookup_step (bytes_eq name x.0) x.1 (lookup (bytes_eq name) names) (lookup (bytes_eq name) (names ++ e ∷ [])) (λ w. is_known-append names e name w k) h

pub three_new : (ns n1 n2 n3 : List (List ℕ × Sense)) (name net host : List ℕ) (s1 s2 s3 : Sense)
    → is_field_known ns name true ≡ false
    → net ≡ name ++ codes ".net" → host ≡ name ++ codes ".host"
    → (is_known ns name ≡ false → n1 ≡ ns ++ (name, s1) ∷ [])
    → (is_known n1 net ≡ false → n2 ≡ n1 ++ (net, s2) ∷ [])
    → (is_known n2 host ≡ false → n3 ≡ n2 ++ (host, s3) ∷ [])
    → n3 ≡ ns ++ (name, s1) ∷ (name ++ codes ".net", s2) ∷ (name ++ codes ".host", s3) ∷ []
three_new ns n1 n2 n3 name net host s1 s2 s3 h en eh f1 f2 f3 =
    let k1 : is_known ns name ≡ false = (or_parts (is_known ns name) _ h).0 in
    let r1 : (is_known ns (name ++ codes ".net") || (is_known ns (name ++ codes ".host") || false)) ≡ false = (or_parts (is_known ns name) _ h).1 in
    let k2 : is_known ns net ≡ false = rw en (or_parts _ _ r1).0 in
    let k3 : is_known ns host ≡ false = rw eh (or_parts (is_known ns (name ++ codes ".host")) false (or_parts (is_known ns (name ++ codes ".net")) _ r1).1).0 in
    let ln : length net ≡ length name + 4 = ap length en ∙ length-append name (codes ".net") in
    let lh : length host ≡ length name + 5 = ap length eh ∙ length-append name (codes ".host") in
    let e1 : n1 ≡ ns ++ (name, s1) ∷ [] = f1 k1 in
    let a2 : is_known n1 net ≡ false = rw e1 (is_known-append ns (name, s1) net k2 (bytes_eq-apart net name (omega (arith, ln)))) in
    let e2 : n2 ≡ n1 ++ (net, s2) ∷ [] = f2 a2 in
    let a3 : is_known n1 host ≡ false = rw e1 (is_known-append ns (name, s1) host k3 (bytes_eq-apart host name (omega (arith, lh)))) in
    let a4 : is_known n2 host ≡ false = rw e2 (is_known-append n1 (net, s2) host a3 (bytes_eq-apart host net (omega (arith, ln, lh)))) in
    let e3 : n3 ≡ n2 ++ (host, s3) ∷ [] = f3 a4 in
    e3 ∙ rw (e2, e1, en, eh, append_assoc, append_assoc) refl

abbrev declared_with : List Field → List (List ℕ) → List CorePolicy → List (List ℕ × Sense) → Arities → Declared
declared_with fs ars ls ns ar = record { fields = fs; arrays = ars; lets = ls; names = ns; arities = ar }

pub split_senses : (n comp host prefix : ℕ) (ns : List (List ℕ × Sense)) (name : List ℕ) → comp ≡ short n → host ≡ min (comp + 1) 65535
    → ns ++ (name, Split comp host prefix) ∷ (name ++ codes ".net", Plain comp) ∷ (name ++ codes ".host", Plain host) ∷ [] ≡ ns ++ field_senses n name (Some prefix)
split_senses n comp host prefix ns name e f =
    let g : host ≡ min (n + 1) 65535 = omega (arith, e, f) in
    rw (g, e) refl

-- What is declared in a scope, part by part.
pub declared_in-is : (fs : List Field) (ars : List (List ℕ)) (ls : List CorePolicy) (ns : List (List ℕ × Sense)) (ar : Arities) (s : Scope) (lets : List CorePolicy) (arities : Arities)
    → fs ≡ s.fields.items → ars ≡ s.arrays.items → ls ≡ lets → ns ≡ names_in s.names.entries → ar ≡ arities
    → declared_with fs ars ls ns ar ≡ declared_in s lets arities
declared_in-is fs ars ls ns ar s lets arities a b c d e = rw (a, b, c, d, e) refl

AreBodies-append : (bs : List _) (ps : List CorePolicy) (b : _) (p : CorePolicy) → AreBodies bs ps → IsBody b p → AreBodies (bs ++ b ∷ []) (ps ++ p ∷ [])
AreBodies-append _ _ b p no_bodies k = more_bodies k no_bodies
AreBodies-append _ _ b p (more_bodies h hs) k = more_bodies h (AreBodies-append _ _ b p hs k)

pub AreBodies-length : (bs : List _) (ps : List CorePolicy) → AreBodies bs ps → length bs ≡ length ps
AreBodies-length _ _ no_bodies = refl
AreBodies-length _ _ (more_bodies h hs) = ap suc (AreBodies-length _ _ hs)

pub field_declared : (old new : Scope) (lets : List CorePolicy) (arities : Arities) (name : List ℕ) (prefix : Option ℕ) → IsScope old lets
    → new.text.now ≡ old.text.now → new.lets.items ≡ old.lets.items → new.arrays.items ≡ old.arrays.items
    → new.fields.items ≡ old.fields.items ++ record { name = name; prefix = prefix } ∷ []
    → new.comps ≡ min (old.comps + width prefix) 65535
    → names_in new.names.entries ≡ names_in old.names.entries ++ field_senses (count old.fields.items) name prefix
    → HasDeclared old.text.now (Ok (with_field (declared_in old lets arities) name prefix)) new arities
field_declared old new lets arities name prefix h text ls as_is fs cs ns =
    let f : Field = record { name = name; prefix = prefix } in
    let counted : count (old.fields.items ++ f ∷ []) ≡ count old.fields.items + (width prefix + 0) = count-append old.fields.items (f ∷ []) in
    let all : count new.fields.items ≡ count old.fields.items + (width prefix + 0) = ap count fs ∙ counted in
    let was : old.comps ≡ min (count old.fields.items) 65535 = h.comps in
    record {
      lets = lets;
      scope = record { bodies = rw ls h.bodies; comps = omega arith };
      text_is = text;
      declares = ap Ok (declared_in-is _ _ _ _ _ new lets arities (sym fs) (sym as_is) refl (sym ns) refl);
    }

pub let_declared : (old new : Scope) (lets : List CorePolicy) (before behind : Arities) (name : List ℕ) (body : Body) (p : CorePolicy) → IsScope old lets → IsBody body p
    → new.text.now ≡ old.text.now → new.lets.items ≡ old.lets.items ++ body ∷ [] → new.arrays.items ≡ old.arrays.items
    → new.fields.items ≡ old.fields.items → new.comps ≡ old.comps
    → names_in new.names.entries ≡ names_in old.names.entries ++ (name, Policy (length old.lets.items)) ∷ []
    → HasDeclared old.text.now (Ok (with_let (declared_in old lets before) name (p, behind))) new behind
let_declared old new lets before behind name body p h k text ls ars fs cs ns = record {
  lets = lets ++ p ∷ [];
  scope = record { bodies = rw ls (AreBodies-append _ _ body p h.bodies k); comps = rw (cs, fs) h.comps };
  text_is = text;
  declares = ap Ok (declared_in-is _ _ _ _ _ new (lets ++ p ∷ []) behind (sym fs) (sym ars) refl (sym (ns ∙ ap (λ i. names_in old.names.entries ++ (name, Policy i) ∷ []) (AreBodies-length _ _ h.bodies))) refl);
}

-- A new name's declaration is what is behind the test.
pub is_new : {A : Type 0} (b : Bool) (g : NameFault) (r s : Result A NameFault) → b ≡ false → r ≡ s → (if b then Err g else r) ≡ s
is_new b g r s h e = rw h e

pub HasDeclared-is : (text : List ℕ) (r s : Result Declared NameFault) (scope : Scope) (arities : Arities) → r ≡ s → HasDeclared text s scope arities → HasDeclared text r scope arities
HasDeclared-is text r s scope arities e h = rw e h

-- The body of a `let` that was read stands for its core policy.
pub IsBody-kept : (p : CorePolicy) (n kept : ℕ) (part : Part) → kept ≡ min n 4294967295 → capped n ≡ capped (0 + nodes p) → IsPart p n part → IsBody (record { part = part; nodes = kept }) p
IsBody-kept p n kept part e counted h =
    let same : min n 4294967295 ≡ min (0 + nodes p) 4294967295 = counted in
    let here : kept ≡ min (nodes p) 4294967295 = omega (arith, e, same) in
    let later : min kept 4294967295 ≡ min (n + 0) 4294967295 = omega (arith, e) in
    record { nodes = here; part = IsPart-later p n kept 0 part later h }

second_new : (d : Declared) → with_field (declared_with [] [] [] [] []) (codes "inport") None ≡ d → is_field_known d.names (codes "outport") false ≡ false
second_new d e = subst (λ w. is_field_known w.names (codes "outport") false ≡ false) e refl

with_ports : (d : Declared) → with_field (declared_with [] [] [] [] []) (codes "inport") None ≡ d → with_field d (codes "outport") None ≡ ports
with_ports d e = subst (λ w. with_field w (codes "outport") None ≡ ports) e refl

-- The two plain fields that are declared before a text.
pub ports_declared : (text : List ℕ) (s0 s1 s2 : Scope) → declared_in s0 [] [] ≡ declared_with [] [] [] [] [] → s0.text.now ≡ text → IsScope s0 []
    → FieldDeclared s0 s1 (codes "inport") None → FieldDeclared s1 s2 (codes "outport") None → HasDeclared text (Ok ports) s2 []
ports_declared text s0 s1 s2 e t h a b =
    let k : is_field_known (names_in s0.names.entries) (codes "inport") false ≡ false = subst (λ w. is_field_known w.names (codes "inport") false ≡ false) (sym e) refl in
    let first : HasDeclared s0.text.now (Ok (with_field (declared_in s0 [] []) (codes "inport") None)) s1 [] = a k [] h [] in
    let f : with_field (declared_in s0 [] []) (codes "inport") None ≡ declared_in s1 first.lets [] = cc first.declares in
    let g : with_field (declared_with [] [] [] [] []) (codes "inport") None ≡ declared_in s1 first.lets [] = subst (λ w. with_field w (codes "inport") None ≡ declared_in s1 first.lets []) e f in
    let second : HasDeclared s1.text.now (Ok (with_field (declared_in s1 first.lets []) (codes "outport") None)) s2 [] = b (second_new _ g) first.lets first.scope [] in
    record { lets = second.lets; scope = second.scope; text_is = second.text_is ∙ first.text_is ∙ t; declares = ap Ok (sym (with_ports _ g)) ∙ second.declares }
