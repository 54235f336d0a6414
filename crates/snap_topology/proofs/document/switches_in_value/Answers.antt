use Rattle.std.proofs.Common.{◌≡◌, ◌∙◌, ◌==◌, ap, sym, List, [], ◌∷◌, Some, length, refl}
use Rattle.std.proofs.lemmas.Result.{IfOk-weaker}
use Rattle.std.proofs.lemmas.Bool.{false≢true}
use Rattle.toml.specs.Data.{no_items, as_array}
use Rattle.toml.specs.View.{items_view, view}
use Rattle.toml.specs.declared.value.Value.{Value}
use Rattle.snap_topology.specs.Shape.{names_in}
use Rattle.snap_topology.proofs.TableLemmas.{array_switches}
use Rattle.snap_topology.proofs.document.switches_in_value.Goals as goal

no_items_view : (vs : List Value) → (length vs ≡ 0 → ⊥) → items_view vs ≡ no_items → ⊥
no_items_view [] some is = some refl
no_items_view (v ∷ vs) some is = cc

pub returns-else-is_empty : goal.returns-else-is_empty
returns-else-is_empty c =
    let is_array : Some (items_view c.in-Some.items.now.items) ≡ as_array (view c.args.value.now) = rw c.in-Some.is at c.as_array.ensures in
    let some : length c.in-Some.items.now.items ≡ 0 → ⊥ = λ e. false≢true (sym c.if-is_empty.false ∙ c.is_empty.ensures
    ∙ ap (λ n. n == 0) (sym c.as_slice.ensures.len ∙ ap length c.as_slice.ensures.value ∙ e)) in
    let seen = ap names_in (ap items_view c.as_slice.ensures.value) ∙ array_switches (view c.args.value.now) (items_view c.in-Some.items.now.items) 0 is_array (no_items_view _ some) in
    IfOk-weaker c.names_of.result _ _ (λ r h. h ∙ seen) c.names_of.ensures
