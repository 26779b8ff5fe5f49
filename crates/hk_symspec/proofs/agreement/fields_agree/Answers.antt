use Rattle.std.proofs.Common.{◌≡◌, ◌↔◌, ◌<◌, ◌≤◌, ◌∙◌, ap, sym, subst, [], ℕ, List, length, map, arith}
use Rattle.std.specs.Prelude.{All, nat_eq, slice_index_or}
use Rattle.std.proofs.lemmas.List.{length-map}
use Rattle.spec_tree.specs.Value.{bit}
use Rattle.hk_term.specs.Meaning.{Reading, every_tuple, value}
use Rattle.hk_term.specs.declared.node.Node.{Node}
use Rattle.hk_simplify.proofs.FormLaws.{grows-trans}
use Rattle.spec_tree.specs.Plain.{Key, Spec}
use Rattle.spec_tree.specs.Sorted.{IsIndexSort, field_sorts, key_sizes, no_field}
use Rattle.spec_tree.specs.Meaning.{State}
use Rattle.spec_tree.specs.View.{view_field, view_key, view_spec}
use Rattle.hk_symexpr.specs.Sources.{Keeps}
use Rattle.hk_symexpr.specs.Naming.{bounds_from}
use Rattle.hk_symexpr.specs.declared.names.Limit.{Limit}
use Rattle.hk_symspec.specs.KeptLaws.{state_kept, state_over_kept}
use Rattle.hk_symspec.specs.States.{state_at}
use Rattle.hk_symspec.specs.Standing.{formula_base}
use Rattle.hk_symspec.specs.Agreement.{AreKeyVariables}
use Rattle.hk_symspec.proofs.Agreeing.{agree, body_at, field_is_sorted, row_long, steady_kept, variable_terms}
use Rattle.hk_symspec.proofs.agreement.fields_agree.Goals as goal

pub key_variables-requires-clause-sorts : goal.key_variables-requires-clause-sorts
key_variables-requires-clause-sorts g c =
    subst (All (λ (k : Key). IsIndexSort k.width k.size)) (sym c.keys_of-keys.ensures) (field_is_sorted (view_spec c.args.spec.now) c.args.field c.requires.spec (omega (arith, c.requires.field, length-map c.args.spec.now.fields view_field))).keyed

pub key_variables-requires-clause-few : goal.key_variables-requires-clause-few
key_variables-requires-clause-few g c =
    let few : length (slice_index_or (field_sorts (view_spec c.args.spec.now)) c.args.field no_field).keys ≤ 4 = (field_is_sorted (view_spec c.args.spec.now) c.args.field c.requires.spec (omega (arith, c.requires.field, length-map c.args.spec.now.fields view_field))).few in
    omega (arith, few, ap length c.keys_of-keys.ensures, length-map c.keys_of-keys.result.now view_key)

pub entries_agree-requires-clause-index : goal.entries_agree-requires-clause-index
entries_agree-requires-clause-index g c =
    let V : List Key → Type 0 = λ ks. AreKeyVariables c.key_variables.new.t formula_base ks c.in_ok-index.index.items in
    let L : List Limit → Type 0 = λ ls. AreKeyVariables c.key_variables.new.t formula_base (slice_index_or (field_sorts (view_spec c.args.spec.now)) c.args.field no_field).keys ls in
    variable_terms c.key_variables.new.t formula_base _ c.as_slice.result.now (subst L (sym c.as_slice.ensures.value) (subst V c.keys_of-keys.ensures c.in_ok-index.ensures.variables))

pub entries_agree-requires-clause-first : goal.entries_agree-requires-clause-first
entries_agree-requires-clause-first g c =
    let t : List Node = c.args.t.now in
    let u : List Node = c.key_variables.new.t in
    let kept : Keeps t u = record {
      longer = c.in_ok-index.ensures.longer;
      widths = c.in_ok-index.ensures.keeps_widths;
      values = c.in_ok-index.ensures.keeps_values;
      grows = λ f h. grows-trans f t u h c.in_ok-index.ensures.grows;
    } in
    state_over_kept (view_spec c.args.spec.now) c.args.a.now t u c.requires.first kept

pub entries_agree-requires-clause-second : goal.entries_agree-requires-clause-second
entries_agree-requires-clause-second g c =
    let t : List Node = c.args.t.now in
    let u : List Node = c.key_variables.new.t in
    let kept : Keeps t u = record {
      longer = c.in_ok-index.ensures.longer;
      widths = c.in_ok-index.ensures.keeps_widths;
      values = c.in_ok-index.ensures.keeps_values;
      grows = λ f h. grows-trans f t u h c.in_ok-index.ensures.grows;
    } in
    state_over_kept (view_spec c.args.spec.now) c.args.b.now t u c.requires.second kept

pub every-requires-clause-ids : goal.every-requires-clause-ids
every-requires-clause-ids g c =
    let few : length (slice_index_or (field_sorts (view_spec c.args.spec.now)) c.args.field no_field).keys ≤ 4 = (field_is_sorted (view_spec c.args.spec.now) c.args.field c.requires.spec (omega (arith, c.requires.field, length-map c.args.spec.now.fields view_field))).few in
    omega (arith, few, ap length c.keys_of-keys.ensures, length-map c.keys_of-keys.result.now view_key, ap length c.as_slice-2.ensures.value, ap length c.in_ok-sizes.ensures, length-map (map view_key c.keys_of-keys.result.now) (λ (k : Key). k.size))

pub returns-clause-value : goal.returns-clause-value
returns-clause-value g c = λ v first second.
    let s : Spec = view_spec c.args.spec.now in
    let t : List Node = c.args.t.now in
    let u : List Node = c.key_variables.new.t in
    let keys : List Key = (slice_index_or (field_sorts s) c.args.field no_field).keys in
    let index : List Limit = c.as_slice.result.now in
    let a = c.args.a.now in
    let b = c.args.b.now in
    let kept : Keeps t u = record {
      longer = c.in_ok-index.ensures.longer;
      widths = c.in_ok-index.ensures.keeps_widths;
      values = c.in_ok-index.ensures.keeps_values;
      grows = λ f h. grows-trans f t u h c.in_ok-index.ensures.grows;
    } in
    let low : c.args.field < length s.fields = omega (arith, c.requires.field, length-map c.args.spec.now.fields view_field) in
    let few : length keys ≤ 4 = (field_is_sorted s c.args.field c.requires.spec low).few in
    let body : Reading → ℕ = λ w. value c.entries_agree.new.t c.in_ok-same.same w in
    let sizes : c.as_slice-2.result.now ≡ key_sizes keys = c.as_slice-2.ensures.value ∙ c.in_ok-sizes.ensures ∙ ap key_sizes c.keys_of-keys.ensures in
    let V : List Key → Type 0 = λ ks. AreKeyVariables u formula_base ks c.in_ok-index.index.items in
    let L : List Limit → Type 0 = λ ls. AreKeyVariables u formula_base keys ls in
    let variables : AreKeyVariables u formula_base keys index = subst L (sym c.as_slice.ensures.value) (subst V c.keys_of-keys.ensures c.in_ok-index.ensures.variables) in
    let over_a = state_over_kept s a t u c.requires.first kept in
    let over_b = state_over_kept s b t u c.requires.second kept in
    let steady_a = steady_kept s a t u formula_base v c.requires.first kept first in
    let steady_b = steady_kept s b t u formula_base v c.requires.second kept second in
    let row : State → List ℕ = λ x. slice_index_or x c.args.field [] in
    let there : (value c.every.new.t c.in_ok-made.made v ≡ 1) ↔ (row (state_at s u a v) ≡ row (state_at s u b v)) =
    agree keys (row (state_at s u a v)) (row (state_at s u b v)) body v (value c.every.new.t c.in_ok-made.made v)
    (row_long s u a c.args.field v c.requires.spec over_a low) (row_long s u b c.args.field v c.requires.spec over_b low)
    (c.in_ok-made.ensures.value v ∙ ap (λ z. bit (every_tuple (bounds_from formula_base z) (λ w. nat_eq (body w) 1) v)) sizes)
    (λ i each. body_at s u a b c.args.field keys index v i body steady_a steady_b few variables each c.in_ok-same.ensures.value) in
    let P : State → Type 0 = λ x. (value c.every.new.t c.in_ok-made.made v ≡ 1) ↔ (row x ≡ row (state_at s u b v)) in
    let Q : State → Type 0 = λ x. (value c.every.new.t c.in_ok-made.made v ≡ 1) ↔ (row (state_at s t a v) ≡ row x) in
    subst Q (state_kept s b t u v c.requires.second kept) (subst P (state_kept s a t u v c.requires.first kept) there)
