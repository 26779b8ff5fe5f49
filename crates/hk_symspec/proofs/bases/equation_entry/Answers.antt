use Rattle.std.proofs.Common.{◌≡◌, ◌∙◌, ◌≤◌, Some, List, length, map, ap, sym, subst, arith}
use Rattle.std.specs.Prelude.{slice_get, slice_index_or}
use Rattle.std.proofs.lemmas.List.{length-map}
use Rattle.hk_term.specs.Meaning.{value}
use Rattle.spec_tree.specs.Plain as plain
use Rattle.spec_tree.specs.Plain.{Key}
use Rattle.spec_tree.specs.Sorted.{Context, IsSorted, field_sorts, key_sizes, no_field, width_of}
use Rattle.spec_tree.specs.View.{view_field, view_spec}
use Rattle.spec_tree.proofs.Keeping.{kernel_has}
use Rattle.hk_symspec.proofs.Turning.{mapped_at}
use Rattle.hk_symspec.proofs.IndexLaws.{index_length}
use Rattle.hk_symspec.proofs.EquationLaws.{equation_context, equation_names, equation_value, field_is, field_sort}
use Rattle.hk_symspec.proofs.bases.equation_entry.Goals as goal

pub term_of-requires-clause-names : goal.term_of-requires-clause-names
term_of-requires-clause-names g c =
    let s : plain.Spec = view_spec c.args.spec.now in
    equation_names s c.args.t.now c.args.memory.now c.args.locals.now (slice_index_or (field_sorts s) c.args.field no_field).keys c.args.index.now
    c.as_slice-listed.result.now c.as_slice-counted.result.now c.requires.base c.requires.index (c.as_slice-listed.ensures.value ∙ c.in_ok-keys.ensures)

pub term_of-requires-clause-keys : goal.term_of-requires-clause-keys
term_of-requires-clause-keys g c =
    let keys : List Key = (slice_index_or (field_sorts (view_spec c.args.spec.now)) c.args.field no_field).keys in
    let listed : c.as_slice-listed.result.now ≡ map (λ i. i.term) c.args.index.now = c.as_slice-listed.ensures.value ∙ c.in_ok-keys.ensures in
    let counted : c.as_slice-counted.result.now ≡ key_sizes keys = c.as_slice-counted.ensures.value ∙ c.in_ok-sizes.ensures ∙ ap key_sizes c.keys_of.ensures in
    ap length counted ∙ length-map keys (λ k. k.size) ∙ sym (index_length c.args.t.now keys c.args.index.now c.requires.index)
    ∙ sym (length-map c.args.index.now (λ i. i.term)) ∙ sym (ap length listed)

pub term_of-requires-clause-ids : goal.term_of-requires-clause-ids
term_of-requires-clause-ids g c =
    let s : plain.Spec = view_spec c.args.spec.now in
    let keys : List Key = (slice_index_or (field_sorts s) c.args.field no_field).keys in
    let counted : c.as_slice-counted.result.now ≡ key_sizes keys = c.as_slice-counted.ensures.value ∙ c.in_ok-sizes.ensures ∙ ap key_sizes c.keys_of.ensures in
    let many : length c.as_slice-counted.result.now ≡ length keys = ap length counted ∙ length-map keys (λ k. k.size) in
    let there : slice_get s.fields c.args.field ≡ Some (view_field c.field_at-equation.result.now) = mapped_at view_field c.args.spec.now.fields c.args.field c.field_at-equation.result.now c.field_at-equation.ensures in
    let same : length keys ≡ length (view_field c.field_at-equation.result.now).keys = ap (λ x. length x.keys) (field_sort s c.args.field (view_field c.field_at-equation.result.now) no_field there) in
    let few : length (view_field c.field_at-equation.result.now).keys ≤ 4 = (field_is s c.args.field (view_field c.field_at-equation.result.now) c.requires.spec.fields there).sort.few in
    omega (arith, many, same, few)

pub term_of-requires-clause-fields : goal.term_of-requires-clause-fields
term_of-requires-clause-fields g c = (kernel_has (view_spec c.args.spec.now) c.requires.spec).fields

pub term_of-requires-clause-sorted : goal.term_of-requires-clause-sorted
term_of-requires-clause-sorted g c =
    let s : plain.Spec = view_spec c.args.spec.now in
    let f : plain.Field = view_field c.field_at-equation.result.now in
    let there : slice_get s.fields c.args.field ≡ Some f = mapped_at view_field c.args.spec.now.fields c.args.field c.field_at-equation.result.now c.field_at-equation.ensures in
    let counted : c.as_slice-counted.result.now ≡ key_sizes f.keys =
    c.as_slice-counted.ensures.value ∙ c.in_ok-sizes.ensures ∙ ap key_sizes c.keys_of.ensures ∙ ap (λ x. key_sizes x.keys) (field_sort s c.args.field f no_field there) in
    let P : Context → Type 0 = λ x. IsSorted x f.value in
    subst P (sym (equation_context s f c.args.locals.now c.args.index.now c.as_slice-listed.result.now c.as_slice-counted.result.now c.requires.base.widths counted))
    (field_is s c.args.field f c.requires.spec.fields there).sorted

pub returns-clause-width : goal.returns-clause-width
returns-clause-width g c =
    let s : plain.Spec = view_spec c.args.spec.now in
    let f : plain.Field = view_field c.field_at-equation.result.now in
    let there : slice_get s.fields c.args.field ≡ Some f = mapped_at view_field c.args.spec.now.fields c.args.field c.field_at-equation.result.now c.field_at-equation.ensures in
    let counted : c.as_slice-counted.result.now ≡ key_sizes f.keys =
    c.as_slice-counted.ensures.value ∙ c.in_ok-sizes.ensures ∙ ap key_sizes c.keys_of.ensures ∙ ap (λ x. key_sizes x.keys) (field_sort s c.args.field f no_field there) in
    c.in_ok-made.ensures.width
    ∙ ap (λ x. width_of x f.value) (equation_context s f c.args.locals.now c.args.index.now c.as_slice-listed.result.now c.as_slice-counted.result.now c.requires.base.widths counted)
    ∙ (field_is s c.args.field f c.requires.spec.fields there).given ∙ ap (λ x. x.width) (sym (field_sort s c.args.field f no_field there))

pub returns-clause-value : goal.returns-clause-value
returns-clause-value g c = λ v limited steady still.
    let s : plain.Spec = view_spec c.args.spec.now in
    let f : plain.Field = view_field c.field_at-equation.result.now in
    let there : slice_get s.fields c.args.field ≡ Some f = mapped_at view_field c.args.spec.now.fields c.args.field c.field_at-equation.result.now c.field_at-equation.ensures in
    equation_value s c.args.t.now c.args.memory.now c.args.locals.now c.args.field f c.args.index.now c.as_slice-listed.result.now c.as_slice-counted.result.now v
    (value c.term_of.new.t c.in_ok-made.made v) c.requires.base there c.requires.index (c.as_slice-listed.ensures.value ∙ c.in_ok-keys.ensures)
    (c.as_slice-counted.ensures.value ∙ c.in_ok-sizes.ensures ∙ ap key_sizes c.keys_of.ensures) limited steady still (λ env. c.in_ok-made.ensures.value v env)
