use Rattle.std.proofs.Common.{rules, ◌≡◌, ◌+◌, ◌%◌, ◌^◌, ◌<◌, ◌≤◌, ◌∙◌, Some, List, length, ap, sym, subst, arith}
use Rattle.std.specs.Prelude.{slice_get, slice_index_or}
use Rattle.std.proofs.lemmas.List.{length-map}
use Rattle.hk_term.specs.Meaning.{value}
use Rattle.spec_tree.specs.Plain as plain
use Rattle.spec_tree.specs.Plain.{Key}
use Rattle.spec_tree.specs.Sorted.{field_sorts, key_sizes, no_field, product}
use Rattle.spec_tree.specs.Value.{place_behind}
use Rattle.spec_tree.specs.View.{view_field, view_spec}
use Rattle.spec_tree.proofs.Entries.{place_within}
use Rattle.hk_symexpr.specs.Naming.{AreIndexTerms, index_values}
use Rattle.hk_symspec.proofs.Turning.{mapped_at}
use Rattle.hk_symspec.proofs.EquationLaws.{field_is, field_sort}
use Rattle.hk_symspec.proofs.ArrayLaws.{array_number}
use Rattle.hk_symspec.proofs.bases.array_entry.Goals as goal

pub place_of-requires : goal.place_of-requires
place_of-requires c = record { index = subst (λ k. AreIndexTerms c.args.t.now k c.args.index.now) (sym c.keys_of.ensures) c.requires.index }

pub intern-requires : goal.intern-requires
intern-requires c =
    let s : plain.Spec = view_spec c.args.spec.now in
    let f : plain.Field = view_field c.field_at.result.now in
    let there : slice_get s.fields c.args.field ≡ Some f = mapped_at view_field c.args.spec.now.fields c.args.field c.field_at.result.now c.field_at.ensures in
    ((field_is s c.args.field f c.requires.spec.fields there).sort.wide, c.in_ok-place.ensures.within)

pub returns-clause-width : goal.returns-clause-width
returns-clause-width c =
    let s : plain.Spec = view_spec c.args.spec.now in
    let f : plain.Field = view_field c.field_at.result.now in
    let there : slice_get s.fields c.args.field ≡ Some f = mapped_at view_field c.args.spec.now.fields c.args.field c.field_at.result.now c.field_at.ensures in
    c.in_ok-made.ensures.width ∙ ap (λ x. x.width) (sym (field_sort s c.args.field f no_field there))

pub returns-clause-value : goal.returns-clause-value
returns-clause-value c = λ v p found.
    let s : plain.Spec = view_spec c.args.spec.now in
    let f : plain.Field = view_field c.field_at.result.now in
    let there : slice_get s.fields c.args.field ≡ Some f = mapped_at view_field c.args.spec.now.fields c.args.field c.field_at.result.now c.field_at.ensures in
    let sort = field_sort s c.args.field f no_field there in
    let keys : List Key = (slice_index_or (field_sorts s) c.args.field no_field).keys in
    let low : p < product (key_sizes keys) = omega (arith, place_within keys (index_values c.args.t.now c.args.index.now v) 0 p found) in
    let few : product (key_sizes f.keys) ≤ 2 ^ 20 = (field_is s c.args.field f c.requires.spec.fields there).sort.small in
    let same : product (key_sizes keys) ≡ product (key_sizes f.keys) = ap (λ x. product (key_sizes x.keys)) sort in
    let small : p < 2 ^ 64 = omega (arith, low, few, same) in
    let place : value c.place_of.new.t c.in_ok-place.place v ≡ p =
    c.in_ok-place.ensures.value v p (ap (λ k. place_behind 0 k (index_values c.args.t.now c.args.index.now v)) c.keys_of.ensures ∙ found) small in
    let many : length (field_sorts s) ≡ length c.args.spec.now.fields = search (rules, length-map) in
    c.in_ok-made.ensures.value v ∙ ap (λ x. v.entry (c.args.first + c.args.field) x % 2 ^ c.field_at.result.now.width) place
    ∙ ap (λ x. v.entry (c.args.first + c.args.field) p % 2 ^ x.width) (sym sort)
    ∙ sym (array_number (field_sorts s) c.args.first c.args.field p v.entry (omega (arith, c.requires.field, many)) low)
