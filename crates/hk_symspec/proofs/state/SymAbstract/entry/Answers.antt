use Rattle.std.proofs.Common.{◌≡◌, ◌∙◌, ◌≤◌, [], map, ap, sym, subst}
use Rattle.std.specs.Prelude.{All, slice_index_or}
use Rattle.hk_term.specs.Meaning.{Reading, value}
use Rattle.spec_tree.specs.Sorted.{field_sorts, no_field}
use Rattle.spec_tree.specs.Value.{entry_at, place_behind}
use Rattle.spec_tree.specs.View.{view_spec}
use Rattle.hk_symexpr.specs.Naming.{index_values}
use Rattle.hk_symexpr.specs.declared.names.Limit.{Limit}
use Rattle.hk_symspec.specs.States.{numbers_at, state_at}
use Rattle.hk_symspec.proofs.StateMaking.{index_terms_of, numbers_of, terms_there}
use Rattle.hk_symspec.proofs.state.SymAbstract.entry.Goals as goal

pub limits_of-requires : goal.limits_of-requires
limits_of-requires g c = terms_there c.args.t.now (slice_index_or (field_sorts (view_spec c.args.spec.now)) c.args.field no_field).keys c.args.index.now c.requires.index

pub read_entry-requires-clause-index : goal.read_entry-requires-clause-index
read_entry-requires-clause-index g c =
    index_terms_of c.args.t.now (slice_index_or (field_sorts (view_spec c.args.spec.now)) c.args.field no_field).keys c.args.index.now c.as_slice.result.now
    (ap (map (λ (i : Limit). i.term)) c.as_slice.ensures.value ∙ c.in_ok-limits.ensures.terms) c.requires.index

pub returns-clause-value : goal.returns-clause-value
returns-clause-value g c = λ v still steady.
    let e : map (λ (i : Limit). i.term) c.as_slice.result.now ≡ c.args.index.now = ap (map (λ (i : Limit). i.term)) c.as_slice.ensures.value ∙ c.in_ok-limits.ensures.terms in
    let same : (u : Reading) → index_values c.args.t.now c.as_slice.result.now u ≡ numbers_at c.args.t.now c.args.index.now u = λ u. numbers_of c.args.t.now c.args.index.now c.as_slice.result.now u e in
    let P : Limit → Type 0 = λ i. (w : Reading) → value c.args.t.now i.term w ≤ i.most in
    let most : All P c.as_slice.result.now = subst (All P) (sym c.as_slice.ensures.value) c.in_ok-limits.ensures.most in
    c.in_ok-made.ensures.value v (λ k d l. most k d l v) (λ u a. same u ∙ steady u a ∙ sym (same v)) still
    ∙ ap (λ is. entry_at (slice_index_or (state_at (view_spec c.args.spec.now) c.args.t.now c.args.self.now v) c.args.field [])
    (place_behind 0 (slice_index_or (field_sorts (view_spec c.args.spec.now)) c.args.field no_field).keys is)) (same v)
