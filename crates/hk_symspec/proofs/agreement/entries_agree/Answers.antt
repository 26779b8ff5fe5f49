use Rattle.std.proofs.Common.{◌≡◌, ◌∙◌, sym, [], List}
use Rattle.std.specs.Prelude.{nat_eq, slice_index_or}
use Rattle.hk_term.specs.Operations.{bit}
use Rattle.hk_term.specs.Meaning.{Reading, value}
use Rattle.hk_term.specs.declared.node.Node.{Node}
use Rattle.hk_simplify.proofs.FormLaws.{grows-trans}
use Rattle.spec_tree.specs.Plain.{Key, Spec}
use Rattle.spec_tree.specs.Sorted.{field_sorts, no_field}
use Rattle.spec_tree.specs.Value.{entry_at, place_behind}
use Rattle.spec_tree.specs.View.{view_spec}
use Rattle.hk_symexpr.specs.Sources.{Keeps}
use Rattle.hk_symexpr.specs.Naming.{index_values}
use Rattle.hk_symspec.specs.KeptLaws.{kernel_at_kept, state_kept, state_over_kept}
use Rattle.hk_symspec.proofs.OverlayLaws.{indices_kept, index_terms_kept}
use Rattle.hk_symspec.proofs.ReadLaws.{limits_kept}
use Rattle.hk_symspec.proofs.agreement.entries_agree.Goals as goal

pub read_entry-requires-2-clause-over : goal.read_entry-requires-2-clause-over
read_entry-requires-2-clause-over g c =
    let t : List Node = c.args.t.now in
    let kept : Keeps t c.read_entry.new.t = record {
      longer = c.in_ok-one.ensures.longer;
      widths = c.in_ok-one.ensures.keeps_widths;
      values = c.in_ok-one.ensures.keeps_values;
      grows = λ first h. grows-trans first t c.read_entry.new.t h c.in_ok-one.ensures.grows;
    } in
    state_over_kept (view_spec c.args.spec.now) c.args.b.now t c.read_entry.new.t c.requires.second kept

pub read_entry-requires-2-clause-index : goal.read_entry-requires-2-clause-index
read_entry-requires-2-clause-index g c = index_terms_kept c.args.t.now c.read_entry.new.t _ c.args.index.now c.in_ok-one.ensures.longer c.in_ok-one.ensures.keeps_widths c.requires.index

pub returns-clause-value : goal.returns-clause-value
returns-clause-value g c = λ v limited steady first second.
    let s : Spec = view_spec c.args.spec.now in
    let t : List Node = c.args.t.now in
    let u : List Node = c.read_entry.new.t in
    let keys : List Key = (slice_index_or (field_sorts s) c.args.field no_field).keys in
    let kept : Keeps t u = record {
      longer = c.in_ok-one.ensures.longer;
      widths = c.in_ok-one.ensures.keeps_widths;
      values = c.in_ok-one.ensures.keeps_values;
      grows = λ f h. grows-trans f t u h c.in_ok-one.ensures.grows;
    } in
    let same : (w : Reading) → index_values u c.args.index.now w ≡ index_values t c.args.index.now w = λ w. indices_kept t u keys c.args.index.now w kept.values c.requires.index in
    let b = c.args.b.now in
    let still : (w : Reading) → _ = λ w. kernel_at_kept s b.memory b.locals b.first t u w c.requires.second.base kept in
    let one : value c.read_entry-2.new.t c.in_ok-one.one v ≡ value u c.in_ok-one.one v = c.in_ok-other.ensures.keeps_values c.in_ok-one.one c.in_ok-one.ensures.within v in
    let left = one ∙ c.in_ok-one.ensures.value v limited steady first in
    let right = c.in_ok-other.ensures.value v (limits_kept t u c.args.index.now v (same v) limited) (λ w e. same w ∙ steady w e ∙ sym (same v)) (λ w e. still w ∙ second w e ∙ sym (still v))
    ∙ (λ i. entry_at (slice_index_or (state_kept s b t u v c.requires.second kept i) c.args.field []) (place_behind 0 keys (same v i))) in
    c.in_ok-made.ensures.value v ∙ (λ i. bit (nat_eq (left i) (right i)))
