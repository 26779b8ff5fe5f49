use Rattle.std.proofs.Common.{rules, [], ◌≡◌, ◌∙◌, ap, sym, subst}
use Rattle.std.specs.Prelude.{if◌then◌else◌, nat_eq, slice_index_or}
use Rattle.hk_term.specs.Operations.{bit}
use Rattle.hk_term.specs.Meaning.{value}
use Rattle.spec_tree.specs.Sorted.{field_sorts, no_field}
use Rattle.spec_tree.specs.View.{view_spec}
use Rattle.hk_symexpr.specs.Naming.{AreIndexTerms, index_values}
use Rattle.hk_symspec.specs.Ranges.{in_range}
use Rattle.hk_symspec.proofs.ReadLaws.{ranged_value}
use Rattle.hk_symspec.proofs.entries.ranged.Goals as goal

pub are_below-requires : goal.are_below-requires
are_below-requires c = record { index = subst (λ k. AreIndexTerms c.args.t.now k c.args.index.now) (sym c.keys_of.ensures) c.requires.index }

pub returns-clause-value : goal.returns-clause-value
returns-clause-value c = λ v limited state entry.
    let found : value c.constant.new.t c.args.found v ≡ value c.args.t.now c.args.found v = search rules in
    ranged_value (slice_index_or (field_sorts (view_spec c.args.spec.now)) c.args.field no_field).keys (index_values c.args.t.now c.args.index.now v) (slice_index_or state c.args.field [])
    (value c.constant.new.t c.in_ok-test.test v) (value c.choose.new.t c.in_ok-made.made v) (value c.args.t.now c.args.found v) (value c.constant.new.t c.in_ok-zero.zero v)
    (c.in_ok-zero.ensures.keeps_values c.in_ok-test.test c.in_ok-test.ensures.within v ∙ c.in_ok-test.ensures.value v limited
    ∙ ap (λ k. bit (in_range k (index_values c.args.t.now c.args.index.now v))) c.keys_of.ensures)
    (c.in_ok-zero.ensures.value v)
    (c.in_ok-made.ensures.value v
    ∙ (λ j. if nat_eq (value c.constant.new.t c.in_ok-test.test v) 1 then found j else value c.constant.new.t c.in_ok-zero.zero v))
    entry
