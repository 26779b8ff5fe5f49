use Rattle.std.proofs.Common.{rules, ◌≡◌, ◌∙◌, ap, subst, slice_index_or}
use Rattle.spec_tree.specs.Shapes.{AreNumbers}
use Rattle.spec_tree.specs.Plain as plain
use Rattle.spec_tree.specs.View.{view_transition}
use Rattle.hk_symspec.proofs.Turning.{found_at}
use Rattle.hk_symspec_tests.proofs.fitting.are_numbers_of.Goals as goal

pub returns : goal.returns
returns c = λ yes u found.
    let x = c.index-as_slice-h.result in
    let is : x ≡ slice_index_or c.args.spec.now.transitions c.args.h x = search rules in
    let same : view_transition x ≡ u = found_at view_transition c.args.spec.now.transitions c.args.h x u c.requires is found in
    subst (λ ws. AreNumbers ws c.args.args.now) (c.as_slice-2.ensures ∙ ap (λ (t : plain.Transition). t.widths) same) (c.are_numbers.ensures yes)
