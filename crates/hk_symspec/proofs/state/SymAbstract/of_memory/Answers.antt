use Rattle.std.proofs.Common.{List, [], sym, subst, lit≤}
use Rattle.spec_tree.specs.Sorted.{AreLocals, over_kernel}
use Rattle.spec_tree.specs.View.{view_locals, view_spec}
use Rattle.spec_tree.proofs.Keeping.{kernel_has}
use Rattle.hk_symexpr.specs.declared.names.NamedTerm.{NamedTerm}
use Rattle.hk_symspec.specs.Formulas.{IsFormula, formula_context}
use Rattle.hk_symspec.proofs.NameLaws.{begun_formula}
use Rattle.hk_symspec.proofs.state.SymAbstract.of_memory.Goals as goal

pub put_names-requires-clause-formula : goal.put_names-requires-clause-formula
put_names-requires-clause-formula g c =
    let P : List NamedTerm → Type 0 = λ l. IsFormula (over_kernel (view_spec c.args.spec.now)) 4294967295 c.args.t.now [] l 16777216 in
    subst P (sym c.new-locals.ensures.items)
    (begun_formula (over_kernel (view_spec c.args.spec.now)) 4294967295 c.args.t.now 16777216 (lit≤ tt) (kernel_has (view_spec c.args.spec.now) c.requires.spec).fields c.objects_are_small-objects.ensures)

pub put_names-requires-clause-sorted : goal.put_names-requires-clause-sorted
put_names-requires-clause-sorted g c =
    let P : List NamedTerm → Type 0 = λ l. AreLocals (formula_context (over_kernel (view_spec c.args.spec.now)) [] l 16777216) (view_locals c.args.spec.now.equation_locals) in
    subst P (sym c.new-locals.ensures.items) c.requires.spec.equation_locals
