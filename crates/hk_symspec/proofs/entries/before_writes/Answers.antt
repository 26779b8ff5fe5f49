use Rattle.std.proofs.Common.{◌≡◌, ◌∙◌, Option, Some, ap, sym, subst}
use Rattle.hk_term.specs.Meaning.{value}
use Rattle.hk_symmem.specs.Guarded.{MemoryView}
use Rattle.spec_tree.specs.Sorted.{field_sorts}
use Rattle.spec_tree.specs.View.{view_spec}
use Rattle.hk_symexpr.specs.Naming.{index_values}
use Rattle.hk_symspec.specs.States.{base_at}
use Rattle.hk_symspec.specs.Standing.{IsSteadyMemory, entry_base}
use Rattle.hk_symspec.specs.Ranges.{IsEntry}
use Rattle.hk_symspec.proofs.entries.before_writes.Goals as goal

pub returns-in_ok-made-in-Some-clause-value : goal.returns-in_ok-made-in-Some-clause-value
returns-in_ok-made-in-Some-clause-value g c = λ v limited steady still.
    let e : c.args.state.now.memory ≡ Some c.in-Some.memory = ap (λ a. a.memory) (sym c.state.view_is) ∙ c.in-Some.is in
    let P : Option MemoryView → Type 0 = λ m. IsEntry (field_sorts (view_spec c.args.spec.now)) c.args.field (index_values c.args.t.now c.args.index.now v)
    (base_at (view_spec c.args.spec.now) c.args.t.now m c.args.state.now.first v) (value c.equation_entry.new.t c.in_ok-made-in-Some.made v) in
    let Q : Option MemoryView → Type 0 = λ m. IsSteadyMemory entry_base c.args.t.now m v in
    subst P (sym e) (c.in_ok-made-in-Some.ensures.value v limited steady (subst Q e still))
