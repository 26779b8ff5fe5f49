use Rattle.std.proofs.Common.{ap, subst, sym, ◌∙◌}
use Rattle.std.specs.Prelude.{map}
use Rattle.hk_symmem.specs.declared.row.Row.{Row}
use Rattle.hk_symmem.specs.Rows.{AreRows}
use Rattle.hk_symmem.proofs.RowLaws.{rows_same}
use Rattle.hk_symmem.proofs.memory.SymMemory.copy.Goals as goal

pub invariant_of-result : goal.invariant_of-result
invariant_of-result g c =
    subst (λ xs. AreRows xs c.in_ok-rows.rows.items) (sym c.in_ok-reads.ensures)
    (rows_same _ c.self.inside.rows.items c.in_ok-rows.rows.items c.self.invariant (c.in_ok-rows.ensures.sizes ∙ ap (map (λ (r : Row). r.size)) c.deref.ensures.value)
    (c.in_ok-rows.ensures.writes ∙ ap (map (λ (r : Row). r.writes.items)) c.deref.ensures.value))
