use Rattle.std.proofs.Common.{List, ap, sym, ◌∙◌, option_map}
use Rattle.std.specs.Prelude.{slice_get}
use Rattle.spec_names.specs.Kernel as plain
use Rattle.spec_kernel.specs.declared.rows.GlobalRow.{GlobalRow}
use Rattle.spec_kernel.proofs.NameLaws.{global_there}
use Rattle.spec_kernel.proofs.names.KernelNames.size.Goals as goal

pub returns : goal.returns
returns c =
    let there = (ap (λ (rows : List GlobalRow). slice_get rows c.args.global) (sym c.deref.ensures.value) ∙ c.global_at.ensures) in
    ap (option_map (λ (g : plain.Global). g.size))
    (global_there c.self.inside.shapes c.self.inside.globals.items c.self.inside.functions.items c.args.self.now c.args.global c.global_at.result.now there c.self.view_is)
