use Rattle.std.proofs.Common.{List, ap, sym, ◌∙◌, subst, option_map}
use Rattle.std.specs.Prelude.{slice_get, Some}
use Rattle.spec_names.specs.Kernel as plain
use Rattle.spec_kernel.specs.declared.rows.GlobalRow.{GlobalRow}
use Rattle.spec_kernel.specs.Seen.{Seen, shape_in, IsKnown}
use Rattle.spec_kernel.proofs.NameLaws.{global_there}
use Rattle.spec_kernel.proofs.StepLaws.{global_known}
use Rattle.spec_kernel.proofs.names.KernelNames.shape.Goals as goal

pub returns-clause-shape : goal.returns-clause-shape
returns-clause-shape c =
    let there = (ap (λ (rows : List GlobalRow). slice_get rows c.args.global) (sym c.deref.ensures.value) ∙ c.global_at.ensures) in
    ap (option_map (λ (g : plain.Global). g.shape))
    (global_there c.self.inside.shapes c.self.inside.globals.items c.self.inside.functions.items c.args.self.now c.args.global c.global_at.result.now there c.self.view_is)
    ∙ ap (λ (k : Seen). Some (shape_in k c.global_at.result.now.shape)) c.self.view_is

pub returns-clause-known : goal.returns-clause-known
returns-clause-known c =
    let there = (ap (λ (rows : List GlobalRow). slice_get rows c.args.global) (sym c.deref.ensures.value) ∙ c.global_at.ensures) in
    subst (λ (k : Seen). IsKnown k c.global_at.result.now.shape) c.self.view_is
    (global_known c.self.inside.shapes c.self.inside.globals.items c.args.global c.global_at.result.now c.self.invariant.known there)
