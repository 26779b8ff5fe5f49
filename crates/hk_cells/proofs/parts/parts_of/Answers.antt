use Rattle.std.proofs.Common.{◌++◌, ◌∷◌, [], ap, ◌∙◌}
use Rattle.hk_cells.specs.Parts.{parts_by}
use Rattle.hk_cells.proofs.PartLaws.{one_more}
use Rattle.hk_cells.proofs.parts.parts_of.Goals as goal

pub loop-object-init : goal.loop-object-init
loop-object-init c = ap (λ ps. ps ++ parts_by c.args.layout.now.objects c.args.cells.now) c.new-parts.ensures.items

pub loop-object-preserved : goal.loop-object-preserved
loop-object-preserved c =
    one_more c.args.layout.now.objects c.args.cells.now c.loop-object.object c.is_constant-constant.result c.object_size-size.result c.cell_at-cell.result c.loop-object.parts.items c.push.new.self.items _
    c.is_constant-constant.ensures.kept c.object_size-size.ensures.kept c.cell_at-cell.ensures (c.in_ok-push.ensures.items ∙ ap (λ p. c.loop-object.parts.items ++ p ∷ []) c.part_of.ensures) c.loop-object.invariant
