use Rattle.ir_layout.proofs.Roots.{names_more}
use Rattle.ir_layout.proofs.fields.names_with.Goals as goal

pub loop-place-preserved : goal.loop-place-preserved
loop-place-preserved c =
    names_more c.args.types.now c.args.roots.now c.loop-place.place c.name_at.result.now c.in_ok-name.name c.root_at.result c.loop-place.names c.add.new.self _ c.name_at.ensures c.in_ok-name.ensures c.root_at.ensures
    c.in-Ok.ensures.added c.loop-place.invariant
