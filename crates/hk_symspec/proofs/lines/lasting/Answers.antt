use Rattle.spec_tree.specs.View.{view_spec}
use Rattle.hk_symspec.proofs.LineLaws.{point_kept, reads_kept}
use Rattle.hk_symspec.proofs.lines.lasting.Goals as goal

pub returns-clause-point : goal.returns-clause-point
returns-clause-point g c = λ new k.
    point_kept (view_spec c.args.setting.now.spec.now) c.args.t.now new c.args.setting.now.state.now c.args.setting.now.args.now c.args.setting.now.known.now c.args.locals.now c.args.writes.now c.requires.point k

pub returns-clause-reads : goal.returns-clause-reads
returns-clause-reads g c = λ new k v env h.
    reads_kept (view_spec c.args.setting.now.spec.now) c.args.t.now new c.args.setting.now.state.now c.args.setting.now.args.now c.args.setting.now.known.now c.args.locals.now c.args.writes.now c.requires.point k v env h
