use Rattle.std.proofs.Common.{if◌then◌else◌, sym, ap}
use Rattle.ir_walk.specs.Walk.{on_jump}
use Rattle.hk_symvalue.specs.Meaning.{is_true}
use Rattle.hk_symmem.specs.Guarded.{memory_at}
use Rattle.hk_symexec.specs.Seen.{seen}
use Rattle.hk_symexec.proofs.Following.{tracks_as}
use Rattle.hk_symexec.proofs.Carrying.{carried}
use Rattle.hk_symexec.proofs.leads.goto.Goals as goal

pub returns-clause-tracks : goal.returns-clause-tracks
returns-clause-tracks g c = λ v go e h.
    c.in_ok-made.ensures.tracks v go e
    (tracks_as c.args.setting.now.program.now c.args.setting.now.function (seen c.constant.new.t v c.args.x) (memory_at c.constant.new.t c.args.memory.now v) (λ rs m. on_jump c.args.setting.now.program.now c.args.setting.now.function c.args.edge.from c.args.edge.to rs m)
    (λ rs m. if is_true c.constant.new.t c.in_ok-always.always v then on_jump c.args.setting.now.program.now c.args.setting.now.function c.args.edge.from c.args.edge.to rs m else go rs m) e
    (λ rs on w fine. ap (λ b. if b then on_jump c.args.setting.now.program.now c.args.setting.now.function c.args.edge.from c.args.edge.to rs (memory_at c.constant.new.t c.args.memory.now v) else go rs (memory_at c.constant.new.t c.args.memory.now v)) (sym (c.in_ok-always.ensures.value v)))
    (carried c.args.t.now c.constant.new.t c.in_ok-always.ensures.frame c.args.setting.now.program.now c.args.setting.now.function c.args.memory.now c.requires.over v (λ rs m. on_jump c.args.setting.now.program.now c.args.setting.now.function c.args.edge.from c.args.edge.to rs m) e c.args.x c.requires.state h))
