use Rattle.std.proofs.Common.{◌+◌, ◌*◌, drop, take}
use Rattle.ir_walk.specs.Walk.{walk}
use Rattle.hk_symexec.specs.Tracks.{order_in}
use Rattle.hk_symexec.proofs.Running.{Stepping, Touring}
use Rattle.hk_symexec.proofs.run.+running.Given as goal

abbrev pub decreases-run_function : goal.decreases-run_function
decreases-run_function g l = 10 * l.setting.now.depth

abbrev pub decreases-run_blocks : goal.decreases-run_blocks
decreases-run_blocks g l = 10 * l.setting.now.depth + 8

abbrev pub decreases-visit_all : goal.decreases-visit_all
decreases-visit_all g l = 10 * l.setting.now.depth + 7

abbrev pub decreases-visit : goal.decreases-visit
decreases-visit g l = 10 * l.setting.now.depth + 6

abbrev pub decreases-visit_inside : goal.decreases-visit_inside
decreases-visit_inside g l = 10 * l.setting.now.depth + 5

abbrev pub decreases-run_steps : goal.decreases-run_steps
decreases-run_steps g l = 10 * l.setting.now.depth + 4

abbrev pub decreases-act : goal.decreases-act
decreases-act g l = 10 * l.setting.now.depth + 3

abbrev pub decreases-call : goal.decreases-call
decreases-call g l = 10 * l.setting.now.depth + 2

abbrev pub decreases-call_code : goal.decreases-call_code
decreases-call_code g l = 10 * l.setting.now.depth + 1

abbrev pub invariant-run_steps-loop-step : goal.invariant-run_steps-loop-step
invariant-run_steps-loop-step g l =
    Stepping (walk l.fn.setting.program.now (order_in l.fn.setting.orders.now) l.fn.setting.depth) l.fn.setting.program.now l.fn.setting.function l.fn.block l.fn.t l.t l.fn.memory l.memory l.fn.x l.state l.fn.steps (drop l.step-index l.fn.steps)

abbrev pub invariant-visit_all-loop-block : goal.invariant-visit_all-loop-block
invariant-visit_all-loop-block g l =
    Touring (walk l.fn.setting.program.now (order_in l.fn.setting.orders.now) l.fn.setting.depth) l.fn.setting.program.now l.fn.setting.function l.fn.t l.t l.fn.memory l.memory l.fn.x l.state (take l.block-index l.fn.order)
