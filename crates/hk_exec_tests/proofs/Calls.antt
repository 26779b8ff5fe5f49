-- Calls with as many arguments.
use Rattle.std.proofs.Common.{◌≡◌, ℕ, List, length, ◌∙◌}
use Rattle.ir_ast.specs.Program.{ModuleView}
use Rattle.ir_kernel.specs.Runs.{CanCall}

pub same_call : (m : ModuleView) (function : ℕ) (numbers terms : List ℕ) → CanCall m function numbers → length terms ≡ length numbers → CanCall m function terms
same_call m function numbers terms (name, called, call) e = (name, called, record { there = call.there; body = call.body; as_many = e ∙ call.as_many })
