-- K8: each name that an instruction uses is known, among its own kind.
use Rattle.std.specs.Prelude.{ℕ, Bool, true, false, ◌&&◌, if◌then◌else◌, Option, Some, None, is_some, List, flat_map, codes, nat_eq}
use Rattle.std.specs.List.{list_all, starts_with}
use Rattle.ir_ast.specs.Program.{Act, load, call, FunctionView, ModuleView}
use Rattle.ir_type.specs.Names.{entry_of, globals_in}
use Rattle.ir_type.specs.Whole.{is_void}
use Rattle.ir_type.specs.Rows.{values, used, targets, arm_blocks}
use Rattle.ir_typing.specs.Intrinsics.{intrinsic_of}
use Rattle.ir_typing.specs.Registers.{registers_of, block_of, function_of}

-- a declared function that may be called: a listed intrinsic, or another one that is void
abbrev pub may_call_declared : List ℕ → FunctionView → Bool
may_call_declared name f = if starts_with nat_eq name (codes "llvm.") then is_some (intrinsic_of name) else is_void f.result

abbrev pub may_call : List ℕ → Option FunctionView → Bool
may_call name None = false
may_call name (Some f) = if is_some f.body then true else may_call_declared name f

abbrev pub knows_range : ModuleView → Act → Bool
knows_range m (load over target align (Some range)) = is_some (entry_of range m.ranges)
knows_range m _ = true

abbrev pub knows_callee : ModuleView → Act → Bool
knows_callee m (call result callee arguments) = may_call callee (function_of m callee)
knows_callee m _ = true

abbrev pub is_known : ModuleView → FunctionView → Act → Bool
is_known m f act =
    list_all (λ x. is_some (entry_of x (registers_of f))) (used act)
    && list_all (λ x. is_some (entry_of x m.globals)) (flat_map globals_in (values act))
    && list_all (λ x. is_some (block_of f x)) (targets act)
    && list_all (λ x. is_some (block_of f x)) (arm_blocks act)
    && knows_range m act
    && knows_callee m act
