-- Modules whose places fit 32 bits.
use Rattle.std.specs.Prelude.{◌<◌, ◌^◌, length}
use Rattle.ir_ast.specs.declared.module.Module.{Module}

-- no table of the module has 2^32 entries or more
pub record IsSmall (m : Module) : Type 0 where
  pub types : length m.types < 2 ^ 32
  pub globals : length m.globals < 2 ^ 32
  pub functions : length m.functions < 2 ^ 32
  pub ranges : length m.ranges < 2 ^ 32
