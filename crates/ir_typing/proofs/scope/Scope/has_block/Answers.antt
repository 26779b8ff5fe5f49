use Rattle.std.proofs.Common.{is_some, ap, ◌∙◌}
use Rattle.ir_typing.specs.Scoped.{function_in}
use Rattle.ir_typing.proofs.Entered.{known_block}
use Rattle.ir_typing.proofs.scope.Scope.has_block.Goals as goal

pub returns : goal.returns
returns c = let h = c.is_some.ensures in c.is_some.ensures ∙ ap is_some c.block.ensures ∙ known_block (function_in c.args.self.now) c.args.name.now
