use Rattle.std.proofs.Common.{◌<◌, [], arith}
use Rattle.std.specs.Prelude.{All}
use Rattle.std.proofs.lemmas.List.Elements.{All-from_get_or}
use Rattle.ir_spelled.proofs.running.hold_bytes.Goals as goal

pub returns : goal.returns
returns c = All-from_get_or (λ o. All (λ b. b < 256) o) c.args.memory.now [] (λ i low. c.each.invariant i (omega (arith, low, c.each-test.false, c.requires)))
