use Rattle.std.proofs.Common.{◌≡◌, map, take}
use Rattle.hk_inst.specs.Inputs.{number_in}
use Rattle.hk_inst.specs.ReadNumbers.{numbers_at}
use Rattle.hk_inst.proofs.completion.read_numbers.Given as goal

abbrev pub invariant-loop-t : goal.invariant-loop-t
invariant-loop-t l = l.numbers.items ≡ map (numbers_at l.terms (number_in l.bits l.values)) (take l.t-index l.reads)
