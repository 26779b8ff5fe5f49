use Rattle.std.proofs.Common.{◌≡◌, ℕ, map, take}
use Rattle.std.specs.List.{All}
use Rattle.hk_term.specs.Tables.{entry_at}
use Rattle.hk_inst.specs.Inputs.{entry_number}
use Rattle.hk_inst.specs.ReadNumbers.{numbers_at}
use Rattle.hk_inst.specs.Violations.{AgreesWithFirst}
use Rattle.hk_inst.proofs.clash.all_agree.Given as goal

abbrev pub invariant-loop-k : goal.invariant-loop-k
invariant-loop-k l = (f : ℕ → ℕ) → l.numbers ≡ map (numbers_at l.terms f) l.reads → ((array place : ℕ) → entry_at l.arrays array place ≡ entry_number l.terms f l.reads array place) → All (AgreesWithFirst l.terms f l.reads) (take l.k l.reads)
