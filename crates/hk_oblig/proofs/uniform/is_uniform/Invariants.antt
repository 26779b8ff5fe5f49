use Rattle.std.proofs.Common.{true}
use Rattle.hk_oblig.specs.Uniform.{Goes}
use Rattle.hk_oblig.proofs.uniform.is_uniform.Given as goal

abbrev pub invariant-each : goal.invariant-each
invariant-each l = Goes l.terms l.place l.variables l.arrays true
