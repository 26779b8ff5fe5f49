use Rattle.std.proofs.Common.{◌≡◌, drop}
use Rattle.std.specs.List.{list_all}
use Rattle.ir_check.specs.Tallies.{agrees_at}
use Rattle.ir_check.proofs.tally.agree_on.Given as goal

abbrev pub invariant-each : goal.invariant-each
invariant-each l = list_all (agrees_at l.a l.b) (drop l.place-index l.places) ≡ list_all (agrees_at l.a l.b) l.places
