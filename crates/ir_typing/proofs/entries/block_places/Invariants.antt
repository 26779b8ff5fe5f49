use Rattle.std.proofs.Common.{◌≤◌, length, map, take}
use Rattle.ir_typing.specs.Places.{AreFirsts}
use Rattle.ir_typing.proofs.entries.block_places.Given as goal

abbrev pub invariant-loop-at : goal.invariant-loop-at
invariant-loop-at l = record {
  places : AreFirsts l.table (map (λ b. b.name) (take l.at l.blocks));
  few : length l.table ≤ l.at;
}
