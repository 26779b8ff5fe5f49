use Rattle.std.proofs.Common.{◌≡◌, ◌<◌, ◌≤◌, ◌^◌, length, drop, ◌-◌}
use Rattle.hk_blast.specs.Blasted.{word_number}
use Rattle.hk_inst.proofs.completion.number.Given as goal

abbrev pub decreases-loop-i : goal.decreases-loop-i
decreases-loop-i l = l.i

abbrev pub invariant-loop-i : goal.invariant-loop-i
invariant-loop-i l = record {
  inside : l.i ≤ length l.word;
  is : l.number ≡ word_number l.values (drop l.i l.word);
  below : l.number < 2 ^ (length l.word - l.i);
}
