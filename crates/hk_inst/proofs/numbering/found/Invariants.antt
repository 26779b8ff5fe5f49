use Rattle.std.proofs.Common.{◌≡◌, ℕ, true, take, drop}
use Rattle.std.specs.Prelude.{slice_get, Contains}
use Rattle.hk_blast.specs.Blasted.{HasWord}
use Rattle.hk_inst.specs.States.{kind_of}
use Rattle.hk_inst.proofs.numbering.found.Given as goal

abbrev pub invariant-loop-i : goal.invariant-loop-i
invariant-loop-i l = record {
  are : (t : ℕ) → Contains l.items.items t → (HasWord (take l.i (drop l.start l.bits)) t) × (kind_of l.reads (slice_get l.terms t) ≡ true);
  all : (t : ℕ) → HasWord (take l.i (drop l.start l.bits)) t → kind_of l.reads (slice_get l.terms t) ≡ true → Contains l.items.items t;
}
