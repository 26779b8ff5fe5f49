use Rattle.std.proofs.Common.{◌≡◌, ℕ, None, length}
use Rattle.hk_symstep.specs.Files.{place_at}
use Rattle.hk_symstep.proofs.file.SymFile.new.Given as goal

abbrev pub invariant-loop : goal.invariant-loop
invariant-loop l = record {
  size : length l.places.items ≡ l.counter;
  unset : (k : ℕ) → place_at l.places.items k ≡ None;
}
