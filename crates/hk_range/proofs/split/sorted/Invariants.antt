use Rattle.std.proofs.Common.{◌≡◌, ℕ, ◌+◌, ◌*◌, take}
use Rattle.hk_range.specs.Linear.{left_items, right_items, ItemsThere}
use Rattle.hk_range.proofs.split.sorted.Given as goal

abbrev pub invariant-loop-item : goal.invariant-loop-item
invariant-loop-item l = record {
  there : (size : ℕ) → ItemsThere size l.items → (ItemsThere size l.into.upper.items) × (ItemsThere size l.into.lower.items);
  left : (f : ℕ → ℕ) → left_items f (take l.item-index l.items) ≡ l.c * left_items f l.into.upper.items + left_items f l.into.lower.items;
  right : (f : ℕ → ℕ) → right_items f (take l.item-index l.items) ≡ l.c * right_items f l.into.upper.items + right_items f l.into.lower.items;
}
