-- How the order of decisions is kept.
use Rattle.std.specs.Prelude.{◌≡◌, ℕ, ◌<◌, List, length}
use Rattle.std.specs.List.{All}
use Rattle.hk_cdcl.specs.declared.order.Order.TheInside.{Inside}

-- the variables are so many at most
abbrev pub AreBelow : ℕ → List ℕ → Type 0
AreBelow vars heap = All (λ v. v < vars) heap

pub record IsOrder (o : Inside) : Type 0 where
  pub below : AreBelow (length o.places.items) o.heap.items
  pub places : length o.places.items ≡ length o.activities.items
  pub phases : length o.phases.items ≡ length o.activities.items
