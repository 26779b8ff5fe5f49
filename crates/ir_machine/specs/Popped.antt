-- The latest element is taken off a list.
use Rattle.std.specs.Prelude.{◌≡◌, Option, Some, None, List, [], ◌∷◌}

abbrev pub popped : {T : Type 0} → Option T → List T → List T → Type 0
popped None new old = (old ≡ []) × (new ≡ [])
popped (Some x) new old = old ≡ x ∷ new
