-- Numbers that differ, as the code goes over them.
use Rattle.std.specs.Prelude.{ℕ, Bool, true, not, ◌&&◌, ◌||◌, List, [], ◌∷◌, nat_eq}

-- no number of the list was seen before it, or stands twice in it
abbrev pub all_new : (ℕ → Bool) → List ℕ → Bool
all_new seen [] = true
all_new seen (n ∷ ns) = not (seen n) && all_new (λ q. nat_eq n q || seen q) ns
