-- What is left of a text, as the code holds it.
use Rattle.std.specs.Prelude.{ℕ, Option, option_map, List}
use denote.Ref.{Bor}

abbrev pub left_of : Option (Bor (List ℕ)) → Option (List ℕ)
left_of rest = option_map (λ r. r.now) rest
