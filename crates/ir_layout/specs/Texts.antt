-- Whether a layout text has a component that this project leaves out, byte by byte.
use Rattle.std.specs.Prelude.{ℕ, ◌==◌, Bool, false, ◌&&◌, ◌||◌, not, List, [], ◌∷◌, take_while}
use Rattle.ir_layout.specs.Rules.{is_bad_component}

abbrev pub is_no_dash : ℕ → Bool
is_no_dash b = not (b == 45)

-- such a component begins here
abbrev pub is_bad_here : List ℕ → Bool
is_bad_here bs = is_bad_component (take_while is_no_dash bs)

-- or behind one of these bytes
abbrev pub is_bad_behind : List ℕ → Bool
is_bad_behind [] = false
is_bad_behind (b ∷ bs) = ((b == 45) && is_bad_here bs) || is_bad_behind bs

abbrev pub has_bad_component : List ℕ → Bool
has_bad_component bs = is_bad_here bs || is_bad_behind bs
