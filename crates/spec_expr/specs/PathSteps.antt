-- One step of a path.
use Rattle.std.specs.Prelude.{ℕ, Bool, false, ◌||◌, if◌then◌else◌, Some, None, List, [], ◌∷◌, length, codes, bytes_eq}
use Rattle.spec_ast.specs.Raw.{Tree, path, sized, Step, Steps, element, member}
use Rattle.spec_expr.specs.Words.{Text}
use Rattle.spec_expr.specs.Grown.{Grown, built, too_deep, lift}
use Rattle.spec_expr.specs.Fronts.{name_behind, gone_on}
use Rattle.spec_expr.specs.Reading.{Reader, after, past, one_deeper, leaf, closed_at, number_at, number_comma_at, member_at, steps_at}

abbrev pub begins_step : List Text → Bool
begins_step [] = false
begins_step (t ∷ ts) = bytes_eq t (codes "[") || bytes_eq t (codes ".")

-- the element at this place
abbrev pub grown_element : Grown Tree → Grown Step
grown_element (built e d) = built (element e) d
grown_element too_deep = too_deep

-- `[ e ]` or `. fK`
abbrev pub step_at : Reader (Grown Tree) → Reader (Grown Step)
step_at inner [] = None
step_at inner (t ∷ ts) =
    if bytes_eq t (codes "[") then after (closed_at inner (codes "]") ts) (λ e rest. Some (grown_element e, rest))
    else (if bytes_eq t (codes ".") then after (member_at ts) (λ k rest. Some (built (member k) 0, rest)) else None)

-- the steps behind a name
abbrev pub steps_behind : ℕ → Reader (Grown Tree) → Reader (Grown Steps)
steps_behind most inner ts = gone_on (name_behind ts) (λ us. steps_at most inner (length us) us)

-- the path of a global, whose name these words begin with
abbrev pub path_at : ℕ → Reader (Grown Tree) → Text → Reader (Grown Tree)
path_at most inner global ts = after (steps_behind most inner ts) (λ ss rest. Some (lift most (path global) one_deeper ss, rest))

-- `n , w )`
abbrev pub sized_at : ℕ → Reader (Grown Tree)
sized_at most ts = after (number_comma_at ts) (λ n rest. after (number_at rest) (λ w rest. past (codes ")") rest (λ rest. Some (leaf most (sized n w), rest))))
