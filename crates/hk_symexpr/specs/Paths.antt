-- Where the steps of a path lead, by the numbers of their indices.
use Rattle.std.specs.Prelude.{◌≡◌, ℕ, ◌+◌, ◌*◌, ◌%◌, ◌^◌, ◌<◌, ◌&&◌, Bool, Option, Some, None, if◌then◌else◌, nat_lt, List, [], ◌∷◌, length}
use Rattle.hk_term.specs.declared.node.Node.{Node}
use Rattle.spec_tree.specs.Plain.{Tree, path, Steps, no_steps, step_and}
use Rattle.spec_tree.specs.View.{Place}
use Rattle.hk_symexpr.specs.declared.names.Limit.{Limit}

-- one index of the list for each step
abbrev pub AreIndexed : List Node → Steps → List Limit → Type 0
AreIndexed nodes no_steps index = index ≡ []
AreIndexed nodes (step_and count stride e steps) [] = ⊥
AreIndexed nodes (step_and count stride e steps) (i ∷ is) = (i.term < length nodes) × AreIndexed nodes steps is

-- the place, modulo 2 to 64, to which steps lead from one; none where an index is not below its count
abbrev pub led : Bool → ℕ → Steps → List ℕ → Option ℕ
led inside at no_steps is = if inside then Some at else None
led inside at (step_and count stride e steps) [] = None
led inside at (step_and count stride e steps) (i ∷ is) = led (inside && nat_lt i count) ((at + i * stride % 2 ^ 64) % 2 ^ 64) steps is

-- the number at a place of the kernel's memory
abbrev pub path_tree : Place → Tree
path_tree p = path p.object p.base p.steps p.bytes
