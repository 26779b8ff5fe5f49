-- Trees that are built only up to a depth: one over it is not kept.
use Rattle.std.specs.Prelude.{ℕ, if◌then◌else◌, nat_le}
use Rattle.spec_ast.specs.Raw.{Tree, Trees, Steps}
use Rattle.spec_ast.specs.Depth.{depth, depths, step_depths}

pub data Grown (A : Type 0) : Type 0 where
  built : A → ℕ → Grown A  -- with its depth
  too_deep : Grown A

abbrev pub bounded : {A : Type 0} → ℕ → A → ℕ → Grown A
bounded most a d = if nat_le d most then built a d else too_deep

-- of one part: the whole, and its depth from that of the part
abbrev pub lift : {A B : Type 0} → ℕ → (A → B) → (ℕ → ℕ) → Grown A → Grown B
lift most f deeper (built a m) = bounded most (f a) (deeper m)
lift most f deeper too_deep = too_deep

-- of two parts
abbrev pub join : {A B C : Type 0} → ℕ → (A → B → C) → (ℕ → ℕ → ℕ) → Grown A → Grown B → Grown C
join most f deeper (built a m) (built b n) = bounded most (f a b) (deeper m n)
join most f deeper (built a m) too_deep = too_deep
join most f deeper too_deep b = too_deep

abbrev pub limited : ℕ → Tree → Grown Tree
limited most e = bounded most e (depth e)

abbrev pub limited_list : ℕ → Trees → Grown Trees
limited_list most es = bounded most es (depths es)

abbrev pub limited_steps : ℕ → Steps → Grown Steps
limited_steps most ss = bounded most ss (step_depths ss)
