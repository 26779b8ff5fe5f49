-- What is taken behind what was taken before, from the front to the end.
use Rattle.std.specs.Prelude.{ℕ, ◌+◌, Option, Some, None, option_map, List, [], ◌∷◌, ◌++◌, if◌then◌else◌}
use Rattle.spec_ast.specs.Raw.{Tree, Trees, no_trees, tree_and, Steps, no_steps, step_and, element, member}
use Rattle.spec_tree.specs.Plain as tree
use Rattle.spec_tree.specs.Plain.{Key}
use Rattle.spec_tree.specs.View.{OneStep, trees_of, steps_of}
use Rattle.spec_names.specs.Kernel.{Name, Shape, Elements, elements_of, part_of, bytes_of}
use Rattle.spec_scope.specs.declared.meaning.Kind.{Kind}
use Rattle.spec_scope.specs.declared.meaning.Kind.TheVariants.{Truth, Number}
use Rattle.spec_scope.specs.Scope.{Scope, meaning, is_among, own}
use Rattle.spec_scope.specs.Takes.{index_kind}
use Rattle.spec_scope.specs.Taking.{chain, one, variable_meant, index_at, given_at, ReadOf, Led, first_key, no_keys, sizes_of, take}

abbrev pub truths_behind : Scope → List Name → List tree.Tree → Trees → Option tree.Trees
truths_behind s b ys no_trees = Some (trees_of ys)
truths_behind s b ys (tree_and e es) = chain (take s b Truth e) (λ y. truths_behind s b (ys ++ y ∷ []) es)

-- a width, and the keys behind it
abbrev pub width_then : ℕ → List Key → ℕ × List Key
width_then width others = (width, others)

abbrev pub keys_behind : Scope → List Name → List Key → List tree.Tree → Trees → Option tree.Trees
keys_behind s b keys ys no_trees = no_keys keys (trees_of ys)
keys_behind s b keys ys (tree_and e es) =
    chain (first_key keys) (λ k. chain (take s b (Number k.0.width) e) (λ y. keys_behind s b k.1 (ys ++ y ∷ []) es))

-- a read of a field without keys
abbrev pub scalar_of : Kind → ReadOf → Option tree.Tree
scalar_of kind r = chain (no_keys r.sort.keys r) (λ q. given_at kind (Number r.sort.width) (tree.entry r.which r.place tree.no_trees))

-- ---- paths

-- elements of an array, and the index among them
abbrev pub step_of : Elements → tree.Tree → OneStep
step_of r y = record { count = r.count; stride = r.stride; index = y }

-- the step to an element, and the element's shape
abbrev pub element_taken : Scope → List Name → Tree → Shape → Option (OneStep × Shape)
element_taken s b e shape =
    chain (elements_of shape) (λ r. one (λ y. (step_of r y, r.shape)) (index_at (index_kind (own s e)) (take s b (index_kind (own s e)) e)))

-- the base behind a step to a field, and the field's shape
abbrev pub member_taken : ℕ → ℕ → Shape → Option (ℕ × Shape)
member_taken base k shape = option_map (λ r. (base + r.offset, r.shape)) (part_of k shape)

abbrev pub lead_behind : Scope → List Name → ℕ → List OneStep → Steps → Shape → Option Led
lead_behind s b base at no_steps shape = one (λ n. record { base = base; at = steps_of at; size = n }) (bytes_of shape)
lead_behind s b base at (step_and (element e) steps) shape = chain (element_taken s b e shape) (λ p. lead_behind s b base (at ++ p.0 ∷ []) steps p.1)
lead_behind s b base at (step_and (member k) steps) shape = chain (member_taken base k shape) (λ p. lead_behind s b p.0 at steps p.1)

-- ---- quantifiers

-- the sizes of a quantifier's variables
abbrev pub sizes_behind : Scope → List Name → List ℕ → List Name → Option (List ℕ)
sizes_behind s b sizes [] = Some sizes
sizes_behind s b sizes (x ∷ xs) =
    if is_among x b then None else chain (variable_meant (meaning s x)) (λ v. sizes_behind s (b ++ x ∷ []) (sizes ++ v.size ∷ []) xs)

-- the sizes, and what is taken under the variables
abbrev pub quantified : Scope → List Name → List Name → Tree → Option (List ℕ × tree.Tree)
quantified s b xs a = chain (sizes_of s b xs) (λ sizes. one (λ y. (sizes, y)) (take s (b ++ xs) Truth a))
