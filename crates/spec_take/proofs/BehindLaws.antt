-- What is taken from the front to the end is what is taken.
use Rattle.std.proofs.Common.{◌≡◌, ℕ, ◌+◌, Bool, true, false, Option, Some, None, List, [], ◌∷◌, ◌++◌, append_assoc, append-nil, refl, sym, ◌∙◌, ap, arith, rules}
use Rattle.std.specs.Prelude.{option_map, if◌then◌else◌}
use Rattle.spec_ast.specs.Raw.{Trees, no_trees, tree_and, Steps, no_steps, step_and, element, member}
use Rattle.spec_ast.specs.View.{view_exprs, view_expr_list, view_steps, view_step_list}
use Rattle.spec_ast.specs.declared.raw.RawExprs.{RawExprs, out-RawExprs}
use Rattle.spec_ast.specs.declared.raw.RawSteps.{RawSteps, out-RawSteps}
use Rattle.spec_ast.specs.declared.raw.RawExpr.TheFolds.{fold_out-RawExprs, fold_out-RawSteps}
use Rattle.spec_tree.specs.Plain as tree
use Rattle.spec_tree.specs.Plain.{Key}
use Rattle.spec_tree.specs.View.{OneStep, trees_of, steps_of}
use Rattle.spec_names.specs.Kernel.{Name, Shape, Elements, Part, elements_of, part_of, bytes_of}
use Rattle.spec_scope.specs.declared.meaning.Kind.TheVariants.{Truth, Number}
use Rattle.spec_scope.specs.Scope.{Scope, meaning, is_among, own}
use Rattle.spec_scope.specs.Steps.{ahead}
use Rattle.spec_scope.specs.Takes.{index_kind}
use Rattle.spec_scope.specs.Taking.{chain, one, Index, variable_meant, index_at, Led, led_here, led_by, led_in, first_key, no_keys, sizes_of, take, take_truths, take_keys, lead}
use Rattle.spec_take.specs.Behind.{truths_behind, keys_behind, step_of, lead_behind, sizes_behind}

abbrev Bound : Type 0
Bound = List Name

pub list_is : (l : RawExprs) → view_expr_list l ≡ view_exprs (out-RawExprs l).items.items
list_is l = search (rules, fold_out-RawExprs)

pub step_list_is : (l : RawSteps) → view_step_list l ≡ view_steps (out-RawSteps l).items.items
step_list_is l = search (rules, fold_out-RawSteps)

-- ---- truths and keys

ahead_all : (ys : List tree.Tree) → trees_of ys ≡ ahead ys tree.no_trees
ahead_all [] = refl
ahead_all (y ∷ ys) = ap (tree.tree_and y) (ahead_all ys)

ahead_push : (ys : List tree.Tree) (y : tree.Tree) (rest : tree.Trees) → ahead (ys ++ y ∷ []) rest ≡ ahead ys (tree.tree_and y rest)
ahead_push [] y rest = refl
ahead_push (x ∷ ys) y rest = ap (tree.tree_and x) (ahead_push ys y rest)

one_push : (ys : List tree.Tree) (y : tree.Tree) (o : Option tree.Trees) → one (ahead (ys ++ y ∷ [])) o ≡ one (ahead ys) (one (tree.tree_and y) o)
one_push ys y None = refl
one_push ys y (Some rest) = ap Some (ahead_push ys y rest)

one_none : (o : Option tree.Trees) → one (ahead []) o ≡ o
one_none None = refl
one_none (Some rest) = refl

truths_on : (ys : List tree.Tree) (o : Option tree.Tree) (f : tree.Tree → Option tree.Trees) (rest : Option tree.Trees) → ((y : tree.Tree) → f y ≡ one (ahead (ys ++ y ∷ [])) rest)
    → chain o f ≡ one (ahead ys) (chain o (λ y. one (tree.tree_and y) rest))
truths_on ys None f rest h = refl
truths_on ys (Some y) f rest h = h y ∙ one_push ys y rest

truths_from : (s : Scope) (b : Bound) (ys : List tree.Tree) (es : Trees) → truths_behind s b ys es ≡ one (ahead ys) (take_truths s b es)
truths_from s b ys no_trees = ap Some (ahead_all ys)
truths_from s b ys (tree_and e es) =
    truths_on ys (take s b Truth e) (λ y. truths_behind s b (ys ++ y ∷ []) es) (take_truths s b es) (λ y. truths_from s b (ys ++ y ∷ []) es)

pub truths_law : (s : Scope) (b : Bound) (es : Trees) → truths_behind s b [] es ≡ take_truths s b es
truths_law s b es = truths_from s b [] es ∙ one_none (take_truths s b es)

keys_end : (keys : List Key) (ys : List tree.Tree) → no_keys keys (trees_of ys) ≡ one (ahead ys) (no_keys keys tree.no_trees)
keys_end [] ys = ap Some (ahead_all ys)
keys_end (k ∷ keys) ys = refl

keys_on : (ys : List tree.Tree) (k : Option (Key × List Key)) (taken : Key → Option tree.Tree) (f : List Key → tree.Tree → Option tree.Trees) (rest : List Key → Option tree.Trees)
    → ((keys : List Key) (y : tree.Tree) → f keys y ≡ one (ahead (ys ++ y ∷ [])) (rest keys))
    → chain k (λ k. chain (taken k.0) (λ y. f k.1 y)) ≡ one (ahead ys) (chain k (λ k. chain (taken k.0) (λ y. one (tree.tree_and y) (rest k.1))))
keys_on ys None taken f rest h = refl
keys_on ys (Some k) taken f rest h = truths_on ys (taken k.0) (f k.1) (rest k.1) (h k.1)

keys_from : (s : Scope) (b : Bound) (keys : List Key) (ys : List tree.Tree) (es : Trees) → keys_behind s b keys ys es ≡ one (ahead ys) (take_keys s b keys es)
keys_from s b keys ys no_trees = keys_end keys ys
keys_from s b keys ys (tree_and e es) =
    keys_on ys (first_key keys) (λ k. take s b (Number k.width) e) (λ others y. keys_behind s b others (ys ++ y ∷ []) es) (λ others. take_keys s b others es)
    (λ others y. keys_from s b others (ys ++ y ∷ []) es)

pub keys_law : (s : Scope) (b : Bound) (keys : List Key) (es : Trees) → keys_behind s b keys [] es ≡ take_keys s b keys es
keys_law s b keys es = keys_from s b keys [] es ∙ one_none (take_keys s b keys es)

-- ---- paths

steps_ahead : List OneStep → tree.Steps → tree.Steps
steps_ahead [] rest = rest
steps_ahead (p ∷ ps) rest = tree.step_and p.count p.stride p.index (steps_ahead ps rest)

led_behind : ℕ → List OneStep → Led → Led
led_behind base at l = record { base = base + l.base; at = steps_ahead at l.at; size = l.size }

all_ahead : (at : List OneStep) → steps_of at ≡ steps_ahead at tree.no_steps
unfolding steps_ahead
all_ahead [] = refl
all_ahead (p ∷ at) = ap (tree.step_and p.count p.stride p.index) (all_ahead at)

steps_push : (at : List OneStep) (p : OneStep) (rest : tree.Steps) → steps_ahead (at ++ p ∷ []) rest ≡ steps_ahead at (tree.step_and p.count p.stride p.index rest)
unfolding steps_ahead
steps_push [] p rest = refl
steps_push (q ∷ at) p rest = ap (tree.step_and q.count q.stride q.index) (steps_push at p rest)

plus_zero : (n : ℕ) → n ≡ n + 0
plus_zero n = omega arith

led_end : (base : ℕ) (at : List OneStep) (o : Option ℕ)
    → one (λ n. record { base = base; at = steps_of at; size = n }) o ≡ one (led_behind base at) (one led_here o)
unfolding led_behind
led_end base at None = refl
led_end base at (Some n) =
    ap (λ x. Some (record { base = base; at = x; size = n })) (all_ahead at)
    ∙ ap (λ m. Some (record { base = m; at = steps_ahead at tree.no_steps; size = n })) (plus_zero base)

led_push : (base : ℕ) (at : List OneStep) (r : Elements) (y : tree.Tree) (o : Option Led) → one (led_behind base (at ++ step_of r y ∷ [])) o ≡ one (led_behind base at) (one (led_by r y) o)
unfolding led_behind
led_push base at r y None = refl
led_push base at r y (Some l) = ap (λ x. Some (record { base = base + l.base; at = x; size = l.size })) (steps_push at (step_of r y) l.at)

base_assoc : (base offset rest : ℕ) → base + offset + rest ≡ base + (offset + rest)
base_assoc base offset rest = omega arith

led_added : (base offset : ℕ) (at : List OneStep) (o : Option Led) → one (led_behind (base + offset) at) o ≡ one (led_behind base at) (one (led_in offset) o)
unfolding led_behind
led_added base offset at None = refl
led_added base offset at (Some l) = ap (λ n. Some (record { base = n; at = steps_ahead at l.at; size = l.size })) (base_assoc base offset l.base)

element_on : (base : ℕ) (at : List OneStep) (r : Elements) (o : Option tree.Tree) (f : OneStep × Shape → Option Led) (rest : Option Led)
    → ((y : tree.Tree) → f (step_of r y, r.shape) ≡ one (led_behind base (at ++ step_of r y ∷ [])) rest)
    → chain (one (λ y. (step_of r y, r.shape)) o) f ≡ one (led_behind base at) (chain o (λ y. one (led_by r y) rest))
element_on base at r None f rest h = refl
element_on base at r (Some y) f rest h = h y ∙ led_push base at r y rest

elements_on : (base : ℕ) (at : List OneStep) (r : Option Elements) (o : Option tree.Tree) (f : OneStep × Shape → Option Led) (rest : Shape → Option Led)
    → ((r : Elements) (y : tree.Tree) → f (step_of r y, r.shape) ≡ one (led_behind base (at ++ step_of r y ∷ [])) (rest r.shape))
    → chain (chain r (λ r. one (λ y. (step_of r y, r.shape)) o)) f ≡ one (led_behind base at) (chain r (λ r. chain o (λ y. one (led_by r y) (rest r.shape))))
elements_on base at None o f rest h = refl
elements_on base at (Some r) o f rest h = element_on base at r o f (rest r.shape) (h r)

member_on : (base : ℕ) (at : List OneStep) (p : Option Part) (f : ℕ × Shape → Option Led) (rest : Shape → Option Led)
    → ((r : Part) → f (base + r.offset, r.shape) ≡ one (led_behind (base + r.offset) at) (rest r.shape))
    → chain (option_map (λ r. (base + r.offset, r.shape)) p) f ≡ one (led_behind base at) (chain p (λ r. one (led_in r.offset) (rest r.shape)))
member_on base at None f rest h = refl
member_on base at (Some r) f rest h = h r ∙ led_added base r.offset at (rest r.shape)

lead_from : (s : Scope) (b : Bound) (base : ℕ) (at : List OneStep) (steps : Steps) (shape : Shape) → lead_behind s b base at steps shape ≡ one (led_behind base at) (lead s b steps shape)
lead_from s b base at no_steps shape = led_end base at (bytes_of shape)
lead_from s b base at (step_and (element e) steps) shape =
    elements_on base at (elements_of shape) (index_at (index_kind (own s e)) (take s b (index_kind (own s e)) e)) (λ p. lead_behind s b base (at ++ p.0 ∷ []) steps p.1)
    (λ inner. lead s b steps inner) (λ r y. lead_from s b base (at ++ step_of r y ∷ []) steps r.shape)
lead_from s b base at (step_and (member k) steps) shape =
    member_on base at (part_of k shape) (λ p. lead_behind s b p.0 at steps p.1) (λ inner. lead s b steps inner) (λ r. lead_from s b (base + r.offset) at steps r.shape)

led_none : (o : Option Led) → one (led_behind 0 []) o ≡ o
unfolding led_behind steps_ahead
led_none None = refl
led_none (Some l) = ap (λ n. Some (record { base = n; at = l.at; size = l.size })) (plain l.base)
  where
    plain : (n : ℕ) → 0 + n ≡ n
    plain n = omega arith

pub lead_law : (s : Scope) (b : Bound) (steps : Steps) (shape : Shape) → lead_behind s b 0 [] steps shape ≡ lead s b steps shape
lead_law s b steps shape = lead_from s b 0 [] steps shape ∙ led_none (lead s b steps shape)

-- ---- quantifiers

sizes_push : (sizes : List ℕ) (n : ℕ) (o : Option (List ℕ)) → one (λ rest. (sizes ++ n ∷ []) ++ rest) o ≡ one (λ rest. sizes ++ rest) (one (λ rest. n ∷ rest) o)
sizes_push sizes n None = refl
sizes_push sizes n (Some rest) = ap Some (append_assoc sizes (n ∷ []) rest)

sizes_on : (sizes : List ℕ) (v : Option Index) (f : Index → Option (List ℕ)) (rest : Option (List ℕ)) → ((v : Index) → f v ≡ one (λ rest. (sizes ++ v.size ∷ []) ++ rest) rest)
    → chain v f ≡ one (λ rest. sizes ++ rest) (chain v (λ v. one (λ rest. v.size ∷ rest) rest))
sizes_on sizes None f rest h = refl
sizes_on sizes (Some v) f rest h = h v ∙ sizes_push sizes v.size rest

sizes_if : (c : Bool) (sizes : List ℕ) (o p : Option (List ℕ)) → o ≡ one (λ rest. sizes ++ rest) p → (if c then None else o) ≡ one (λ rest. sizes ++ rest) (if c then None else p)
sizes_if true sizes o p h = refl
sizes_if false sizes o p h = h

sizes_from : (s : Scope) (b : Bound) (sizes : List ℕ) (xs : List Name) → sizes_behind s b sizes xs ≡ one (λ rest. sizes ++ rest) (sizes_of s b xs)
sizes_from s b sizes [] = ap Some (sym (append-nil sizes))
sizes_from s b sizes (x ∷ xs) =
    sizes_if (is_among x b) sizes (chain (variable_meant (meaning s x)) (λ v. sizes_behind s (b ++ x ∷ []) (sizes ++ v.size ∷ []) xs))
    (chain (variable_meant (meaning s x)) (λ v. one (λ rest. v.size ∷ rest) (sizes_of s (b ++ x ∷ []) xs)))
    (sizes_on sizes (variable_meant (meaning s x)) (λ v. sizes_behind s (b ++ x ∷ []) (sizes ++ v.size ∷ []) xs) (sizes_of s (b ++ x ∷ []) xs)
    (λ v. sizes_from s (b ++ x ∷ []) (sizes ++ v.size ∷ []) xs))

no_sizes : (o : Option (List ℕ)) → one (λ rest. [] ++ rest) o ≡ o
no_sizes None = refl
no_sizes (Some rest) = refl

pub sizes_law : (s : Scope) (b : Bound) (xs : List Name) → sizes_behind s b [] xs ≡ sizes_of s b xs
sizes_law s b xs = sizes_from s b [] xs ∙ no_sizes (sizes_of s b xs)
