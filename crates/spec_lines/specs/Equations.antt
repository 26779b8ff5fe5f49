-- The equations of the equivalence function: `state.F == e`, or `ForAll([v, ..], state.F(v, ..) == e)` with distinct variables of the sorts
-- of the field's keys, in any order.
use Rattle.std.specs.Prelude.{ℕ, Bool, true, false, not, ◌&&◌, if◌then◌else◌, nat_eq, Option, Some, None, List, [], ◌∷◌, length, map, bytes_eq, count_by}
use Rattle.std.specs.List.{list_all, list_any}
use Rattle.spec_ast.specs.declared.kind.BinKind.{BinKind}
use Rattle.spec_ast.specs.declared.kind.BinKind.TheVariants.{Eq}
use Rattle.spec_ast.specs.Raw.{Tree, named, read, read_at, binary, all_of, for_all}
use Rattle.spec_ast.specs.Depth.{tree_list}
use Rattle.spec_tree.specs.declared.expr.StateName.TheVariants.{Old}
use Rattle.spec_tree.specs.Plain.{Key}
use Rattle.spec_tree.specs.Sorted.{FieldSort}
use Rattle.spec_names.specs.Kernel.{Name}
use Rattle.spec_scope.specs.declared.meaning.Meaning.{Meaning}
use Rattle.spec_scope.specs.declared.meaning.Meaning.TheVariants.{Variable, State}
use Rattle.spec_scope.specs.Scope.{Scope, meaning, field_place, field_sort, is_among}
use Rattle.spec_scope.specs.Taking.{chain}
use Rattle.spec_lines.specs.Behind.{with_once, reads_state}

-- the names of the quantifier's list; the state, the field and its arguments; the right side
pub record Equation : Type 0 where
  pub variables : List Name
  pub owner : Name
  pub field : Name
  pub arguments : List Tree
  pub right : Tree

abbrev pub left_of : List Name → Tree → Tree → Option Equation
left_of xs (read o f) e = Some (record { variables = xs; owner = o; field = f; arguments = []; right = e })
left_of xs (read_at o f es) e = Some (record { variables = xs; owner = o; field = f; arguments = tree_list es; right = e })
left_of xs _ e = None

abbrev pub equated : List Name → BinKind → Tree → Tree → Option Equation
equated xs Eq a e = left_of xs a e
equated xs _ a e = None

abbrev pub plain_equation : List Name → Tree → Option Equation
plain_equation xs (binary op a e) = equated xs op a e
plain_equation xs _ = None

abbrev pub equation_of : Tree → Option Equation
equation_of (for_all xs a) = plain_equation xs a
equation_of e = plain_equation [] e

abbrev pub conjuncts : Tree → List Tree
conjuncts (all_of es) = tree_list es
conjuncts e = e ∷ []

-- ---- arguments

abbrev pub is_key : Key → Option Meaning → Bool
is_key key (Some (Variable w n)) = nat_eq key.width w && nat_eq key.size n
is_key key _ = false

-- the argument is a variable of the sort of the key
abbrev pub is_argument : Scope → Key → Tree → Bool
is_argument s key (named x) = is_key key (meaning s x)
is_argument s key _ = false

abbrev pub are_no_arguments : List Tree → Bool
are_no_arguments [] = true
are_no_arguments (e ∷ es) = false

-- one for each key
abbrev pub are_arguments : Scope → List Key → List Tree → Bool
are_arguments s [] es = are_no_arguments es
are_arguments s (key ∷ keys) [] = false
are_arguments s (key ∷ keys) (e ∷ es) = is_argument s key e && are_arguments s keys es

abbrev pub is_name : Name → Tree → Bool
is_name x (named y) = bytes_eq x y
is_name x _ = false

abbrev pub are_distinct : List Name → Bool
are_distinct [] = true
are_distinct (x ∷ xs) = not (is_among x xs) && are_distinct xs

-- the arguments are the names of the list, in any order
abbrev pub are_listed : List Name → List Tree → Bool
are_listed xs es = nat_eq (length xs) (length es) && (are_distinct xs && list_all (λ x. list_any (is_name x) es) xs)

abbrev pub has_arguments : Scope → Equation → Option FieldSort → Bool
has_arguments s q None = false
has_arguments s q (Some sort) = are_arguments s sort.keys q.arguments && are_listed q.variables q.arguments

abbrev pub is_old : Option Meaning → Bool
is_old (Some (State Old)) = true
is_old _ = false

-- an equation of its field: the right side reads the kernel alone
abbrev pub is_right : Scope → Equation → Bool
is_right s q = is_old (meaning s q.owner) && (has_arguments s q (field_sort s q.field) && not (reads_state s q.right))

abbrev pub right_one : Scope → Option Equation → Option Equation
right_one s None = None
right_one s (Some q) = if is_right s q then Some q else None

abbrev pub equation_in : Scope → Tree → Option Equation
equation_in s e = right_one s (equation_of e)

abbrev pub with_argument : List Name → Tree → List Name
with_argument b (named x) = with_once b x
with_argument b _ = b

-- these names, and then those of the arguments
abbrev pub arguments_behind : List Name → List Tree → List Name
arguments_behind b [] = b
arguments_behind b (e ∷ es) = arguments_behind (with_argument b e) es

-- the variables of the arguments, in the order of the keys
abbrev pub key_names : Equation → List Name
key_names q = arguments_behind [] q.arguments

-- ---- equations by field

-- the field that a conjunct is an equation of, by its place
abbrev pub equates : Scope → Tree → Option ℕ
equates s e = chain (equation_in s e) (λ q. field_place s q.field)

-- the same of each conjunct
abbrev pub equated_by : Scope → List Tree → List (Option ℕ)
equated_by s es = map (equates s) es

abbrev pub is_place : ℕ → Option ℕ → Bool
is_place p None = false
is_place p (Some q) = nat_eq p q

-- there is exactly one
abbrev pub is_once : Option ℕ → List (Option ℕ) → Bool
is_once None places = false
is_once (Some p) places = nat_eq (count_by (is_place p) places) 1
