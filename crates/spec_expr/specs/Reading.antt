-- How expressions are read: a tree of the words at the front, built up to a depth, and the words behind it. Operators of one looseness are
-- read in a chain over operands that bind more tightly; only brackets lead back to whole expressions.
use Rattle.std.specs.Prelude.{ℕ, zero, suc, ◌+◌, max, Bool, true, false, not, ◌&&◌, ◌||◌, if◌then◌else◌, ◌==◌, Option, Some, None, List, [], ◌∷◌, length, codes, bytes_eq}
use Rattle.spec_ast.specs.declared.kind.UnKind.TheVariants.{Minus, Complement, Not}
use Rattle.spec_ast.specs.declared.kind.BinKind.{BinKind}
use Rattle.spec_ast.specs.declared.kind.BinKind.TheVariants.{Mul, Add, Sub, Shl, Ashr, Lshr, BitAnd, BitXor, BitOr, Udiv, Urem, Eq, Ne, Slt, Sle, Sgt, Sge, Ult, Ule, Ugt, Uge, Implies}
use Rattle.spec_ast.specs.declared.raw.RawResize.TheVariants.{ZeroExt, SignExt, Extract}
use Rattle.spec_ast.specs.Raw.{Tree, literal, truth, named, read, read_at, path, unary, binary, all_of, any_of, choose, resize, sized, for_all, exists, Trees, no_trees, tree_and, element, member, Steps, no_steps, step_and}
use Rattle.spec_expr.specs.Words.{Text, is_name, number_of, member_of}
use Rattle.spec_expr.specs.Spelling.{form_of, form_looseness, Head, negation, resized, each_of, some_of}
use Rattle.spec_expr.specs.Grown.{Grown, bounded, lift, join}

abbrev pub Reader : Type 0 → Type 0
Reader A = List Text → Option (A × List Text)

-- what is read and what stands behind it are gone on with
abbrev pub after : {A B : Type 0} → Option (A × List Text) → (A → List Text → Option (B × List Text)) → Option (B × List Text)
after None on = None
after (Some got) on = on got.0 got.1

-- behind this word
abbrev pub past : {B : Type 0} → Text → List Text → (List Text → Option B) → Option B
past word [] on = None
past word (t ∷ ts) on = if bytes_eq t word then on ts else None

abbrev pub lookup : {V : Type 0} → Text → List (Text × V) → Option V
lookup t [] = None
lookup t (e ∷ es) = if bytes_eq t e.0 then Some e.1 else lookup t es

abbrev pub operators : List (Text × BinKind)
operators =
    (codes "*", Mul) ∷ (codes "+", Add) ∷ (codes "-", Sub) ∷ (codes "<<", Shl) ∷ (codes ">>", Ashr) ∷ (codes "&", BitAnd) ∷ (codes "^", BitXor) ∷ (codes "|", BitOr)
    ∷ (codes "==", Eq) ∷ (codes "!=", Ne) ∷ (codes "<", Slt) ∷ (codes "<=", Sle) ∷ (codes ">", Sgt) ∷ (codes ">=", Sge) ∷ []

abbrev pub if_as_loose : ℕ → Option BinKind → Option BinKind
if_as_loose loose None = None
if_as_loose loose (Some kind) = if form_looseness (form_of kind) == loose then Some kind else None

-- the operator of a mark, if it binds just so loosely
unfoldable pub operator_at : ℕ → Text → Option BinKind
operator_at loose t = if_as_loose loose (lookup t operators)

-- the head that a call has before its one argument
pub data HeadKind : Type 0 where
  negated : HeadKind
  widened : HeadKind
  sign_widened : HeadKind
  cut : HeadKind
  every : HeadKind
  any : HeadKind

pub data CallKind : Type 0 where
  conjunction : CallKind
  disjunction : CallKind
  pair : BinKind → CallKind
  choice : CallKind
  fixed : CallKind
  headed : HeadKind → CallKind

abbrev pub calls : List (Text × CallKind)
calls =
    (codes "And", conjunction) ∷ (codes "Or", disjunction) ∷ (codes "Not", headed negated) ∷ (codes "Implies", pair Implies) ∷ (codes "If", choice)
    ∷ (codes "ULT", pair Ult) ∷ (codes "ULE", pair Ule) ∷ (codes "UGT", pair Ugt) ∷ (codes "UGE", pair Uge) ∷ (codes "LShR", pair Lshr)
    ∷ (codes "UDiv", pair Udiv) ∷ (codes "URem", pair Urem) ∷ (codes "ZeroExt", headed widened) ∷ (codes "SignExt", headed sign_widened)
    ∷ (codes "Extract", headed cut) ∷ (codes "BitVecVal", fixed) ∷ (codes "ForAll", headed every) ∷ (codes "Exists", headed any) ∷ []

unfoldable pub call_of : Text → Option CallKind
call_of word = lookup word calls

abbrev pub with_rest : {A : Type 0} → Option A → List Text → Option (A × List Text)
with_rest None ts = None
with_rest (Some a) ts = Some (a, ts)

abbrev pub number_at : Reader ℕ
number_at [] = None
number_at (t ∷ ts) = with_rest (number_of t) ts

abbrev pub number_comma_at : Reader ℕ
number_comma_at ts = after (number_at ts) (λ n rest. past (codes ",") rest (λ rest. Some (n, rest)))

abbrev pub member_at : Reader ℕ
member_at [] = None
member_at (t ∷ ts) = with_rest (member_of t) ts

abbrev pub name_at : Reader Text
name_at [] = None
name_at (t ∷ ts) = if is_name t then Some (t, ts) else None

-- names with a comma before each, up to the bracket; at most so many
abbrev pub more_names_at : ℕ → Reader (List Text)
more_names_at zero ts = None
more_names_at (suc m) [] = None
more_names_at (suc m) (t ∷ ts) =
    if bytes_eq t (codes "]") then Some ([], ts)
    else (if bytes_eq t (codes ",") then after (name_at ts) (λ x rest. after (more_names_at m rest) (λ xs rest. Some (x ∷ xs, rest))) else None)

abbrev pub names_at : Reader (List Text)
names_at ts = after (name_at ts) (λ x rest. after (more_names_at (length rest) rest) (λ xs rest. Some (x ∷ xs, rest)))

abbrev pub bound_at : Reader (List Text)
bound_at ts = past (codes "[") ts (λ rest. after (names_at rest) (λ xs rest. past (codes ",") rest (λ rest. Some (xs, rest))))

abbrev pub head_at : HeadKind → Reader Head
head_at negated ts = Some (negation, ts)
head_at widened ts = after (number_comma_at ts) (λ n rest. Some (resized (ZeroExt n), rest))
head_at sign_widened ts = after (number_comma_at ts) (λ n rest. Some (resized (SignExt n), rest))
head_at cut ts = after (number_comma_at ts) (λ high rest. after (number_comma_at rest) (λ low rest. Some (resized (Extract high low), rest)))
head_at every ts = after (bound_at ts) (λ xs rest. Some (each_of xs, rest))
head_at any ts = after (bound_at ts) (λ xs rest. Some (some_of xs, rest))

abbrev pub headed_tree : Head → Tree → Tree
headed_tree negation a = unary Not a
headed_tree (resized kind) a = resize kind a
headed_tree (each_of xs) a = for_all xs a
headed_tree (some_of xs) a = exists xs a

-- one more than the depth of the part, or of the deeper part
abbrev pub one_deeper : ℕ → ℕ
one_deeper m = 1 + m

abbrev pub both_deeper : ℕ → ℕ → ℕ
both_deeper m n = 1 + max m n

abbrev pub grown_binary : ℕ → BinKind → Grown Tree → Grown Tree → Grown Tree
grown_binary most kind a b = join most (binary kind) both_deeper a b

abbrev pub grown_choice : ℕ → Grown Tree → Grown Tree → Grown Tree → Grown Tree
grown_choice most c a b = join most (λ (x : Tree) (xs : Tree × Tree). choose x xs.0 xs.1) both_deeper c (join most (λ x y. (x, y)) max a b)

abbrev pub grown_and : ℕ → Grown Tree → Grown Trees → Grown Trees
grown_and most e es = join most tree_and max e es

abbrev pub leaf : ℕ → Tree → Grown Tree
leaf most e = bounded most e 1

-- an expression and a mark
abbrev pub closed_at : Reader (Grown Tree) → Text → Reader (Grown Tree)
closed_at inner close ts = after (inner ts) (λ e rest. past close rest (λ rest. Some (e, rest)))

-- expressions with a comma before each, up to the bracket; at most so many
abbrev pub more_at : ℕ → Reader (Grown Tree) → Text → ℕ → Reader (Grown Trees)
more_at most inner close zero ts = None
more_at most inner close (suc m) [] = None
more_at most inner close (suc m) (t ∷ ts) =
    if bytes_eq t close then Some (bounded most no_trees 0, ts)
    else (if bytes_eq t (codes ",") then after (inner ts) (λ e rest. after (more_at most inner close m rest) (λ es rest. Some (grown_and most e es, rest))) else None)

abbrev pub arguments_at : ℕ → Reader (Grown Tree) → Text → Reader (Grown Trees)
arguments_at most inner close ts = after (inner ts) (λ e rest. after (more_at most inner close (length rest) rest) (λ es rest. Some (grown_and most e es, rest)))

-- the steps of a path, at most so many
abbrev pub steps_at : ℕ → Reader (Grown Tree) → ℕ → Reader (Grown Steps)
steps_at most inner zero ts = Some (bounded most no_steps 0, ts)
steps_at most inner (suc m) [] = Some (bounded most no_steps 0, [])
steps_at most inner (suc m) (t ∷ ts) =
    if bytes_eq t (codes "[") then after (closed_at inner (codes "]") ts) (λ e rest. after (steps_at most inner m rest) (λ ss rest. Some (join most (λ x xs. step_and (element x) xs) max e ss, rest)))
    else (if bytes_eq t (codes ".") then after (member_at ts) (λ k rest. after (steps_at most inner m rest) (λ ss rest. Some (lift most (step_and (member k)) (max 0) ss, rest)))
    else Some (bounded most no_steps 0, t ∷ ts))

abbrev pub call_at : ℕ → Reader (Grown Tree) → Option CallKind → Reader (Grown Tree)
call_at most inner None ts = None
call_at most inner (Some conjunction) ts = after (arguments_at most inner (codes ")") ts) (λ es rest. Some (lift most all_of one_deeper es, rest))
call_at most inner (Some disjunction) ts = after (arguments_at most inner (codes ")") ts) (λ es rest. Some (lift most any_of one_deeper es, rest))
call_at most inner (Some (pair kind)) ts =
    after (closed_at inner (codes ",") ts) (λ a rest. after (closed_at inner (codes ")") rest) (λ b rest. Some (grown_binary most kind a b, rest)))
call_at most inner (Some choice) ts =
    after (closed_at inner (codes ",") ts) (λ c rest. after (closed_at inner (codes ",") rest) (λ a rest. after (closed_at inner (codes ")") rest) (λ b rest. Some (grown_choice most c a b, rest))))
call_at most inner (Some fixed) ts = after (number_comma_at ts) (λ n rest. after (number_at rest) (λ w rest. past (codes ")") rest (λ rest. Some (leaf most (sized n w), rest))))
call_at most inner (Some (headed kind)) ts =
    after (head_at kind ts) (λ head rest. after (closed_at inner (codes ")") rest) (λ a rest. Some (lift most (headed_tree head) one_deeper a, rest)))

-- a field of the state, with arguments or without
abbrev pub read_from : ℕ → Reader (Grown Tree) → Text → Text → Reader (Grown Tree)
read_from most inner s f [] = Some (leaf most (read s f), [])
read_from most inner s f (t ∷ ts) =
    if bytes_eq t (codes "(") then after (arguments_at most inner (codes ")") ts) (λ es rest. Some (lift most (read_at s f) one_deeper es, rest)) else Some (leaf most (read s f), t ∷ ts)

-- what stands behind a word and a dot
abbrev pub dotted_at : ℕ → Reader (Grown Tree) → Text → Reader (Grown Tree)
dotted_at most inner s [] = None
dotted_at most inner s (f ∷ ts) =
    if is_name f
    then (if bytes_eq s (codes "kernel") then after (steps_at most inner (length ts) ts) (λ ss rest. Some (lift most (path f) one_deeper ss, rest))
    else (if is_name s then read_from most inner s f ts else None))
    else None

abbrev pub number_or : Option ℕ → Option Tree → Option Tree
number_or None other = other
number_or (Some n) other = Some (literal n)

abbrev pub leaf_of : Text → Option Tree
leaf_of t =
    number_or (number_of t) (if bytes_eq t (codes "True") then Some (truth true) else (if bytes_eq t (codes "False") then Some (truth false) else (if is_name t then Some (named t) else None)))

abbrev pub grown_leaf : ℕ → Option Tree → List Text → Option (Grown Tree × List Text)
grown_leaf most None ts = None
grown_leaf most (Some e) ts = Some (leaf most e, ts)

-- a word with what stands beside it
abbrev pub beside_at : ℕ → Reader (Grown Tree) → Text → Reader (Grown Tree)
beside_at most inner t [] = grown_leaf most (leaf_of t) []
beside_at most inner t (u ∷ rest) =
    if bytes_eq u (codes "(") then call_at most inner (call_of t) rest else (if bytes_eq u (codes ".") then dotted_at most inner t rest else grown_leaf most (leaf_of t) (u ∷ rest))

abbrev pub primary_at : ℕ → Reader (Grown Tree) → Reader (Grown Tree)
primary_at most inner [] = None
primary_at most inner (t ∷ ts) = if bytes_eq t (codes "(") then closed_at inner (codes ")") ts else beside_at most inner t ts

-- a primary behind its signs
unfoldable pub unary_at : ℕ → Reader (Grown Tree) → Reader (Grown Tree)
unary_at most inner [] = None
unary_at most inner (t ∷ ts) =
    if bytes_eq t (codes "-") then after (unary_at most inner ts) (λ a rest. Some (lift most (unary Minus) one_deeper a, rest))
    else (if bytes_eq t (codes "~") then after (unary_at most inner ts) (λ a rest. Some (lift most (unary Complement) one_deeper a, rest))
    else primary_at most inner (t ∷ ts))

abbrev pub by_operator : {B : Type 0} → Option BinKind → B → (BinKind → B) → B
by_operator None other on = other
by_operator (Some kind) other on = on kind

-- operators of one looseness with their further operands, at most so many
unfoldable pub chain_at : ℕ → Reader (Grown Tree) → ℕ → ℕ → Grown Tree → Reader (Grown Tree)
chain_at most operand loose zero a ts = Some (a, ts)
chain_at most operand loose (suc m) a [] = Some (a, [])
chain_at most operand loose (suc m) a (t ∷ ts) =
    by_operator (operator_at loose t) (Some (a, t ∷ ts)) (λ kind. after (operand ts) (λ b rest. chain_at most operand loose m (grown_binary most kind a b) rest))

-- an expression that binds at most so loosely, below a comparison
unfoldable pub level_at : ℕ → Reader (Grown Tree) → ℕ → Reader (Grown Tree)
level_at most inner zero ts = unary_at most inner ts
level_at most inner (suc loose) ts = after (level_at most inner loose ts) (λ a rest. chain_at most (level_at most inner loose) (suc loose) (length rest) a rest)

-- one comparison, or none
abbrev pub compared_at : ℕ → Reader (Grown Tree) → Grown Tree → Reader (Grown Tree)
compared_at most operand a [] = Some (a, [])
compared_at most operand a (t ∷ ts) = by_operator (operator_at 7 t) (Some (a, t ∷ ts)) (λ kind. after (operand ts) (λ b rest. Some (grown_binary most kind a b, rest)))

abbrev pub whole_at : ℕ → Reader (Grown Tree) → Reader (Grown Tree)
whole_at most inner ts = after (level_at most inner 6 ts) (λ a rest. compared_at most (level_at most inner 6) a rest)

-- an expression with brackets nested at most so deep, and so many words
unfoldable pub expr_at : ℕ → ℕ → Reader (Grown Tree)
expr_at most zero ts = None
expr_at most (suc n) ts = whole_at most (expr_at most n) ts

-- these words go on with no expression that binds at most so loosely
abbrev pub continues : Text → Bool
continues t = bytes_eq t (codes "(") || (bytes_eq t (codes "[") || bytes_eq t (codes "."))

abbrev pub is_no_operator : Option BinKind → Bool
is_no_operator None = true
is_no_operator (Some kind) = false

unfoldable pub has_no_operator : ℕ → Text → Bool
has_no_operator zero t = true
has_no_operator (suc loose) t = is_no_operator (operator_at (suc loose) t) && has_no_operator loose t

abbrev pub is_free : ℕ → List Text → Bool
is_free loose [] = true
is_free loose (t ∷ ts) = not (continues t) && has_no_operator loose t
