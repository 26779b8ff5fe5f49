-- The operator at the front, and the signs there.
use Rattle.std.specs.Prelude.{ℕ, Bool, true, false, ◌||◌, if◌then◌else◌, Option, Some, None, List, [], ◌∷◌, option_map, length, codes, bytes_eq}
use Rattle.spec_ast.specs.Raw.{Tree, unary}
use Rattle.spec_ast.specs.declared.kind.UnKind.{UnKind}
use Rattle.spec_ast.specs.declared.kind.UnKind.TheVariants.{Minus, Complement}
use Rattle.spec_ast.specs.declared.kind.BinKind.{BinKind}
use Rattle.spec_expr.specs.Words.{Text}
use Rattle.spec_expr.specs.Grown.{Grown, lift}
use Rattle.spec_expr.specs.Reading.{Reader, after, operator_at, chain_at, one_deeper}

abbrev pub with_words : List Text → BinKind → BinKind × List Text
with_words ts kind = (kind, ts)

abbrev pub front_operator : ℕ → List Text → Option (BinKind × List Text)
front_operator loose [] = None
front_operator loose (t ∷ ts) = option_map (with_words ts) (operator_at loose t)

abbrev pub is_found : {A : Type 0} → Option A → Bool
is_found None = false
is_found (Some a) = true

abbrev pub begins_operator : ℕ → List Text → Bool
begins_operator loose [] = false
begins_operator loose (t ∷ ts) = is_found (operator_at loose t)

abbrev pub with_kind : BinKind → Grown Tree → BinKind × Grown Tree
with_kind kind e = (kind, e)

abbrev pub operand_behind : Reader (Grown Tree) → Option (BinKind × List Text) → Option ((BinKind × Grown Tree) × List Text)
operand_behind operand None = None
operand_behind operand (Some found) = after (operand found.1) (λ e rest. Some (with_kind found.0 e, rest))

-- an operator that binds just so loosely, and its operand
abbrev pub operand_at : Reader (Grown Tree) → ℕ → Reader (BinKind × Grown Tree)
operand_at operand loose ts = operand_behind operand (front_operator loose ts)

-- an operand, and the chain of operators behind it
abbrev pub chained_at : ℕ → Reader (Grown Tree) → ℕ → Reader (Grown Tree)
chained_at most operand loose ts = after (operand ts) (λ a rest. chain_at most operand loose (length rest) a rest)

abbrev pub is_sign : Text → Bool
is_sign t = bytes_eq t (codes "-") || bytes_eq t (codes "~")

abbrev pub sign_of : Text → UnKind
sign_of t = if bytes_eq t (codes "-") then Minus else Complement

-- behind these signs
abbrev pub signed : ℕ → List Text → Grown Tree → Grown Tree
signed most [] a = a
signed most (t ∷ ts) a = lift most (unary (sign_of t)) one_deeper (signed most ts a)
