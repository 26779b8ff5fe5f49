-- What the words of operations and of comparisons stand for.
use Rattle.std.specs.Prelude.{ℕ, if◌then◌else◌, Option, Some, None, List, [], ◌∷◌, codes, bytes_eq}
use Rattle.ir_ast.specs.declared.instr.BinaryKind.TheVariants.{Add, Sub, Mul, Shl, Udiv, Sdiv, Lshr, Ashr, Urem, Srem, And, Xor}
use Rattle.ir_ast.specs.declared.instr.Predicate.{Predicate}
use Rattle.ir_ast.specs.declared.instr.Predicate.TheVariants.{Eq, Ne, Ugt, Uge, Ult, Ule, Sgt, Sge, Slt, Sle}
use Rattle.ir_body.specs.declared.operation.Operation.{Operation}
use Rattle.ir_body.specs.declared.operation.Operation.TheVariants.{Wrapping, Exacting, Simple, Or, Icmp, Select, Trunc, Zext, Sext, Freeze, Phi, Alloca, Load, Store, GetElementPtr, Call, ExtractValue, Br, Switch, Ret, Unreachable}

-- what the first entry of this text stands for
abbrev pub lookup : {A : Type 0} → List (List ℕ × A) → List ℕ → Option A
lookup [] text = None
lookup (e ∷ es) text = if bytes_eq text e.0 then Some e.1 else lookup es text

abbrev pub or_else : {A : Type 0} → Option A → Option A → Option A
or_else (Some a) other = Some a
or_else None other = other

abbrev pub unsigned_words : List (List ℕ × Predicate)
unsigned_words = (codes "eq", Eq) ∷ (codes "ne", Ne) ∷ (codes "ugt", Ugt) ∷ (codes "uge", Uge) ∷ (codes "ult", Ult) ∷ (codes "ule", Ule) ∷ []

abbrev pub signed_words : List (List ℕ × Predicate)
signed_words = (codes "sgt", Sgt) ∷ (codes "sge", Sge) ∷ (codes "slt", Slt) ∷ (codes "sle", Sle) ∷ []

unfoldable pub unsigned_of : List ℕ → Option Predicate
unsigned_of text = lookup unsigned_words text

unfoldable pub signed_of : List ℕ → Option Predicate
signed_of text = lookup signed_words text

unfoldable pub predicate_of : List ℕ → Option Predicate
predicate_of text = or_else (unsigned_of text) (signed_of text)

abbrev pub arithmetic_words : List (List ℕ × Operation)
arithmetic_words =
    (codes "add", Wrapping Add) ∷ (codes "sub", Wrapping Sub) ∷ (codes "mul", Wrapping Mul) ∷ (codes "shl", Wrapping Shl)
    ∷ (codes "udiv", Exacting Udiv) ∷ (codes "sdiv", Exacting Sdiv) ∷ (codes "lshr", Exacting Lshr) ∷ (codes "ashr", Exacting Ashr) ∷ []

abbrev pub bit_words : List (List ℕ × Operation)
bit_words = (codes "urem", Simple Urem) ∷ (codes "srem", Simple Srem) ∷ (codes "and", Simple And) ∷ (codes "xor", Simple Xor) ∷ (codes "or", Or) ∷ []

abbrev pub value_words : List (List ℕ × Operation)
value_words = (codes "icmp", Icmp) ∷ (codes "select", Select) ∷ (codes "trunc", Trunc) ∷ (codes "zext", Zext) ∷ (codes "sext", Sext) ∷ (codes "freeze", Freeze) ∷ (codes "phi", Phi) ∷ []

abbrev pub memory_words : List (List ℕ × Operation)
memory_words = (codes "load", Load) ∷ (codes "store", Store) ∷ (codes "getelementptr", GetElementPtr) ∷ (codes "alloca", Alloca) ∷ (codes "call", Call) ∷ (codes "extractvalue", ExtractValue) ∷ []

abbrev pub control_words : List (List ℕ × Operation)
control_words = (codes "br", Br) ∷ (codes "ret", Ret) ∷ (codes "switch", Switch) ∷ (codes "unreachable", Unreachable) ∷ []

unfoldable pub arithmetic_of : List ℕ → Option Operation
arithmetic_of text = lookup arithmetic_words text

unfoldable pub bit_of : List ℕ → Option Operation
bit_of text = lookup bit_words text

unfoldable pub value_of : List ℕ → Option Operation
value_of text = lookup value_words text

unfoldable pub memory_of : List ℕ → Option Operation
memory_of text = lookup memory_words text

unfoldable pub control_of : List ℕ → Option Operation
control_of text = lookup control_words text

abbrev pub rarer_of : List ℕ → Option Operation
rarer_of text = or_else (value_of text) (or_else (control_of text) (bit_of text))

unfoldable pub operation_of : List ℕ → Option Operation
operation_of text = or_else (memory_of text) (or_else (arithmetic_of text) (rarer_of text))
