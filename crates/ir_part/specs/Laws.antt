-- That each reader reads exactly what is spelled.
use Rattle.std.specs.Prelude.{◌≡◌, ℕ, true, Some, None, List, [], ◌∷◌, ◌++◌}
use Rattle.ir_ast.specs.Plain.{Ty, Val}
use Rattle.ir_lex.specs.Decimal.{width_of, count_of}
use Rattle.ir_lex.specs.Tok.{Tok, word, IsLocal, IsGlobal, IsLabel}
use Rattle.ir_lex.specs.TypeSpelling.{SpellsType, SpellsResult}
use Rattle.ir_lex.specs.ValueSpelling.{IsNumber, SpellsOperand}
use Rattle.ir_lex.specs.Parts.{SpellsTyped, SpellsAlign}
use Rattle.ir_lex.specs.declared.token.TokenKind.TheVariants.{Number}
use Rattle.ir_part.specs.Reader.{Reader, IsSound, IsComplete}
use Rattle.ir_part.specs.Fronts.{local_at, global_at, label_at}
use Rattle.ir_part.specs.Numbers.{count_at, number_at, width_at, after_align, align_at}
use Rattle.ir_part.specs.Types.{type_at, result_at, is_bit, same_type}
use Rattle.ir_part.specs.Operands.{operand_at, typed_at}

-- both directions
pub record IsExact {A : Type 0} (S : A → List Tok → Type 0) (read : Reader A) : Type 0 where
  pub sound : IsSound S read
  pub complete : IsComplete S read

-- digits, and `iN`, by the value that their text has
abbrev pub IsCount : ℕ → List Tok → Type 0
IsCount n ts = (text : List ℕ) × (count_of text ≡ Some n) × (ts ≡ (Number, text) ∷ [])

abbrev pub IsWidth : ℕ → List Tok → Type 0
IsWidth w ts = (text : List ℕ) × (width_of text ≡ Some w) × (ts ≡ word text ∷ [])

abbrev pub IsTyped : Ty × Val → List Tok → Type 0
IsTyped p ts = SpellsTyped p.0 p.1 ts

abbrev pub NamesAreRead : Type 0
NamesAreRead = IsExact IsLocal local_at × IsExact IsGlobal global_at × IsExact IsLabel label_at

abbrev pub NumbersAreRead : Type 0
NumbersAreRead = IsExact IsCount count_at × IsExact IsNumber number_at × IsExact IsWidth width_at

abbrev pub TypesAreRead : Type 0
TypesAreRead = IsExact SpellsType type_at × IsExact SpellsResult result_at

abbrev pub OperandsAreRead : Type 0
OperandsAreRead = ((over : Ty) → IsExact (SpellsOperand over) (operand_at (is_bit over))) × IsExact IsTyped typed_at

-- an alignment may be absent, so it is read whole only where no other one stands behind it
abbrev pub AlignsAreRead : Type 0
AlignsAreRead =
    IsSound SpellsAlign align_at
    × ((n : ℕ) (front rest : List Tok) → after_align rest ≡ None → SpellsAlign n front → align_at (front ++ rest) ≡ Some (n, rest))

abbrev pub SameTypesAreEqual : Type 0
SameTypesAreEqual = (t u : Ty) → (same_type t u ≡ true → t ≡ u) × (t ≡ u → same_type t u ≡ true)
