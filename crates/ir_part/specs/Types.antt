-- Types at the front, of a depth of at most 100.
use Rattle.std.specs.Prelude.{ℕ, zero, suc, ◌==◌, Bool, true, false, ◌&&◌, if◌then◌else◌, Option, Some, None, List, [], ◌∷◌, codes, bytes_eq}
use Rattle.ir_ast.specs.Plain.{Ty, Tys, nothing, integer, pointer, array, structure, packed, named, opaque, no_types, type_and}
use Rattle.ir_ast.specs.View.{types_of}
use Rattle.ir_lex.specs.Names.{sigil_name}
use Rattle.ir_lex.specs.Decimal.{width_of}
use Rattle.ir_lex.specs.Tok.{Tok}
use Rattle.ir_lex.specs.declared.token.TokenKind.{TokenKind}
use Rattle.ir_lex.specs.declared.token.TokenKind.TheVariants.{Word, Local, Mark}
use Rattle.ir_part.specs.Reader.{Reader, ◌>>=◌}
use Rattle.ir_part.specs.Fronts.{after_mark, after_word}
use Rattle.ir_part.specs.Many.{separated}
use Rattle.ir_part.specs.Numbers.{count_at}

abbrev pub type_word : Option ℕ → List ℕ → Reader Ty
type_word (Some w) text ts = Some (integer w, ts)
type_word None text ts = if bytes_eq text (codes "ptr") then Some (pointer, ts) else None

-- `[ n x T ]`, `{ T , .. }` and `<{ T , .. }>` behind their first mark, given the reader of the parts
abbrev pub array_at : Reader Ty → Reader Ty
array_at inner ts = do
  n ← count_at ts
  ts ← after_word (codes "x") n.1
  t ← inner ts
  ts ← after_mark 93 t.1
  Some (array n.0 t.0, ts)

abbrev pub struct_at : Reader Ty → Reader Ty
struct_at inner ts = do
  parts ← separated inner 125 ts
  Some (structure (types_of parts.0), parts.1)

abbrev pub packed_at : Reader Ty → Reader Ty
packed_at inner ts = do
  ts ← after_mark 123 ts
  parts ← separated inner 125 ts
  ts ← after_mark 62 parts.1
  Some (packed (types_of parts.0), ts)

abbrev pub type_mark : Reader Ty → List ℕ → Reader Ty
type_mark inner text ts =
    if bytes_eq text (codes "[") then array_at inner ts
    else (if bytes_eq text (codes "{") then struct_at inner ts
    else (if bytes_eq text (codes "<") then packed_at inner ts
    else None))

abbrev pub type_front : Reader Ty → TokenKind → List ℕ → Reader Ty
type_front inner Word text ts = type_word (width_of text) text ts
type_front inner Local text ts = Some (named (sigil_name text), ts)
type_front inner Mark text ts = type_mark inner text ts
type_front inner _ text ts = None

-- one level, given the reader of the parts
abbrev pub type_step : Reader Ty → Reader Ty
type_step inner [] = None
type_step inner (t ∷ ts) = type_front inner t.0 t.1 ts

-- a type of at most this depth
unfoldable pub type_within : ℕ → Reader Ty
type_within zero ts = None
type_within (suc d) ts = type_step (type_within d) ts

-- a type of a production
unfoldable pub type_at : Reader Ty
type_at ts = type_within 100 ts

abbrev pub result_by : Option (List Tok) → Reader Ty
result_by (Some rest) ts = Some (nothing, rest)
result_by None ts = type_at ts

-- a type, or `void`
abbrev pub result_at : Reader Ty
result_at ts = result_by (after_word (codes "void") ts) ts

-- ---- the same type

abbrev mutual
  pub same_type : Ty → Ty → Bool
  same_type nothing nothing = true
  same_type (integer w) (integer v) = w == v
  same_type pointer pointer = true
  same_type (array n t) (array m u) = (n == m) && same_type t u
  same_type (structure ts) (structure us) = same_types ts us
  same_type (packed ts) (packed us) = same_types ts us
  same_type (named x) (named y) = bytes_eq x y
  same_type opaque opaque = true
  same_type _ _ = false

  pub same_types : Tys → Tys → Bool
  same_types no_types no_types = true
  same_types (type_and t ts) (type_and u us) = same_type t u && same_types ts us
  same_types _ _ = false

-- `i1`
abbrev pub is_bit : Ty → Bool
is_bit (integer w) = w == 1
is_bit _ = false
