-- Operands at the front, with at most 100 constant address forms in one another.
use Rattle.std.specs.Prelude.{ℕ, zero, suc, Bool, false, if◌then◌else◌, pos, Some, None, List, [], ◌∷◌, codes, bytes_eq}
use Rattle.ir_ast.specs.Plain.{Ty, integer, Val, local, global, number, null, poison, address, Form, form, Indices, no_indices, index_and}
use Rattle.ir_ast.specs.declared.operand.Flags.{Flags}
use Rattle.ir_lex.specs.Names.{sigil_name}
use Rattle.ir_lex.specs.Decimal.{number_of}
use Rattle.ir_lex.specs.ValueSpelling.{offset_flags, is_bounded}
use Rattle.ir_lex.specs.declared.token.TokenKind.{TokenKind}
use Rattle.ir_lex.specs.declared.token.TokenKind.TheVariants.{Word, Number, Local, Global}
use Rattle.ir_part.specs.Reader.{Reader, ◌>>=◌}
use Rattle.ir_part.specs.Fronts.{after_mark, after_word, flag_at}
use Rattle.ir_part.specs.Many.{some, is_closed}
use Rattle.ir_part.specs.Numbers.{width_at, number_at}
use Rattle.ir_part.specs.Types.{type_at, is_bit}

-- indices as a list of pairs
abbrev pub indices_from : List (Ty × Val) → Indices
indices_from [] = no_indices
indices_from (i ∷ is) = index_and i.0 i.1 (indices_from is)

-- `[inbounds [nuw]]`
abbrev pub bounds_at : Reader Flags
bounds_at ts = do
  inbounds ← flag_at (codes "inbounds") ts
  nuw ← flag_at (codes "nuw") inbounds.1
  if is_bounded inbounds.0 nuw.0 then Some (offset_flags inbounds.0 nuw.0, nuw.1) else None

-- `, iN number`
abbrev pub number_index : Reader (Ty × Val)
number_index ts = do
  ts ← after_mark 44 ts
  w ← width_at ts
  n ← number_at w.1
  Some ((integer w.0, number n.0), n.1)

-- `[inbounds [nuw]] ( T , ptr`
abbrev pub form_head : Reader (Flags × Ty)
form_head ts = do
  flags ← bounds_at ts
  ts ← after_mark 40 flags.1
  t ← type_at ts
  ts ← after_mark 44 t.1
  ts ← after_word (codes "ptr") ts
  Some ((flags.0, t.0), ts)

-- `V , iN number , .. )`, given the reader of the base
abbrev pub form_tail : Reader Val → Flags × Ty → Reader Form
form_tail base head ts = do
  b ← base ts
  offsets ← some (is_closed 41) number_index number_index b.1
  ts ← after_mark 41 offsets.1
  Some (form head.0 head.1 b.0 (indices_from offsets.0), ts)

-- `[inbounds [nuw]] ( T , ptr V , iN number , .. )` behind the word
abbrev pub form_at : Reader Val → Reader Form
form_at base ts = form_head ts >>= (λ head. form_tail base head.0 head.1)

abbrev pub address_at : Reader Val → Reader Val
address_at base ts = form_at base ts >>= (λ g. Some (address g.0, g.1))

abbrev pub truth_word : List ℕ → Reader Val
truth_word text ts =
    if bytes_eq text (codes "true") then Some (number (pos 1), ts)
    else (if bytes_eq text (codes "false") then Some (number (pos 0), ts)
    else None)

abbrev pub value_word : Bool → Reader Val → List ℕ → Reader Val
value_word bit base text ts =
    if bytes_eq text (codes "null") then Some (null, ts)
    else (if bytes_eq text (codes "poison") then Some (poison, ts)
    else (if bytes_eq text (codes "getelementptr") then address_at base ts
    else (if bit then truth_word text ts
    else None)))

abbrev pub value_front : Bool → Reader Val → TokenKind → List ℕ → Reader Val
value_front bit base Word text ts = value_word bit base text ts
value_front bit base Number text ts = number_of text >>= (λ n. Some (number n, ts))
value_front bit base Local text ts = Some (local (sigil_name text), ts)
value_front bit base Global text ts = Some (global (sigil_name text), ts)
value_front bit base _ text ts = None

-- an operand, at `i1` or not, given the reader of the base of a constant address form
abbrev pub value_step : Bool → Reader Val → Reader Val
value_step bit base [] = None
value_step bit base (t ∷ ts) = value_front bit base t.0 t.1 ts

-- the base of one of so many constant address forms that may stand in one another; the first of them counts
unfoldable pub base_within : ℕ → Reader Val
base_within zero ts = None
base_within (suc n) ts = value_step false (base_within n) ts

-- an operand with at most so many constant address forms in one another
abbrev pub operand_within : ℕ → Bool → Reader Val
operand_within n bit ts = value_step bit (base_within n) ts

-- an operand of a production, at `i1` or not
unfoldable pub operand_at : Bool → Reader Val
operand_at bit ts = operand_within 100 bit ts

-- `T V`
abbrev pub typed_at : Reader (Ty × Val)
typed_at ts = do
  t ← type_at ts
  v ← operand_at (is_bit t.0) t.1
  Some ((t.0, v.0), v.1)
