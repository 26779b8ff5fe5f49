-- The parts of productions at the front.
use Rattle.std.specs.Prelude.{ℕ, ◌==◌, Bool, false, if◌then◌else◌, ℤ, Option, Some, None, List, [], ◌∷◌, drop, codes, bytes_eq}
use Rattle.ir_ast.specs.Plain.{Ty, integer, Val, local, Indices}
use Rattle.ir_ast.specs.declared.instr.Predicate.{Predicate}
use Rattle.ir_lex.specs.Drop.{are_digits}
use Rattle.ir_lex.specs.Tok.{Tok}
use Rattle.ir_lex.specs.declared.token.TokenKind.{TokenKind}
use Rattle.ir_lex.specs.declared.token.TokenKind.TheVariants.{Word, Metadata}
use Rattle.ir_part.specs.Reader.{Reader, ◌>>=◌}
use Rattle.ir_part.specs.Fronts.{after_mark, after_word, local_at, label_at}
use Rattle.ir_part.specs.Many.{some, separated, behind_comma, is_closed, is_ended}
use Rattle.ir_part.specs.Numbers.{number_at, width_at, align_at}
use Rattle.ir_part.specs.Types.{type_at, is_bit, same_type}
use Rattle.ir_part.specs.Operands.{operand_at, typed_at, indices_from}
use Rattle.ir_body.specs.Words.{predicate_of}

-- `%NAME` as an operand
abbrev pub register_at : Reader Val
register_at ts = local_at ts >>= (λ x. Some (local x.0, x.1))

abbrev pub predicate_front : TokenKind → List ℕ → Reader Predicate
predicate_front Word text ts = predicate_of text >>= (λ p. Some (p, ts))
predicate_front _ text ts = None

-- eq, ne, ..
abbrev pub predicate_at : Reader Predicate
predicate_at [] = None
predicate_at (t ∷ ts) = predicate_front t.0 t.1 ts

-- `iN V`
abbrev pub width_value_at : Reader (ℕ × Val)
width_value_at ts = do
  w ← width_at ts
  v ← operand_at (w.0 == 1) w.1
  Some ((w.0, v.0), v.1)

-- `i1 V`
abbrev pub bit_at : Reader Val
bit_at ts = width_value_at ts >>= (λ v. if v.0.0 == 1 then Some (v.0.1, v.1) else None)

-- `ptr V`
abbrev pub place_at : Reader Val
place_at ts = do
  ts ← after_word (codes "ptr") ts
  operand_at false ts

-- `iN V , V`
abbrev pub width_pair_at : Reader (ℕ × Val × Val)
width_pair_at ts = do
  a ← width_value_at ts
  ts ← after_mark 44 a.1
  b ← operand_at (a.0.0 == 1) ts
  Some ((a.0.0, a.0.1, b.0), b.1)

-- `T V , V`
abbrev pub typed_pair_at : Reader (Ty × Val × Val)
typed_pair_at ts = do
  a ← typed_at ts
  ts ← after_mark 44 a.1
  b ← operand_at (is_bit a.0.0) ts
  Some ((a.0.0, a.0.1, b.0), b.1)

-- `T V , T V` of one type
abbrev pub twice_at : Reader (Ty × Val × Val)
twice_at ts = do
  a ← typed_at ts
  ts ← after_mark 44 a.1
  b ← typed_at ts
  if same_type a.0.0 b.0.0 then Some ((a.0.0, a.0.1, b.0.1), b.1) else None

abbrev pub range_word_front : TokenKind → List ℕ → List Tok → Option (List Tok)
range_word_front Metadata text ts = if bytes_eq text (codes "!range") then Some ts else None
range_word_front _ text ts = None

abbrev pub after_range_word : List Tok → Option (List Tok)
after_range_word [] = None
after_range_word (t ∷ ts) = range_word_front t.0 t.1 ts

-- what stands behind `, !range`
abbrev pub after_range : List Tok → Option (List Tok)
after_range ts = after_mark 44 ts >>= after_range_word

abbrev pub range_front : TokenKind → List ℕ → Reader (Option (List ℕ))
range_front Metadata text ts = if are_digits (drop 1 text) then Some (Some (drop 1 text), ts) else None
range_front _ text ts = None

-- `!N`
abbrev pub range_name_at : Reader (Option (List ℕ))
range_name_at [] = None
range_name_at (t ∷ ts) = range_front t.0 t.1 ts

abbrev pub range_by : Option (List Tok) → Reader (Option (List ℕ))
range_by None ts = Some (None, ts)
range_by (Some rest) ts = range_name_at rest

-- `[, !range !N]`
abbrev pub range_at : Reader (Option (List ℕ))
range_at ts = range_by (after_range ts) ts

-- `[, align n] [, !range !N]`
abbrev pub access_at : Reader (ℕ × Option (List ℕ))
access_at ts = do
  a ← align_at ts
  r ← range_at a.1
  Some ((a.0, r.0), r.1)

-- `[ V , %b ]`, at `i1` or not
abbrev pub arm_at : Bool → Reader (Val × List ℕ)
arm_at bit ts = do
  ts ← after_mark 91 ts
  v ← operand_at bit ts
  ts ← after_mark 44 v.1
  b ← local_at ts
  ts ← after_mark 93 b.1
  Some ((v.0, b.0), ts)

-- the arms up to the end
abbrev pub some_arms : Bool → Reader (List (Val × List ℕ))
some_arms bit ts = some is_ended (arm_at bit) (behind_comma (arm_at bit)) ts

-- `T [ V , %b ] , ..` up to the end
abbrev pub arms_at : Reader (Ty × List (Val × List ℕ))
arms_at ts = do
  t ← type_at ts
  arms ← some_arms (is_bit t.0) t.1
  Some ((t.0, arms.0), arms.1)

-- `, iN V`
abbrev pub offset_at : Reader (Ty × Val)
offset_at ts = do
  ts ← after_mark 44 ts
  v ← width_value_at ts
  Some ((integer v.0.0, v.0.1), v.1)

-- `, iN V , ..` up to the end, as pairs
abbrev pub some_offsets : Reader (List (Ty × Val))
some_offsets ts = some is_ended offset_at offset_at ts

abbrev pub offsets_at : Reader Indices
offsets_at ts = some_offsets ts >>= (λ is. Some (indices_from is.0, is.1))

-- `( T V , .. )`
abbrev pub arguments_at : Reader (List (Ty × Val))
arguments_at ts = do
  ts ← after_mark 40 ts
  separated typed_at 41 ts

-- `iN number , L`, of this width
abbrev pub case_at : ℕ → Reader (ℤ × List ℕ)
case_at w ts = do
  v ← width_at ts
  n ← number_at v.1
  ts ← after_mark 44 n.1
  l ← label_at ts
  if v.0 == w then Some ((n.0, l.0), l.1) else None

-- one case or more up to a `]`
abbrev pub some_cases : ℕ → Reader (List (ℤ × List ℕ))
some_cases w ts = some (is_closed 93) (case_at w) (case_at w) ts

-- the cases up to a `]`
abbrev pub cases_at : ℕ → Reader (List (ℤ × List ℕ))
cases_at w ts = if is_closed 93 ts then Some ([], ts) else some_cases w ts

-- `iN V , L [`
abbrev pub choice_head : Reader (ℕ × Val × List ℕ)
choice_head ts = do
  v ← width_value_at ts
  ts ← after_mark 44 v.1
  l ← label_at ts
  ts ← after_mark 91 l.1
  Some ((v.0.0, v.0.1, l.0), ts)

-- `iN V , L [ iN number , L .. ]`
abbrev pub choices_at : Reader (ℕ × Val × List ℕ × List (ℤ × List ℕ))
choices_at ts = do
  head ← choice_head ts
  cases ← cases_at head.0.0 head.1
  ts ← after_mark 93 cases.1
  Some ((head.0.0, head.0.1, head.0.2, cases.0), ts)
