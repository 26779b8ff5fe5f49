-- Numbers, widths and alignments at the front.
use Rattle.std.specs.Prelude.{ℕ, ◌^◌, ℤ, pos, neg_ℤ, Bool, not, ◌&&◌, nat_lt, nat_le, if◌then◌else◌, Option, Some, None, List, [], ◌∷◌, drop, codes}
use Rattle.ir_lex.specs.Bytes.{begins_with}
use Rattle.ir_lex.specs.Tok.{Tok}
use Rattle.ir_lex.specs.Decimal.{count_of, number_of, width_of, digits_value, are_some_digits}
use Rattle.ir_lex.specs.declared.token.TokenKind.{TokenKind}
use Rattle.ir_lex.specs.declared.token.TokenKind.TheVariants.{Word, Number}
use Rattle.ir_part.specs.Reader.{Reader, ◌>>=◌}
use Rattle.ir_part.specs.Fronts.{after_mark, after_word}

abbrev pub count_front : TokenKind → List ℕ → Reader ℕ
count_front Number text ts = count_of text >>= (λ n. Some (n, ts))
count_front _ text ts = None

-- digits
abbrev pub count_at : Reader ℕ
count_at [] = None
count_at (t ∷ ts) = count_front t.0 t.1 ts

-- the two halves of the text of a number
abbrev pub positive : List ℕ → Option ℤ
positive text = if are_some_digits text && nat_lt (digits_value text) (2 ^ 64) then Some (pos (digits_value text)) else None

abbrev pub negative : List ℕ → Option ℤ
negative text = if are_some_digits text && nat_le (digits_value text) (2 ^ 63) then Some (neg_ℤ (pos (digits_value text))) else None

-- `iN` with N over 64
abbrev pub is_over_wide : List ℕ → Bool
is_over_wide text = begins_with 105 text && are_some_digits (drop 1 text) && not (begins_with 48 (drop 1 text)) && nat_lt 64 (digits_value (drop 1 text))

abbrev pub number_front : TokenKind → List ℕ → Reader ℤ
number_front Number text ts = number_of text >>= (λ n. Some (n, ts))
number_front _ text ts = None

-- a number
abbrev pub number_at : Reader ℤ
number_at [] = None
number_at (t ∷ ts) = number_front t.0 t.1 ts

abbrev pub width_front : TokenKind → List ℕ → Reader ℕ
width_front Word text ts = width_of text >>= (λ w. Some (w, ts))
width_front _ text ts = None

-- `iN`
abbrev pub width_at : Reader ℕ
width_at [] = None
width_at (t ∷ ts) = width_front t.0 t.1 ts

-- what stands behind `, align`
abbrev pub after_align : List Tok → Option (List Tok)
after_align ts = after_mark 44 ts >>= after_word (codes "align")

abbrev pub align_by : Option (List Tok) → Reader ℕ
align_by None ts = Some (0, ts)
align_by (Some rest) ts = count_at rest

-- `[, align n]`
abbrev pub align_at : Reader ℕ
align_at ts = align_by (after_align ts) ts
