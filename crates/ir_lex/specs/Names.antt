-- The name that a token spells: its bytes without a sigil or quotes, with escapes undone (LLVM Language Reference, "Identifiers").
use Rattle.std.specs.Prelude.{ℕ, zero, suc, ◌+◌, ◌-◌, ◌*◌, ◌==◌, if◌then◌else◌, Option, Some, None, List, [], ◌∷◌, take, drop, length, nat_lt}
use Rattle.std.specs.Char.{digit_value}
use Rattle.ir_lex.specs.Bytes.{begins_with}

-- the value of a hexadecimal digit of either case
abbrev pub hex_value : ℕ → Option ℕ
hex_value b = if nat_lt (digit_value b) 16 then Some (digit_value b) else None

abbrev pub hex_pair : Option ℕ → Option ℕ → ℕ × ℕ
hex_pair (Some high) (Some low) = (high * 16 + low, 2)
hex_pair _ _ = (92, 0)

-- the byte that a backslash and what follows it stand for, and how many bytes belong to it: another backslash, or two hexadecimal
-- digits; any other backslash stands for itself
abbrev pub escape : List ℕ → ℕ × ℕ
escape [] = (92, 0)
escape (a ∷ []) = if a == 92 then (92, 1) else (92, 0)
escape (a ∷ b ∷ rest) = if a == 92 then (92, 1) else hex_pair (hex_value a) (hex_value b)

-- the bytes that the inside of a string stands for, of which so many are passed over
abbrev pub unescaped_from : ℕ → List ℕ → List ℕ
unescaped_from skip [] = []
unescaped_from (suc k) (b ∷ rest) = unescaped_from k rest
unescaped_from zero (b ∷ rest) = if b == 92 then (escape rest).0 ∷ unescaped_from (escape rest).1 rest else b ∷ unescaped_from 0 rest

abbrev pub unescaped : List ℕ → List ℕ
unescaped inside = unescaped_from 0 inside

-- the inside of a string with its quotes
abbrev pub inside_of : List ℕ → List ℕ
inside_of quoted = take (length quoted - 2) (drop 1 quoted)

-- the name that a word, digits or a string spells
abbrev pub plain_name : List ℕ → List ℕ
plain_name text = if begins_with 34 text then unescaped (inside_of text) else text

-- the name behind a sigil
abbrev pub sigil_name : List ℕ → List ℕ
sigil_name text = plain_name (drop 1 text)
