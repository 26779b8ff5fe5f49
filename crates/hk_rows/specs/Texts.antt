-- What the lines of the program are made of: fixed text, decimal numbers, names and bytes.

use Rattle.std.specs.Prelude.{ℕ, ◌/◌, ◌%◌, ◌==◌, ◌||◌, Bool, not, if◌then◌else◌, List, [], ◌∷◌, ◌++◌, length, codes, slice_index}
use Rattle.std.specs.List.{concat, flat_map, list_all}
use Rattle.std.specs.Char.{is_ascii_alphanumeric}
use Rattle.std.specs.Fmt.{decimal}
use Rattle.hk_rows.specs.declared.line.Part.{Part}
use Rattle.hk_rows.specs.declared.line.Part.TheVariants.{Text, Decimal, Name, Hex, Indices}

-- A line: its pieces and a newline.
abbrev pub line : List (List ℕ) → List ℕ
line pieces = concat pieces ++ codes "\n"

-- A byte as two digits of a table of sixteen, the high one first.
abbrev pub hex_digits : List ℕ → ℕ → List ℕ
hex_digits digits byte = slice_index digits (byte / 16) ∷ slice_index digits (byte % 16) ∷ []

-- A byte, and bytes one by one, in lower case hexadecimal.
abbrev pub hex_byte : ℕ → List ℕ
hex_byte byte = hex_digits (codes "0123456789abcdef") byte

abbrev pub hex_text : List ℕ → List ℕ
hex_text bytes = flat_map hex_byte bytes

-- A byte that a name needs no quotes for: an ASCII letter or digit, `_`, `.`, `-` or `$`.
abbrev pub is_plain : ℕ → Bool
is_plain byte = is_ascii_alphanumeric byte || byte == 95 || byte == 46 || byte == 45 || byte == 36

-- A byte of a name in quotes: itself, or `\HH` in upper case hexadecimal.
abbrev pub escaped : ℕ → List ℕ
escaped byte = if is_plain byte then byte ∷ [] else 92 ∷ hex_digits (codes "0123456789ABCDEF") byte

-- A name needs quotes where it is empty or has a byte that is not plain.
abbrev pub needs_quotes : List ℕ → Bool
needs_quotes name = length name == 0 || not (list_all is_plain name)

-- A name in quotes.
abbrev pub quoted : List ℕ → List ℕ
quoted name = codes "\"" ++ flat_map escaped name ++ codes "\""

-- A name, in quotes where it needs them.
abbrev pub name_text : List ℕ → List ℕ
name_text name = if needs_quotes name then quoted name else name

-- A text and a number behind it.
abbrev pub numbered : List ℕ → ℕ → List ℕ
numbered before number = before ++ decimal number

-- An index tuple: nothing for no index, else the indices in brackets, with commas between them.
abbrev pub indices_text : List ℕ → List ℕ
indices_text [] = []
indices_text (index ∷ indices) = numbered (codes "[") index ++ (flat_map (numbered (codes ", ")) indices ++ codes "]")

-- The text of one part of a line.
abbrev pub part_text : Part → List ℕ
part_text (Text text) = text.now
part_text (Decimal number) = decimal number
part_text (Name name) = name_text name.now
part_text (Hex bytes) = hex_text bytes.now
part_text (Indices indices) = indices_text indices.now

-- A line: the texts of its parts and a newline.
abbrev pub line_text : List Part → List ℕ
line_text parts = flat_map part_text parts ++ codes "\n"
