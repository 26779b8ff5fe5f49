-- The lines of state blocks: the arguments, the rows of a machine state, and the entries of an abstract one.
use Rattle.std.specs.Prelude.{◌≡◌, ℕ, ◌+◌, ◌*◌, ◌-◌, ◌/◌, ◌%◌, ◌^◌, min, Bool, true, false, not, ◌&&◌, ◌||◌, ◌==◌, nat_lt, nat_le, if◌then◌else◌, List, [], ◌∷◌, ◌++◌, take, drop, length, map, Option, Some, None, Result, Ok, Err, codes, bytes_eq, slice_index}
use Rattle.std.specs.List.{list_all, prefix_len, range_with_len}
use Rattle.std.specs.Char.{is_ascii_digit}
use Rattle.std.specs.Fmt.{decimal}
use Rattle.hk_cnf.specs.Text.{natural_of}
use Rattle.spec_tree.specs.Plain.{Key}
use Rattle.spec_tree.specs.Value.{place_behind}
use Rattle.hk_cert_lines.specs.declared.reason.CertReason.{CertReason}
use Rattle.hk_cert_lines.specs.declared.reason.CertReason.TheVariants.{Q1, Q2}
use Rattle.hk_cert_lines.specs.Words.{behind, is_decimal, number_of_width}

-- what follows a text at the front of what is left
abbrev pub behind_in : List ℕ → Option (List ℕ) → Option (List ℕ)
behind_in front None = None
behind_in front (Some rest) = behind front rest

-- the digits at the front, and what follows them
abbrev pub digits_of : List ℕ → List ℕ
digits_of rest = take (prefix_len is_ascii_digit rest) rest

abbrev pub behind_digits : List ℕ → List ℕ
behind_digits rest = drop (prefix_len is_ascii_digit rest) rest

-- ---- arguments

abbrev pub arg_number : ℕ → Option (List ℕ) → Result ℕ CertReason
arg_number width None = Err Q1
arg_number width (Some word) = number_of_width width word

-- the number of the parameter with this place, which has this width
abbrev pub arg_at : ℕ → ℕ → List ℕ → Result ℕ CertReason
arg_at k width line = arg_number width (behind_in (codes " = ") (behind_in (decimal k) (behind (codes "  arg ") line)))

-- ---- rows

-- what follows the name of a global, as it is shown, where the line is a row of it
abbrev pub row_front : List ℕ → List ℕ → Option (List ℕ)
row_front shown line = behind_in (codes "+") (behind_in shown (behind (codes "  @") line))

abbrev pub is_hex_digit : ℕ → Bool
is_hex_digit b = is_ascii_digit b || (nat_le 97 b && nat_le b 102)

-- bytes in lower case hexadecimal, one at least
abbrev pub is_hex : List ℕ → Bool
is_hex word = list_all is_hex_digit word && (not (length word == 0) && length word % 2 == 0)

-- a decimal offset, and bytes that are not all zero
abbrev pub is_row : List ℕ → List ℕ → Bool
is_row offset hex = is_decimal offset && (is_hex hex && not (list_all (λ b. b == 48) hex))

-- an offset of a row in an object of this size, with as many digits as the row has
abbrev pub is_placed : ℕ → ℕ → List ℕ → Bool
is_placed size offset hex = offset % 16 == 0 && (nat_lt offset size && length hex == 2 * min 16 (size - offset))

abbrev pub row_placed : ℕ → ℕ → List ℕ → Option ℕ → Result (ℕ × List ℕ) CertReason
row_placed next size hex None = Err Q2
row_placed next size hex (Some offset) = if nat_lt offset next then Err Q1 else (if is_placed size offset hex then Ok (offset, hex) else Err Q2)

abbrev pub row_with : ℕ → ℕ → List ℕ → Option (List ℕ) → Result (ℕ × List ℕ) CertReason
row_with next size offset None = Err Q1
row_with next size offset (Some hex) = if is_row offset hex then row_placed next size hex (natural_of (2 ^ 64 - 1) offset) else Err Q1

-- the offset and the digits of a row, behind the name of its global: a row in front of `next` is out of place, and one that is not aligned,
-- not within the object's size or of another length has a number out of its range
abbrev pub row_at : ℕ → ℕ → List ℕ → Result (ℕ × List ℕ) CertReason
row_at next size rest = row_with next size (digits_of rest) (behind (codes ": ") (behind_digits rest))

abbrev pub hex_value : ℕ → ℕ
hex_value b = if is_ascii_digit b then b - 48 else (if nat_le 97 b && nat_le b 102 then b - 87 else 0)

-- the byte that the two digits of a place write
abbrev pub hex_byte_at : List ℕ → ℕ → ℕ
hex_byte_at hex k = 16 * hex_value (slice_index hex (2 * k)) + hex_value (slice_index hex (2 * k + 1))

-- the bytes that digits write, two for each
abbrev pub hex_bytes : List ℕ → List ℕ
hex_bytes hex = map (hex_byte_at hex) (range_with_len 0 (length hex / 2))

-- ---- entries

-- what follows the name of a field, where the line is an entry of it: `[` where it has keys
abbrev pub mark_of : List Key → List ℕ
mark_of [] = codes " = "
mark_of (k ∷ keys) = codes "["

abbrev pub entry_front : List ℕ → List Key → List ℕ → Option (List ℕ)
entry_front name keys line = behind_in (mark_of keys) (behind_in name (behind (codes "  ") line))

-- an index that a word writes; one over 64 bits is below no size
abbrev pub capped : Option ℕ → ℕ
capped None = 2 ^ 64 - 1
capped (Some n) = n

abbrev pub index_of : List ℕ → ℕ
index_of word = capped (natural_of (2 ^ 64 - 1) word)

abbrev pub closed : List ℕ → Option (List ℕ) → Option (List ℕ × List ℕ)
closed indices None = None
closed indices (Some word) = Some (indices, word)

-- what follows where an index is read
abbrev pub at_index : Option (List ℕ) → (List ℕ → List ℕ → Option (List ℕ × List ℕ)) → Option (List ℕ × List ℕ)
at_index None next = None
at_index (Some rest) next = if is_decimal (digits_of rest) then next (digits_of rest) (behind_digits rest) else None

abbrev pub opened : Bool → List ℕ → Option (List ℕ)
opened first rest = if first then Some rest else behind (codes ", ") rest

-- an index for each key, with `, ` between them and `] = ` behind the last; and the word behind that
abbrev pub indices_from : List ℕ → Bool → List Key → List ℕ → Option (List ℕ × List ℕ)
indices_from indices first [] rest = closed indices (behind (codes "] = ") rest)
indices_from indices first (k ∷ keys) rest = at_index (opened first rest) (λ word behind. indices_from (indices ++ index_of word ∷ []) false keys behind)

-- the indices of an entry and the word of its number
abbrev pub entry_parts : List Key → List ℕ → Option (List ℕ × List ℕ)
entry_parts [] rest = Some ([], rest)
entry_parts (k ∷ keys) rest = indices_from [] true (k ∷ keys) rest

-- a number that is spelled and not 0
abbrev pub is_entry : List ℕ → Bool
is_entry word = is_decimal word && not (bytes_eq word (codes "0"))

abbrev pub with_place : ℕ → Result ℕ CertReason → Result (ℕ × ℕ) CertReason
with_place place (Ok n) = Ok (place, n)
with_place place (Err reason) = Err reason

abbrev pub entry_placed : ℕ → ℕ → List ℕ → Option ℕ → Result (ℕ × ℕ) CertReason
entry_placed next width word None = Err Q2
entry_placed next width word (Some place) = if nat_lt place next then Err Q1 else with_place place (number_of_width width word)

abbrev pub entry_with : ℕ → List Key → ℕ → Option (List ℕ × List ℕ) → Result (ℕ × ℕ) CertReason
entry_with next keys width None = Err Q1
entry_with next keys width (Some p) = if is_entry p.1 then entry_placed next width p.1 (place_behind 0 keys p.0) else Err Q1

-- the place and the number of an entry, behind the name of its field: an entry in front of `next` is out of place, and one with an index
-- that is not below its size, or of more bits than the field's width, has a number out of its range
abbrev pub entry_at : ℕ → List Key → ℕ → List ℕ → Result (ℕ × ℕ) CertReason
entry_at next keys width rest = entry_with next keys width (entry_parts keys rest)

-- an answer with parts of the line is that of the definition
abbrev pub Tells : {A B : Type 0} → (A → B) → Result A CertReason → Result B CertReason → Type 0
Tells view (Ok x) answer = answer ≡ Ok (view x)
Tells view (Err reason) answer = answer ≡ Err reason
