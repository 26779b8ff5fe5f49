-- Which items fall under K5, K6 and K7.
use Rattle.std.specs.Prelude.{◌≡◌, ℕ, ◌+◌, ◌<◌, ◌^◌, ◌==◌, ◌⊎◌, Bool, true, false, not, ◌&&◌, ◌||◌, if◌then◌else◌, List, [], ◌∷◌, map, flat_map, sum, drop, length, take_while, bytes_eq, Contains, codes}
use Rattle.std.specs.Char.{is_ascii_digit}
use Rattle.ir_ast.specs.Plain.{Ty}
use Rattle.ir_ast.specs.Program.{ModuleView}
use Rattle.ir_type.specs.Names.{names_in, parts_of}
use Rattle.ir_type.specs.Whole.{Types}
use Rattle.ir_type.specs.Cycles.{IsBadName}
use Rattle.ir_type.specs.Items.{Item, layout_item, global_item, spelled, Rule, K5, K6, K7, IsFree, IsFirst}
use Rattle.ir_layout.specs.Facts.{has_odd_within, size_or_none}

-- ---- K5

abbrev pub IsOddGlobal : Types → Item → Type 0
IsOddGlobal types (global_item before g) = has_odd_within types g.over ≡ true
IsOddGlobal types _ = ⊥

abbrev pub FallsK5 : ModuleView → Item → Type 0
FallsK5 m item = ((x : List ℕ) × Contains (flat_map names_in (spelled item)) x × IsBadName m.types x) ⊎ IsOddGlobal m.types item

-- ---- K6

abbrev pub IsOverAll : Types → Item → Type 0
IsOverAll types (global_item before g) = 4194304 < sum (map (λ e. size_or_none types e.1.over) before) + size_or_none types g.over
IsOverAll types _ = ⊥

abbrev pub FallsK6 : ModuleView → Item → Type 0
FallsK6 m item = IsOverAll m.types item ⊎ ((t : Ty) × Contains (flat_map parts_of (spelled item)) t × (2 ^ 32 < size_or_none m.types t))

-- ---- K7

abbrev pub onto : ℕ → List (List ℕ) → List (List ℕ)
onto b [] = (b ∷ []) ∷ []
onto b (c ∷ cs) = (b ∷ c) ∷ cs

-- what stands between the `-` of a layout text
abbrev pub components : List ℕ → List (List ℕ)
components [] = [] ∷ []
components (b ∷ bs) = if b == 45 then [] ∷ components bs else onto b (components bs)

-- what stands before the first `:`, and behind it
abbrev pub is_no_colon : ℕ → Bool
is_no_colon b = not (b == 58)

abbrev pub before_colon : List ℕ → List ℕ
before_colon bs = take_while is_no_colon bs

abbrev pub behind_colon : List ℕ → List ℕ
behind_colon bs = drop (length (take_while is_no_colon bs) + 1) bs

-- digits without the zeros before them: numbers are compared by value
abbrev pub is_zero_digit : ℕ → Bool
is_zero_digit b = b == 48

abbrev pub plain_digits : List ℕ → List ℕ
plain_digits digits = drop (length (take_while is_zero_digit digits)) digits

abbrev pub is_number : List ℕ → List ℕ → Bool
is_number digits number = bytes_eq (plain_digits digits) number

-- the digits at the front
abbrev pub front_digits : List ℕ → List ℕ
front_digits bs = take_while is_ascii_digit bs

abbrev pub are_digits : List ℕ → Bool
are_digits bs = length (take_while is_ascii_digit bs) == length bs

-- a number stands at the front, and it is another one
abbrev pub is_other : List ℕ → List ℕ → Bool
is_other number bs = not (length (front_digits bs) == 0) && not (is_number (front_digits bs) number)

-- `pA:S:B..` of address space 0, whose size or alignment is not 64
abbrev pub contradicts_pointer : List ℕ → List ℕ → Bool
contradicts_pointer space behind = is_number space [] && (is_other (codes "64") behind || is_other (codes "64") (behind_colon behind))

-- `iN:B..` with N of 8, 16, 32 or 64, and another alignment than N
abbrev pub is_used_width : List ℕ → Bool
is_used_width width = is_number width (codes "8") || (is_number width (codes "16") || (is_number width (codes "32") || is_number width (codes "64")))

abbrev pub contradicts_integer : List ℕ → List ℕ → Bool
contradicts_integer width behind = is_used_width width && is_other (plain_digits width) behind

-- `a:B..` with another alignment than 0 and 8
abbrev pub contradicts_aggregate : List ℕ → Bool
contradicts_aggregate behind = is_other [] behind && is_other (codes "8") behind

-- the first byte of a component, the digits behind it, and what stands behind the first `:`
abbrev pub contradicts_by : ℕ → List ℕ → List ℕ → Bool
contradicts_by letter digits behind =
    if letter == 112 then contradicts_pointer digits behind
    else (if letter == 105 then contradicts_integer digits behind
    else (letter == 97) && contradicts_aggregate behind)

-- the component says of address space 0, of integers or of aggregates something else than the layout that is used
abbrev pub contradicts : List ℕ → Bool
contradicts [] = false
contradicts (letter ∷ bs) = are_digits (before_colon bs) && contradicts_by letter (before_colon bs) (behind_colon bs)

-- big endian, or a contradiction
abbrev pub is_bad_component : List ℕ → Bool
is_bad_component c = bytes_eq c (codes "E") || contradicts c

abbrev pub IsBadComponent : List ℕ → Type 0
IsBadComponent c = is_bad_component c ≡ true

abbrev pub FallsK7 : Item → Type 0
FallsK7 (layout_item l) = (c : List ℕ) × Contains (components l.bytes) c × IsBadComponent c
FallsK7 _ = ⊥

-- ---- all three

abbrev pub FallsByLayout : ModuleView → Item → Rule → Type 0
FallsByLayout m item K5 = FallsK5 m item
FallsByLayout m item K6 = FallsK6 m item
FallsByLayout m item K7 = FallsK7 item
FallsByLayout m item _ = ⊥

-- the module can be laid out; the first item that fails
abbrev pub IsLaidOut : ModuleView → Type 0
IsLaidOut m = IsFree (FallsByLayout m) m

abbrev pub IsLayoutFault : ModuleView → ℕ → Rule → Type 0
IsLayoutFault m line rule = IsFirst (FallsByLayout m) m line rule
