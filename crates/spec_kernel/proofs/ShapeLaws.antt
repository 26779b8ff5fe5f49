-- Shapes of whole types: what they say of elements, fields and integers, and that each integer lies within its type.
use Rattle.std.proofs.Common.{◌≡◌, ◌⊎◌, inl, inr, ℕ, zero, suc, ◌+◌, ◌-◌, ◌*◌, ◌/◌, ◌^◌, ◌<◌, ◌≤◌, Bool, true, false, ◌||◌, Some, None, option_map, refl, sym, ◌∙◌, ap, subst, arith}
use Rattle.std.specs.Prelude.{◌==◌, if◌then◌else◌, option_and_then}
use Rattle.std.proofs.lemmas.Nat.{mul-le}
use Rattle.std.proofs.lemmas.Bool.{cases_Bool, eqb-true}
use Rattle.ir_ast.specs.Plain.{Ty, Tys, nothing, integer, pointer, array, structure, packed, named, opaque, no_types, type_and}
use Rattle.ir_type.specs.Whole.{is_memory_width}
use Rattle.ir_whole.specs.Questions.{width_of, element_of, field_in, field_of}
use Rattle.ir_layout.specs.Sizes.{up_to, size_of, align_of, greatest_align, end_of, packed_end_of, offset_in, packed_offset_in, field_offset}
use Rattle.ir_layout.proofs.Cuts.{up_most}
use Rattle.ir_layout.proofs.FactLaws.{greatest_some}
use Rattle.ir_layout.proofs.OffsetLaws.{end_least, packed_least}
use Rattle.spec_names.specs.Kernel.{Shape, word, row, fields, Parts, no_parts, part_and, Elements, elements_of, Part, part_at, part_of, bytes_of}
use Rattle.spec_names.specs.Room.{HasLeaves, HaveLeaves, Lies, LieAll}
use Rattle.spec_kernel.specs.View.{shape_of, parts_from, packed_parts_from}
use Rattle.spec_kernel.specs.Steps.{bytes_at}

-- ---- steps

-- an array's elements, and a field at its offset, as a specification names them
abbrev pub elements_at : ℕ × Ty → Elements
elements_at p = record { count = p.0; stride = size_of p.1; shape = shape_of p.1 }

abbrev pub part_behind : ℕ → Ty → Part
part_behind offset t = record { offset = offset; shape = shape_of t }

no_elements : (w : ℕ) (b : Bool) → elements_of (if b then word (w / 8) else fields no_parts) ≡ None
no_elements w true = refl
no_elements w false = refl

pub elements_shape : (t : Ty) → elements_of (shape_of t) ≡ option_map elements_at (element_of t)
elements_shape nothing = refl
elements_shape (integer w) = no_elements w (is_memory_width w)
elements_shape pointer = refl
elements_shape (array n t) = refl
elements_shape (structure ts) = refl
elements_shape (packed ts) = refl
elements_shape (named x) = refl
elements_shape opaque = refl

parts_shape : (at : ℕ) (ts : Tys) (k : ℕ) → part_at k (parts_from at ts) ≡ option_map (part_behind (offset_in at ts k)) (field_in k ts)
parts_shape at no_types k = refl
parts_shape at (type_and t ts) zero = refl
parts_shape at (type_and t ts) (suc k) = parts_shape (up_to (align_of t) at + size_of t) ts k

packed_shape : (at : ℕ) (ts : Tys) (k : ℕ) → part_at k (packed_parts_from at ts) ≡ option_map (part_behind (packed_offset_in at ts k)) (field_in k ts)
packed_shape at no_types k = refl
packed_shape at (type_and t ts) zero = refl
packed_shape at (type_and t ts) (suc k) = packed_shape (at + size_of t) ts k

no_part : (w k : ℕ) (b : Bool) → part_of k (if b then word (w / 8) else fields no_parts) ≡ None
no_part w k true = refl
no_part w k false = refl

pub part_shape : (t : Ty) (k : ℕ) → part_of k (shape_of t) ≡ option_map (part_behind (field_offset t k)) (field_of k t)
part_shape nothing k = refl
part_shape (integer w) k = no_part w k (is_memory_width w)
part_shape pointer k = refl
part_shape (array n t) k = refl
part_shape (structure ts) k = parts_shape 0 ts k
part_shape (packed ts) k = packed_shape 0 ts k
part_shape (named x) k = refl
part_shape opaque k = refl

some_bytes : (w : ℕ) (b : Bool) → bytes_of (if b then word (w / 8) else fields no_parts) ≡ (if b then Some (w / 8) else None)
some_bytes w true = refl
some_bytes w false = refl

pub bytes_shape : (t : Ty) → bytes_of (shape_of t) ≡ option_and_then bytes_at (width_of t)
bytes_shape nothing = refl
bytes_shape (integer w) = some_bytes w (is_memory_width w)
bytes_shape pointer = refl
bytes_shape (array n t) = refl
bytes_shape (structure ts) = refl
bytes_shape (packed ts) = refl
bytes_shape (named x) = refl
bytes_shape opaque = refl

-- ---- each integer has 1, 2, 4 or 8 bytes

whole_bytes : (w : ℕ) → is_memory_width w ≡ true → (k : ℕ) × (k < 4) × (w / 8 ≡ 2 ^ k)
whole_bytes w h = first (cases_Bool (w == 8))
  where
    fourth : (a b c d : Bool) → (a || b || c || d) ≡ true → a ≡ false → b ≡ false → c ≡ false → d ≡ true
    fourth a b c d h e f g = sym (ap (λ z. z || b || c || d) e ∙ ap (λ z. z || c || d) f ∙ ap (λ z. z || d) g) ∙ h

    first : (w == 8 ≡ true) ⊎ (w == 8 ≡ false) → (k : ℕ) × (k < 4) × (w / 8 ≡ 2 ^ k)
    first (inl a) = (0, omega arith, ap (λ n. n / 8) (eqb-true w 8 a))
    first (inr a) = second (cases_Bool (w == 16))
      where
        second : (w == 16 ≡ true) ⊎ (w == 16 ≡ false) → (k : ℕ) × (k < 4) × (w / 8 ≡ 2 ^ k)
        second (inl b) = (1, omega arith, ap (λ n. n / 8) (eqb-true w 16 b))
        second (inr b) = third (cases_Bool (w == 32))
          where
            third : (w == 32 ≡ true) ⊎ (w == 32 ≡ false) → (k : ℕ) × (k < 4) × (w / 8 ≡ 2 ^ k)
            third (inl c) = (2, omega arith, ap (λ n. n / 8) (eqb-true w 32 c))
            third (inr c) = (3, omega arith, ap (λ n. n / 8) (eqb-true w 64 (fourth (w == 8) (w == 16) (w == 32) (w == 64) h a b c)))

integer_leaves : (w : ℕ) (b : Bool) → is_memory_width w ≡ b → HasLeaves (if b then word (w / 8) else fields no_parts)
integer_leaves w true h = whole_bytes w h
integer_leaves w false h = tt

mutual
  pub leaves : (t : Ty) → HasLeaves (shape_of t)
  leaves nothing = tt
  leaves (integer w) = integer_leaves w (is_memory_width w) refl
  leaves pointer = tt
  leaves (array n t) = leaves t
  leaves (structure ts) = parts_leaves 0 ts
  leaves (packed ts) = packed_leaves 0 ts
  leaves (named x) = tt
  leaves opaque = tt

  parts_leaves : (at : ℕ) (ts : Tys) → HaveLeaves (parts_from at ts)
  parts_leaves at no_types = tt
  parts_leaves at (type_and t ts) = (leaves t, parts_leaves (up_to (align_of t) at + size_of t) ts)

  packed_leaves : (at : ℕ) (ts : Tys) → HaveLeaves (packed_parts_from at ts)
  packed_leaves at no_types = tt
  packed_leaves at (type_and t ts) = (leaves t, packed_leaves (at + size_of t) ts)

-- ---- each integer lies within its type

mutual
  more_room : (s : Shape) (a b : ℕ) → Lies s a → a ≤ b → Lies s b
  more_room (word n) a b h l = omega (arith, h, l)
  more_room (row count stride inner) a b h l = λ i below.
      let here = h i below in (omega (arith, here.0, l), more_room inner (a - i * stride) (b - i * stride) here.1 (less a b (i * stride) l))
    where
      less : (a b c : ℕ) → a ≤ b → a - c ≤ b - c
      less a b c l = omega (arith, l)
  more_room (fields parts) a b h l = more_rooms parts a b h l

  more_rooms : (ps : Parts) (a b : ℕ) → LieAll ps a → a ≤ b → LieAll ps b
  more_rooms no_parts a b h l = tt
  more_rooms (part_and offset shape others) a b h l =
      (omega (arith, h.0, l), more_room shape (a - offset) (b - offset) h.1 (less a b offset l), more_rooms others a b h.2 l)
    where
      less : (a b c : ℕ) → a ≤ b → a - c ≤ b - c
      less a b c l = omega (arith, l)

integer_lies : (w : ℕ) (b : Bool) → Lies (if b then word (w / 8) else fields no_parts) (w / 8)
integer_lies w true = omega arith
integer_lies w false = tt

-- an element ends within its array
element_within : (i n s : ℕ) → i < n → i * s + s ≤ n * s
element_within i n s l =
    let most : (i + 1) * s ≤ n * s = mul-le (i + 1) s n s (omega (arith, l)) (omega arith) in
    let one : (i + 1) * s ≡ i * s + s = omega arith in
    subst (λ x. x ≤ n * s) one most

mutual
  pub lies : (t : Ty) → Lies (shape_of t) (size_of t)
  lies nothing = tt
  lies (integer w) = integer_lies w (is_memory_width w)
  lies pointer = tt
  lies (array n t) = λ i below. element (lies t) (i * size_of t) (n * size_of t) (element_within i n (size_of t) below)
    where
      element : Lies (shape_of t) (size_of t) → (at all : ℕ) → at + size_of t ≤ all → (at ≤ all) × Lies (shape_of t) (all - at)
      element own at all l = (omega (arith, l), more_room (shape_of t) (size_of t) (all - at) own (omega (arith, l)))
  lies (structure ts) = parts_lie 0 ts (up_to (greatest_align ts) (end_of 0 ts)) (up_most (greatest_align ts) (end_of 0 ts) (greatest_some ts))
  lies (packed ts) = packed_lie 0 ts (packed_end_of 0 ts) (omega arith)
  lies (named x) = tt
  lies opaque = tt

  parts_lie : (at : ℕ) (ts : Tys) (room : ℕ) → end_of at ts ≤ room → LieAll (parts_from at ts) room
  parts_lie at no_types room l = tt
  parts_lie at (type_and t ts) room l =
      let ends = within (up_to (align_of t) at) (size_of t) (end_of (up_to (align_of t) at + size_of t) ts) room (end_least (up_to (align_of t) at + size_of t) ts) l in
      (ends.0, more_room (shape_of t) (size_of t) (room - up_to (align_of t) at) (lies t) ends.1, parts_lie (up_to (align_of t) at + size_of t) ts room l)
    where
      within : (o s e room : ℕ) → o + s ≤ e → e ≤ room → (o ≤ room) × (s ≤ room - o)
      within o s e room a b = (omega (arith, a, b), omega (arith, a, b))

  packed_lie : (at : ℕ) (ts : Tys) (room : ℕ) → packed_end_of at ts ≤ room → LieAll (packed_parts_from at ts) room
  packed_lie at no_types room l = tt
  packed_lie at (type_and t ts) room l =
      let ends = within at (size_of t) (packed_end_of (at + size_of t) ts) room (packed_least (at + size_of t) ts) l in
      (ends.0, more_room (shape_of t) (size_of t) (room - at) (lies t) ends.1, packed_lie (at + size_of t) ts room l)
    where
      within : (o s e room : ℕ) → o + s ≤ e → e ≤ room → (o ≤ room) × (s ≤ room - o)
      within o s e room a b = (omega (arith, a, b), omega (arith, a, b))
