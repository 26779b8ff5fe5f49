-- What accesses through pointers give over a memory, and which memories they are of.
use Rattle.std.specs.Prelude.{◌≡◌, ℕ, ◌+◌, ◌-◌, ◌≤◌, ◌<◌, Bool, true, false, not, ◌&&◌, if◌then◌else◌, nat_le, nat_lt, map, List, length, slice_index_or}
use Rattle.ir_layout.specs.Bytes.{object_of, number_at}
use Rattle.ir_layout.specs.declared.object.Object as laid
use Rattle.ir_value.specs.declared.value.Value.{Value}
use Rattle.ir_value.specs.declared.value.Value.TheVariants.{Number}
use Rattle.ir_value.specs.declared.value.Made.{Made}
use Rattle.ir_value.specs.declared.value.Made.TheVariants as made
use Rattle.ir_value.specs.declared.access.Access.{Access}
use Rattle.ir_value.specs.declared.access.Access.TheVariants.{At, Not, Nowhere}
use Rattle.ir_code.specs.declared.program.Object.{Object}
use Rattle.ir_machine.specs.declared.state.Written.{Written}
use Rattle.ir_machine.specs.declared.state.Written.TheVariants.{Puts, Sticks, Lost}
use Rattle.ir_machine.specs.Values.{reached, are_bytes, object_at}
use Rattle.ir_machine.specs.Step.{write_to}
use Rattle.hk_symmem.specs.Origins.{AreOriginsOf}
use Rattle.hk_symmem.specs.Guarded.{MemoryView}

-- ---- the memory of a program

abbrev pub sizes_of : List laid.Object → List ℕ
sizes_of layout = map (λ (o : laid.Object). o.size) layout

abbrev pub aligns_of : List Object → List ℕ
aligns_of objects = map (λ (o : Object). o.align) objects

-- each object has as many initial bytes as its size says
abbrev pub AreWhole : List laid.Object → Type 0
AreWhole layout = map (λ (o : laid.Object). length o.bytes) layout ≡ sizes_of layout

-- the objects of a layout are those of a program
abbrev pub AreOf : List laid.Object → List Object → Type 0
AreOf layout objects = map (λ (o : laid.Object). o.constant) layout ≡ map (λ (o : Object). o.constant) objects

-- a memory of the objects of a layout, which are those of a program
pub record FitsMemory (layout : List laid.Object) (objects : List Object) (m : MemoryView) : Type 0 where
  pub origins : AreOriginsOf layout m.origins
  pub whole : AreWhole layout
  pub program : AreOf layout objects

-- ---- objects by bases: 0 is the base of a number, 1 that of null, and k + 2 that of an address in object k

-- the element of the object at a base
abbrev pub at_base : List ℕ → ℕ → ℕ
at_base xs base = if nat_le base 1 then 0 else slice_index_or xs (base - 2) 0

-- the size of the object at a base
abbrev pub sized : List (List ℕ) → ℕ → ℕ
sized memory base = if nat_le base 1 then 0 else length (object_of memory (base - 2))

-- the alignment of the object at a base
abbrev pub aligned : List Object → ℕ → ℕ
aligned objects base = if nat_le base 1 then 0 else (object_at objects (base - 2)).align

-- the object at a base is a constant
abbrev pub is_fixed : List Object → ℕ → Bool
is_fixed objects base = if nat_le base 1 then false else (object_at objects (base - 2)).constant

-- so many bytes from an offset on lie in the object at a base
pub record LiesAt (memory : List (List ℕ)) (base x bytes : ℕ) : Type 0 where
  pub known : 2 ≤ base
  pub object : base - 2 < length memory
  pub inside : x + bytes ≤ length (object_of memory (base - 2))

-- they lie there, and the object is no constant
pub record MayWrite (memory : List (List ℕ)) (objects : List Object) (base x bytes : ℕ) : Type 0 where
  pub lies : LiesAt memory base x bytes
  pub free : (object_at objects (base - 2)).constant ≡ false

-- the memory behind a write at a base that goes on or does not, to one of so many objects
abbrev pub written_up_to : ℕ → Bool → List (List ℕ) → ℕ → ℕ → ℕ → ℕ → List (List ℕ)
written_up_to count go memory base x bytes n =
    if go && (not (nat_le base 1) && nat_lt base (count + 2)) then write_to memory bytes (base - 2) x n else memory

-- ---- loads and stores

abbrev pub loaded_at : List (List ℕ) → ℕ → Access → Made
loaded_at memory bytes (At o x) = made.Gives (Number (number_at bytes x (object_of memory o)))
loaded_at memory bytes (Not r) = made.Sticks r
loaded_at memory bytes Nowhere = made.Lost

-- the number that an access loads, or why it sticks
abbrev pub loaded_number : List (List ℕ) → List Object → ℕ → ℕ → Value → Made
loaded_number memory objects bytes align v = if are_bytes bytes then loaded_at memory bytes (reached memory objects bytes align v) else made.Lost

-- stuck exactly where the store sticks
abbrev pub Refuses : Bool → Written → Type 0
Refuses stuck (Puts o x n) = stuck ≡ false
Refuses stuck (Sticks r) = stuck ≡ true
Refuses stuck Lost = Unit {0}

-- stuck exactly where the store sticks, and else the new memory has what it puts
abbrev pub Stores : Bool → List (List ℕ) → List (List ℕ) → ℕ → Written → Type 0
Stores stuck new old bytes (Puts o x n) = (stuck ≡ false) × (new ≡ write_to old bytes o x n)
Stores stuck new old bytes (Sticks r) = stuck ≡ true
Stores stuck new old bytes Lost = Unit {0}
