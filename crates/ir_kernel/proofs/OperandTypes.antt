-- An operand that fits its type, and whose registers are set, has a value of the type.
use Rattle.std.proofs.Common.{◌≡◌, ℕ, zero, suc, ◌+◌, ◌^◌, ◌<◌, ◌≤◌, ◌==◌, ◌&&◌, Bool, true, false, not, if◌then◌else◌, Option, Some, None, List, [], ◌∷◌, ◌++◌, map, refl, sym, ◌∙◌, ap, subst, arith, pow_mono}
use Rattle.std.specs.Prelude.{ℤ, pos, negsuc, min, nat_lt, Contains, is_some, unwrap_or, option_and_then, position, bytes_eq, slice_get}
use Rattle.std.specs.List.{AllByRecursion}
use Rattle.std.proofs.Math.Nat.{mod-lt}
use Rattle.std.proofs.lemmas.Nat.{pow_pos}
use Rattle.std.proofs.lemmas.Bool.{lt-ltb, eqb-true}
use Rattle.std.proofs.lemmas.List.Elements.{Contains-append_left, Contains-append_right}
use Rattle.ir_ast.specs.declared.operand.Flags.{Flags}
use Rattle.ir_ast.specs.Plain.{Ty, Tys, no_types, type_and, nothing, integer, pointer, array, structure, packed, named, opaque, Val, Form, Indices, local, global, number, null, poison, address, form, no_indices, index_and}
use Rattle.ir_ast.specs.Program.{FunctionView, ModuleView}
use Rattle.ir_ast.specs.Table.{names_of, place_of}
use Rattle.ir_type.specs.Names.{entry_of, leaves_of, form_leaves_of, index_leaves_of, local_name, global_name}
use Rattle.ir_type.specs.Whole.{Types, whole, meant, is_scalar, is_same, has_odd}
use Rattle.ir_type.specs.Whole as types
use Rattle.ir_type.proofs.Places.{no_place}
use Rattle.ir_typing.specs.Registers as registers
use Rattle.ir_typing.specs.Registers.{Kind, registers_of}
use Rattle.ir_typing.specs.Places.{register_names}
use Rattle.ir_typing.specs.Fits.{Scope, scope_of, whole_kind, modulo, fits_number, is_integer, fits_kind, list_of, field_at, part_at, steps, steps_over, fits, form_fits, indices_fit}
use Rattle.ir_check.proofs.Undefined.{in_flat_map}
use Rattle.ir_value.specs.declared.value.Value.{Value}
use Rattle.ir_value.specs.declared.value.Value.TheVariants.{Number, Null, Poison}
use Rattle.ir_code.specs.declared.input.Move.{Move}
use Rattle.ir_code.specs.declared.input.Move.TheVariants.{Begin}
use Rattle.ir_code.specs.declared.input.Input.{Input}
use Rattle.ir_layout.specs.Sizes.{size_of, field_offset}
use Rattle.ir_layout.specs.Facts.{cut}
use Rattle.ir_layout.specs.Offsets.{count_in, fields_in}
use Rattle.ir_whole.specs.Questions.{width_of, field_in, field_of}
use Rattle.ir_machine.specs.declared.state.Held.{Held}
use Rattle.ir_machine.specs.declared.state.Held.TheVariants as held
use Rattle.ir_machine.specs.Values.{Registers, held_at, value_held, base_value, size_at, stepped, moved, moved_all, value_of}
use Rattle.ir_measure.specs.Measures.{offset_at}
use Rattle.ir_resolve.specs.Operands.{register_base, object_base, base_of, index_move, field_move, field_index, move_from, part_from, width_in, part_moves, moves_of, input_of, form_input}
use Rattle.ir_walk.specs.Walk.{Memory}
use Rattle.ir_kernel.specs.Typed.{is_of, IsValueOf, IsSetTo, Holds, IsReady}
use Rattle.ir_kernel.proofs.ValueTypes.{begin_makes, step_makes}

left_of : (a b : Bool) → (a && b) ≡ true → a ≡ true
left_of true b e = refl
left_of false b e = absurd cc

right_of : (a b : Bool) → (a && b) ≡ true → b ≡ true
right_of true b e = e
right_of false b e = absurd cc

no_option : {A : Type 0} {X : Type 0} (x : X) → None ≡ Some x → A
no_option x e = absurd cc

-- ---- fields

-- a choice that comes out was made
chosen : {A B : Type 0} (b : Bool) (a : A) (o : Option B) (u : B) → (if b then o else None) ≡ Some u → ((if b then Some a else None) ≡ Some a) × (o ≡ Some u)
chosen true a o u e = (refl, e)
chosen false a o u e = no_option u e

one_more : (k n : ℕ) → nat_lt k n ≡ nat_lt (suc k) (1 + n)
one_more k n = grind arith

field_known : (ts : Tys) (k : ℕ) (u : Ty) → slice_get (list_of ts) k ≡ Some u → (field_in k ts ≡ Some u) × (nat_lt k (count_in ts) ≡ true)
field_known no_types k u e = no_option u e
field_known (type_and t ts) zero u e = (e, grind arith)
field_known (type_and t ts) (suc k) u e =
    let p = field_known ts k u e in
    (p.0, sym (one_more k (count_in ts)) ∙ p.1)

-- ---- registers

pub same_type : (over t : Ty) (v : Value) → is_scalar t ≡ true → is_same over t ≡ true → is_of over v ≡ true → is_of t v ≡ true
same_type (integer u) (integer w) v s e x = subst (λ n. is_of (integer n) v ≡ true) (eqb-true u w e) x
same_type pointer pointer v s e x = x
same_type nothing t v s e x = absurd cc
same_type (array n u) t v s e x = absurd cc
same_type (structure ts) t v s e x = absurd cc
same_type (packed ts) t v s e x = absurd cc
same_type (named y) t v s e x = absurd cc
same_type opaque t v s e x = absurd cc
same_type (integer u) t v s e x = absurd cc
same_type pointer t v s e x = absurd cc

held_value : (t : Ty) (kind : Kind) (h : Option Held) → fits_kind t (Some kind) ≡ true → IsSetTo kind h → IsValueOf t (value_held h)
held_value t (registers.value_of over) (Some (held.Value v)) e x = same_type over t v (left_of (is_scalar t) (is_same over t) e) (right_of (is_scalar t) (is_same over t) e) x
held_value t (registers.value_of over) (Some (held.Pair a b)) e x = absurd cc
held_value t (registers.value_of over) (Some (held.Slot align stored)) e x = absurd cc
held_value t (registers.value_of over) None e x = absurd x
held_value t (registers.slot_of over) h e x = absurd cc
held_value t (registers.pair_of over) h e x = absurd cc

pub names_kept : (types : Types) (rows : List (List ℕ × Kind)) → names_of (map (λ (r : List ℕ × Kind). (r.0, whole_kind types r.1)) rows) ≡ map (λ (r : List ℕ × Kind). r.0) rows
names_kept types [] = refl
names_kept types (r ∷ rows) = ap (λ ns. r.0 ∷ ns) (names_kept types rows)

-- a step of a `getelementptr` that gives a pointer
abbrev Goes : Memory → Registers → Move → Type 0
Goes memory rs mv = (v : Value) → is_of pointer v ≡ true → IsValueOf pointer (moved memory rs mv v)

module _ (memory : Memory) (rs : Registers) where
  all_go : (moves : List Move) (o : Option Value) → AllByRecursion (Goes memory rs) moves → IsValueOf pointer o → IsValueOf pointer (moved_all memory rs o moves)
  all_go moves None a x = absurd x
  all_go [] (Some v) a x = x
  all_go (mv ∷ moves) (Some v) a x = all_go moves (moved memory rs mv v) a.1 (a.0 v x)

  moved_on : (xs ys : List Move) (o : Option Value) → moved_all memory rs o (xs ++ ys) ≡ moved_all memory rs (moved_all memory rs o xs) ys
  moved_on xs ys None = refl
  moved_on [] ys (Some v) = refl
  moved_on (mv ∷ xs) ys (Some v) = moved_on xs ys (moved memory rs mv v)

  no_moves : (t : Ty) (o : Option Value) → IsValueOf t o → IsValueOf t (moved_all memory rs o [])
  no_moves t None x = absurd x
  no_moves t (Some v) x = x

  begin_goes : (inbounds : Bool) → Goes memory rs (Begin inbounds)
  begin_goes inbounds v x = begin_makes inbounds (size_at memory v) v

  index_goes : (inbounds nuw : Bool) (w each : ℕ) (t : Ty) (o : Option Value) (v : Value) → IsValueOf t o → IsValueOf pointer (stepped memory inbounds nuw w each o v)
  index_goes inbounds nuw w each t None v x = absurd x
  index_goes inbounds nuw w each t (Some i) v x = step_makes inbounds nuw (size_at memory v) w each i v

module _ (m : ModuleView) (f : FunctionView) (memory : Memory) (rs : Registers) where
  abbrev s : Scope
  s = scope_of m f

  -- a register or a global that an operand names
  abbrev IsGood : Val → Type 0
  IsGood (local x) = Holds m f rs x
  IsGood (global x) = is_some (entry_of x m.globals) ≡ true
  IsGood v = Unit

  abbrev AreGood : List Val → Type 0
  AreGood leaves = (l : Val) → Contains leaves l → IsGood l

  one : (v : Val) → AreGood (v ∷ []) → IsGood v
  one v good = good v (0, omega arith, refl)

  local_holds : (t : Ty) (x : List ℕ) → Holds m f rs x → fits_kind t (entry_of x s.registers) ≡ true → IsValueOf t (base_value rs (register_base (position (bytes_eq x) (register_names f))))
  local_holds t x holds e = by (entry_of x s.registers) (position (bytes_eq x) (register_names f)) refl refl
    where
      by : (o : Option Kind) (p : Option ℕ) → entry_of x s.registers ≡ o → position (bytes_eq x) (register_names f) ≡ p → IsValueOf t (base_value rs (register_base p))
      by None p h q = absurd (clash (sym (ap (fits_kind t) h) ∙ e))
        where
          clash : false ≡ true → ⊥
          clash e = cc
      by (Some kind) (Some k) h q = held_value t kind (held_at rs k) (ap (fits_kind t) (sym h) ∙ e) (holds k kind q h)
      by (Some kind) None h q = no_option kind (sym (no_place s.registers x (ap (position (bytes_eq x)) (names_kept m.types (registers_of f)) ∙ q)) ∙ h)

  global_holds : (x : List ℕ) → is_some (entry_of x m.globals) ≡ true → IsValueOf pointer (base_value rs (object_base (position (bytes_eq x) (names_of m.globals))))
  global_holds x e = by (place_of x m.globals) refl
    where
      by : (p : Option ℕ) → place_of x m.globals ≡ p → IsValueOf pointer (base_value rs (object_base p))
      by (Some o) q = refl
      by None q = absurd (clash (sym (ap is_some (no_place m.globals x q)) ∙ e))
        where
          clash : false ≡ true → ⊥
          clash e = cc

  pointer_only : (P : Ty → Type 0) (t : Ty) → types.is_pointer t ≡ true → P pointer → P t
  pointer_only P pointer e x = x
  pointer_only P nothing e x = absurd cc
  pointer_only P (integer w) e x = absurd cc
  pointer_only P (array n u) e x = absurd cc
  pointer_only P (structure ts) e x = absurd cc
  pointer_only P (packed ts) e x = absurd cc
  pointer_only P (named y) e x = absurd cc
  pointer_only P opaque e x = absurd cc

  modulo_below : (w : ℕ) (n : ℤ) → modulo w n < 2 ^ w
  modulo_below w (pos n) = mod-lt n (pow_pos w)
  modulo_below w (negsuc n) = let p = pow_pos w in omega (arith, p)

  number_below : (w : ℕ) (n : ℤ) → modulo (min w 64) n < 2 ^ w
  number_below w n =
      let few : min w 64 ≤ w = grind arith in
      let own = modulo_below (min w 64) n in
      let all : 2 ^ min w 64 ≤ 2 ^ w = pow_mono few in
      omega (arith, own, all)

  number_holds : (t : Ty) (n : ℤ) → fits_number t n ≡ true → IsValueOf t (base_value rs (base_of m f (width_of t) (number n)))
  number_holds (integer w) n e = lt-ltb (modulo (min w 64) n) (2 ^ w) (number_below w n)
  number_holds t n e = absurd cc

  poison_holds : (t : Ty) → is_scalar t ≡ true → is_of t Poison ≡ true
  poison_holds (integer w) e = refl
  poison_holds pointer e = refl
  poison_holds t e = absurd cc

  abbrev is_form : Val → Bool
  is_form (address a) = true
  is_form v = false

  base_holds : (t : Ty) (v : Val) → is_form v ≡ false → AreGood (leaves_of v) → fits s t v ≡ true → IsValueOf t (base_value rs (base_of m f (width_of t) v))
  base_holds t (local x) n good e = local_holds t x (one (local x) good) e
  base_holds t (global x) n good e = pointer_only (λ t. IsValueOf t (base_value rs (object_base (position (bytes_eq x) (names_of m.globals))))) t e (global_holds x (one (global x) good))
  base_holds t (number i) n good e = number_holds t i e
  base_holds t null n good e = pointer_only (λ t. is_of t Null ≡ true) t e refl
  base_holds t poison n good e = poison_holds t e
  base_holds t (address a) n good e = absurd cc

  -- ---- steps

  index_holds : (t : Ty) (v : Val) → is_integer t ≡ true → AreGood (leaves_of v) → fits s t v ≡ true → IsValueOf t (base_value rs (base_of m f (width_of t) v))
  index_holds t (local x) n good e = base_holds t (local x) refl good e
  index_holds t (global x) n good e = base_holds t (global x) refl good e
  index_holds t (number i) n good e = base_holds t (number i) refl good e
  index_holds t null n good e = base_holds t null refl good e
  index_holds t poison n good e = base_holds t poison refl good e
  index_holds (integer w) (address a) n good e = absurd cc
  index_holds t (address a) n good e = absurd cc

  goes_index : (flags : Flags) (each : ℕ) (t : Ty) (v : Val) → is_integer t ≡ true → AreGood (leaves_of v) → fits s t v ≡ true → Goes memory rs (index_move m f flags each (width_of t) v)
  goes_index flags each t v n good e a x = index_goes memory rs flags.inbounds flags.nuw (unwrap_or (width_of t) 0) each t (base_value rs (base_of m f (width_of t) v)) a (index_holds t v n good e)

  -- the field of a struct that an index chooses
  record IsField (ts : Tys) (over : Ty) (v : Val) (u : Ty) : Type 0 where
    pub place : ℕ
    pub chosen : field_index (width_in m over) v ≡ Some place
    pub is : field_in place ts ≡ Some u
    pub below : nat_lt place (count_in ts) ≡ true

  field_there : (ts : Tys) (over : Ty) (v : Val) (u : Ty) → field_at (list_of ts) over v ≡ Some u → IsField ts over v u
  field_there ts (integer w) (number n) u e =
      let c = chosen (w == 32) (modulo 32 n) (slice_get (list_of ts) (modulo 32 n)) u e in
      let known = field_known ts (modulo 32 n) u c.1 in
      record { place = modulo 32 n; chosen = c.0; is = known.0; below = known.1 }
  field_there ts over v u e = absurd cc

  field_goes : (flags : Flags) (t over : Ty) (v : Val) (k : ℕ) → field_index (width_in m over) v ≡ Some k → nat_lt k (fields_in t) ≡ true
      → Goes memory rs (field_move flags (option_and_then (offset_at t) (field_index (width_in m over) v)))
  field_goes flags t over v k e l =
      subst (λ o. Goes memory rs (field_move flags (option_and_then (offset_at t) o))) (sym e)
      (subst (λ b. Goes memory rs (field_move flags (if b then Some (cut (field_offset t k)) else None))) (sym l)
      (λ a x. index_goes memory rs flags.inbounds flags.nuw 64 (cut (field_offset t k)) (integer 64) (Some (Number 1)) a refl))

  part_goes : (flags : Flags) (t over : Ty) (v : Val) (u : Ty) → part_at t over v ≡ Some u → ((each : ℕ) → Goes memory rs (index_move m f flags each (width_in m over) v))
      → Goes memory rs (move_from m f flags (Some t) (width_in m over) v)
  part_goes flags (array n t) over v u e go = go (cut (size_of t))
  part_goes flags (structure ts) over v u e go = let k = field_there ts over v u e in field_goes flags (structure ts) over v k.place k.chosen k.below
  part_goes flags (packed ts) over v u e go = let k = field_there ts over v u e in field_goes flags (packed ts) over v k.place k.chosen k.below
  part_goes flags t over v u e go = absurd cc

  part_same : (t over : Ty) (v : Val) (u : Ty) → part_at t over v ≡ Some u → part_from (Some t) (width_in m over) v ≡ Some u
  part_same (array n t) over v u e = e
  part_same (structure ts) over v u e = let k = field_there ts over v u e in ap (option_and_then (λ k. field_of k (structure ts))) k.chosen ∙ k.is
  part_same (packed ts) over v u e = let k = field_there ts over v u e in ap (option_and_then (λ k. field_of k (packed ts))) k.chosen ∙ k.is
  part_same t over v u e = absurd cc

  some_part : (o : Option Ty) (is : Indices) → steps o is ≡ true → (u : Ty) × (o ≡ Some u)
  some_part None is e = absurd cc
  some_part (Some u) is e = (u, refl)

  parts_go : (flags : Flags) (is : Indices) (t : Ty) → steps (Some t) is ≡ true → indices_fit s is ≡ true → AreGood (index_leaves_of is)
      → AllByRecursion (Goes memory rs) (part_moves m f flags (Some t) is)
  parts_go flags no_indices t e n good = tt
  parts_go flags (index_and over v is) t e n good =
      let p = some_part (part_at t over v) is e in
      let two = left_of (is_integer (meant m.types over) && fits s (meant m.types over) v) (indices_fit s is) n in
      let whole_index = left_of (is_integer (meant m.types over)) (fits s (meant m.types over) v) two in
      let fitting = right_of (is_integer (meant m.types over)) (fits s (meant m.types over) v) two in
      let later = right_of (is_integer (meant m.types over) && fits s (meant m.types over) v) (indices_fit s is) n in
      let own : AreGood (leaves_of v) = λ l c. good l (Contains-append_left (leaves_of v) (index_leaves_of is) l c) in
      let others : AreGood (index_leaves_of is) = λ l c. good l (Contains-append_right (leaves_of v) (index_leaves_of is) l c) in
      let rest = parts_go flags is p.0 (subst (λ o. steps o is ≡ true) p.1 e) later others in (
        part_goes flags t over v p.0 p.1 (λ each. goes_index flags each (meant m.types over) v whole_index own fitting),
        subst (λ o. AllByRecursion (Goes memory rs) (part_moves m f flags o is)) (sym (part_same t over v p.0 p.1)) rest,
      )

  moves_go : (flags : Flags) (over : Ty) (is : Indices) → steps_over (whole m.types over) is ≡ true → indices_fit s is ≡ true → AreGood (index_leaves_of is)
      → AllByRecursion (Goes memory rs) (moves_of m f flags (meant m.types over) is)
  moves_go flags over no_indices e n good = (begin_goes memory rs flags.inbounds, tt)
  moves_go flags over (index_and t v is) e n good =
      let p = some_part (whole m.types over) is e in
      let same : meant m.types over ≡ p.0 = ap (λ o. unwrap_or o opaque) p.1 in
      let two = left_of (is_integer (meant m.types t) && fits s (meant m.types t) v) (indices_fit s is) n in
      let whole_index = left_of (is_integer (meant m.types t)) (fits s (meant m.types t) v) two in
      let fitting = right_of (is_integer (meant m.types t)) (fits s (meant m.types t) v) two in
      let later = right_of (is_integer (meant m.types t) && fits s (meant m.types t) v) (indices_fit s is) n in
      let own : AreGood (leaves_of v) = λ l c. good l (Contains-append_left (leaves_of v) (index_leaves_of is) l c) in
      let others : AreGood (index_leaves_of is) = λ l c. good l (Contains-append_right (leaves_of v) (index_leaves_of is) l c) in
      let told : steps (Some (meant m.types over)) is ≡ true = subst (λ u. steps (Some u) is ≡ true) (sym same) (subst (λ o. steps o is ≡ true) p.1 e) in (
        begin_goes memory rs flags.inbounds,
        (goes_index flags (cut (size_of (meant m.types over))) (meant m.types t) v whole_index own fitting, parts_go flags is (meant m.types over) told later others),
      )

  -- ---- operands

  mutual
    input_holds : (t : Ty) (v : Val) → AreGood (leaves_of v) → fits s t v ≡ true → IsValueOf t (value_of memory rs (input_of m f (width_of t) v))
    input_holds t (address a) good e =
        pointer_only (λ t. IsValueOf t (value_of memory rs (form_input m f a))) t (left_of (types.is_pointer t) (form_fits s a) e) (form_holds a good (right_of (types.is_pointer t) (form_fits s a) e))
    input_holds t (local x) good e = no_moves memory rs t (base_value rs (base_of m f (width_of t) (local x))) (base_holds t (local x) refl good e)
    input_holds t (global x) good e = no_moves memory rs t (base_value rs (base_of m f (width_of t) (global x))) (base_holds t (global x) refl good e)
    input_holds t (number i) good e = no_moves memory rs t (base_value rs (base_of m f (width_of t) (number i))) (base_holds t (number i) refl good e)
    input_holds t null good e = no_moves memory rs t (base_value rs (base_of m f (width_of t) null)) (base_holds t null refl good e)
    input_holds t poison good e = no_moves memory rs t (base_value rs (base_of m f (width_of t) poison)) (base_holds t poison refl good e)

    form_holds : (a : Form) → AreGood (form_leaves_of a) → form_fits s a ≡ true → IsValueOf pointer (value_of memory rs (form_input m f a))
    form_holds (form flags over base is) good e =
        let three = left_of (fits s pointer base && indices_fit s is && not (has_odd (meant m.types over))) (steps_over (whole m.types over) is) e in
        let stepping = right_of (fits s pointer base && indices_fit s is && not (has_odd (meant m.types over))) (steps_over (whole m.types over) is) e in
        let two = left_of (fits s pointer base && indices_fit s is) (not (has_odd (meant m.types over))) three in
        let first = input_holds pointer base (λ l c. good l (Contains-append_left (leaves_of base) (index_leaves_of is) l c)) (left_of (fits s pointer base) (indices_fit s is) two) in
        let moves = moves_go flags over is stepping (right_of (fits s pointer base) (indices_fit s is) two) (λ l c. good l (Contains-append_right (leaves_of base) (index_leaves_of is) l c)) in
        let i : Input = input_of m f None base in
        subst (IsValueOf pointer) (sym (moved_on memory rs i.moves (moves_of m f flags (meant m.types over) is) (base_value rs i.base)))
        (all_go memory rs (moves_of m f flags (meant m.types over) is) (value_of memory rs i) moves first)

  pub operand_holds : (t : Ty) (v : Val) → IsReady m f rs v → fits s t v ≡ true → IsValueOf t (value_of memory rs (input_of m f (width_of t) v))
  operand_holds t v ready e = input_holds t v good e
    where
      good : AreGood (leaves_of v)
      good (local x) c = ready.set x (in_flat_map local_name (leaves_of v) (local x) x c (0, omega arith, refl))
      good (global x) c = ready.known x (in_flat_map global_name (leaves_of v) (global x) x c (0, omega arith, refl))
      good (number n) c = tt
      good null c = tt
      good poison c = tt
      good (address a) c = tt
