-- What an instruction gives at some registers it gives at more of them: more registers lose less.
use Rattle.std.proofs.Common.{◌≡◌, ℕ, Bool, Option, Some, None, List, [], ◌∷◌, refl, sym, ap, subst}
use Rattle.hk_term.specs.Meaning.{Reading}
use Rattle.hk_term.specs.declared.node.Node.{Node}
use Rattle.ir_value.specs.declared.value.Value as machine
use Rattle.ir_value.specs.declared.value.Value.TheVariants.{Number, Null, Address, Poison}
use Rattle.ir_code.specs.declared.input.Base.{Base}
use Rattle.ir_code.specs.declared.input.Base.TheVariants.{Register, Constant, Unknown}
use Rattle.ir_code.specs.declared.input.Move.{Move}
use Rattle.ir_code.specs.declared.input.Move.TheVariants.{Begin, By}
use Rattle.ir_code.specs.declared.input.Input.{Input}
use Rattle.ir_code.specs.declared.act.Act.{Act}
use Rattle.ir_code.specs.declared.act.Act.TheVariants as act
use Rattle.ir_code.specs.declared.program.Object.{Object}
use Rattle.ir_machine.specs.declared.state.Held.{Held}
use Rattle.ir_machine.specs.declared.state.Held.TheVariants as held
use Rattle.ir_machine.specs.declared.state.Computed.{Computed}
use Rattle.ir_machine.specs.declared.state.Computed.TheVariants.{Sets, Passes, Sticks, Lost}
use Rattle.ir_value.specs.declared.value.Made.{Made}
use Rattle.ir_value.specs.Numbers.{binary, compare_numbers, convert, freeze, select}
use Rattle.ir_value.specs.Intrinsics.{with_overflow, pair}
use Rattle.ir_machine.specs.Values.{Registers, held_at, value_held, base_value, stepped, moved, moved_all, value_of, on_one, on_two, on_three, given, on_pair, part_of, assumed, loaded, loaded_slot, tried, arguments_pass, computed, compare_sized}
use Rattle.ir_machine.specs.Step.{slot_stored}
use Rattle.hk_symstep.specs.declared.state.SymComputed.{SymComputed}
use Rattle.hk_symstep.specs.declared.state.SymComputed.TheVariants as sym_computed
use Rattle.hk_symstep.specs.Files.{IsWithin}
use Rattle.hk_symstep.specs.Steps.{AnswersComputed, AnswersPasses}

-- nothing, or the same
abbrev pub IsBelow : {X : Type 0} → Option X → Option X → Type 0
IsBelow None q = Unit {0}
IsBelow (Some x) q = q ≡ Some x

-- lost, or the same
abbrev pub LosesMore : Computed → Computed → Type 0
LosesMore Lost d = Unit {0}
LosesMore (Sets h) d = d ≡ Sets h
LosesMore Passes d = d ≡ Passes
LosesMore (Sticks r) d = d ≡ Sticks r

same : (c d : Computed) → d ≡ c → LosesMore c d
same Lost d e = tt
same (Sets h) d e = e
same Passes d e = e
same (Sticks r) d e = e

after : (a b c : Computed) → LosesMore a b → LosesMore b c → LosesMore a c
after Lost b c p q = tt
after (Sets h) b c p q = subst (λ b. LosesMore b c) p q
after Passes b c p q = subst (λ b. LosesMore b c) p q
after (Sticks r) b c p q = subst (λ b. LosesMore b c) p q

-- what is lost without an operand
on : {X : Type 0} (F : Option X → Computed) → F None ≡ Lost → (p q : Option X) → IsBelow p q → LosesMore (F p) (F q)
on F e None q b = subst (λ c. LosesMore c (F q)) (sym e) tt
on F e (Some x) q b = same (F (Some x)) (F q) (ap F b)

no_second : (f : machine.Value → machine.Value → Made) (p : Option machine.Value) → on_two f p None ≡ Lost
no_second f None = refl
no_second f (Some a) = refl

no_third : (f : machine.Value → machine.Value → machine.Value → Made) (p q : Option machine.Value) → on_three f p q None ≡ Lost
no_third f None q = refl
no_third f (Some a) q = no_second (f a) q

no_middle : (f : machine.Value → machine.Value → machine.Value → Made) (p q : Option machine.Value) → on_three f p None q ≡ Lost
no_middle f None q = refl
no_middle f (Some a) q = refl

no_other : (f : ℕ → machine.Value → machine.Value → Made) (p : Option machine.Value) → on_pair f p None ≡ Lost
no_other f None = refl
no_other f (Some a) = refl

try_below : (p q : Option machine.Value) (c d : Computed) → IsBelow p q → LosesMore c d → LosesMore (tried p c) (tried q d)
try_below None q c d b h = tt
try_below (Some Poison) q c d b h = ap (λ q. tried q d) b
try_below (Some (Number n)) q c d b h = subst (λ q. LosesMore c (tried q d)) (sym b) h
try_below (Some Null) q c d b h = subst (λ q. LosesMore c (tried q d)) (sym b) h
try_below (Some (Address o x)) q c d b h = subst (λ q. LosesMore c (tried q d)) (sym b) h

-- ---- operands

module _ (memory : List (List ℕ)) (rs hs : Registers) (w : IsWithin rs hs) where
  pub held_below : (k : ℕ) → IsBelow (held_at rs k) (held_at hs k)
  held_below k = at (held_at rs k) refl
    where
      at : (p : Option Held) → held_at rs k ≡ p → IsBelow p (held_at hs k)
      at None e = tt
      at (Some h) e = w.same k h e

  value_below : (p q : Option Held) → IsBelow p q → IsBelow (value_held p) (value_held q)
  value_below None q b = tt
  value_below (Some (held.Value v)) q b = ap value_held b
  value_below (Some (held.Pair x y)) q b = tt
  value_below (Some (held.Slot x y)) q b = tt

  base_below : (b : Base) → IsBelow (base_value rs b) (base_value hs b)
  base_below (Register k) = value_below (held_at rs k) (held_at hs k) (held_below k)
  base_below (Constant v) = refl
  base_below Unknown = tt

  step_below : (inbounds nuw : Bool) (width each : ℕ) (p q : Option machine.Value) (v : machine.Value) → IsBelow p q → IsBelow (stepped memory inbounds nuw width each p v) (stepped memory inbounds nuw width each q v)
  step_below inbounds nuw width each None q v b = tt
  step_below inbounds nuw width each (Some i) q v b = ap (λ q. stepped memory inbounds nuw width each q v) b

  move_below : (m : Move) (v : machine.Value) → IsBelow (moved memory rs m v) (moved memory hs m v)
  move_below (Begin inbounds) v = refl
  move_below (By inbounds nuw width each index) v = step_below inbounds nuw width each (base_value rs index) (base_value hs index) v (base_below index)

  moves_below : (moves : List Move) (p q : Option machine.Value) → IsBelow p q → IsBelow (moved_all memory rs p moves) (moved_all memory hs q moves)
  moves_below moves None q b = tt
  moves_below [] (Some v) q b = ap (λ q. moved_all memory hs q []) b
  moves_below (m ∷ moves) (Some v) q b =
      subst (λ q. IsBelow (moved_all memory rs (moved memory rs m v) moves) (moved_all memory hs q (m ∷ moves))) (sym b)
      (moves_below moves (moved memory rs m v) (moved memory hs m v) (move_below m v))

  pub input_below : (i : Input) → IsBelow (value_of memory rs i) (value_of memory hs i)
  input_below i = moves_below i.moves (base_value rs i.base) (base_value hs i.base) (base_below i.base)

  pub input_covered : (i : Input) (x : machine.Value) → value_of memory rs i ≡ Some x → value_of memory hs i ≡ Some x
  input_covered i x e = subst (λ p. IsBelow p (value_of memory hs i)) e (input_below i)

  -- ---- instructions

  one : (F : Option machine.Value → Computed) → F None ≡ Lost → (a : Input) → LosesMore (F (value_of memory rs a)) (F (value_of memory hs a))
  one F e a = on F e (value_of memory rs a) (value_of memory hs a) (input_below a)

  two : (F : Option machine.Value → Option machine.Value → Computed) → ((q : Option machine.Value) → F None q ≡ Lost) → ((p : Option machine.Value) → F p None ≡ Lost)
      → (a b : Input) → LosesMore (F (value_of memory rs a) (value_of memory rs b)) (F (value_of memory hs a) (value_of memory hs b))
  two F e g a b =
      after (F (value_of memory rs a) (value_of memory rs b)) (F (value_of memory rs a) (value_of memory hs b)) (F (value_of memory hs a) (value_of memory hs b))
      (one (F (value_of memory rs a)) (g (value_of memory rs a)) b)
      (one (λ p. F p (value_of memory hs b)) (e (value_of memory hs b)) a)

  pub arguments_below : (is : List Input) → LosesMore (arguments_pass memory rs is) (arguments_pass memory hs is)
  arguments_below [] = refl
  arguments_below (i ∷ is) = try_below (value_of memory rs i) (value_of memory hs i) (arguments_pass memory rs is) (arguments_pass memory hs is) (input_below i) (arguments_below is)

  pub below : (objects : List Object) (a : Act) → LosesMore (computed memory objects rs a) (computed memory objects hs a)
  below objects (act.Binary kind flags width a b) = two (on_two (binary flags kind width)) (λ q. refl) (no_second (binary flags kind width)) a b
  below objects (act.Compare samesign p width a b) = two (on_two (compare_numbers samesign p width)) (λ q. refl) (no_second (compare_numbers samesign p width)) a b
  below objects (act.ComparePointers p a b) = two (on_two (compare_sized memory p)) (λ q. refl) (no_second (compare_sized memory p)) a b
  below objects (act.Select c a b) =
      after (on_three select (value_of memory rs c) (value_of memory rs a) (value_of memory rs b)) (on_three select (value_of memory hs c) (value_of memory rs a) (value_of memory rs b)) (on_three select (value_of memory hs c) (value_of memory hs a) (value_of memory hs b))
      (one (λ p. on_three select p (value_of memory rs a) (value_of memory rs b)) refl c)
      (two (on_three select (value_of memory hs c)) (λ q. no_middle select (value_of memory hs c) q) (λ p. no_third select (value_of memory hs c) p) a b)
  below objects (act.Convert kind flags from to a) = one (on_one (convert flags kind from to)) refl a
  below objects (act.Freeze a) = one (on_one freeze) refl a
  below objects (act.Address a) = one given refl a
  below objects (act.Slot align) = refl
  below objects (act.Load width bytes align spans address) = one (loaded memory objects width bytes align spans) refl address
  below objects (act.LoadSlot width align spans slot) = on (loaded_slot width align spans) refl (held_at rs slot) (held_at hs slot) (held_below slot)
  below objects (act.WithOverflow kind signed width a b) = two (on_pair (with_overflow kind signed width)) (λ q. refl) (no_other (with_overflow kind signed width)) a b
  below objects (act.Pair kind width a b) = two (on_two (pair kind width)) (λ q. refl) (no_second (pair kind width)) a b
  below objects (act.Assume c) = one assumed refl c
  below objects (act.Extract k part) = on (part_of part) refl (held_at rs k) (held_at hs k) (held_below k)
  below objects (act.Hook arguments) = arguments_below arguments
  below objects (act.Phi arms) = tt
  below objects (act.Store bytes align value address) = tt
  below objects (act.StoreSlot align value slot) = tt
  below objects (act.Call function arguments) = tt
  below objects (act.Goto block) = tt
  below objects (act.Branch c taken other) = tt
  below objects (act.Switch width v cases default) = tt
  below objects (act.Return value) = tt
  below objects act.Unreachable = tt
  below objects act.Unknown = tt

  -- a store into a slot
  pub slot_below : (align : ℕ) (value : Input) (slot : ℕ) → LosesMore (slot_stored align (value_of memory rs value) (held_at rs slot)) (slot_stored align (value_of memory hs value) (held_at hs slot))
  slot_below align value slot =
      after (slot_stored align (value_of memory rs value) (held_at rs slot)) (slot_stored align (value_of memory hs value) (held_at rs slot)) (slot_stored align (value_of memory hs value) (held_at hs slot))
      (one (λ p. slot_stored align p (held_at rs slot)) refl value)
      (on (slot_stored align (value_of memory hs value)) (no_slot (value_of memory hs value)) (held_at rs slot) (held_at hs slot) (held_below slot))
    where
      no_slot : (p : Option machine.Value) → slot_stored align p None ≡ Lost
      no_slot None = refl
      no_slot (Some x) = refl

-- ---- answers

pub answers : (nodes : List Node) (v : Reading) (r : SymComputed) (c d : Computed) → LosesMore c d → AnswersComputed nodes v r d → AnswersComputed nodes v r c
answers nodes v (sym_computed.Sets stuck held) Lost d b h = tt
answers nodes v (sym_computed.Passes stuck) Lost d b h = tt
answers nodes v sym_computed.Lost Lost d b h = tt
answers nodes v r (Sets x) d b h = subst (AnswersComputed nodes v r) b h
answers nodes v r Passes d b h = subst (AnswersComputed nodes v r) b h
answers nodes v r (Sticks x) d b h = subst (AnswersComputed nodes v r) b h

pub passes : (stuck : Bool) (c d : Computed) → LosesMore c d → AnswersPasses stuck d → AnswersPasses stuck c
passes stuck Lost d b h = tt
passes stuck (Sets x) d b h = subst (AnswersPasses stuck) b h
passes stuck Passes d b h = subst (AnswersPasses stuck) b h
passes stuck (Sticks x) d b h = subst (AnswersPasses stuck) b h
