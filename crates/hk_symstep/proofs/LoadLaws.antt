-- Laws of loads and of slots.
use Rattle.std.proofs.Common.{◌≡◌, ◌-◌, ℕ, Bool, true, false, not, ◌||◌, if◌then◌else◌, nat_eq, Option, Some, None, List, refl, sym, ap, subst}
use Rattle.ir_value.specs.declared.value.Value.{Value}
use Rattle.ir_value.specs.declared.value.Value.TheVariants.{Number, Null, Address, Poison}
use Rattle.ir_value.specs.declared.value.StuckReason.TheVariants.{U16}
use Rattle.ir_value.specs.declared.value.Made.{Made}
use Rattle.ir_value.specs.declared.value.Made.TheVariants as made_of
use Rattle.ir_value.specs.declared.access.Access.{Access}
use Rattle.ir_value.specs.declared.access.Access.TheVariants.{At, Not, Nowhere}
use Rattle.ir_code.specs.declared.act.Span.{Span}
use Rattle.ir_code.specs.declared.program.Object.{Object}
use Rattle.ir_machine.specs.declared.state.Held.TheVariants as held
use Rattle.ir_machine.specs.declared.state.Computed.TheVariants.{Sets, Sticks, Lost}
use Rattle.ir_machine.specs.Values.{is_in_spans, within_spans, slot_loaded, loaded, loaded_from, reached, are_bytes}
use Rattle.ir_machine.specs.Step.{put_slot}
use Rattle.hk_symvalue.specs.Meaning.{stands_for}
use Rattle.hk_symvalue.specs.Rows.{Answers}
use Rattle.hk_symaccess.specs.Accesses.{loaded_number, loaded_at}
use Rattle.hk_symstep.specs.Steps.{AnswersSets, leaves_spans, by_spans}

-- a value against the stated spans
pub spanned : (w : ℕ) (spans : Option (List Span)) (v : Value) → AnswersSets (leaves_spans w spans v) (held.Value v) (within_spans w spans v)
spanned w spans Null = (refl, refl)
spanned w spans (Address o x) = (refl, refl)
spanned w spans Poison = (refl, refl)
spanned w spans (Number n) = at (is_in_spans w n spans)
  where
    at : (b : Bool) → AnswersSets (not b) (held.Value (Number n)) (if b then Sets (held.Value (Number n)) else Sticks U16)
    at true = (refl, refl)
    at false = refl

pub as_spans : (memory : List (List ℕ)) (objects : List Object) (w bytes align : ℕ) (spans : Option (List Span)) (v : Value)
    → loaded memory objects w bytes align spans (Some v) ≡ by_spans w spans (loaded_number memory objects bytes align v)
as_spans memory objects w bytes align spans v = at (are_bytes bytes) (reached memory objects bytes align v)
  where
    at : (b : Bool) (a : Access) → (if b then loaded_from memory w bytes spans a else Lost) ≡ by_spans w spans (if b then loaded_at memory bytes a else made_of.Lost)
    at true (At o x) = refl
    at true (Not r) = refl
    at true Nowhere = refl
    at false a = refl

made_spans : (w : ℕ) (spans : Option (List Span)) (s : Bool) (x : Value) (m : Made) → Answers s x m → AnswersSets (s || leaves_spans w spans x) (held.Value x) (by_spans w spans m)
made_spans w spans s x (made_of.Gives y) h =
    subst (λ s. AnswersSets (s || leaves_spans w spans x) (held.Value x) (within_spans w spans y)) (sym h.0)
    (subst (λ y. AnswersSets (leaves_spans w spans x) (held.Value x) (within_spans w spans y)) h.1 (spanned w spans x))
made_spans w spans s x (made_of.Sticks r) h = ap (λ s. s || leaves_spans w spans x) h
made_spans w spans s x made_of.Lost h = tt

pub made_by : (w : ℕ) (spans : Option (List Span)) (s : Bool) (x : Value) (t : Bool) (y : Value) (m : Made) → t ≡ (s || leaves_spans w spans x) → y ≡ x → Answers s x m
    → AnswersSets t (held.Value y) (by_spans w spans m)
made_by w spans s x t y m e f h =
    subst (λ t. AnswersSets t (held.Value y) (by_spans w spans m)) (sym e)
    (subst (λ y. AnswersSets (s || leaves_spans w spans x) (held.Value y) (by_spans w spans m)) (sym f) (made_spans w spans s x m h))

-- ---- slots

pub stored : (w : ℕ) (spans : Option (List Span)) (filled : Bool) (x : Value) (t : Bool) (y : Value) → t ≡ (not filled || leaves_spans w spans x) → y ≡ x
    → AnswersSets t (held.Value y) (slot_loaded w spans (if filled then Some x else None))
stored w spans true x t y e f =
    subst (λ t. AnswersSets t (held.Value y) (within_spans w spans x)) (sym e)
    (subst (λ y. AnswersSets (leaves_spans w spans x) (held.Value y) (within_spans w spans x)) (sym f) (spanned w spans x))
stored w spans false x t y e f = e

pub puts : (align : ℕ) (p : Bool) (base bits : ℕ) (t : Bool) (h : Option Value) → t ≡ p → h ≡ Some (stands_for p base bits)
    → AnswersSets t (held.Slot align h) (put_slot align (stands_for p base bits))
puts align true base bits t h e f = e
puts align false base bits t h e f = at (nat_eq base 0) (nat_eq base 1) f
  where
    at : (none null : Bool) → h ≡ Some (if none then Number bits else (if null then Null else Address (base - 2) bits))
        → AnswersSets t (held.Slot align h) (put_slot align (if none then Number bits else (if null then Null else Address (base - 2) bits)))
    at true null f = (e, ap (held.Slot align) f)
    at false true f = (e, ap (held.Slot align) f)
    at false false f = (e, ap (held.Slot align) f)
