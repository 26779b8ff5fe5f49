-- Laws of ranges that loads state.
use Rattle.std.proofs.Common.{◌≡◌, ◌-◌, ℕ, Bool, true, false, not, ◌&&◌, if◌then◌else◌, nat_eq, Some, None, List, refl}
use Rattle.ir_value.specs.declared.value.Value.{Value}
use Rattle.ir_value.specs.declared.value.Value.TheVariants.{Number, Null, Address, Poison}
use Rattle.ir_code.specs.declared.act.Span.{Span}
use Rattle.ir_machine.specs.Values.{is_in_any}
use Rattle.hk_symvalue.specs.Meaning.{stands_for}
use Rattle.hk_symstep.specs.Steps.{leaves_spans}

pub left : (w : ℕ) (spans : List Span) (p : Bool) (base bits : ℕ)
    → ((not p && nat_eq base 0) && not (is_in_any w bits spans)) ≡ leaves_spans w (Some spans) (stands_for p base bits)
left w spans true base bits = refl
left w spans false base bits = at (nat_eq base 0) (nat_eq base 1)
  where
    at : (none null : Bool) → ((true && none) && not (is_in_any w bits spans)) ≡ leaves_spans w (Some spans) (if none then Number bits else (if null then Null else Address (base - 2) bits))
    at true null = refl
    at false true = refl
    at false false = refl

pub unstated : (w : ℕ) (v : Value) → false ≡ leaves_spans w None v
unstated w (Number n) = refl
unstated w Null = refl
unstated w (Address o x) = refl
unstated w Poison = refl
