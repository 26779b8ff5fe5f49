-- What terms tell of the end of a run.
use Rattle.std.proofs.Common.{◌≡◌, ◌≢◌, ℕ, ◌-◌, ◌%◌, ◌<◌, ◌^◌, Bool, true, false, Option, Some, None, List, refl, sym, ◌∙◌, ap, subst}
use Rattle.std.specs.Prelude.{if◌then◌else◌, nat_eq}
use Rattle.std.proofs.Math.Nat.{mod-eq_of_lt}
use Rattle.hk_term.specs.Meaning.{Reading, value}
use Rattle.hk_term.specs.declared.node.Node.{Node}
use Rattle.ir_ast.specs.Plain.{Ty, nothing, integer, pointer, array, structure, packed, named, opaque}
use Rattle.ir_ast.specs.Program.{FunctionView, ModuleView}
use Rattle.ir_type.specs.Whole.{meant}
use Rattle.ir_value.specs.declared.value.Value.{Value}
use Rattle.ir_value.specs.declared.value.Value.TheVariants.{Number, Null, Address}
use Rattle.ir_machine.specs.declared.state.End.{End}
use Rattle.ir_machine.specs.declared.state.End.TheVariants.{Returned, Stuck, Lost, Unfinished}
use Rattle.ir_kernel.specs.declared.ends.RunEnd.{RunEnd}
use Rattle.ir_kernel.specs.declared.ends.RunEnd.TheVariants as end
use Rattle.ir_kernel.specs.Runs.{IsRun}
use Rattle.ir_kernel.specs.Ends.{IsEndOfRun, seen}
use Rattle.ir_typed.specs.Endings.{IsRunnable, IsFitCall}
use Rattle.ir_typed.proofs.WholeRuns.{run_not_lost, run_gives, run_gives_nothing}
use Rattle.hk_symvalue.specs.declared.value.SymValue.{SymValue}
use Rattle.hk_symvalue.specs.Meaning.{IsTruth, is_true, stands_for, meaning}
use Rattle.hk_symvalue.specs.Growth.{Extends}
use Rattle.hk_symmem.specs.Guarded.{MemoryView, memory_at, IsOver, Keeps}
use Rattle.hk_symmem.proofs.Laws.{over_grows, memory_grows}
use Rattle.hk_symstep.specs.Held.{value_meaning}
use Rattle.hk_symexec.specs.Tracks.{HoldsBack}
use Rattle.hk_symexec.specs.Runs.{Tells}
use Rattle.hk_symresult.specs.Results.{Gives, TellsResult, TellsEnd}

-- ---- numbers

-- the bits of a number are the number
pub number_bits : (poison : Bool) (base bits n : ℕ) → stands_for poison base bits ≡ Number n → bits ≡ n
number_bits true base bits n e = cc
number_bits false base bits n e = by (nat_eq base 0) (nat_eq base 1) e
  where
    by : (zero one : Bool) → (if zero then Number bits else (if one then Null else Address (base - 2) bits)) ≡ Number n → bits ≡ n
    by true one e = cc
    by false true e = cc
    by false false e = cc

some_same : {A : Type 0} (x y : A) → Some x ≡ Some y → x ≡ y
some_same x y e = cc

pub numbered : (nodes : List Node) (v : Reading) (s : SymValue) (w n : ℕ) → n < 2 ^ w → value_meaning nodes v (Some s) ≡ Some (Number n) → value nodes s.bits v % 2 ^ w ≡ n
numbered nodes v s w n low e =
    let whole : meaning nodes s v ≡ Number n = some_same (meaning nodes s v) (Number n) e in
    let bits : value nodes s.bits v ≡ n = number_bits (is_true nodes s.poison v) (value nodes s.base v) (value nodes s.bits v) n whole in
    ap (λ k. k % 2 ^ w) bits ∙ mod-eq_of_lt low

-- ---- a longer list

pub keeps : (old new : List Node) → Extends old new → Keeps old new
keeps old new g = record { longer = g.longer; widths = g.widths; values = g.values }

pub over_kept : (old new : List Node) (m : MemoryView) → Extends old new → IsOver old m → IsOver new m
over_kept old new m g o = over_grows old new m (keeps old new g) o

pub memory_kept : (old new : List Node) (m : MemoryView) → Extends old new → IsOver old m → (v : Reading) → memory_at new m v ≡ memory_at old m v
memory_kept old new m g o = memory_grows old new m (keeps old new g) o

-- ---- ends

module _ (m : ModuleView) (function : ℕ) (arguments : List ℕ) (memory : List (List ℕ)) (called : FunctionView) (runs : IsRunnable m) (call : IsFitCall m function arguments memory called)
    (w : ℕ) (gives : Gives (meant m.types called.result) w) (mid new : List Node) (v : Reading) (undefined : ℕ) (held : Option SymValue) (result : Option ℕ) (after : MemoryView)
    (grown : Extends mid new) (truth : IsTruth mid undefined) (over : IsOver mid after)
    (none : w ≡ 0 → result ≡ None) (number : (n : ℕ) → n < 2 ^ w → value_meaning mid v held ≡ Some (Number n) → TellsResult new v result (Some n))
    (tells : (e : End) → IsRun m function arguments memory e → Tells mid v undefined held after e) where
  same_truth : is_true new undefined v ≡ is_true mid undefined v
  same_truth = ap (λ n. nat_eq n 1) (grown.values undefined truth.0 v)

  module _ (value : Option Value) (last : List (List ℕ)) (run : IsRun m function arguments memory (Returned value last)) (t : Tells mid v undefined held after (Returned value last)) where
    back : (seen_value : Option ℕ) → TellsResult new v result seen_value → TellsEnd new v undefined result after (end.Returned seen_value last)
    back seen_value told = (same_truth ∙ t.0, memory_kept mid new after grown over v ∙ t.2, told)

    returned : (type : Ty) → meant m.types called.result ≡ type → Gives type w → TellsEnd new v undefined result after (seen (Returned value last))
    returned nothing is g =
        let p = run_gives_nothing m function arguments memory called runs call value last is run in
        subst (λ x. TellsEnd new v undefined result after (seen (Returned x last))) (sym p.0) (back None (subst (λ r. TellsResult new v r None) (sym (none g)) tt))
    returned (integer u) is g =
        let p = run_gives m function arguments memory called runs call u value last is run in
        let low : p.0 < 2 ^ w = subst (λ k. p.0 < 2 ^ k) g p.2 in
        let here : value_meaning mid v held ≡ Some (Number p.0) = subst (HoldsBack (value_meaning mid v held)) p.1 t.1 in
        subst (λ x. TellsEnd new v undefined result after (seen (Returned x last))) (sym p.1) (back (Some p.0) (number p.0 low here))
    returned pointer is g = absurd g
    returned (array n x) is g = absurd g
    returned (structure xs) is g = absurd g
    returned (packed xs) is g = absurd g
    returned (named x) is g = absurd g
    returned opaque is g = absurd g

  told_whole : (e : End) → IsRun m function arguments memory e → e ≢ Unfinished → TellsEnd new v undefined result after (seen e)
  told_whole (Returned value last) run going = returned value last run (tells (Returned value last) run) (meant m.types called.result) refl gives
  told_whole (Stuck reason line) run going = same_truth ∙ tells (Stuck reason line) run
  told_whole Lost run going = absurd (run_not_lost m function arguments memory called runs call Lost run refl)
  told_whole Unfinished run going = absurd (going refl)

  pub told : (e : RunEnd) → IsEndOfRun m function arguments memory e → TellsEnd new v undefined result after e
  told e it = subst (TellsEnd new v undefined result after) (sym it.is) (told_whole it.whole it.run it.finished)
