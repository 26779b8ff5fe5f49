-- The registers of a function as it begins, one after the other.
use Rattle.std.proofs.Common.{◌≡◌, ◌+◌, ℕ, zero, suc, Option, Some, None, List, [], ◌∷◌, ◌++◌, length, refl, sym, ap, ◌∙◌, subst, arith, length-append}
use Rattle.std.proofs.lemmas.Option.{none-some}
use Rattle.std.proofs.lemmas.List.{append_assoc}
use Rattle.hk_term.specs.Meaning.{Reading}
use Rattle.hk_term.specs.declared.node.Node.{Node}
use Rattle.ir_value.specs.declared.value.Value.{Value}
use Rattle.ir_code.specs.declared.input.Input.{Input}
use Rattle.ir_machine.specs.declared.state.Held.{Held}
use Rattle.ir_machine.specs.Values.{Registers, held_at, value_of}
use Rattle.ir_machine.specs.Step.{argument_held, argument_registers, unset}
use Rattle.hk_symvalue.specs.declared.value.SymValue.{SymValue}
use Rattle.hk_symvalue.specs.Growth.{Extends}
use Rattle.hk_symvalue.proofs.Frames.{followed}
use Rattle.hk_symmem.specs.Guarded.{MemoryView, IsOver, memory_at}
use Rattle.hk_symstep.specs.declared.state.SymHeld.{SymHeld}
use Rattle.hk_symstep.specs.Held.{place_meaning, value_meaning, IsPlace}
use Rattle.hk_symstep.specs.Files.{File, IsFile, IsWithin, Covers, registers_of}
use Rattle.hk_symexec.proofs.Kept.{file_kept, registers_kept, memory_kept}
use Rattle.hk_symexec.proofs.PhiLaws.{covers_kept}

-- one register more on both sides
pub within_push : (xs ys : Registers) (a b : Option Held) → IsWithin xs ys → ((h : Held) → a ≡ Some h → b ≡ Some h) → IsWithin (xs ++ a ∷ []) (ys ++ b ∷ [])
within_push xs ys a b w h = record { size = long xs ys w.size; same = same xs ys w.size w.same }
  where
    long : (xs ys : Registers) → length xs ≡ length ys → length (xs ++ a ∷ []) ≡ length (ys ++ b ∷ [])
    long xs ys e = length-append xs (a ∷ []) ∙ ap (λ n. n + 1) e ∙ sym (length-append ys (b ∷ []))

    same : (xs ys : Registers) → length xs ≡ length ys → ((k : ℕ) (g : Held) → held_at xs k ≡ Some g → held_at ys k ≡ Some g)
        → (k : ℕ) (g : Held) → held_at (xs ++ a ∷ []) k ≡ Some g → held_at (ys ++ b ∷ []) k ≡ Some g
    same [] [] e s zero g q = h g q
    same [] [] e s (suc k) g q = absurd (none-some g q)
    same [] (y ∷ ys) e s k g q = absurd (omega (arith, e))
    same (x ∷ xs) [] e s k g q = absurd (omega (arith, e))
    same (x ∷ xs) (y ∷ ys) e s zero g q = s zero g q
    same (x ∷ xs) (y ∷ ys) e s (suc k) g q = same xs ys (omega (arith, e)) (λ j. s (suc j)) k g q

pub file_push : (nodes : List Node) (file : File) (p : Option SymHeld) → IsFile nodes file → IsPlace nodes p → IsFile nodes (file ++ p ∷ [])
file_push nodes [] p i h zero = h
file_push nodes [] p i h (suc k) = tt
file_push nodes (q ∷ file) p i h zero = i zero
file_push nodes (q ∷ file) p i h (suc k) = file_push nodes file p (λ j. i (suc j)) h k

pub registers_push : (nodes : List Node) (v : Reading) (file : File) (p : Option SymHeld) → registers_of nodes v (file ++ p ∷ []) ≡ registers_of nodes v file ++ place_meaning nodes v p ∷ []
registers_push nodes v [] p = refl
registers_push nodes v (q ∷ file) p = ap (λ l. place_meaning nodes v q ∷ l) (registers_push nodes v file p)

pub arguments_push : (memory : List (List ℕ)) (rs : Registers) (is : List Input) (i : Input) → argument_registers memory rs (is ++ i ∷ []) ≡ argument_registers memory rs is ++ argument_held (value_of memory rs i) ∷ []
arguments_push memory rs [] i = refl
arguments_push memory rs (j ∷ is) i = ap (λ l. argument_held (value_of memory rs j) ∷ l) (arguments_push memory rs is i)

-- the arguments that were read
pub record Passing (first now : List Node) (file : File) (m : MemoryView) (arguments : List Input) (places : File) : Type 0 where
  pub frame : Extends first now
  pub within : IsFile now places
  pub covered : (v : Reading) (rs : Registers) → Covers first v file rs → IsWithin (argument_registers (memory_at first m v) rs arguments) (registers_of now v places)

pub passing_on : (first now new : List Node) (file : File) (m : MemoryView) (arguments : List Input) (i : Input) (places : File) (value : Option SymValue) (p : Option SymHeld)
    → Passing first now file m arguments places → IsFile first file → IsOver first m → Extends now new → IsPlace new p
    → ((v : Reading) → place_meaning new v p ≡ argument_held (value_meaning new v value))
    → ((v : Reading) (rs : Registers) (x : Value) → Covers now v file rs → value_of (memory_at now m v) rs i ≡ Some x → value_meaning new v value ≡ Some x)
    → Passing first new file m (arguments ++ i ∷ []) (places ++ p ∷ [])
passing_on first now new file m arguments i places value p s in_first over grown place meant covered = record {
  frame = followed first now new s.frame grown;
  within = file_push new places p (file_kept now new grown places s.within) place;
  covered = λ v rs w.
      subst (λ xs. IsWithin xs (registers_of new v (places ++ p ∷ []))) (sym (arguments_push (memory_at first m v) rs arguments i))
      (subst (λ ys. IsWithin (argument_registers (memory_at first m v) rs arguments ++ argument_held (value_of (memory_at first m v) rs i) ∷ []) ys) (sym (registers_push new v places p))
      (within_push (argument_registers (memory_at first m v) rs arguments) (registers_of new v places) (argument_held (value_of (memory_at first m v) rs i)) (place_meaning new v p)
      (subst (IsWithin (argument_registers (memory_at first m v) rs arguments)) (sym (registers_kept now new grown places s.within v)) (s.covered v rs w))
      (held v rs (covers_kept first now s.frame file in_first v rs w))));
}
  where
    held : (v : Reading) (rs : Registers) → Covers now v file rs → (h : Held) → argument_held (value_of (memory_at first m v) rs i) ≡ Some h → place_meaning new v p ≡ Some h
    held v rs w h q = meant v ∙ by (value_of (memory_at first m v) rs i) refl q
      where
        by : (o : Option Value) → value_of (memory_at first m v) rs i ≡ o → argument_held o ≡ Some h → argument_held (value_meaning new v value) ≡ Some h
        by None e q = absurd (none-some h q)
        by (Some x) e q = ap argument_held (covered v rs x w (ap (λ k. value_of k rs i) (memory_kept first now s.frame m over v) ∙ e)) ∙ q

pub unset_more : (n : ℕ) → unset (suc n) ≡ unset n ++ None ∷ []
unset_more zero = refl
unset_more (suc n) = ap (λ l. None ∷ l) (unset_more n)

-- one register more that is not set
pub unset_on : (nodes : List Node) (v : Reading) (arguments : Registers) (n : ℕ) (places : File) → IsWithin (arguments ++ unset n) (registers_of nodes v places)
    → IsWithin (arguments ++ unset (n + 1)) (registers_of nodes v (places ++ None ∷ []))
unset_on nodes v arguments n places w =
    let next : n + 1 ≡ suc n = omega arith in
    subst (λ xs. IsWithin xs (registers_of nodes v (places ++ None ∷ [])))
    (append_assoc arguments (unset n) (None ∷ []) ∙ ap (λ l. arguments ++ l) (sym (unset_more n) ∙ ap unset (sym next)))
    (subst (λ ys. IsWithin ((arguments ++ unset n) ++ None ∷ []) ys) (sym (registers_push nodes v places None))
    (within_push (arguments ++ unset n) (registers_of nodes v places) None None w (λ h q. q)))
