-- A block that ends in a terminator is entered before its last instruction, since no phi is one.
use Rattle.std.proofs.Common.{◌≡◌, ℕ, suc, ◌+◌, true, false, List, [], ◌∷◌, ◌++◌, length, drop, Option, Some, None, refl, sym, ap, ◌∙◌, subst, arith, length-append}
use Rattle.std.proofs.lemmas.Bool.{false≢true}
use Rattle.std.proofs.lemmas.Option.{none-some}
use Rattle.std.specs.Option.{unwrap_or}
use Rattle.ir_value.specs.declared.value.Value.{Value}
use Rattle.ir_code.specs.declared.act.Step.{Step}
use Rattle.ir_code.specs.declared.act.Act.{Act}
use Rattle.ir_code.specs.declared.act.Act.TheVariants as act
use Rattle.ir_code.specs.declared.program.Program.{Program}
use Rattle.ir_machine.specs.declared.state.Head.{Head}
use Rattle.ir_machine.specs.declared.state.Head.TheVariants as head
use Rattle.ir_machine.specs.Values.{Registers}
use Rattle.ir_machine.specs.Step.{steps_of, head_of, staged_on, staged}
use Rattle.ir_walk.specs.Walk.{Memory, Flow, Goes, Back, Stops, Callee, on_entry, walk_steps}
use Rattle.ir_walk.specs.LoopFree.{is_terminator, ends_behind, ends_in_terminator}
use Rattle.ir_walk.proofs.Through.{Holds, HoldsOf, steps_hold}

-- where the block ends in a terminator, instructions are left at the place that is entered
abbrev pub Enters : Program → ℕ → Flow → Type 0
Enters P f (Goes to position rs memory) = ends_in_terminator (steps_of P f to) ≡ true → ends_in_terminator (drop position (steps_of P f to)) ≡ true
Enters P f (Back v memory) = Unit
Enters P f (Stops end) = Unit

abbrev IsReading : Head → Type 0
IsReading (head.Reads k v) = Unit
IsReading head.Ends = ⊥
IsReading head.Lost = ⊥

-- the place behind the phis
abbrev Stands : List Step → List (ℕ × Value) → List (ℕ × Value) → Type 0
Stands ss found ps = (j : ℕ) × (length ps ≡ length found + j) × (ends_in_terminator (drop j ss) ≡ true)

some_is : {X : Type 0} (x y : X) → Some x ≡ Some y → x ≡ y
some_is x y e = ap (λ o. unwrap_or o x) e

stands_here : (ss : List Step) (found ps : List (ℕ × Value)) → Some found ≡ Some ps → ends_in_terminator ss ≡ true → Stands ss found ps
stands_here ss found ps e ends = (0, sym (ap length (some_is found ps e)) ∙ omega (arith), ends)

stands_on : (s : Step) (ss : List Step) (found ps : List (ℕ × Value)) (k : ℕ) (v : Value) → Stands ss (found ++ (k, v) ∷ []) ps → Stands (s ∷ ss) found ps
stands_on s ss found ps k v here =
    let more : length (found ++ (k, v) ∷ []) ≡ length found + 1 = length-append found ((k, v) ∷ []) in
    (suc here.0, omega (arith, here.1, more), here.2)

module _ (memory : Memory) (rs : Registers) (from : ℕ) where
  reads_on : (result : Option ℕ) (a : Act) → IsReading (head_of memory rs from result a) → is_terminator a ≡ false
  reads_on result (act.Phi arms) reads = refl
  reads_on result a reads = absurd reads

  at_head : (s : Step) (ss : List Step) (found ps : List (ℕ × Value)) (h : Head)
      → ((more : List (ℕ × Value)) → staged memory rs from ss more ≡ Some ps → ends_in_terminator ss ≡ true → Stands ss more ps)
      → staged_on h found (staged memory rs from ss) ≡ Some ps → ends_in_terminator (s ∷ ss) ≡ true
      → (IsReading h → ends_in_terminator ss ≡ true) → Stands (s ∷ ss) found ps
  at_head s ss found ps head.Ends tail e ends reads = stands_here (s ∷ ss) found ps e ends
  at_head s ss found ps head.Lost tail e ends reads = absurd (none-some ps e)
  at_head s ss found ps (head.Reads k v) tail e ends reads = stands_on s ss found ps k v (tail (found ++ (k, v) ∷ []) e (reads tt))

  stands : (ss : List Step) (found ps : List (ℕ × Value)) → staged memory rs from ss found ≡ Some ps → ends_in_terminator ss ≡ true → Stands ss found ps
  stands [] found ps e ends = absurd (false≢true ends)
  stands (s ∷ ss) found ps e ends =
      at_head s ss found ps (head_of memory rs from s.result s.act) (λ more. stands ss more ps) e ends
      (λ reads. subst (λ t. ends_behind t ss ≡ true) (reads_on s.result s.act reads) ends)

  entry_enters : (P : Program) (f to : ℕ) (o : Option (List (ℕ × Value))) → staged memory rs from (steps_of P f to) [] ≡ o
      → Enters P f (on_entry to rs memory o)
  entry_enters P f to None e = tt
  entry_enters P f to (Some ps) e =
      λ ends.
      let here = stands (steps_of P f to) [] ps e ends in
      let same : here.0 ≡ length ps = omega (arith, here.1) in
      subst (λ j. ends_in_terminator (drop j (steps_of P f to)) ≡ true) same here.2

enters_of_callee : (P : Program) (f : ℕ) (flow : Flow) → HoldsOf (Enters P f) flow
enters_of_callee P f (Goes to position rs memory) = tt
enters_of_callee P f (Back v memory) = tt
enters_of_callee P f (Stops end) = tt

-- wherever the instructions of a block lead, they lead behind its phis
pub steps_enter : (W : Callee) (P : Program) (f b : ℕ) (ss : List Step) (rs : Registers) (memory : Memory) → Enters P f (walk_steps W P f b ss rs memory)
steps_enter W P f b ss rs memory =
    let holds : Holds (Enters P f) = record { lost = tt; stuck = λ r line. tt; back = λ v memory'. tt } in
    steps_hold (Enters P f) holds W P f b ss
    (λ s to in_ss in_targets rs' memory'. entry_enters memory' rs' b P f to (staged memory' rs' b (steps_of P f to) []) refl)
    (λ s g in_ss in_callees rs' memory'. enters_of_callee P f (W g rs' memory')) rs memory
