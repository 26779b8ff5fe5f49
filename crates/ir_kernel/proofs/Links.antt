-- Expanded lengths of functions bound those of their code, and runs of that many steps end.
use Rattle.std.proofs.Common.{◌≡◌, ◌≢◌, ℕ, ◌+◌, ◌≤◌, true, Option, Some, None, List, [], ◌∷◌, map, refl, ◌∙◌, ap, arith}
use Rattle.std.specs.Prelude.{slice_get, flat_map, option_to_list, is_some, bytes_eq, sum, sum_by}
use Rattle.std.specs.List.{IsDistinct}
use Rattle.std.proofs.lemmas.List.{append-nil}
use Rattle.std.proofs.lemmas.List.Sums.{sum_by-cons, sum_by-append, sum-map}
use Rattle.ir_ast.specs.Program.{InstrView, BlockView, FunctionView, ModuleView}
use Rattle.ir_ast.specs.Table.{names_of}
use Rattle.ir_typing.specs.Registers.{blocks_of, has_body}
use Rattle.ir_check.specs.Paths as paths
use Rattle.ir_check.specs.Paths.{IsLength}
use Rattle.ir_check.specs.Checked as checked
use Rattle.ir_check.proofs.Lengths.{one_length}
use Rattle.ir_code.specs.declared.program.Block.{Block}
use Rattle.ir_machine.specs.declared.state.End.TheVariants.{Unfinished}
use Rattle.ir_machine.specs.Step.{run, start}
use Rattle.ir_resolve.specs.Resolved.{step_of, block_of, code_of, program_of}
use Rattle.ir_walk.specs.Walk.{Memory, end_of_walk}
use Rattle.ir_walk.specs.LoopFree.{weight, weight_of, body_of, AreLengths}
use Rattle.ir_walk.proofs.Done.{run_is_end, run_has_end}
use Rattle.ir_kernel.specs.Orders.{IsOrderAt, AreOrders, AreOrdered, length_of_entry, length_at}
use Rattle.ir_kernel.proofs.CodeActs.{function_place, weighs}
use Rattle.ir_kernel.proofs.CodePlaces.{body_there, body_none, placed, own_function, has_blocks}
use Rattle.ir_kernel.proofs.CodeOrders.{loop_free}

module _ (m : ModuleView) (L : List ℕ → ℕ) (distinct : IsDistinct bytes_eq (names_of m.functions)) (lengths : checked.AreLengths m L) where
  abbrev E : ℕ → ℕ
  E = length_at m L

  at_name : (x : List ℕ) → has_body m x ≡ true → E (function_place m x) ≡ L x
  at_name x b = ap (length_of_entry L) (placed m x b).there

  steps_weigh : (f : FunctionView) (is : List InstrView) → weight_of E (map (step_of m f) is) ≤ sum_by (paths.weight L) is
  steps_weigh f [] = omega arith
  steps_weigh f (i ∷ is) =
      let a = sum_by-cons (λ s. weight E s.act) (step_of m f i) (map (step_of m f) is) in
      let b = sum_by-cons (paths.weight L) i is in
      let own = weighs m f E L i.act at_name in
      let rest = steps_weigh f is in
      omega (arith, a, b, own, rest)

  blocks_weigh : (f : FunctionView) (bs : List BlockView) → sum_by (λ (b : Block). weight_of E b.steps) (map (block_of m f) bs) ≤ sum_by (paths.weight L) (flat_map (λ (b : BlockView). b.instrs) bs)
  blocks_weigh f [] = omega arith
  blocks_weigh f (b ∷ bs) =
      let a = sum_by-cons (λ (b : Block). weight_of E b.steps) (block_of m f b) (map (block_of m f) bs) in
      let c = sum_by-append (paths.weight L) b.instrs (flat_map (λ (b : BlockView). b.instrs) bs) in
      let own = steps_weigh f b.instrs in
      let rest = blocks_weigh f bs in
      omega (arith, a, c, own, rest)

  own_body : (p : ℕ) (e : List ℕ × FunctionView) → slice_get m.functions p ≡ Some e → paths.body_of m e.0 ≡ flat_map (λ (b : BlockView). b.instrs) (blocks_of e.1)
  own_body p e h =
      ap (λ (o : Option FunctionView). flat_map (λ (b : BlockView). b.instrs) (flat_map blocks_of (option_to_list o))) (own_function m p e distinct h)
      ∙ ap (flat_map (λ (b : BlockView). b.instrs)) (append-nil (blocks_of e.1))

  pub code_lengths : AreLengths (program_of m) E
  code_lengths p = by (slice_get m.functions p) refl
    where
      by : (o : Option (List ℕ × FunctionView)) → slice_get m.functions p ≡ o → sum_by (λ (b : Block). weight_of E b.steps) (body_of (program_of m) p) ≤ length_at m L p
      by None h =
          let n : sum_by (λ (b : Block). weight_of E b.steps) (body_of (program_of m) p) ≡ 0 = ap (sum_by (λ (b : Block). weight_of E b.steps)) (body_none m p h) in
          omega (arith, n)
      by (Some e) h =
          let n = ap (sum_by (λ (b : Block). weight_of E b.steps)) (body_there m p e h) in
          let all = blocks_weigh e.1 (blocks_of e.1) in
          let own : length_at m L p ≡ L e.0 = ap (length_of_entry L) h in
          let told = lengths e.0 in
          let same : sum (map (paths.weight L) (paths.body_of m e.0)) ≡ sum_by (paths.weight L) (flat_map (λ (b : BlockView). b.instrs) (blocks_of e.1)) =
          ap (λ is. sum (map (paths.weight L) is)) (own_body p e h) ∙ sum-map (paths.weight L) (flat_map (λ (b : BlockView). b.instrs) (blocks_of e.1)) in
          omega (arith, n, all, own, told, same)

  one : (p n : ℕ) (e : List ℕ × FunctionView) → slice_get m.functions p ≡ Some e → IsLength m e.0 n → E p ≡ n
  one p n e h l =
      let mine : IsLength m e.0 (L e.0) = record { length_of = L; sums = λ g led. lengths g; is = refl } in
      ap (length_of_entry L) h ∙ one_length m e.0 (L e.0) n mine l

module _ (m : ModuleView) (c : checked.IsChecked m) (distinct : IsDistinct bytes_eq (names_of m.functions)) where
  pub run_walks : (order : ℕ → List ℕ) → AreOrders m order → (f : ℕ) (e : List ℕ × FunctionView) (n : ℕ) (arguments : List ℕ) (memory : Memory) → slice_get m.functions f ≡ Some e → is_some e.1.body ≡ true
      → IsLength m e.0 n → run (program_of m) n (start (code_of m e.1) f arguments memory) ≡ end_of_walk (program_of m) order (n + 1) (code_of m e.1) f arguments memory
  run_walks order are f e n arguments memory h body l =
      let L = c.lengths.0 in
      let E = length_at m L in
      let bound = code_lengths m L distinct c.lengths.1 in
      let is : E f ≡ n = one m L distinct c.lengths.1 f n e h l in
      run_is_end (program_of m) order E E (loop_free m c order are E bound) bound (n + 1) f n (code_of m e.1) arguments memory (has_blocks m f e c.shaped h body) (omega (arith, is)) (omega (arith, is))

  abbrev order_from : AreOrdered m → (p : ℕ) (o : Option (List ℕ × FunctionView)) → slice_get m.functions p ≡ o → List ℕ
  order_from ordered p None h = []
  order_from ordered p (Some e) h = (ordered p e h).0

  orders_from : (ordered : AreOrdered m) (p : ℕ) (o : Option (List ℕ × FunctionView)) (h : slice_get m.functions p ≡ o) → IsOrderAt o (order_from ordered p o h)
  orders_from ordered p None h = refl
  orders_from ordered p (Some e) h = (ordered p e h).1

  pub run_ends : AreOrdered m → (f : ℕ) (e : List ℕ × FunctionView) (n : ℕ) (arguments : List ℕ) (memory : Memory) → slice_get m.functions f ≡ Some e → is_some e.1.body ≡ true
      → IsLength m e.0 n → run (program_of m) n (start (code_of m e.1) f arguments memory) ≢ Unfinished
  run_ends ordered f e n arguments memory h body l =
      let L = c.lengths.0 in
      let E = length_at m L in
      let bound = code_lengths m L distinct c.lengths.1 in
      let is : E f ≡ n = one m L distinct c.lengths.1 f n e h l in
      let order : ℕ → List ℕ = λ p. order_from ordered p (slice_get m.functions p) refl in
      let are : AreOrders m order = λ p. orders_from ordered p (slice_get m.functions p) refl in
      run_has_end (program_of m) order E E (loop_free m c order are E bound) bound f n (code_of m e.1) arguments memory (has_blocks m f e c.shaped h body) (omega (arith, is))
