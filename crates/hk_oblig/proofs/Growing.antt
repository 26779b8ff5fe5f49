-- What terms stand for, and what they tell, stays as their list grows.
use Rattle.std.proofs.Common.{◌≡◌, ◌<◌, ◌↔◌, ℕ, zero, suc, Bool, nat_eq, IsTrue, Option, Some, None, option_map, List, [], ◌∷◌, length, slice_index, slice_index_or, refl, sym, ap, ◌∙◌, subst, arith}
use Rattle.std.specs.Prelude.{All, slice_get}
use Rattle.hk_term.specs.Meaning.{Reading, value}
use Rattle.hk_term.specs.declared.node.Node.{Node}
use Rattle.ir_ast.specs.Program.{ModuleView}
use Rattle.ir_kernel.specs.declared.ends.RunEnd.{RunEnd}
use Rattle.ir_kernel.specs.declared.ends.RunEnd.TheVariants.{Returned, Stuck, Lost}
use Rattle.hk_symvalue.specs.Growth.{Extends}
use Rattle.hk_symvalue.specs.Meaning.{IsTruth, is_true}
use Rattle.hk_symmem.specs.Guarded.{MemoryView, memory_at}
use Rattle.spec_tree.specs.Plain.{Named, Tree, Transition, Spec}
use Rattle.spec_tree.specs.Meaning.{State, Memory, Step}
use Rattle.hk_symexpr.specs.Sources as sources
use Rattle.hk_symspec.specs.States.{StateView, numbers_at, state_at}
use Rattle.hk_symspec.specs.Standing.{IsKernelOver, IsStateOver}
use Rattle.hk_symspec.specs.Steps.{AreArgumentTerms, IsTermFor, IsResultTerm}
use Rattle.hk_symspec.specs.KernelLaws.{kernel_kept, memory_kept}
use Rattle.hk_symspec.specs.KeptLaws.{state_over_kept, state_kept, kernel_at_kept}
use Rattle.hk_symresult.specs.Results.{TellsResult}
use Rattle.hk_symresult.specs.Results as results
use Rattle.hk_oblig.specs.Telling.{TellEach, TellFields}
use Rattle.hk_oblig.specs.Asking.{IsTermOf}
use Rattle.hk_oblig.specs.Under.{AreNumbersAt, IsMemoryAt, IsStateAt, TellFirst, TellOut, TellOutEnd}

pub keeps : (old new : List Node) → Extends old new → sources.Keeps old new
keeps old new g = record { longer = g.longer; widths = g.widths; values = g.values; grows = g.grows }

module _ (old new : List Node) (grown : Extends old new) where
  pub truth_stays : (t : ℕ) → IsTruth old t → IsTruth new t
  truth_stays t h = (omega (arith, h.0, grown.longer), grown.widths t h.0 ∙ h.1)

  pub true_stays : (t : ℕ) → IsTruth old t → (v : Reading) → is_true new t v ≡ is_true old t v
  true_stays t h v = ap (λ n. nat_eq n 1) (grown.values t h.0 v)

  pub truths_stay : (ts : List ℕ) → All (IsTruth old) ts → All (IsTruth new) ts
  truths_stay ts h = λ k d l. truth_stays (slice_index_or ts k d) (h k d l)

  pub term_stays : (t : Option ℕ) → IsTermOf old t → IsTermOf new t
  term_stays None h = tt
  term_stays (Some t) h = omega (arith, h, grown.longer)

  pub number_stays : (t : Option ℕ) → IsTermOf old t → (v : Reading) → option_map (λ k. value new k v) t ≡ option_map (λ k. value old k v) t
  number_stays None h v = refl
  number_stays (Some t) h v = ap Some (grown.values t h v)

  term_for_stays : (w : ℕ) (e : Option Tree) (k : Option ℕ) → IsTermFor old w e k → IsTermFor new w e k
  term_for_stays w None k h = h
  term_for_stays w (Some e) None h = h
  term_for_stays w (Some e) (Some k) h = (omega (arith, h.0, grown.longer), grown.widths k h.0 ∙ h.1)

  pub wanted_stays : (t : Transition) (k : Option ℕ) → IsResultTerm old t k → IsResultTerm new t k
  wanted_stays t k h = term_for_stays t.result_width t.result k h

  pub returned_stays : (w : ℕ) (k : Option ℕ) → results.IsResultTerm old w k → results.IsResultTerm new w k
  returned_stays w None h = h
  returned_stays w (Some k) h = (h.0, (omega (arith, h.1.0, grown.longer), grown.widths k h.1.0 ∙ h.1.1))

  -- ---- memories, states and arguments

  pub kernel_stays : (s : Spec) (m : MemoryView) → IsKernelOver s old m → IsKernelOver s new m
  kernel_stays s m o = kernel_kept s m old new o (keeps old new grown)

  pub memory_stays : (s : Spec) (m : MemoryView) (v : Reading) (is : Memory) → IsKernelOver s old m → IsMemoryAt old m v is → IsMemoryAt new m v is
  memory_stays s m v is o h =
      let same : (u : Reading) → memory_at new m u ≡ memory_at old m u = memory_kept s m old new o (keeps old new grown) in
      record { same = same v ∙ h.same; steady = λ u a. same u ∙ h.steady u a ∙ sym (same v) }

  pub over_stays : (s : Spec) (a : StateView) → IsStateOver s old a → IsStateOver s new a
  over_stays s a o = state_over_kept s a old new o (keeps old new grown)

  pub state_stays : (s : Spec) (a : StateView) (v : Reading) (is : State) → IsStateOver s old a → IsStateAt s old a v is → IsStateAt s new a v is
  state_stays s a v is o h =
      let k = keeps old new grown in
      let same : (u : Reading) → state_at s new a u ≡ state_at s old a u = λ u. state_kept s a old new u o k in
      let base = λ (u : Reading). kernel_at_kept s a.memory a.locals a.first old new u o.base k in
      record {
        same = same v ∙ h.same;
        steady = record {
          memory = λ u g. base u ∙ h.steady.memory u g ∙ sym (base v);
          state = λ u g. same u ∙ h.steady.state u g ∙ sym (same v);
        };
      }

  arguments_stay_at : (ws ts : List ℕ) (v : Reading) → AreArgumentTerms old ws ts → numbers_at new ts v ≡ numbers_at old ts v
  arguments_stay_at [] ts v h = ap (λ l. numbers_at new l v) h ∙ ap (λ l. numbers_at old l v) (sym h)
  arguments_stay_at (w ∷ ws) [] v h = absurd h
  arguments_stay_at (w ∷ ws) (t ∷ ts) v h = λ i. grown.values t h.0 v i ∷ arguments_stay_at ws ts v h.2 i

  pub terms_stay : (ws ts : List ℕ) → AreArgumentTerms old ws ts → AreArgumentTerms new ws ts
  terms_stay [] ts h = h
  terms_stay (w ∷ ws) [] h = h
  terms_stay (w ∷ ws) (t ∷ ts) h = (omega (arith, h.0, grown.longer), grown.widths t h.0 ∙ h.1, terms_stay ws ts h.2)

  pub numbers_stay : (ws ts : List ℕ) (v : Reading) (ns : List ℕ) → AreArgumentTerms old ws ts → AreNumbersAt old ts v ns → AreNumbersAt new ts v ns
  numbers_stay ws ts v ns a h =
      let same : (u : Reading) → numbers_at new ts u ≡ numbers_at old ts u = λ u. arguments_stay_at ws ts u a in
      record { same = same v ∙ h.same; steady = λ u g. same u ∙ h.steady u g ∙ sym (same v) }

  -- ---- what is told

  at_stays : (ts : List ℕ) (k : ℕ) (v : Reading) → All (IsTruth old) ts → k < length ts → is_true new (slice_index ts k) v ≡ is_true old (slice_index ts k) v
  at_stays ts k v h low = true_stays (slice_index ts k) (h k 0 low) v

  found_below : {X : Type 0} (xs : List X) (k : ℕ) (x : X) → slice_get xs k ≡ Some x → k < length xs
  found_below [] zero x g = cc
  found_below [] (suc k) x g = cc
  found_below (y ∷ xs) zero x g = omega arith
  found_below (y ∷ xs) (suc k) x g = let low = found_below xs k x g in omega (arith, low)

  pub each_stays : (v : Reading) (ts : List ℕ) (named : List Named) (holds : Named → Bool) → All (IsTruth old) ts → TellEach old v ts named holds → TellEach new v ts named holds
  each_stays v ts named holds a h = record {
    count = h.count;
    each = λ k n g. at_stays ts k v a (let low = found_below named k n g in omega (arith, low, h.count)) ∙ h.each k n g;
  }

  pub fields_stay : (v : Reading) (ts : List ℕ) (s : Spec) (after wanted : List (List ℕ)) → All (IsTruth old) ts → TellFields old v ts s after wanted → TellFields new v ts s after wanted
  fields_stay v ts s after wanted a h = record {
    count = h.count;
    each = λ f low. subst (λ b. IsTrue b ↔ (slice_index_or after f [] ≡ slice_index_or wanted f [])) (sym (at_stays ts f v a (omega (arith, low, h.count)))) (h.each f low);
  }

  pub result_stays : (v : Reading) (t returned : Option ℕ) → IsTermOf old t → TellsResult old v t returned → TellsResult new v t returned
  result_stays v None returned a h = tt
  result_stays v (Some t) None a h = h
  result_stays v (Some t) (Some n) a h = grown.values t a v ∙ h

  pub end_stays : (s : Spec) (v : Reading) (undefined : ℕ) (result : Option ℕ) (behind : MemoryView) (end : RunEnd) → IsTruth old undefined → IsTermOf old result → IsKernelOver s old behind
      → TellOutEnd old v undefined result behind end → TellOutEnd new v undefined result behind end
  end_stays s v undefined result behind (Returned x after) u r o h =
      (true_stays undefined u v ∙ h.0, memory_stays s behind v after o h.1, result_stays v result x r h.2)
  end_stays s v undefined result behind (Stuck reason line) u r o h = true_stays undefined u v ∙ h
  end_stays s v undefined result behind Lost u r o h = h

  pub out_stays : (s : Spec) (m : ModuleView) (v : Reading) (function : ℕ) (memory : Memory) (args : List ℕ) (undefined : ℕ) (result : Option ℕ) (behind : MemoryView)
      → IsTruth old undefined → IsTermOf old result → IsKernelOver s old behind
      → TellOut m old v function memory args undefined result behind → TellOut m new v function memory args undefined result behind
  out_stays s m v function memory args undefined result behind u r o h =
      record { ends = h.ends; end = λ e is. end_stays s v undefined result behind e u r o (h.end e is) }

  pub first_stays : (v : Reading) (s : Spec) (memory : Memory) (step : Step) (invariants valid : ℕ) (wanted : Option ℕ) → IsTruth old invariants → IsTruth old valid → IsTermOf old wanted
      → TellFirst old v s memory step invariants valid wanted → TellFirst new v s memory step invariants valid wanted
  first_stays v s memory step invariants valid wanted i k w h = record {
    invariants = (λ e. h.invariants.0 (sym (true_stays invariants i v) ∙ e), λ a. true_stays invariants i v ∙ h.invariants.1 a);
    valid = true_stays valid k v ∙ h.valid;
    wanted = number_stays wanted w v ∙ h.wanted;
  }
