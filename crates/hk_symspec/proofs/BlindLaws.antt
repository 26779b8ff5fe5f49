-- Where the kernel may not be read, the number of an expression does not depend on the memory.
use Rattle.std.proofs.Common.{◌≡◌, false, List, [], ◌∷◌, ◌++◌, refl, sym, ◌∙◌, ap}
use Rattle.std.specs.Prelude.{if◌then◌else◌, slice_index_or}
use Rattle.std.specs.List.{list_all, list_any}
use Rattle.std.proofs.lemmas.Bool.{false≢true}
use Rattle.spec_tree.specs.declared.expr.StateName.{StateName}
use Rattle.spec_tree.specs.declared.expr.StateName.TheVariants.{Old, New}
use Rattle.spec_tree.specs.Plain.{Key, Tree, constant, argument, bound, local, entry, path, unary, binary, all_of, any_of, choose, resize, for_all, exists, Trees, no_trees, tree_and}
use Rattle.spec_tree.specs.Sorted.{Context, AreIndices, AreLocals, AreTruths, IsSorted, no_field, width_of, with_bounds, with_local}
use Rattle.spec_tree.specs.Value.{Env, bin_value, binding, bit, entry_at, holds, place_behind, resize_value, state_of, tuples, un_value, value, values}
use Rattle.spec_tree.specs.Meaning.{Memory, with_value, with_values}

abbrev pub over_memory : Env → Memory → Env
over_memory v m = record v { memory = m }

same_state : (v : Env) (m : Memory) (s : StateName) → state_of (over_memory v m) s ≡ state_of v s
same_state v m Old = refl
same_state v m New = refl

mutual
  pub blind : (c : Context) (v : Env) (m : Memory) → c.kernel ≡ false → (e : Tree) → IsSorted c e → value c (over_memory v m) e ≡ value c v e
  blind c v m k (constant w n) s = refl
  blind c v m k (argument a) s = refl
  blind c v m k (bound a w) s = refl
  blind c v m k (local a) s = refl
  blind c v m k (entry name f at) s =
      λ i. entry_at (slice_index_or (same_state v m name i) f []) (place_behind 0 (slice_index_or c.fields f no_field).keys (blind_indices c v m k s.1.keys at s.3 i))
  blind c v m k (path o base steps bytes) s = absurd (false≢true (sym k ∙ s.0))
  blind c v m k (unary kind a) s = λ i. un_value kind (width_of c a) (blind c v m k a s.0 i)
  blind c v m k (binary kind a b) s = λ i. bin_value kind (width_of c a) (blind c v m k a s.0 i) (blind c v m k b s.1 i)
  blind c v m k (all_of es) s = λ i. bit (list_all holds (blind_truths c v m k es s i))
  blind c v m k (any_of es) s = λ i. bit (list_any holds (blind_truths c v m k es s i))
  blind c v m k (choose t a b) s = λ i. if holds (blind c v m k t s.0 i) then blind c v m k a s.2 i else blind c v m k b s.3 i
  blind c v m k (resize kind a) s = λ i. resize_value kind (width_of c a) (blind c v m k a s.0 i)
  blind c v m k (for_all sizes a) s = λ i. bit (list_all (λ t. holds (blind (with_bounds c sizes) (binding v t) m k a s.1 i)) (tuples sizes))
  blind c v m k (exists sizes a) s = λ i. bit (list_any (λ t. holds (blind (with_bounds c sizes) (binding v t) m k a s.1 i)) (tuples sizes))

  blind_truths : (c : Context) (v : Env) (m : Memory) → c.kernel ≡ false → (es : Trees) → AreTruths c es → values c (over_memory v m) es ≡ values c v es
  blind_truths c v m k no_trees s = refl
  blind_truths c v m k (tree_and e es) s = λ i. blind c v m k e s.0 i ∷ blind_truths c v m k es s.2 i

  pub blind_indices : (c : Context) (v : Env) (m : Memory) → c.kernel ≡ false → (keys : List Key) (es : Trees) → AreIndices c keys es → values c (over_memory v m) es ≡ values c v es
  blind_indices c v m k keys no_trees s = refl
  blind_indices c v m k keys (tree_and e es) s = λ i. blind c v m k e s.3 i ∷ blind_indices c v m k s.1 es s.5 i

pub blind_name : (c : Context) (v : Env) (m : Memory) (e : Tree) → c.kernel ≡ false → IsSorted c e → with_value c (over_memory v m) e ≡ over_memory (with_value c v e) m
blind_name c v m e k s = λ i. record v { memory = m; locals = v.locals ++ blind c v m k e s i ∷ [] }

pub blind_names : (c : Context) (v : Env) (m : Memory) (es : List Tree) → c.kernel ≡ false → AreLocals c es → with_values c (over_memory v m) es ≡ over_memory (with_values c v es) m
blind_names c v m [] k s = refl
blind_names c v m (e ∷ es) k s = ap (λ x. with_values (with_local c e) x es) (blind_name c v m e k s.0) ∙ blind_names (with_local c e) (with_value c v e) m es k s.1
