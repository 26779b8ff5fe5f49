-- What the run of a function begins with: orders of blocks, a depth, and the registers of its arguments.
use Rattle.std.proofs.Common.{◌≡◌, ◌⊎◌, inl, inr, ◌<◌, ◌≤◌, ◌+◌, ℕ, zero, suc, Option, Some, None, List, [], ◌∷◌, ◌++◌, length, slice_get, Contains, refl, sym, ap, ◌∙◌, subst, arith}
use Rattle.std.proofs.lemmas.List.{get_or_append_left, get_or_push, get_or_past, length_push, length-map, append_assoc}
use Rattle.std.proofs.lemmas.Option.{slice_get_within, none-some}
use Rattle.hk_term.specs.Meaning.{Reading, value}
use Rattle.hk_term.specs.declared.node.Node.{Node}
use Rattle.ir_ast.specs.Program.{FunctionView, ModuleView}
use Rattle.ir_ast.specs.ProgramView.{view_function, view_module}
use Rattle.ir_ast.specs.declared.module.Module.{Module}
use Rattle.ir_value.specs.declared.value.Value.TheVariants.{Number}
use Rattle.ir_type.specs.Items.{function_item, K14}
use Rattle.ir_check.specs.Paths.{IsLength}
use Rattle.ir_check.specs.Checked.{IsForward, IsChecked}
use Rattle.ir_check.proofs.SiteLaws.{contains_at}
use Rattle.ir_kernel.specs.Orders.{IsOrderAt, AreOrders}
use Rattle.ir_machine.specs.declared.state.Held.TheVariants as held
use Rattle.ir_machine.specs.Values.{Registers}
use Rattle.ir_machine.specs.Step.{unset}
use Rattle.hk_symvalue.specs.Growth.{Extends}
use Rattle.hk_symvalue.proofs.Frames.{followed}
use Rattle.hk_symstep.specs.declared.state.SymHeld.{SymHeld}
use Rattle.hk_symstep.specs.Held.{place_meaning, IsPlace}
use Rattle.hk_symstep.specs.Files.{File, IsFile, registers_of}
use Rattle.hk_symexec.specs.Tracks.{order_in}
use Rattle.hk_symexec.specs.Runs.{arguments_at, held_numbers}
use Rattle.hk_symexec.proofs.Kept.{file_kept, registers_kept}
use Rattle.hk_symexec.proofs.Calling.{file_push, registers_push, unset_more}

below_or : (a b : ℕ) → (a < b) ⊎ (b ≤ a)
below_or a zero = inr (omega arith)
below_or zero (suc b) = inl (omega arith)
below_or (suc a) (suc b) = by (below_or a b)
  where
    by : (a < b) ⊎ (b ≤ a) → (suc a < suc b) ⊎ (suc b ≤ suc a)
    by (inl l) = inl (omega (arith, l))
    by (inr l) = inr (omega (arith, l))

none_past : {X : Type 0} (xs : List X) (p : ℕ) → slice_get xs p ≡ None → length xs ≤ p
none_past [] p h = omega arith
none_past (x ∷ xs) zero h = absurd (none-some x (sym h))
none_past (x ∷ xs) (suc p) h = omega (arith, none_past xs p h)

-- ---- orders

-- the orders of the first n functions
pub record Ordering (m : ModuleView) (n : ℕ) (orders : List (List ℕ)) : Type 0 where
  pub size : length orders ≡ n
  pub are : (p : ℕ) (e : List ℕ × FunctionView) → p < n → slice_get m.functions p ≡ Some e → IsForward e.1 (order_in orders p)

pub ordering_on : (m : ModuleView) (n : ℕ) (orders : List (List ℕ)) (order : List ℕ) → Ordering m n orders
    → ((e : List ℕ × FunctionView) → slice_get m.functions n ≡ Some e → IsForward e.1 order) → Ordering m (n + 1) (orders ++ order ∷ [])
ordering_on m n orders order so next = record {
  size = length_push orders order ∙ ap (λ k. k + 1) so.size;
  are = λ p e l h. by p e l h (sort p l);
}
  where
    sort : (p : ℕ) → p < n + 1 → (p < n) ⊎ (p ≡ n)
    sort p l = by (below_or p n)
      where
        by : (p < n) ⊎ (n ≤ p) → (p < n) ⊎ (p ≡ n)
        by (inl a) = inl a
        by (inr a) = inr (omega (arith, a, l))

    by : (p : ℕ) (e : List ℕ × FunctionView) → p < n + 1 → slice_get m.functions p ≡ Some e → (p < n) ⊎ (p ≡ n) → IsForward e.1 (order_in (orders ++ order ∷ []) p)
    by p e l h (inl a) = subst (IsForward e.1) (sym (get_or_append_left orders (order ∷ []) [] p (omega (arith, a, so.size)))) (so.are p e a h)
    by p e l h (inr a) =
        subst (IsForward e.1) (sym (get_or_push orders order [] p (so.size ∙ sym a))) (next e (subst (λ k. slice_get m.functions k ≡ Some e) a h))

pub ordered : (m : ModuleView) (n : ℕ) (orders : List (List ℕ)) → length m.functions ≡ n → Ordering m n orders → AreOrders m (order_in orders)
ordered m n orders long so p = by (slice_get m.functions p) refl
  where
    by : (o : Option (List ℕ × FunctionView)) → slice_get m.functions p ≡ o → IsOrderAt o (order_in orders p)
    by None h = get_or_past orders p [] (omega (arith, none_past m.functions p h, so.size, long))
    by (Some e) h = so.are p e (omega (arith, slice_get_within m.functions p e h, long)) h

-- ---- the depth

-- the expanded length of a function of a checked kernel is small
pub is_short : (m : ModuleView) → IsChecked m → (f n : ℕ) (e : List ℕ × FunctionView) → slice_get m.functions f ≡ Some e → IsLength m e.0 n → n ≤ 100000
is_short m c f n e h l = by (below_or 100000 n)
  where
    there : Contains m.functions e
    there = contains_at m.functions f e h

    by : (100000 < n) ⊎ (n ≤ 100000) → n ≤ 100000
    by (inl long) = absurd (c.well_formed (function_item e.1) (e.0, there) K14 (n, subst (λ x. IsLength m x n) (sym (c.shaped.named e.0 e.1 there)) l, long))
    by (inr short) = short

pub is_small : (k : Module) → IsChecked (view_module k) → (f n : ℕ) → f < length k.functions
    → ((e : List ℕ × FunctionView) → slice_get (view_module k).functions f ≡ Some e → IsLength (view_module k) e.0 n) → n ≤ 100000
is_small k c f n l lengths = by (slice_get (view_module k).functions f) refl
  where
    long : length (view_module k).functions ≡ length k.functions
    long = length-map k.functions (λ entry. (entry.0, view_function entry.1))

    by : (o : Option (List ℕ × FunctionView)) → slice_get (view_module k).functions f ≡ o → n ≤ 100000
    by None h = absurd (omega (arith, none_past (view_module k).functions f h, long, l))
    by (Some e) h = is_short (view_module k) c f n e h (lengths e h)

-- ---- the registers of arguments

pub record Holding (first now : List Node) (arguments : List ℕ) (places : File) : Type 0 where
  pub frame : Extends first now
  pub within : IsFile now places
  pub meant : (v : Reading) → registers_of now v places ≡ held_numbers (arguments_at first v arguments)

held_push : (first : List Node) (v : Reading) (arguments : List ℕ) (a : ℕ)
    → held_numbers (arguments_at first v (arguments ++ a ∷ [])) ≡ held_numbers (arguments_at first v arguments) ++ Some (held.Value (Number (value first a v))) ∷ []
held_push first v [] a = refl
held_push first v (b ∷ bs) a = ap (λ l. Some (held.Value (Number (value first b v))) ∷ l) (held_push first v bs a)

pub holding_on : (first now new : List Node) (arguments : List ℕ) (places : File) (a : ℕ) (p : Option SymHeld) → Holding first now arguments places → a < length first → Extends now new
    → IsPlace new p → ((v : Reading) → place_meaning new v p ≡ Some (held.Value (Number (value now a v)))) → Holding first new (arguments ++ a ∷ []) (places ++ p ∷ [])
holding_on first now new arguments places a p s l grown place meant = record {
  frame = followed first now new s.frame grown;
  within = file_push new places p (file_kept now new grown places s.within) place;
  meant = λ v.
      registers_push new v places p
      ∙ ap (λ rs. rs ++ place_meaning new v p ∷ []) (registers_kept now new grown places s.within v ∙ s.meant v)
      ∙ ap (λ h. held_numbers (arguments_at first v arguments) ++ h ∷ []) (meant v ∙ ap (λ n. Some (held.Value (Number n))) (s.frame.values a l v))
      ∙ sym (held_push first v arguments a);
}

-- one register more that is not set
pub unset_held : (nodes : List Node) (v : Reading) (arguments : Registers) (n : ℕ) (places : File) → registers_of nodes v places ≡ arguments ++ unset n
    → registers_of nodes v (places ++ None ∷ []) ≡ arguments ++ unset (n + 1)
unset_held nodes v arguments n places s =
    let next : n + 1 ≡ suc n = omega arith in
    registers_push nodes v places None
    ∙ ap (λ rs. rs ++ None ∷ []) s
    ∙ append_assoc arguments (unset n) (None ∷ [])
    ∙ ap (λ l. arguments ++ l) (sym (unset_more n) ∙ ap unset (sym next))
