-- Laws of the registers of a frame.
use Rattle.std.proofs.Common.{◌≡◌, ℕ, zero, suc, Option, Some, None, List, [], ◌∷◌, ◌++◌, length, slice_set, refl, sym, ap, ◌∙◌, subst, arith, rules}
use Rattle.hk_term.specs.Meaning.{Reading}
use Rattle.hk_term.specs.declared.node.Node.{Node}
use Rattle.ir_machine.specs.declared.state.Held.{Held}
use Rattle.ir_machine.specs.Values.{Registers, held_at}
use Rattle.hk_symstep.specs.declared.state.SymHeld.{SymHeld}
use Rattle.hk_symstep.specs.Held.{held_meaning, place_meaning, IsHeld, IsPlace, Keeps}
use Rattle.hk_symstep.specs.Files.{File, place_at, IsFile, registers_of, IsWithin, Covers}

pub shown_at : (nodes : List Node) (v : Reading) (file : File) (k : ℕ) → place_meaning nodes v (place_at file k) ≡ held_at (registers_of nodes v file) k
shown_at nodes v [] k = refl
shown_at nodes v (x ∷ xs) zero = refl
shown_at nodes v (x ∷ xs) (suc k) = shown_at nodes v xs k

pub one_more_unset : (file : File) (k : ℕ) → ((j : ℕ) → place_at file j ≡ None) → place_at (file ++ None ∷ []) k ≡ None
one_more_unset [] zero e = refl
one_more_unset [] (suc k) e = refl
one_more_unset (x ∷ xs) zero e = e zero
one_more_unset (x ∷ xs) (suc k) e = one_more_unset xs k (λ j. e (suc j))

-- ---- a register is set

place_set : (nodes : List Node) (file : File) (k : ℕ) (next : SymHeld) → IsFile nodes file → IsHeld nodes next → (j : ℕ) → IsPlace nodes (place_at (slice_set file k (Some next)) j)
place_set nodes [] k next f h j = f j
place_set nodes (x ∷ xs) zero next f h zero = h
place_set nodes (x ∷ xs) zero next f h (suc j) = f (suc j)
place_set nodes (x ∷ xs) (suc k) next f h zero = f zero
place_set nodes (x ∷ xs) (suc k) next f h (suc j) = place_set nodes xs k next (λ i. f (suc i)) h j

pub file_set : (nodes : List Node) (file : File) (k : ℕ) (next : SymHeld) → IsFile nodes file → IsHeld nodes next → IsFile nodes (slice_set file k (Some next))
file_set nodes file k next f h = λ j. place_set nodes file k next f h j

shown_set : (nodes : List Node) (v : Reading) (file : File) (k : ℕ) (next : SymHeld)
    → registers_of nodes v (slice_set file k (Some next)) ≡ slice_set (registers_of nodes v file) k (Some (held_meaning nodes v next))
shown_set nodes v [] k next = refl
shown_set nodes v (x ∷ xs) zero next = refl
shown_set nodes v (x ∷ xs) (suc k) next = ap (λ l. place_meaning nodes v x ∷ l) (shown_set nodes v xs k next)

same_set : (rs hs : Registers) (k : ℕ) (y : Option Held) → length rs ≡ length hs → ((j : ℕ) (h : Held) → held_at rs j ≡ Some h → held_at hs j ≡ Some h)
    → (j : ℕ) (h : Held) → held_at (slice_set rs k y) j ≡ Some h → held_at (slice_set hs k y) j ≡ Some h
same_set [] [] k y e w j h p = w j h p
same_set [] (x ∷ xs) k y e w j h p = absurd (omega (arith, e))
same_set (r ∷ rs) [] k y e w j h p = absurd (omega (arith, e))
same_set (r ∷ rs) (x ∷ xs) zero y e w zero h p = p
same_set (r ∷ rs) (x ∷ xs) zero y e w (suc j) h p = w (suc j) h p
same_set (r ∷ rs) (x ∷ xs) (suc k) y e w zero h p = w zero h p
same_set (r ∷ rs) (x ∷ xs) (suc k) y e w (suc j) h p = same_set rs xs k y (omega (arith, e)) (λ i. w (suc i)) j h p

same_over : (rs hs : Registers) (k : ℕ) (y : Held) → Keeps (held_at hs k) y → ((j : ℕ) (h : Held) → held_at rs j ≡ Some h → held_at hs j ≡ Some h)
    → (j : ℕ) (h : Held) → held_at rs j ≡ Some h → held_at (slice_set hs k (Some y)) j ≡ Some h
same_over rs [] k y e w j h p = w j h p
same_over rs (x ∷ xs) zero y e w zero h p = kept x e (w zero h p)
  where
    kept : (x : Option Held) → Keeps x y → x ≡ Some h → Some y ≡ Some h
    kept None e q = absurd (search rules)
    kept (Some g) e q = ap Some e ∙ q
same_over rs (x ∷ xs) zero y e w (suc j) h p = w (suc j) h p
same_over rs (x ∷ xs) (suc k) y e w zero h p = w zero h p
same_over [] (x ∷ xs) (suc k) y e w (suc j) h p = absurd (search rules)
same_over (r ∷ rs) (x ∷ xs) (suc k) y e w (suc j) h p = same_over rs xs k y e (λ i. w (suc i)) j h p

set_length : (rs : Registers) (k : ℕ) (y : Option Held) → length (slice_set rs k y) ≡ length rs
set_length [] k y = refl
set_length (r ∷ rs) zero y = refl
set_length (r ∷ rs) (suc k) y = ap suc (set_length rs k y)

pub covers_here : (nodes : List Node) (v : Reading) (file : File) (rs : Registers) (k : ℕ) (next : SymHeld) (h : Held) → held_meaning nodes v next ≡ h → Covers nodes v file rs
    → Covers nodes v (slice_set file k (Some next)) (slice_set rs k (Some h))
covers_here nodes v file rs k next h e c = subst (IsWithin (slice_set rs k (Some h))) (ap (λ y. slice_set (registers_of nodes v file) k (Some y)) (sym e) ∙ sym (shown_set nodes v file k next)) (record {
  size = set_length rs k (Some h) ∙ c.size ∙ sym (set_length (registers_of nodes v file) k (Some h));
  same = same_set rs (registers_of nodes v file) k (Some h) c.size c.same;
})

pub covers_away : (nodes : List Node) (v : Reading) (file : File) (rs : Registers) (k : ℕ) (next : SymHeld) → Keeps (place_meaning nodes v (place_at file k)) (held_meaning nodes v next)
    → Covers nodes v file rs → Covers nodes v (slice_set file k (Some next)) rs
covers_away nodes v file rs k next e c = subst (IsWithin rs) (sym (shown_set nodes v file k next)) (record {
  size = c.size ∙ sym (set_length (registers_of nodes v file) k (Some (held_meaning nodes v next)));
  same = same_over rs (registers_of nodes v file) k (held_meaning nodes v next) (subst (λ p. Keeps p (held_meaning nodes v next)) (shown_at nodes v file k) e) c.same;
})
