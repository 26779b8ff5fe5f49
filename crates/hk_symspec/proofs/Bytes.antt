-- The bytes of a memory, as specifications read them.
use Rattle.std.proofs.Common.{◌≡◌, ℕ, zero, suc, ◌+◌, ◌*◌, ◌^◌, ◌<◌, ◌≤◌, List, [], ◌∷◌, length, inl, inr, refl, sym, ◌∙◌, ap, arith}
use Rattle.std.specs.Prelude.{slice_index}
use Rattle.hk_term.specs.Meaning.{Reading}
use Rattle.hk_term.specs.declared.node.Node.{Node}
use Rattle.ir_layout.specs.Bytes.{IsWidth, number_at}
use Rattle.hk_symmem.specs.declared.write.GuardedWrite.{GuardedWrite}
use Rattle.hk_symmem.specs.Origins.{Origin, objects_from}
use Rattle.hk_symmem.specs.Guarded.{MemoryView, memory_at, written}
use Rattle.spec_tree.specs.Plain.{Spec}
use Rattle.spec_tree.specs.Shapes.{IsMemory}
use Rattle.spec_tree.specs.Value.{load}
use Rattle.hk_symspec.specs.Standing.{IsKernelOver}

pub load_is : (bytes : List ℕ) (at n : ℕ) → number_at n at bytes ≡ load bytes at n
load_is bytes at zero = refl
load_is bytes at (suc n) = ap (λ r. slice_index bytes at + 256 * r) (load_is bytes (at + 1) n)

pub width_of_power : (bytes k : ℕ) → k < 4 → bytes ≡ 2 ^ k → IsWidth bytes
width_of_power bytes zero l e = inl e
width_of_power bytes (suc zero) l e = inr (inl e)
width_of_power bytes (suc (suc zero)) l e = inr (inr (inl e))
width_of_power bytes (suc (suc (suc zero))) l e = inr (inr (inr e))
width_of_power bytes (suc (suc (suc (suc k)))) l e = absurd (omega (arith, l))

written_count : (nodes : List Node) (v : Reading) (rows : List (List GuardedWrite)) (memory : List (List ℕ)) → length (written nodes v rows memory) ≡ length memory
written_count nodes v [] memory = refl
written_count nodes v (ws ∷ rows) [] = refl
written_count nodes v (ws ∷ rows) (bytes ∷ memory) = ap suc (written_count nodes v rows memory)

objects_count : (o : ℕ) (xs : List Origin) (entry : ℕ → ℕ → ℕ) → length (objects_from o xs entry) ≡ length xs
objects_count o [] entry = refl
objects_count o (x ∷ xs) entry = ap suc (objects_count (o + 1) xs entry)

memory_count : (objects : List ℕ) (memory : List (List ℕ)) → IsMemory objects memory → length memory ≡ length objects
memory_count [] memory m = ap length m
memory_count (n ∷ ns) [] m = absurd m
memory_count (n ∷ ns) (bytes ∷ memory) m = ap suc (memory_count ns memory m.1)

no_reading : Reading
no_reading = record { var = λ _. 0; entry = λ _ _. 0 }

pub origins_count : (s : Spec) (nodes : List Node) (m : MemoryView) → IsKernelOver s nodes m → length m.origins ≡ length s.objects
origins_count s nodes m o =
    sym (objects_count 0 m.origins no_reading.entry) ∙ sym (written_count nodes no_reading m.writes (objects_from 0 m.origins no_reading.entry))
    ∙ memory_count s.objects (memory_at nodes m no_reading) (o.whole no_reading)

pub bits_of_power : (bytes k : ℕ) → k < 4 → bytes ≡ 2 ^ k → (1 ≤ 8 * bytes) × (8 * bytes ≤ 64)
bits_of_power bytes zero l e = (omega (arith, e), omega (arith, e))
bits_of_power bytes (suc zero) l e = (omega (arith, e), omega (arith, e))
bits_of_power bytes (suc (suc zero)) l e = (omega (arith, e), omega (arith, e))
bits_of_power bytes (suc (suc (suc zero))) l e = (omega (arith, e), omega (arith, e))
bits_of_power bytes (suc (suc (suc (suc k)))) l e = absurd (omega (arith, l))
