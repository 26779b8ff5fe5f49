-- The objects of a memory have the sizes of its layout.
use Rattle.std.proofs.Common.{◌≡◌, ◌<◌, ◌+◌, ◌-◌, ℕ, zero, suc, List, [], ◌∷◌, length, refl, sym, ap, ◌∙◌, arith, nat_le, if◌then◌else◌}
use Rattle.std.specs.Prelude.{map, slice_get, slice_index_or, Some}
use Rattle.std.specs.List.{range_with_len}
use Rattle.std.proofs.lemmas.List.FromFn.{length-map-range_with_len}
use Rattle.hk_term.specs.Meaning.{Reading}
use Rattle.hk_term.specs.declared.node.Node.{Node}
use Rattle.ir_layout.specs.Bytes.{object_of}
use Rattle.ir_layout.specs.declared.object.Object as laid
use Rattle.ir_code.specs.declared.program.Object.{Object}
use Rattle.ir_machine.specs.Values.{object_at}
use Rattle.hk_symmem.specs.declared.write.GuardedWrite.{GuardedWrite}
use Rattle.hk_symmem.specs.Origins.{Origin, fixed, cells, cell_byte, objects_from, start_memory, AreOriginsOf}
use Rattle.hk_symmem.specs.Guarded.{MemoryView, written, memory_at}
use Rattle.hk_symmem.proofs.RowLaws.{after_length}
use Rattle.hk_symmem.proofs.RowLaws as rows
use Rattle.hk_symaccess.specs.Accesses.{AreOf, AreWhole, sizes_of, aligns_of, at_base, sized, aligned}
use Rattle.hk_symaccess.proofs.Kept.{head_is, tail_is}

written_lengths : (nodes : List Node) (v : Reading) (rows : List (List GuardedWrite)) (memory : List (List ℕ)) → map (λ (b : List ℕ). length b) (written nodes v rows memory) ≡ map (λ (b : List ℕ). length b) memory
written_lengths nodes v [] memory = refl
written_lengths nodes v (ws ∷ rows) [] = refl
written_lengths nodes v (ws ∷ rows) (b ∷ memory) = λ i. after_length nodes v ws b i ∷ written_lengths nodes v rows memory i

start_lengths : (layout : List laid.Object) (origins : List Origin) (o : ℕ) (entry : ℕ → ℕ → ℕ) → AreOriginsOf layout origins → AreWhole layout
    → map (λ (b : List ℕ). length b) (objects_from o origins entry) ≡ sizes_of layout
start_lengths [] [] o entry a w = refl
start_lengths [] (x ∷ xs) o entry a w = absurd a
start_lengths (q ∷ qs) [] o entry a w = absurd a
start_lengths (q ∷ qs) (fixed b ∷ xs) o entry a w =
    let first : length b ≡ q.size = ap (λ (z : List ℕ). length z) a.0.1 ∙ head_is _ _ _ _ w in
    λ i. first i ∷ start_lengths qs xs (o + 1) entry a.1 (tail_is _ _ _ _ w) i
start_lengths (q ∷ qs) (cells n c ∷ xs) o entry a w =
    let first : length (map (cell_byte c (entry o)) (range_with_len 0 n)) ≡ q.size = length-map-range_with_len (cell_byte c (entry o)) 0 n ∙ a.0.1 in
    λ i. first i ∷ start_lengths qs xs (o + 1) entry a.1 (tail_is _ _ _ _ w) i

pub sizes_kept : (layout : List laid.Object) (nodes : List Node) (m : MemoryView) (v : Reading) → AreOriginsOf layout m.origins → AreWhole layout
    → map (λ (b : List ℕ). length b) (memory_at nodes m v) ≡ sizes_of layout
sizes_kept layout nodes m v a w = written_lengths nodes v m.writes (start_memory m.origins v.entry) ∙ start_lengths layout m.origins 0 v.entry a w

length_at : (memory : List (List ℕ)) (k : ℕ) → slice_index_or (map (λ (b : List ℕ). length b) memory) k 0 ≡ length (object_of memory k)
length_at [] k = refl
length_at (b ∷ memory) zero = refl
length_at (b ∷ memory) (suc k) = length_at memory k

pub laid_is_sized : (layout : List laid.Object) (nodes : List Node) (m : MemoryView) (v : Reading) (base : ℕ) → AreOriginsOf layout m.origins → AreWhole layout
    → at_base (sizes_of layout) base ≡ sized (memory_at nodes m v) base
laid_is_sized layout nodes m v base a w =
    ap (λ n. if nat_le base 1 then 0 else n)
    (ap (λ xs. slice_index_or xs (base - 2) 0) (sym (sizes_kept layout nodes m v a w)) ∙ length_at (memory_at nodes m v) (base - 2))

align_at : (objects : List Object) (k : ℕ) → slice_index_or (aligns_of objects) k 0 ≡ (object_at objects k).align
align_at [] k = refl
align_at (o ∷ objects) zero = refl
align_at (o ∷ objects) (suc k) = align_at objects k

pub aligns_are : (objects : List Object) (base : ℕ) → at_base (aligns_of objects) base ≡ aligned objects base
aligns_are objects base = ap (λ n. if nat_le base 1 then 0 else n) (align_at objects (base - 2))

pub align_there : (layout : List laid.Object) (objects : List Object) (k : ℕ) → AreOf layout objects → k < length layout → slice_get (aligns_of objects) k ≡ Some (object_at objects k).align
align_there [] objects k p l = absurd (omega (arith, l))
align_there (o ∷ os) [] k p l = absurd (cc)
align_there (o ∷ os) (q ∷ qs) zero p l = refl
align_there (o ∷ os) (q ∷ qs) (suc k) p l = align_there os qs k (tail_is _ _ _ _ p) (omega (arith, l))

map_count : {A B : Type 0} (f : A → B) (xs : List A) → length (map f xs) ≡ length xs
map_count f [] = refl
map_count f (x ∷ xs) = ap suc (map_count f xs)

pub memory_count : (layout : List laid.Object) (nodes : List Node) (m : MemoryView) (v : Reading) → AreOriginsOf layout m.origins → AreWhole layout → length (memory_at nodes m v) ≡ length layout
memory_count layout nodes m v a w =
    sym (map_count (λ (b : List ℕ). length b) (memory_at nodes m v)) ∙ ap (λ (xs : List ℕ). length xs) (sizes_kept layout nodes m v a w) ∙ map_count (λ (o : laid.Object). o.size) layout

pub origins_count : (layout : List laid.Object) (origins : List Origin) → AreOriginsOf layout origins → length layout ≡ length origins
origins_count [] [] a = refl
origins_count [] (x ∷ xs) a = absurd a
origins_count (o ∷ os) [] a = absurd a
origins_count (o ∷ os) (x ∷ xs) a = ap suc (origins_count os xs a.1)

pub memory_places : (nodes : List Node) (m : MemoryView) (v : Reading) → length (memory_at nodes m v) ≡ length m.origins
memory_places nodes m v =
    sym (map_count (λ (b : List ℕ). length b) (memory_at nodes m v)) ∙ ap (λ (xs : List ℕ). length xs) (written_lengths nodes v m.writes (start_memory m.origins v.entry))
    ∙ map_count (λ (b : List ℕ). length b) (start_memory m.origins v.entry) ∙ rows.objects_count 0 m.origins v.entry
