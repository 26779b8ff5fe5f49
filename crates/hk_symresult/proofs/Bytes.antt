-- The bytes and the sizes of objects under a reading.
use Rattle.std.proofs.Common.{◌≡◌, ℕ, zero, suc, ◌+◌, ◌/◌, ◌%◌, ◌^◌, ◌<◌, Bool, true, false, List, [], ◌∷◌, length, map, refl, sym, ◌∙◌, ap, subst, lit<}
use Rattle.std.specs.Prelude.{if◌then◌else◌, nat_eq, slice_set}
use Rattle.std.specs.List.{All, range_with_len}
use Rattle.std.proofs.Math.Nat.{mod-lt}
use Rattle.std.proofs.lemmas.List.{length-set}
use Rattle.std.proofs.lemmas.List.FromFn.{length-map-range_with_len}
use Rattle.std.proofs.lemmas.List.Elements.{All-nil, All-cons, All-head, All-tail, All-set, All-map}
use Rattle.hk_term.specs.Meaning.{Reading, value}
use Rattle.hk_term.specs.declared.node.Node.{Node}
use Rattle.ir_layout.specs.declared.object.Object.{Object}
use Rattle.hk_symmem.specs.declared.write.GuardedWrite.{GuardedWrite}
use Rattle.hk_symmem.specs.Origins.{Origin, fixed, cells, cell_byte, object_from, objects_from, IsOriginOf, AreOriginsOf}
use Rattle.hk_symmem.specs.Guarded.{MemoryView, with_bytes, after_write, after_writes, written, memory_at}
use Rattle.hk_symresult.specs.Results.{AreFilled, HoldsObjects}

abbrev IsByte : ℕ → Type 0
IsByte b = b < 256

abbrev sizes : List (List ℕ) → List ℕ
sizes memory = map (λ o. length o) memory

-- ---- writes

small : (value : ℕ) → IsByte (value % 256)
small value = mod-lt value (lit< tt)

bytes_written : (n at value : ℕ) (bytes : List ℕ) → All IsByte bytes → All IsByte (with_bytes n at value bytes)
bytes_written zero at value bytes all = all
bytes_written (suc n) at value bytes all =
    bytes_written n (at + 1) (value / 256) (slice_set bytes (at % 2 ^ 64) (value % 256)) (All-set IsByte bytes (at % 2 ^ 64) (value % 256) (small value) all)

size_written : (n at value : ℕ) (bytes : List ℕ) → length (with_bytes n at value bytes) ≡ length bytes
size_written zero at value bytes = refl
size_written (suc n) at value bytes =
    size_written n (at + 1) (value / 256) (slice_set bytes (at % 2 ^ 64) (value % 256)) ∙ length-set bytes (at % 2 ^ 64) (value % 256)

bytes_guarded : (b : Bool) (w : GuardedWrite) (at value : ℕ) (bytes : List ℕ) → All IsByte bytes → All IsByte (if b then with_bytes w.bytes at value bytes else bytes)
bytes_guarded true w at value bytes all = bytes_written w.bytes at value bytes all
bytes_guarded false w at value bytes all = all

size_guarded : (b : Bool) (w : GuardedWrite) (at value : ℕ) (bytes : List ℕ) → length (if b then with_bytes w.bytes at value bytes else bytes) ≡ length bytes
size_guarded true w at value bytes = size_written w.bytes at value bytes
size_guarded false w at value bytes = refl

module _ (nodes : List Node) (v : Reading) where
  bytes_after : (ws : List GuardedWrite) (bytes : List ℕ) → All IsByte bytes → All IsByte (after_writes nodes v ws bytes)
  bytes_after [] bytes all = all
  bytes_after (w ∷ ws) bytes all =
      bytes_after ws (after_write nodes v w bytes) (bytes_guarded (nat_eq (value nodes w.guard v) 1) w (value nodes w.offset v) (value nodes w.value v) bytes all)

  size_after : (ws : List GuardedWrite) (bytes : List ℕ) → length (after_writes nodes v ws bytes) ≡ length bytes
  size_after [] bytes = refl
  size_after (w ∷ ws) bytes =
      size_after ws (after_write nodes v w bytes) ∙ size_guarded (nat_eq (value nodes w.guard v) 1) w (value nodes w.offset v) (value nodes w.value v) bytes

  all_after : (rows : List (List GuardedWrite)) (memory : List (List ℕ)) → All (λ o. All IsByte o) memory → All (λ o. All IsByte o) (written nodes v rows memory)
  all_after [] memory all = all
  all_after (ws ∷ rows) [] all = all
  all_after (ws ∷ rows) (bytes ∷ memory) all =
      All-cons (λ o. All IsByte o) (after_writes nodes v ws bytes) (written nodes v rows memory) (bytes_after ws bytes (All-head (λ o. All IsByte o) bytes memory all))
      (all_after rows memory (All-tail (λ o. All IsByte o) bytes memory all))

  sizes_after : (rows : List (List GuardedWrite)) (memory : List (List ℕ)) → sizes (written nodes v rows memory) ≡ sizes memory
  sizes_after [] memory = refl
  sizes_after (ws ∷ rows) [] = refl
  sizes_after (ws ∷ rows) (bytes ∷ memory) = λ i. size_after ws bytes i ∷ sizes_after rows memory i

-- ---- what arrays give

head_filled : (w : Object) (os : List Object) → AreFilled (w ∷ os) → length w.bytes ≡ w.size
head_filled w os h =
    let s : length w.bytes ∷ map (λ o. length o.bytes) os ≡ w.size ∷ map (λ o. o.size) os = h.sizes in
    cc

tail_filled : (w : Object) (os : List Object) → AreFilled (w ∷ os) → AreFilled os
tail_filled w os h =
    let s : length w.bytes ∷ map (λ o. length o.bytes) os ≡ w.size ∷ map (λ o. o.size) os = h.sizes in
    let rest : map (λ o. length o.bytes) os ≡ map (λ o. o.size) os = cc in
    record { sizes = rest; bytes = All-tail (λ o. All IsByte o) w.bytes (map (λ o. o.bytes) os) h.bytes }

object_size : (w : Object) (x : Origin) (array : ℕ → ℕ) → IsOriginOf w x → length w.bytes ≡ w.size → length (object_from x array) ≡ w.size
object_size w (fixed bytes) array is full = ap length is.1 ∙ full
object_size w (cells size c) array is full = length-map-range_with_len (cell_byte c array) 0 size ∙ is.1

object_bytes : (w : Object) (x : Origin) (array : ℕ → ℕ) → IsOriginOf w x → All IsByte w.bytes → All IsByte (object_from x array)
object_bytes w (fixed bytes) array is all = subst (All IsByte) (sym is.1) all
object_bytes w (cells size c) array is all =
    All-map IsByte (cell_byte c array) (range_with_len 0 size) (λ k d l. small _)

first_sizes : (os : List Object) (xs : List Origin) (o : ℕ) (entry : ℕ → ℕ → ℕ) → AreOriginsOf os xs → AreFilled os → sizes (objects_from o xs entry) ≡ map (λ p. p.size) os
first_sizes [] [] o entry a full = refl
first_sizes [] (x ∷ xs) o entry a full = absurd a
first_sizes (w ∷ os) [] o entry a full = absurd a
first_sizes (w ∷ os) (x ∷ xs) o entry a full =
    λ i. object_size w x (entry o) a.0 (head_filled w os full) i ∷ first_sizes os xs (o + 1) entry a.1 (tail_filled w os full) i

first_bytes : (os : List Object) (xs : List Origin) (o : ℕ) (entry : ℕ → ℕ → ℕ) → AreOriginsOf os xs → AreFilled os → All (λ p. All IsByte p) (objects_from o xs entry)
first_bytes [] [] o entry a full = All-nil (λ p. All IsByte p)
first_bytes [] (x ∷ xs) o entry a full = absurd a
first_bytes (w ∷ os) [] o entry a full = absurd a
first_bytes (w ∷ os) (x ∷ xs) o entry a full =
    All-cons (λ p. All IsByte p) (object_from x (entry o)) (objects_from (o + 1) xs entry)
    (object_bytes w x (entry o) a.0 (All-head (λ p. All IsByte p) w.bytes (map (λ p. p.bytes) os) full.bytes))
    (first_bytes os xs (o + 1) entry a.1 (tail_filled w os full))

-- a memory of a layout's objects holds them under each reading
pub holds_objects : (os : List Object) (nodes : List Node) (m : MemoryView) (v : Reading) → AreOriginsOf os m.origins → AreFilled os → HoldsObjects os (memory_at nodes m v)
holds_objects os nodes m v a full = record {
  sizes = sizes_after nodes v m.writes (objects_from 0 m.origins v.entry) ∙ first_sizes os m.origins 0 v.entry a full;
  bytes = all_after nodes v m.writes (objects_from 0 m.origins v.entry) (first_bytes os m.origins 0 v.entry a full);
}
