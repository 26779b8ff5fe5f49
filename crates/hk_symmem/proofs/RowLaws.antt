-- The rows of a memory, and what is written into them.
use Rattle.std.proofs.Common.{◌≡◌, ◌≢◌, ℕ, zero, suc, ◌+◌, ◌^◌, ◌<◌, ◌≤◌, ◌⊎◌, inl, inr, Bool, true, false, List, [], ◌∷◌, ◌++◌, length, refl, sym, ◌∙◌, ap, subst, arith}
use Rattle.std.specs.Prelude.{if◌then◌else◌, nat_eq, map, replicate, slice_get, slice_set, slice_index_or, Some, OnOk, OnErr}
use Rattle.std.proofs.Common.{Result, Ok, Err}
use Rattle.std.specs.declared.alloc.AllocError.{AllocError}
use Rattle.std.specs.List.{All, range_with_len}
use Rattle.std.proofs.lemmas.List.Elements.{All-nil, All-push, All-set}
use Rattle.std.proofs.lemmas.Bool.{eqb-true}
use Rattle.std.proofs.lemmas.List.{set-get_or, get_or_past}
use Rattle.std.proofs.lemmas.Option.{slice_get_within}
use Rattle.std.proofs.lemmas.List.FromFn.{length-map-range_with_len, get_or-map-range_with_len}
use Rattle.hk_term.specs.Meaning.{Reading, value}
use Rattle.hk_term.specs.declared.node.Node.{Node}
use Rattle.ir_layout.specs.Bytes.{object_of, number_at, with_number}
use Rattle.ir_layout.specs.declared.object.Object.{Object}
use Rattle.hk_symmem.specs.declared.row.Row.{Row}
use Rattle.hk_symmem.specs.declared.write.GuardedWrite.{GuardedWrite}
use Rattle.hk_symmem.specs.Origins.{Origin, fixed, cells, cell_byte, objects_from, start_memory, AreOriginsOf}
use Rattle.hk_symmem.specs.Guarded.{with_bytes, after_write, after_writes, written, memory_at, IsWriteOver, IsOver, MemoryView}
use Rattle.hk_symmem.specs.Reading.{IsRead}
use Rattle.hk_symmem.specs.Rows.{AreRows}
use Rattle.hk_symmem.proofs.Numbers.{bytes_length, unwrapped}
use Rattle.hk_symmem.proofs.Wholes.{after_push}

-- ---- rows of a layout

pub map_count : {A B : Type 0} (f : A → B) (xs : List A) → length (map f xs) ≡ length xs
map_count f [] = refl
map_count f (x ∷ xs) = ap suc (map_count f xs)

head_is : {A : Type 0} (x y : A) (xs ys : List A) → x ∷ xs ≡ y ∷ ys → x ≡ y
head_is x y xs ys e = cc

tail_is : {A : Type 0} (x y : A) (xs ys : List A) → x ∷ xs ≡ y ∷ ys → xs ≡ ys
tail_is x y xs ys e = cc

pub are_rows : (os : List Object) (xs : List Origin) (rs : List Row) → AreOriginsOf os xs → map (λ r. r.size) rs ≡ map (λ o. o.size) os
    → map (λ r. r.writes.items) rs ≡ replicate (length os) [] → AreRows xs rs
are_rows [] [] [] a s w = tt
are_rows [] [] (r ∷ rs) a s w = absurd (cc)
are_rows [] (x ∷ xs) rs a s w = absurd a
are_rows (o ∷ os) [] rs a s w = absurd a
are_rows (o ∷ os) (x ∷ xs) [] a s w = absurd (cc)
are_rows (o ∷ os) (fixed b ∷ xs) (r ∷ rs) a s w = (head_is _ _ _ _ w, are_rows os xs rs a.1 (tail_is _ _ _ _ s) (tail_is _ _ _ _ w))
are_rows (o ∷ os) (cells n k ∷ xs) (r ∷ rs) a s w = (head_is _ _ _ _ s ∙ sym a.0.1, are_rows os xs rs a.1 (tail_is _ _ _ _ s) (tail_is _ _ _ _ w))

pub none_written : (nodes : List Node) (v : Reading) (n : ℕ) (memory : List (List ℕ)) → written nodes v (replicate n []) memory ≡ memory
none_written nodes v zero memory = refl
none_written nodes v (suc n) [] = refl
none_written nodes v (suc n) (b ∷ memory) = ap (λ m. b ∷ m) (none_written nodes v n memory)

-- ---- an object behind its writes

pub written_at : (nodes : List Node) (v : Reading) (rows : List (List GuardedWrite)) (memory : List (List ℕ)) (k : ℕ) → k < length memory
    → object_of (written nodes v rows memory) k ≡ after_writes nodes v (slice_index_or rows k []) (object_of memory k)
written_at nodes v [] memory k l = refl
written_at nodes v (ws ∷ rows) [] k l = absurd (omega (arith, l))
written_at nodes v (ws ∷ rows) (b ∷ memory) zero l = refl
written_at nodes v (ws ∷ rows) (b ∷ memory) (suc k) l = written_at nodes v rows memory k (omega (arith, l))

pub written_set : (nodes : List Node) (v : Reading) (rows : List (List GuardedWrite)) (memory : List (List ℕ)) (k : ℕ) (w : GuardedWrite) → k < length rows → k < length memory
    → written nodes v (slice_set rows k (slice_index_or rows k [] ++ w ∷ [])) memory
    ≡ slice_set (written nodes v rows memory) k (after_write nodes v w (object_of (written nodes v rows memory) k))
written_set nodes v [] memory k w l m = absurd (omega (arith, l))
written_set nodes v (ws ∷ rows) [] k w l m = absurd (omega (arith, m))
written_set nodes v (ws ∷ rows) (b ∷ memory) zero w l m = ap (λ x. x ∷ written nodes v rows memory) (after_push nodes v ws w b)
written_set nodes v (ws ∷ rows) (b ∷ memory) (suc k) w l m = ap (λ x. after_writes nodes v ws b ∷ x) (written_set nodes v rows memory k w (omega (arith, l)) (omega (arith, m)))

pub after_length : (nodes : List Node) (v : Reading) (ws : List GuardedWrite) (b : List ℕ) → length (after_writes nodes v ws b) ≡ length b
after_length nodes v [] b = refl
after_length nodes v (w ∷ ws) b = after_length nodes v ws (after_write nodes v w b) ∙ one (nat_eq (value nodes w.guard v) 1)
  where
    one : (g : Bool) → length (if g then with_bytes w.bytes (value nodes w.offset v) (value nodes w.value v) b else b) ≡ length b
    one true = bytes_length w.bytes (value nodes w.offset v) (value nodes w.value v) b
    one false = refl

-- ---- objects

pub objects_count : (o : ℕ) (xs : List Origin) (entry : ℕ → ℕ → ℕ) → length (objects_from o xs entry) ≡ length xs
objects_count o [] entry = refl
objects_count o (x ∷ xs) entry = ap suc (objects_count (o + 1) xs entry)

pub rows_count : (xs : List Origin) (rs : List Row) → AreRows xs rs → length rs ≡ length xs
rows_count [] [] a = refl
rows_count [] (r ∷ rs) a = absurd a
rows_count (x ∷ xs) [] a = absurd a
rows_count (x ∷ xs) (r ∷ rs) a = ap suc (rows_count xs rs a.1)

cells_small : (size c : ℕ) (a : ℕ → ℕ) → All (λ b. b < 256) (map (cell_byte c a) (range_with_len 0 size))
cells_small size c a k d l =
    subst (λ b. b < 256) (sym (get_or-map-range_with_len (cell_byte c a) 0 size k k d (omega (arith, l, length-map-range_with_len (cell_byte c a) 0 size)) (omega arith))) (omega arith)

some_is : (x y : ℕ) → Some x ≡ Some y → x ≡ y
some_is x y e = cc

-- an object with writes has fewer than 2^64 bytes
pub object_room : (o : ℕ) (xs : List Origin) (rs : List Row) (k s : ℕ) (entry : ℕ → ℕ → ℕ) → AreRows xs rs → k < length xs → slice_get (map (λ r. r.size) rs) k ≡ Some s → s < 2 ^ 64
    → slice_index_or (map (λ r. r.writes.items) rs) k [] ≢ [] → (length (object_of (objects_from o xs entry) k) < 2 ^ 64) × All (λ b. b < 256) (object_of (objects_from o xs entry) k)
object_room o [] rs k s entry a l e small some = absurd (omega (arith, l))
object_room o (x ∷ xs) [] k s entry a l e small some = absurd a
object_room o (fixed b ∷ xs) (r ∷ rs) zero s entry a l e small some = absurd (some a.0)
object_room o (cells n c ∷ xs) (r ∷ rs) zero s entry a l e small some =
    (omega (arith, small, some_is r.size s e, a.0, length-map-range_with_len (cell_byte c (entry o)) 0 n), cells_small n c (entry o))
object_room o (x ∷ xs) (r ∷ rs) (suc k) s entry a l e small some = object_room (o + 1) xs rs k s entry a.1 (omega (arith, l)) e small some

pub mutable_room : (o : ℕ) (xs : List Origin) (rs : List Row) (k n c s : ℕ) (entry : ℕ → ℕ → ℕ) → AreRows xs rs → slice_get xs k ≡ Some (cells n c) → slice_get (map (λ r. r.size) rs) k ≡ Some s → s < 2 ^ 64
    → length (object_of (objects_from o xs entry) k) < 2 ^ 64
mutable_room o [] rs k n c s entry a g e small = absurd (cc)
mutable_room o (x ∷ xs) [] k n c s entry a g e small = absurd a
mutable_room o (fixed b ∷ xs) (r ∷ rs) zero n c s entry a g e small = absurd (cc)
mutable_room o (cells m z ∷ xs) (r ∷ rs) zero n c s entry a g e small = omega (arith, small, some_is r.size s e, a.0, length-map-range_with_len (cell_byte z (entry o)) 0 m)
mutable_room o (x ∷ xs) (r ∷ rs) (suc k) n c s entry a g e small = mutable_room (o + 1) xs rs k n c s entry a.1 g e small

pub rows_same : (xs : List Origin) (old new : List Row) → AreRows xs old → map (λ r. r.size) new ≡ map (λ r. r.size) old
    → map (λ r. r.writes.items) new ≡ map (λ r. r.writes.items) old → AreRows xs new
rows_same [] [] [] a s w = tt
rows_same [] [] (r ∷ new) a s w = absurd (cc)
rows_same [] (r ∷ old) new a s w = absurd a
rows_same (x ∷ xs) [] new a s w = absurd a
rows_same (x ∷ xs) (r ∷ old) [] a s w = absurd (cc)
rows_same (fixed b ∷ xs) (r ∷ old) (q ∷ new) a s w = (head_is _ _ _ _ w ∙ a.0, rows_same xs old new a.1 (tail_is _ _ _ _ s) (tail_is _ _ _ _ w))
rows_same (cells m e ∷ xs) (r ∷ old) (q ∷ new) a s w = (head_is _ _ _ _ s ∙ a.0, rows_same xs old new a.1 (tail_is _ _ _ _ s) (tail_is _ _ _ _ w))

-- a write to an object that is no constant
pub rows_written : (xs : List Origin) (old new : List Row) (k n c : ℕ) (ws : List GuardedWrite) → AreRows xs old → map (λ r. r.size) new ≡ map (λ r. r.size) old
    → map (λ r. r.writes.items) new ≡ slice_set (map (λ r. r.writes.items) old) k ws → slice_get xs k ≡ Some (cells n c) → AreRows xs new
rows_written [] [] [] k n c ws a s w g = tt
rows_written [] [] (r ∷ new) k n c ws a s w g = absurd (cc)
rows_written [] (r ∷ old) new k n c ws a s w g = absurd a
rows_written (x ∷ xs) [] new k n c ws a s w g = absurd a
rows_written (x ∷ xs) (r ∷ old) [] k n c ws a s w g = absurd (cc)
rows_written (fixed b ∷ xs) (r ∷ old) (q ∷ new) zero n c ws a s w g = absurd (cc)
rows_written (cells m e ∷ xs) (r ∷ old) (q ∷ new) zero n c ws a s w g = (head_is _ _ _ _ s ∙ a.0, rows_same xs old new a.1 (tail_is _ _ _ _ s) (tail_is _ _ _ _ w))
rows_written (fixed b ∷ xs) (r ∷ old) (q ∷ new) (suc k) n c ws a s w g = (head_is _ _ _ _ w ∙ a.0, rows_written xs old new k n c ws a.1 (tail_is _ _ _ _ s) (tail_is _ _ _ _ w) g)
rows_written (cells m e ∷ xs) (r ∷ old) (q ∷ new) (suc k) n c ws a s w g = (head_is _ _ _ _ s ∙ a.0, rows_written xs old new k n c ws a.1 (tail_is _ _ _ _ s) (tail_is _ _ _ _ w) g)

-- ---- a memory behind a write

choose_write : (nodes : List Node) (v : Reading) (w : GuardedWrite) (memory : List (List ℕ)) (k : ℕ) → length (object_of memory k) < 2 ^ 64
    → (value nodes w.guard v ≡ 1 → value nodes w.offset v + w.bytes ≤ length (object_of memory k))
    → slice_set memory k (after_write nodes v w (object_of memory k))
    ≡ (if nat_eq (value nodes w.guard v) 1 then slice_set memory k (with_number w.bytes (value nodes w.offset v) (value nodes w.value v) (object_of memory k)) else memory)
choose_write nodes v w memory k room there = go (nat_eq (value nodes w.guard v) 1) refl
  where
    go : (b : Bool) → nat_eq (value nodes w.guard v) 1 ≡ b
        → slice_set memory k (if b then with_bytes w.bytes (value nodes w.offset v) (value nodes w.value v) (object_of memory k) else object_of memory k)
        ≡ (if b then slice_set memory k (with_number w.bytes (value nodes w.offset v) (value nodes w.value v) (object_of memory k)) else memory)
    go true e = ap (slice_set memory k) (unwrapped w.bytes (value nodes w.offset v) (value nodes w.value v) (object_of memory k) (omega (arith, there (eqb-true (value nodes w.guard v) 1 e), room)))
    go false e = set-get_or memory k []

abbrev pub seen : List Origin → List Row → MemoryView
seen xs rs = record { origins = xs; writes = map (λ r. r.writes.items) rs }

pub store_value : (nodes : List Node) (v : Reading) (xs : List Origin) (rs new : List Row) (m : MemoryView) (k n c s : ℕ) (w : GuardedWrite) → seen xs rs ≡ m → AreRows xs rs
    → slice_get m.origins k ≡ Some (cells n c) → slice_get (map (λ r. r.size) rs) k ≡ Some s → s < 2 ^ 64
    → map (λ r. r.writes.items) new ≡ slice_set (map (λ r. r.writes.items) rs) k (slice_index_or (map (λ r. r.writes.items) rs) k [] ++ w ∷ [])
    → (value nodes w.guard v ≡ 1 → value nodes w.offset v + w.bytes ≤ length (object_of (memory_at nodes m v) k))
    → memory_at nodes (seen xs new) v
    ≡ (if nat_eq (value nodes w.guard v) 1 then slice_set (memory_at nodes m v) k (with_number w.bytes (value nodes w.offset v) (value nodes w.value v) (object_of (memory_at nodes m v) k)) else memory_at nodes m v)
store_value nodes v xs rs new m k n c s w is a g e small more =
    subst (λ q. slice_get q.origins k ≡ Some (cells n c) → (value nodes w.guard v ≡ 1 → value nodes w.offset v + w.bytes ≤ length (object_of (memory_at nodes q v) k))
    → memory_at nodes (seen xs new) v
    ≡ (if nat_eq (value nodes w.guard v) 1 then slice_set (memory_at nodes q v) k (with_number w.bytes (value nodes w.offset v) (value nodes w.value v) (object_of (memory_at nodes q v) k)) else memory_at nodes q v))
    is (λ g there. ap (λ rows. written nodes v rows (start_memory xs v.entry)) more
    ∙ written_set nodes v (map (λ r. r.writes.items) rs) (start_memory xs v.entry) k w (inside g) (within g)
    ∙ choose_write nodes v w (memory_at nodes (seen xs rs) v) k (room g) there) g
  where
    inside : slice_get xs k ≡ Some (cells n c) → k < length (map (λ (r : Row). r.writes.items) rs)
    inside g = omega (arith, slice_get_within xs k (cells n c) g, rows_count xs rs a, map_count (λ (r : Row). r.writes.items) rs)

    within : slice_get xs k ≡ Some (cells n c) → k < length (start_memory xs v.entry)
    within g = omega (arith, slice_get_within xs k (cells n c) g, objects_count 0 xs v.entry)

    room : slice_get xs k ≡ Some (cells n c) → length (object_of (memory_at nodes (seen xs rs) v) k) < 2 ^ 64
    room g = subst (λ b. length b < 2 ^ 64) (sym (written_at nodes v (map (λ (r : Row). r.writes.items) rs) (start_memory xs v.entry) k (within g)))
        (subst (λ l. l < 2 ^ 64) (sym (after_length nodes v (slice_index_or (map (λ (r : Row). r.writes.items) rs) k []) (object_of (start_memory xs v.entry) k))) (mutable_room 0 xs rs k n c s v.entry a g e small))

pub place_within : (xs : List Origin) (rs : List Row) (m : MemoryView) (k : ℕ) → seen xs rs ≡ m → AreRows xs rs → k < length m.origins → k < length rs
place_within xs rs m k is a l = omega (arith, rows_count xs rs a, ap (λ (q : MemoryView). length q.origins) is, l)

pub rows_kept : (xs : List Origin) (old new : List Row) (m : MemoryView) (k n c : ℕ) (ws : List GuardedWrite) (r : Result (Unit {0}) AllocError) → seen xs old ≡ m → AreRows xs old
    → slice_get m.origins k ≡ Some (cells n c) → map (λ r. r.size) new ≡ map (λ r. r.size) old
    → OnOk r (map (λ r. r.writes.items) new ≡ slice_set (map (λ r. r.writes.items) old) k ws) → OnErr r (map (λ r. r.writes.items) new ≡ map (λ r. r.writes.items) old) → AreRows xs new
rows_kept xs old new m k n c ws (Ok x) is a g s wrote kept = rows_written xs old new k n c ws a s wrote (ap (λ (q : MemoryView). slice_get q.origins k) is ∙ g)
rows_kept xs old new m k n c ws (Err x) is a g s wrote kept = rows_same xs old new a s kept

pub over_more : (nodes : List Node) (xs : List Origin) (rs new : List Row) (m : MemoryView) (k : ℕ) (w : GuardedWrite) → seen xs rs ≡ m → IsOver nodes m → IsWriteOver nodes w
    → map (λ r. r.writes.items) new ≡ slice_set (map (λ r. r.writes.items) rs) k (slice_index_or (map (λ r. r.writes.items) rs) k [] ++ w ∷ []) → IsOver nodes (seen xs new)
over_more nodes xs rs new m k w is o h more = record {
  writes = subst (λ rows. All (λ ws. All (IsWriteOver nodes) ws) rows) (sym more)
      (All-set (λ ws. All (IsWriteOver nodes) ws) (map (λ r. r.writes.items) rs) k (slice_index_or (map (λ r. r.writes.items) rs) k [] ++ w ∷ [])
      (All-push (IsWriteOver nodes) (slice_index_or (map (λ r. r.writes.items) rs) k []) w (row (split k (length (map (λ (r : Row). r.writes.items) rs)))) h) all);
}
  where
    all : All (λ ws. All (IsWriteOver nodes) ws) (map (λ (r : Row). r.writes.items) rs)
    all = (subst (IsOver nodes) (sym is) o).writes

    split : (a b : ℕ) → (a < b) ⊎ (b ≤ a)
    split a b = grind arith

    row : (k < length (map (λ (r : Row). r.writes.items) rs)) ⊎ (length (map (λ (r : Row). r.writes.items) rs) ≤ k) → All (IsWriteOver nodes) (slice_index_or (map (λ (r : Row). r.writes.items) rs) k [])
    row (inl l) = all k [] l
    row (inr l) = subst (λ ws. All (IsWriteOver nodes) ws) (sym (get_or_past (map (λ (r : Row). r.writes.items) rs) k [] l)) (All-nil (IsWriteOver nodes))

-- ---- a read

pub writes_over : (nodes : List Node) (xs : List Origin) (rs : List Row) (m : MemoryView) (k : ℕ) → seen xs rs ≡ m → IsOver nodes m → k < length rs
    → All (IsWriteOver nodes) (slice_index_or (map (λ r. r.writes.items) rs) k [])
writes_over nodes xs rs m k is o l = (subst (IsOver nodes) (sym is) o).writes k [] (omega (arith, l, map_count (λ (r : Row). r.writes.items) rs))

-- an object without writes
pub read_first : (nodes : List Node) (v : Reading) (xs : List Origin) (rs : List Row) (m : MemoryView) (k p n r : ℕ) → seen xs rs ≡ m → k < length m.origins
    → slice_index_or (map (λ r. r.writes.items) rs) k [] ≡ []
    → (p + n ≤ length (object_of (start_memory xs v.entry) k) → r ≡ number_at n p (object_of (start_memory xs v.entry) k))
    → p + n ≤ length (object_of (memory_at nodes m v) k) → r ≡ number_at n p (object_of (memory_at nodes m v) k)
read_first nodes v xs rs m k p n r is l none first there =
    first (subst (λ b. p + n ≤ length b) same there) ∙ ap (number_at n p) (sym same)
  where
    within : k < length (start_memory xs v.entry)
    within = omega (arith, l, objects_count 0 xs v.entry, ap (λ (q : MemoryView). length q.origins) is)

    same : object_of (memory_at nodes m v) k ≡ object_of (start_memory xs v.entry) k
    same = ap (λ q. object_of (memory_at nodes q v) k) (sym is) ∙ written_at nodes v (map (λ (r : Row). r.writes.items) rs) (start_memory xs v.entry) k within
        ∙ ap (λ ws. after_writes nodes v ws (object_of (start_memory xs v.entry) k)) none

-- an object with writes
pub read_behind : (nodes : List Node) (v : Reading) (xs : List Origin) (rs : List Row) (m : MemoryView) (k p n s found r : ℕ) → seen xs rs ≡ m → AreRows xs rs → k < length m.origins
    → slice_get (map (λ r. r.size) rs) k ≡ Some s → s < 2 ^ 64 → slice_index_or (map (λ r. r.writes.items) rs) k [] ≢ []
    → (p + n ≤ length (object_of (start_memory xs v.entry) k) → found ≡ number_at n p (object_of (start_memory xs v.entry) k))
    → ((b : List ℕ) → IsRead p n b found → IsRead p n (after_writes nodes v (slice_index_or (map (λ r. r.writes.items) rs) k []) b) r)
    → p + n ≤ length (object_of (memory_at nodes m v) k) → r ≡ number_at n p (object_of (memory_at nodes m v) k)
read_behind nodes v xs rs m k p n s found r is a l e small some first step there =
    (step (object_of (start_memory xs v.entry) k) (record { there = inside; room = room.0; small = room.1; is = first inside })).is ∙ ap (number_at n p) (sym same)
  where
    known : k < length xs
    known = omega (arith, l, ap (λ (q : MemoryView). length q.origins) is)

    within : k < length (start_memory xs v.entry)
    within = omega (arith, l, objects_count 0 xs v.entry, ap (λ (q : MemoryView). length q.origins) is)

    same : object_of (memory_at nodes m v) k ≡ after_writes nodes v (slice_index_or (map (λ (r : Row). r.writes.items) rs) k []) (object_of (start_memory xs v.entry) k)
    same = ap (λ q. object_of (memory_at nodes q v) k) (sym is) ∙ written_at nodes v (map (λ (r : Row). r.writes.items) rs) (start_memory xs v.entry) k within

    inside : p + n ≤ length (object_of (start_memory xs v.entry) k)
    inside = subst (λ c. p + n ≤ c) (ap length same ∙ after_length nodes v (slice_index_or (map (λ (r : Row). r.writes.items) rs) k []) (object_of (start_memory xs v.entry) k)) there

    room : (length (object_of (start_memory xs v.entry) k) < 2 ^ 64) × All (λ b. b < 256) (object_of (start_memory xs v.entry) k)
    room = object_room 0 xs rs k s v.entry a known e small some

pub no_elements : {A : Type 0} (xs : List A) → length xs ≡ 0 → xs ≡ []
no_elements [] e = refl
no_elements (x ∷ xs) e = absurd (omega (arith, e))
