-- Sizes are multiples of alignments; fields lie within their struct, one behind another; a store changes its own bytes alone.
use Rattle.std.proofs.Common.{◌≡◌, ℕ, zero, suc, ◌+◌, ◌-◌, ◌*◌, ◌/◌, ◌%◌, ◌^◌, ◌<◌, ◌≤◌, Bool, true, false, List, length, refl, sym, ◌∙◌, ap, subst, arith, length-set, get_or-set_same, get_or-set_other}
use Rattle.std.specs.Prelude.{if◌then◌else◌, slice_index, slice_set}
use Rattle.std.proofs.Math.Nat.{pow-succ', mul_assoc}
use Rattle.ir_ast.specs.Plain.{Ty, Tys, nothing, integer, pointer, array, structure, packed, named, opaque, no_types, type_and}
use Rattle.ir_type.specs.Whole.{is_memory_width}
use Rattle.ir_layout.specs.Sizes.{up_to, size_of, align_of, greatest_align, end_of, packed_end_of, offset_in, packed_offset_in}
use Rattle.ir_layout.specs.Bytes.{number_at, with_number}
use Rattle.ir_layout.specs.Offsets.{count_in}
use Rattle.ir_layout.specs.Laws.{field_type}
use Rattle.ir_layout.proofs.Cuts.{up_most}
use Rattle.ir_layout.proofs.FactLaws.{align_some, greatest_some}
use Rattle.ir_layout.proofs.OffsetLaws.{end_least, packed_least}

times_one : (n : ℕ) → n ≡ n * 1
times_one n = omega arith

pub multiple : (t : Ty) → (k : ℕ) × (size_of t ≡ k * align_of t)
multiple nothing = (0, refl)
multiple (integer w) = pick (is_memory_width w)
  where
    pick : (b : Bool) → (k : ℕ) × (w / 8 ≡ k * (if b then w / 8 else 1))
    pick true = (1, omega arith)
    pick false = (w / 8, times_one (w / 8))
multiple pointer = (1, refl)
multiple (array n t) = let m = multiple t in (n * m.0, ap (λ s. n * s) m.1 ∙ sym (mul_assoc n m.0 (align_of t)))
multiple (structure ts) = ((end_of 0 ts + (greatest_align ts - 1)) / greatest_align ts, refl)
multiple (packed ts) = (packed_end_of 0 ts, times_one (packed_end_of 0 ts))
multiple (named x) = (0, refl)
multiple opaque = (0, refl)

pub aligned : (at : ℕ) (ts : Tys) (k : ℕ) → k < count_in ts → (j : ℕ) × (offset_in at ts k ≡ j * align_of (field_type ts k))
aligned at no_types k l = absurd (omega (arith, l))
aligned at (type_and t ts) zero l = ((at + (align_of t - 1)) / align_of t, refl)
aligned at (type_and t ts) (suc k) l = aligned (up_to (align_of t) at + size_of t) ts k (omega (arith, l))

offset_least : (at : ℕ) (ts : Tys) (k : ℕ) → at ≤ offset_in at ts k
offset_least at no_types k = omega arith
offset_least at (type_and t ts) zero = up_most (align_of t) at (align_some t)
offset_least at (type_and t ts) (suc k) =
    over at (up_to (align_of t) at) (size_of t) (offset_in (up_to (align_of t) at + size_of t) ts k) (up_most (align_of t) at (align_some t)) (offset_least (up_to (align_of t) at + size_of t) ts k)
  where
    over : (a b s e : ℕ) → a ≤ b → b + s ≤ e → a ≤ e
    over a b s e l m = omega (arith, l, m)

ends : (at : ℕ) (ts : Tys) (k : ℕ) → k < count_in ts → offset_in at ts k + size_of (field_type ts k) ≤ end_of at ts
ends at no_types k l = absurd (omega (arith, l))
ends at (type_and t ts) zero l = end_least (up_to (align_of t) at + size_of t) ts
ends at (type_and t ts) (suc k) l = ends (up_to (align_of t) at + size_of t) ts k (omega (arith, l))

pub within : (ts : Tys) (k : ℕ) → k < count_in ts → offset_in 0 ts k + size_of (field_type ts k) ≤ size_of (structure ts)
within ts k l = over (offset_in 0 ts k + size_of (field_type ts k)) (end_of 0 ts) (size_of (structure ts)) (ends 0 ts k l) (up_most (greatest_align ts) (end_of 0 ts) (greatest_some ts))
  where
    over : (a b c : ℕ) → a ≤ b → b ≤ c → a ≤ c
    over a b c l m = omega (arith, l, m)

pub apart : (at : ℕ) (ts : Tys) (j k : ℕ) → j < k → k < count_in ts → offset_in at ts j + size_of (field_type ts j) ≤ offset_in at ts k
apart at no_types j k m l = absurd (omega (arith, l))
apart at (type_and t ts) j zero m l = absurd (omega (arith, m))
apart at (type_and t ts) zero (suc k) m l = offset_least (up_to (align_of t) at + size_of t) ts k
apart at (type_and t ts) (suc j) (suc k) m l = apart (up_to (align_of t) at + size_of t) ts j k (omega (arith, m)) (omega (arith, l))

packed_offset_least : (at : ℕ) (ts : Tys) (k : ℕ) → at ≤ packed_offset_in at ts k
packed_offset_least at no_types k = omega arith
packed_offset_least at (type_and t ts) zero = omega arith
packed_offset_least at (type_and t ts) (suc k) = over at (size_of t) (packed_offset_in (at + size_of t) ts k) (packed_offset_least (at + size_of t) ts k)
  where
    over : (a s e : ℕ) → a + s ≤ e → a ≤ e
    over a s e l = omega (arith, l)

pub packed_within : (at : ℕ) (ts : Tys) (k : ℕ) → k < count_in ts → packed_offset_in at ts k + size_of (field_type ts k) ≤ packed_end_of at ts
packed_within at no_types k l = absurd (omega (arith, l))
packed_within at (type_and t ts) zero l = packed_least (at + size_of t) ts
packed_within at (type_and t ts) (suc k) l = packed_within (at + size_of t) ts k (omega (arith, l))

pub packed_apart : (at : ℕ) (ts : Tys) (j k : ℕ) → j < k → k < count_in ts → packed_offset_in at ts j + size_of (field_type ts j) ≤ packed_offset_in at ts k
packed_apart at no_types j k m l = absurd (omega (arith, l))
packed_apart at (type_and t ts) j zero m l = absurd (omega (arith, m))
packed_apart at (type_and t ts) zero (suc k) m l = packed_offset_least (at + size_of t) ts k
packed_apart at (type_and t ts) (suc j) (suc k) m l = packed_apart (at + size_of t) ts j k (omega (arith, m)) (omega (arith, l))

-- ---- stores

pub stored_length : (n at value : ℕ) (bytes : List ℕ) → length (with_number n at value bytes) ≡ length bytes
stored_length zero at value bytes = refl
stored_length (suc n) at value bytes = stored_length n (at + 1) (value / 256) (slice_set bytes at (value % 256)) ∙ length-set bytes at (value % 256)

pub kept_below : (n at value k : ℕ) (bytes : List ℕ) → k < at → slice_index (with_number n at value bytes) k ≡ slice_index bytes k
kept_below zero at value k bytes l = refl
kept_below (suc n) at value k bytes l =
    kept_below n (at + 1) (value / 256) k (slice_set bytes at (value % 256)) (omega (arith, l))
    ∙ get_or-set_other bytes at k (value % 256) 0 (λ e. absurd (omega (arith, l, e)))

pub kept_behind : (n at value k : ℕ) (bytes : List ℕ) → at + n ≤ k → slice_index (with_number n at value bytes) k ≡ slice_index bytes k
kept_behind zero at value k bytes l = refl
kept_behind (suc n) at value k bytes l =
    kept_behind n (at + 1) (value / 256) k (slice_set bytes at (value % 256)) (omega (arith, l))
    ∙ get_or-set_other bytes at k (value % 256) 0 (λ e. absurd (omega (arith, l, e)))

pub loaded : (n at value : ℕ) (bytes : List ℕ) → at + n ≤ length bytes → value < 256 ^ n → number_at n at (with_number n at value bytes) ≡ value
loaded zero at value bytes l m = omega (arith, m)
loaded (suc n) at value bytes l m =
    let power : 256 ^ suc n ≡ 256 * 256 ^ n = pow-succ' 256 n in
    let low : slice_index (with_number n (at + 1) (value / 256) (slice_set bytes at (value % 256))) at ≡ value % 256 =
    kept_below n (at + 1) (value / 256) at (slice_set bytes at (value % 256)) (omega arith) ∙ get_or-set_same bytes at (value % 256) 0 (omega (arith, l)) in
    let high : number_at n (at + 1) (with_number n (at + 1) (value / 256) (slice_set bytes at (value % 256))) ≡ value / 256 =
    loaded n (at + 1) (value / 256) (slice_set bytes at (value % 256)) (subst (λ k. at + 1 + n ≤ k) (sym (length-set bytes at (value % 256))) (omega (arith, l))) (smaller value (256 ^ n) (256 ^ suc n) power m) in
    joined (slice_index (with_number n (at + 1) (value / 256) (slice_set bytes at (value % 256))) at)
    (number_at n (at + 1) (with_number n (at + 1) (value / 256) (slice_set bytes at (value % 256)))) value low high
  where
    smaller : (v p q : ℕ) → q ≡ 256 * p → v < q → v / 256 < p
    smaller v p q e l = omega (arith, e, l)

    joined : (a b v : ℕ) → a ≡ v % 256 → b ≡ v / 256 → a + 256 * b ≡ v
    joined a b v e f = omega (arith, e, f)
