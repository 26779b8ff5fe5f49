-- Bytes that are cut out of cells.
use Rattle.std.proofs.Common.{◌≡◌, ℕ, ◌+◌, ◌*◌, ◌/◌, ◌%◌, ◌^◌, ◌<◌, ◌≤◌, sym, ◌∙◌, ap, subst, arith, add-one}
use Rattle.std.specs.Prelude.{slice_index}
use Rattle.std.proofs.Math.Nat.{mod-eq_of_lt}
use Rattle.std.proofs.lemmas.List.FromFn.{get_or-map-range_with_len}
use Rattle.ir_layout.specs.Bytes.{number_at}
use Rattle.hk_symmem.specs.Origins.{cells, cell_byte, object_from}
use Rattle.hk_symmem.proofs.Numbers.{bits_of_bytes, number_more}

-- numbers of bytes, one above the other
pub bytes_above : (h l w b r : ℕ) → w ≡ 8 * b → r ≡ h * 2 ^ w + l → r ≡ h * 256 ^ b + l
bytes_above h l w b r e is = is ∙ ap (λ w. h * 2 ^ w + l) e ∙ ap (λ q. h * q + l) (bits_of_bytes b)

-- three bits below a number
pub eight_times : (p c s q : ℕ) → 2 ^ s ≡ c → q ≡ p % 2 ^ s * 2 ^ 3 + 0 → q ≡ 8 * (p % c)
eight_times p c s q e is = is ∙ ap (λ d. p % d * 2 ^ 3 + 0) e ∙ times (p % c)
  where
    times : (n : ℕ) → n * 2 ^ 3 + 0 ≡ 8 * n
    times n = omega arith

-- a byte cut out of a number
pub cut_out : (n k b cut r : ℕ) → b ≡ 8 * k → cut ≡ n / 2 ^ b → r ≡ cut % 2 ^ 8 → r ≡ n / 256 ^ k % 256
cut_out n k b cut r e is low = low ∙ ap (λ x. x % 2 ^ 8) (is ∙ ap (λ b. n / 2 ^ b) e ∙ ap (λ q. n / q) (bits_of_bytes k))

-- a cell of one byte is the byte
pub only_byte : (c : ℕ) (a : ℕ → ℕ) (p r : ℕ) → c ≡ 1 → r ≡ a (p / c) % 2 ^ (8 * c) → r ≡ cell_byte c a p
only_byte c a p r e is = subst (λ c. r ≡ a (p / c) % 2 ^ (8 * c) → r ≡ cell_byte c a p) (sym e) alone is
  where
    same : (n : ℕ) → n % 2 ^ 8 ≡ n % 2 ^ 8 / 256 ^ 0 % 256
    same n = omega arith

    none : (p : ℕ) → 0 ≡ p % 1
    none p = omega arith

    alone : r ≡ a (p / 1) % 2 ^ (8 * 1) → r ≡ cell_byte 1 a p
    alone is = is ∙ same (a (p / 1)) ∙ (λ i. a (p / 1) % 2 ^ 8 / 256 ^ none p i % 256)

-- a byte of the cell that holds it
pub cut_cell : (c : ℕ) (a : ℕ → ℕ) (p p' k w r : ℕ) → r ≡ w / 256 ^ (p' % c) % 256 → w ≡ a k % 2 ^ (8 * c) → k ≡ p / c → p' ≡ p → r ≡ cell_byte c a p
cut_cell c a p p' k w r is whole at same = is ∙ (λ i. (whole ∙ ap (λ k. a k % 2 ^ (8 * c)) at) i / 256 ^ (same i % c) % 256)

pub byte_there : (c : ℕ) (a : ℕ → ℕ) (size i : ℕ) → i < size → slice_index (object_from (cells size c) a) i ≡ cell_byte c a i
byte_there c a size i l = get_or-map-range_with_len (cell_byte c a) 0 size i i 0 l (omega arith)

pub first : (c p p' m size new : ℕ) (a : ℕ → ℕ) → 0 < m → p' ≡ p → p + m ≤ size → new ≡ cell_byte c a p' → new ≡ number_at 1 p (object_from (cells size c) a)
first c p p' m size new a some e there is =
    is ∙ ap (cell_byte c a) e ∙ sym (byte_there c a size p (omega (arith, some, there))) ∙ one (slice_index (object_from (cells size c) a) p)
  where
    one : (x : ℕ) → x ≡ x + 256 * 0
    one x = omega arith

pub next : (c p p' m k size made new : ℕ) (a : ℕ → ℕ) → k < m → p' ≡ p → size < 2 ^ 64 → p + m ≤ size → made ≡ number_at k p (object_from (cells size c) a)
    → new ≡ cell_byte c a ((p' + k) % 2 ^ 64) * 256 ^ k + made → new ≡ number_at (k + 1) p (object_from (cells size c) a)
next c p p' m k size made new a l e room there rest is =
    is ∙ (λ i. cell_byte c a (at i) * 256 ^ k + rest i)
    ∙ ap (λ b. b * 256 ^ k + number_at k p (object_from (cells size c) a)) (sym (byte_there c a size (p + k) (omega (arith, l, there))))
    ∙ sym (number_more k p (object_from (cells size c) a)) ∙ ap (λ j. number_at j p (object_from (cells size c) a)) (sym (add-one k))
  where
    at : (p' + k) % 2 ^ 64 ≡ p + k
    at = ap (λ q. (q + k) % 2 ^ 64) e ∙ mod-eq_of_lt (omega (arith, l, room, there))
