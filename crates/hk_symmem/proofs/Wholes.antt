-- Reads behind one write, as wholes.
use Rattle.std.proofs.Common.{◌≡◌, ◌≢◌, ℕ, zero, suc, ◌+◌, ◌-◌, ◌*◌, ◌%◌, ◌^◌, ◌<◌, ◌≤◌, ◌⊎◌, inl, inr, Bool, true, false, List, [], ◌∷◌, ◌++◌, length, get_or, take, refl, sym, ◌∙◌, ap, subst, arith}
use Rattle.std.specs.Prelude.{if◌then◌else◌, nat_eq, bit_and}
use Rattle.std.proofs.lemmas.Bool.Decides.{eqb_tells}
use Rattle.std.proofs.lemmas.List.{take_more}
use Rattle.std.proofs.lemmas.Nat.{mul-mod, pow-add}
use Rattle.hk_term.specs.Operations.{bit}
use Rattle.hk_term.specs.Meaning.{Reading, value}
use Rattle.hk_term.specs.declared.node.Node.{Node}
use Rattle.ir_layout.specs.Bytes.{IsWidth, number_at}
use Rattle.hk_symmem.specs.declared.write.GuardedWrite.{GuardedWrite}
use Rattle.hk_symmem.specs.Guarded.{with_bytes, after_write, after_writes}
use Rattle.hk_symmem.specs.Reading.{IsRead}
use Rattle.hk_symmem.proofs.Numbers.{bytes_length, bytes_small, read_back, read_apart}

-- ---- multiples

pub by_width : (P : ℕ → Type 0) → P 1 → P 2 → P 4 → P 8 → (n : ℕ) → IsWidth n → P n
by_width P a b c d n (inl e) = subst P (sym e) a
by_width P a b c d n (inr (inl e)) = subst P (sym e) b
by_width P a b c d n (inr (inr (inl e))) = subst P (sym e) c
by_width P a b c d n (inr (inr (inr e))) = subst P (sym e) d

cut_multiple : (n s : ℕ) → IsWidth s → n % s ≡ 0 → n % 2 ^ 64 % s ≡ 0
cut_multiple n = by_width (λ s. n % s ≡ 0 → n % 2 ^ 64 % s ≡ 0) (λ h. omega arith) (λ h. omega arith) (λ h. omega arith) (λ h. omega arith)

product_multiple : (x y s : ℕ) → IsWidth s → y % s ≡ 0 → (x * y) % s ≡ 0
product_multiple x y s i h = mul-mod x y s ∙ ap (λ r. (x % s * r) % s) h ∙ by_width (λ s. (x % s * 0) % s ≡ 0) (omega arith) (omega arith) (omega arith) (omega arith) s i

pub second_multiple : (w x y s : ℕ) → IsWidth s → w ≡ 64 → y % s ≡ 0 → (x * y) % 2 ^ w % s ≡ 0
second_multiple w x y s i e h = ap (λ k. (x * y) % 2 ^ k % s) e ∙ cut_multiple (x * y) s i (product_multiple x y s i h)

pub first_multiple : (w x y s : ℕ) → IsWidth s → w ≡ 64 → x % s ≡ 0 → (x * y) % 2 ^ w % s ≡ 0
first_multiple w x y s i e h = ap (λ n. n % 2 ^ w % s) (swap x y) ∙ second_multiple w y x s i e h
  where
    swap : (x y : ℕ) → x * y ≡ y * x
    swap x y = grind arith

pub power_multiple : (n s : ℕ) → IsWidth s → 3 ≤ n → 2 ^ n % s ≡ 0
power_multiple n s i l = ap (λ k. 2 ^ k % s) (whole n l) ∙ ap (λ k. k % s) (pow-add 2 (n - 3) 3) ∙ product_multiple (2 ^ (n - 3)) 8 s i (by_width (λ s. 8 % s ≡ 0) refl refl refl refl s i)
  where
    whole : (n : ℕ) → 3 ≤ n → n ≡ n - 3 + 3
    whole n l = omega (arith, l)

-- two ranges of one size at multiples of it are one, or apart
apart : (m p o : ℕ) → IsWidth m → p % m ≡ 0 → o % m ≡ 0 → p ≢ o → (p + m ≤ o) ⊎ (o + m ≤ p)
apart m p o i a b d = by (split p o)
  where
    split : (a b : ℕ) → (a < b) ⊎ (b ≤ a)
    split a b = grind arith

    step : (x y m : ℕ) → IsWidth m → x % m ≡ 0 → y % m ≡ 0 → x < y → x + m ≤ y
    step x y = by_width (λ m. x % m ≡ 0 → y % m ≡ 0 → x < y → x + m ≤ y) (λ a b l. omega arith) (λ a b l. omega arith) (λ a b l. omega arith) (λ a b l. omega arith)

    more : (x y : ℕ) → x ≤ y → y ≢ x → x < y
    more x y l d = omega (arith, l, d)

    by : (p < o) ⊎ (o ≤ p) → (p + m ≤ o) ⊎ (o + m ≤ p)
    by (inl l) = inl (step p o m i a b l)
    by (inr l) = inr (step o p m i b a (more o p l d))

fits : (m o : ℕ) → IsWidth m → o % m ≡ 0 → o < 2 ^ 64 → o + m ≤ 2 ^ 64
fits m o = by_width (λ m. o % m ≡ 0 → o < 2 ^ 64 → o + m ≤ 2 ^ 64) (λ a l. omega arith) (λ a l. omega arith) (λ a l. omega arith) (λ a l. omega arith) m

-- ---- a whole number behind a write

written : (p m o x n k : ℕ) (b : List ℕ) → IsRead p m b n → k ≡ number_at m p (with_bytes m o x b) → IsRead p m (with_bytes m o x b) k
written p m o x n k b read is = record {
  there = subst (λ l. p + m ≤ l) (sym (bytes_length m o x b)) read.there;
  room = subst (λ l. l < 2 ^ 64) (sym (bytes_length m o x b)) read.room;
  small = bytes_small m o x b read.small;
  is = is;
}

pub whole_chosen : (g p o x n m k : ℕ) (b : List ℕ) → k ≡ m → IsWidth m → g < 2 → o < 2 ^ 64 → x < 256 ^ m → p % m ≡ 0 → o % m ≡ 0 → IsRead p m b n
    → IsRead p m (if nat_eq g 1 then with_bytes k o x b else b) (if nat_eq (bit_and g (bit (nat_eq p o))) 1 then x else n)
whole_chosen zero p o x n m k b e i truth below small a c read = subst (IsRead p m b) (sym (none (nat_eq p o))) read
  where
    none : (q : Bool) → (if nat_eq (bit_and 0 (bit q)) 1 then x else n) ≡ n
    none true = refl
    none false = refl
whole_chosen (suc zero) p o x n m k b e i truth below small a c read =
    subst (λ j. IsRead p m (with_bytes j o x b) (if nat_eq (bit_and 1 (bit (nat_eq p o))) 1 then x else n)) (sym e) (by (eqb_tells p o))
  where
    by : ((nat_eq p o ≡ true) × (p ≡ o)) ⊎ ((nat_eq p o ≡ false) × (p ≢ o)) → IsRead p m (with_bytes m o x b) (if nat_eq (bit_and 1 (bit (nat_eq p o))) 1 then x else n)
    by (inl q) = written p m o x n _ b read
        (ap (λ t. if nat_eq (bit_and 1 (bit t)) 1 then x else n) q.0
        ∙ sym (ap (λ y. number_at m y (with_bytes m o x b)) q.1 ∙ read_back m o x b (subst (λ y. y + m ≤ length b) q.1 read.there) read.room small))
    by (inr q) = written p m o x n _ b read
        (ap (λ t. if nat_eq (bit_and 1 (bit t)) 1 then x else n) q.0 ∙ read.is
        ∙ sym (read_apart m p m o x b (fits m o i c below) (apart m p o i a c q.1)))
whole_chosen (suc (suc g)) p o x n m k b e i truth below small a c read = absurd (omega (arith, truth))

-- ---- behind a write

pub after_read : (nodes : List Node) (v : Reading) (w : GuardedWrite) (p m n new : ℕ) (b : List ℕ) → IsRead p m b n → new ≡ number_at m p (after_write nodes v w b) → IsRead p m (after_write nodes v w b) new
after_read nodes v w p m n new b read = by (nat_eq (value nodes w.guard v) 1)
  where
    by : (g : Bool) → new ≡ number_at m p (if g then with_bytes w.bytes (value nodes w.offset v) (value nodes w.value v) b else b) → IsRead p m (if g then with_bytes w.bytes (value nodes w.offset v) (value nodes w.value v) b else b) new
    by true is = record {
      there = subst (λ l. p + m ≤ l) (sym (bytes_length w.bytes (value nodes w.offset v) (value nodes w.value v) b)) read.there;
      room = subst (λ l. l < 2 ^ 64) (sym (bytes_length w.bytes (value nodes w.offset v) (value nodes w.value v) b)) read.room;
      small = bytes_small w.bytes (value nodes w.offset v) (value nodes w.value v) b read.small;
      is = is;
    }
    by false is = record { there = read.there; room = read.room; small = read.small; is = is }

-- a read that a write does not meet
pub apart_read : (nodes : List Node) (v : Reading) (w : GuardedWrite) (p m n : ℕ) (b : List ℕ) → value nodes w.offset v + w.bytes ≤ 2 ^ 64
    → (p + m ≤ value nodes w.offset v) ⊎ (value nodes w.offset v + w.bytes ≤ p) → IsRead p m b n → IsRead p m (after_write nodes v w b) n
apart_read nodes v w p m n b l a read = after_read nodes v w p m n n b read (by (nat_eq (value nodes w.guard v) 1))
  where
    by : (g : Bool) → n ≡ number_at m p (if g then with_bytes w.bytes (value nodes w.offset v) (value nodes w.value v) b else b)
    by true = read.is ∙ sym (read_apart m p w.bytes (value nodes w.offset v) (value nodes w.value v) b l a)
    by false = read.is

pub after_push : (nodes : List Node) (v : Reading) (ws : List GuardedWrite) (w : GuardedWrite) (b : List ℕ) → after_writes nodes v (ws ++ w ∷ []) b ≡ after_write nodes v w (after_writes nodes v ws b)
after_push nodes v [] w b = refl
after_push nodes v (x ∷ ws) w b = after_push nodes v ws w (after_write nodes v x b)

pub after_more : (nodes : List Node) (v : Reading) (ws : List GuardedWrite) (i : ℕ) (d : GuardedWrite) (b : List ℕ) → i < length ws
    → after_writes nodes v (take (i + 1) ws) b ≡ after_write nodes v (get_or ws i d) (after_writes nodes v (take i ws) b)
after_more nodes v ws i d b l = ap (λ xs. after_writes nodes v xs b) (take_more ws i d l) ∙ after_push nodes v (take i ws) (get_or ws i d) b
