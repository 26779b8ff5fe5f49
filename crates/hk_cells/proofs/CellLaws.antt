-- The size of cells that is kept of a type is its cell size.
use Rattle.std.proofs.Common.{◌≡◌, ◌≢◌, ℕ, zero, suc, ◌+◌, ◌*◌, ◌/◌, ◌%◌, ◌≤◌, ◌⊎◌, inl, inr, min, max, true, false, ◌||◌, List, [], ◌∷◌, ◌++◌, refl, sym, ◌∙◌, ap, subst, arith}
use Rattle.std.specs.Prelude.{if◌then◌else◌, nat_eq, flat_map}
use Rattle.std.specs.List.{range_with_len}
use Rattle.std.proofs.lemmas.Nat.{mul-mod}
use Rattle.std.proofs.lemmas.Bool.Decides.{eqb_tells}
use Rattle.ir_ast.specs.Plain.{Ty, Tys, nothing, integer, pointer, array, structure, packed, named, opaque, no_types, type_and}
use Rattle.ir_layout.specs.Bytes.{IsWidth}
use Rattle.ir_layout.specs.Sizes.{up_to, size_of, align_of, greatest_align, end_of, packed_end_of}
use Rattle.hk_symmem.proofs.Wholes.{by_width}
use Rattle.hk_cells.specs.Cells.{leaves, field_leaves, packed_leaves, DividesAll, IsCellSize, unit, cell_of, least_cell}

one : IsWidth 1
one = inl refl

two : IsWidth 2
two = inr (inl refl)

four : IsWidth 4
four = inr (inr (inl refl))

eight : IsWidth 8
eight = inr (inr (inr refl))

-- ---- numbers

-- what the greatest is
record IsUnit (n c : ℕ) : Type 0 where
  width : IsWidth c
  divides : n % c ≡ 0
  greatest : (d : ℕ) → IsWidth d → n % d ≡ 0 → d ≤ c

unit_is : (n : ℕ) → IsUnit n (unit n)
unit_is n = at8 (eqb_tells (n % 8) 0)
  where
    at2 : n % 8 ≢ 0 → n % 4 ≢ 0 → ((nat_eq (n % 2) 0 ≡ true) × (n % 2 ≡ 0)) ⊎ ((nat_eq (n % 2) 0 ≡ false) × (n % 2 ≢ 0)) → IsUnit n (if nat_eq (n % 2) 0 then 2 else 1)
    at2 no8 no4 (inl p) = subst (λ b. IsUnit n (if b then 2 else 1)) (sym p.0) (record {
      width = two;
      divides = p.1;
      greatest = by_width (λ d. n % d ≡ 0 → d ≤ 2) (λ e. omega arith) (λ e. omega arith) (λ e. absurd (no4 e)) (λ e. absurd (no8 e));
    })
    at2 no8 no4 (inr p) = subst (λ b. IsUnit n (if b then 2 else 1)) (sym p.0) (record {
      width = one;
      divides = omega arith;
      greatest = by_width (λ d. n % d ≡ 0 → d ≤ 1) (λ e. omega arith) (λ e. absurd (p.1 e)) (λ e. absurd (no4 e)) (λ e. absurd (no8 e));
    })

    at4 : n % 8 ≢ 0 → ((nat_eq (n % 4) 0 ≡ true) × (n % 4 ≡ 0)) ⊎ ((nat_eq (n % 4) 0 ≡ false) × (n % 4 ≢ 0)) → IsUnit n (if nat_eq (n % 4) 0 then 4 else if nat_eq (n % 2) 0 then 2 else 1)
    at4 no8 (inl p) = subst (λ b. IsUnit n (if b then 4 else if nat_eq (n % 2) 0 then 2 else 1)) (sym p.0) (record {
      width = four;
      divides = p.1;
      greatest = by_width (λ d. n % d ≡ 0 → d ≤ 4) (λ e. omega arith) (λ e. omega arith) (λ e. omega arith) (λ e. absurd (no8 e));
    })
    at4 no8 (inr p) = subst (λ b. IsUnit n (if b then 4 else if nat_eq (n % 2) 0 then 2 else 1)) (sym p.0) (at2 no8 p.1 (eqb_tells (n % 2) 0))

    at8 : ((nat_eq (n % 8) 0 ≡ true) × (n % 8 ≡ 0)) ⊎ ((nat_eq (n % 8) 0 ≡ false) × (n % 8 ≢ 0)) → IsUnit n (unit n)
    at8 (inl p) = subst (λ b. IsUnit n (if b then 8 else if nat_eq (n % 4) 0 then 4 else if nat_eq (n % 2) 0 then 2 else 1)) (sym p.0) (record {
      width = eight;
      divides = p.1;
      greatest = by_width (λ d. n % d ≡ 0 → d ≤ 8) (λ e. omega arith) (λ e. omega arith) (λ e. omega arith) (λ e. omega arith);
    })
    at8 (inr p) = subst (λ b. IsUnit n (if b then 8 else if nat_eq (n % 4) 0 then 4 else if nat_eq (n % 2) 0 then 2 else 1)) (sym p.0) (at4 p.1 (eqb_tells (n % 4) 0))

-- the lesser of two divides what the greater does
lesser : (n d c : ℕ) → IsWidth d → IsWidth c → d ≤ c → n % c ≡ 0 → n % d ≡ 0
lesser n d c i j = by_width (λ c. d ≤ c → n % c ≡ 0 → n % d ≡ 0) (at1 d i) (at2 d i) (at4 d i) (at8 d i) c j
  where
    at1 : (d : ℕ) → IsWidth d → d ≤ 1 → n % 1 ≡ 0 → n % d ≡ 0
    at1 = by_width (λ d. d ≤ 1 → n % 1 ≡ 0 → n % d ≡ 0) (λ l e. e) (λ l e. absurd (omega (arith, l))) (λ l e. absurd (omega (arith, l))) (λ l e. absurd (omega (arith, l)))

    at2 : (d : ℕ) → IsWidth d → d ≤ 2 → n % 2 ≡ 0 → n % d ≡ 0
    at2 = by_width (λ d. d ≤ 2 → n % 2 ≡ 0 → n % d ≡ 0) (λ l e. omega arith) (λ l e. e) (λ l e. absurd (omega (arith, l))) (λ l e. absurd (omega (arith, l)))

    at4 : (d : ℕ) → IsWidth d → d ≤ 4 → n % 4 ≡ 0 → n % d ≡ 0
    at4 = by_width (λ d. d ≤ 4 → n % 4 ≡ 0 → n % d ≡ 0) (λ l e. omega arith) (λ l e. omega (arith, e)) (λ l e. e) (λ l e. absurd (omega (arith, l)))

    at8 : (d : ℕ) → IsWidth d → d ≤ 8 → n % 8 ≡ 0 → n % d ≡ 0
    at8 = by_width (λ d. d ≤ 8 → n % 8 ≡ 0 → n % d ≡ 0) (λ l e. omega arith) (λ l e. omega (arith, e)) (λ l e. omega (arith, e)) (λ l e. e)

unit_divides : (n d : ℕ) → IsWidth d → d ≤ unit n → n % d ≡ 0
unit_divides n d i l = let u = unit_is n in lesser n d (unit n) i u.width l u.divides

at_most_eight : (d : ℕ) → IsWidth d → d ≤ 8
at_most_eight = by_width (λ d. d ≤ 8) (omega arith) (omega arith) (omega arith) (omega arith)

sum_divided : (m n d : ℕ) → IsWidth d → m % d ≡ 0 → n % d ≡ 0 → (m + n) % d ≡ 0
sum_divided m n = by_width (λ d. m % d ≡ 0 → n % d ≡ 0 → (m + n) % d ≡ 0) (λ a b. omega arith) (λ a b. omega (arith, a, b)) (λ a b. omega (arith, a, b)) (λ a b. omega (arith, a, b))

times_divided : (k n d : ℕ) → IsWidth d → n % d ≡ 0 → (k * n) % d ≡ 0
times_divided k n d i e = mul-mod k n d ∙ ap (λ r. (k % d * r) % d) e ∙ by_width (λ d. (k % d * 0) % d ≡ 0) (omega arith) (omega arith) (omega arith) (omega arith) d i

up_divided : (a n d : ℕ) → IsWidth a → IsWidth d → n % d ≡ 0 → up_to a n % d ≡ 0
up_divided a n d i j = by_width (λ a. n % d ≡ 0 → up_to a n % d ≡ 0) (up1 d j) (up2 d j) (up4 d j) (up8 d j) a i
  where
    up1 : (d : ℕ) → IsWidth d → n % d ≡ 0 → up_to 1 n % d ≡ 0
    up1 = by_width (λ d. n % d ≡ 0 → up_to 1 n % d ≡ 0) (λ e. omega arith) (λ e. omega (arith, e)) (λ e. omega (arith, e)) (λ e. omega (arith, e))

    up2 : (d : ℕ) → IsWidth d → n % d ≡ 0 → up_to 2 n % d ≡ 0
    up2 = by_width (λ d. n % d ≡ 0 → up_to 2 n % d ≡ 0) (λ e. omega arith) (λ e. omega (arith, e)) (λ e. omega (arith, e)) (λ e. omega (arith, e))

    up4 : (d : ℕ) → IsWidth d → n % d ≡ 0 → up_to 4 n % d ≡ 0
    up4 = by_width (λ d. n % d ≡ 0 → up_to 4 n % d ≡ 0) (λ e. omega arith) (λ e. omega (arith, e)) (λ e. omega (arith, e)) (λ e. omega (arith, e))

    up8 : (d : ℕ) → IsWidth d → n % d ≡ 0 → up_to 8 n % d ≡ 0
    up8 = by_width (λ d. n % d ≡ 0 → up_to 8 n % d ≡ 0) (λ e. omega arith) (λ e. omega (arith, e)) (λ e. omega (arith, e)) (λ e. omega (arith, e))

-- ---- alignments

greater_width : (m n : ℕ) → IsWidth m → IsWidth n → IsWidth (max m n)
greater_width m n i j = by (split m n)
  where
    split : (a b : ℕ) → (a ≤ b) ⊎ (b ≤ a)
    split a b = grind arith

    second : (a b : ℕ) → a ≤ b → b ≡ max a b
    second a b l = omega (arith, l)

    first : (a b : ℕ) → b ≤ a → a ≡ max a b
    first a b l = omega (arith, l)

    by : (m ≤ n) ⊎ (n ≤ m) → IsWidth (max m n)
    by (inl l) = subst IsWidth (second m n l) j
    by (inr l) = subst IsWidth (first m n l) i

integer_align : (w : ℕ) → IsWidth (align_of (integer w))
integer_align w = at8 (eqb_tells w 8)
  where
    known : (k : ℕ) → IsWidth (align_of (integer k)) → w ≡ k → IsWidth (align_of (integer w))
    known k a e = subst (λ k. IsWidth (align_of (integer k))) (sym e) a

    at64 : nat_eq w 8 ≡ false → nat_eq w 16 ≡ false → nat_eq w 32 ≡ false → ((nat_eq w 64 ≡ true) × (w ≡ 64)) ⊎ ((nat_eq w 64 ≡ false) × (w ≢ 64)) → IsWidth (align_of (integer w))
    at64 a b c (inl p) = known 64 eight p.1
    at64 a b c (inr p) = subst IsWidth (sym (λ i. if a i || b i || c i || p.0 i then w / 8 else 1)) one

    at32 : nat_eq w 8 ≡ false → nat_eq w 16 ≡ false → ((nat_eq w 32 ≡ true) × (w ≡ 32)) ⊎ ((nat_eq w 32 ≡ false) × (w ≢ 32)) → IsWidth (align_of (integer w))
    at32 a b (inl p) = known 32 four p.1
    at32 a b (inr p) = at64 a b p.0 (eqb_tells w 64)

    at16 : nat_eq w 8 ≡ false → ((nat_eq w 16 ≡ true) × (w ≡ 16)) ⊎ ((nat_eq w 16 ≡ false) × (w ≢ 16)) → IsWidth (align_of (integer w))
    at16 a (inl p) = known 16 two p.1
    at16 a (inr p) = at32 a p.0 (eqb_tells w 32)

    at8 : ((nat_eq w 8 ≡ true) × (w ≡ 8)) ⊎ ((nat_eq w 8 ≡ false) × (w ≢ 8)) → IsWidth (align_of (integer w))
    at8 (inl p) = known 8 one p.1
    at8 (inr p) = at16 p.0 (eqb_tells w 16)

mutual
  align_width : (t : Ty) → IsWidth (align_of t)
  align_width nothing = one
  align_width (integer w) = integer_align w
  align_width pointer = eight
  align_width (array n t) = align_width t
  align_width (structure ts) = greatest_width ts
  align_width (packed ts) = one
  align_width (named x) = one
  align_width opaque = one

  greatest_width : (ts : Tys) → IsWidth (greatest_align ts)
  greatest_width no_types = one
  greatest_width (type_and t ts) = greater_width (align_of t) (greatest_align ts) (align_width t) (greatest_width ts)

-- ---- the size that is kept is one of the four

array_choice : (P : ℕ → Type 0) (n c : ℕ) → (n ≡ 0 → P 8) → (n ≢ 0 → P c) → P (if nat_eq n 0 then 8 else c)
array_choice P n c a b = by (eqb_tells n 0)
  where
    by : ((nat_eq n 0 ≡ true) × (n ≡ 0)) ⊎ ((nat_eq n 0 ≡ false) × (n ≢ 0)) → P (if nat_eq n 0 then 8 else c)
    by (inl p) = subst (λ t. P (if t then 8 else c)) (sym p.0) (a p.1)
    by (inr p) = subst (λ t. P (if t then 8 else c)) (sym p.0) (b p.1)

lesser_width : (m n : ℕ) → IsWidth m → IsWidth n → IsWidth (min m n)
lesser_width m n i j = by (split m n)
  where
    split : (a b : ℕ) → (a ≤ b) ⊎ (b ≤ a)
    split a b = grind arith

    first : (a b : ℕ) → a ≤ b → a ≡ min a b
    first a b l = omega (arith, l)

    second : (a b : ℕ) → b ≤ a → b ≡ min a b
    second a b l = omega (arith, l)

    by : (m ≤ n) ⊎ (n ≤ m) → IsWidth (min m n)
    by (inl l) = subst IsWidth (first m n l) i
    by (inr l) = subst IsWidth (second m n l) j

mutual
  pub cell_width : (t : Ty) → IsWidth (cell_of t)
  cell_width nothing = eight
  cell_width (integer w) = (unit_is (w / 8)).width
  cell_width pointer = eight
  cell_width (array n t) = array_choice IsWidth n (cell_of t) (λ e. eight) (λ e. cell_width t)
  cell_width (structure ts) = least_width ts
  cell_width (packed ts) = least_width ts
  cell_width (named x) = eight
  cell_width opaque = eight

  least_width : (ts : Tys) → IsWidth (least_cell ts)
  least_width no_types = eight
  least_width (type_and t ts) = lesser_width (cell_of t) (least_cell ts) (cell_width t) (least_width ts)

-- ---- what divides it divides sizes

left : (d m n : ℕ) → d ≤ min m n → d ≤ m
left d m n l = omega (arith, l)

right : (d m n : ℕ) → d ≤ min m n → d ≤ n
right d m n l = omega (arith, l)

nothing_times : (n : ℕ) → 0 * n ≡ 0
nothing_times n = omega arith

-- all leaves of two lists, and of each
both : (d : ℕ) (ls ms : List (ℕ × ℕ)) → DividesAll d ls → DividesAll d ms → DividesAll d (ls ++ ms)
both d [] ms a b = b
both d (l ∷ ls) ms a b = (a.0, a.1, both d ls ms a.2 b)

in_first : (d : ℕ) (ls ms : List (ℕ × ℕ)) → DividesAll d (ls ++ ms) → DividesAll d ls
in_first d [] ms a = tt
in_first d (l ∷ ls) ms a = (a.0, a.1, in_first d ls ms a.2)

in_second : (d : ℕ) (ls ms : List (ℕ × ℕ)) → DividesAll d (ls ++ ms) → DividesAll d ms
in_second d [] ms a = a
in_second d (l ∷ ls) ms a = in_second d ls ms a.2

each_of : (d : ℕ) (f : ℕ → List (ℕ × ℕ)) (ks : List ℕ) → ((k : ℕ) → DividesAll d (f k)) → DividesAll d (flat_map f ks)
each_of d f [] a = tt
each_of d f (k ∷ ks) a = both d (f k) (flat_map f ks) (a k) (each_of d f ks a)

-- the first of some elements
first_of_some : (d : ℕ) (f : ℕ → List (ℕ × ℕ)) (n : ℕ) → n ≢ 0 → DividesAll d (flat_map f (range_with_len 0 n)) → DividesAll d (f 0)
first_of_some d f zero some a = absurd (some refl)
first_of_some d f (suc n) some a = in_first d (f 0) (flat_map f (range_with_len 1 n)) a

module _ (d : ℕ) (i : IsWidth d) where
  zero_divided : 0 % d ≡ 0
  zero_divided = by_width (λ d. 0 % d ≡ 0) refl refl refl refl d i

  mutual
    pub size_divided : (t : Ty) → d ≤ cell_of t → size_of t % d ≡ 0
    size_divided nothing l = zero_divided
    size_divided (integer w) l = unit_divides (w / 8) d i l
    size_divided pointer l = lesser 8 d 8 i eight (at_most_eight d i) refl
    size_divided (array n t) l = array_choice (λ c. d ≤ c → (n * size_of t) % d ≡ 0) n (cell_of t)
        (λ e l. ap (λ k. (k * size_of t) % d) e ∙ ap (λ k. k % d) (nothing_times (size_of t)) ∙ zero_divided) (λ e l. times_divided n (size_of t) d i (size_divided t l)) l
    size_divided (structure ts) l = up_divided (greatest_align ts) (end_of 0 ts) d (greatest_width ts) i (end_divided 0 ts zero_divided l)
    size_divided (packed ts) l = packed_divided 0 ts zero_divided l
    size_divided (named x) l = zero_divided
    size_divided opaque l = zero_divided

    end_divided : (at : ℕ) (ts : Tys) → at % d ≡ 0 → d ≤ least_cell ts → end_of at ts % d ≡ 0
    end_divided at no_types e l = e
    end_divided at (type_and t ts) e l =
        end_divided (up_to (align_of t) at + size_of t) ts
        (sum_divided (up_to (align_of t) at) (size_of t) d i (up_divided (align_of t) at d (align_width t) i e) (size_divided t (left d (cell_of t) (least_cell ts) l)))
        (right d (cell_of t) (least_cell ts) l)

    packed_divided : (at : ℕ) (ts : Tys) → at % d ≡ 0 → d ≤ least_cell ts → packed_end_of at ts % d ≡ 0
    packed_divided at no_types e l = e
    packed_divided at (type_and t ts) e l =
        packed_divided (at + size_of t) ts (sum_divided at (size_of t) d i e (size_divided t (left d (cell_of t) (least_cell ts) l))) (right d (cell_of t) (least_cell ts) l)

  -- ---- it divides all leaves

  mutual
    pub leaves_divided : (at : ℕ) (t : Ty) → at % d ≡ 0 → d ≤ cell_of t → DividesAll d (leaves at t)
    leaves_divided at nothing e l = tt
    leaves_divided at (integer w) e l = (e, unit_divides (w / 8) d i l, tt)
    leaves_divided at pointer e l = tt
    leaves_divided at (array n t) e l = array_choice (λ c. d ≤ c → DividesAll d (leaves at (array n t))) n (cell_of t)
        (λ z l. subst (λ k. DividesAll d (leaves at (array k t))) (sym z) tt)
        (λ z l. each_of d (λ k. leaves (at + k * size_of t) t) (range_with_len 0 n)
        (λ k. leaves_divided (at + k * size_of t) t (sum_divided at (k * size_of t) d i e (times_divided k (size_of t) d i (size_divided t l))) l))
        l
    leaves_divided at (structure ts) e l = fields_divided at 0 ts e zero_divided l
    leaves_divided at (packed ts) e l = packed_fields_divided at 0 ts e zero_divided l
    leaves_divided at (named x) e l = tt
    leaves_divided at opaque e l = tt

    fields_divided : (at end : ℕ) (ts : Tys) → at % d ≡ 0 → end % d ≡ 0 → d ≤ least_cell ts → DividesAll d (field_leaves at end ts)
    fields_divided at end no_types e f l = tt
    fields_divided at end (type_and t ts) e f l =
        let up : up_to (align_of t) end % d ≡ 0 = up_divided (align_of t) end d (align_width t) i f in
        let own : d ≤ cell_of t = left d (cell_of t) (least_cell ts) l in
        both d (leaves (at + up_to (align_of t) end) t) (field_leaves at (up_to (align_of t) end + size_of t) ts)
        (leaves_divided (at + up_to (align_of t) end) t (sum_divided at (up_to (align_of t) end) d i e up) own)
        (fields_divided at (up_to (align_of t) end + size_of t) ts e (sum_divided (up_to (align_of t) end) (size_of t) d i up (size_divided t own)) (right d (cell_of t) (least_cell ts) l))

    packed_fields_divided : (at end : ℕ) (ts : Tys) → at % d ≡ 0 → end % d ≡ 0 → d ≤ least_cell ts → DividesAll d (packed_leaves at end ts)
    packed_fields_divided at end no_types e f l = tt
    packed_fields_divided at end (type_and t ts) e f l =
        let own : d ≤ cell_of t = left d (cell_of t) (least_cell ts) l in
        both d (leaves (at + end) t) (packed_leaves at (end + size_of t) ts)
        (leaves_divided (at + end) t (sum_divided at end d i e f) own)
        (packed_fields_divided at (end + size_of t) ts e (sum_divided end (size_of t) d i f (size_divided t own)) (right d (cell_of t) (least_cell ts) l))

  -- ---- nothing greater does

  lower : (m n : ℕ) → d ≤ m → d ≤ n → d ≤ min m n
  lower m n a b = omega (arith, a, b)

  mutual
    pub at_most : (at : ℕ) (t : Ty) → at % d ≡ 0 → DividesAll d (leaves at t) → d ≤ cell_of t
    at_most at nothing e a = at_most_eight d i
    at_most at (integer w) e a = (unit_is (w / 8)).greatest d i a.1
    at_most at pointer e a = at_most_eight d i
    at_most at (array n t) e a = array_choice (λ c. d ≤ c) n (cell_of t) (λ z. at_most_eight d i)
        (λ z. at_most (at + 0 * size_of t) t (sum_divided at (0 * size_of t) d i e (ap (λ k. k % d) (nothing_times (size_of t)) ∙ zero_divided))
        (first_of_some d (λ k. leaves (at + k * size_of t) t) n z a))
    at_most at (structure ts) e a = fields_at_most at 0 ts e zero_divided a
    at_most at (packed ts) e a = packed_at_most at 0 ts e zero_divided a
    at_most at (named x) e a = at_most_eight d i
    at_most at opaque e a = at_most_eight d i

    fields_at_most : (at end : ℕ) (ts : Tys) → at % d ≡ 0 → end % d ≡ 0 → DividesAll d (field_leaves at end ts) → d ≤ least_cell ts
    fields_at_most at end no_types e f a = at_most_eight d i
    fields_at_most at end (type_and t ts) e f a =
        let up : up_to (align_of t) end % d ≡ 0 = up_divided (align_of t) end d (align_width t) i f in
        let own : d ≤ cell_of t = at_most (at + up_to (align_of t) end) t (sum_divided at (up_to (align_of t) end) d i e up)
        (in_first d (leaves (at + up_to (align_of t) end) t) (field_leaves at (up_to (align_of t) end + size_of t) ts) a) in
        lower (cell_of t) (least_cell ts) own
        (fields_at_most at (up_to (align_of t) end + size_of t) ts e (sum_divided (up_to (align_of t) end) (size_of t) d i up (size_divided t own))
        (in_second d (leaves (at + up_to (align_of t) end) t) (field_leaves at (up_to (align_of t) end + size_of t) ts) a))

    packed_at_most : (at end : ℕ) (ts : Tys) → at % d ≡ 0 → end % d ≡ 0 → DividesAll d (packed_leaves at end ts) → d ≤ least_cell ts
    packed_at_most at end no_types e f a = at_most_eight d i
    packed_at_most at end (type_and t ts) e f a =
        let own : d ≤ cell_of t = at_most (at + end) t (sum_divided at end d i e f) (in_first d (leaves (at + end) t) (packed_leaves at (end + size_of t) ts) a) in
        lower (cell_of t) (least_cell ts) own
        (packed_at_most at (end + size_of t) ts e (sum_divided end (size_of t) d i f (size_divided t own)) (in_second d (leaves (at + end) t) (packed_leaves at (end + size_of t) ts) a))

pub cell_is : (t : Ty) → IsCellSize (size_of t) (leaves 0 t) (cell_of t)
cell_is t = record {
  width = cell_width t;
  whole = size_divided (cell_of t) (cell_width t) t (omega arith);
  each = leaves_divided (cell_of t) (cell_width t) 0 t (zero_divided (cell_of t) (cell_width t)) (omega arith);
  greatest = λ d i e a. at_most d i 0 t (zero_divided d i) a;
}
