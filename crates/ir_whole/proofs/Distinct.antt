-- Numbers of types differ just where their types do.
use Rattle.std.proofs.Common.{◌≡◌, ℕ, zero, suc, ◌<◌, ◌≤◌, Bool, true, false, not, ◌&&◌, min, Some, List, [], ◌∷◌, length, refl, sym, ◌∙◌, ap, arith}
use Rattle.std.specs.Prelude.{slice_get, slice_index_or, nat_eq}
use Rattle.std.specs.Cmp.{first_so, second_so}
use Rattle.std.proofs.lemmas.Bool.{eqb-true, eq-eqb, ne_eqb, false≢true}
use Rattle.std.proofs.lemmas.Option.{slice_get-get_or}
use Rattle.ir_ast.specs.Plain.{Ty, Tys, nothing, integer, pointer, array, structure, packed, opaque, no_types, type_and}
use Rattle.ir_type.specs.Whole.{is_same, are_same}
use Rattle.ir_whole.specs.declared.head.Head.{Head}
use Rattle.ir_whole.specs.declared.head.Head.TheVariants.{Opaque, Void, Int, Ptr, Array, Struct, Packed}
use Rattle.ir_whole.specs.Heads.{type_at, fields, type_of, types_by, RowFits, HeadFits, AreHeads}
use Rattle.ir_whole.proofs.HeadLaws.{type_is, type_there}

-- ---- types that are one by parts

mutual
  pub same_type : (t u : Ty) → is_same t u ≡ true → t ≡ u
  same_type nothing nothing e = refl
  same_type (integer v) (integer w) e = ap integer (eqb-true v w e)
  same_type pointer pointer e = refl
  same_type (array m t) (array n u) e =
      let length_is : m ≡ n = eqb-true m n (first_so (nat_eq m n) (is_same t u) e) in
      let part = same_type t u (second_so (nat_eq m n) (is_same t u) e) in
      λ i. array (length_is i) (part i)
  same_type (structure ts) (structure us) e = ap structure (same_types ts us e)
  same_type (packed ts) (packed us) e = ap packed (same_types ts us e)
  same_type t u e = cc

  pub same_types : (ts us : Tys) → are_same ts us ≡ true → ts ≡ us
  same_types no_types no_types e = refl
  same_types (type_and t ts) (type_and u us) e =
      let part = same_type t u (first_so (is_same t u) (are_same ts us) e) in
      let rest = same_types ts us (second_so (is_same t u) (are_same ts us) e) in
      λ i. type_and (part i) (rest i)
  same_types ts us e = cc

-- ---- fits

pub row_more : (m n : ℕ) (row : List ℕ) → m ≤ n → RowFits m row → RowFits n row
row_more m n [] l f = f
row_more m n (p ∷ row) l f = let q = f.1 in (f.0, omega (arith, q, l), row_more m n row l f.2)

pub fits_more : (m n : ℕ) (h : Head) → m ≤ n → HeadFits m h → HeadFits n h
fits_more m n Opaque l f = absurd f
fits_more m n Void l f = f
fits_more m n (Int w) l f = f
fits_more m n Ptr l f = f
fits_more m n (Array k e) l f = let q = f.1 in (f.0, omega (arith, q, l))
fits_more m n (Struct row) l f = row_more m n row l f
fits_more m n (Packed row) l f = row_more m n row l f

-- ---- one type has one number

first_type : (t u : Ty) (ts us : Tys) → type_and t ts ≡ type_and u us → t ≡ u
first_type t u ts us e = cc

rest_types : (t u : Ty) (ts us : Tys) → type_and t ts ≡ type_and u us → ts ≡ us
rest_types t u ts us e = cc

struct_parts : (ts us : Tys) → structure ts ≡ structure us → ts ≡ us
struct_parts ts us e = cc

packed_parts : (ts us : Tys) → packed ts ≡ packed us → ts ≡ us
packed_parts ts us e = cc

array_element : (m n : ℕ) (t u : Ty) → array m t ≡ array n u → t ≡ u
array_element m n t u e = cc

array_length : (m n : ℕ) (t u : Ty) → array m t ≡ array n u → m ≡ n
array_length m n t u e = cc

int_width : (v w : ℕ) → integer v ≡ integer w → v ≡ w
int_width v w e = cc

module _ (types : List Ty) (b : ℕ) (once : (i j : ℕ) → i < b → j < b → type_at types i ≡ type_at types j → i ≡ j) where
  one_row : (r s : List ℕ) → RowFits b r → RowFits b s → fields types r ≡ fields types s → r ≡ s
  one_row [] [] f g e = refl
  one_row [] (q ∷ s) f g e = absurd (clash e)
    where
      clash : no_types ≡ type_and (type_at types q) (fields types s) → ⊥
      clash e = cc
  one_row (p ∷ r) [] f g e = absurd (clash e)
    where
      clash : type_and (type_at types p) (fields types r) ≡ no_types → ⊥
      clash e = cc
  one_row (p ∷ r) (q ∷ s) f g e =
      let part : p ≡ q = once p q f.1 g.1 (first_type (type_at types p) (type_at types q) (fields types r) (fields types s) e) in
      let rest : r ≡ s = one_row r s f.2 g.2 (rest_types (type_at types p) (type_at types q) (fields types r) (fields types s) e) in
      λ i. part i ∷ rest i

  one_head : (g h : Head) → HeadFits b g → HeadFits b h → type_of types g ≡ type_of types h → g ≡ h
  one_head Opaque h f k e = absurd f
  one_head g Opaque f k e = absurd k
  one_head Void Void f k e = refl
  one_head (Int v) (Int w) f k e = ap Int (int_width v w e)
  one_head Ptr Ptr f k e = refl
  one_head (Array m p) (Array n q) f k e =
      let length_is : m ≡ n = array_length m n (type_at types p) (type_at types q) e in
      let element : p ≡ q = once p q f.1 k.1 (array_element m n (type_at types p) (type_at types q) e) in
      λ i. Array (length_is i) (element i)
  one_head (Struct r) (Struct s) f k e = ap Struct (one_row r s f k (struct_parts (fields types r) (fields types s) e))
  one_head (Packed r) (Packed s) f k e = ap Packed (one_row r s f k (packed_parts (fields types r) (fields types s) e))
  one_head g h f k e = cc

not_opaque : (types : List Ty) (n : ℕ) (h : Head) → HeadFits n h → type_of types h ≡ opaque → ⊥
not_opaque types n Opaque f e = f
not_opaque types n h f e = cc

module _ (heads : List Head) (are : AreHeads heads) where
  head_at : (k : ℕ) → k < length heads → (h : Head) × (slice_get heads k ≡ Some h)
  head_at k l = (slice_index_or heads k Opaque, slice_get-get_or heads k Opaque l)

  pub type_of_number : (k : ℕ) (h : Head) → slice_get heads k ≡ Some h → type_at (types_by heads) k ≡ type_of (types_by heads) h
  type_of_number k h e = type_there (types_by heads) k (type_of (types_by heads) h) (type_is heads are k h e)

  pub zero_is : type_at (types_by heads) 0 ≡ opaque
  zero_is = type_of_number 0 Opaque are.first

  pub stands_some : (k : ℕ) → 0 < k → k < length heads → type_at (types_by heads) k ≡ opaque → ⊥
  stands_some k some l e =
      let h = head_at k l in
      not_opaque (types_by heads) k h.0 (are.fit k h.0 some h.1) (sym (type_of_number k h.0 h.1) ∙ e)

  once_below : (b i j : ℕ) → i < b → j < b → i < length heads → j < length heads → type_at (types_by heads) i ≡ type_at (types_by heads) j → i ≡ j
  once_below zero i j m n l k e = absurd (omega (arith, m))
  once_below (suc b) zero zero m n l k e = refl
  once_below (suc b) zero (suc j) m n l k e = absurd (stands_some (suc j) (omega arith) k (sym e ∙ zero_is))
  once_below (suc b) (suc i) zero m n l k e = absurd (stands_some (suc i) (omega arith) l (e ∙ zero_is))
  once_below (suc b) (suc i) (suc j) m n l k e =
      let g = head_at (suc i) l in
      let h = head_at (suc j) k in
      let same = one_head (types_by heads) (min b (length heads)) (λ x y p q f. once_below b x y (omega (arith, p)) (omega (arith, q)) (omega (arith, p)) (omega (arith, q)) f) g.0 h.0
      (fits_more (suc i) (min b (length heads)) g.0 (omega (arith, m, l)) (are.fit (suc i) g.0 (omega arith) g.1))
      (fits_more (suc j) (min b (length heads)) h.0 (omega (arith, n, k)) (are.fit (suc j) h.0 (omega arith) h.1))
      (sym (type_of_number (suc i) g.0 g.1) ∙ e ∙ type_of_number (suc j) h.0 h.1) in
      are.once (suc i) (suc j) g.0 g.1 (h.1 ∙ ap Some (sym same))

  pub once : (i j : ℕ) → i < length heads → j < length heads → type_at (types_by heads) i ≡ type_at (types_by heads) j → i ≡ j
  once i j l k e = once_below (length heads) i j l k l k e

  -- ---- a type is the same as itself, unless it is nothing's

  same_row : (n : ℕ) (row : List ℕ) → RowFits n row → ((p : ℕ) → 0 < p → p < n → is_same (type_at (types_by heads) p) (type_at (types_by heads) p) ≡ true) → are_same (fields (types_by heads) row) (fields (types_by heads) row) ≡ true
  same_row n [] f part = refl
  same_row n (p ∷ row) f part =
      ap (λ b. b && are_same (fields (types_by heads) row) (fields (types_by heads) row)) (part p f.0 f.1) ∙ same_row n row f.2 part

  same_head : (n : ℕ) (h : Head) → HeadFits n h → ((p : ℕ) → 0 < p → p < n → is_same (type_at (types_by heads) p) (type_at (types_by heads) p) ≡ true) → is_same (type_of (types_by heads) h) (type_of (types_by heads) h) ≡ true
  same_head n Opaque f part = absurd f
  same_head n Void f part = refl
  same_head n (Int w) f part = eq-eqb w w refl
  same_head n Ptr f part = refl
  same_head n (Array m e) f part = ap (λ b. b && is_same (type_at (types_by heads) e) (type_at (types_by heads) e)) (eq-eqb m m refl) ∙ part e f.0 f.1
  same_head n (Struct row) f part = same_row n row f part
  same_head n (Packed row) f part = same_row n row f part

  same_below : (b i : ℕ) → i < b → 0 < i → i < length heads → is_same (type_at (types_by heads) i) (type_at (types_by heads) i) ≡ true
  same_below zero i m some l = absurd (omega (arith, m))
  same_below (suc b) i m some l =
      let h = head_at i l in
      ap (λ t. is_same t t) (type_of_number i h.0 h.1)
      ∙ same_head i h.0 (are.fit i h.0 some h.1) (λ p q n. same_below b p (omega (arith, n, m)) q (omega (arith, n, l)))

  -- two numbers are one, and stand for a type, just where their types are one
  pub same_number : (a b : ℕ) → a < length heads → b < length heads → (nat_eq a b && not (nat_eq a 0)) ≡ is_same (type_at (types_by heads) a) (type_at (types_by heads) b)
  same_number a b l k = apart (nat_eq a b) refl
    where
      apart : (eq : Bool) → nat_eq a b ≡ eq → (eq && not (nat_eq a 0)) ≡ is_same (type_at (types_by heads) a) (type_at (types_by heads) b)
      apart false e = differ (is_same (type_at (types_by heads) a) (type_at (types_by heads) b)) refl
        where
          differ : (r : Bool) → is_same (type_at (types_by heads) a) (type_at (types_by heads) b) ≡ r → false ≡ r
          differ false h = refl
          differ true h = absurd (false≢true (sym e ∙ eq-eqb a b (once a b l k (same_type (type_at (types_by heads) a) (type_at (types_by heads) b) h))))
      apart true e = none a refl
        where
          is : a ≡ b
          is = eqb-true a b e

          none : (n : ℕ) → a ≡ n → not (nat_eq a 0) ≡ is_same (type_at (types_by heads) a) (type_at (types_by heads) b)
          none zero z =
              ap (λ n. not (nat_eq n 0)) z
              ∙ sym (ap (λ t. is_same t (type_at (types_by heads) b)) (ap (type_at (types_by heads)) z ∙ zero_is))
          none (suc n) z =
              ap not (ne_eqb a 0 (λ e. absurd (let x : suc n ≡ 0 = sym z ∙ e in omega (arith, x))))
              ∙ sym (ap (λ m. is_same (type_at (types_by heads) a) (type_at (types_by heads) m)) (sym is) ∙ same_below (suc a) a (omega arith) (omega (arith, z)) l)
