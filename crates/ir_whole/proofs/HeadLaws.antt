-- The types of heads: a list that grows keeps its types, and each type is its head's over all of them.
use Rattle.std.proofs.Common.{◌≡◌, ℕ, zero, suc, ◌+◌, ◌<◌, ◌≤◌, Option, Some, None, List, [], ◌∷◌, ◌++◌, length, refl, sym, ◌∙◌, ap, subst, arith}
use Rattle.std.specs.Prelude.{slice_get}
use Rattle.std.proofs.lemmas.List.{length-append, append-nil, append_assoc}
use Rattle.std.proofs.lemmas.Option.{slice_get_within, get_or_from_slice_get, slice_get-get_or}
use Rattle.ir_ast.specs.Plain.{Ty, array, structure, packed, opaque, type_and}
use Rattle.ir_whole.specs.declared.head.Head.{Head}
use Rattle.ir_whole.specs.declared.head.Head.TheVariants.{Opaque, Void, Int, Ptr, Array, Struct, Packed}
use Rattle.ir_whole.specs.Heads.{type_at, fields, type_of, types_from, types_by, RowFits, HeadFits, AreHeads, Grows, Stands}

pub some_is : {A : Type 0} (a b : A) → Some a ≡ Some b → a ≡ b
some_is a b e = cc

-- ---- lists

pub get_front : {A : Type 0} (xs ys : List A) (k : ℕ) → k < length xs → slice_get (xs ++ ys) k ≡ slice_get xs k
get_front [] ys k l = absurd (omega (arith, l))
get_front (x ∷ xs) ys zero l = refl
get_front (x ∷ xs) ys (suc k) l = get_front xs ys k (omega (arith, l))

pub get_seam : {A : Type 0} (xs : List A) (y : A) (ys : List A) → slice_get (xs ++ y ∷ ys) (length xs) ≡ Some y
get_seam [] y ys = refl
get_seam (x ∷ xs) y ys = get_seam xs y ys

pub kept_at : {A : Type 0} (old new : List A) (k : ℕ) → Grows old new → k < length old → slice_get new k ≡ slice_get old k
kept_at old new k g l = ap (λ xs. slice_get xs k) g.is ∙ get_front old g.more k l

pub longer : {A : Type 0} (old new : List A) → Grows old new → length old ≤ length new
longer old new g = omega (arith, ap length g.is, length-append old g.more)

pub grows_itself : {A : Type 0} (xs : List A) → Grows xs xs
grows_itself xs = record { more = []; is = sym (append-nil xs) }

pub grows_on : {A : Type 0} (first old new : List A) → Grows first old → Grows old new → Grows first new
grows_on first old new g h = record { more = g.more ++ h.more; is = h.is ∙ ap (λ xs. xs ++ h.more) g.is ∙ append_assoc first g.more h.more }

-- an element stands between those before it and those behind it
pub split : {A : Type 0} (xs : List A) (k : ℕ) (x : A) → slice_get xs k ≡ Some x → (front : List A) × (back : List A) × (xs ≡ front ++ x ∷ back) × (length front ≡ k)
split [] k x e = absurd cc
split (y ∷ xs) zero x e = ([], xs, ap (λ z. z ∷ xs) (some_is y x e), refl)
split (y ∷ xs) (suc k) x e = let r = split xs k x e in (y ∷ r.0, r.1, ap (λ zs. y ∷ zs) r.2, ap suc r.3)

-- ---- types

pub types_append : (before : List Ty) (heads more : List Head) → types_from before (heads ++ more) ≡ types_from (types_from before heads) more
types_append before [] more = refl
types_append before (h ∷ heads) more = types_append (before ++ type_of before h ∷ []) heads more

pub types_grow : (before : List Ty) (heads : List Head) → Grows before (types_from before heads)
types_grow before [] = grows_itself before
types_grow before (h ∷ heads) =
    let r = types_grow (before ++ type_of before h ∷ []) heads in
    record { more = type_of before h ∷ r.more; is = r.is ∙ append_assoc before (type_of before h ∷ []) r.more }

types_count : (before : List Ty) (heads : List Head) → length (types_from before heads) ≡ length before + length heads
types_count before [] = let z : length before ≡ length before + 0 = omega arith in z
types_count before (h ∷ heads) = omega (arith, types_count (before ++ type_of before h ∷ []) heads, length-append before (type_of before h ∷ []))

pub count_is : (heads : List Head) → length (types_by heads) ≡ length heads
count_is heads = omega (arith, types_count [] heads)

pub grown_types : (old new : List Head) → Grows old new → Grows (types_by old) (types_by new)
grown_types old new g =
    let r = types_grow (types_by old) g.more in
    record { more = r.more; is = ap types_by g.is ∙ types_append [] old g.more ∙ r.is }

pub stands_grown : (old new : List Ty) (n : ℕ) (o : Option Ty) → Grows old new → Stands old n o → Stands new n o
stands_grown old new n None g e = e
stands_grown old new n (Some t) g (some, e) = (some, kept_at old new n g (slice_get_within old n t e) ∙ e)

pub type_there : (types : List Ty) (n : ℕ) (t : Ty) → slice_get types n ≡ Some t → type_at types n ≡ t
type_there types n t e = get_or_from_slice_get types n t opaque e

pub type_grown : (old new : List Ty) (n : ℕ) → Grows old new → n < length old → type_at new n ≡ type_at old n
type_grown old new n g l = type_there new n (type_at old n) (kept_at old new n g l ∙ slice_get-get_or old n opaque l)

-- a head over two lists with the same types for its parts
pub fields_same : (n : ℕ) (a b : List Ty) (row : List ℕ) → RowFits n row → ((k : ℕ) → k < n → type_at a k ≡ type_at b k) → fields a row ≡ fields b row
fields_same n a b [] f same = refl
fields_same n a b (p ∷ row) f same = let rest = fields_same n a b row f.2 same in λ i. type_and (same p f.1 i) (rest i)

pub type_of_same : (n : ℕ) (a b : List Ty) (h : Head) → HeadFits n h → ((k : ℕ) → k < n → type_at a k ≡ type_at b k) → type_of a h ≡ type_of b h
type_of_same n a b Opaque f same = absurd f
type_of_same n a b Void f same = refl
type_of_same n a b (Int w) f same = refl
type_of_same n a b Ptr f same = refl
type_of_same n a b (Array m e) f same = ap (array m) (same e f.1)
type_of_same n a b (Struct row) f same = ap structure (fields_same n a b row f same)
type_of_same n a b (Packed row) f same = ap packed (fields_same n a b row f same)

pub type_of_grown : (old new : List Ty) (h : Head) → HeadFits (length old) h → Grows old new → type_of new h ≡ type_of old h
type_of_grown old new h f g = type_of_same (length old) new old h f (λ k l. type_grown old new k g l)

-- the type of a number is its head's
pub type_is : (heads : List Head) → AreHeads heads → (k : ℕ) (h : Head) → slice_get heads k ≡ Some h → slice_get (types_by heads) k ≡ Some (type_of (types_by heads) h)
type_is heads are k h e = at ∙ ap Some (sym (same k refl))
  where
    s : (front : List Head) × (back : List Head) × (heads ≡ front ++ h ∷ back) × (length front ≡ k)
    s = split heads k h e

    r : Grows (types_by s.0 ++ type_of (types_by s.0) h ∷ []) (types_from (types_by s.0 ++ type_of (types_by s.0) h ∷ []) s.1)
    r = types_grow (types_by s.0 ++ type_of (types_by s.0) h ∷ []) s.1

    is : types_by heads ≡ types_by s.0 ++ type_of (types_by s.0) h ∷ r.more
    is = ap types_by s.2 ∙ types_append [] s.0 (h ∷ s.1) ∙ r.is ∙ append_assoc (types_by s.0) (type_of (types_by s.0) h ∷ []) r.more

    place : length (types_by s.0) ≡ k
    place = count_is s.0 ∙ s.3

    at : slice_get (types_by heads) k ≡ Some (type_of (types_by s.0) h)
    at = ap (λ ts. slice_get ts k) is ∙ subst (λ j. slice_get (types_by s.0 ++ type_of (types_by s.0) h ∷ r.more) j ≡ Some (type_of (types_by s.0) h)) place (get_seam (types_by s.0) (type_of (types_by s.0) h) r.more)

    same : (j : ℕ) → k ≡ j → type_of (types_by heads) h ≡ type_of (types_by s.0) h
    same zero z =
        let none : Opaque ≡ h = some_is Opaque h (sym are.first ∙ sym (ap (slice_get heads) z) ∙ e) in
        sym (ap (type_of (types_by heads)) none) ∙ ap (type_of (types_by s.0)) none
    same (suc j) z =
        type_of_grown (types_by s.0) (types_by heads) h (subst (λ n. HeadFits n h) (sym place) (are.fit k h (omega (arith, z)) e))
        (record { more = type_of (types_by s.0) h ∷ r.more; is = is })
