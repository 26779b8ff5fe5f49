-- Numbers of the parts of a struct, one after another.
use Rattle.std.proofs.Common.{◌≡◌, ℕ, ◌+◌, ◌<◌, ◌≤◌, Option, Some, None, List, [], ◌∷◌, ◌++◌, length, refl, sym, ◌∙◌, ap, subst, arith, drop}
use Rattle.std.specs.Prelude.{slice_index_or}
use Rattle.std.proofs.lemmas.List.{drop_more, drop_all}
use Rattle.ir_ast.specs.Plain.{Ty, Tys, no_types, type_and}
use Rattle.ir_ast.specs.View.{view_type, view_types}
use Rattle.ir_ast.specs.declared.types.IrType.{IrType}
use Rattle.ir_type.specs.Whole.{with_part, whole_by, wholes_by}
use Rattle.ir_whole.specs.declared.head.Head.{Head}
use Rattle.ir_whole.specs.Heads.{type_at, types_by, fields, RowFits, Grows, Stands}
use Rattle.ir_whole.specs.Numbers.{look_in, Looks, AreBelow, fronted}
use Rattle.ir_whole.proofs.HeadLaws.{type_there, type_grown, stands_grown, grows_itself, grown_types, count_is}

pub looks_grown : {E : Type 0} (entries : List (List ℕ × E)) (numbers : List ℕ) (old new : List Ty) (s : List ℕ → Option Ty) → Grows old new → Looks entries numbers old s → Looks entries numbers new s
looks_grown entries numbers old new s g l x = stands_grown old new (look_in entries numbers x) (s x) g (l x)

pub below_more : (m n : ℕ) (numbers : List ℕ) → m ≤ n → AreBelow m numbers → AreBelow n numbers
below_more m n numbers l below k d h = let b = below k d h in omega (arith, b, l)

pub row_push : (n : ℕ) (row : List ℕ) (p : ℕ) → RowFits n row → 0 < p → p < n → RowFits n (row ++ p ∷ [])
row_push n [] p f some l = (some, l, f)
row_push n (q ∷ row) p f some l = (f.0, f.1, row_push n row p f.2 some l)

pub fronted_grown : (old new : List Ty) (row : List ℕ) (o : Option Tys) → Grows old new → RowFits (length old) row → fronted new row o ≡ fronted old row o
fronted_grown old new [] o g f = refl
fronted_grown old new (p ∷ row) o g f =
    ap (λ t. with_part (Some t) (fronted new row o)) (type_grown old new p g f.1) ∙ ap (with_part (Some (type_at old p))) (fronted_grown old new row o g f.2)

pub fronted_more : (types : List Ty) (row : List ℕ) (p : ℕ) (o : Option Tys) → fronted types (row ++ p ∷ []) o ≡ fronted types row (with_part (Some (type_at types p)) o)
fronted_more types [] p o = refl
fronted_more types (q ∷ row) p o = ap (with_part (Some (type_at types q))) (fronted_more types row p o)

pub fronted_none : (types : List Ty) (row : List ℕ) → fronted types row None ≡ None
fronted_none types [] = refl
fronted_none types (q ∷ row) = ap (with_part (Some (type_at types q))) (fronted_none types row)

pub fronted_end : (types : List Ty) (row : List ℕ) → fronted types row (Some no_types) ≡ Some (fields types row)
fronted_end types [] = refl
fronted_end types (q ∷ row) = ap (with_part (Some (type_at types q))) (fronted_end types row)

-- a part that stands for no type: none has all
pub part_none : (types : List Ty) (row : List ℕ) (n : ℕ) (o : Option Ty) (rest : Option Tys) → Stands types n o → n ≡ 0 → fronted types row (with_part o rest) ≡ None
part_none types row n None rest s e = fronted_none types row
part_none types row n (Some t) rest s e = let some = s.0 in absurd (omega (arith, some, e))

-- a part that stands for a type
pub part_some : (types : List Ty) (row : List ℕ) (n : ℕ) (o : Option Ty) (rest : Option Tys) → Stands types n o → 0 < n → fronted types row (with_part o rest) ≡ fronted types (row ++ n ∷ []) rest
part_some types row n None rest s l = absurd (omega (arith, s, l))
part_some types row n (Some t) rest s l =
    ap (λ u. fronted types row (with_part (Some u) rest)) (sym (type_there types n t s.1)) ∙ sym (fronted_more types row n rest)

-- ---- one more part

-- what is left of the parts begins with the next
pub next_part : (items : List IrType) (i : ℕ) (item : IrType) → i < length items → item ≡ slice_index_or items i item → view_types (drop i items) ≡ type_and (view_type item) (view_types (drop (i + 1) items))
next_part items i item l e = ap view_types (drop_more items i item l) ∙ ap (λ x. type_and (view_type x) (view_types (drop (i + 1) items))) (sym e)

pub last_part : (items : List IrType) (i : ℕ) → length items ≤ i → view_types (drop i items) ≡ no_types
last_part items i l = ap view_types (drop_all i items l)

module _ {E : Type 0} (entries : List (List ℕ × E)) (numbers : List ℕ) (heads₀ heads heads' : List Head) (row : List ℕ) (n : ℕ) (ts rest after : Tys) (t : Ty)
    (grew : (first : List Head) → Grows first heads₀ → Grows first heads) (grows : (first : List Head) → Grows first heads → Grows first heads') (fits : RowFits (length heads) row)
    (stands : (s : List ℕ → Option Ty) → Looks entries numbers (types_by heads) s → Stands (types_by heads') n (whole_by s t))
    (left : (s : List ℕ → Option Ty) → Looks entries numbers (types_by heads₀) s → wholes_by s ts ≡ fronted (types_by heads) row (wholes_by s rest)) (is : rest ≡ type_and t after) where
  module _ (s : List ℕ → Option Ty) (looks : Looks entries numbers (types_by heads₀) s) where
    later : Stands (types_by heads') n (whole_by s t)
    later = stands s (looks_grown entries numbers (types_by heads₀) (types_by heads) s (grown_types heads₀ heads (grew heads₀ (grows_itself heads₀))) looks)

    split_off : wholes_by s ts ≡ fronted (types_by heads') row (with_part (whole_by s t) (wholes_by s after))
    split_off =
        left s looks ∙ ap (λ x. fronted (types_by heads) row (wholes_by s x)) is
        ∙ sym (fronted_grown (types_by heads) (types_by heads') row (with_part (whole_by s t) (wholes_by s after)) (grown_types heads heads' (grows heads (grows_itself heads)))
        (subst (λ k. RowFits k row) (sym (count_is heads)) fits))

    pub none_more : n ≡ 0 → wholes_by s ts ≡ None
    none_more e = split_off ∙ part_none (types_by heads') row n (whole_by s t) (wholes_by s after) later e

    pub some_more : 0 < n → wholes_by s ts ≡ fronted (types_by heads') (row ++ n ∷ []) (wholes_by s after)
    some_more l = split_off ∙ part_some (types_by heads') row n (whole_by s t) (wholes_by s after) later l
