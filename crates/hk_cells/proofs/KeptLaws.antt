-- What is kept of the first types, as types are added.
use Rattle.std.proofs.Common.{◌≡◌, ℕ, zero, suc, ◌+◌, ◌<◌, ◌≤◌, min, List, [], ◌∷◌, ◌++◌, Some, length, sym, ◌∙◌, ap, subst, arith, ◌⊎◌, inl, inr}
use Rattle.std.specs.Prelude.{slice_get}
use Rattle.std.proofs.lemmas.Bool.{cases_lt}
use Rattle.std.proofs.lemmas.List.{length_push}
use Rattle.ir_ast.specs.Plain.{Ty, Tys, opaque, no_types, type_and}
use Rattle.ir_type.specs.Whole.{Types}
use Rattle.ir_type.proofs.Places.{get_below}
use Rattle.ir_whole.specs.Heads.{type_at}
use Rattle.ir_whole.specs.Numbers.{types_of, IsFor}
use Rattle.ir_whole.specs.declared.numbers.TypeNumbers.{TypeNumbers}
use Rattle.ir_whole.proofs.NameNumbers.{first_type}
use Rattle.ir_whole.proofs.HeadLaws.{type_there, get_front, get_seam}
use Rattle.hk_cells.specs.Cells.{cell_of, least_cell}
use Rattle.hk_cells.specs.Kept.{least_from, AreCellsOf}

same_some : {A : Type 0} (a b : A) → Some a ≡ Some b → a ≡ b
same_some a b e = cc

pub kept_at : (types : List Ty) (kept : List ℕ) (k c : ℕ) → AreCellsOf types kept → k < length kept → slice_get kept k ≡ Some c → c ≡ cell_of (type_at types k)
kept_at types kept k c are l e = same_some c (cell_of (type_at types k)) (sym e ∙ are.each k l)

-- ---- fields

from_least : (least : ℕ) (ts : Tys) → least ≤ 8 → least_from least ts ≡ min least (least_cell ts)
from_least least no_types l = omega (arith, l)
from_least least (type_and t ts) l = from_least (min least (cell_of t)) ts (omega (arith, l)) ∙ three least (cell_of t) (least_cell ts)
  where
    three : (a b c : ℕ) → min (min a b) c ≡ min a (min b c)
    three a b c = omega arith

small : (ts : Tys) → least_cell ts ≤ 8
small no_types = omega arith
small (type_and t ts) = let s = small ts in under (cell_of t) (least_cell ts) s
  where
    under : (a b : ℕ) → b ≤ 8 → min a b ≤ 8
    under a b l = omega (arith, l)

pub least_is : (ts : Tys) → least_from 8 ts ≡ least_cell ts
least_is ts = from_least 8 ts (omega arith) ∙ known (least_cell ts) (small ts)
  where
    known : (n : ℕ) → n ≤ 8 → min 8 n ≡ n
    known n l = omega (arith, l)

-- ---- types

opaque_first : (types : Types) (numbers : TypeNumbers) → IsFor types numbers → type_at (types_of numbers) 0 ≡ opaque
opaque_first types numbers own = type_there (types_of numbers) 0 opaque (first_type numbers.heads own.first)

one_nothing : (types : Types) (numbers : TypeNumbers) → IsFor types numbers → AreCellsOf (types_of numbers) (8 ∷ [])
one_nothing types numbers own = record {
  some = omega arith;
  few = get_below (types_of numbers) 0 opaque (first_type numbers.heads own.first);
  each = each;
}
  where
    each : (k : ℕ) → k < 1 → slice_get (8 ∷ []) k ≡ Some (cell_of (type_at (types_of numbers) k))
    each zero l = ap (λ t. Some (cell_of t)) (sym (opaque_first types numbers own))
    each (suc k) l = absurd (omega (arith, l))

pub first_is : (types : Types) (numbers : TypeNumbers) (kept : List ℕ) → IsFor types numbers → kept ≡ 8 ∷ [] → AreCellsOf (types_of numbers) kept
first_is types numbers kept own e = subst (AreCellsOf (types_of numbers)) (sym e) (one_nothing types numbers own)

pub one_kept : (types : List Ty) (kept : List ℕ) (c : ℕ) → AreCellsOf types kept → length kept < length types → c ≡ cell_of (type_at types (length kept)) → AreCellsOf types (kept ++ c ∷ [])
one_kept types kept c are l e = record {
  some = let n = count in omega (arith, n);
  few = let n = count in omega (arith, n, l);
  each = each;
}
  where
    count : length (kept ++ c ∷ []) ≡ length kept + 1
    count = length_push kept c

    each : (k : ℕ) → k < length (kept ++ c ∷ []) → slice_get (kept ++ c ∷ []) k ≡ Some (cell_of (type_at types k))
    each k below = pick (cases_lt k (length kept))
      where
        pick : (k < length kept) ⊎ (length kept ≤ k) → slice_get (kept ++ c ∷ []) k ≡ Some (cell_of (type_at types k))
        pick (inl b) = get_front kept (c ∷ []) k b ∙ are.each k b
        pick (inr b) =
            let last : k ≡ length kept = (let n = count in omega (arith, n, b, below)) in
            subst (λ j. slice_get (kept ++ c ∷ []) j ≡ Some (cell_of (type_at types j))) (sym last) (get_seam kept c [] ∙ ap Some e)

pub still_kept : (old new : List Ty) (kept : List ℕ) → AreCellsOf old kept → length old ≤ length new
    → ((k : ℕ) → k < length old → type_at new k ≡ type_at old k) → AreCellsOf new kept
still_kept old new kept are longer keeps = record {
  some = are.some;
  few = (let f = are.few in omega (arith, f, longer));
  each = λ k l. are.each k l ∙ ap (λ t. Some (cell_of t)) (sym (keeps k (below k l)));
}
  where
    below : (k : ℕ) → k < length kept → k < length old
    below k l = let f = are.few in omega (arith, f, l)

pub meant_at : (types : List Ty) (n c : ℕ) (t : Ty) → slice_get types n ≡ Some t → c ≡ cell_of (type_at types n) → c ≡ cell_of t
meant_at types n c t there e = e ∙ ap cell_of (type_there types n t there)
