-- What is kept of the first types, as types are added.
use Rattle.std.proofs.Common.{◌≡◌, ℕ, zero, suc, ◌+◌, ◌<◌, ◌≤◌, List, [], ◌∷◌, ◌++◌, Some, length, refl, sym, ◌∙◌, ap, subst, arith, ◌⊎◌, inl, inr}
use Rattle.std.specs.Prelude.{slice_get, IfSome, Option, None, option_map}
use Rattle.std.proofs.lemmas.Bool.{cases_lt}
use Rattle.std.proofs.lemmas.List.{length_push}
use Rattle.ir_ast.specs.Plain.{Ty, opaque}
use Rattle.ir_type.specs.Whole.{Types}
use Rattle.ir_whole.specs.Heads.{type_at, RowFits}
use Rattle.ir_whole.specs.Numbers.{types_of, IsFor}
use Rattle.ir_whole.specs.declared.numbers.TypeNumbers.{TypeNumbers}
use Rattle.ir_whole.proofs.NameNumbers.{first_type}
use Rattle.ir_whole.proofs.HeadLaws.{type_there, get_front, get_seam}
use Rattle.ir_type.proofs.Places.{get_below}
use Rattle.ir_measure.specs.declared.measure.Measure.{Measure}
use Rattle.ir_measure.specs.Measures.{measure_of, no_fields, AreMeasured}

pub opaque_first : (types : Types) (numbers : TypeNumbers) → IsFor types numbers → type_at (types_of numbers) 0 ≡ opaque
opaque_first types numbers own = type_there (types_of numbers) 0 opaque (first_type numbers.heads own.first)

-- the type of nothing alone
one_nothing : (types : Types) (numbers : TypeNumbers) → IsFor types numbers → AreMeasured (types_of numbers) (no_fields ∷ [])
one_nothing types numbers own = record {
  some = omega arith;
  few = get_below (types_of numbers) 0 opaque (first_type numbers.heads own.first);
  each = each;
}
  where
    each : (k : ℕ) → k < 1 → slice_get (no_fields ∷ []) k ≡ Some (measure_of (type_at (types_of numbers) k))
    each zero l = ap (λ t. Some (measure_of t)) (sym (opaque_first types numbers own))
    each (suc k) l = absurd (omega (arith, l))

pub nothing_measured : (types : Types) (numbers : TypeNumbers) (measures : List Measure) → IsFor types numbers → measures ≡ no_fields ∷ [] → AreMeasured (types_of numbers) measures
nothing_measured types numbers measures own e = subst (AreMeasured (types_of numbers)) (sym e) (one_nothing types numbers own)

-- one more
pub one_measured : (types : List Ty) (measures : List Measure) (m : Measure) → AreMeasured types measures → length measures < length types → m ≡ measure_of (type_at types (length measures))
    → AreMeasured types (measures ++ m ∷ [])
one_measured types measures m are l e = record {
  some = let c = count in omega (arith, c);
  few = let c = count in omega (arith, c, l);
  each = each;
}
  where
    count : length (measures ++ m ∷ []) ≡ length measures + 1
    count = length_push measures m

    each : (k : ℕ) → k < length (measures ++ m ∷ []) → slice_get (measures ++ m ∷ []) k ≡ Some (measure_of (type_at types k))
    each k below = pick (cases_lt k (length measures))
      where
        pick : (k < length measures) ⊎ (length measures ≤ k) → slice_get (measures ++ m ∷ []) k ≡ Some (measure_of (type_at types k))
        pick (inl b) = get_front measures (m ∷ []) k b ∙ are.each k b
        pick (inr b) =
            let last : k ≡ length measures = (let c = count in omega (arith, c, b, below)) in
            subst (λ j. slice_get (measures ++ m ∷ []) j ≡ Some (measure_of (type_at types j))) (sym last) (get_seam measures m [] ∙ ap Some e)

-- types were added behind
pub still_measured : (old new : List Ty) (measures : List Measure) → AreMeasured old measures → length old ≤ length new
    → ((k : ℕ) → k < length old → type_at new k ≡ type_at old k) → AreMeasured new measures
still_measured old new measures are longer keeps = record {
  some = are.some;
  few = (let f = are.few in omega (arith, f, longer));
  each = λ k l. are.each k l ∙ ap (λ t. Some (measure_of t)) (sym (keeps k (below k l)));
}
  where
    below : (k : ℕ) → k < length measures → k < length old
    below k l = let f = are.few in omega (arith, f, l)

-- ---- parts

row_below : (row : List ℕ) (n k p : ℕ) → RowFits n row → slice_get row k ≡ Some p → p < n
row_below [] n k p f e = absurd cc
row_below (x ∷ row) n zero p f e = let same : x ≡ p = cc in subst (λ y. y < n) same f.1
row_below (x ∷ row) n (suc k) p f e = row_below row n k p f.2 e

pub row_within : (row : List ℕ) (n k : ℕ) (o : Option ℕ) → RowFits n row → o ≡ slice_get row k → IfSome o (λ p. p < n)
row_within row n k None f e = tt
row_within row n k (Some p) f e = row_below row n k p f (sym e)

-- what was kept is as before, where there is something
pub kept_part : (a b : ℕ → Ty) (n : ℕ) (o : Option ℕ) → ((k : ℕ) → k < n → a k ≡ b k) → IfSome o (λ k. k < n) → option_map a o ≡ option_map b o
kept_part a b n None keeps within = refl
kept_part a b n (Some k) keeps within = ap Some (keeps k within)
