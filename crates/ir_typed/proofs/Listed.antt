-- The listed intrinsics: what the code makes of a name, and the types that it asks for.
use Rattle.std.proofs.Common.{◌≡◌, ◌⊎◌, inl, inr, ℕ, zero, suc, Bool, true, false, Option, Some, None, List, [], ◌∷◌, ◌++◌, refl, sym, ◌∙◌, ap, subst, arith}
use Rattle.std.specs.Prelude.{Contains, flat_map, codes}
use Rattle.std.specs.List.{AllByRecursion, range_with_len}
use Rattle.std.proofs.lemmas.List.Elements.{All-from_recursion, All-contains, Contains-append_cases}
use Rattle.ir_ast.specs.Plain.{integer}
use Rattle.ir_ast.specs.Table.{place_of}
use Rattle.ir_type.proofs.Places.{at_place, no_place, some_same}
use Rattle.ir_typing.specs.Intrinsics.{Intrinsic, with_overflow, assuming, overflow_rows, plain_rows, digits, at_widths, intrinsics, intrinsic_of}
use Rattle.ir_check.proofs.SiteLaws.{contains_at}
use Rattle.ir_check.proofs.Undefined.{of_map, of_flat_map}
use Rattle.ir_value.specs.Intrinsics.{second_width}
use Rattle.ir_value.specs.Numbers.{is_width}
use Rattle.ir_value.specs.declared.intrinsics.OverflowKind.{OverflowKind}
use Rattle.ir_value.specs.declared.intrinsics.OverflowKind.TheVariants as overflow
use Rattle.ir_value.specs.declared.intrinsics.PairKind.{PairKind}
use Rattle.ir_value.specs.declared.intrinsics.PairKind.TheVariants as pair
use Rattle.ir_resolve.specs.Acts.{overflow_kind, pair_kind}
use Rattle.ir_typed.proofs.Using.{each_true}

-- a number from two
abbrev pub of_two : PairKind → ℕ → Intrinsic
of_two kind w = record { signature = record { result = integer w; parameters = integer w ∷ integer (second_width kind w) ∷ [] }; overflow = false }

pub record IsOverflow (name : List ℕ) (i : Intrinsic) : Type 0 where
  pub kind : OverflowKind × Bool
  pub width : ℕ
  pub in_range : is_width width ≡ true
  pub told : overflow_kind name ≡ Some kind
  pub is : i ≡ with_overflow width

pub record IsOfTwo (name : List ℕ) (i : Intrinsic) : Type 0 where
  pub kind : PairKind
  pub width : ℕ
  pub in_range : is_width width ≡ true
  pub other : overflow_kind name ≡ None
  pub told : pair_kind name ≡ Some kind
  pub is : i ≡ of_two kind width

pub record IsAssume (name : List ℕ) (i : Intrinsic) : Type 0 where
  pub other : overflow_kind name ≡ None
  pub told : pair_kind name ≡ None
  pub is : i ≡ assuming

abbrev Row : Type 0
Row = List ℕ × (ℕ → Intrinsic)

abbrev Overflows : Row → Type 0
Overflows row = (w : ℕ) → (kind : OverflowKind × Bool) × (overflow_kind (row.0 ++ digits w) ≡ Some kind) × (row.1 w ≡ with_overflow w)

overflows_are : AllByRecursion Overflows overflow_rows
overflows_are = (
  λ w. ((overflow.Add, false), refl, refl),
  (
    λ w. ((overflow.Add, true), refl, refl),
    (
      λ w. ((overflow.Sub, false), refl, refl),
      (
        λ w. ((overflow.Sub, true), refl, refl),
        (λ w. ((overflow.Mul, false), refl, refl), (λ w. ((overflow.Mul, true), refl, refl), tt)),
      ),
    ),
  ),
)

abbrev Pairs : Row → Type 0
Pairs row = (w : ℕ) → (kind : PairKind) × (overflow_kind (row.0 ++ digits w) ≡ None) × (pair_kind (row.0 ++ digits w) ≡ Some kind) × (row.1 w ≡ of_two kind w)

pairs_are : AllByRecursion Pairs plain_rows
pairs_are = (
  λ w. (pair.Umin, refl, refl, refl),
  (
    λ w. (pair.Umax, refl, refl, refl),
    (
      λ w. (pair.Smin, refl, refl, refl),
      (
        λ w. (pair.Smax, refl, refl, refl),
        (λ w. (pair.Abs, refl, refl, refl), (λ w. (pair.Expect, refl, refl, refl), tt)),
      ),
    ),
  ),
)

-- a row at one of the widths
record IsRowAt (row : Row) (e : List ℕ × Intrinsic) : Type 0 where
  pub width : ℕ
  pub in_range : is_width width ≡ true
  pub name : e.0 ≡ row.0 ++ digits width
  pub is : e.1 ≡ row.1 width

at_width : (row : Row) (e : List ℕ × Intrinsic) → Contains (at_widths row) e → IsRowAt row e
unfolding at_widths
at_width row e c =
    let make : ℕ → List ℕ × Intrinsic = λ w. (row.0 ++ digits w, row.1 w) in
    let r = of_map make (range_with_len 1 64) e c in
    let first : List ℕ × Intrinsic → List ℕ = λ e. e.0 in
    let second : List ℕ × Intrinsic → Intrinsic = λ e. e.1 in
    record { width = r.0; in_range = each_true is_width (range_with_len 1 64) refl r.0 r.1; name = ap first (sym r.2); is = ap second (sym r.2) }

pub listed_cases : (name : List ℕ) (i : Intrinsic) → intrinsic_of name ≡ Some i → IsAssume name i ⊎ (IsOverflow name i ⊎ IsOfTwo name i)
unfolding intrinsic_of
listed_cases name i e = by (place_of name intrinsics) refl
  where
    none_is : {A : Type 0} → None ≡ Some i → A
    none_is e = absurd cc

    entry : List ℕ × Intrinsic
    entry = (name, i)

    overflow_case : Contains (flat_map at_widths overflow_rows) entry → IsOverflow name i
    overflow_case c =
        let r = of_flat_map at_widths overflow_rows entry c in
        let at = at_width r.0 entry r.2 in
        let row = All-contains Overflows overflow_rows r.0 (All-from_recursion Overflows overflow_rows overflows_are) r.1 in
        let told = row at.width in
        record { kind = told.0; width = at.width; in_range = at.in_range; told = ap overflow_kind at.name ∙ told.1; is = at.is ∙ told.2 }

    pair_case : Contains (flat_map at_widths plain_rows) entry → IsOfTwo name i
    pair_case c =
        let r = of_flat_map at_widths plain_rows entry c in
        let at = at_width r.0 entry r.2 in
        let row = All-contains Pairs plain_rows r.0 (All-from_recursion Pairs plain_rows pairs_are) r.1 in
        let told = row at.width in
        record { kind = told.0; width = at.width; in_range = at.in_range; other = ap overflow_kind at.name ∙ told.1; told = ap pair_kind at.name ∙ told.2; is = at.is ∙ told.3 }

    assume_case : Contains ((codes "llvm.assume", assuming) ∷ []) entry → IsAssume name i
    assume_case (zero, l, g) =
        let first : List ℕ × Intrinsic → List ℕ = λ e. e.0 in
        let second : List ℕ × Intrinsic → Intrinsic = λ e. e.1 in
        record { other = ap overflow_kind (ap first (sym g)); told = ap pair_kind (ap first (sym g)); is = ap second (sym g) }
    assume_case (suc k, l, g) = absurd (omega (arith, l))

    rest_cases : Contains (flat_map at_widths overflow_rows) entry ⊎ Contains (flat_map at_widths plain_rows) entry → IsAssume name i ⊎ (IsOverflow name i ⊎ IsOfTwo name i)
    rest_cases (inl c) = inr (inl (overflow_case c))
    rest_cases (inr c) = inr (inr (pair_case c))

    cases : Contains ((codes "llvm.assume", assuming) ∷ []) entry ⊎ Contains (flat_map at_widths overflow_rows ++ flat_map at_widths plain_rows) entry → IsAssume name i ⊎ (IsOverflow name i ⊎ IsOfTwo name i)
    cases (inl c) = inl (assume_case c)
    cases (inr c) = rest_cases (Contains-append_cases (flat_map at_widths overflow_rows) (flat_map at_widths plain_rows) entry c)

    by : (o : Option ℕ) → place_of name intrinsics ≡ o → IsAssume name i ⊎ (IsOverflow name i ⊎ IsOfTwo name i)
    by None h = none_is (sym (no_place intrinsics name h) ∙ e)
    by (Some p) h =
        let at = at_place intrinsics name p h in
        let same : at.0 ≡ i = some_same at.0 i (sym at.1.found ∙ e) in
        let there = contains_at intrinsics p (name, at.0) at.1.there in
        cases (Contains-append_cases ((codes "llvm.assume", assuming) ∷ []) (flat_map at_widths overflow_rows ++ flat_map at_widths plain_rows) entry
        (subst (λ (j : Intrinsic). Contains intrinsics (name, j)) same there))
