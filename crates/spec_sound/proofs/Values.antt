-- The values that the equivalence function gives, and the fields that they make.
use Rattle.std.proofs.Common.{◌≡◌, ℕ, zero, suc, ◌<◌, Bool, true, false, ◌&&◌, ◌||◌, not, nat_eq, nat_lt, if◌then◌else◌, Option, Some, None, is_none, List, [], ◌∷◌, ◌++◌, length, replicate, get_or, slice_set, All, refl, sym, ap, subst, ◌∙◌, ltb-true, eqb-true}
use Rattle.std.proofs.lemmas.Bool.{eqb-false}
use Rattle.std.specs.List.{list_any}
use Rattle.std.proofs.lemmas.List.{get_or-set_same, get_or-set_other}
use Rattle.std.proofs.lemmas.List.Elements.{All-nil, All-cons, All-append}
use Rattle.spec_ast.specs.Raw.{Tree, all_of}
use Rattle.spec_tree.specs.Plain as tree
use Rattle.spec_tree.specs.Plain.{Field}
use Rattle.spec_tree.specs.Sorted.{Context, FieldSort, IsFieldSort, IsSorted, width_of, with_bounds, key_sizes, sort_of}
use Rattle.spec_scope.specs.declared.meaning.Kind.TheVariants.{Number}
use Rattle.spec_scope.specs.Scope.{Declared, Scope, meaning, field_place, field_sort, sort_at}
use Rattle.spec_scope.specs.Taking.{take}
use Rattle.spec_scope.specs.Tests.{somewhere, is_wide}
use Rattle.spec_lines.specs.Behind.{reads_state}
use Rattle.spec_lines.specs.Equations.{Equation, equation_of, right_one, is_right, is_old, has_arguments, equation_in, key_names, conjuncts, equates, equated_by}
use Rattle.spec_lines.specs.Faults.{width_in, Values, put_value, value_put, values_from, values_of}
use Rattle.spec_lines.specs.Whole.{field_with, field_made, fields_from}
use Rattle.spec_sorts.specs.Matching.{Matches}
use Rattle.spec_sorts.specs.Laws.{EquationIsSorted}
use Rattle.spec_sound.proofs.Parts.{no, neither, both, chain_is, one_is, none_some, some_is, then_is, there}
use Rattle.spec_sound.proofs.Scopes.{sort_there}
use Rattle.spec_sound.proofs.Taken.{among_list}

-- the value of a field of this sort, over its keys
abbrev pub IsValue : Context → FieldSort → tree.Tree → Type 0
IsValue c sort y = IsSorted (with_bounds c (key_sizes sort.keys)) y × (width_of (with_bounds c (key_sizes sort.keys)) y ≡ sort.width)

-- each value that there is, is one of its field
abbrev pub AreValues : Context → List Declared → Values → Type 0
AreValues c D values = (place : ℕ) (y : tree.Tree) (sort : FieldSort) → get_or values place None ≡ Some y → sort_at D place ≡ Some sort → IsValue c sort y

none_there : (n place : ℕ) → ◌≡◌ {A = Option tree.Tree} (get_or (replicate n None) place None) None
none_there zero place = refl
none_there (suc n) zero = refl
none_there (suc n) (suc place) = none_there n place

pub none_yet : (c : Context) (D : List Declared) (n : ℕ) → AreValues c D (replicate n None)
none_yet c D n = λ place y sort has is. absurd (none_some y (sym (none_there n place) ∙ has))

put_at : (c : Context) (D : List Declared) (values : Values) (place : ℕ) (y : tree.Tree) → AreValues c D values
    → ((sort : FieldSort) → sort_at D place ≡ Some sort → IsValue c sort y) → place < length values → AreValues c D (slice_set values place (Some y))
put_at c D values place y all is inside = λ other z sort has sorted. by other z sort has sorted (nat_eq other place) refl where
  by : (other : ℕ) (z : tree.Tree) (sort : FieldSort) → get_or (slice_set values place (Some y)) other None ≡ Some z → sort_at D other ≡ Some sort
      → (b : Bool) → nat_eq other place ≡ b → IsValue c sort z
  by other z sort has sorted true e =
      let same : other ≡ place = eqb-true other place e in
      let got : ◌≡◌ {A = Option tree.Tree} (Some y) (Some z) =
      sym (get_or-set_same values place (Some y) None inside) ∙ (ap (λ q. get_or (slice_set values place (Some y)) q None) (sym same) ∙ has) in
      subst (IsValue c sort) (some_is y z got) (is sort (ap (sort_at D) (sym same) ∙ sorted))
  by other z sort has sorted false e =
      all other z sort (sym (get_or-set_other values place other (Some y) None (eqb-false other place e)) ∙ has) sorted

put_within : (c : Context) (D : List Declared) (values : Values) (place : ℕ) (y : tree.Tree) → AreValues c D values
    → ((sort : FieldSort) → sort_at D place ≡ Some sort → IsValue c sort y) → (b : Bool) → nat_lt place (length values) ≡ b
    → AreValues c D (if b then slice_set values place (Some y) else values)
put_within c D values place y all is true e = put_at c D values place y all is (ltb-true place (length values) e)
put_within c D values place y all is false e = all

pub put_one : (c : Context) (D : List Declared) (values : Values) (o : Option ℕ) (y : tree.Tree) → AreValues c D values
    → ((place : ℕ) (sort : FieldSort) → o ≡ Some place → sort_at D place ≡ Some sort → IsValue c sort y) → AreValues c D (put_value o values y)
put_one c D values None y all is = all
put_one c D values (Some place) y all is = put_within c D values place y all (λ sort has. is place sort refl has) (nat_lt place (length values)) refl

-- ---- equations

sort_of_equation : (s : Scope) (q : Equation) (o : Option FieldSort) → has_arguments s q o ≡ true → (sort : FieldSort) × (o ≡ Some sort)
sort_of_equation s q None e = absurd (no e)
sort_of_equation s q (Some sort) e = (sort, refl)

right_is : (s : Scope) (o : Option Equation) (q : Equation) → right_one s o ≡ Some q → is_right s q ≡ true
right_is s None q e = absurd (none_some q e)
right_is s (Some r) q e = let p = then_is (is_right s r) r q e in subst (λ (x : Equation). is_right s x ≡ true) p.1 p.0

equation_sort : (s : Scope) (e : Tree) (q : Equation) → equation_in s e ≡ Some q → (sort : FieldSort) × (field_sort s q.field ≡ Some sort)
equation_sort s e q is =
    let r = right_is s (equation_of e) q is in
    let a = both (is_old (meaning s q.owner)) (has_arguments s q (field_sort s q.field) && not (reads_state s q.right)) r in
    let b = both (has_arguments s q (field_sort s q.field)) (not (reads_state s q.right)) a.1 in
    sort_of_equation s q (field_sort s q.field) b.0

module _ (equations : EquationIsSorted) (s : Scope) (c : Context) (m : Matches false s [] c) (unbound : c.bounds ≡ []) where
  value_sorted : (e : Tree) (q : Equation) (y : tree.Tree) (sort : FieldSort) → equation_in s e ≡ Some q → somewhere (is_wide s) [] e ≡ false
      → field_sort s q.field ≡ Some sort → take s (key_names q) (Number (width_in (field_sort s q.field))) q.right ≡ Some y → IsValue c sort y
  value_sorted e q y sort is narrow has taken =
      equations s c e q sort y m unbound is narrow has (subst (λ (o : Option FieldSort). take s (key_names q) (Number (width_in o)) q.right ≡ Some y) has taken)

  one_value : (values vs : Values) (e : Tree) (o : Option Equation) → equation_in s e ≡ o → is_none (equates s e) ≡ false → somewhere (is_wide s) [] e ≡ false
      → AreValues c s.fields values → value_put s values e o ≡ Some vs → AreValues c s.fields vs
  one_value values vs e None is equated narrow all made =
      let p = there (equates s e) equated in
      let r = chain_is (equation_in s e) (λ q. field_place s q.field) p.0 p.1 in
      absurd (none_some r.0 (sym is ∙ r.1))
  one_value values vs e (Some q) is equated narrow all made =
      let p = one_is (put_value (field_place s q.field) values) (take s (key_names q) (Number (width_in (field_sort s q.field))) q.right) vs made in
      let f = equation_sort s e q is in
      subst (AreValues c s.fields) p.2 (put_one c s.fields values (field_place s q.field) p.0 all (λ place sort there has.
      let same : field_sort s q.field ≡ Some sort = f.1 ∙ (sym (sort_there s q.field place f.0 there f.1) ∙ has) in
      value_sorted e q p.0 sort is narrow same p.1))

  all_values : (values vs : Values) (es : List Tree) → list_any is_none (equated_by s es) ≡ false → list_any (somewhere (is_wide s) []) es ≡ false
      → AreValues c s.fields values → values_from s values es ≡ Some vs → AreValues c s.fields vs
  all_values values vs [] equated narrow all made = subst (AreValues c s.fields) (some_is values vs made) all
  all_values values vs (e ∷ es) equated narrow all made =
      let p = chain_is (value_put s values e (equation_in s e)) (λ xs. values_from s xs es) vs made in
      let q = neither (is_none (equates s e)) (list_any is_none (equated_by s es)) equated in
      let n = neither (somewhere (is_wide s) [] e) (list_any (somewhere (is_wide s) []) es) narrow in
      all_values p.0 vs es q.1 n.1 (one_value values p.0 e (equation_in s e) refl q.0 n.0 all p.1) p.2

  conjuncts_narrow : (e : Tree) → somewhere (is_wide s) [] e ≡ false → list_any (somewhere (is_wide s) []) (conjuncts e) ≡ false
  conjuncts_narrow (all_of es) narrow = among_list (is_wide s) [] es ∙ narrow
  conjuncts_narrow e narrow = ap (λ b. b || false) narrow

  pub values_sorted : (e : Tree) (vs : Values) → list_any is_none (equated_by s (conjuncts e)) ≡ false → somewhere (is_wide s) [] e ≡ false
      → values_of s e ≡ Some vs → AreValues c s.fields vs
  values_sorted e vs equated narrow made =
      all_values (replicate (length s.fields) None) vs (conjuncts e) equated (conjuncts_narrow e narrow) (none_yet c s.fields (length s.fields)) made

-- ---- fields

-- a field is well sorted behind these local names
pub record IsFieldIn (c : Context) (f : Field) : Type 0 where
  pub sort : IsFieldSort (sort_of f)
  pub value : IsValue c (sort_of f) f.value

field_is : (c : Context) (d : Declared) (o : Option tree.Tree) (f : Field) → ((y : tree.Tree) (sort : FieldSort) → o ≡ Some y → d.sort ≡ Some sort → IsValue c sort y)
    → ((sort : FieldSort) → d.sort ≡ Some sort → IsFieldSort sort) → field_made d o ≡ Some f → IsFieldIn c f
field_is c d None f value sorts made = absurd (none_some f made)
field_is c d (Some y) f value sorts made =
    let p = one_is (field_with d y) d.sort f made in
    subst (IsFieldIn c) p.2 (record { sort = sorts p.0 p.1; value = value y p.0 refl p.1 })

pub fields_are : (c : Context) (fs gs : List Field) (D : List Declared) (values : Values) → All (IsFieldIn c) fs → AreValues c D values
    → ((place : ℕ) (sort : FieldSort) → sort_at D place ≡ Some sort → IsFieldSort sort) → fields_from fs D values ≡ Some gs → All (IsFieldIn c) gs
fields_are c fs gs [] values all are sorts made = subst (All (IsFieldIn c)) (some_is fs gs made) all
fields_are c fs gs (d ∷ ds) [] all are sorts made = absurd (none_some gs made)
fields_are c fs gs (d ∷ ds) (y ∷ values) all are sorts made =
    let p = chain_is (field_made d y) (λ f. fields_from (fs ++ f ∷ []) ds values) gs made in
    let f = field_is c d y p.0 (λ z sort has is. are 0 z sort has is) (λ sort is. sorts 0 sort is) p.1 in
    fields_are c (fs ++ p.0 ∷ []) gs ds values (All-append (IsFieldIn c) fs (p.0 ∷ []) all (All-cons (IsFieldIn c) p.0 [] f (All-nil (IsFieldIn c))))
    (λ place z sort has is. are (suc place) z sort has is) (λ place sort is. sorts (suc place) sort is) p.2
