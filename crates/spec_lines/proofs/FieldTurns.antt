-- Values of fields by their places, and the fields that have them.
use Rattle.std.proofs.Common.{◌≡◌, ℕ, zero, suc, ◌<◌, ◌+◌, Option, Some, None, option_map, List, [], ◌∷◌, ◌++◌, map, length, drop, refl, sym, ap, ◌∙◌, add-one, arith}
use Rattle.std.specs.Prelude.{slice_get, slice_index_or, slice_set, option_and_then, replicate}
use Rattle.std.proofs.lemmas.List.{length-map, map-append, map-set}
use Rattle.spec_tree.specs.Plain as tree
use Rattle.spec_tree.specs.Sorted.{FieldSort}
use Rattle.spec_tree.specs.View.{view_expr}
use Rattle.spec_tree.specs.declared.expr.Expr.{Expr}
use Rattle.spec_scope.specs.Scope.{Declared, sort_at}
use Rattle.spec_scope.specs.Taking.{chain, one}
use Rattle.spec_scope.specs.declared.typed.TakeStop.{TakeStop}
use Rattle.spec_scope.specs.declared.typed.TakeStop.TheVariants.{Unfit, Memory}
use Rattle.spec_take.specs.Answers.{Fails}
use Rattle.spec_lines.specs.Faults.{Values}
use Rattle.spec_lines.specs.Whole.{field_with, field_made, fields_from}
use Rattle.spec_lines.specs.View.{seen_head, head_of, AreHeadsOf}
use Rattle.spec_lines.specs.MadeView.{view_values, no_value}
use Rattle.spec_lines.specs.declared.fore.FieldHead.{FieldHead}

none_at_each : (heads : List FieldHead) → map no_value heads ≡ replicate (length heads) None
none_at_each [] = refl
none_at_each (h ∷ heads) = ap (λ vs. None ∷ vs) (none_at_each heads)

as_many : (fields : List Declared) (heads : List FieldHead) → AreHeadsOf fields heads → length heads ≡ length fields
as_many fields heads are = sym (length-map heads seen_head) ∙ (ap length are ∙ length-map fields head_of)

pub none_for_each : (fields : List Declared) (heads : List FieldHead) → AreHeadsOf fields heads → map no_value heads ≡ replicate (length fields) None
none_for_each fields heads are = none_at_each heads ∙ ap (λ n. replicate n None) (as_many fields heads are)

-- ---- one field more

turn : (fs : List tree.Field) (d : Declared) (ds : List Declared) (vs : Values) (k : ℕ)
    → fields_from fs (d ∷ ds) (drop k vs) ≡ chain (field_made d (slice_index_or vs k None)) (λ f. fields_from (fs ++ f ∷ []) ds (drop (suc k) vs))
turn fs d ds [] zero = refl
turn fs d ds [] (suc k) = refl
turn fs d ds (v ∷ vs) zero = refl
turn fs d ds (v ∷ vs) (suc k) = turn fs d ds vs k

pub head_of_place : (fields : List Declared) (heads : List FieldHead) (k : ℕ) (d : Declared) (h : FieldHead) → AreHeadsOf fields heads → slice_get heads k ≡ Some h
    → slice_get fields k ≡ Some d → head_of d ≡ seen_head h
head_of_place [] [] k d h are head there = absurd (cc there)
head_of_place [] (x ∷ heads) k d h are head there = absurd (cc are)
head_of_place (e ∷ fields) [] k d h are head there = absurd (cc are)
head_of_place (e ∷ fields) (x ∷ heads) zero d h are head there =
    let first : seen_head x ≡ head_of e = cc are in
    let same : x ≡ h = cc head in
    let last : e ≡ d = cc there in
    ap head_of (sym last) ∙ (sym first ∙ ap seen_head same)
head_of_place (e ∷ fields) (x ∷ heads) (suc k) d h are head there =
    let others : map seen_head heads ≡ map head_of fields = cc are in
    head_of_place fields heads k d h others head there

-- the field at a place, and those behind it
record AtPlace (fields : List Declared) (k : ℕ) : Type 0 where
  declared : Declared
  there : slice_get fields k ≡ Some declared
  rest : drop k fields ≡ declared ∷ drop (suc k) fields

at_place : (fields : List Declared) (k : ℕ) → k < length fields → AtPlace fields k
at_place [] k within = absurd (omega (arith, within))
at_place (d ∷ fields) zero within = record { declared = d; there = refl; rest = refl }
at_place (d ∷ fields) (suc k) within =
    let p = at_place fields k (omega (arith, within)) in
    record { declared = p.declared; there = p.there; rest = p.rest }

left_at : (table : List Declared) (k : ℕ) (fs : List tree.Field) (vs : Values) (v : Option tree.Tree) (whole : Option (List tree.Field))
    → (p : AtPlace table k) → v ≡ slice_index_or vs k None → fields_from fs (drop k table) (drop k vs) ≡ whole
    → chain (field_made p.declared v) (λ f. fields_from (fs ++ f ∷ []) (drop (suc k) table) (drop (suc k) vs)) ≡ whole
left_at table k fs vs v whole p is left =
    ap (λ y. chain (field_made p.declared y) (λ f. fields_from (fs ++ f ∷ []) (drop (suc k) table) (drop (suc k) vs))) is
    ∙ (sym (turn fs p.declared (drop (suc k) table) vs k) ∙ (ap (λ ds. fields_from fs ds (drop k vs)) (sym p.rest) ∙ left))

-- what is known of a turn: its place, the value that was there, and what is left
pub record Turn (table : List Declared) (heads : List FieldHead) (k : ℕ) (fs : List tree.Field) (vs : Values) (v : Option tree.Tree)
    (whole : Option (List tree.Field)) : Type 0 where
  pub are : AreHeadsOf table heads
  pub within : k < length heads
  pub taken : v ≡ slice_index_or vs k None
  pub left : fields_from fs (drop k table) (drop k vs) ≡ whole

pub there_at : (heads : List FieldHead) (k index : ℕ) → k ≡ index → index < length heads → k < length heads
there_at heads k index counted within = omega (arith, counted, within)

place_of : (table : List Declared) (heads : List FieldHead) (k : ℕ) (fs : List tree.Field) (vs : Values) (v : Option tree.Tree) (whole : Option (List tree.Field))
    → Turn table heads k fs vs v whole → AtPlace table k
place_of table heads k fs vs v whole t =
    let many = as_many table heads t.are in
    at_place table k (omega (arith, t.within, many))

pub turned : (table : List Declared) (heads : List FieldHead) (k : ℕ) (fs : List tree.Field) (vs ws : Values) (v : Option tree.Tree) (y : tree.Field)
    (whole : Option (List tree.Field)) → Turn table heads k fs vs v whole → drop (k + 1) ws ≡ drop (k + 1) vs
    → ((d : Declared) → slice_get table k ≡ Some d → field_made d v ≡ Some y) → fields_from (fs ++ y ∷ []) (drop (k + 1) table) (drop (k + 1) ws) ≡ whole
turned table heads k fs vs ws v y whole t same made =
    let p = place_of table heads k fs vs v whole t in
    let next = left_at table k fs vs v whole p t.taken t.left in
    let some = ap (λ o. chain o (λ f. fields_from (fs ++ f ∷ []) (drop (suc k) table) (drop (suc k) vs))) (sym (made p.declared p.there)) in
    ap (fields_from (fs ++ y ∷ []) (drop (k + 1) table)) same
    ∙ (ap (λ j. fields_from (fs ++ y ∷ []) (drop j table) (drop j vs)) (add-one k) ∙ (some ∙ next))

no_more : (why : TakeStop) (o : Option tree.Field) (rest : tree.Field → Option (List tree.Field)) (whole : Option (List tree.Field)) → Fails why o
    → chain o rest ≡ whole → Fails why whole
no_more Unfit o rest whole none left = sym left ∙ ap (λ p. chain p rest) none
no_more Memory o rest whole none left = tt

pub stopped : (table : List Declared) (heads : List FieldHead) (k : ℕ) (fs : List tree.Field) (vs : Values) (v : Option tree.Tree) (why : TakeStop)
    (whole : Option (List tree.Field)) → Turn table heads k fs vs v whole → ((d : Declared) → slice_get table k ≡ Some d → Fails why (field_made d v))
    → Fails why whole
stopped table heads k fs vs v why whole t made =
    let p = place_of table heads k fs vs v whole t in
    no_more why (field_made p.declared v) (λ f. fields_from (fs ++ f ∷ []) (drop (suc k) table) (drop (suc k) vs)) whole (made p.declared p.there)
    (left_at table k fs vs v whole p t.taken t.left)

-- ---- no value for one field more

push_on : {A : Type 0} (xs : List A) (y : A) (zs : List A) → (xs ++ y ∷ []) ++ zs ≡ xs ++ y ∷ zs
push_on [] y zs = refl
push_on (x ∷ xs) y zs = ap (λ r. x ∷ r) (push_on xs y zs)

none_left : (heads : List FieldHead) (k : ℕ) → k < length heads → map no_value (drop k heads) ≡ None ∷ map no_value (drop (suc k) heads)
none_left [] k within = absurd (omega (arith, within))
none_left (h ∷ heads) zero within = refl
none_left (h ∷ heads) (suc k) within = none_left heads k (omega (arith, within))

pub none_more : (heads : List FieldHead) (k : ℕ) (vs ws : List (Option Expr)) (total : Values) → k < length heads → ws ≡ vs ++ None ∷ []
    → view_values vs ++ map no_value (drop k heads) ≡ total → view_values ws ++ map no_value (drop (k + 1) heads) ≡ total
none_more heads k vs ws total within is so =
    ap (λ xs. view_values xs ++ map no_value (drop (k + 1) heads)) is
    ∙ (ap (λ xs. xs ++ map no_value (drop (k + 1) heads)) (map-append (option_map view_expr) vs (None ∷ []))
    ∙ (push_on (view_values vs) None (map no_value (drop (k + 1) heads))
    ∙ (ap (λ j. view_values vs ++ None ∷ map no_value (drop j heads)) (add-one k)
    ∙ (ap (λ xs. view_values vs ++ xs) (sym (none_left heads k within)) ∙ so))))

-- ---- a value that is taken

rest_set : (vs : Values) (k : ℕ) (y : Option tree.Tree) → drop (suc k) (slice_set vs k y) ≡ drop (suc k) vs
rest_set [] zero y = refl
rest_set [] (suc k) y = refl
rest_set (v ∷ vs) zero y = refl
rest_set (v ∷ vs) (suc k) y = rest_set vs k y

pub rest_kept : (values : List (Option Expr)) (k : ℕ) (y : Option Expr) → drop (k + 1) (view_values (slice_set values k y)) ≡ drop (k + 1) (view_values values)
rest_kept values k y =
    ap (drop (k + 1)) (map-set (option_map view_expr) values k y)
    ∙ (ap (λ j. drop j (slice_set (view_values values) k (option_map view_expr y))) (add-one k)
    ∙ (rest_set (view_values values) k (option_map view_expr y) ∙ ap (λ j. drop j (view_values values)) (sym (add-one k))))

pub made_with : (d : Declared) (value : Option tree.Tree) (sort : Option FieldSort) (y : tree.Tree) (s : FieldSort) (f : tree.Field) → value ≡ Some y → d.sort ≡ sort
    → sort ≡ Some s → f ≡ field_with d y s → field_made d value ≡ Some f
made_with d value sort y s f given sorted is e = ap (field_made d) given ∙ (ap (one (field_with d y)) (sorted ∙ is) ∙ ap Some (sym e))

pub sorted_at : (fields : List Declared) (k : ℕ) (d : Declared) {sort : Option FieldSort} → slice_get fields k ≡ Some d → sort ≡ sort_at fields k → d.sort ≡ sort
sorted_at fields k d there is = sym (is ∙ ap (option_and_then (λ e. e.sort)) there)
