-- One element more of a list that is gone through.
use Rattle.std.proofs.Common.{◌≡◌, ◌+◌, ◌<◌, ◌≤◌, ℕ, zero, suc, Some, List, [], ◌∷◌, ◌++◌, length, map, drop, get_or, drop-cons, add-one, append_assoc, refl, sym, ◌∙◌, ap, subst, arith, rules}
use Rattle.std.specs.Prelude.{All, slice_get}
use Rattle.std.proofs.lemmas.List.{append-nil, get_or-map, length-map}
use Rattle.std.proofs.lemmas.List.Elements.{All-get_or}
use Rattle.std.proofs.lemmas.Option.{get_or_from_slice_get, slice_get-get_or}
use Rattle.spec_tree.specs.View.{view_exprs, view_expr_list}
use Rattle.spec_tree.specs.declared.expr.ExprList.{ExprList, out-ExprList}
use Rattle.spec_tree.specs.declared.expr.Expr.TheFolds.{fold_out-ExprList}

pub list_is : (l : ExprList) → view_expr_list l ≡ view_exprs (out-ExprList l).items.items
list_is l = search (rules, fold_out-ExprList)

pub part_at : {X : Type 0} (items : List X) (k : ℕ) (part : X) → part ≡ get_or items k part → k < length items → drop k items ≡ part ∷ drop (k + 1) items
part_at items k part e l = drop-cons items k part l ∙ ap (λ x. x ∷ drop (suc k) items) (sym e) ∙ ap (λ q. part ∷ drop q items) (sym (add-one k))

pub drop_end : {X : Type 0} (items : List X) (k : ℕ) → length items ≤ k → drop k items ≡ []
drop_end [] zero l = refl
drop_end [] (suc k) l = refl
drop_end (x ∷ items) zero l = absurd (omega (arith, l))
drop_end (x ∷ items) (suc k) l = drop_end items k (omega (arith, l))

-- what was put, and what is still to come, is the whole
pub put_one : {X : Type 0} (before now : List X) (x : X) (left rest whole : List X) → now ≡ before ++ x ∷ [] → left ≡ x ∷ rest → before ++ left ≡ whole → now ++ rest ≡ whole
put_one before now x left rest whole put is h = ap (λ l. l ++ rest) put ∙ append_assoc before (x ∷ []) rest ∙ ap (λ l. before ++ l) (sym is) ∙ h

pub put_all : {X : Type 0} (now rest whole : List X) → rest ≡ [] → now ++ rest ≡ whole → now ≡ whole
put_all now rest whole e h = sym (append-nil now) ∙ ap (λ l. now ++ l) (sym e) ∙ h

-- the element at a place, seen as plain data
pub seen_at : {X Y : Type 0} (view : X → Y) (xs : List X) (i : ℕ) (x : X) → i < length xs → x ≡ get_or xs i x → get_or (map view xs) i (view x) ≡ view x
seen_at view xs i x low is = get_or-map view xs i x (view x) low ∙ ap view (sym is)

pub found_at : {X Y : Type 0} (view : X → Y) (xs : List X) (i : ℕ) (x : X) (y : Y) → i < length xs → x ≡ get_or xs i x → slice_get (map view xs) i ≡ Some y → view x ≡ y
found_at view xs i x y low is found = sym (seen_at view xs i x low is) ∙ get_or_from_slice_get (map view xs) i y (view x) found

pub all_at : {X Y : Type 0} (P : Y → Type 0) (view : X → Y) (xs : List X) (i : ℕ) (x : X) → i < length xs → x ≡ get_or xs i x → All P (map view xs) → P (view x)
all_at P view xs i x low is all = subst P (seen_at view xs i x low is) (All-get_or P (map view xs) i (view x) (omega (arith, low, length-map xs view)) all)

pub there_at : {X Y : Type 0} (view : X → Y) (xs : List X) (i : ℕ) (x : X) → i < length xs → x ≡ get_or xs i x → slice_get (map view xs) i ≡ Some (view x)
there_at view xs i x low is = slice_get-get_or (map view xs) i (view x) (omega (arith, low, length-map xs view)) ∙ ap Some (seen_at view xs i x low is)
