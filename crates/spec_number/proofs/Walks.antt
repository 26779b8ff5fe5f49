-- One element more of a list that is gone through.
use Rattle.std.proofs.Common.{◌≡◌, ◌+◌, ◌<◌, ◌≤◌, ℕ, zero, suc, true, false, ◌&&◌, ◌||◌, List, [], ◌∷◌, length, drop, get_or, drop-cons, add-one, refl, sym, ◌∙◌, ap, subst, arith, rules}
use Rattle.std.specs.List.{list_all, list_any}
use Rattle.spec_tree.specs.View.{view_expr, view_exprs, view_expr_list, view_steps, view_step_list}
use Rattle.spec_tree.specs.declared.expr.Expr.{Expr}
use Rattle.spec_tree.specs.declared.expr.ExprList.{ExprList, out-ExprList}
use Rattle.spec_tree.specs.declared.expr.StepList.{StepList, out-StepList}
use Rattle.spec_tree.specs.declared.expr.Expr.TheFolds.{fold_out-ExprList, fold_out-StepList}
use Rattle.spec_tree.specs.Sorted.{Context, IsSorted, AreTruths, width_of}
use Rattle.spec_tree.specs.Value.{Env, value, values, holds}
use Rattle.spec_number.specs.Scope.{Scope}
use Rattle.spec_number.specs.declared.reading.Reading.{Reading}
use Rattle.spec_number.specs.Evaluation.{Stands, context_of, env_of}

pub stands_kept : (r : Reading) (s t : Scope) → Stands r s → t ≡ s → Stands r t
stands_kept r s t h e = subst (Stands r) (sym e) h

pub list_is : (l : ExprList) → view_expr_list l ≡ view_exprs (out-ExprList l).items.items
list_is l = search (rules, fold_out-ExprList)

pub step_list_is : (l : StepList) → view_step_list l ≡ view_steps (out-StepList l).items.items
step_list_is l = search (rules, fold_out-StepList)

pub part_at : {X : Type 0} (items : List X) (k : ℕ) (part : X) → part ≡ get_or items k part → k < length items → drop k items ≡ part ∷ drop (k + 1) items
part_at items k part e l = drop-cons items k part l ∙ ap (λ x. x ∷ drop (suc k) items) (sym e) ∙ ap (λ q. part ∷ drop q items) (sym (add-one k))

pub drop_end : {X : Type 0} (items : List X) (k : ℕ) → length items ≤ k → drop k items ≡ []
drop_end [] zero l = refl
drop_end [] (suc k) l = refl
drop_end (x ∷ items) zero l = absurd (omega (arith, l))
drop_end (x ∷ items) (suc k) l = drop_end items k (omega (arith, l))

-- ---- truths

pub truths_at : (c : Context) (items : List Expr) (k : ℕ) (e : Expr) → e ≡ get_or items k e → k < length items → AreTruths c (view_exprs (drop k items)) → IsSorted c (view_expr e) × (width_of c (view_expr e) ≡ 1) × AreTruths c (view_exprs (drop (k + 1) items))
truths_at c items k e is low h = subst (λ l. AreTruths c (view_exprs l)) (part_at items k e is low) h

pub truth_at : (r : Reading) (s t : Scope) (items : List Expr) (k : ℕ) (e : Expr) → e ≡ get_or items k e → k < length items → t ≡ s → AreTruths (context_of r s) (view_exprs (drop k items)) → IsSorted (context_of r t) (view_expr e)
truth_at r s t items k e is low kept h = subst (λ u. IsSorted (context_of r u) (view_expr e)) (sym kept) (truths_at (context_of r s) items k e is low h).0

-- a number of a part, over the frame that was kept
pub number_kept : (r : Reading) (s t : Scope) (e : Expr) (n : ℕ) → t ≡ s → n ≡ value (context_of r t) (env_of r t) (view_expr e) → n ≡ value (context_of r s) (env_of r s) (view_expr e)
number_kept r s t e n kept is = is ∙ ap (λ u. value (context_of r u) (env_of r u) (view_expr e)) kept

pub all_on : (c : Context) (v : Env) (items : List Expr) (k : ℕ) (e : Expr) (n : ℕ) → e ≡ get_or items k e → k < length items → n ≡ value c v (view_expr e) → holds n ≡ true
    → list_all holds (values c v (view_exprs (drop (k + 1) items))) ≡ list_all holds (values c v (view_exprs (drop k items)))
all_on c v items k e n is low value_is holding =
    sym (ap (λ l. list_all holds (values c v (view_exprs l))) (part_at items k e is low)
    ∙ ap (λ b. b && list_all holds (values c v (view_exprs (drop (k + 1) items)))) (ap holds (sym value_is) ∙ holding))

pub all_off : (c : Context) (v : Env) (items : List Expr) (k : ℕ) (e : Expr) (n : ℕ) → e ≡ get_or items k e → k < length items → n ≡ value c v (view_expr e) → holds n ≡ false
    → false ≡ list_all holds (values c v (view_exprs (drop k items)))
all_off c v items k e n is low value_is no_one =
    sym (ap (λ l. list_all holds (values c v (view_exprs l))) (part_at items k e is low)
    ∙ ap (λ b. b && list_all holds (values c v (view_exprs (drop (k + 1) items)))) (ap holds (sym value_is) ∙ no_one))

pub all_end : (c : Context) (v : Env) (items : List Expr) (k : ℕ) → length items ≤ k → true ≡ list_all holds (values c v (view_exprs (drop k items)))
all_end c v items k high = sym (ap (λ l. list_all holds (values c v (view_exprs l))) (drop_end items k high))

pub any_on : (c : Context) (v : Env) (items : List Expr) (k : ℕ) (e : Expr) (n : ℕ) → e ≡ get_or items k e → k < length items → n ≡ value c v (view_expr e) → holds n ≡ false
    → list_any holds (values c v (view_exprs (drop (k + 1) items))) ≡ list_any holds (values c v (view_exprs (drop k items)))
any_on c v items k e n is low value_is no_one =
    sym (ap (λ l. list_any holds (values c v (view_exprs l))) (part_at items k e is low)
    ∙ ap (λ b. b || list_any holds (values c v (view_exprs (drop (k + 1) items)))) (ap holds (sym value_is) ∙ no_one))

pub any_off : (c : Context) (v : Env) (items : List Expr) (k : ℕ) (e : Expr) (n : ℕ) → e ≡ get_or items k e → k < length items → n ≡ value c v (view_expr e) → holds n ≡ true
    → true ≡ list_any holds (values c v (view_exprs (drop k items)))
any_off c v items k e n is low value_is holding =
    sym (ap (λ l. list_any holds (values c v (view_exprs l))) (part_at items k e is low)
    ∙ ap (λ b. b || list_any holds (values c v (view_exprs (drop (k + 1) items)))) (ap holds (sym value_is) ∙ holding))

pub any_end : (c : Context) (v : Env) (items : List Expr) (k : ℕ) → length items ≤ k → false ≡ list_any holds (values c v (view_exprs (drop k items)))
any_end c v items k high = sym (ap (λ l. list_any holds (values c v (view_exprs l))) (drop_end items k high))
