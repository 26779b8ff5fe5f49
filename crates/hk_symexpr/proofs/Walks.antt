-- One element more of a list of expressions, and what counts where more is known.
use Rattle.std.proofs.Common.{rules, ◌≡◌, ◌<◌, ◌≤◌, ◌+◌, ◌++◌, ◌&&◌, ◌^◌, ℕ, zero, suc, Bool, true, false, List, [], ◌∷◌, length, take, drop, drop-cons, add-one, refl, sym, ap, subst, ◌∙◌, arith, All, get_or}
use Rattle.std.specs.Prelude.{◌||◌, Some, slice_get, slice_index_or}
use Rattle.std.specs.List.{list_all, list_any}
use Rattle.std.proofs.lemmas.List.{take_more, take_all}
use Rattle.hk_term.specs.Shape.{width}
use Rattle.hk_term.specs.Meaning as terms
use Rattle.hk_term.specs.Meaning.{Reading}
use Rattle.hk_term.specs.declared.node.Node.{Node}
use Rattle.spec_tree.specs.Plain.{Tree, path, all_of, any_of, entry, Trees}
use Rattle.spec_tree.specs.declared.expr.StateName.{StateName}
use Rattle.hk_symexpr.proofs.Joins.{indices_sorted}
use Rattle.spec_tree.specs.View.{view_expr, view_exprs, view_expr_list, view_path, view_step, view_steps, view_step_list}
use Rattle.spec_tree.specs.declared.expr.Expr.{Expr}
use Rattle.spec_tree.specs.declared.expr.ExprList.{ExprList, out-ExprList}
use Rattle.spec_tree.specs.declared.expr.StepList.{StepList, out-StepList}
use Rattle.spec_tree.specs.declared.expr.Path.{Path, out-Path}
use Rattle.spec_tree.specs.declared.expr.PathStep.{PathStep}
use Rattle.spec_tree.specs.declared.expr.Expr.TheFolds.{fold_out-ExprList, fold_out-StepList, fold_out-Path, fold-roll-PathStep, fold_out-PathStep}
use Rattle.spec_tree.specs.Sorted.{Context, IsSorted, AreTruths, AreSteps, with_bounds, width_of}
use Rattle.spec_tree.specs.Value.{Env, value, values, holds, bit}
use Rattle.hk_symexpr.specs.Sources.{Source, Agrees, Keeps}
use Rattle.hk_symexpr.specs.Scope.{Scope, knowing, entered}
use Rattle.hk_symexpr.specs.Naming.{AreNames, Suits, AreLimited, context_of}
use Rattle.hk_symexpr.specs.Made.{Ready, Lasts, IsTermOf, IsTermWhere, IsLimitOf, AreLimitsOf, IsAllOf, IsAnyOf, AreSorted, step_trees}
use Rattle.hk_symexpr.specs.Paths.{path_tree}
use Rattle.hk_symexpr.specs.declared.names.Limit.{Limit}
use Rattle.hk_symexpr.proofs.Frames.{followed}
use Rattle.hk_symexpr.proofs.Suiting.{suits_beside, suits_kept, limits_kept, limits_are_kept}

-- ---- lists of the code

pub list_is : (l : ExprList) → view_expr_list l ≡ view_exprs (out-ExprList l).items.items
list_is l = search (rules, fold_out-ExprList)

pub step_list_is : (l : StepList) → view_step_list l ≡ view_steps (out-StepList l).items.items
step_list_is l = search (rules, fold_out-StepList)

object_is : (p : Path) → (view_path p).object ≡ (out-Path p).object
object_is p = search (rules, fold_out-Path)

base_is : (p : Path) → (view_path p).base ≡ (out-Path p).base
base_is p = search (rules, fold_out-Path)

bytes_are : (p : Path) → (view_path p).bytes ≡ (out-Path p).bytes
bytes_are p = search (rules, fold_out-Path)

pub steps_are : (p : Path) → (view_path p).steps ≡ view_step_list (out-Path p).steps
steps_are p = search (rules, fold_out-Path)

pub path_is_tree : (p : Path) (items : List PathStep) → items ≡ (out-StepList (out-Path p).steps).items.items → path_tree (view_path p) ≡ path (out-Path p).object (out-Path p).base (view_steps items) (out-Path p).bytes
path_is_tree p items same =
    let steps : (view_path p).steps ≡ view_steps items = steps_are p ∙ step_list_is (out-Path p).steps ∙ ap view_steps (sym same) in
    λ i. path (object_is p i) (base_is p i) (steps i) (bytes_are p i)

pub part_at : {X : Type 0} (items : List X) (k : ℕ) (part : X) → part ≡ get_or items k part → k < length items → drop k items ≡ part ∷ drop (k + 1) items
part_at items k part e l = drop-cons items k part l ∙ ap (λ x. x ∷ drop (suc k) items) (sym e) ∙ ap (λ q. part ∷ drop q items) (sym (add-one k))

pub part_more : {X : Type 0} (items : List X) (k : ℕ) (part : X) → part ≡ get_or items k part → k < length items → take (k + 1) items ≡ take k items ++ part ∷ []
part_more items k part e l = take_more items k part l ∙ ap (λ x. take k items ++ x ∷ []) (sym e)

-- ---- sorted parts

pub sorted_at : (c : Context) (items : List Expr) (k : ℕ) (e : Expr) → e ≡ get_or items k e → k < length items → AreSorted c (view_exprs (drop k items)) → IsSorted c (view_expr e) × AreSorted c (view_exprs (drop (k + 1) items))
sorted_at c items k e is low h = subst (λ l. AreSorted c (view_exprs l)) (part_at items k e is low) h

pub truths_at : (c : Context) (items : List Expr) (k : ℕ) (e : Expr) → e ≡ get_or items k e → k < length items → AreTruths c (view_exprs (drop k items)) → IsSorted c (view_expr e) × (width_of c (view_expr e) ≡ 1) × AreTruths c (view_exprs (drop (k + 1) items))
truths_at c items k e is low h = subst (λ l. AreTruths c (view_exprs l)) (part_at items k e is low) h

pub steps_at : (c : Context) (items : List PathStep) (k : ℕ) (x : PathStep) → x ≡ get_or items k x → k < length items → AreSteps c (view_steps (drop k items)) → IsSorted c (view_step x).index × AreSteps c (view_steps (drop (k + 1) items))
steps_at c items k x is low h = subst (λ l. AreSteps c (view_steps l)) (part_at items k x is low) h

pub step_index : (x : PathStep) → (view_step x).index ≡ view_expr x.index
step_index x = search (rules, fold-roll-PathStep, fold_out-PathStep)

pub sorted_here : (c : Context) (items : List Expr) (k : ℕ) (e : Expr) → e ≡ get_or items k e → k < length items → AreSorted c (view_exprs (drop k items)) → IsSorted c (view_expr e)
sorted_here c items k e is low h = (sorted_at c items k e is low h).0

pub truth_here : (c : Context) (items : List Expr) (k : ℕ) (e : Expr) → e ≡ get_or items k e → k < length items → AreTruths c (view_exprs (drop k items)) → IsSorted c (view_expr e)
truth_here c items k e is low h = (truths_at c items k e is low h).0

pub step_here : (c : Context) (items : List PathStep) (k : ℕ) (x : PathStep) → x ≡ get_or items k x → k < length items → AreSteps c (view_steps (drop k items)) → IsSorted c (view_step x).index
step_here c items k x is low h = (steps_at c items k x is low h).0

-- ---- limits

limits_push : (base : Reading → Source) (c : Context) (old : List Node) (s : Scope) (t : List Node) (ls : List Limit) (items : List Expr) (l : Limit) (e : Expr) → AreLimitsOf base c old s t ls (view_exprs items) → IsLimitOf base c old s t l (view_expr e) → AreLimitsOf base c old s t (ls ++ l ∷ []) (view_exprs (items ++ e ∷ []))
limits_push base c old s t [] [] l e h g = (g, tt)
limits_push base c old s t [] (x ∷ xs) l e h g = absurd h
limits_push base c old s t (k ∷ ks) [] l e h g = absurd h
limits_push base c old s t (k ∷ ks) (x ∷ xs) l e h g = (h.0, limits_push base c old s t ks xs l e h.1 g)

pub limits_turn : (base : Reading → Source) (c : Context) (old : List Node) (s : Scope) (t new : List Node) (ls : List Limit) (items : List Expr) (k : ℕ) (l : Limit) (e : Expr) → e ≡ get_or items k e → k < length items → Keeps t new
    → AreLimitsOf base c old s t ls (view_exprs (take k items)) → IsLimitOf base c old s new l (view_expr e) → AreLimitsOf base c old s new (ls ++ l ∷ []) (view_exprs (take (k + 1) items))
limits_turn base c old s t new ls items k l e is low keeps h g =
    subst (λ q. AreLimitsOf base c old s new (ls ++ l ∷ []) (view_exprs q)) (sym (part_more items k e is low))
    (limits_push base c old s new ls (take k items) l e (limits_are_kept base c old s t new ls (view_exprs (take k items)) keeps h) g)

pub limits_end : (base : Reading → Source) (c : Context) (old : List Node) (s : Scope) (t : List Node) (ls : List Limit) (l : ExprList) (items : List Expr) (k : ℕ) → items ≡ (out-ExprList l).items.items → length items ≤ k → AreLimitsOf base c old s t ls (view_exprs (take k items)) → AreLimitsOf base c old s t ls (view_expr_list l)
limits_end base c old s t ls l items k same high h =
    let e : take k items ≡ items = take_all k items high in
    subst (AreLimitsOf base c old s t ls) (sym (list_is l ∙ ap view_exprs (sym same))) (subst (λ q. AreLimitsOf base c old s t ls (view_exprs q)) e h)

step_limits_push : (base : Reading → Source) (c : Context) (old : List Node) (s : Scope) (t : List Node) (ls : List Limit) (items : List PathStep) (l : Limit) (x : PathStep) → AreLimitsOf base c old s t ls (step_trees (view_steps items)) → IsLimitOf base c old s t l (view_step x).index → AreLimitsOf base c old s t (ls ++ l ∷ []) (step_trees (view_steps (items ++ x ∷ [])))
step_limits_push base c old s t [] [] l e h g = (g, tt)
step_limits_push base c old s t [] (x ∷ xs) l e h g = absurd h
step_limits_push base c old s t (k ∷ ks) [] l e h g = absurd h
step_limits_push base c old s t (k ∷ ks) (x ∷ xs) l e h g = (h.0, step_limits_push base c old s t ks xs l e h.1 g)

pub step_limits_turn : (base : Reading → Source) (c : Context) (old : List Node) (s : Scope) (t new : List Node) (ls : List Limit) (items : List PathStep) (k : ℕ) (l : Limit) (x : PathStep) → x ≡ get_or items k x → k < length items → Keeps t new
    → AreLimitsOf base c old s t ls (step_trees (view_steps (take k items))) → IsLimitOf base c old s new l (view_step x).index → AreLimitsOf base c old s new (ls ++ l ∷ []) (step_trees (view_steps (take (k + 1) items)))
step_limits_turn base c old s t new ls items k l x is low keeps h g =
    subst (λ q. AreLimitsOf base c old s new (ls ++ l ∷ []) (step_trees (view_steps q))) (sym (part_more items k x is low))
    (step_limits_push base c old s new ls (take k items) l x (limits_are_kept base c old s t new ls (step_trees (view_steps (take k items))) keeps h) g)

pub step_limits_end : (base : Reading → Source) (c : Context) (old : List Node) (s : Scope) (t : List Node) (ls : List Limit) (l : StepList) (items : List PathStep) (k : ℕ) → items ≡ (out-StepList l).items.items → length items ≤ k → AreLimitsOf base c old s t ls (step_trees (view_steps (take k items))) → AreLimitsOf base c old s t ls (step_trees (view_step_list l))
step_limits_end base c old s t ls l items k same high h =
    let e : take k items ≡ items = take_all k items high in
    subst (λ q. AreLimitsOf base c old s t ls (step_trees q)) (sym (step_list_is l ∙ ap view_steps (sym same))) (subst (λ q. AreLimitsOf base c old s t ls (step_trees (view_steps q))) e h)

-- ---- where more is known

-- what suits, suits where more is known that holds at each reading that agrees
suits_knowing : (base src : Reading → Source) (c : Context) (old t : List Node) (s : Scope) (known : List Limit) (v : Reading) (env : Env) → Lasts base old src t s → Suits base c old s v env
    → ((u : Reading) → Agrees (s.base + length s.sizes) v u → AreLimited t s.known u → AreLimited t known u) → Suits src c t (knowing s known) v env
suits_knowing base src c old t s known v env lasts suits more =
    λ u a. let r = suits_kept base old src t s c lasts v env suits u a in
    record { read = r.read; memory = r.memory; args = r.args; locals = r.locals; bounds = r.bounds; below = r.below; known = more u a r.known }

pub where_is : (base src : Reading → Source) (c : Context) (old t new : List Node) (s : Scope) (known : List Limit) (condition r : ℕ) (e : Tree) → Lasts base old src t s
    → ((v : Reading) → terms.value t condition v ≡ 1 → AreLimited t s.known v → AreLimited t known v) → IsTermOf src c t (knowing s known) new r e → IsTermWhere base c old s t condition new r e
where_is base src c old t new s known condition r e lasts more h =
    record {
      within = h.within;
      width_is = h.width_is;
      value_is = λ v env suits holding. h.value_is v env (suits_knowing base src c old t s known v env lasts suits (λ u a. more u (holding u a)));
    }

pub names_knowing : (t : List Node) (s : Scope) (known : List Limit) → AreNames t s → All (λ l. l.term < length t) known → AreNames t (knowing s known)
names_knowing t s known h k = record { args = h.args; locals = h.locals; keys = h.keys; known = k }

pub ready_knowing : (c : Context) (limit : ℕ) (t : List Node) (s : Scope) (known : List Limit) → Ready c limit t s → All (λ l. l.term < length t) known → Ready c limit t (knowing s known)
ready_knowing c limit t s known h k =
    record { names = names_knowing t s known h.names k; keys = h.keys; ids = h.ids; low = h.low; fields = h.fields; objects = h.objects }

-- ---- conjunctions and disjunctions

and_true : (b : Bool) → (b && true) ≡ b
and_true true = refl
and_true false = refl

or_false : (b : Bool) → (b || false) ≡ b
or_false true = refl
or_false false = refl

and_assoc : (a b c : Bool) → ((a && b) && c) ≡ (a && (b && c))
and_assoc true b c = refl
and_assoc false b c = refl

or_assoc : (a b c : Bool) → ((a || b) || c) ≡ (a || (b || c))
or_assoc true b c = refl
or_assoc false b c = refl

all_push : (c : Context) (env : Env) (items : List Expr) (e : Expr) → list_all holds (values c env (view_exprs (items ++ e ∷ []))) ≡ (list_all holds (values c env (view_exprs items)) && holds (value c env (view_expr e)))
all_push c env [] e = and_true (holds (value c env (view_expr e)))
all_push c env (x ∷ xs) e = ap (λ b. holds (value c env (view_expr x)) && b) (all_push c env xs e) ∙ sym (and_assoc (holds (value c env (view_expr x))) (list_all holds (values c env (view_exprs xs))) (holds (value c env (view_expr e))))

any_push : (c : Context) (env : Env) (items : List Expr) (e : Expr) → list_any holds (values c env (view_exprs (items ++ e ∷ []))) ≡ (list_any holds (values c env (view_exprs items)) || holds (value c env (view_expr e)))
any_push c env [] e = or_false (holds (value c env (view_expr e)))
any_push c env (x ∷ xs) e = ap (λ b. holds (value c env (view_expr x)) || b) (any_push c env xs e) ∙ sym (or_assoc (holds (value c env (view_expr x))) (list_any holds (values c env (view_exprs xs))) (holds (value c env (view_expr e))))

bit_holds : (b : Bool) → holds (bit b) ≡ b
bit_holds true = refl
bit_holds false = refl

both_so : (p : Bool) (m n : ℕ) → (p ≡ true → m ≡ n) → bit (p && holds m) ≡ bit (p && holds n)
both_so true m n h = ap (λ q. bit (holds q)) (h refl)
both_so false m n h = refl

both_one : (p q : Bool) → bit (p && q) ≡ 1 → (p ≡ true) × (q ≡ true)
both_one true true h = (refl, refl)
both_one true false h = cc
both_one false q h = cc

one_of : (n : ℕ) → n < 2 → holds n ≡ true → n ≡ 1
one_of zero h g = cc
one_of (suc zero) h g = refl
one_of (suc (suc n)) h g = absurd (omega (arith, h))

pub all_turn : (base src : Reading → Source) (c : Context) (old t mid new : List Node) (s : Scope) (items : List Expr) (k : ℕ) (e : Expr) (made next both : ℕ) (known more : List Limit) → e ≡ get_or items k e → k < length items → Lasts base old src t s
    → Keeps t mid → Keeps mid new → made < length t → All (λ l. l.term < length t) known → ((v : Reading) → terms.value mid next v < 2)
    → IsAllOf base c old s t made known (view_exprs (take k items)) → IsTermOf src c t (knowing s known) mid next (view_expr e)
    → ((v : Reading) → terms.value new both v ≡ bit (holds (terms.value mid made v) && holds (terms.value mid next v)))
    → ((v : Reading) → terms.value new next v ≡ 1 → AreLimited new known v → AreLimited new more v)
    → IsAllOf base c old s new both more (view_exprs (take (k + 1) items))
all_turn base src c old t mid new s items k e made next both known more is low lasts first last there within small h g joined learnt =
    let P : Env → Bool = λ env. list_all holds (values c env (view_exprs (take k items))) in
    let made_is : (v : Reading) (env : Env) → Suits base c old s v env → terms.value mid made v ≡ bit (P env) = λ v env suits. first.values made there v ∙ h.all v env suits in
    let kept : Keeps t new = followed t mid new first last in
    record {
      all = λ v env suits.
          let next_is : P env ≡ true → terms.value mid next v ≡ value c env (view_expr e) =
          λ p. g.value_is v env (suits_knowing base src c old t s known v env lasts suits (λ u a q. h.limits u env (suits_beside base c old s v u env a suits) (h.all u env (suits_beside base c old s v u env a suits) ∙ ap bit p))) in
          joined v
          ∙ ap (λ n. bit (holds n && holds (terms.value mid next v))) (made_is v env suits)
          ∙ ap (λ b. bit (b && holds (terms.value mid next v))) (bit_holds (P env))
          ∙ both_so (P env) (terms.value mid next v) (value c env (view_expr e)) next_is
          ∙ ap bit (sym (ap (λ l. list_all holds (values c env (view_exprs l))) (part_more items k e is low) ∙ all_push c env (take k items) e));
      limits = λ v env suits one.
          let parts = both_one (holds (terms.value mid made v)) (holds (terms.value mid next v)) (sym (joined v) ∙ one) in
          let p : P env ≡ true = sym (bit_holds (P env)) ∙ ap holds (sym (made_is v env suits)) ∙ parts.0 in
          let now : AreLimited t known v = h.limits v env suits (h.all v env suits ∙ ap bit p) in
          learnt v (last.values next g.within v ∙ one_of (terms.value mid next v) (small v) parts.1) (limits_kept t new kept known within v now);
    }

pub any_turn : (base : Reading → Source) (c : Context) (old t mid new : List Node) (s : Scope) (items : List Expr) (k : ℕ) (e : Expr) (made next either : ℕ) → e ≡ get_or items k e → k < length items
    → Keeps t mid → made < length t → IsAnyOf base c old s t made (view_exprs (take k items)) → IsTermOf base c old s mid next (view_expr e)
    → ((v : Reading) → terms.value new either v ≡ bit (holds (terms.value mid made v) || holds (terms.value mid next v)))
    → IsAnyOf base c old s new either (view_exprs (take (k + 1) items))
any_turn base c old t mid new s items k e made next either is low first there h g joined =
    record {
      any = λ v env suits.
          let P : Bool = list_any holds (values c env (view_exprs (take k items))) in
          joined v
          ∙ ap (λ n. bit (holds n || holds (terms.value mid next v))) (first.values made there v ∙ h.any v env suits)
          ∙ ap (λ b. bit (b || holds (terms.value mid next v))) (bit_holds P)
          ∙ ap (λ n. bit (P || holds n)) (g.value_is v env suits)
          ∙ ap bit (sym (ap (λ l. list_any holds (values c env (view_exprs l))) (part_more items k e is low) ∙ any_push c env (take k items) e));
    }

pub all_end : (base : Reading → Source) (c : Context) (old t : List Node) (s : Scope) (l : ExprList) (items : List Expr) (k made : ℕ) (known : List Limit) → items ≡ (out-ExprList l).items.items → length items ≤ k → made < length t → width t made ≡ 1
    → IsAllOf base c old s t made known (view_exprs (take k items)) → IsTermOf base c old s t made (all_of (view_expr_list l))
all_end base c old t s l items k made known same high within truth h =
    let e : view_exprs (take k items) ≡ view_expr_list l = ap view_exprs (take_all k items high ∙ same) ∙ sym (list_is l) in
    record { within = within; width_is = truth; value_is = λ v env suits. h.all v env suits ∙ ap (λ es. bit (list_all holds (values c env es))) e }

pub any_end : (base : Reading → Source) (c : Context) (old t : List Node) (s : Scope) (l : ExprList) (items : List Expr) (k made : ℕ) → items ≡ (out-ExprList l).items.items → length items ≤ k → made < length t → width t made ≡ 1
    → IsAnyOf base c old s t made (view_exprs (take k items)) → IsTermOf base c old s t made (any_of (view_expr_list l))
any_end base c old t s l items k made same high within truth h =
    let e : view_exprs (take k items) ≡ view_expr_list l = ap view_exprs (take_all k items high ∙ same) ∙ sym (list_is l) in
    record { within = within; width_is = truth; value_is = λ v env suits. h.any v env suits ∙ ap (λ es. bit (list_any holds (values c env es))) e }

-- ---- behind variables

pub names_entered : (t : List Node) (s : Scope) (sizes : List ℕ) → AreNames t s → AreNames t (entered s sizes)
names_entered t s sizes h = record { args = h.args; locals = h.locals; keys = h.keys; known = h.known }

pub lasts_entered : (base : Reading → Source) (old : List Node) (src : Reading → Source) (t : List Node) (s : Scope) (sizes : List ℕ) → Lasts base old src t s → Lasts base old src t (entered s sizes)
lasts_entered base old src t s sizes h = record { names = names_entered old s sizes h.names; keeps = h.keeps; same = h.same }

behind_length : (a b : List ℕ) → length (a ++ b) ≡ length a + length b
behind_length [] b = omega arith
behind_length (x ∷ xs) b = omega (arith, behind_length xs b)

pub ready_entered : (c : Context) (limit : ℕ) (t : List Node) (s : Scope) (all sizes : List ℕ) → Ready c limit t s → all ≡ s.sizes ++ sizes → s.base + length all ≤ limit → Ready c limit t (record s { sizes = all })
ready_entered c limit t s all sizes h is room =
    let longer : length all ≡ length s.sizes + length sizes = ap length is ∙ behind_length s.sizes sizes in
    record {
      names = record { args = h.names.args; locals = h.names.locals; keys = h.names.keys; known = h.names.known };
      keys = omega (arith, longer, h.keys);
      ids = room;
      low = h.low;
      fields = h.fields;
      objects = h.objects;
    }

pub ids_entered : (c : Context) (limit : ℕ) (t : List Node) (s : Scope) (all sizes : List ℕ) → Ready c limit t s → all ≡ s.sizes ++ sizes → s.base + length all ≤ limit → s.base + length s.sizes + length sizes < 2 ^ 32
ids_entered c limit t s all sizes h is room =
    let longer : length all ≡ length s.sizes + length sizes = ap length is ∙ behind_length s.sizes sizes in omega (arith, longer, room, h.low)

pub sorted_entered : (c : Context) (s : Scope) (all sizes : List ℕ) (e : Tree) → all ≡ s.sizes ++ sizes → IsSorted (with_bounds (context_of c s) sizes) e → IsSorted (context_of c (record s { sizes = all })) e
sorted_entered c s all sizes e is h = let P : List ℕ → Type 0 = λ l. IsSorted (context_of c (record s { sizes = l })) e in subst P (sym is) h

pub term_entered : (base src : Reading → Source) (c : Context) (old t new : List Node) (s : Scope) (all sizes : List ℕ) (r : ℕ) (e : Tree) → all ≡ s.sizes ++ sizes
    → ((first : Reading → Source) (from : List Node) → Lasts first from src t (record s { sizes = all }) → IsTermOf first (context_of c (record s { sizes = all })) from (record s { sizes = all }) new r e)
    → Lasts base old src t s → IsTermOf base (with_bounds (context_of c s) sizes) old (entered s sizes) new r e
term_entered base src c old t new s all sizes r e is h lasts =
    let P : List ℕ → Type 0 = λ l. (first : Reading → Source) (from : List Node) → Lasts first from src t (record s { sizes = l }) → IsTermOf first (context_of c (record s { sizes = l })) from (record s { sizes = l }) new r e in
    subst P is h base old (lasts_entered base old src t s sizes lasts)

pub width_entered : (c : Context) (s : Scope) (all sizes : List ℕ) (e : Tree) (w : ℕ) → all ≡ s.sizes ++ sizes → w ≡ width_of (context_of c (record s { sizes = all })) e → w ≡ width_of (with_bounds (context_of c s) sizes) e
width_entered c s all sizes e w is h = let P : List ℕ → Type 0 = λ l. w ≡ width_of (context_of c (record s { sizes = l })) e in subst P is h

-- ---- fields

pub got_within : {X : Type 0} (xs : List X) (k : ℕ) (x : X) → slice_get xs k ≡ Some x → k < length xs
got_within [] k x h = cc
got_within (y ∷ ys) zero x h = omega arith
got_within (y ∷ ys) (suc k) x h = omega (arith, got_within ys k x h)

pub got_is : {X : Type 0} (xs : List X) (k : ℕ) (x d : X) → slice_get xs k ≡ Some x → slice_index_or xs k d ≡ x
got_is [] k x d h = cc
got_is (y ∷ ys) zero x d h = cc
got_is (y ∷ ys) (suc k) x d h = got_is ys k x d h

pub path_steps_sorted : (c : Context) (p : Path) → IsSorted c (path_tree (view_path p)) → AreSteps c (view_step_list (out-Path p).steps)
path_steps_sorted c p h = subst (AreSteps c) (steps_are p) h.4

pub entry_sorted : (c : Context) (name : StateName) (f : ℕ) (es : Trees) → IsSorted c (entry name f es) → AreSorted c es
entry_sorted c name f es h = indices_sorted c h.1.keys es h.3
