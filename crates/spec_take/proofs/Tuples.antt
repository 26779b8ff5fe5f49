-- How many index tuples variables have, and what is found in several parts.
use Rattle.std.proofs.Common.{◌≡◌, ℕ, zero, suc, ◌+◌, ◌*◌, ◌^◌, ◌<◌, ◌≤◌, Bool, true, false, ◌||◌, List, [], ◌∷◌, ◌++◌, length, map, take, drop, get_or, append_assoc, append-nil, mul_assoc, refl, sym, ◌∙◌, ap, arith}
use Rattle.std.specs.Prelude.{nat_lt, if◌then◌else◌}
use Rattle.std.proofs.lemmas.List.{map-append}
use Rattle.spec_ast.specs.Raw.{Step, element, member, Steps, step_and}
use Rattle.spec_ast.specs.View.{view_expr, view_exprs, view_step, view_steps}
use Rattle.spec_ast.specs.declared.raw.RawExpr.{RawExpr}
use Rattle.spec_ast.specs.declared.raw.RawStep.{RawStep}
use Rattle.spec_tree.specs.Sorted.{product}
use Rattle.spec_names.specs.Kernel.{Name}
use Rattle.spec_scope.specs.Scope.{Scope, meaning, is_among, bound_behind}
use Rattle.spec_scope.specs.Tests as tests
use Rattle.spec_scope.specs.Tests.{size_of, tuples_of}
use Rattle.spec_take.proofs.Leaves.{part_at}
use Rattle.spec_take.specs.Found.{either, findings_among, findings_in, findings_step, capped, told_tuples}

abbrev Bound : Type 0
Bound = List Name

-- ---- counts

product_push : (ns : List ℕ) (n : ℕ) → product (ns ++ n ∷ []) ≡ product ns * n
product_push [] n = omega arith
product_push (m ∷ ns) n = ap (λ p. m * p) (product_push ns n) ∙ sym (mul_assoc m (product ns) n)

tuples_push : (s : Scope) (b : Bound) (x : Name) → tuples_of s (b ++ x ∷ []) ≡ tuples_of s b * size_of (meaning s x)
tuples_push s b x = ap product (map-append (λ y. size_of (meaning s y)) b (x ∷ [])) ∙ product_push (map (λ y. size_of (meaning s y)) b) (size_of (meaning s x))

grows : (m n : ℕ) → 1 ≤ n → m ≤ m * n
grows m n h = grind (arith, h)

no_times : (m : ℕ) → m * 0 ≡ 0
no_times m = omega arith

capped_twice : (m n : ℕ) → capped (capped (capped m) * n) ≡ capped (m * n)
capped_twice m zero = ap capped (no_times (capped (capped m)) ∙ sym (no_times m))
capped_twice m (suc n) = let low = grows m (suc n) (omega arith) in let most = grows 1048577 (suc n) (omega arith) in grind (arith, low, most)

pub tuples_more : (s : Scope) (b : Bound) (x : Name) (t r : ℕ) → t ≡ told_tuples s b → r ≡ capped (capped t * size_of (meaning s x)) → r ≡ told_tuples s (b ++ x ∷ [])
tuples_more s b x t r is made =
    made ∙ ap (λ t. capped (capped t * size_of (meaning s x))) is ∙ capped_twice (tuples_of s b) (size_of (meaning s x)) ∙ ap capped (sym (tuples_push s b x))

pub wide_told : (n t : ℕ) → t ≡ capped n → nat_lt (2 ^ 20) t ≡ nat_lt (2 ^ 20) n
wide_told n t is = grind (arith, is)

-- ---- the variables behind a quantifier

either_way : (b : Bound) (x : Name) (xs : Bound) (c : Bool) → (more : Bound) × (bound_behind b xs ≡ b ++ more) → (more : Bound) × (bound_behind (b ++ x ∷ []) xs ≡ (b ++ x ∷ []) ++ more)
    → (more : Bound) × (bound_behind (if c then b else b ++ x ∷ []) xs ≡ b ++ more)
either_way b x xs true there rest = there
either_way b x xs false there rest = (x ∷ rest.0, rest.1 ∙ append_assoc b (x ∷ []) rest.0)

behind_is : (b xs : Bound) → (more : Bound) × (bound_behind b xs ≡ b ++ more)
behind_is b [] = ([], sym (append-nil b))
behind_is b (x ∷ xs) = either_way b x xs (is_among x b) (behind_is b xs) (behind_is (b ++ x ∷ []) xs)

take_front : (b more : Bound) → take (length b) (b ++ more) ≡ b
take_front [] more = refl
take_front (x ∷ b) more = ap (λ rest. x ∷ rest) (take_front b more)

pub cut_behind : (b xs now : Bound) (n : ℕ) → n ≡ length b → now ≡ bound_behind b xs → take n now ≡ b
cut_behind b xs now n is there =
    let rest = behind_is b xs in ap (λ k. take k now) is ∙ ap (take (length b)) (there ∙ rest.1) ∙ take_front b rest.0

pub cut_bound : (b xs now : Bound) (n : ℕ) → n ≡ length b → now ≡ b ++ xs → take n now ≡ b
cut_bound b xs now n is there = ap (λ k. take k now) is ∙ ap (take (length b)) there ∙ take_front b xs

-- ---- what is found in several parts

or_assoc : (a b c : Bool) → ((a || b) || c) ≡ (a || (b || c))
or_assoc true b c = refl
or_assoc false b c = refl

findings_from : Bool → Bool → Bool → Bool → Bool → tests.Findings
findings_from a b c d e = record { unknown = a; rebound = b; no_leaf = c; wide = d; reads = e }

same_findings : (a b c d e u v w x y : Bool) → a ≡ u → b ≡ v → c ≡ w → d ≡ x → e ≡ y → findings_from a b c d e ≡ findings_from u v w x y
same_findings a b c d e u v w x y h i j k l = rw (h, i, j, k, l) refl

pub either_assoc : (f g h : tests.Findings) → either (either f g) h ≡ either f (either g h)
unfolding findings_from
either_assoc f g h =
    same_findings ((f.unknown || g.unknown) || h.unknown) ((f.rebound || g.rebound) || h.rebound) ((f.no_leaf || g.no_leaf) || h.no_leaf) ((f.wide || g.wide) || h.wide)
    ((f.reads || g.reads) || h.reads) (f.unknown || (g.unknown || h.unknown)) (f.rebound || (g.rebound || h.rebound)) (f.no_leaf || (g.no_leaf || h.no_leaf))
    (f.wide || (g.wide || h.wide)) (f.reads || (g.reads || h.reads))
    (or_assoc f.unknown g.unknown h.unknown) (or_assoc f.rebound g.rebound h.rebound) (or_assoc f.no_leaf g.no_leaf h.no_leaf) (or_assoc f.wide g.wide h.wide)
    (or_assoc f.reads g.reads h.reads)

pub steps_more : (s : Scope) (b : Bound) (step : Step) (steps : Steps) → findings_in s b (step_and step steps) ≡ either (findings_step s b step) (findings_in s b steps)
steps_more s b (element e) steps = refl
steps_more s b (member k) steps = refl

pub among_next : (s : Scope) (b here_b : Bound) (items : List RawExpr) (i : ℕ) (e : RawExpr) (f here new whole : tests.Findings) → e ≡ get_or items i e → i < length items
    → here_b ≡ b → here ≡ tests.findings s here_b (view_expr e) → new ≡ either f here → either f (findings_among s b (view_exprs (drop i items))) ≡ whole
    → either new (findings_among s b (view_exprs (drop (i + 1) items))) ≡ whole
among_next s b here_b items i e f here new whole is low kept found made h =
    let rest = findings_among s b (view_exprs (drop (i + 1) items)) in
    ap (λ x. either x rest) (made ∙ ap (either f) (found ∙ ap (λ b. tests.findings s b (view_expr e)) kept))
    ∙ either_assoc f (tests.findings s b (view_expr e)) rest
    ∙ ap (λ l. either f (findings_among s b (view_exprs l))) (sym (part_at items i e is low))
    ∙ h

pub steps_next : (s : Scope) (b here_b : Bound) (items : List RawStep) (i : ℕ) (e : RawStep) (f here new whole : tests.Findings) → e ≡ get_or items i e → i < length items
    → here_b ≡ b → here ≡ findings_step s here_b (view_step e) → new ≡ either f here → either f (findings_in s b (view_steps (drop i items))) ≡ whole
    → either new (findings_in s b (view_steps (drop (i + 1) items))) ≡ whole
steps_next s b here_b items i e f here new whole is low kept found made h =
    let rest = findings_in s b (view_steps (drop (i + 1) items)) in
    ap (λ x. either x rest) (made ∙ ap (either f) (found ∙ ap (λ b. findings_step s b (view_step e)) kept))
    ∙ either_assoc f (findings_step s b (view_step e)) rest
    ∙ ap (either f) (sym (steps_more s b (view_step e) (view_steps (drop (i + 1) items))))
    ∙ ap (λ l. either f (findings_in s b (view_steps l))) (sym (part_at items i e is low))
    ∙ h
