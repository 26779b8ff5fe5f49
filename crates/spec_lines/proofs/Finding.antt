-- What expressions are found to be.
use Rattle.std.proofs.Common.{ℕ, suc, ◌<◌, ◌+◌, length, drop, map, get_or, drop-cons, add-one, ◌≡◌, Bool, true, false, ◌||◌, List, [], ◌∷◌, ◌++◌, refl, ap, ◌∙◌, sym}
use Rattle.spec_ast.specs.Raw.{Tree}
use Rattle.spec_ast.specs.View.{view_expr}
use Rattle.spec_ast.specs.declared.raw.RawExpr.{RawExpr}
use Rattle.spec_scope.specs.Scope.{Scope}
use Rattle.spec_scope.specs.Tests.{Findings, findings}
use Rattle.spec_lines.specs.Lines.{either, found_among}

or_assoc : (a b c : Bool) → ((a || b) || c) ≡ (a || (b || c))
or_assoc true b c = refl
or_assoc false b c = refl

made_of : {a b c d e a' b' c' d' e' : Bool} → a ≡ a' → b ≡ b' → c ≡ c' → d ≡ d' → e ≡ e'
    → ◌≡◌ {A = Findings} (record { unknown = a; rebound = b; no_leaf = c; wide = d; reads = e }) (record { unknown = a'; rebound = b'; no_leaf = c'; wide = d'; reads = e' })
made_of p q r s t = cc

either_assoc : (f g h : Findings) → either (either f g) h ≡ either f (either g h)
either_assoc f g h =
    made_of (or_assoc f.unknown g.unknown h.unknown) (or_assoc f.rebound g.rebound h.rebound) (or_assoc f.no_leaf g.no_leaf h.no_leaf)
    (or_assoc f.wide g.wide h.wide) (or_assoc f.reads g.reads h.reads)

among_next : (s : Scope) (f : Findings) (e : Tree) (es : List Tree)
    → either (either f (findings s [] e)) (found_among s es) ≡ either f (found_among s (e ∷ es))
among_next s f e es = either_assoc f (findings s [] e) (found_among s es)

pub among_both : (s : Scope) (xs ys : List Tree) → either (found_among s xs) (found_among s ys) ≡ found_among s (xs ++ ys)
among_both s [] ys = refl
among_both s (x ∷ xs) ys = either_assoc (findings s [] x) (found_among s xs) (found_among s ys) ∙ ap (either (findings s [] x)) (among_both s xs ys)

item_at : (items : List RawExpr) (k : ℕ) (item : RawExpr) → item ≡ get_or items k item → k < length items → drop k items ≡ item ∷ drop (k + 1) items
item_at items k item e l = drop-cons items k item l ∙ ap (λ x. x ∷ drop (suc k) items) (sym e) ∙ ap (λ q. item ∷ drop q items) (sym (add-one k))

pub among_step : (s : Scope) (es : List RawExpr) (k : ℕ) (e : RawExpr) (f h g total : Findings)
    → e ≡ get_or es k e → k < length es → h ≡ findings s [] (view_expr e) → g ≡ either f h
    → either f (found_among s (map view_expr (drop k es))) ≡ total → either g (found_among s (map view_expr (drop (k + 1) es))) ≡ total
among_step s es k e f h g total is within found joined so =
    ap (λ x. either x (found_among s (map view_expr (drop (k + 1) es)))) (joined ∙ ap (either f) found)
    ∙ (among_next s f (view_expr e) (map view_expr (drop (k + 1) es))
    ∙ (ap (λ xs. either f (found_among s (map view_expr xs))) (sym (item_at es k e is within)) ∙ so))
