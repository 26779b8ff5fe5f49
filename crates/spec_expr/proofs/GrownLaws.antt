-- Building up to a depth commutes with the constructors.
use Rattle.std.proofs.Common.{◌≡◌, ℕ, ◌+◌, ◌≤◌, ◌<◌, max, Bool, true, false, refl, ap, ◌∙◌, arith}
use Rattle.std.specs.Prelude.{nat_le, if◌then◌else◌}
use Rattle.std.proofs.lemmas.Bool.{leb-false, lt-leb}
use Rattle.spec_ast.specs.Raw.{Tree, choose}
use Rattle.spec_ast.specs.Depth.{depth}
use Rattle.spec_expr.specs.Grown.{built, too_deep, bounded, lift, join, limited}
use Rattle.spec_expr.specs.Reading.{both_deeper, grown_choice}

pub over : {A : Type 0} (most : ℕ) (a : A) (d : ℕ) → most < d → too_deep ≡ bounded most a d
over most a d h = rw (lt-leb d most h) refl

lift_by : {A B : Type 0} (most : ℕ) (f : A → B) (deeper : ℕ → ℕ) (a : A) (m : ℕ) (p : Bool) → nat_le m most ≡ p → m ≤ deeper m →
    lift most f deeper (if p then built a m else too_deep) ≡ bounded most (f a) (deeper m)
lift_by most f deeper a m true e grows = refl
lift_by most f deeper a m false e grows = over most (f a) (deeper m) (let h : most < m = leb-false m most e in omega arith)

pub bounded_lift : {A B : Type 0} (most : ℕ) (f : A → B) (deeper : ℕ → ℕ) (a : A) (m : ℕ) → m ≤ deeper m → lift most f deeper (bounded most a m) ≡ bounded most (f a) (deeper m)
bounded_lift most f deeper a m grows = lift_by most f deeper a m (nat_le m most) refl grows

join_by : {A B C : Type 0} (most : ℕ) (f : A → B → C) (deeper : ℕ → ℕ → ℕ) (a : A) (m : ℕ) (b : B) (n : ℕ) (p q : Bool) → nat_le m most ≡ p → nat_le n most ≡ q →
    m ≤ deeper m n → n ≤ deeper m n →
    join most f deeper (if p then built a m else too_deep) (if q then built b n else too_deep) ≡ bounded most (f a b) (deeper m n)
join_by most f deeper a m b n true true e1 e2 left right = refl
join_by most f deeper a m b n true false e1 e2 left right = over most (f a b) (deeper m n) (let h : most < n = leb-false n most e2 in omega arith)
join_by most f deeper a m b n false true e1 e2 left right = over most (f a b) (deeper m n) (let h : most < m = leb-false m most e1 in omega arith)
join_by most f deeper a m b n false false e1 e2 left right = over most (f a b) (deeper m n) (let h : most < m = leb-false m most e1 in omega arith)

pub bounded_join : {A B C : Type 0} (most : ℕ) (f : A → B → C) (deeper : ℕ → ℕ → ℕ) (a : A) (m : ℕ) (b : B) (n : ℕ) → m ≤ deeper m n → n ≤ deeper m n →
    join most f deeper (bounded most a m) (bounded most b n) ≡ bounded most (f a b) (deeper m n)
bounded_join most f deeper a m b n left right = join_by most f deeper a m b n (nat_le m most) (nat_le n most) refl refl left right

pub limited_choice : (most : ℕ) (c a b : Tree) → grown_choice most (limited most c) (limited most a) (limited most b) ≡ limited most (choose c a b)
limited_choice most c a b =
    let pick : Tree → Tree × Tree → Tree = λ x xs. choose x xs.0 xs.1 in
    let left : depth a ≤ max (depth a) (depth b) = omega arith in
    let right : depth b ≤ max (depth a) (depth b) = omega arith in
    let outer : depth c ≤ 1 + max (depth c) (max (depth a) (depth b)) = omega arith in
    let inner : max (depth a) (depth b) ≤ 1 + max (depth c) (max (depth a) (depth b)) = omega arith in
    ap (join most pick both_deeper (limited most c)) (bounded_join most (λ (x y : Tree). (x, y)) max a (depth a) b (depth b) left right)
    ∙ bounded_join most pick both_deeper c (depth c) (a, b) (max (depth a) (depth b)) outer inner
