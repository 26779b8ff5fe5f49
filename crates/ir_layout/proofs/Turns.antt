-- One turn of a loop over a list.
use Rattle.std.proofs.Common.{◌≡◌, ℕ, suc, zero, ◌+◌, List, [], ◌∷◌, ◌++◌, map, append_assoc, Option, Some, unwrap_or, drop, ap, ◌∙◌, sym, add-one}
use Rattle.std.specs.Prelude.{slice_get}
use Rattle.ir_ast.specs.Program.{GlobalView}
use Rattle.ir_ast.specs.declared.fault.KernelFault.{KernelFault}
use Rattle.ir_layout.specs.declared.fact.Fact.{Fact}
use Rattle.ir_layout.specs.Least.{least_globals, offer_marks, marks_of_global, total_with}

pub drop_here : {X : Type 0} (xs : List X) (i : ℕ) (x : X) → slice_get xs i ≡ Some x → drop i xs ≡ x ∷ drop (i + 1) xs
drop_here [] i x there = cc
drop_here (y ∷ ys) zero x there = ap (λ o. unwrap_or o y ∷ ys) there
drop_here (y ∷ ys) (suc i) x there = rw (add-one (suc i)) (drop_here ys i x there ∙ ap (λ k. x ∷ drop k ys) (add-one i))

-- where the rest leads where the whole does, it does so behind the next element
pub turn : {S X R : Type 0} (F : S → List X → R) (s t : S) (xs : List X) (i : ℕ) (x : X) (whole : R) → slice_get xs i ≡ Some x → F s (drop i xs) ≡ whole
    → F s (x ∷ drop (i + 1) xs) ≡ F t (drop (i + 1) xs) → F t (drop (i + 1) xs) ≡ whole
turn F s t xs i x whole there so_far step = sym step ∙ sym (ap (F s) (drop_here xs i x there)) ∙ so_far

pub globals_turn : (look : List ℕ → Fact) (least more : Option KernelFault) (total next : ℕ) (xs : List (List ℕ × GlobalView)) (i : ℕ) (x : List ℕ × GlobalView) (whole : Option KernelFault)
    → slice_get xs i ≡ Some x → least_globals look least total (drop i xs) ≡ whole → more ≡ offer_marks least x.1.line (marks_of_global look total x.1) → next ≡ total_with look total x.1
    → least_globals look more next (drop (i + 1) xs) ≡ whole
globals_turn look least more total next xs i x whole there so_far is summed =
    ap (λ f. least_globals look f next (drop (i + 1) xs)) is
    ∙ ap (λ n. least_globals look (offer_marks least x.1.line (marks_of_global look total x.1)) n (drop (i + 1) xs)) summed
    ∙ sym (ap (least_globals look least total) (drop_here xs i x there)) ∙ so_far

-- what is pushed so far, and what is left of the whole
pub map_more : {X Y : Type 0} (f : X → Y) (xs : List X) (i : ℕ) (x : X) (out more : List Y) (y : Y) (whole : List Y) → slice_get xs i ≡ Some x → more ≡ out ++ y ∷ [] → y ≡ f x
    → out ++ map f (drop i xs) ≡ whole → more ++ map f (drop (i + 1) xs) ≡ whole
map_more f xs i x out more y whole there added is so_far =
    ap (λ ys. ys ++ map f (drop (i + 1) xs)) added ∙ append_assoc out (y ∷ []) (map f (drop (i + 1) xs))
    ∙ ap (λ z. out ++ (z ∷ map f (drop (i + 1) xs))) is ∙ sym (ap (λ ys. out ++ map f ys) (drop_here xs i x there)) ∙ so_far
