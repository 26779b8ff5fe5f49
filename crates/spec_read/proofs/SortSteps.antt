-- The steps of readers of sorts and parameters.
use Rattle.std.proofs.Common.{◌≡◌, ℕ, zero, suc, ◌≤◌, ◌<◌, Bool, true, false, Some, None, List, [], ◌∷◌, ◌++◌, length, refl, sym, ap, ◌∙◌, append_assoc, append-nil, arith}
use Rattle.std.specs.Prelude.{Option, Result, Ok, Err, nat_le, if◌then◌else◌, bytes_eq, codes}
use Rattle.std.proofs.lemmas.Bool.{leb-false, leb-true, le-leb, lt-leb}
use Rattle.spec_ast.specs.declared.raw.RawSort.{RawSort}
use Rattle.spec_expr.specs.Words.{Text}
use Rattle.spec_expr.specs.Reading.{after, name_at}
use Rattle.spec_expr.specs.Many.{many_at, listed_names}
use Rattle.spec_expr.proofs.Steps.{past_step}
use Rattle.spec_expr.proofs.Lists.{after_same, same_turn}
use Rattle.spec_read.specs.ItemReading.{sort_at, more_sorts_at, few_keys, more_parameters_at, parameters_at}
use Rattle.spec_read.specs.Sorts.{few_by, few_keys_at, few_at}
use Rattle.spec_expr.specs.Fronts.{Gives}
use Rattle.spec_expr.specs.declared.stop.PartStop.{PartStop}
use Rattle.spec_expr.specs.declared.stop.PartStop.TheVariants.{NotSpelled, Memory}

pub ruleset front_steps = (past_step)

more_parameters_is : (m : ℕ) (ts : List Text) → more_parameters_at m ts ≡ many_at (codes ")") name_at (λ x xs. x ∷ xs) [] m ts
unfolding many_at
more_parameters_is zero ts = refl
more_parameters_is (suc m) [] = refl
more_parameters_is (suc m) (t ∷ ts) =
    same_turn (codes ")") name_at (λ x xs. x ∷ xs) [] m (more_parameters_at m) ts (bytes_eq t (codes ")")) (bytes_eq t (codes ",")) (more_parameters_is m)

pub parameters_listed : (ts : List Text) → parameters_at ts ≡ listed_names (codes ")") ts
parameters_listed ts =
    after_same (name_at ts) (λ x rest. after (more_parameters_at (length rest) rest) (λ xs rest. Some (x ∷ xs, rest)))
    (λ x rest. after (many_at (codes ")") name_at (λ x xs. x ∷ xs) [] (length rest) rest) (λ xs rest. Some (x ∷ xs, rest)))
    (λ x rest. ap (λ o. after o (λ xs rest. Some (x ∷ xs, rest))) (more_parameters_is (length rest) rest))

pub ruleset parameter_steps = (parameters_listed)

pub sort_added : (xs new : List RawSort) (x : RawSort) (ys : List RawSort) → new ≡ xs ++ x ∷ [] → new ++ ys ≡ xs ++ (x ∷ ys)
sort_added xs new x ys is = ap (λ zs. zs ++ ys) is ∙ append_assoc xs (x ∷ []) ys

pub nothing_more : (xs : List RawSort) (us : List Text) → ◌≡◌ {A = Option (List RawSort × List Text)} (Some (xs ++ [], us)) (Some (xs, us))
nothing_more xs us = ap (λ ys. Some (ys, us)) (append-nil xs)

-- ---- keys

more_sorts_is : (m : ℕ) (ts : List Text) → more_sorts_at m ts ≡ many_at (codes ")") sort_at (λ s ss. s ∷ ss) [] m ts
unfolding many_at
more_sorts_is zero ts = refl
more_sorts_is (suc m) [] = refl
more_sorts_is (suc m) (t ∷ ts) =
    same_turn (codes ")") sort_at (λ s ss. s ∷ ss) [] m (more_sorts_at m) ts (bytes_eq t (codes ")")) (bytes_eq t (codes ",")) (more_sorts_is m)

few_same : (n : ℕ) (p : Bool) → nat_le n 3 ≡ p → nat_le (suc n) 4 ≡ p
few_same n true e = le-leb (suc n) 4 (let h : n ≤ 3 = leb-true n 3 e in omega (arith, h))
few_same n false e = lt-leb (suc n) 4 (let h : 3 < n = leb-false n 3 e in omega (arith, h))

few_step : (s : RawSort) (o : Option (List RawSort × List Text)) → after o (λ ss rest. few_keys s ss rest) ≡ few_by (after o (λ ss rest. Some (s ∷ ss, rest)))
few_step s None = refl
few_step s (Some got) = ap (λ b. if b then Some (s ∷ got.0, got.1) else None) (sym (few_same (length got.0) (nat_le (length got.0) 3) refl))

few_from : (o : Option (RawSort × List Text)) →
    after o (λ s rest. after (more_sorts_at (length rest) rest) (λ ss rest. few_keys s ss rest))
    ≡ few_by (after o (λ s rest. after (many_at (codes ")") sort_at (λ s ss. s ∷ ss) [] (length rest) rest) (λ ss rest. Some (s ∷ ss, rest))))
few_from None = refl
few_from (Some got) = ap (λ o. after o (λ ss rest. few_keys got.0 ss rest)) (more_sorts_is (length got.1) got.1) ∙ few_step got.0 (many_at (codes ")") sort_at (λ s ss. s ∷ ss) [] (length got.1) got.1)

pub few_rule : (ts : List Text) → few_at ts ≡ few_keys_at ts
few_rule ts = few_from (sort_at ts)

pub gives_by : {A B : Type 0} (view : A → B) (result : Result A PartStop) (read other : Option B) → read ≡ other → Gives view result other → Gives view result read
gives_by view (Ok a) read other is gives = is ∙ gives
gives_by view (Err NotSpelled) read other is gives = is ∙ gives
gives_by view (Err Memory) read other is gives = tt
