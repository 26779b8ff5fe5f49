use Rattle.std.proofs.Common.{◌≡◌, ℕ, ◌&&◌, nat_eq, List, subst}
use Rattle.hk_term.specs.Meaning.{Reading}
use Rattle.hk_range.specs.Ranges.{Knows}
use Rattle.hk_range.specs.Linear.{left_of, right_of, numbers}
use Rattle.hk_range.specs.Answers.{IsFound}
use Rattle.hk_range.specs.declared.answers.Found.{Found}
use Rattle.hk_range.proofs.AnswerLaws.{if_ok_weaker, found_both, found_not}
use Rattle.hk_range.proofs.SplitLaws.{split_equal}
use Rattle.hk_range.proofs.zero.+solving.Goals as goal

pub solve_halves-returns-in-Solved-clause-found : goal.solve_halves-returns-in-Solved-clause-found
solve_halves-returns-in-Solved-clause-found t c =
    let nodes = c.args.t.now in
    let h = c.args.halves.now in
    let old = c.args.out.now.items in
    let mid = c.solve.new.out.items in
    let new = c.solve-in-Solved.new.out.items in
    let s = c.args.s.now in
    let P : Found → Type 0 = λ a. (v : Reading) → Knows nodes c.args.known.now v → IsFound (numbers nodes v) mid new (left_of (numbers nodes v) h.upper) (right_of (numbers nodes v) h.upper) a in
    let Q : Found → Type 0 = λ a. (v : Reading) → Knows nodes c.args.known.now v → IsFound (numbers nodes v) old new (left_of (numbers nodes v) s) (right_of (numbers nodes v) s) a in
    if_ok_weaker c.solve-in-Solved.result P Q
    (λ a g v k.
    let f : ℕ → ℕ = numbers nodes v in
    let whole : nat_eq (left_of f s) (right_of f s) ≡ (nat_eq (left_of f h.lower) (right_of f h.lower) && nat_eq (left_of f h.upper) (right_of f h.upper)) =
    split_equal h.factor (left_of f h.upper) (left_of f h.lower) (right_of f h.upper) (right_of f h.lower) (left_of f s) (right_of f s) (c.requires.split f) (c.requires.near v k).0 (c.requires.near v k).1 in
    found_both f old mid new (left_of f s) (right_of f s) (left_of f h.lower) (right_of f h.lower) (left_of f h.upper) (right_of f h.upper) a whole
    (subst (IsFound f old mid (left_of f h.lower) (right_of f h.lower)) c.in-Solved.is (c.in_ok-solve.ensures.found v k)) (g v k))
    c.solve-in-Solved.ensures.found

pub solve_halves-returns-in-Unequal-clause-found : goal.solve_halves-returns-in-Unequal-clause-found
solve_halves-returns-in-Unequal-clause-found t c = λ v k.
    let f : ℕ → ℕ = numbers c.args.t.now v in
    let h = c.args.halves.now in
    let s = c.args.s.now in
    let old = c.args.out.now.items in
    let mid = c.solve.new.out.items in
    let whole : nat_eq (left_of f s) (right_of f s) ≡ (nat_eq (left_of f h.lower) (right_of f h.lower) && nat_eq (left_of f h.upper) (right_of f h.upper)) =
    split_equal h.factor (left_of f h.upper) (left_of f h.lower) (right_of f h.upper) (right_of f h.lower) (left_of f s) (right_of f s) (c.requires.split f) (c.requires.near v k).0 (c.requires.near v k).1 in
    found_not f old mid (left_of f s) (right_of f s) (left_of f h.lower) (right_of f h.lower) (left_of f h.upper) (right_of f h.upper) whole
    (subst (IsFound f old mid (left_of f h.lower) (right_of f h.lower)) c.in-Unequal.is (c.in_ok-solve.ensures.found v k))
