use Rattle.std.proofs.Common.{◌≡◌, ℕ, List, ℤ, [], arith, take, sym, ◌∙◌, ap, subst}
use Rattle.std.proofs.lemmas.List.{take-take}
use Rattle.hk_cdcl.specs.Path.{Path}
use Rattle.hk_cdcl.specs.Propagation.{HasSeen}
use Rattle.hk_cdcl.proofs.Running.{grown-all}
use Rattle.hk_solver_tests.proofs.propagation.watched.Goals as goal

-- after a cut
seen-cut : (fits : List ℤ → Type 0) (lits more : List ℤ) (n : ℕ) → more ≡ take n lits → fits (take n lits) → HasSeen fits more
seen-cut fits lits more n e h = record { front = n; seen = subst fits (sym (ap (take n) e ∙ take-take n n lits (omega arith))) h }

pub propagate-first-requires-clause-seen : goal.propagate-first-requires-clause-seen
propagate-first-requires-clause-seen c = record { front = 0; seen = c.in_ok-added.ensures.grown [] [] (λ lt. absurd (omega (arith, lt, c.new-watched.ensures))) (grown-all _) }

pub propagate-second-requires-clause-seen : goal.propagate-second-requires-clause-seen
propagate-second-requires-clause-seen c = seen-cut _ _ _ _ (ap (λ (p : Path). p.lits) c.cut.ensures) (c.cut-2.ensures _ _ c.propagate-first.ensures.seen)
