-- What the answers of the solver say of the list.
use Rattle.std.proofs.Common.{◌≡◌, ◌^◌, ◌<◌, ◌≤◌, ◌+◌, ℕ, length, List, Option, Some, None, Result, Ok, Err, IfOk, refl, arith}
use Rattle.std.specs.declared.alloc.AllocError.{AllocError}
use Rattle.hk_cnf.specs.Clauses.{Clauses, IsUnsatisfiable}
use Rattle.hk_lrat.specs.declared.log.LratRow.{LratRow}
use Rattle.hk_lrat.specs.declared.log.RefuteStop.TheVariants.{Row}
use Rattle.hk_lrat.specs.Log.{Fault, log_fault}
use Rattle.hk_lrat.specs.Refutes.{Refutes}
use Rattle.hk_lrat.proofs.Refuted.{not_refuted}
use Rattle.hk_lrat.proofs.Sound.{log_fault-sound}
use Rattle.hk_cdcl.specs.declared.solver.SolveEnd.{SolveEnd}
use Rattle.hk_cdcl.specs.declared.solver.SolveEnd.TheVariants.{Sat, Unsat, Spent}
use Rattle.hk_cdcl.specs.Fresh.{IsSpent}
use Rattle.hk_cdcl.specs.Solved.{Satisfies}
use Rattle.hk_cdcl.specs.Ends.{IfSat, IfUnsat, IfSpent, IfLogged, Ends}
use Rattle.hk_cdcl.specs.Held.{Held, Follows}
use Rattle.hk_cdcl.proofs.Ternary.{spent-bound}

-- a log that refutes the list has no fault
refutes-accepted : (list : Clauses) (log : List LratRow) → Refutes list log → log_fault list log ≡ None
refutes-accepted list log r = pick (log_fault list log) refl
  where
    pick : (o : Option Fault) → log_fault list log ≡ o → log_fault list log ≡ None
    pick None e = e
    pick (Some f) e = absurd (not_refuted list log (Err (Row f.0 f.1)) e r)

pub end-sat : (old : Held) (budget : ℕ) (r : Result SolveEnd AllocError) → IfOk r (Ends old budget) → IfOk r (IfSat (Satisfies old.list))
end-sat old budget (Ok (Sat a)) h = h
end-sat old budget (Ok (Unsat log)) h = tt
end-sat old budget (Ok (Spent log)) h = tt
end-sat old budget (Err e) h = tt

pub end-unsat : (old : Held) (budget : ℕ) (r : Result SolveEnd AllocError) → IfOk r (Ends old budget) → IfOk r (IfUnsat (Refutes old.list))
end-unsat old budget (Ok (Sat a)) h = tt
end-unsat old budget (Ok (Unsat log)) h = h.0
end-unsat old budget (Ok (Spent log)) h = tt
end-unsat old budget (Err e) h = tt

pub end-sound : (old : Held) (budget : ℕ) (r : Result SolveEnd AllocError) → IfOk r (Ends old budget) → IfOk r (IfUnsat (λ log. log_fault old.list log ≡ None))
end-sound old budget (Ok (Sat a)) h = tt
end-sound old budget (Ok (Unsat log)) h = refutes-accepted old.list log h.0
end-sound old budget (Ok (Spent log)) h = tt
end-sound old budget (Err e) h = tt

pub end-unsatisfiable : (old : Held) (budget : ℕ) (r : Result SolveEnd AllocError) → IfOk r (Ends old budget) → IfOk r (IfUnsat (λ log. IsUnsatisfiable old.list))
end-unsatisfiable old budget (Ok (Sat a)) h = tt
end-unsatisfiable old budget (Ok (Unsat log)) h = log_fault-sound old.list log (refutes-accepted old.list log h.0)
end-unsatisfiable old budget (Ok (Spent log)) h = tt
end-unsatisfiable old budget (Err e) h = tt

pub end-spent : (old : Held) (budget : ℕ) (r : Result SolveEnd AllocError) → IfOk r (Ends old budget) → IfOk r (IfSpent (λ log. IsSpent old.list log budget))
end-spent old budget (Ok (Sat a)) h = tt
end-spent old budget (Ok (Unsat log)) h = tt
end-spent old budget (Ok (Spent log)) h = h.0.spent
end-spent old budget (Err e) h = tt

pub end-count : (old : Held) (budget : ℕ) (r : Result SolveEnd AllocError) → IfOk r (Ends old budget) → IfOk r (IfSpent (λ log. length log ≡ length old.log + budget))
end-count old budget (Ok (Sat a)) h = tt
end-count old budget (Ok (Unsat log)) h = tt
end-count old budget (Ok (Spent log)) h = h.0.count
end-count old budget (Err e) h = tt

pub end-earlier : (old : Held) (budget : ℕ) (r : Result SolveEnd AllocError) → IfOk r (Ends old budget) → IfOk r (IfLogged (Follows old.log))
end-earlier old budget (Ok (Sat a)) h = tt
end-earlier old budget (Ok (Unsat log)) h = h.1
end-earlier old budget (Ok (Spent log)) h = h.1
end-earlier old budget (Err e) h = tt

pub end-decided : (old : Held) (budget : ℕ) (r : Result SolveEnd AllocError) → IfOk r (Ends old budget) → 3 ^ old.list.vars < budget → IfOk r (IfSpent (λ log. ⊥))
end-decided old budget (Ok (Sat a)) h lt = tt
end-decided old budget (Ok (Unsat log)) h lt = tt
end-decided old budget (Ok (Spent log)) h lt = let b : budget ≤ 3 ^ old.list.vars = spent-bound old.list log budget h.0.spent in omega (arith, b, lt)
end-decided old budget (Err e) h lt = tt
