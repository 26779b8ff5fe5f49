-- What a solver keeps through rounds.
use Rattle.std.proofs.Common.{◌≡◌, ℕ, ◌+◌, ◌-◌, ◌≤◌, ◌++◌, length, take, drop, ◌∷◌, [], Result, Ok, Err, IfOk, refl, sym, ◌∙◌, ap, subst, arith, length-append}
use Rattle.std.proofs.lemmas.List.{length-take-le}
use Rattle.std.specs.declared.alloc.AllocError.{AllocError}
use Rattle.hk_cnf.specs.Clauses.{Clauses}
use Rattle.hk_lrat.specs.Log.{start}
use Rattle.hk_lrat.specs.Raised.{raised, IsLonger}
use Rattle.hk_lrat.specs.declared.log.LratRow.{LratRow}
use Rattle.hk_lrat.specs.Refutes.{AreAccepted, Refutes}
use Rattle.hk_cdcl.specs.declared.search.Search.{Search}
use Rattle.hk_cdcl.specs.declared.solver.Solver.TheInside.{Inside}
use Rattle.hk_cdcl.specs.declared.search.Found.{Found}
use Rattle.hk_cdcl.specs.declared.search.Found.TheVariants.{Sat, Unsat, Spent}
use Rattle.hk_cdcl.specs.Ends.{Came}
use Rattle.hk_cdcl.specs.Forgetting.{Learns, Called}
use Rattle.hk_cdcl.specs.Rounds.{given_of, held_of, IsSolver}
use Rattle.hk_cdcl.specs.Searching.{IsLogged}
use Rattle.hk_cdcl.specs.States.{Closes}
use Rattle.hk_cdcl.proofs.Running.{spent-since}
use Rattle.hk_cdcl.proofs.Logging.{logged-count, logged-refutes}
use Rattle.hk_cdcl.proofs.Growing.{take-front, logged-raised}
use Rattle.hk_cdcl.proofs.Segmenting.{front-learns, longer-learns}

given-length : (s : Inside) → IsSolver s → length (given_of s).clauses ≡ s.given
given-length s h = length-take-le s.given s.search.clauses.clauses h.inside

pub held-count : (s : Inside) → IsSolver s → s.given + length s.search.log ≡ length s.search.clauses.clauses
held-count s h =
    let e : length (given_of s).clauses + length s.search.log ≡ length s.search.clauses.clauses = logged-count (given_of s) s.search.clauses s.search.log h.logged in
    let n : length (given_of s).clauses ≡ s.given = given-length s h in
    omega (arith, e, n)

pub grown-list : (s t : Inside) (list : Clauses) → t.given ≡ length list.clauses → t.search.clauses ≡ record { vars = list.vars; clauses = list.clauses ++ drop s.given s.search.clauses.clauses } → given_of t ≡ list
grown-list s t list en ec =
    ap (λ (k : Clauses). record { vars = k.vars; clauses = take t.given k.clauses }) ec
    ∙ ap (λ cs. record { vars = list.vars; clauses = cs }) (ap (λ i. take i (list.clauses ++ drop s.given s.search.clauses.clauses)) en ∙ take-front list.clauses (drop s.given s.search.clauses.clauses))

pub grown-solver : (s t : Inside) (list : Clauses) → IsSolver s → t.given ≡ length list.clauses → IsLonger (given_of s) list (length list.clauses - length (given_of s).clauses) → t.search.clauses ≡ record { vars = list.vars; clauses = list.clauses ++ drop s.given s.search.clauses.clauses } → t.search.log ≡ raised s.given (length list.clauses - s.given) s.search.log → IsSolver t
grown-solver s t list h en l ec el =
    record {
      inside = let e : length t.search.clauses.clauses ≡ length list.clauses + length (drop s.given s.search.clauses.clauses) = ap (λ (k : Clauses). length k.clauses) ec ∙ length-append list.clauses (drop s.given s.search.clauses.clauses) in omega (arith, e, en);
      logged =
          subst (λ k. IsLogged k t.search.clauses t.search.log) (sym (grown-list s t list en ec))
          (subst (IsLogged list t.search.clauses) (sym (el ∙ ap (λ k. raised k (length list.clauses - k) s.search.log) (sym (given-length s h))))
          (logged-raised (given_of s) s.search.clauses list t.search.clauses s.search.log h.logged l (ec ∙ ap (λ k. record { vars = list.vars; clauses = list.clauses ++ drop k s.search.clauses.clauses }) (sym (given-length s h)))));
    }

-- a call leaves the given list
pub ran-list : (s t : Inside) → IsSolver s → t.given ≡ s.given → Learns s.search t.search → given_of t ≡ given_of s
ran-list s t h e g = ap (λ n. record { vars = t.search.clauses.vars; clauses = take n t.search.clauses.clauses }) e ∙ front-learns s.given s.search t.search h.inside g

pub ran-solver : (s t : Inside) → IsSolver s → t.given ≡ s.given → Learns s.search t.search → IsSolver t
ran-solver s t h e g =
    record {
      inside = let n : length s.search.clauses.clauses ≤ length t.search.clauses.clauses = longer-learns s.search t.search g in let b : s.given ≤ length s.search.clauses.clauses = h.inside in omega (arith, e, n, b);
      logged = subst (λ k. IsLogged k t.search.clauses t.search.log) (sym (ran-list s t h e g)) (g.logged (given_of s) h.logged);
    }

pub ran-accepted : (s t : Inside) → IsSolver s → t.given ≡ s.given → Learns s.search t.search → AreAccepted (start (given_of t)) t.search.log
ran-accepted s t h e g = (ran-solver s t h e g).logged.accepted

closes-refutes : (list : Clauses) (s : Search) (row : LratRow) → IsLogged list s.clauses s.log → Closes s row → Refutes list (s.log ++ row ∷ [])
closes-refutes list s row h k = subst (λ r. Refutes list (s.log ++ r ∷ [])) (sym k.is) (logged-refutes list s.clauses s.log (length s.clauses.clauses + 1) k.hints h refl k.derived)

pub ran-came : (s t : Inside) (budget : ℕ) (r : Result Found AllocError) → IsSolver s → Learns s.search t.search → IfOk r (Called s.given budget s.search t.search) → IfOk r (Came (held_of s) (held_of t) budget)
ran-came s t budget (Ok (Sat a)) h g k = k
ran-came s t budget (Ok (Unsat row)) h g k = closes-refutes (given_of s) t.search row (g.logged (given_of s) h.logged) k
ran-came s t budget (Ok Spent) h g k = spent-since (given_of s) s.search t.search budget h.logged k.0 k.1
ran-came s t budget (Err e) h g k = tt
