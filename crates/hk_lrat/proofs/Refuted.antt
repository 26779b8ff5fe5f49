-- The computed answer to a log against what it means that the log refutes a list.
use Rattle.std.proofs.Common.{◌≡◌, ℕ, ◌+◌, Bool, true, false, List, [], ◌∷◌, ◌++◌, Option, Some, None, Result, Ok, Err, OnOk, IfErr, refl, sym, ◌∙◌, ap}
use Rattle.hk_cnf.specs.Clauses.{Clauses, IsUnsatisfiable}
use Rattle.hk_lrat.specs.declared.log.LratRow.{LratRow}
use Rattle.hk_lrat.specs.declared.log.RowReason.{RowReason}
use Rattle.hk_lrat.specs.declared.log.RefuteStop.{RefuteStop}
use Rattle.hk_lrat.specs.declared.log.RefuteStop.TheVariants.{Row, Memory}
use Rattle.hk_lrat.specs.Log.{State, start, row_fault, after_row, is_empty_addition, Fault, after_fault, fault_from, log_fault}
use Rattle.hk_lrat.specs.Refutes.{AreAccepted, RefutesFrom, Refutes, Answers, OnRow}
use Rattle.hk_lrat.proofs.Sound.{log_fault-sound}

refutes-from : (s : State) (n : ℕ) (rows : List LratRow) → fault_from s n rows ≡ None → RefutesFrom s rows
refutes-from s n [] e = absurd cc
refutes-from s n (row ∷ rows) e = pick (refutes-from (after_row s row) (n + 1) rows) (row_fault s row) refl (is_empty_addition row) refl e
  where
    pick : (fault_from (after_row s row) (n + 1) rows ≡ None → RefutesFrom (after_row s row) rows) → (o : Option RowReason) → row_fault s row ≡ o → (b : Bool) → is_empty_addition row ≡ b → after_fault o (n + 1) b (fault_from (after_row s row) (n + 1) rows) ≡ None → RefutesFrom s (row ∷ rows)
    pick go (Some r) o b is m = absurd cc
    pick go None o true is m = record { before = []; row = row; after = rows; parts = refl; accepted = (o, tt); empty = is }
    pick go None o false is m =
        let r : RefutesFrom (after_row s row) rows = go m in
        record { before = row ∷ r.before; row = r.row; after = r.after; parts = ap (λ x. row ∷ x) r.parts; accepted = (o, r.accepted); empty = r.empty }

no-fault : (s : State) (n : ℕ) (before : List LratRow) (row : LratRow) (after : List LratRow) → AreAccepted s (before ++ row ∷ []) → is_empty_addition row ≡ true → fault_from s n (before ++ row ∷ after) ≡ None
no-fault s n [] row after h e =
    ap (λ o. after_fault o (n + 1) (is_empty_addition row) (fault_from (after_row s row) (n + 1) after)) h.0
    ∙ ap (λ b. after_fault None (n + 1) b (fault_from (after_row s row) (n + 1) after)) e
no-fault s n (x ∷ before) row after h e =
    ap (λ o. after_fault o (n + 1) (is_empty_addition x) (fault_from (after_row s x) (n + 1) (before ++ row ∷ after))) h.0
    ∙ pick (is_empty_addition x) (no-fault (after_row s x) (n + 1) before row after h.1 e)
  where
    pick : (b : Bool) → fault_from (after_row s x) (n + 1) (before ++ row ∷ after) ≡ None → after_fault None (n + 1) b (fault_from (after_row s x) (n + 1) (before ++ row ∷ after)) ≡ None
    pick true m = refl
    pick false m = m

fault-none : (list : Clauses) (log : List LratRow) → Refutes list log → log_fault list log ≡ None
fault-none list log r = ap (log_fault list) r.parts ∙ no-fault (start list) 0 r.before r.row r.after r.accepted r.empty

apart : (f : Fault) → None ≡ Some f → ⊥
apart f e = cc

pub unsatisfiable : (list : Clauses) (log : List LratRow) (r : Result (Unit {0}) RefuteStop) → Answers r (log_fault list log) → OnOk r (IsUnsatisfiable list)
unsatisfiable list log (Ok done) h = log_fault-sound list log h
unsatisfiable list log (Err e) h = tt

pub refuted : (list : Clauses) (log : List LratRow) (r : Result (Unit {0}) RefuteStop) → Answers r (log_fault list log) → OnOk r (Refutes list log)
refuted list log (Ok done) h = refutes-from (start list) 0 log h
refuted list log (Err e) h = tt

pub not_refuted : (list : Clauses) (log : List LratRow) (r : Result (Unit {0}) RefuteStop) → Answers r (log_fault list log) → IfErr r (λ stop. OnRow stop (¬ (Refutes list log)))
not_refuted list log (Ok done) h = tt
not_refuted list log (Err (Row n reason)) h = λ r. apart (n, reason) (sym (fault-none list log r) ∙ h)
not_refuted list log (Err Memory) h = tt
