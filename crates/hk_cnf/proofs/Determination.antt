-- The clauses of the gates fix all variables but those that no gate fixes, and the other clauses stand beside them.
use Rattle.std.proofs.Common.{◌≡◌, ◌⊎◌, ℕ, suc, ◌+◌, ◌-◌, ◌<◌, ◌≤◌, Bool, true, false, ◌||◌, cond, eqb, List, [], ◌∷◌, ◌++◌, length, take, drop, ℤ, reverse, refl, sym, ◌∙◌, ap, subst, inl, inr, arith}
use Rattle.std.proofs.lemmas.Bool.{and_parts, and_from, or_parts, or_from, eq-eqb, ne_eqb, eqb-false, cases_lt, cases_eq}
use Rattle.std.proofs.lemmas.List.{reverse-append, take-append-drop, drop-drop}
use Rattle.std.proofs.lemmas.List.Folds.{list_all-append, list_any-append}
use Rattle.std.proofs.lemmas.List.FromFn.{length-map-range_with_len, fill_by_all}
use Rattle.std.proofs.lemmas.List.Elements.{All-head}
use Rattle.std.specs.List.{All, AllPairs, list_all}
use Rattle.hk_cnf.specs.Circuit.{Gate, Circuit, operation_true, run, gate_clauses, all_gate_clauses, clauses_end, AreOperands}
use Rattle.hk_cnf.specs.CircuitParts.{InOrder, HasClauses, IsCircuit}
use Rattle.hk_cnf.specs.CircuitGrowth.{clause_true, values_of}
use Rattle.hk_cnf.specs.Required.{required_from, required_of}
use Rattle.hk_cnf.specs.Determined.{is_output, Completes, IsDetermined, Mixes, IsMixed}
use Rattle.hk_cnf.specs.Determined.Mixes.{none, left, right}
use Rattle.hk_cnf.proofs.Running.{operation_true-same, with_value-other, run-later, Each, Each-All, Each-reverse, Each-forward, Hold, Hold-same, Hold-run, run-Hold}
use Rattle.hk_cnf.proofs.CircuitLaws.{operation_clauses-say, agree-is, agree-refl}
use Rattle.hk_cnf.proofs.CircuitValues.{clauses_value-true, listed, listed-at}

-- the operands of each gate are earlier variables
pub operands-in_order : (gs : List Gate) (n : ℕ) → InOrder n gs → Each (λ g. AreOperands g.1.output g.0) gs
operands-in_order [] n o = tt
operands-in_order (g ∷ gs) n o = (o.1, operands-in_order gs g.1.output o.2)

clauses-Hold : (w : ℕ → Bool) (gs : List Gate) → Each (λ g. AreOperands g.1.output g.0) gs → Hold w gs → list_all (clause_true w) (all_gate_clauses gs) ≡ true
clauses-Hold w [] o h = refl
clauses-Hold w (g ∷ gs) o h =
    list_all-append (clause_true w) (gate_clauses g) (all_gate_clauses gs)
    ∙ and_from (list_all (clause_true w) (gate_clauses g)) (list_all (clause_true w) (all_gate_clauses gs))
    (operation_clauses-say w g.1.output g.1.output g.0 o.0 ∙ agree-refl (w g.1.output) (operation_true w g.0) h.0)
    (clauses-Hold w gs o.1 h.1)

pub Hold-clauses : (w : ℕ → Bool) (gs : List Gate) → Each (λ g. AreOperands g.1.output g.0) gs → list_all (clause_true w) (all_gate_clauses gs) ≡ true → Hold w gs
Hold-clauses w [] o h = tt
Hold-clauses w (g ∷ gs) o h =
    let p : (list_all (clause_true w) (gate_clauses g) ≡ true) × (list_all (clause_true w) (all_gate_clauses gs) ≡ true) =
    and_parts (list_all (clause_true w) (gate_clauses g)) (list_all (clause_true w) (all_gate_clauses gs)) (sym (list_all-append (clause_true w) (gate_clauses g) (all_gate_clauses gs)) ∙ h) in
    (agree-is (w g.1.output) (operation_true w g.0) (sym (operation_clauses-say w g.1.output g.1.output g.0 o.0) ∙ p.0), Hold-clauses w gs o.1 p.1)

pub is_output-later : (gs : List Gate) (n p : ℕ) → InOrder n gs → n ≤ p → is_output gs p ≡ false
is_output-later [] n p o h = refl
is_output-later (g ∷ gs) n p o h =
    or_from (eqb p g.1.output) (is_output gs p) (ne_eqb p g.1.output (λ e. absurd (omega (arith, o.0, e)))) (is_output-later gs g.1.output p o.2 (omega (arith, o.0)))

-- values that agree where no gate fixes a variable agree after the gates
run-free : (gs : List Gate) (v w : ℕ → Bool) (n : ℕ) → InOrder n gs → ((p : ℕ) → p < n → is_output gs p ≡ false → v p ≡ w p) → (p : ℕ) → p < n → run gs v p ≡ run gs w p
run-free [] v w n o h p b = h p b refl
run-free (g ∷ gs) v w n o h p b =
    let earlier : (q : ℕ) → q < g.1.output → run gs v q ≡ run gs w q =
    run-free gs v w g.1.output o.2 (λ q k f. h q (omega (arith, o.0)) (or_from (eqb q g.1.output) (is_output gs q) (ne_eqb q g.1.output (λ e. absurd (omega (arith, k, e)))) f)) in
    let same : operation_true (run gs v) g.0 ≡ operation_true (run gs w) g.0 = operation_true-same (run gs v) (run gs w) g.1.output g.0 o.1 earlier in
    place earlier same (cases_eq p g.1.output) (cases_lt p g.1.output)
  where
    place : ((q : ℕ) → q < g.1.output → run gs v q ≡ run gs w q) → operation_true (run gs v) g.0 ≡ operation_true (run gs w) g.0
        → (p ≡ g.1.output) ⊎ (p ≡ g.1.output → ⊥) → (p < g.1.output) ⊎ (g.1.output ≤ p) → run (g ∷ gs) v p ≡ run (g ∷ gs) w p
    place earlier same (inl e) _ =
        ap (λ t. cond t (operation_true (run gs v) g.0) (run gs v p)) (eq-eqb p g.1.output e)
        ∙ (same ∙ sym (ap (λ t. cond t (operation_true (run gs w) g.0) (run gs w p)) (eq-eqb p g.1.output e)))
    place earlier same (inr k) (inl l) =
        with_value-other (run gs v) g.1.output (operation_true (run gs v) g.0) p k
        ∙ (earlier p l ∙ sym (with_value-other (run gs w) g.1.output (operation_true (run gs w) g.0) p k))
    place earlier same (inr k) (inr l) =
        with_value-other (run gs v) g.1.output (operation_true (run gs v) g.0) p k
        ∙ (run-later gs v g.1.output p o.2 l
        ∙ (h p b (or_from (eqb p g.1.output) (is_output gs p) (ne_eqb p g.1.output k) (is_output-later gs g.1.output p o.2 l))
        ∙ (sym (run-later gs w g.1.output p o.2 l) ∙ sym (with_value-other (run gs w) g.1.output (operation_true (run gs w) g.0) p k))))

or-swap : (x y : Bool) → (x || y) ≡ (y || x)
or-swap true true = refl
or-swap true false = refl
or-swap false true = refl
or-swap false false = refl

pub is_output-reverse : (gs : List Gate) (p : ℕ) → is_output (reverse gs) p ≡ is_output gs p
is_output-reverse [] p = refl
is_output-reverse (g ∷ gs) p =
    ap (λ x. is_output x p) (reverse-append (g ∷ []) gs)
    ∙ (list_any-append (λ f. eqb p f.1.output) (reverse gs) (g ∷ [])
    ∙ (or-swap (is_output (reverse gs) p) (eqb p g.1.output || false)
    ∙ (λ i. or-nil (eqb p g.1.output) i || is_output-reverse gs p i)))
  where
    or-nil : (x : Bool) → (x || false) ≡ x
    or-nil true = refl
    or-nil false = refl

-- a variable that no gate fixes has the value that was chosen
pub run-other : (gs : List Gate) (v : ℕ → Bool) (p : ℕ) → is_output gs p ≡ false → run gs v p ≡ v p
run-other [] v p e = refl
run-other (g ∷ gs) v p e =
    let parts : (eqb p g.1.output ≡ false) × (is_output gs p ≡ false) = or_parts (eqb p g.1.output) (is_output gs p) e in
    with_value-other (run gs v) g.1.output (operation_true (run gs v) g.0) p (eqb-false p g.1.output parts.0) ∙ run-other gs v p parts.1

pub IsDetermined-circuit : (c : Circuit) → IsCircuit c → IsDetermined c
IsDetermined-circuit c h = record { completion = λ v. listed (run (reverse c.gates) v) c.vars; completes = completes; only = only }
  where
    operands : Each (λ g. AreOperands g.1.output g.0) c.gates
    operands = Each-forward (λ g. AreOperands g.1.output g.0) c.gates (operands-in_order (reverse c.gates) c.vars h.in_order)

    completes : (v : ℕ → Bool) → Completes c v (listed (run (reverse c.gates) v) c.vars)
    completes v =
        let f : ℕ → Bool = run (reverse c.gates) v in
        let a : List Bool = listed f c.vars in
        let held : Hold (values_of a) (reverse c.gates) =
        Hold-same f (values_of a) (reverse c.gates) c.vars h.in_order (λ p b. sym (listed-at f c.vars p b)) (Hold-run (reverse c.gates) v c.vars h.in_order) in
        record {
          sized = length-map-range_with_len f 0 c.vars;
          chosen = λ p b e. listed-at f c.vars p b ∙ run-other (reverse c.gates) v p (is_output-reverse c.gates p ∙ e);
          satisfies = clauses_value-true a (all_gate_clauses c.gates) ∙ clauses-Hold (values_of a) c.gates operands (Each-forward (λ g. values_of a g.1.output ≡ operation_true (values_of a) g.0) c.gates held);
        }

    only : (v : ℕ → Bool) (a : List Bool) → Completes c v a → a ≡ listed (run (reverse c.gates) v) c.vars
    only v a k =
        let f : ℕ → Bool = run (reverse c.gates) v in
        let w : ℕ → Bool = values_of a in
        let held : Hold w (reverse c.gates) =
        Each-reverse (λ g. w g.1.output ≡ operation_true w g.0) c.gates (Hold-clauses w c.gates operands (sym (clauses_value-true a (all_gate_clauses c.gates)) ∙ k.satisfies)) in
        fill_by_all f a c.vars false k.sized (λ p b.
        sym (run-Hold (reverse c.gates) w c.vars h.in_order held p)
        ∙ run-free (reverse c.gates) w v c.vars h.in_order (λ q b e. k.chosen q b (sym (is_output-reverse c.gates q) ∙ e)) p b)

lefts : (xs : List (List ℤ)) {ls rs ws : List (List ℤ)} → Mixes ls rs ws → Mixes (xs ++ ls) rs (xs ++ ws)
lefts [] m = m
lefts (x ∷ xs) m = left (lefts xs m)

rights : (xs : List (List ℤ)) {ls rs ws : List (List ℤ)} → Mixes ls rs ws → Mixes ls (xs ++ rs) (xs ++ ws)
rights [] m = m
rights (x ∷ xs) m = right (rights xs m)

all_right : (xs : List (List ℤ)) → Mixes [] xs xs
all_right [] = none
all_right (x ∷ xs) = right (all_right xs)

-- the gates' clauses stand one behind another, from a place on
Rising : ℕ → List Gate → Type 0
Rising k [] = Unit {0}
Rising k (g ∷ gs) = (k ≤ g.1.clause) × Rising (clauses_end g) gs

rising : (gs : List Gate) (k : ℕ) → AllPairs (λ f g. clauses_end f ≤ g.1.clause) gs → All (λ g. k ≤ g.1.clause) gs → Rising k gs
unfolding Rising
rising [] k h a = tt
rising (g ∷ gs) k h a = (
  All-head (λ f. k ≤ f.1.clause) g gs a,
  rising gs (clauses_end g) (λ i j d l b. h (suc i) (suc j) d (omega arith) (omega arith)) (λ j d b. h 0 (suc j) d (omega arith) (omega arith)),
)

mixed : (cs : List (List ℤ)) (gs : List Gate) (k : ℕ) → Rising k gs → Each (HasClauses cs) gs → Mixes (all_gate_clauses gs) (required_from k cs gs) (drop k cs)
unfolding Rising
mixed cs [] k r h = all_right (drop k cs)
mixed cs (g ∷ gs) k r h =
    let c : ℕ = g.1.clause in let m : ℕ = length (gate_clauses g) in
    let rest : Mixes (all_gate_clauses gs) (required_from (c + m) cs gs) (drop (c + m) cs) = mixed cs gs (c + m) r.1 h.1 in
    let own : gate_clauses g ++ drop (c + m) cs ≡ drop c cs =
    (λ i. sym h.0.there i ++ sym (drop-drop m c cs) i) ∙ take-append-drop m (drop c cs) in
    let gap : take (c - k) (drop k cs) ++ drop c cs ≡ drop k cs =
    (λ i. take (c - k) (drop k cs) ++ (ap (λ n. drop n cs) (later r.0) ∙ sym (drop-drop (c - k) k cs)) i) ∙ take-append-drop (c - k) (drop k cs) in
    let joined : take (c - k) (drop k cs) ++ (gate_clauses g ++ drop (c + m) cs) ≡ drop k cs = ap (λ x. take (c - k) (drop k cs) ++ x) own ∙ gap in
    subst (Mixes (gate_clauses g ++ all_gate_clauses gs) (take (c - k) (drop k cs) ++ required_from (c + m) cs gs)) joined (rights (take (c - k) (drop k cs)) (lefts (gate_clauses g) rest))
  where
    later : k ≤ g.1.clause → g.1.clause ≡ k + (g.1.clause - k)
    later l = omega arith

pub Mixes-required : (c : Circuit) → IsCircuit c → Mixes (all_gate_clauses c.gates) (required_of c) c.clauses
unfolding required_of
Mixes-required c h = mixed c.clauses c.gates 0 (rising c.gates 0 h.apart (λ i d b. omega arith)) (Each-All (HasClauses c.clauses) c.gates h.placed)

pub IsMixed-circuit : (c : Circuit) → IsCircuit c → IsMixed c
IsMixed-circuit c h = record { required = required_of c; mixes = Mixes-required c h }
