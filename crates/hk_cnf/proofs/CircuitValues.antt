-- Assignments that satisfy the clauses of a circuit, and the values that its gates give.
use Rattle.std.proofs.Common.{◌≡◌, ℕ, zero, suc, ◌<◌, Bool, true, false, ◌&&◌, ◌||◌, List, [], ◌∷◌, length, take, drop, map, ℤ, pos, negsuc, reverse, refl, sym, ◌∙◌, ap, arith}
use Rattle.std.proofs.lemmas.Bool.{and_parts}
use Rattle.std.proofs.lemmas.List.{take-append-drop}
use Rattle.std.proofs.lemmas.List.FromFn.{get_or-map-range_with_len}
use Rattle.std.proofs.lemmas.List.Folds.{list_all-append}
use Rattle.std.specs.List.{list_all, range_with_len}
use Rattle.hk_cnf.specs.Literal.{value_at, place_of}
use Rattle.hk_cnf.specs.Clauses.{AreWithin, clause_value, clauses_value}
use Rattle.hk_cnf.specs.Circuit.{Gate, Circuit, lit_true, operation_true, run, gate_value, gate_clauses}
use Rattle.hk_cnf.specs.CircuitParts.{InOrder, HasClauses, IsCircuit}
use Rattle.hk_cnf.specs.CircuitGrowth.{clause_true, holds, values_of}
use Rattle.hk_cnf.proofs.Running.{lit_true-same, Each, Each-All, Each-reverse, Hold, run-Hold, run-local}
use Rattle.hk_cnf.proofs.CircuitLaws.{operation_clauses-say, agree-is, clauses_true-same}

pub value_at-lit_true : (a : List Bool) (l : ℤ) → value_at a l ≡ lit_true (values_of a) l
value_at-lit_true a (pos zero) = refl
value_at-lit_true a (pos (suc n)) = refl
value_at-lit_true a (negsuc n) = refl

clause_value-true : (a : List Bool) (c : List ℤ) → clause_value a c ≡ clause_true (values_of a) c
clause_value-true a [] = refl
clause_value-true a (l ∷ c) =
    let f : value_at a l ≡ lit_true (values_of a) l = value_at-lit_true a l in
    let g : clause_value a c ≡ clause_true (values_of a) c = clause_value-true a c in
    λ i. f i || g i

pub clauses_value-true : (a : List Bool) (cs : List (List ℤ)) → clauses_value a cs ≡ list_all (clause_true (values_of a)) cs
clauses_value-true a [] = refl
clauses_value-true a (c ∷ cs) =
    let f : clause_value a c ≡ clause_true (values_of a) c = clause_value-true a c in
    let g : clauses_value a cs ≡ list_all (clause_true (values_of a)) cs = clauses_value-true a cs in
    λ i. f i && g i

all-take : (p : List ℤ → Bool) (n : ℕ) (cs : List (List ℤ)) → list_all p cs ≡ true → list_all p (take n cs) ≡ true
all-take p n cs h = (and_parts (list_all p (take n cs)) (list_all p (drop n cs)) (sym (list_all-append p (take n cs) (drop n cs)) ∙ ap (list_all p) (take-append-drop n cs) ∙ h)).0

all-drop : (p : List ℤ → Bool) (n : ℕ) (cs : List (List ℤ)) → list_all p cs ≡ true → list_all p (drop n cs) ≡ true
all-drop p n cs h = (and_parts (list_all p (take n cs)) (list_all p (drop n cs)) (sym (list_all-append p (take n cs) (drop n cs)) ∙ ap (list_all p) (take-append-drop n cs) ∙ h)).1

-- values that satisfy the clauses make each gate hold
pub Hold-satisfied : (w : ℕ → Bool) (cs : List (List ℤ)) (gs : List Gate) (n : ℕ) → InOrder n gs → Each (HasClauses cs) gs → list_all (clause_true w) cs ≡ true → Hold w gs
Hold-satisfied w cs [] n o h s = tt
Hold-satisfied w cs (g ∷ gs) n o h s =
    let k : ℕ = length (gate_clauses g) in
    let there : list_all (clause_true w) (take k (drop g.1.clause cs)) ≡ true =
    all-take (clause_true w) k (drop g.1.clause cs) (all-drop (clause_true w) g.1.clause cs s) in
    let theirs : list_all (clause_true w) (gate_clauses g) ≡ true = sym (ap (list_all (clause_true w)) h.0.there) ∙ there in (
      agree-is (w g.1.output) (operation_true w g.0) (sym (operation_clauses-say w g.1.output g.1.output g.0 o.1) ∙ theirs),
      Hold-satisfied w cs gs g.1.output o.2 h.1 s,
    )

-- each literal has the value that a satisfying assignment gives it
pub gate_value-satisfied : (c : Circuit) (a : List Bool) → IsCircuit c → clauses_value a c.clauses ≡ true → (l : ℤ) → gate_value c l (values_of a) ≡ value_at a l
unfolding gate_value
gate_value-satisfied c a h s l =
    let w : ℕ → Bool = values_of a in
    let hold : Hold w (reverse c.gates) =
    Hold-satisfied w c.clauses (reverse c.gates) c.vars h.in_order (Each-reverse (HasClauses c.clauses) c.gates (Each-All (HasClauses c.clauses) c.gates h.placed)) (sym (clauses_value-true a c.clauses) ∙ s) in
    lit_true-same (run (reverse c.gates) w) w l (run-Hold (reverse c.gates) w c.vars h.in_order hold (place_of l)) ∙ sym (value_at-lit_true a l)

-- the values of the first variables as an assignment
abbrev pub listed : (ℕ → Bool) → ℕ → List Bool
listed f n = map f (range_with_len 0 n)

pub listed-at : (f : ℕ → Bool) (n p : ℕ) → p < n → values_of (listed f n) p ≡ f p
listed-at f n p h = get_or-map-range_with_len f 0 n p p false h (omega arith)

-- values of the variables that no gate fixes that satisfy the circuit give an assignment that does
pub listed-satisfies : (c : Circuit) (v : ℕ → Bool) → AreWithin c.vars c.clauses → holds c v ≡ true → clauses_value (listed (run (reverse c.gates) v) c.vars) c.clauses ≡ true
unfolding holds
listed-satisfies c v w h =
    let f : ℕ → Bool = run (reverse c.gates) v in
    clauses_value-true (listed f c.vars) c.clauses
    ∙ (clauses_true-same (values_of (listed f c.vars)) f c.vars c.clauses w (λ p b. listed-at f c.vars p b) ∙ h)

-- an assignment that satisfies the circuit, with any values for later variables
pub holds-satisfied : (c : Circuit) (a : List Bool) (v : ℕ → Bool) → IsCircuit c → clauses_value a c.clauses ≡ true → ((p : ℕ) → p < c.vars → v p ≡ values_of a p) → holds c v ≡ true
unfolding holds
holds-satisfied c a v h s e =
    let w : ℕ → Bool = values_of a in
    let satisfied : list_all (clause_true w) c.clauses ≡ true = sym (clauses_value-true a c.clauses) ∙ s in
    let hold : Hold w (reverse c.gates) =
    Hold-satisfied w c.clauses (reverse c.gates) c.vars h.in_order (Each-reverse (HasClauses c.clauses) c.gates (Each-All (HasClauses c.clauses) c.gates h.placed)) satisfied in
    clauses_true-same (run (reverse c.gates) v) w c.vars c.clauses h.within
    (λ p b. run-local (reverse c.gates) v w c.vars c.vars h.in_order (omega arith) e p b ∙ run-Hold (reverse c.gates) w c.vars h.in_order hold p)
    ∙ satisfied
