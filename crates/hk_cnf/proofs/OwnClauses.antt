-- What follows from the clauses of the gates alone, and from those that stand beside them.
use Rattle.std.proofs.Common.{◌≡◌, ℕ, ◌+◌, Bool, true, false, ◌&&◌, List, length, ℤ, reverse, refl, sym, ◌∙◌, ap, arith}
use Rattle.hk_cnf.specs.Literal.{value_at, place_of}
use Rattle.hk_cnf.specs.Clauses.{clause_value, clauses_value}
use Rattle.hk_cnf.specs.Circuit.{Circuit, operation_true, run, gate_value, all_gate_clauses, AreOperands}
use Rattle.hk_cnf.specs.CircuitParts.{IsCircuit}
use Rattle.hk_cnf.specs.CircuitGrowth.{inputs_of, values_of}
use Rattle.hk_cnf.specs.Determined.{Mixes}
use Rattle.hk_cnf.specs.Determined.Mixes.{none, left, right}
use Rattle.hk_cnf.specs.Required.{required_of}
use Rattle.hk_cnf.proofs.Running.{lit_true-same, Each, Each-reverse, Each-forward, Hold, run-Hold}
use Rattle.hk_cnf.proofs.CircuitValues.{value_at-lit_true, clauses_value-true}
use Rattle.hk_cnf.proofs.Determination.{operands-in_order, Hold-clauses, Mixes-required}

-- each literal has the value that an assignment gives it which satisfies the clauses of the gates
pub gate_value-own : (c : Circuit) (a : List Bool) → IsCircuit c → clauses_value a (all_gate_clauses c.gates) ≡ true → (l : ℤ) → gate_value c l (values_of a) ≡ value_at a l
unfolding gate_value
gate_value-own c a h s l =
    let w : ℕ → Bool = values_of a in
    let operands : Each (λ g. AreOperands g.1.output g.0) c.gates = Each-forward (λ g. AreOperands g.1.output g.0) c.gates (operands-in_order (reverse c.gates) c.vars h.in_order) in
    let hold : Hold w (reverse c.gates) =
    Each-reverse (λ g. w g.1.output ≡ operation_true w g.0) c.gates (Hold-clauses w c.gates operands (sym (clauses_value-true a (all_gate_clauses c.gates)) ∙ s)) in
    lit_true-same (run (reverse c.gates) w) w l (run-Hold (reverse c.gates) w c.vars h.in_order hold (place_of l)) ∙ sym (value_at-lit_true a l)

assoc : (x y z : Bool) → (x && (y && z)) ≡ ((x && y) && z)
assoc true y z = refl
assoc false y z = refl

past : (x y z : Bool) → (y && (x && z)) ≡ (x && (y && z))
past true y z = refl
past false true z = refl
past false false z = refl

-- a mixed list is satisfied where both are
pub Mixes-satisfied : (a : List Bool) (xs ys zs : List (List ℤ)) → Mixes xs ys zs → clauses_value a zs ≡ (clauses_value a xs && clauses_value a ys)
Mixes-satisfied a _ _ _ none = refl
Mixes-satisfied a _ _ _ (left {x = x} {xs = xs} {ys = ys} {zs = zs} m) =
    ap (λ b. clause_value a x && b) (Mixes-satisfied a xs ys zs m) ∙ assoc (clause_value a x) (clauses_value a xs) (clauses_value a ys)
Mixes-satisfied a _ _ _ (right {y = y} {xs = xs} {ys = ys} {zs = zs} m) =
    ap (λ b. clause_value a y && b) (Mixes-satisfied a xs ys zs m) ∙ past (clauses_value a xs) (clause_value a y) (clauses_value a ys)

pub Mixes-length : (xs ys zs : List (List ℤ)) → Mixes xs ys zs → length zs ≡ length xs + length ys
Mixes-length _ _ _ none = refl
Mixes-length _ _ _ (left {xs = xs} {ys = ys} {zs = zs} m) = omega (arith, Mixes-length xs ys zs m)
Mixes-length _ _ _ (right {xs = xs} {ys = ys} {zs = zs} m) = omega (arith, Mixes-length xs ys zs m)

-- clauses that stand beside those of the gates, as a count
pub Mixes-count : (c : Circuit) (required : List (List ℤ)) → Mixes (all_gate_clauses c.gates) required c.clauses → length required ≡ (inputs_of c).required
unfolding inputs_of
Mixes-count c required m = omega (arith, Mixes-length (all_gate_clauses c.gates) required c.clauses m)

pub required-count : (c : Circuit) → IsCircuit c → length (required_of c) ≡ (inputs_of c).required
required-count c h = Mixes-count c (required_of c) (Mixes-required c h)

pub required-satisfied : (c : Circuit) (a : List Bool) → IsCircuit c → clauses_value a c.clauses ≡ (clauses_value a (all_gate_clauses c.gates) && clauses_value a (required_of c))
required-satisfied c a h = Mixes-satisfied a (all_gate_clauses c.gates) (required_of c) c.clauses (Mixes-required c h)
