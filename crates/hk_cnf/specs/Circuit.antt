-- Circuits: clauses over variables, some of which are fixed by gates. The clauses of an AND are those of Tseitin.
use Rattle.std.specs.Prelude.{ℕ, zero, suc, ◌+◌, Bool, true, false, not, ◌&&◌, if◌then◌else◌, nat_eq, List, [], ◌∷◌, ◌++◌, length, ℤ, pos, negsuc, neg_ℤ, Option, None, Some, int_lt, option_map, reverse}
use Rattle.std.specs.List.{flat_map}
use Rattle.std.specs.Map.{lookup}
use Rattle.std.specs.Ordering.{int_eq}
use Rattle.hk_cnf.specs.declared.operation.Operation.{Operation}
use Rattle.hk_cnf.specs.declared.operation.Operation.TheVariants.{True, And}
use Rattle.hk_cnf.specs.declared.operation.Placed.{Placed}
use Rattle.hk_cnf.specs.Literal.{IsWithin}

-- what a gate computes, the place of the variable that it fixes, and the place of its first clause
abbrev pub Gate : Type 0
Gate = Operation × Placed

pub record Circuit : Type 0 where
  pub vars : ℕ
  pub clauses : List (List ℤ)
  pub gates : List Gate

-- what truth values for the variables, by their places, make of a literal
abbrev pub lit_true : (ℕ → Bool) → ℤ → Bool
lit_true v (pos zero) = false
lit_true v (pos (suc n)) = v n
lit_true v (negsuc n) = not (v n)

-- what they make of an operation
abbrev pub operation_true : (ℕ → Bool) → Operation → Bool
operation_true v True = true
operation_true v (And a b) = lit_true v a && lit_true v b

abbrev pub with_value : (ℕ → Bool) → ℕ → Bool → ℕ → Bool
with_value v n b k = if nat_eq k n then b else v k

-- the values of all variables once the gates are computed; the newest gate stands first
abbrev pub run : List Gate → (ℕ → Bool) → ℕ → Bool
run [] v = v
run (g ∷ gs) v = with_value (run gs v) g.1.output (operation_true (run gs v) g.0)

-- the value of a literal, where the variables that no gate fixes have these values
unfoldable pub gate_value : Circuit → ℤ → (ℕ → Bool) → Bool
gate_value c l v = lit_true (run (reverse c.gates) v) l

-- the literal of the variable at this place
abbrev pub variable : ℕ → ℤ
variable n = pos (n + 1)

-- the clauses that make this literal the operation's value
abbrev pub operation_clauses : ℤ → Operation → List (List ℤ)
operation_clauses o True = (o ∷ []) ∷ []
operation_clauses o (And a b) = (neg_ℤ o ∷ a ∷ []) ∷ (neg_ℤ o ∷ b ∷ []) ∷ (o ∷ neg_ℤ a ∷ neg_ℤ b ∷ []) ∷ []

abbrev pub gate_clauses : Gate → List (List ℤ)
gate_clauses g = operation_clauses (variable g.1.output) g.0

-- the clauses of all gates
abbrev pub all_gate_clauses : List Gate → List (List ℤ)
all_gate_clauses gs = flat_map gate_clauses gs

-- the place behind the last clause of a gate
abbrev pub clauses_end : Gate → ℕ
clauses_end g = g.1.clause + length (gate_clauses g)

-- the circuit with one more gate at its end, on a new variable
abbrev pub with_gate : Circuit → Operation → Circuit
with_gate c op = record {
  vars = c.vars + 1;
  clauses = c.clauses ++ operation_clauses (variable c.vars) op;
  gates = c.gates ++ (op, record { output = c.vars; clause = length c.clauses }) ∷ [];
}

-- the literals of an operation are of these variables
abbrev pub AreOperands : ℕ → Operation → Type 0
AreOperands vars True = Unit {0}
AreOperands vars (And a b) = IsWithin vars a × IsWithin vars b

abbrev pub same_operation : Operation → Operation → Bool
same_operation True True = true
same_operation True (And c d) = false
same_operation (And a b) True = false
same_operation (And a b) (And c d) = int_eq a c && int_eq b d

-- the literal of the gate that computes this operation already
abbrev pub literal_of : List Gate → Operation → Option ℤ
literal_of gs op = option_map (λ p. variable p.output) (lookup (same_operation op) gs)

-- the literal that is true, where the circuit has one
abbrev pub truth_of : List Gate → Option ℤ
truth_of gs = literal_of gs True

-- the same, once a gate with this literal is added for the operation
abbrev pub truth_with : Option ℤ → Operation → ℤ → Option ℤ
truth_with truth True l = Some l
truth_with truth (And a b) l = truth

-- a literal, and the circuit that has it
pub record Made : Type 0 where
  pub literal : ℤ
  pub circuit : Circuit

-- what is there is taken, and else a gate is added
abbrev pub made_at : Circuit → Operation → Option ℤ → Made
made_at c op (Some l) = record { literal = l; circuit = c }
made_at c op None = record { literal = variable c.vars; circuit = with_gate c op }

-- the literal of an operation: each operation has one gate
abbrev pub made : Circuit → Operation → Made
made c op = made_at c op (literal_of c.gates op)

-- the operands of an AND in one order
abbrev pub and_of : ℤ → ℤ → Operation
and_of a b = if int_lt b a then And b a else And a b

-- the conjunction of two literals where it needs no gate: they are equal, or one is a constant, or they are each other's negation
abbrev pub simple_with : ℤ → ℤ → ℤ → Option ℤ
simple_with top a b =
    if int_eq a top then Some b else (if int_eq b top then Some a else (if int_eq a (neg_ℤ b) then Some (neg_ℤ top) else
    (if int_eq a (neg_ℤ top) then Some a else (if int_eq b (neg_ℤ top) then Some b else None))))

abbrev pub simple_by : Option ℤ → ℤ → ℤ → Option ℤ
simple_by None a b = None
simple_by (Some top) a b = simple_with top a b

abbrev pub simple : Option ℤ → ℤ → ℤ → Option ℤ
simple truth a b = if int_eq a b then Some a else simple_by truth a b

abbrev pub conjoined_at : Circuit → ℤ → ℤ → Option ℤ → Made
conjoined_at c a b (Some l) = record { literal = l; circuit = c }
conjoined_at c a b None = made c (and_of a b)

-- the conjunction of two literals
abbrev pub conjoined : Circuit → ℤ → ℤ → Made
conjoined c a b = conjoined_at c a b (simple (truth_of c.gates) a b)
