-- Circuits stay well formed as variables, clauses and gates are added and cut off.
use Rattle.std.proofs.Common.{◌≡◌, ℕ, ◌+◌, ◌-◌, ◌<◌, ◌≤◌, ◌^◌, Bool, List, [], ◌∷◌, ◌++◌, length, take, drop, get_or, ℤ, reverse, refl, sym, ◌∙◌, ap, subst, arith, min, length-take}
use Rattle.std.proofs.lemmas.List.{reverse-append, take-append-drop, take-take, drop-take, get_or-take}
use Rattle.std.proofs.lemmas.List.Elements.{All-nil, All-cons, All-take}
use Rattle.std.specs.List.{All, AllPairs}
use Rattle.hk_cnf.specs.declared.operation.Operation.{Operation}
use Rattle.hk_cnf.specs.Literal.{place_of}
use Rattle.hk_cnf.specs.Clauses.{Clauses, AreWithin}
use Rattle.hk_cnf.specs.Circuit.{Gate, Circuit, run, gate_value, operation_true, operation_clauses, variable, gate_clauses, clauses_end, AreOperands}
use Rattle.hk_cnf.specs.CircuitParts.{InOrder, HasClauses, IsCircuit, IsGateWithin}
use Rattle.hk_cnf.proofs.Running.{lit_true-same, with_value-other, Each, Each-All, Each-reverse, Each-forward, Each-below}
use Rattle.hk_cnf.proofs.CircuitLaws.{AreWithin-weaker, IsCircuit-with_gate}

pub All-Each : (P : Gate → Type 0) (gs : List Gate) → Each P gs → All P gs
All-Each P [] h = All-nil P
All-Each P (g ∷ gs) h = All-cons P g gs h.0 (All-Each P gs h.1)

-- each gate's literal is a literal
pub outputs-small : (c : Circuit) → IsCircuit c → All (λ g. g.1.output + 1 < 2 ^ 63) c.gates
outputs-small c h k d b =
    let below : g_below = All-Each (λ g. g.1.output < c.vars) c.gates (Each-forward (λ g. g.1.output < c.vars) c.gates (Each-below (reverse c.gates) c.vars c.vars h.in_order (omega arith))) in
    let at : (get_or c.gates k d).1.output < c.vars = below k d b in
    omega (arith, at, h.few)
  where
    g_below : Type 0
    g_below = All (λ g. g.1.output < c.vars) c.gates

pub InOrder-weaker : (gs : List Gate) (n m : ℕ) → InOrder n gs → n ≤ m → InOrder m gs
InOrder-weaker [] n m o h = tt
InOrder-weaker (g ∷ gs) n m o h = (omega (arith, o.0), o.1, o.2)

pub IsCircuit-fresh : (c : Circuit) → IsCircuit c → c.vars + 1 < 2 ^ 63 → IsCircuit (record c { vars = c.vars + 1 })
IsCircuit-fresh c h few = record {
  few = few;
  within = AreWithin-weaker c.vars (c.vars + 1) c.clauses (omega arith) h.within;
  in_order = InOrder-weaker (reverse c.gates) c.vars (c.vars + 1) h.in_order (omega arith);
  placed = h.placed;
  apart = h.apart;
}

-- the earlier gates alone
pub InOrder-rest : (fs gs : List Gate) (n : ℕ) → InOrder n (fs ++ gs) → InOrder n gs
InOrder-rest [] gs n o = o
InOrder-rest (f ∷ fs) gs n o = InOrder-weaker gs f.1.output n (InOrder-rest fs gs f.1.output o.2) (omega (arith, o.0))

InOrder-tight : (gs : List Gate) (n m : ℕ) → InOrder n gs → Each (λ g. g.1.output < m) gs → InOrder m gs
InOrder-tight [] n m o h = tt
InOrder-tight (g ∷ gs) n m o h = (h.0, o.1, o.2)

-- the newest gates in front of those that are kept
pub parts : (gs : List Gate) (n : ℕ) → reverse gs ≡ reverse (drop n gs) ++ reverse (take n gs)
parts gs n = ap reverse (sym (take-append-drop n gs)) ∙ reverse-append (take n gs) (drop n gs)

HasClauses-take : (cs : List (List ℤ)) (n : ℕ) (g : Gate) → HasClauses cs g → clauses_end g ≤ n → HasClauses (take n cs) g
HasClauses-take cs n g h e =
    let k : ℕ = g.1.clause in let m : ℕ = length (gate_clauses g) in
    let split : take n cs ≡ take (k + (n - k)) cs = ap (λ i. take i cs) (omega (arith, e)) in
    let rest : drop k (take n cs) ≡ take (n - k) (drop k cs) = ap (drop k) split ∙ drop-take k (n - k) cs in
    let short : take m (take (n - k) (drop k cs)) ≡ take m (drop k cs) = take-take-le m (n - k) (drop k cs) (omega (arith, e)) in
    record { there = ap (take m) rest ∙ (short ∙ h.there); inside = omega (arith, length-take n cs, h.inside, e) }
  where
    take-take-le : (i j : ℕ) (zs : List (List ℤ)) → i ≤ j → take i (take j zs) ≡ take i zs
    take-take-le i j zs h = grind (arith, take-take)

pairs-take : {A : Type 0} (R : A → A → Type 0) (n : ℕ) (xs : List A) → AllPairs R xs → AllPairs R (take n xs)
pairs-take R n xs h i j d b k =
    let m : length (take n xs) ≡ min n (length xs) = length-take n xs in
    let l : j < n = omega (arith, k, m) in
    let x : get_or (take n xs) i d ≡ get_or xs i d = get_or-take n xs i d (omega (arith, b, l)) in
    let y : get_or (take n xs) j d ≡ get_or xs j d = get_or-take n xs j d l in
    subst (λ z. R z (get_or (take n xs) j d)) (sym x) (subst (λ z. R (get_or xs i d) z) (sym y) (h i j d b (omega (arith, k, m))))

-- the first variables, clauses and gates
abbrev pub fronts : Circuit → ℕ → ℕ → ℕ → Circuit
fronts c v k n = record { vars = v; clauses = take k c.clauses; gates = take n c.gates }

pub IsCircuit-fronts : (c : Circuit) (v k n : ℕ) → IsCircuit c → v ≤ c.vars → AreWithin v (take k c.clauses) → All (IsGateWithin v) (take n c.gates) → All (λ g. clauses_end g ≤ k) (take n c.gates) → IsCircuit (fronts c v k n)
IsCircuit-fronts c v k n h le cs gs es =
    let rest : InOrder c.vars (reverse (take n c.gates)) = InOrder-rest (reverse (drop n c.gates)) (reverse (take n c.gates)) c.vars (subst (InOrder c.vars) (parts c.gates n) h.in_order) in
    let outputs : Each (λ g. g.1.output < v) (take n c.gates) = Each-All (λ g. g.1.output < v) (take n c.gates) (λ i d b. (gs i d b).output) in
    record {
      few = omega (arith, h.few, le);
      within = cs;
      in_order = InOrder-tight (reverse (take n c.gates)) c.vars v rest (Each-reverse (λ g. g.1.output < v) (take n c.gates) outputs);
      placed = λ i d b. HasClauses-take c.clauses k (get_or (take n c.gates) i d) (All-take (HasClauses c.clauses) n c.gates h.placed i d b) (es i d b);
      apart = pairs-take (λ f g. clauses_end f ≤ g.1.clause) n c.gates h.apart;
    }

-- gates that fix other variables leave a value
run-skip : (fs gs : List Gate) (v : ℕ → Bool) (p : ℕ) → Each (λ g. p < g.1.output) fs → run (fs ++ gs) v p ≡ run gs v p
run-skip [] gs v p h = refl
run-skip (f ∷ fs) gs v p h =
    with_value-other (run (fs ++ gs) v) f.1.output (operation_true (run (fs ++ gs) v) f.0) p (λ e. absurd (omega (arith, h.0, e)))
    ∙ run-skip fs gs v p h.1

-- the kept gates give the kept variables the values that all gates gave them
pub values-fronts : (c : Circuit) (v k n : ℕ) → All (λ g. v ≤ g.1.output) (drop n c.gates) → (l : ℤ) → place_of l < v → (w : ℕ → Bool) → gate_value (fronts c v k n) l w ≡ gate_value c l w
unfolding gate_value
values-fronts c v k n h l b w =
    let later : Each (λ g. place_of l < g.1.output) (drop n c.gates) = Each-All (λ g. place_of l < g.1.output) (drop n c.gates) (λ i d j. let x : v ≤ (get_or (drop n c.gates) i d).1.output = h i d j in omega (arith, x, b)) in
    lit_true-same (run (reverse (take n c.gates)) w) (run (reverse c.gates) w) l
    (sym (ap (λ gs. run gs w (place_of l)) (parts c.gates n) ∙ run-skip (reverse (drop n c.gates)) (reverse (take n c.gates)) w (place_of l) (Each-reverse (λ g. place_of l < g.1.output) (drop n c.gates) later)))

-- the same over the fields
pub IsCircuit-added : (old : Circuit) (op : Operation) (v : ℕ) (cs : List (List ℤ)) (gs : List Gate) → IsCircuit old → AreOperands old.vars op → old.vars + 1 < 2 ^ 63 → v ≡ old.vars + 1
    → cs ≡ old.clauses ++ operation_clauses (variable old.vars) op → gs ≡ old.gates ++ (op, record { output = old.vars; clause = length old.clauses }) ∷ [] → IsCircuit (record { vars = v; clauses = cs; gates = gs })
IsCircuit-added old op v cs gs h o few e f g =
    subst IsCircuit (λ i. record { vars = sym e i; clauses = sym f i; gates = sym g i }) (IsCircuit-with_gate old op h o few)

pub IsCircuit-widened : (old : Circuit) (v : ℕ) (list : Clauses) → IsCircuit old → old.vars + 1 < 2 ^ 63 → v ≡ old.vars → list ≡ record { vars = v + 1; clauses = old.clauses } → IsCircuit (record { vars = list.vars; clauses = list.clauses; gates = old.gates })
IsCircuit-widened old v list h few e f =
    let next : list ≡ record { vars = old.vars + 1; clauses = old.clauses } = f ∙ (λ i. record { vars = e i + 1; clauses = old.clauses }) in
    let with_gates : Clauses → Circuit = λ l. record { vars = l.vars; clauses = l.clauses; gates = old.gates } in
    subst IsCircuit (sym (ap with_gates next)) (IsCircuit-fresh old h few)
