-- The clauses that stand beside those of the gates: gates add none, and one that is required stands behind the others.
use Rattle.std.proofs.Common.{◌≡◌, ◌⊎◌, inl, inr, ℕ, ◌+◌, ◌-◌, ◌<◌, ◌≤◌, Bool, true, false, ◌&&◌, List, [], ◌∷◌, ◌++◌, length, take, drop, get_or, ℤ, neg_ℤ, reverse, refl, sym, ◌∙◌, ap, subst, arith, append_assoc, length-append, add-one, Result, Ok, Err, OnOk, OnErr}
use Rattle.std.proofs.Math.Seq.{drop-append_seam, take-append-add}
use Rattle.std.proofs.lemmas.Bool.{cases_lt}
use Rattle.std.proofs.lemmas.List.{take-append-drop, take-append-le, drop-append-le, append-nil, take_all, length-drop, get_or-take, get_or-drop}
use Rattle.std.proofs.lemmas.List.Elements.{All-head, All-drop, All-weaker}
use Rattle.std.proofs.lemmas.List.Folds.{list_all-append}
use Rattle.std.specs.List.{All, list_all}
use Rattle.std.specs.declared.alloc.AllocError.{AllocError}
use Rattle.hk_cnf.specs.declared.operation.Operation.{Operation}
use Rattle.hk_cnf.specs.declared.operation.Operation.TheVariants.{True, And}
use Rattle.hk_cnf.specs.Literal.{IsWithin, place_of}
use Rattle.hk_cnf.specs.Clauses.{clause_value, clauses_value}
use Rattle.hk_cnf.specs.Circuit.{Gate, Circuit, lit_true, run, gate_value, variable, operation_clauses, gate_clauses, all_gate_clauses, clauses_end}
use Rattle.hk_cnf.specs.CircuitParts.{HasClauses, IsCircuit}
use Rattle.hk_cnf.specs.CircuitGrowth.{clause_true, clause_holds, holds, inputs_of}
use Rattle.hk_cnf.specs.Front.{IsFront}
use Rattle.hk_cnf.specs.Required.{required_from, required_of}
use Rattle.hk_cnf.proofs.Running.{place_of-variable, Each, Each-All}
use Rattle.hk_cnf.proofs.CircuitLaws.{front-append}
use Rattle.hk_cnf.proofs.Determination.{Mixes-required}
use Rattle.hk_cnf.proofs.OwnClauses.{Mixes-length, required-count}
use Rattle.hk_cnf.proofs.FrontLaws.{fresh-behind, IsFront-refl}

-- clauses and gates behind others add what stands beside the added gates' clauses
required-append : (cs es : List (List ℤ)) (gs hs : List Gate) (k : ℕ) → k ≤ length cs → Each (λ g. clauses_end g ≤ length cs) gs → Each (λ h. length cs ≤ h.1.clause) hs
    → required_from k (cs ++ es) (gs ++ hs) ≡ required_from k cs gs ++ required_from (length cs) (cs ++ es) hs
required-append cs es [] [] k l a b = drop-append-le k cs es l ∙ ap (λ x. drop k cs ++ x) (sym (drop-append_seam cs es))
required-append cs es [] (h ∷ hs) k l a b =
    let n : ℕ = length cs in
    let rest : List (List ℤ) = required_from (clauses_end h) (cs ++ es) hs in
    let many : h.1.clause - k ≡ length (drop k cs) + (h.1.clause - n) = omega (arith, length-drop k cs, l, b.0) in
    let front : take (h.1.clause - k) (drop k (cs ++ es)) ≡ drop k cs ++ take (h.1.clause - n) (drop n (cs ++ es)) =
    (λ i. take (many i) (drop-append-le k cs es l i)) ∙ (take-append-add (drop k cs) es (h.1.clause - n) ∙ ap (λ x. drop k cs ++ take (h.1.clause - n) x) (sym (drop-append_seam cs es))) in
    ap (λ x. x ++ rest) front ∙ append_assoc (drop k cs) (take (h.1.clause - n) (drop n (cs ++ es))) rest
required-append cs es (g ∷ gs) hs k l a b =
    let rest : List (List ℤ) = required_from (length cs) (cs ++ es) hs in
    let short : g.1.clause - k ≤ length (drop k cs) = omega (arith, length-drop k cs, a.0) in
    let front : take (g.1.clause - k) (drop k (cs ++ es)) ≡ take (g.1.clause - k) (drop k cs) =
    ap (take (g.1.clause - k)) (drop-append-le k cs es l) ∙ take-append-le (g.1.clause - k) (drop k cs) es short in
    (λ i. front i ++ required-append cs es gs hs (clauses_end g) a.0 a.1 b i)
    ∙ sym (append_assoc (take (g.1.clause - k) (drop k cs)) (required_from (clauses_end g) cs gs) rest)

-- the first clause of an operation speaks of its variable
output-below : (o n : ℕ) (op : Operation) → All (IsWithin n) (get_or (operation_clauses (variable o) op) 0 []) → o < n
output-below o n True h = let b : place_of (variable o) < n = (All-head (IsWithin n) (variable o) [] h).below in omega (arith, b, place_of-variable o)
output-below o n (And a c) h =
    let b : place_of (neg_ℤ (variable o)) < n = (All-head (IsWithin n) (neg_ℤ (variable o)) (a ∷ []) h).below in
    let e : place_of (neg_ℤ (variable o)) ≡ o = rw add-one refl in
    omega (arith, b, e)

some-clauses : (o : ℤ) (op : Operation) → 0 < length (operation_clauses o op)
some-clauses o True = omega arith
some-clauses o (And a b) = omega arith

-- a gate on a later variable has its clauses behind those of earlier variables
clause-behind : (cs ds : List (List ℤ)) (n : ℕ) (g : Gate) → take (length cs) ds ≡ cs → All (λ c. All (IsWithin n) c) cs → HasClauses ds g → n ≤ g.1.output → length cs ≤ g.1.clause
clause-behind cs ds n g front within has le = pick (cases_lt g.1.clause (length cs))
  where
    pick : (g.1.clause < length cs) ⊎ (length cs ≤ g.1.clause) → length cs ≤ g.1.clause
    pick (inr b) = b
    pick (inl b) =
        let k : ℕ = g.1.clause in
        let m : ℕ = length (gate_clauses g) in
        let own : get_or (gate_clauses g) 0 [] ≡ get_or ds (k + 0) [] =
        ap (λ x. get_or x 0 []) (sym has.there) ∙ (get_or-take m (drop k ds) 0 [] (some-clauses (variable g.1.output) g.0) ∙ get_or-drop k ds 0 []) in
        let old : get_or ds (k + 0) [] ≡ get_or cs k [] =
        ap (λ i. get_or ds i []) (zero-right k) ∙ (sym (get_or-take (length cs) ds k [] b) ∙ ap (λ x. get_or x k []) front) in
        let low : g.1.output < n = output-below g.1.output n g.0 (subst (All (IsWithin n)) (sym (own ∙ old)) (within k [] b)) in
        absurd (omega (arith, low, le))
      where
        zero-right : (i : ℕ) → i + 0 ≡ i
        zero-right i = omega arith

ends-inside : (c : Circuit) → IsCircuit c → Each (λ g. clauses_end g ≤ length c.clauses) c.gates
ends-inside c h =
    Each-All (λ g. clauses_end g ≤ length c.clauses) c.gates (All-weaker (HasClauses c.clauses) (λ g. clauses_end g ≤ length c.clauses) (λ g k. k.inside) c.gates h.placed)

pub required-front : (c d : Circuit) → IsCircuit c → IsCircuit d → IsFront c d → required_of d ≡ required_of c ++ required_from (length c.clauses) d.clauses (drop (length c.gates) d.gates)
unfolding required_of
required-front c d hc hd f =
    let es : List (List ℤ) = drop (length c.clauses) d.clauses in
    let hs : List Gate = drop (length c.gates) d.gates in
    let clauses : d.clauses ≡ c.clauses ++ es = sym (take-append-drop (length c.clauses) d.clauses) ∙ ap (λ x. x ++ es) f.clauses in
    let gates : d.gates ≡ c.gates ++ hs = sym (take-append-drop (length c.gates) d.gates) ∙ ap (λ x. x ++ hs) f.gates in
    let behind : All (λ h. length c.clauses ≤ h.1.clause) hs = λ i x b.
    clause-behind c.clauses d.clauses c.vars (get_or hs i x) f.clauses hc.within (All-drop (HasClauses d.clauses) (length c.gates) d.gates hd.placed i x b) (fresh-behind c d hd f i x b) in
    (λ i. required_from 0 (clauses i) (gates i))
    ∙ (required-append c.clauses es c.gates hs 0 (omega arith) (ends-inside c hc) (Each-All (λ h. length c.clauses ≤ h.1.clause) hs behind)
    ∙ ap (λ x. required_from 0 c.clauses c.gates ++ required_from (length c.clauses) x hs) (sym clauses))

no-more : {A : Type 0} (xs ys : List A) → length (xs ++ ys) ≡ length xs → ys ≡ []
no-more xs [] e = refl
no-more xs (y ∷ ys) e = absurd (omega (arith, e, length-append xs (y ∷ ys)))

-- as many required clauses as before are the same ones
pub required-kept : (c d : Circuit) → IsCircuit c → IsCircuit d → IsFront c d → (inputs_of d).required ≡ (inputs_of c).required → required_of d ≡ required_of c
required-kept c d hc hd f e =
    let more : List (List ℤ) = required_from (length c.clauses) d.clauses (drop (length c.gates) d.gates) in
    let is : required_of d ≡ required_of c ++ more = required-front c d hc hd f in
    let same : length (required_of c ++ more) ≡ length (required_of c) = ap length (sym is) ∙ (required-count d hd ∙ (e ∙ sym (required-count c hc))) in
    is ∙ (ap (λ x. required_of c ++ x) (no-more (required_of c) more same) ∙ append-nil (required_of c))

-- one more required clause
abbrev pub requiring : Circuit → List ℤ → Circuit
requiring c ls = record c { clauses = c.clauses ++ ls ∷ [] }

pub required-requiring : (c : Circuit) (ls : List ℤ) → IsCircuit c → required_of (requiring c ls) ≡ required_of c ++ ls ∷ []
unfolding required_of
required-requiring c ls h =
    ap (required_from 0 (c.clauses ++ ls ∷ [])) (sym (append-nil c.gates))
    ∙ (required-append c.clauses (ls ∷ []) c.gates [] 0 (omega arith) (ends-inside c h) tt
    ∙ ap (λ x. required_from 0 c.clauses c.gates ++ x) (drop-append_seam c.clauses (ls ∷ [])))

pub inputs-requiring : (c : Circuit) (ls : List ℤ) → IsCircuit c → inputs_of (requiring c ls) ≡ record { free = (inputs_of c).free; required = (inputs_of c).required + 1 }
unfolding inputs_of
inputs-requiring c ls h =
    let many : length c.clauses ≡ length (all_gate_clauses c.gates) + length (required_of c) = Mixes-length (all_gate_clauses c.gates) (required_of c) c.clauses (Mixes-required c h) in
    let one : length (c.clauses ++ ls ∷ []) - length (all_gate_clauses c.gates) ≡ length c.clauses - length (all_gate_clauses c.gates) + 1 = omega (arith, many, length-append c.clauses (ls ∷ [])) in
    λ i. record { free = c.vars - length c.gates; required = one i }

and-true : (x y : Bool) → (x && (y && true)) ≡ (x && y)
and-true true true = refl
and-true true false = refl
and-true false y = refl

pub holds-requiring : (c : Circuit) (ls : List ℤ) (v : ℕ → Bool) → holds (requiring c ls) v ≡ (holds c v && clause_holds c ls v)
unfolding holds gate_value
holds-requiring c ls v =
    let p : List ℤ → Bool = clause_true (run (reverse c.gates) v) in
    list_all-append p c.clauses (ls ∷ []) ∙ and-true (list_all p c.clauses) (p ls)

pub satisfied-requiring : (c : Circuit) (ls : List ℤ) (a : List Bool) → clauses_value a (requiring c ls).clauses ≡ (clauses_value a c.clauses && clause_value a ls)
satisfied-requiring c ls a = list_all-append (clause_value a) c.clauses (ls ∷ []) ∙ and-true (clauses_value a c.clauses) (clause_value a ls)

pub IsFront-requiring : (c : Circuit) (ls : List ℤ) → IsFront c (requiring c ls)
unfolding gate_value
IsFront-requiring c ls = record {
  vars = omega arith;
  values = λ l b v. refl;
  clauses = front-append c.clauses (ls ∷ []);
  gates = take_all (length c.gates) c.gates (omega arith);
}

pub required-fresh : (c : Circuit) → required_of (record c { vars = c.vars + 1 }) ≡ required_of c
unfolding required_of
required-fresh c = refl

-- the answer of a call that requires a clause
module _ {A : Type 0} (old new : Circuit) (ls : List ℤ) where
  pub front-required : (r : Result A AllocError) → OnOk r (new ≡ requiring old ls) → OnErr r (new ≡ old) → IsFront old new
  front-required (Ok x) e k = subst (IsFront old) (sym e) (IsFront-requiring old ls)
  front-required (Err x) e k = subst (IsFront old) (sym k) (IsFront-refl old)

  pub gates-required : (r : Result A AllocError) → OnOk r (new ≡ requiring old ls) → OnErr r (new ≡ old) → new.gates ≡ old.gates
  gates-required (Ok x) e k = ap (λ c. c.gates) e
  gates-required (Err x) e k = ap (λ c. c.gates) k

  pub vars-required : (r : Result A AllocError) → OnOk r (new ≡ requiring old ls) → OnErr r (new ≡ old) → new.vars ≡ old.vars
  vars-required (Ok x) e k = ap (λ c. c.vars) e
  vars-required (Err x) e k = ap (λ c. c.vars) k

-- values are those of the gates
pub values-same : (c d : Circuit) → d.gates ≡ c.gates → (l : ℤ) (v : ℕ → Bool) → gate_value d l v ≡ gate_value c l v
unfolding gate_value
values-same c d e l v = ap (λ gs. lit_true (run (reverse gs) v) l) e
