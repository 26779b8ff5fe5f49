-- What gates at the end of a circuit leave and give.
use Rattle.std.proofs.Common.{◌≡◌, ℕ, zero, suc, ◌+◌, ◌-◌, ◌<◌, ◌≤◌, ◌^◌, Bool, true, false, not, ◌&&◌, ◌||◌, List, [], ◌∷◌, ◌++◌, length, take, drop, ℤ, pos, negsuc, neg_ℤ, reverse, refl, sym, ◌∙◌, ap, subst, arith, add-one, length-append, take-take}
use Rattle.std.proofs.lemmas.List.{reverse-append, take-append-le, drop-append-le, take_all, drop_at, append-nil, length-drop, length-take}
use Rattle.std.proofs.lemmas.List.Folds.{list_all-append}
use Rattle.std.proofs.lemmas.List.Concat.{flat_map-append}
use Rattle.std.proofs.lemmas.List.Elements.{All-nil, All-cons, All-head, All-tail, All-push, All-weaker, All-append}
use Rattle.std.proofs.lemmas.List.Quantifiers.{all_pairs_push}
use Rattle.std.specs.List.{All, list_all}
use Rattle.hk_cnf.specs.declared.operation.Operation.{Operation}
use Rattle.hk_cnf.specs.declared.operation.Operation.TheVariants.{True, And}
use Rattle.hk_cnf.specs.Literal.{IsWithin, place_of}
use Rattle.hk_cnf.specs.Clauses.{AreWithin}
use Rattle.hk_cnf.specs.Circuit.{Gate, Circuit, lit_true, operation_true, run, gate_value, variable, operation_clauses, gate_clauses, all_gate_clauses, clauses_end, with_gate, AreOperands}
use Rattle.hk_cnf.specs.CircuitParts.{InOrder, HasClauses, IsCircuit}
use Rattle.hk_cnf.specs.CircuitGrowth.{clause_true, holds, inputs_of, IsGrown}
use Rattle.hk_cnf.proofs.Running.{lit_true-same, lit_true-variable, lit_true-neg, operation_true-same, with_value-same, with_value-other}

pub IsGrown-refl : (c : Circuit) → IsGrown c c
unfolding holds
IsGrown-refl c = record {
  vars = omega arith;
  values = λ l h v. refl;
  clauses = take_all (length c.clauses) c.clauses (omega arith);
  gates = take_all (length c.gates) c.gates (omega arith);
  holds_as = λ v. refl;
}

-- a shorter front of a front
front-trans : {A : Type 0} (xs ys zs : List A) → take (length xs) ys ≡ xs → take (length ys) zs ≡ ys → take (length xs) zs ≡ xs
front-trans {A} xs ys zs e f =
    let n : length (take (length xs) ys) ≡ length xs = ap length e in
    let short : length xs ≤ length ys = shorter xs ys e in
    sym (take-take-le (length xs) (length ys) zs short) ∙ ap (take (length xs)) f ∙ e
  where
    shorter : (xs ys : List A) → take (length xs) ys ≡ xs → length xs ≤ length ys
    shorter xs ys e = let n : length (take (length xs) ys) ≡ length xs = ap length e in grind (arith, length-take)

    take-take-le : (i j : ℕ) (zs : List A) → i ≤ j → take i (take j zs) ≡ take i zs
    take-take-le i j zs h = grind (arith, take-take)

pub IsGrown-trans : (a b c : Circuit) → IsGrown a b → IsGrown b c → IsGrown a c
IsGrown-trans a b c g h = record {
  vars = omega (arith, g.vars, h.vars);
  values = λ l k v. h.values l (omega (arith, k, g.vars)) v ∙ g.values l k v;
  clauses = front-trans a.clauses b.clauses c.clauses g.clauses h.clauses;
  gates = front-trans a.gates b.gates c.gates g.gates h.gates;
  holds_as = λ v. h.holds_as v ∙ g.holds_as v;
}

-- the gates, newest first
newest : (c : Circuit) (op : Operation) → reverse (with_gate c op).gates ≡ (op, record { output = c.vars; clause = length c.clauses }) ∷ reverse c.gates
newest c op = reverse-append c.gates ((op, record { output = c.vars; clause = length c.clauses }) ∷ [])

pub front-append : {A : Type 0} (xs ys : List A) → take (length xs) (xs ++ ys) ≡ xs
front-append xs ys = take-append-le (length xs) xs ys (omega arith) ∙ take_all (length xs) xs (omega arith)

pub IsWithin-weaker : (n m : ℕ) (l : ℤ) → n ≤ m → IsWithin n l → IsWithin m l
IsWithin-weaker n m l h w = record { literal = w.literal; below = omega (arith, w.below) }

pub IsWithin-neg : (n : ℕ) (l : ℤ) → IsWithin n l → IsWithin n (neg_ℤ l)
IsWithin-neg n (pos zero) w = absurd (w.literal.nonzero refl)
IsWithin-neg n (pos (suc k)) w = record { literal = record { nonzero = λ e. cc; small = w.literal.small }; below = w.below }
IsWithin-neg n (negsuc k) w = record { literal = record { nonzero = λ e. cc; small = w.literal.small }; below = w.below }

pub IsWithin-variable : (n m : ℕ) → n < m → m < 2 ^ 63 → IsWithin m (variable n)
IsWithin-variable n m h few = rw add-one (record { literal = record { nonzero = λ e. cc; small = omega (arith, few, h) }; below = h })

pub clause_true-same : (v w : ℕ → Bool) (n : ℕ) (c : List ℤ) → All (IsWithin n) c → ((p : ℕ) → p < n → v p ≡ w p) → clause_true v c ≡ clause_true w c
clause_true-same v w n [] h e = refl
clause_true-same v w n (l ∷ c) h e =
    let i : IsWithin n l = All-head (IsWithin n) l c h in
    let f : lit_true v l ≡ lit_true w l = lit_true-same v w l (e (place_of l) i.below) in
    let g : clause_true v c ≡ clause_true w c = clause_true-same v w n c (All-tail (IsWithin n) l c h) e in
    λ j. f j || g j

pub clauses_true-same : (v w : ℕ → Bool) (n : ℕ) (cs : List (List ℤ)) → AreWithin n cs → ((p : ℕ) → p < n → v p ≡ w p) → list_all (clause_true v) cs ≡ list_all (clause_true w) cs
clauses_true-same v w n [] h e = refl
clauses_true-same v w n (c ∷ cs) h e =
    let f : clause_true v c ≡ clause_true w c = clause_true-same v w n c (All-head (λ d. All (IsWithin n) d) c cs h) e in
    let g : list_all (clause_true v) cs ≡ list_all (clause_true w) cs = clauses_true-same v w n cs (All-tail (λ d. All (IsWithin n) d) c cs h) e in
    λ j. f j && g j

-- two truth values are equal
abbrev pub agree : Bool → Bool → Bool
agree true y = y
agree false y = not y

pub agree-is : (x y : Bool) → agree x y ≡ true → x ≡ y
agree-is true y h = sym h
agree-is false true h = h
agree-is false false h = refl

pub agree-refl : (x y : Bool) → x ≡ y → agree x y ≡ true
agree-refl true y h = sym h
agree-refl false y h = ap not (sym h)

three : (x a b : Bool) → ((not x || (a || false)) && ((not x || (b || false)) && ((x || (not a || (not b || false))) && true))) ≡ agree x (a && b)
three true true true = refl
three true true false = refl
three true false true = refl
three true false false = refl
three false true true = refl
three false true false = refl
three false false true = refl
three false false false = refl

one : (x : Bool) → ((x || false) && true) ≡ agree x true
one true = refl
one false = refl

-- the clauses of an operation say that the literal has its value
pub operation_clauses-say : (w : ℕ → Bool) (n o : ℕ) (op : Operation) → AreOperands n op → list_all (clause_true w) (operation_clauses (variable o) op) ≡ agree (w o) (operation_true w op)
operation_clauses-say w n o True h = ap (λ x. (x || false) && true) (lit_true-variable w o) ∙ one (w o)
operation_clauses-say w n o (And a b) h =
    let x : lit_true w (variable o) ≡ w o = lit_true-variable w o in
    let nx : lit_true w (neg_ℤ (variable o)) ≡ not (w o) = rw add-one refl in
    let na : lit_true w (neg_ℤ a) ≡ not (lit_true w a) = lit_true-neg w a h.0.literal.nonzero in
    let nb : lit_true w (neg_ℤ b) ≡ not (lit_true w b) = lit_true-neg w b h.1.literal.nonzero in
    let p : list_all (clause_true w) (operation_clauses (variable o) (And a b))
    ≡ ((not (w o) || (lit_true w a || false)) && ((not (w o) || (lit_true w b || false)) && ((w o || (not (lit_true w a) || (not (lit_true w b) || false))) && true))) =
    λ i. (nx i || (lit_true w a || false)) && ((nx i || (lit_true w b || false)) && ((x i || (na i || (nb i || false))) && true)) in
    p ∙ three (w o) (lit_true w a) (lit_true w b)

and-true : (x y : Bool) → y ≡ true → (x && y) ≡ x
and-true true y h = h
and-true false y h = refl

-- one more gate: its variable has the operation's value, and earlier variables keep theirs
module _ (c : Circuit) (op : Operation) (v : ℕ → Bool) where
  run-old : (p : ℕ) → p < c.vars → run (reverse (with_gate c op).gates) v p ≡ run (reverse c.gates) v p
  run-old p b =
      ap (λ gs. run gs v p) (newest c op)
      ∙ with_value-other (run (reverse c.gates) v) c.vars (operation_true (run (reverse c.gates) v) op) p (λ e. absurd (omega (arith, b, e)))

  run-new : run (reverse (with_gate c op).gates) v c.vars ≡ operation_true (run (reverse c.gates) v) op
  run-new = ap (λ gs. run gs v c.vars) (newest c op) ∙ with_value-same (run (reverse c.gates) v) c.vars (operation_true (run (reverse c.gates) v) op)

  pub values-with_gate : (l : ℤ) → place_of l < c.vars → gate_value (with_gate c op) l v ≡ gate_value c l v
  unfolding gate_value
  values-with_gate l b = lit_true-same (run (reverse (with_gate c op).gates) v) (run (reverse c.gates) v) l (run-old (place_of l) b)

  pub value-with_gate : gate_value (with_gate c op) (variable c.vars) v ≡ operation_true (run (reverse c.gates) v) op
  unfolding gate_value
  value-with_gate = lit_true-variable (run (reverse (with_gate c op).gates) v) c.vars ∙ run-new

  pub holds-with_gate : AreWithin c.vars c.clauses → AreOperands c.vars op → holds (with_gate c op) v ≡ holds c v
  unfolding holds
  holds-with_gate w o =
      let new : ℕ → Bool = run (reverse (with_gate c op).gates) v in
      let same : operation_true (run (reverse c.gates) v) op ≡ operation_true new op =
      operation_true-same (run (reverse c.gates) v) new c.vars op o (λ p b. sym (run-old p b)) in
      let added : list_all (clause_true new) (operation_clauses (variable c.vars) op) ≡ true =
      operation_clauses-say new c.vars c.vars op o ∙ agree-refl (new c.vars) (operation_true new op) (run-new ∙ same) in
      list_all-append (clause_true new) c.clauses (operation_clauses (variable c.vars) op)
      ∙ (and-true (list_all (clause_true new) c.clauses) (list_all (clause_true new) (operation_clauses (variable c.vars) op)) added
      ∙ clauses_true-same new (run (reverse c.gates) v) c.vars c.clauses w run-old)

pub inputs-with_gate : (c : Circuit) (op : Operation) → inputs_of (with_gate c op) ≡ inputs_of c
unfolding inputs_of
inputs-with_gate c op =
    let g : Gate = (op, record { output = c.vars; clause = length c.clauses }) in
    let oc : List (List ℤ) = operation_clauses (variable c.vars) op in
    let n : length (c.gates ++ g ∷ []) ≡ length c.gates + 1 = length-append c.gates (g ∷ []) in
    let free : (c.vars + 1) - length (c.gates ++ g ∷ []) ≡ c.vars - length c.gates = omega (arith, n) in
    let m : length (c.clauses ++ oc) ≡ length c.clauses + length oc = length-append c.clauses oc in
    let a : all_gate_clauses (c.gates ++ g ∷ []) ≡ all_gate_clauses c.gates ++ oc =
    flat_map-append gate_clauses c.gates (g ∷ []) ∙ ap (λ x. all_gate_clauses c.gates ++ x) (append-nil oc) in
    let k : length (all_gate_clauses (c.gates ++ g ∷ [])) ≡ length (all_gate_clauses c.gates) + length oc =
    ap length a ∙ length-append (all_gate_clauses c.gates) oc in
    let required : length (c.clauses ++ oc) - length (all_gate_clauses (c.gates ++ g ∷ [])) ≡ length c.clauses - length (all_gate_clauses c.gates) = omega (arith, m, k) in
    λ i. record { free = free i; required = required i }

pub IsGrown-with_gate : (c : Circuit) (op : Operation) → IsCircuit c → AreOperands c.vars op → IsGrown c (with_gate c op)
IsGrown-with_gate c op h o = record {
  vars = omega arith;
  values = λ l b v. values-with_gate c op v l b;
  clauses = front-append c.clauses (operation_clauses (variable c.vars) op);
  gates = front-append c.gates ((op, record { output = c.vars; clause = length c.clauses }) ∷ []);
  holds_as = λ v. holds-with_gate c op v h.within o;
}

-- one more variable that no gate fixes
pub IsGrown-fresh : (c : Circuit) → IsGrown c (record c { vars = c.vars + 1 })
unfolding holds gate_value
IsGrown-fresh c = record {
  vars = omega arith;
  values = λ l h v. refl;
  clauses = take_all (length c.clauses) c.clauses (omega arith);
  gates = take_all (length c.gates) c.gates (omega arith);
  holds_as = λ v. refl;
}

pub AreWithin-weaker : (n m : ℕ) (cs : List (List ℤ)) → n ≤ m → AreWithin n cs → AreWithin m cs
AreWithin-weaker n m cs h w = All-weaker (λ d. All (IsWithin n) d) (λ d. All (IsWithin m) d) (λ d k. All-weaker (IsWithin n) (IsWithin m) (λ l i. IsWithin-weaker n m l h i) d k) cs w

pair-within : (n : ℕ) (a b : ℤ) → IsWithin n a → IsWithin n b → All (IsWithin n) (a ∷ b ∷ [])
pair-within n a b h k = All-cons (IsWithin n) a (b ∷ []) h (All-cons (IsWithin n) b [] k (All-nil (IsWithin n)))

operation_clauses-within : (n : ℕ) (o : ℤ) (op : Operation) → IsWithin n o → AreOperands n op → AreWithin n (operation_clauses o op)
operation_clauses-within n o True h k = All-cons (λ d. All (IsWithin n) d) (o ∷ []) [] (All-cons (IsWithin n) o [] h (All-nil (IsWithin n))) (All-nil (λ d. All (IsWithin n) d))
operation_clauses-within n o (And a b) h k =
    let W : List ℤ → Type 0 = λ d. All (IsWithin n) d in
    All-cons W (neg_ℤ o ∷ a ∷ []) ((neg_ℤ o ∷ b ∷ []) ∷ (o ∷ neg_ℤ a ∷ neg_ℤ b ∷ []) ∷ []) (pair-within n (neg_ℤ o) a (IsWithin-neg n o h) k.0)
    (All-cons W (neg_ℤ o ∷ b ∷ []) ((o ∷ neg_ℤ a ∷ neg_ℤ b ∷ []) ∷ []) (pair-within n (neg_ℤ o) b (IsWithin-neg n o h) k.1)
    (All-cons W (o ∷ neg_ℤ a ∷ neg_ℤ b ∷ []) [] (All-cons (IsWithin n) o (neg_ℤ a ∷ neg_ℤ b ∷ []) h (pair-within n (neg_ℤ a) (neg_ℤ b) (IsWithin-neg n a k.0) (IsWithin-neg n b k.1))) (All-nil W)))

pub AreOperands-weaker : (n m : ℕ) (op : Operation) → n ≤ m → AreOperands n op → AreOperands m op
AreOperands-weaker n m True h o = tt
AreOperands-weaker n m (And a b) h o = (IsWithin-weaker n m a h o.0, IsWithin-weaker n m b h o.1)

-- clauses behind those of a gate leave them there
pub HasClauses-append : (cs ds : List (List ℤ)) (g : Gate) → HasClauses cs g → HasClauses (cs ++ ds) g
HasClauses-append cs ds g h =
    let n : ℕ = length (gate_clauses g) in
    let rest : length (drop g.1.clause cs) ≡ length cs - g.1.clause = length-drop g.1.clause cs in
    record {
      there = ap (take n) (drop-append-le g.1.clause cs ds (omega (arith, h.inside))) ∙ (take-append-le n (drop g.1.clause cs) ds (omega (arith, rest, h.inside)) ∙ h.there);
      inside = omega (arith, length-append cs ds, h.inside);
    }

HasClauses-new : (cs : List (List ℤ)) (g : Gate) → g.1.clause ≡ length cs → HasClauses (cs ++ gate_clauses g) g
HasClauses-new cs g e = record {
  there = ap (take (length (gate_clauses g))) (drop_at cs (gate_clauses g) g.1.clause (sym e)) ∙ take_all (length (gate_clauses g)) (gate_clauses g) (omega arith);
  inside = omega (arith, length-append cs (gate_clauses g), e);
}

pub IsCircuit-with_gate : (c : Circuit) (op : Operation) → IsCircuit c → AreOperands c.vars op → c.vars + 1 < 2 ^ 63 → IsCircuit (with_gate c op)
IsCircuit-with_gate c op h o few =
    let g : Gate = (op, record { output = c.vars; clause = length c.clauses }) in
    let W : List ℤ → Type 0 = λ d. All (IsWithin (c.vars + 1)) d in
    record {
      few = few;
      within = All-append W c.clauses (operation_clauses (variable c.vars) op)
          (AreWithin-weaker c.vars (c.vars + 1) c.clauses (omega arith) h.within)
          (operation_clauses-within (c.vars + 1) (variable c.vars) op (IsWithin-variable c.vars (c.vars + 1) (omega arith) few) (AreOperands-weaker c.vars (c.vars + 1) op (omega arith) o));
      in_order = subst (InOrder (c.vars + 1)) (sym (newest c op)) (omega arith, o, h.in_order);
      placed = All-push (HasClauses (c.clauses ++ gate_clauses g)) c.gates g
          (All-weaker (HasClauses c.clauses) (HasClauses (c.clauses ++ gate_clauses g)) (λ f k. HasClauses-append c.clauses (gate_clauses g) f k) c.gates h.placed)
          (HasClauses-new c.clauses g refl);
      apart = all_pairs_push (λ f k. clauses_end f ≤ k.1.clause) c.gates g h.apart (All-weaker (HasClauses c.clauses) (λ f. clauses_end f ≤ length c.clauses) (λ f k. k.inside) c.gates h.placed);
    }
