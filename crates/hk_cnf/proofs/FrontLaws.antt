-- What stands at the front of a circuit can be cut back to: gates that are added fix new variables.
use Rattle.std.proofs.Common.{◌≡◌, ◌⊎◌, inl, inr, ℕ, ◌<◌, ◌≤◌, false, eqb, List, [], ◌∷◌, ◌++◌, length, take, drop, reverse, refl, sym, ◌∙◌, ap, subst, arith, length-take}
use Rattle.std.proofs.lemmas.Bool.{cases_lt, eq-eqb, or_parts, false≢true}
use Rattle.std.proofs.lemmas.List.{take-take}
use Rattle.std.proofs.lemmas.List.Elements.{All-weaker}
use Rattle.std.specs.List.{All}
use Rattle.hk_cnf.specs.Clauses.{AreWithin}
use Rattle.hk_cnf.specs.Circuit.{Gate, Circuit, variable, clauses_end}
use Rattle.hk_cnf.specs.CircuitParts.{InOrder, HasClauses, IsCircuit, IsGateWithin}
use Rattle.hk_cnf.specs.CircuitGrowth.{IsGrown}
use Rattle.hk_cnf.specs.Determined.{is_output}
use Rattle.hk_cnf.specs.Front.{IsFront, CanCut}
use Rattle.hk_cnf.proofs.Running.{place_of-variable, Each, Each-forward}
use Rattle.hk_cnf.proofs.CircuitLaws.{IsGrown-refl, AreOperands-weaker}
use Rattle.hk_cnf.proofs.Determination.{is_output-later, is_output-reverse}
use Rattle.hk_cnf.proofs.Unfixed.{unfixed, unfixed-value}
use Rattle.hk_cnf.proofs.KeptGates.{All-Each, InOrder-rest, parts}

pub IsFront-grown : (c d : Circuit) → IsGrown c d → IsFront c d
IsFront-grown c d g = record { vars = g.vars; values = g.values; clauses = g.clauses; gates = g.gates }

pub IsFront-refl : (c : Circuit) → IsFront c c
IsFront-refl c = IsFront-grown c c (IsGrown-refl c)

pub length-front : {A : Type 0} (xs ys : List A) → take (length xs) ys ≡ xs → length xs ≤ length ys
length-front xs ys e = let n : length (take (length xs) ys) ≡ length xs = ap length e in grind (arith, length-take)

front-trans : {A : Type 0} (xs ys zs : List A) → take (length xs) ys ≡ xs → take (length ys) zs ≡ ys → take (length xs) zs ≡ xs
front-trans xs ys zs e f = shorter (length xs) (length ys) zs (length-front xs ys e) ∙ ap (take (length xs)) f ∙ e
  where
    shorter : {A : Type 0} (i j : ℕ) (zs : List A) → i ≤ j → take i zs ≡ take i (take j zs)
    shorter i j zs h = grind (arith, take-take)

pub IsFront-trans : (a b c : Circuit) → IsFront a b → IsFront b c → IsFront a c
IsFront-trans a b c g h = record {
  vars = omega (arith, g.vars, h.vars);
  values = λ l k v. h.values l (omega (arith, k, g.vars)) v ∙ g.values l k v;
  clauses = front-trans a.clauses b.clauses c.clauses g.clauses h.clauses;
  gates = front-trans a.gates b.gates c.gates g.gates h.gates;
}

-- what every circuit that grew to the first grew to as well
pub fronts-grown : (c d : Circuit) → ((e : Circuit) → IsGrown e c → IsGrown e d) → (e : Circuit) → IsFront e c → IsFront e d
fronts-grown c d g e h = IsFront-trans e c d h (IsFront-grown c d (g c (IsGrown-refl c)))

-- newest gates first: added gates fix later variables, where they fix none that no gate fixed before
later : (fs gs : List Gate) (n m : ℕ) → InOrder n (fs ++ gs) → ((p : ℕ) → p < m → is_output gs p ≡ false → is_output (fs ++ gs) p ≡ false) → Each (λ g. m ≤ g.1.output) fs
later [] gs n m o h = tt
later (f ∷ fs) gs n m o h =
    let o' : ℕ = f.1.output in
    let own : is_output gs o' ≡ false = is_output-later gs o' o' (InOrder-rest fs gs o' o.2) (omega arith) in
    (place own (cases_lt o' m), later fs gs o' m o.2 (λ p b e. (or_parts (eqb p o') (is_output (fs ++ gs) p) (h p b e)).1))
  where
    place : is_output gs f.1.output ≡ false → (f.1.output < m) ⊎ (m ≤ f.1.output) → m ≤ f.1.output
    place own (inr b) = b
    place own (inl b) =
        absurd (false≢true (sym (or_parts (eqb f.1.output f.1.output) (is_output (fs ++ gs) f.1.output) (h f.1.output b own)).0 ∙ eq-eqb f.1.output f.1.output refl))

pub fresh-behind : (c d : Circuit) → IsCircuit d → IsFront c d → All (λ g. c.vars ≤ g.1.output) (drop (length c.gates) d.gates)
fresh-behind c d hd f =
    let added : List Gate = drop (length c.gates) d.gates in
    let split : reverse d.gates ≡ reverse added ++ reverse c.gates = parts d.gates (length c.gates) ∙ ap (λ gs. reverse added ++ reverse gs) f.gates in
    let stays : (p : ℕ) → p < c.vars → is_output (reverse c.gates) p ≡ false → is_output (reverse added ++ reverse c.gates) p ≡ false = λ p b e.
    sym (ap (λ gs. is_output gs p) split) ∙ (is_output-reverse d.gates p
    ∙ unfixed d p hd (λ v. f.values (variable p) (subst (λ q. q < c.vars) (sym (place_of-variable p)) b) v ∙ unfixed-value c p (sym (is_output-reverse c.gates p) ∙ e) v)) in
    All-Each (λ g. c.vars ≤ g.1.output) added
    (Each-forward (λ g. c.vars ≤ g.1.output) added (later (reverse added) (reverse c.gates) d.vars c.vars (subst (InOrder d.vars) split hd.in_order) stays))

gates-within : (gs : List Gate) (n m : ℕ) → InOrder n gs → n ≤ m → Each (IsGateWithin m) gs
gates-within [] n m o h = tt
gates-within (g ∷ gs) n m o h =
    (record { output = omega (arith, o.0, h); operands = AreOperands-weaker g.1.output m g.0 (omega (arith, o.0, h)) o.1 }, gates-within gs g.1.output m o.2 (omega (arith, o.0, h)))

-- a circuit can be cut to what stands at its front
can-cut : (c d : Circuit) → IsCircuit c → IsCircuit d → IsFront c d → CanCut c.vars (length c.clauses) (length c.gates) d
can-cut c d hc hd f = record {
  vars = f.vars;
  clauses = length-front c.clauses d.clauses f.clauses;
  gates = length-front c.gates d.gates f.gates;
  kept_clauses = subst (AreWithin c.vars) (sym f.clauses) hc.within;
  kept_gates = subst (All (IsGateWithin c.vars)) (sym f.gates)
      (All-Each (IsGateWithin c.vars) c.gates (Each-forward (IsGateWithin c.vars) c.gates (gates-within (reverse c.gates) c.vars c.vars hc.in_order (omega arith))));
  their_clauses = subst (All (λ g. clauses_end g ≤ length c.clauses)) (sym f.gates) (All-weaker (HasClauses c.clauses) (λ g. clauses_end g ≤ length c.clauses) (λ g k. k.inside) c.gates hc.placed);
  fresh_or_kept = fresh-behind c d hd f;
}

pub can-cut-at : (c d : Circuit) (v k n : ℕ) → IsCircuit c → IsCircuit d → IsFront c d → v ≡ c.vars → k ≡ length c.clauses → n ≡ length c.gates → CanCut v k n d
can-cut-at c d v k n hc hd f ev ek en = subst (λ m. CanCut m k n d) (sym ev) (subst (λ m. CanCut c.vars m n d) (sym ek) (subst (λ m. CanCut c.vars (length c.clauses) m d) (sym en) (can-cut c d hc hd f)))
