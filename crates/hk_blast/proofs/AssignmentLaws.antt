-- An assignment of the clauses before is extended to the clauses behind, with chosen bits for the new inputs.
use Rattle.std.proofs.Common.{◌≡◌, ℕ, ◌<◌, ◌≤◌, Bool, true, false, cond, nat_lt, List, ◌++◌, length, take, drop, get_or, reverse, refl, sym, ◌∙◌, ap, subst, arith, add-one}
use Rattle.std.specs.List.{All}
use Rattle.std.proofs.lemmas.Bool.{lt-ltb, le-ltb}
use Rattle.std.proofs.lemmas.List.{take-append-drop}
use Rattle.std.proofs.lemmas.List.FromFn.{length-map-range_with_len, take-map-range_with_len, fill_by_all}
use Rattle.hk_term.specs.declared.node.Node.{Node}
use Rattle.hk_cnf.specs.Literal.{place_of, value_at}
use Rattle.hk_cnf.specs.Clauses.{clauses_value}
use Rattle.hk_cnf.specs.Circuit.{Circuit, gate_value, variable, run}
use Rattle.hk_cnf.specs.CircuitParts.{IsCircuit}
use Rattle.hk_cnf.specs.CircuitGrowth.{IsGrown, values_of}
use Rattle.hk_cnf.proofs.Running.{lit_true-same, lit_true-variable, place_of-variable, run-local}
use Rattle.hk_cnf.proofs.CircuitValues.{gate_value-satisfied, listed, listed-at, listed-satisfies, holds-satisfied}
use Rattle.hk_blast.specs.Blasted.{Words, input_places, AreBlasted, ExtendsBy}
use Rattle.hk_blast.proofs.BlastedLaws.{places-each}

module _ (nodes : List Node) (c d : Circuit) (table : Words) (a : List Bool) (chosen : ℕ → Bool) where
  -- the assignment's values, and the chosen ones behind
  abbrev mixed : ℕ → Bool
  mixed p = cond (nat_lt p c.vars) (values_of a p) (chosen p)

  mixed-old : (p : ℕ) → p < c.vars → mixed p ≡ values_of a p
  mixed-old p b = ap (λ t. cond t (values_of a p) (chosen p)) (lt-ltb p c.vars b)

  mixed-new : (p : ℕ) → c.vars ≤ p → mixed p ≡ chosen p
  mixed-new p b = ap (λ t. cond t (values_of a p) (chosen p)) (le-ltb p c.vars b)

  abbrev values : ℕ → Bool
  values = run (reverse d.gates) mixed

  abbrev whole : List Bool
  whole = listed values d.vars

  value-own : (p : ℕ) → values p ≡ gate_value d (variable p) mixed
  unfolding gate_value
  value-own p = sym (lit_true-variable values p)

  value-local : (p : ℕ) → p < c.vars → IsCircuit c → gate_value c (variable p) mixed ≡ gate_value c (variable p) (values_of a)
  unfolding gate_value
  value-local p b h =
      lit_true-same (run (reverse c.gates) mixed) (run (reverse c.gates) (values_of a)) (variable p)
      (subst (λ q. run (reverse c.gates) mixed q ≡ run (reverse c.gates) (values_of a) q) (sym (place_of-variable p))
      (run-local (reverse c.gates) mixed (values_of a) c.vars c.vars h.in_order (omega arith) mixed-old p b))

  value-at : (k : ℕ) → value_at a (variable k) ≡ get_or a k false
  value-at k = rw add-one refl

  pub extends-by : IsCircuit c → IsCircuit d → IsGrown c d → AreBlasted nodes d table → length a ≡ c.vars → clauses_value a c.clauses ≡ true → ExtendsBy nodes d table a chosen
  extends-by hc hd g h n s = record { more = drop c.vars whole; extends = record { sized = ap length joined ∙ length-map-range_with_len values 0 d.vars; satisfies = satisfied }; gives = gives }
    where
      at : (k : ℕ) → k < c.vars → get_or a k false ≡ values k
      at k b =
          let below : place_of (variable k) < c.vars = subst (λ p. p < c.vars) (sym (place_of-variable k)) b in
          sym (value-own k ∙ (g.values (variable k) below mixed ∙ (value-local k b hc ∙ (gate_value-satisfied c a hc s (variable k) ∙ value-at k))))

      front : take c.vars whole ≡ a
      front = take-map-range_with_len values 0 d.vars c.vars g.vars ∙ sym (fill_by_all values a c.vars false n at)

      joined : a ++ drop c.vars whole ≡ whole
      joined = ap (λ x. x ++ drop c.vars whole) (sym front) ∙ take-append-drop c.vars whole

      satisfied : clauses_value (a ++ drop c.vars whole) d.clauses ≡ true
      satisfied = ap (λ x. clauses_value x d.clauses) joined ∙ listed-satisfies d mixed hd.within (g.holds_as mixed ∙ holds-satisfied c a mixed hc s mixed-old)

      gives : All (λ p. length a ≤ p → values_of (a ++ drop c.vars whole) p ≡ chosen p) (input_places nodes table)
      gives = places-each nodes d table (λ p. length a ≤ p → values_of (a ++ drop c.vars whole) p ≡ chosen p) h
          (λ p l free b. ap (λ x. values_of x p) joined ∙ (listed-at values d.vars p l ∙ (value-own p ∙ (free mixed ∙ mixed-new p (subst (λ m. m ≤ p) n b)))))
