-- Entries that are looked up by their operations.
use Rattle.std.proofs.Common.{◌≡◌, Bool, true, false, cond, List, [], ◌∷◌, ◌++◌, ℤ, Option, Some, None, option_map, refl, sym, ap, ◌∙◌}
use Rattle.std.specs.Map.{lookup}
use Rattle.hk_cnf.specs.declared.operation.Operation.{Operation}
use Rattle.hk_cnf.specs.declared.operation.Operation.TheVariants.{True, And}
use Rattle.hk_cnf.specs.declared.operation.Placed.{Placed}
use Rattle.hk_cnf.specs.contracts.operation.OperationPartialEq.TheImpl.{eq-value}
use Rattle.hk_cnf.specs.Circuit.{Gate, same_operation, variable, literal_of, truth_of, truth_with}

pub lookup-same : {K X : Type 0} (p q : K → Bool) (es : List (K × X)) → ((k : K) → p k ≡ q k) → lookup p es ≡ lookup q es
lookup-same p q [] h = refl
lookup-same p q (e ∷ es) h =
    ap (λ t. cond t (Some e.1) (lookup p es)) (h e.0) ∙ ap (λ r. cond (q e.0) (Some e.1) r) (lookup-same p q es h)

-- the derived equality of operations
pub key_is : (o q : Operation) → eq-value.it o q ≡ same_operation o q
key_is True True = refl
key_is True (And c d) = refl
key_is (And a b) True = refl
key_is (And a b) (And c d) = refl

pub lookup-key : (op : Operation) (gs : List Gate) → lookup (eq-value.it op) gs ≡ lookup (same_operation op) gs
lookup-key op gs = lookup-same (eq-value.it op) (same_operation op) gs (key_is op)

lookup-push : (op : Operation) (gs : List Gate) (g : Gate) → lookup (same_operation op) gs ≡ None → lookup (same_operation op) (gs ++ g ∷ []) ≡ cond (same_operation op g.0) (Some g.1) None
lookup-push op [] g h = refl
lookup-push op (f ∷ gs) g h = pick (same_operation op f.0) refl h (λ k. lookup-push op gs g k)
  where
    none : (p : Placed) → Some p ≡ None → ⊥
    none p e = cc

    pick : (t : Bool) → same_operation op f.0 ≡ t → cond (same_operation op f.0) (Some f.1) (lookup (same_operation op) gs) ≡ None →
        (lookup (same_operation op) gs ≡ None → lookup (same_operation op) (gs ++ g ∷ []) ≡ cond (same_operation op g.0) (Some g.1) None) →
        cond (same_operation op f.0) (Some f.1) (lookup (same_operation op) (gs ++ g ∷ [])) ≡ cond (same_operation op g.0) (Some g.1) None
    pick true e k go = absurd (none f.1 (sym (ap (λ x. cond x (Some f.1) (lookup (same_operation op) gs)) e) ∙ k))
    pick false e k go =
        ap (λ x. cond x (Some f.1) (lookup (same_operation op) (gs ++ g ∷ []))) e
        ∙ go (sym (ap (λ x. cond x (Some f.1) (lookup (same_operation op) gs)) e) ∙ k)

lookup-other : (op : Operation) (gs : List Gate) (g : Gate) → same_operation op g.0 ≡ false → lookup (same_operation op) (gs ++ g ∷ []) ≡ lookup (same_operation op) gs
lookup-other op [] g h = ap (λ x. cond x (Some g.1) None) h
lookup-other op (f ∷ gs) g h = ap (λ r. cond (same_operation op f.0) (Some f.1) r) (lookup-other op gs g h)

pub lookup_none : (gs : List Gate) (op : Operation) → literal_of gs op ≡ None → lookup (same_operation op) gs ≡ None
lookup_none gs op h = pick (lookup (same_operation op) gs) refl h
  where
    some : (l : ℤ) → Some l ≡ None → ⊥
    some l e = cc

    pick : (r : Option Placed) → lookup (same_operation op) gs ≡ r → option_map (λ p. variable p.output) r ≡ None → lookup (same_operation op) gs ≡ None
    pick None e k = e
    pick (Some p) e k = absurd (some (variable p.output) k)

-- the literal that is true, once a gate is added for an operation that has none
pub truth-push : (gs : List Gate) (op : Operation) (p : Placed) → literal_of gs op ≡ None → truth_of (gs ++ (op, p) ∷ []) ≡ truth_with (truth_of gs) op (variable p.output)
truth-push gs True p h = ap (option_map (λ q. variable q.output)) (lookup-push True gs (True, p) (lookup_none gs True h))
truth-push gs (And a b) p h = ap (option_map (λ q. variable q.output)) (lookup-other True gs (And a b, p) refl)
