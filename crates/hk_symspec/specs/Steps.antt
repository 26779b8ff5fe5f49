-- What a transition comes to as terms.
use Rattle.std.specs.Prelude.{◌≡◌, ℕ, ◌<◌, Option, Some, None, option_map, List, [], ◌∷◌, length}
use Rattle.hk_term.specs.Shape.{width}
use Rattle.hk_term.specs.Meaning.{Reading, value}
use Rattle.hk_term.specs.declared.node.Node.{Node}
use Rattle.spec_tree.specs.Plain.{Tree, Spec, Transition}
use Rattle.spec_tree.specs.Value.{bit}
use Rattle.spec_tree.specs.Meaning.{Step}
use Rattle.hk_symexpr.specs.Sources.{Agrees}
use Rattle.hk_symspec.specs.States.{StateView, numbers_at, state_at}

-- one term for each width, of that width
abbrev pub AreArgumentTerms : List Node → List ℕ → List ℕ → Type 0
AreArgumentTerms nodes [] terms = terms ≡ []
AreArgumentTerms nodes (w ∷ ws) [] = ⊥
AreArgumentTerms nodes (w ∷ ws) (k ∷ ks) = (k < length nodes) × (width nodes k ≡ w) × AreArgumentTerms nodes ws ks

-- under all readings that differ in variables from an id on alone, the terms have the same numbers
abbrev pub AreSteadyTerms : ℕ → List Node → List ℕ → Reading → Type 0
AreSteadyTerms limit nodes terms v = (u : Reading) → Agrees limit v u → numbers_at nodes terms u ≡ numbers_at nodes terms v

-- there is a term, of this width, exactly where there is an expression
abbrev pub IsTermFor : List Node → ℕ → Option Tree → Option ℕ → Type 0
IsTermFor nodes w None term = term ≡ None
IsTermFor nodes w (Some e) None = ⊥
IsTermFor nodes w (Some e) (Some k) = (k < length nodes) × (width nodes k ≡ w)

-- where a transition specifies a result there is a term of the result's width, and elsewhere there is none
abbrev pub IsResultTerm : List Node → Transition → Option ℕ → Type 0
IsResultTerm nodes t term = IsTermFor nodes t.result_width t.result term

-- under a reading a truth, a state and the term of a result are those of a step
pub record IsStepAt (s : Spec) (nodes : List Node) (truth : ℕ) (end : StateView) (term : Option ℕ) (v : Reading) (step : Step) : Type 0 where
  pub valid : value nodes truth v ≡ bit step.valid
  pub state : state_at s nodes end v ≡ step.state
  pub result : option_map (λ k. value nodes k v) term ≡ step.result
