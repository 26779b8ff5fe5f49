-- What formulas over states read.
use Rattle.std.proofs.Common.{◌≡◌, ℕ, true, false, List, [], ◌∷◌, refl, ◌∙◌, ap, arith}
use Rattle.hk_term.specs.Meaning.{Reading}
use Rattle.hk_term.specs.declared.node.Node.{Node}
use Rattle.spec_tree.specs.Plain.{Tree, Named, Spec}
use Rattle.spec_tree.specs.Sorted.{Context, IsNamed, over_state, with_locals, with_local}
use Rattle.spec_tree.specs.Value.{bit, holds, value}
use Rattle.spec_tree.specs.Meaning.{Memory, State, in_state, property_holds, with_values}
use Rattle.hk_symexpr.specs.Sources.{Agrees}
use Rattle.hk_symspec.specs.States.{StateView, kernel_at, state_at}
use Rattle.hk_symspec.specs.Standing.{IsSteady}
use Rattle.hk_symspec.specs.Formulas.{Reads}
use Rattle.hk_symspec.proofs.BlindLaws.{blind, blind_names, over_memory}

kernel_stays : (c : Context) (es : List Tree) → (with_locals c es).kernel ≡ c.kernel
kernel_stays c [] = refl
kernel_stays c (e ∷ es) = kernel_stays (with_local c e) es

-- a property reads the state as the old one, and no other
pub property_reads : (s : Spec) (nodes : List Node) (a : StateView) (base : ℕ) (v : Reading) → IsSteady base s nodes a v
    → Reads (λ u. record { old = state_at s nodes a u; new = []; memory = kernel_at nodes a.memory u }) (over_state s) nodes [] [] base v
    (over_memory (in_state (state_at s nodes a v)) (kernel_at nodes a.memory v))
property_reads s nodes a base v steady u g = record {
  read = λ i. record { old = steady.state u b i; new = []; memory = steady.memory u b i };
  memory = λ e. absurd (no_kernel e);
  args = refl;
  locals = refl;
  bounds = refl;
  below = refl;
  known = λ k d l. absurd (omega (arith, l));
}
  where
    b : Agrees base v u
    b = record { entry = g.entry; var = λ id l. g.var id (omega (arith, l)) }

    no_kernel : false ≡ true → ⊥
    no_kernel e = cc

pub property_value : (s : Spec) (n : Named) (st : State) (m : Memory) (x : ℕ) → IsNamed (over_state s) n
    → x ≡ bit (holds (value (with_locals (over_state s) n.locals) (with_values (over_state s) (over_memory (in_state st) m) n.locals) n.value))
    → x ≡ bit (property_holds s n st)
property_value s n st m x named is =
    is ∙ ap (λ e. bit (holds (value (with_locals (over_state s) n.locals) e n.value))) (blind_names (over_state s) (in_state st) m n.locals refl named.locals)
    ∙ ap (λ k. bit (holds k)) (blind (with_locals (over_state s) n.locals) (with_values (over_state s) (in_state st) n.locals) m (kernel_stays (over_state s) n.locals) n.value named.sorted)
