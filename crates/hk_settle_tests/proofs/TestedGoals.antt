-- Goals of tests, in which all variables and reads have 8 bits.
use Rattle.std.proofs.Common.{◌≡◌, ℕ, true, List, Some, sym, ◌∙◌}
use Rattle.std.specs.Prelude.{slice_get}
use Rattle.std.proofs.lemmas.Bool.{eqb-true}
use Rattle.hk_term.specs.Shape.{width}
use Rattle.hk_term.specs.declared.node.Node.{Node}
use Rattle.hk_term.specs.declared.node.Node.TheVariants.{Const, Var, Select, Unary, Binary, Choose, Resize, ForAll}
use Rattle.hk_copy.specs.Reach.{IsAsked, IsVariable, Reads, Frees, passes, AllPass}
use Rattle.hk_copy.specs.Reach.Reaches.{own, under}
use Rattle.hk_copy.specs.Reach.Frees.{itself, within}
use Rattle.hk_inst.specs.Growing.{IsGoal}
use Rattle.hk_settle_tests.specs.Eights.{eights}

free-eight : (nodes : List Node) (size id t : ℕ) → AllPass eights nodes → Frees nodes size id t → size ≡ 8
free-eight nodes size id t h (itself n at is) = by n is (h t n at)
  where
    by : (m : Node) → IsVariable size id m → passes eights m ≡ true → size ≡ 8
    by (Const w x) v e = absurd v
    by (Var w i) v e = sym v.0 ∙ eqb-true w 8 e
    by (Select a w i) v e = absurd v
    by (Unary kind a) v e = absurd v
    by (Binary kind a b) v e = absurd v
    by (Choose c a b) v e = absurd v
    by (Resize kind to a) v e = absurd v
    by (ForAll bound inner) v e = absurd v
free-eight nodes size id t h (within n a at off part r) = free-eight nodes size id a h r

read-eight : (nodes : List Node) (array size t : ℕ) → AllPass eights nodes → Reads nodes array size t → size ≡ 8
read-eight nodes array size t h (own n at is) = by n is (h t n at)
  where
    by : (m : Node) → IsAsked (λ a s. (a ≡ array) × (s ≡ size)) (λ b. ⊥) m → passes eights m ≡ true → size ≡ 8
    by (Const w x) v e = absurd v
    by (Var w i) v e = absurd v
    by (Select a w i) v e = sym v.1 ∙ eqb-true w 8 e
    by (Unary kind a) v e = absurd v
    by (Binary kind a b) v e = absurd v
    by (Choose c a b) v e = absurd v
    by (Resize kind to a) v e = absurd v
    by (ForAll bound inner) v e = absurd v
read-eight nodes array size t h (under n a at part r) = read-eight nodes array size a h r

pub eights_goal : (nodes : List Node) (goal : ℕ) → AllPass eights nodes → width nodes goal ≡ 1 → IsGoal nodes goal
eights_goal nodes goal h w = record {
  truth = w;
  one_width = λ id size other a b. free-eight nodes size id goal h a ∙ sym (free-eight nodes other id goal h b);
  one_size = λ array size other a b. read-eight nodes array size goal h a ∙ sym (read-eight nodes array other goal h b);
}
