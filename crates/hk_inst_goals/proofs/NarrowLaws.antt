-- Lists with inputs of two bits: they grow, and their truths are goals.
use Rattle.std.proofs.Common.{◌≡◌, ◌⊎◌, inl, inr, ℕ, ◌<◌, ◌++◌, ◌&&◌, Bool, true, List, [], ◌∷◌, length, Option, Some, None, refl, sym, ◌∙◌, ap, subst}
use Rattle.std.specs.Prelude.{nat_eq, slice_get, IfSome}
use Rattle.std.specs.List.{list_all}
use Rattle.std.proofs.lemmas.Bool.{eqb-true}
use Rattle.std.proofs.lemmas.List.Folds.{list_all-append}
use Rattle.std.proofs.lemmas.List.Sums.{AllPass-from_list_all}
use Rattle.std.proofs.lemmas.Option.{slice_get_within, get_or_from_slice_get}
use Rattle.hk_term.specs.Shape.{width}
use Rattle.hk_term.specs.declared.node.Node.{Node}
use Rattle.hk_term.specs.declared.node.Node.TheVariants.{Const, Var, Select, Unary, Binary, Choose, Resize, ForAll}
use Rattle.hk_copy.specs.Reach.{IsAsked, IsVariable, Reads, Frees}
use Rattle.hk_copy.specs.Reach.Reaches.{own, under}
use Rattle.hk_copy.specs.Reach.Frees.{itself, within}
use Rattle.hk_inst.specs.Growing.{IsGoal}
use Rattle.hk_inst_goals.specs.Narrow.{is_narrow, AreNarrow}

narrow-at : (nodes : List Node) → AreNarrow nodes → (k : ℕ) (n : Node) → slice_get nodes k ≡ Some n → is_narrow n ≡ true
narrow-at nodes h k n e =
    subst (λ m. is_narrow m ≡ true) (get_or_from_slice_get nodes k n n e) (AllPass-from_list_all is_narrow nodes h k n (slice_get_within nodes k n e))

free-narrow : (nodes : List Node) (size id t : ℕ) → AreNarrow nodes → Frees nodes size id t → size ≡ 2
free-narrow nodes size id t h (itself n at is) = by n is (narrow-at nodes h t n at)
  where
    by : (m : Node) → IsVariable size id m → is_narrow m ≡ true → size ≡ 2
    by (Const w x) v e = absurd v
    by (Var w i) v e = sym v.0 ∙ eqb-true w 2 e
    by (Select a w i) v e = absurd v
    by (Unary kind a) v e = absurd v
    by (Binary kind a b) v e = absurd v
    by (Choose c a b) v e = absurd v
    by (Resize kind to a) v e = absurd v
    by (ForAll bound inner) v e = absurd v
free-narrow nodes size id t h (within n a at off part r) = free-narrow nodes size id a h r

read-narrow : (nodes : List Node) (array size t : ℕ) → AreNarrow nodes → Reads nodes array size t → size ≡ 2
read-narrow nodes array size t h (own n at is) = by n is (narrow-at nodes h t n at)
  where
    by : (m : Node) → IsAsked (λ a s. (a ≡ array) × (s ≡ size)) (λ b. ⊥) m → is_narrow m ≡ true → size ≡ 2
    by (Const w x) v e = absurd v
    by (Var w i) v e = absurd v
    by (Select a w i) v e = sym v.1 ∙ eqb-true w 2 e
    by (Unary kind a) v e = absurd v
    by (Binary kind a b) v e = absurd v
    by (Choose c a b) v e = absurd v
    by (Resize kind to a) v e = absurd v
    by (ForAll bound inner) v e = absurd v
read-narrow nodes array size t h (under n a at part r) = read-narrow nodes array size a h r

pub narrow-goal : (nodes : List Node) (goal : ℕ) → AreNarrow nodes → width nodes goal ≡ 1 → IsGoal nodes goal
narrow-goal nodes goal h w = record {
  truth = w;
  one_width = λ id size other a b. free-narrow nodes size id goal h a ∙ sym (free-narrow nodes other id goal h b);
  one_size = λ array size other a b. read-narrow nodes array size goal h a ∙ sym (read-narrow nodes array other goal h b);
}

pub narrow-none : (nodes : List Node) → nodes ≡ [] → AreNarrow nodes
narrow-none nodes e = ap (λ (l : List Node). list_all is_narrow l) e

pub narrow-push : (old new : List Node) (n : Node) (t : ℕ) → is_narrow n ≡ true → ((t < length old) × (new ≡ old)) ⊎ ((t ≡ length old) × (new ≡ old ++ n ∷ [])) → AreNarrow old → AreNarrow new
narrow-push old new n t is (inl p) h = ap (list_all is_narrow) p.1 ∙ h
narrow-push old new n t is (inr p) h = ap (list_all is_narrow) p.1 ∙ list_all-append is_narrow old (n ∷ []) ∙ ap (λ b. b && (is_narrow n && true)) h ∙ ap (λ b. b && true) is

-- a truth that was found in a list that grew from none is a goal
pub found-goal : (old new : List Node) (o : Option ℕ) → old ≡ [] → (AreNarrow old → AreNarrow new) → IfSome o (λ t. width new t ≡ 1) → IfSome o (λ t. IsGoal new t)
found-goal old new None e h w = w
found-goal old new (Some t) e h w = narrow-goal new t (h (narrow-none old e)) w
