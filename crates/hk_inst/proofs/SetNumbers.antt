-- The tables of a completed case, as they are filled from the last term to the first.
use Rattle.std.proofs.Common.{◌≡◌, ◌⊎◌, inl, inr, ℕ, zero, suc, ◌+◌, ◌≤◌, true, false, cond, nat_eq, List, [], ◌∷◌, length, drop, ℤ, Some, None, sym, ◌∙◌, ap, subst, arith}
use Rattle.std.specs.Prelude.{slice_get, unwrap_or}
use Rattle.std.specs.Map.{lookup}
use Rattle.std.proofs.lemmas.Bool.{eq-eqb, ne_eqb}
use Rattle.std.proofs.lemmas.Bool.Decides.{eqb_tells}
use Rattle.std.proofs.lemmas.Option.{same_Some}
use Rattle.hk_term.specs.declared.node.Node.{Node}
use Rattle.hk_cnf.specs.Circuit.{Circuit}
use Rattle.hk_blast.specs.Blasted.{Words, word_in, AreBlasted}
use Rattle.hk_blast.proofs.WordLists.{cases_word, has_from}
use Rattle.hk_blast.proofs.BlastedLaws.{width-in}
use Rattle.hk_inst.specs.Inputs.{is_variable, is_read_at, variable_number, entry_number}

pub turned : (a b : ℕ) → nat_eq a b ≡ nat_eq b a
turned a b = by (eqb_tells a b)
  where
    by : ((nat_eq a b ≡ true) × (a ≡ b)) ⊎ ((nat_eq a b ≡ false) × (a ≡ b → ⊥)) → nat_eq a b ≡ nat_eq b a
    by (inl p) = p.0 ∙ sym (eq-eqb b a (sym p.1))
    by (inr p) = p.0 ∙ sym (ne_eqb b a (λ e. p.1 (sym e)))

pub drop-entry : {X : Type 0} (xs : List X) (i : ℕ) (e : X) → slice_get xs i ≡ Some e → drop i xs ≡ e ∷ drop (i + 1) xs
drop-entry [] i e at = cc
drop-entry (x ∷ xs) zero e at = ap (λ y. y ∷ xs) (same_Some x e at)
drop-entry (x ∷ xs) (suc i) e at =
    let more : suc i + 1 ≡ suc (i + 1) = omega arith in
    drop-entry xs i e at ∙ ap (λ n. e ∷ drop n (x ∷ xs)) (sym more)

pub variable-next : (nodes : List Node) (f : ℕ → ℕ) (words : Words) (i j : ℕ) (e : ℕ × List ℤ) (node : Node) (number : ℕ) (old new : ℕ → ℕ) → i ≡ j + 1 → slice_get words j ≡ Some e → slice_get nodes e.0 ≡ Some node → number ≡ f e.0
    → ((id : ℕ) → old id ≡ variable_number nodes f (drop i words) id) → ((id : ℕ) → new id ≡ cond (is_variable (Some node) id) number (old id)) → (id : ℕ) → new id ≡ variable_number nodes f (drop j words) id
variable-next nodes f words i j e node number old new step at is same h set id =
    set id ∙ (λ t. cond (is_variable (sym is t) id) (same t) ((h id ∙ ap (λ n. variable_number nodes f (drop n words) id) step) t))
    ∙ ap (λ ws. variable_number nodes f ws id) (sym (drop-entry words j e at))

pub entry-next : (nodes : List Node) (f : ℕ → ℕ) (reads : List ℕ) (i j t : ℕ) (node : Node) (number : ℕ) (old new : ℕ → ℕ → ℕ) → i ≡ j + 1 → slice_get reads j ≡ Some t → slice_get nodes t ≡ Some node → number ≡ f t
    → ((array place : ℕ) → old array place ≡ entry_number nodes f (drop i reads) array place) → ((array place : ℕ) → new array place ≡ cond (is_read_at (Some node) f array place) number (old array place)) → (array place : ℕ) → new array place ≡ entry_number nodes f (drop j reads) array place
entry-next nodes f reads i j t node number old new step at is same h set array place =
    set array place ∙ (λ x. cond (is_read_at (sym is x) f array place) (same x) ((h array place ∙ ap (λ n. entry_number nodes f (drop n reads) array place) step) x))
    ∙ ap (λ rs. entry_number nodes f rs array place) (sym (drop-entry reads j t at))

-- words have at most 64 bits
pub words-short : (nodes : List Node) (c : Circuit) (words : Words) → AreBlasted nodes c words → (k : ℕ) → length (word_in words k) ≤ 64
words-short nodes c words h k = by (cases_word (lookup (nat_eq k) words))
  where
    by : ((w : List ℤ) × (lookup (nat_eq k) words ≡ Some w)) ⊎ (lookup (nat_eq k) words ≡ None) → length (word_in words k) ≤ 64
    by (inl p) = (width-in nodes c words k h (has_from k words p.0 p.1)).1
    by (inr e) = subst (λ o. length (unwrap_or o []) ≤ 64) (sym e) (omega arith)
