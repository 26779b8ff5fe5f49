use Rattle.std.proofs.Common.{◌≡◌, ◌∙◌, ℕ, List, ℤ, All, refl, sym, subst}
use Rattle.hk_term.specs.declared.node.Node.{Node}
use Rattle.hk_cnf.specs.Literal.{IsWithin}
use Rattle.hk_cnf.specs.Circuit.{Circuit}
use Rattle.hk_blast.specs.Blasted.{Words, word_in, AreBlasted}
use Rattle.hk_blast.proofs.BlastedLaws.{words-within}
use Rattle.hk_settle_tests.proofs.product.refutes.Goals as goal

within : (nodes : List Node) (c : Circuit) (table : Words) (t m : ℕ) (ls : List ℤ) → AreBlasted nodes c table → ls ≡ word_in table t → m ≡ c.vars → All (IsWithin m) ls
within nodes c table t m ls h e n = subst (λ k. All (IsWithin k) ls) (sym n) (subst (λ x. All (IsWithin c.vars) x) (sym e) (words-within nodes c table h t))

pub require_number-requires : goal.require_number-requires
require_number-requires c = within _ _ _ c.in_ok-product.product.x _ _ c.blast.ensures.table c.word_at.ensures refl

pub require_number-requires-2 : goal.require_number-requires-2
require_number-requires-2 c = within _ _ _ c.in_ok-product.product.y _ _ c.blast.ensures.table c.word_at-2.ensures c.require_number.ensures

pub require_number-requires-then-is : goal.require_number-requires-then-is
require_number-requires-then-is c = within _ _ _ c.in_ok-product.product.result _ _ c.blast.ensures.table c.word_at-then-is.ensures (c.require_number-2.ensures ∙ c.require_number.ensures)

pub refuse_number-requires : goal.refuse_number-requires
refuse_number-requires c = within _ _ _ c.in_ok-product.product.result _ _ c.blast.ensures.table c.word_at-else-is.ensures (c.require_number-2.ensures ∙ c.require_number.ensures)
