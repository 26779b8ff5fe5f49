use Rattle.std.proofs.Common.{◌≡◌, ℕ, ◌+◌, ◌*◌, ◌<◌, ◌≤◌, List, length, slice_get}
use Rattle.hk_term.specs.Shape.{Grows}
use Rattle.hk_term.specs.declared.node.Node.{Node}
use Rattle.hk_copy.specs.Stands.{Stands}
use Rattle.hk_copy.specs.Copies.{Copies, AreReady}
use Rattle.hk_copy.specs.Reach.{Tests, AllPass, StandsPass}
use Rattle.hk_copy.specs.Making.{AllCopies, IsStanding, missing}
use Rattle.hk_copy.proofs.walk.+copying.Given as goal

abbrev pub decreases-copy_under : goal.decreases-copy_under
decreases-copy_under l = 4 * l.term + 3

abbrev pub decreases-advance : goal.decreases-advance
decreases-advance l = 4 * l.at + 2

abbrev pub decreases-copy_at : goal.decreases-copy_at
decreases-copy_at l = 4 * l.t + 1

abbrev pub decreases-inside : goal.decreases-inside
decreases-inside l = 4 * l.body + 4

abbrev pub invariant-copy_under-going : goal.invariant-copy_under-going
invariant-copy_under-going l =
    (AreReady l.terms l.stands (l.term + 1))
    × (AllCopies l.terms l.stands l.copies)
    × (IsStanding l.copies l.term l.at)
    × ((env : Stands) (k r : ℕ) → Copies l.fn.terms env k r → Copies l.terms env k r)
    × ((k : ℕ) → k < length l.fn.terms → slice_get l.terms k ≡ slice_get l.fn.terms k)
    × (length l.fn.terms ≤ length l.terms)
    × ((first : List Node) → Grows first l.fn.terms → Grows first l.terms)
    × ((tests : Tests) → AllPass tests l.fn.terms → StandsPass tests l.stands → AllPass tests l.terms)

abbrev pub decreases-copy_under-going : goal.decreases-copy_under-going
decreases-copy_under-going l = missing l.copies (l.term + 1) * (l.term + 1) + l.at
