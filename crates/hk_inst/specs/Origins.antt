-- Where the terms of a question's table come from, back to the goal.
use Rattle.std.specs.Prelude.{◌≡◌, ℕ, List, Some, slice_get}
use Rattle.std.specs.List.{Contains}
use Rattle.hk_term.specs.declared.bounds.Bound.{Bound}
use Rattle.hk_term.specs.declared.node.Node.{Node}
use Rattle.hk_term.specs.declared.node.Node.TheVariants.{Select, ForAll}
use Rattle.hk_blast.specs.Blasted.{IsPart}
use Rattle.hk_inst.specs.declared.opening.Opening.{Opening}
use Rattle.hk_inst.specs.Demanded.{IsAgreement, IsImplication}

-- a term is the goal, a part of a term that arises or the place of such a read, or it is required: of a quantifier that arises, as it was
-- opened, or by one of the terms that were required of instances, which speak of reads and quantifiers that arise
pub data Arises (nodes : List Node) (goal : ℕ) (openings : List Opening) (demands : List ℕ) : ℕ → Type 0 where
  goal : Arises nodes goal openings demands goal
  part : (t k : ℕ) (n : Node) → slice_get nodes t ≡ Some n → IsPart n k → Arises nodes goal openings demands t → Arises nodes goal openings demands k
  place : (t array size i : ℕ) → slice_get nodes t ≡ Some (Select array size i) → Arises nodes goal openings demands t → Arises nodes goal openings demands i
  refuted : (o : Opening) → Contains openings o → Arises nodes goal openings demands o.term → Arises nodes goal openings demands o.demand
  agreed : (r s i j d : ℕ) → Contains demands d → IsAgreement nodes r s i j d → Arises nodes goal openings demands r → Arises nodes goal openings demands s → Arises nodes goal openings demands i → Arises nodes goal openings demands j → Arises nodes goal openings demands d
  implied : (q b body d : ℕ) (bound : List Bound) → Contains demands d → IsImplication nodes q b d → slice_get nodes q ≡ Some (ForAll bound body) → Arises nodes goal openings demands q → Arises nodes goal openings demands d
