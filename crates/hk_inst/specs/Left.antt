-- How many instances are left to a question: a bound that its goal alone gives, without those that were added.
use Rattle.std.specs.Prelude.{◌≡◌, ℕ, ◌+◌, ◌*◌, ◌-◌, false, List, [], ◌∷◌, length}
use Rattle.hk_term.specs.declared.node.Node.{Node}
use Rattle.hk_copy.specs.Cost.{cost}
use Rattle.hk_inst.specs.declared.instance.Instance.{Instance}
use Rattle.hk_inst.specs.Truths.{is_among}
use Rattle.hk_inst.specs.Questions.{Asked}

-- no instance is there twice
abbrev pub AreOnce : List Instance → Type 0
AreOnce [] = Unit {0}
AreOnce (i ∷ is) = (is_among is i ≡ false) × (AreOnce is)

-- so many instances a goal has room for: whatever is added, at most as many reads come in as the goal costs, and the quantifiers that come
-- in have at most so many tuples; an instance is a pair of these reads, or one of these tuples
abbrev pub room : List Node → ℕ → ℕ
room nodes goal = cost nodes goal * cost nodes goal + cost nodes goal

-- so many more can be added
abbrev pub left : Asked → ℕ
left q = room q.nodes q.goal - length q.instances
