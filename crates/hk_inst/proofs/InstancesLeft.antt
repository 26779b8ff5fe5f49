-- How the number of instances that are left changes.
use Rattle.std.proofs.Common.{◌≡◌, ℕ, ◌+◌, ◌*◌, ◌<◌, ◌≤◌, ◌++◌, List, [], ◌∷◌, length, ◌∙◌, ap, arith}
use Rattle.std.proofs.lemmas.List.{length-append}
use Rattle.hk_term.specs.declared.node.Node.{Node}
use Rattle.hk_term.specs.Shape.{Grows}
use Rattle.hk_copy.proofs.CostLaws.{cost-longer}
use Rattle.hk_inst.specs.declared.state.State.{State}
use Rattle.hk_inst.specs.declared.instance.Instance.{Instance}
use Rattle.hk_inst.specs.Questions.{Asked}
use Rattle.hk_inst.specs.Left.{room, left}
use Rattle.hk_inst.specs.Adding.{Lengthened}
use Rattle.hk_inst.specs.States.{asked_of, IsKept}
use Rattle.hk_inst.proofs.Room.{IsRooted, has-room}

rooted : (s : State) → IsKept s → IsRooted (asked_of s)
rooted s k = record {
  fit = k.growing.base.fit;
  blasted = k.growing.base.blasted;
  openings = λ o c. (k.growing.opened.openings_are o c).1;
  once = k.growing.opened.once;
  demands = k.growing.required.demands;
  stepped = k.stepped;
  arises = k.growing.base.arises;
  each_once = k.once;
}

-- a question has no more instances than its goal has room for
pub kept-room : (s : State) → IsKept s → length s.instances ≤ room s.terms s.goal
kept-room s k = has-room (asked_of s) (rooted s k)

-- the room is the goal's, whatever comes behind it
pub same-room : (old new : List Node) (goal : ℕ) → Grows old new → goal < length old → room new goal ≡ room old goal
same-room old new goal g l = λ i. cost-longer old new g goal l i * cost-longer old new g goal l i + cost-longer old new g goal l i

room-later : (p q : Asked) → Lengthened p q → p.goal < length p.nodes → room q.nodes q.goal ≡ room p.nodes p.goal
room-later p q l h = ap (room q.nodes) l.goal ∙ same-room p.nodes q.nodes p.goal l.nodes h

-- what is left does not rise
pub left-no_more : (p q : Asked) → Lengthened p q → p.goal < length p.nodes → left q ≤ left p
left-no_more p q l h = omega (arith, room-later p q l h, ap length l.instances.1, length-append p.instances l.instances.0)

-- and an instance that comes in lowers it
pub left-falls : (p : Asked) (t : State) → Lengthened p (asked_of t) → p.goal < length p.nodes → IsKept t → (i : Instance) → t.instances ≡ p.instances ++ i ∷ [] → left (asked_of t) < left p
left-falls p t l h k i e = omega (arith, room-later p (asked_of t) l h, kept-room t k, ap length e, length-append p.instances (i ∷ []))
