use Rattle.std.proofs.Common.{◌≡◌, ◌<◌, length, sym, subst, ◌∙◌, ap, false, List, ℕ, [], rules}
use Rattle.std.specs.Prelude.{replicate}
use Rattle.std.specs.List.{All}
use Rattle.spec_strays.specs.Search.{state_of, State, IsSearch, with_waiting, all_met, left_of}
use Rattle.spec_strays.proofs.Searching.{begun, targets_inside, stepped, closer, ended}
use Rattle.spec_strays.proofs.search.reached.Goals as goal

pub more-init : goal.more-init
more-init c =
    subst (IsSearch c.args.graph.now c.args.starts.items) (sym (c.in_ok-search.ensures ∙ ap (λ n. with_waiting (replicate n false) c.args.starts.items) c.len.ensures))
    (begun c.args.graph.now c.args.starts.items c.requires.starts)

pub meet_all-requires : goal.meet_all-requires
meet_all-requires c =
    subst (λ (ts : List ℕ). All (λ v. v < length c.more.search.marks.items) ts) (sym c.of.ensures)
    (targets_inside c.args.graph.now c.args.starts.items (state_of c.more.search) c.pop.new.self.items c.in-Some.node c.more.invariant c.in-Some.ensures.items c.requires.within)

pub more-smaller : goal.more-smaller
more-smaller c =
    subst (λ (t : State). left_of t < left_of (state_of c.more.search))
    (sym (c.in_ok-meet_all.ensures ∙ ap (all_met (with_waiting c.more.search.marks.items c.pop.new.self.items)) c.of.ensures))
    (closer c.args.graph.now c.args.starts.items (state_of c.more.search) c.pop.new.self.items c.in-Some.node c.more.invariant c.in-Some.ensures.items c.requires.within)

pub more-preserved : goal.more-preserved
more-preserved c =
    subst (IsSearch c.args.graph.now c.args.starts.items)
    (sym (c.in_ok-meet_all.ensures ∙ ap (all_met (with_waiting c.more.search.marks.items c.pop.new.self.items)) c.of.ensures))
    (stepped c.args.graph.now c.args.starts.items (state_of c.more.search) c.pop.new.self.items c.in-Some.node c.more.invariant c.in-Some.ensures.items c.requires.within)

pub returns : goal.returns
returns c =
    let none : c.more.search.waiting.items ≡ [] = search rules in
    ended c.args.graph.now c.args.starts.items (state_of c.more.search) c.more.invariant none
