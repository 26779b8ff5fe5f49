use Rattle.std.proofs.Common.{◌+◌, List, IfSome, subst}
use Rattle.hk_term.specs.Meaning.{Reading}
use Rattle.hk_range.specs.Ranges.{Knows}
use Rattle.hk_range.specs.Linear.{InEnds, left_items, right_items, numbers}
use Rattle.hk_range.specs.declared.ends.Ends.{Ends}
use Rattle.hk_range.specs.declared.sums.Item.{Item}
use Rattle.hk_range.proofs.ends.ends_of.Goals as goal

pub returns : goal.returns
returns c =
    let s = c.args.s.now in
    let P : List Item → Type 0 = λ xs.
    IfSome c.ends_from.result (λ (e : Ends). (v : Reading) → Knows c.args.t.now c.args.known.now v → InEnds e (s.left + left_items (numbers c.args.t.now v) xs) (s.right + right_items (numbers c.args.t.now v) xs)) in
    subst P c.as_slice.ensures.value c.ends_from.ensures
