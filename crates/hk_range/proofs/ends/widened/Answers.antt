use Rattle.hk_term.specs.Meaning.{value}
use Rattle.hk_range.proofs.ends.widened.Goals as goal

pub returns : goal.returns
returns c = λ v a b k e. record {
  left = c.in_ok-left.ensures a (value c.args.t.now c.args.item.term v) e.left (c.range_of-r.ensures v k);
  right = c.in_ok-right.ensures b (value c.args.t.now c.args.item.term v) e.right (c.range_of-r.ensures v k);
}
