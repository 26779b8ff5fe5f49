use Rattle.std.proofs.Common.{ap, ◌≡◌, ◌∙◌, ◌∷◌, ◌+◌, map, drop}
use Rattle.spec_tree.specs.View.{view_line}
use Rattle.spec_number.specs.Evaluation.{context_of}
use Rattle.spec_state.specs.Lines.{env_with}
use Rattle.spec_state.proofs.Turns.{part_at}
use Rattle.spec_state.proofs.Points.{lines_sorted, line_stands, lines_context, lines_env}
use Rattle.spec_state.proofs.lines.go_through.Goals as goal

pub each-preserved : goal.each-preserved
each-preserved c =
    let r = c.args.base.now in
    let s = c.each.frame in
    let t = c.go_on.new.frame in
    let n = c.each.new in
    let m = c.go_on.new.new in
    let l = view_line c.line-item.result in
    let left = map view_line (drop c.each.line-index c.args.lines.now) in
    let rest = map view_line (drop (c.each.line-index + 1) c.args.lines.now) in
    let is : left ≡ l ∷ rest = ap (map view_line) (part_at c.args.lines.now c.each.line-index c.line-item.result c.line-item.is c.each-test.true) in
    let context = c.in_ok-go_on.ensures.context in
    let env = c.in_ok-go_on.ensures.env in
    let sorted = lines_sorted (context_of r s) (context_of r t) l left rest is context c.each.invariant.sorted in
    record {
      stands = line_stands r n m s t l c.each.invariant.stands sorted.0 context env;
      sorted = sorted.1;
      context = lines_context (context_of r s) (context_of r t) l left rest is context ∙ c.each.invariant.context;
      env = lines_env (context_of r s) (context_of r t) (env_with r n s) (env_with r m t) l left rest is context env ∙ c.each.invariant.env;
    }
