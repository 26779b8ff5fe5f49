use Rattle.std.proofs.Common.{◌≡◌, [], ◌∷◌, ◌+◌, ◌∙◌, drop, map, ap, refl, sym}
use Rattle.spec_tree.specs.Sorted.{lets_of, with_locals}
use Rattle.spec_tree.specs.View.{view_line, view_spec}
use Rattle.hk_symspec.specs.Lines.{line_context}
use Rattle.hk_symspec.proofs.LineLaws.{drop_end, followed, leads_on, led_on, line_behind, line_sorted, part_at, unchanged}
use Rattle.hk_symspec.proofs.lines.go_through.Goals as goal

pub each-init : goal.each-init
each-init g c = record {
  point = c.requires.point;
  sorted = c.requires.sorted;
  context = refl;
  reads = λ v env h. record { now = env; reads = h; ends = refl };
  keeps = unchanged c.args.t.now;
}

pub go_on-requires-clause-sorted : goal.go_on-requires-clause-sorted
go_on-requires-clause-sorted g c =
    let c0 = line_context (view_spec c.args.setting.now.spec.now) c.args.setting.now.args.now c.each.locals.items in
    let l = view_line c.line-item.result in
    (line_sorted c0 (with_locals c0 (lets_of (l ∷ []))) l (map view_line (drop c.each.line-index c.args.lines.now)) (map view_line (drop (c.each.line-index + 1) c.args.lines.now))
    (ap (map view_line) (part_at c.args.lines.now c.each.line-index c.line-item.result c.line-item.is c.each-test.true)) refl c.each.invariant.sorted).0

pub each-preserved : goal.each-preserved
each-preserved g c =
    let s = view_spec c.args.setting.now.spec.now in
    let args = c.args.setting.now.args.now in
    let c0 = line_context s args c.each.locals.items in
    let c1 = line_context s args c.go_on.new.locals.items in
    let l = view_line c.line-item.result in
    let left = map view_line (drop c.each.line-index c.args.lines.now) in
    let rest = map view_line (drop (c.each.line-index + 1) c.args.lines.now) in
    let is : left ≡ l ∷ rest = ap (map view_line) (part_at c.args.lines.now c.each.line-index c.line-item.result c.line-item.is c.each-test.true) in
    let context = c.in_ok-go_on.ensures.context in
    record {
      point = c.in_ok-go_on.ensures.point;
      sorted = (line_sorted c0 c1 l left rest is context c.each.invariant.sorted).1;
      context = line_behind c0 c1 l left rest is context ∙ c.each.invariant.context;
      reads = λ v env h. leads_on s c.each.t c.go_on.new.t c.args.setting.now.state.now args c.args.setting.now.known.now c.each.locals.items c.go_on.new.locals.items c.each.writes.items c.go_on.new.writes.items
          l left rest is context c.in_ok-go_on.ensures.reads v _ (c.each.invariant.reads v env h);
      keeps = followed c.args.t.now c.each.t c.go_on.new.t c.each.invariant.keeps c.go_on.ensures.keeps;
    }

pub returns-in_err-go_on-clause-keeps : goal.returns-in_err-go_on-clause-keeps
returns-in_err-go_on-clause-keeps g c = followed c.args.t.now c.each.t c.go_on.new.t c.each.invariant.keeps c.go_on.ensures.keeps

pub returns-clause-context : goal.returns-clause-context
returns-clause-context g c =
    let c0 = line_context (view_spec c.args.setting.now.spec.now) c.args.setting.now.args.now c.each.locals.items in
    sym (ap (λ ls. with_locals c0 (lets_of (map view_line ls))) (drop_end c.args.lines.now c.each.line-index c.each-test.false)) ∙ c.each.invariant.context

pub returns-clause-reads : goal.returns-clause-reads
returns-clause-reads g c = λ v env h.
    led_on (view_spec c.args.setting.now.spec.now) c.each.t c.args.setting.now.state.now c.args.setting.now.args.now c.args.setting.now.known.now c.each.locals.items c.each.writes.items
    (map view_line (drop c.each.line-index c.args.lines.now)) v _ (ap (map view_line) (drop_end c.args.lines.now c.each.line-index c.each-test.false)) (c.each.invariant.reads v env h)
