use Rattle.std.proofs.Common.{rules, ◌<◌, ◌≤◌, ◌+◌, length, refl}
use Rattle.hk_symexpr.specs.Scope.{scope_of}
use Rattle.hk_symexpr.proofs.Leaves.{key_is, variable_is, at_key, cut_is}
use Rattle.hk_symexpr.proofs.leaf.variable.Goals as goal

pub returns-in_ok-made-clause-term : goal.returns-in_ok-made-clause-term
returns-in_ok-made-clause-term c =
    let low : c.args.k < length c.args.names.now.keys.now = search rules in
    λ source d. key_is source d c.args.t.now c.at_width.new.t (scope_of c.args.names.now) c.args.k c.args.width c.requires.sorted.1 c.in_ok-made.made c.requires.keys c.requires.sorted.2 c.requires.sorted.3 low
    c.in_ok-made.ensures.within c.in_ok-made.ensures.width (at_key c.args.t.now c.at_width.new.t c.key_at.result _ c.args.width c.in_ok-made.made c.key_at.ensures c.in_ok-made.ensures.value)

pub returns-in_ok-made-2-clause-term : goal.returns-in_ok-made-2-clause-term
returns-in_ok-made-2-clause-term c =
    let high : length c.args.names.now.keys.now ≤ c.args.k = search rules in
    λ source d. variable_is source d c.args.t.now c.at_width-else-k-names.new.t (scope_of c.args.names.now) c.args.k c.args.width c.requires.sorted.1 c.in_ok-made-2.made (c.args.names.now.base + c.args.k) c.requires.sorted.2 c.requires.sorted.3 high refl
    c.in_ok-made-2.ensures.within c.in_ok-made-2.ensures.width
    (cut_is c.variable.new.t c.at_width-else-k-names.new.t c.in_ok-wide.wide c.in_ok-made-2.made c.args.width (c.args.names.now.base + c.args.k) c.requires.sorted.0.1 c.in_ok-wide.ensures.value c.in_ok-made-2.ensures.value)
