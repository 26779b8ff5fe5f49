use Rattle.std.proofs.Common.{◌%◌, ◌^◌, ap, ◌∙◌}
use Rattle.hk_term.specs.Tables.{entry_at}
use Rattle.hk_oblig.proofs.Turns.{one_pushed}
use Rattle.hk_oblig.proofs.numbers.entries.Goals as goal

pub each-preserved : goal.each-preserved
each-preserved c =
    one_pushed (λ k. entry_at c.args.arrays.now c.args.array k % 2 ^ c.args.width) c.each.numbers.items c.push.new.self.items c.low.result c.each.k c.in_ok-push.ensures.items c.each.invariant
    (c.low.ensures ∙ ap (λ n. n % 2 ^ c.args.width) c.get.ensures)
