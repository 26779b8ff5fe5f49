use Rattle.std.proofs.Common.{rules, ◌<◌, ◌^◌, arith}
use Rattle.hk_lrat.specs.Ranks.{AreRising, AreSplit}
use Rattle.hk_lrat.proofs.Ranking.{over-ranks}
use Rattle.hk_lrat.proofs.rank.over_ranks.Goals as goal

pub returns : goal.returns
returns c =
    let up : AreRising c.args.places.now = search rules in
    let split : AreSplit c.args.places.now c.count_below-count.result c.args.list.now.vars = search rules in
    let small : c.args.list.now.vars < 2 ^ 64 = omega (arith, c.vars-vars.ensures.few) in
    over-ranks c.args.places.now c.count_below-count.result c.args.list.now c.in-Some.few c.args.log.now c.in-Some-2.rows up c.are_words.ensures split small (search rules) (search rules) (search rules)
