use Rattle.std.proofs.Common.{◌≡◌, ◌<◌, length, refl, ◌∙◌, ap, arith}
use Rattle.std.specs.Vec.{vec_len}
use Rattle.std.proofs.lemmas.Grind.{common_steps}
use Rattle.std.proofs.lemmas.List.{get_or_default}
use Rattle.hk_cdcl.proofs.Going.{restarted-none, restarted-zero}
use Rattle.hk_cdcl.proofs.search.Search.restart.Goals as goal

pub returns-then-is_empty : goal.returns-then-is_empty
returns-then-is_empty c = restarted-none c.args.self.now c.requires c.len-len.result c.len-len.ensures.value

pub returns-then-not-is_due : goal.returns-then-not-is_due
returns-then-not-is_due c =
    let r = restarted-none c.args.self.now c.requires c.len-len.result c.len-len.ensures.value in
    record { leveled = r.leveled; clauses = refl; log = refl; left = refl; vars = refl; lits = r.lits; inside = r.inside }

pub returns : goal.returns
returns c =
    let n : vec_len c.args.self.now.levels ≡ length c.args.self.now.levels.items = grind (arith, common_steps) in
    let some : 0 < length c.args.self.now.levels.items = grind (arith, common_steps) in
    restarted-zero c.args.self.now c.cut.new.self c.index-zero.result.now c.requires some
    (c.index-zero.ensures ∙ get_or_default c.args.self.now.levels.items 0 c.index-zero.result.now 0 some)
    c.cut.ensures.clauses c.cut.ensures.log c.cut.ensures.trail (ap (λ v. (v).items) c.cut.ensures.levels ∙ c.truncate.ensures.items) (ap length c.cut.ensures.seen) c.cut.ensures.left
