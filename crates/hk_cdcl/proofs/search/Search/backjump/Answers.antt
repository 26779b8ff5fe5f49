use Rattle.std.proofs.Common.{◌≡◌, ◌+◌, ◌-◌, ◌<◌, length, get_or, sym, ◌∙◌, ap, subst, arith}
use Rattle.std.specs.Vec.{vec_len}
use Rattle.std.proofs.lemmas.Grind.{common_steps}
use Rattle.std.proofs.lemmas.List.{get_or_default, length_push}
use Rattle.hk_lrat.specs.declared.log.LratRow.TheVariants.{Add}
use Rattle.hk_cdcl.specs.Searching.{IsJump}
use Rattle.hk_cdcl.proofs.Leveling.{level-last, level-named}
use Rattle.hk_cdcl.proofs.Going.{back-of, back-grows}
use Rattle.hk_cdcl.proofs.search.Search.backjump.Goals as goal

pub returns-clause-back : goal.returns-clause-back
returns-clause-back c =
    let n : vec_len c.args.self.now.levels ≡ length c.args.self.now.levels.items = grind (arith, common_steps) in
    let some : 0 < length c.args.self.now.levels.items = c.requires.some in
    let l : c.len.result ≡ vec_len c.args.self.now.levels = c.len.ensures in
    let last : (c.len.result - 1) + 1 ≡ length c.args.self.now.levels.items = omega (arith, n, some, l) in
    let below : c.index-below.result.now ≡ get_or c.args.self.now.levels.items (c.len.result - 1) 0 = c.index-below.ensures ∙ get_or_default c.args.self.now.levels.items (c.len.result - 1) c.index-below.result.now 0 (omega (arith, last)) in
    back-of c.args.self.now c.cut.new.self (c.len.result - 1) c.index-below.result.now c.in_ok-clause.field-0.rest c.drop_levels-target.result c.in_ok-clause.field-0.clause.items c.in_ok-clause.field-0.hints
    c.len-path.ensures.path c.requires.leveled last below c.in_ok-clause.ensures.learned
    (subst (λ v. IsJump c.args.self.now.levels.items (v).items c.in_ok-clause.field-0.rest c.drop_levels-target.result) (sym c.cut.ensures.levels) c.drop_levels-target.ensures)
    (c.cut.ensures.clauses ∙ c.in_ok-add_row.ensures.clauses) c.cut.ensures.trail (ap length c.cut.ensures.seen ∙ c.in_ok-clause.ensures.len)
    (let e : c.cut.new.self.left ≡ c.args.self.now.left - 1 = c.cut.ensures.left in let p : 0 < c.args.self.now.left = c.requires.left in omega (arith, e, p))

pub returns-clause-grows : goal.returns-clause-grows
returns-clause-grows c =
    let n : vec_len c.args.self.now.levels ≡ length c.args.self.now.levels.items = grind (arith, common_steps) in
    let some : 0 < length c.args.self.now.levels.items = c.requires.some in
    let l : c.len.result ≡ vec_len c.args.self.now.levels = c.len.ensures in
    let last : (c.len.result - 1) + 1 ≡ length c.args.self.now.levels.items = omega (arith, n, some, l) in
    let below : c.index-below.result.now ≡ get_or c.args.self.now.levels.items (c.len.result - 1) 0 = c.index-below.ensures ∙ get_or_default c.args.self.now.levels.items (c.len.result - 1) c.index-below.result.now 0 (omega (arith, last)) in
    back-grows c.args.self.now c.cut.new.self (c.len.result - 1) c.index-below.result.now c.in_ok-clause.field-0.rest c.drop_levels-target.result c.drop_levels-target.new.levels.items c.in_ok-clause.field-0.clause.items c.in_ok-clause.field-0.hints
    c.len-path.ensures.path c.requires.leveled last below c.in_ok-clause.ensures.learned c.drop_levels-target.ensures
    (c.cut.ensures.clauses ∙ c.in_ok-add_row.ensures.clauses) (c.cut.ensures.log ∙ c.in_ok-add_row.ensures.log)

pub returns-clause-spends : goal.returns-clause-spends
returns-clause-spends c =
    let e : c.cut.new.self.left ≡ c.args.self.now.left - 1 = c.cut.ensures.left in
    let p : 0 < c.args.self.now.left = c.requires.left in
    let l : length c.cut.new.self.log ≡ length c.args.self.now.log + 1 = ap length (c.cut.ensures.log ∙ c.in_ok-add_row.ensures.log) ∙ length_push c.args.self.now.log (Add (length c.args.self.now.clauses.clauses + 1) c.in_ok-clause.field-0.clause.items c.in_ok-clause.field-0.hints) in
    omega (arith, e, p, l)

pub learn-requires-clause-named : goal.learn-requires-clause-named
learn-requires-clause-named c = level-named c.args.self.now.clauses c.args.self.now.trail c.args.self.now.levels.items c.requires.leveled.0

pub learn-requires-clause-level : goal.learn-requires-clause-level
learn-requires-clause-level c =
    let n : vec_len c.args.self.now.levels ≡ length c.args.self.now.levels.items = grind (arith, common_steps) in
    let some : 0 < length c.args.self.now.levels.items = c.requires.some in
    let l : c.len.result ≡ vec_len c.args.self.now.levels = c.len.ensures in
    let last : (c.len.result - 1) + 1 ≡ length c.args.self.now.levels.items = omega (arith, n, some, l) in
    let below : c.index-below.result.now ≡ get_or c.args.self.now.levels.items (c.len.result - 1) 0 = c.index-below.ensures ∙ get_or_default c.args.self.now.levels.items (c.len.result - 1) c.index-below.result.now 0 (omega (arith, last)) in
    level-last c.args.self.now.clauses c.args.self.now.trail c.args.self.now.levels.items (c.len.result - 1) c.index-below.result.now c.requires.leveled.0 last below
