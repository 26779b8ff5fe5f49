use Rattle.std.proofs.Common.{◌≡◌, ◌-◌, ◌<◌, length, get_or, ap, ◌∙◌, arith}
use Rattle.std.specs.Vec.{vec_len}
use Rattle.std.proofs.lemmas.Grind.{common_steps}
use Rattle.std.proofs.lemmas.List.{get_or_default, nil_from_length}
use Rattle.hk_cdcl.proofs.Attaching.{begins-last, begins-none}
use Rattle.hk_cdcl.proofs.watched.Watched.begin.Goals as goal

pub returns-then-len-gt0-clause-begins : goal.returns-then-len-gt0-clause-begins
returns-then-len-gt0-clause-begins c = λ clauses lits f.
    let n : vec_len c.args.self.now.ends ≡ length c.args.self.now.ends.items = grind (arith, common_steps) in
    let l : c.len-len.result ≡ length c.args.self.now.ends.items = c.len-len.ensures ∙ n in
    let some : 0 < length c.args.self.now.ends.items = omega (arith, l) in
    let at : c.index.result.now ≡ get_or c.args.self.now.ends.items (length c.args.self.now.ends.items - 1) 0 =
    c.index.ensures ∙ (ap (λ i. get_or c.args.self.now.ends.items (i - 1) c.index.result.now) l ∙ get_or_default c.args.self.now.ends.items (length c.args.self.now.ends.items - 1) c.index.result.now 0 (omega (arith, some))) in
    begins-last clauses c.args.self.now lits c.index.result.now some at f

pub returns-clause-begins : goal.returns-clause-begins
returns-clause-begins c = λ clauses lits f.
    let n : vec_len c.args.self.now.ends ≡ length c.args.self.now.ends.items = grind (arith, common_steps) in
    let l : c.len-len.result ≡ length c.args.self.now.ends.items = c.len-len.ensures ∙ n in
    begins-none clauses c.args.self.now _ lits c.clear.ensures.lists c.clear.ensures.pairs c.clear.ensures.texts (nil_from_length c.args.self.now.ends.items (omega (arith, l)))
