use Rattle.std.proofs.Common.{◌≡◌, ◌+◌, ◌-◌, ◌≤◌, ◌<◌, ◌^◌, length, drop, ◌∙◌, ap, arith, length-append}
use Rattle.std.proofs.lemmas.List.{length-drop}
use Rattle.hk_cnf.specs.Clauses.{Clauses}
use Rattle.hk_cdcl.proofs.Growing.{ordered-fits}
use Rattle.hk_cdcl.proofs.solver.grow_search.Goals as goal

pub raise-requires : goal.raise-requires
raise-requires c =
    let all : c.len-few.result ≡ length c.args.list.now.clauses + length (drop c.args.given c.args.search.now.clauses.clauses) =
    c.len-few.ensures.value ∙ (ap (λ (k : Clauses). length k.clauses) c.in_ok-joined.ensures ∙ length-append c.args.list.now.clauses (drop c.args.given c.args.search.now.clauses.clauses)) in
    let rest : length (drop c.args.given c.args.search.now.clauses.clauses) ≡ length c.args.search.now.clauses.clauses - c.args.given = length-drop c.args.given c.args.search.now.clauses.clauses in
    let few : c.len-few.result < 2 ^ 64 = omega arith in
    let list : c.len.result ≡ length c.args.list.now.clauses = c.len.ensures.value in
    let count : c.args.given + length c.args.search.now.log ≡ length c.args.search.now.clauses.clauses = c.requires.count in
    let inside : c.args.given ≤ length c.args.search.now.clauses.clauses = c.requires.inside in
    let longer : c.args.given ≤ length c.args.list.now.clauses = c.requires.longer in
    ordered-fits c.args.given (c.len.result - c.args.given) c.args.given (length c.args.search.now.clauses.clauses) c.args.search.now.log c.requires.ordered (omega (arith, count)) (omega (arith, all, rest, few, list, inside, longer))
