use Rattle.std.proofs.Common.{◌≡◌, ◌<◌, ◌^◌, ◌++◌, length, take, subst, ap, ◌∙◌, arith}
use Rattle.std.specs.List.{flat_map}
use Rattle.std.proofs.lemmas.List.{take_all}
use Rattle.hk_cnf.specs.Dimacs.{dimacs_of}
use Rattle.hk_cnf.specs.DimacsText.{header_text, clause_text, list_text}
use Rattle.hk_cnf.proofs.Written.{list-read}
use Rattle.hk_cnf.proofs.dimacs_write.write_dimacs.Goals as goal

pub returns-clause-read : goal.returns-clause-read
returns-clause-read c =
    let few : c.args.list.now.vars < 2 ^ 63 = subst (λ n. n < 2 ^ 63) c.vars-vars.ensures.value c.vars-vars.ensures.few in
    let count : length c.args.list.now.clauses < 2 ^ 64 = subst (λ n. n < 2 ^ 64) c.len-clauses.ensures.value c.len-clauses.type_inv in
    let all : take c.loop-i.i c.args.list.now.clauses ≡ c.args.list.now.clauses = take_all c.loop-i.i c.args.list.now.clauses (omega (arith, c.len-clauses.ensures.value)) in
    let written : c.loop-i.text.items ≡ list_text c.args.list.now =
    c.loop-i.invariant ∙ ap (λ cs. header_text c.args.list.now.vars (length c.args.list.now.clauses) ++ flat_map clause_text cs) all in
    ap dimacs_of written ∙ list-read c.args.list.now few count c.len-clauses.ensures.within
