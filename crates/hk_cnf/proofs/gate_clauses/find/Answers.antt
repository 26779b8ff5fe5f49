use Rattle.std.proofs.Common.{◌∙◌, sym, ◌+◌, ◌<◌, ◌^◌}
use Rattle.hk_cnf.proofs.Keys.{lookup-key}
use Rattle.hk_cnf.proofs.Running.{Each-All, Each-found}
use Rattle.hk_cnf.proofs.gate_clauses.find.Goals as goal

pub of_place-requires : goal.of_place-requires
of_place-requires c =
    Each-found (λ g. g.1.output + 1 < 2 ^ 63) c.args.gates.now.entries c.args.op c.in-Some.placed.now
    (Each-All (λ g. g.1.output + 1 < 2 ^ 63) c.args.gates.now.entries c.requires)
    (sym (lookup-key c.args.op c.args.gates.now.entries) ∙ sym c.in-Some.ensures.value)
