use Rattle.std.proofs.Common.{◌≡◌, rules, ◌∙◌, ap, nat_eq, Some, None}
use Rattle.std.specs.Map.{lookup}
use Rattle.hk_copy.specs.declared.stand.Stand.TheVariants.{Number, Other}
use Rattle.hk_copy.specs.Stands.{HasWidth}
use Rattle.hk_term.specs.declared.node.Node.TheVariants.{Const}
use Rattle.hk_copy.specs.Copies.Copies.{plain}
use Rattle.hk_copy.proofs.ReadingLaws.{lookup-all}
use Rattle.hk_copy.proofs.MakingLaws.{number_copy, read_copy}
use Rattle.hk_copy.proofs.variable.variable.Goals as goal

pub read_at-requires-clause-from : goal.read_at-requires-clause-from
read_at-requires-clause-from c =
    let found : lookup (nat_eq c.args.id) c.args.stands.now ≡ Some (Other c.in-Some-Other.from c.in-Some-Other.other) = search rules in
    (lookup-all (λ e. HasWidth e.1) c.args.stands.now c.args.id (Other c.in-Some-Other.from c.in-Some-Other.other) c.requires.widths found).1

pub returns-in_ok-copy-in-None-clause-copies : goal.returns-in_ok-copy-in-None-clause-copies
returns-in_ok-copy-in-None-clause-copies c =
    let none : lookup (nat_eq c.args.id) c.args.stands.now ≡ None = search rules in
    λ t at. plain c.args.width c.args.id at c.in_ok-copy-in-None.ensures.at none

pub returns-in_ok-copy-in-Some-Number-clause-copies : goal.returns-in_ok-copy-in-Some-Number-clause-copies
returns-in_ok-copy-in-Some-Number-clause-copies c =
    let found : lookup (nat_eq c.args.id) c.args.stands.now ≡ Some (Number c.in-Some-Number.n) = search rules in
    λ t at.
    number_copy c.put-in-Some-Number.new.terms c.put-in-Some-Number.ensures.fit c.args.stands.now c.args.width c.args.id c.in-Some-Number.n t c.in_ok-copy-in-Some-Number.copy found
    (c.in_ok-copy-in-Some-Number.ensures.at ∙ ap (λ m. Some (Const c.args.width m)) c.low-value.ensures.value) at

pub returns-in_ok-copy-in-Some-Other-clause-copies : goal.returns-in_ok-copy-in-Some-Other-clause-copies
returns-in_ok-copy-in-Some-Other-clause-copies c =
    let found : lookup (nat_eq c.args.id) c.args.stands.now ≡ Some (Other c.in-Some-Other.from c.in-Some-Other.other) = search rules in
    λ t at. read_copy c.read_at.new.terms c.args.stands.now c.args.width c.args.id c.in-Some-Other.from c.in-Some-Other.other t c.in_ok-copy-in-Some-Other.copy found c.in_ok-copy-in-Some-Other.ensures.read at
