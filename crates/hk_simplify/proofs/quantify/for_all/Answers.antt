use Rattle.std.proofs.Common.{◌≡◌, ◌∙◌, ap, sym, nat_eq, true}
use Rattle.std.specs.List.{list_any}
use Rattle.hk_term.specs.Operations.{bit}
use Rattle.hk_simplify.proofs.TupleLaws.{every_tuple-none}
use Rattle.hk_simplify.proofs.quantify.for_all.Goals as goal

pub returns-in_ok-made-clause-value : goal.returns-in_ok-made-clause-value
returns-in_ok-made-clause-value c =
    let none : list_any (λ b. nat_eq b.size 0) c.args.bound ≡ true = cc in
    λ v. c.in_ok-made.ensures.value v ∙ sym (ap bit (every_tuple-none c.args.bound _ v none))
