use Rattle.std.proofs.Common.{sym, subst}
use Rattle.std.specs.List.{All}
use Rattle.hk_cnf.specs.Literal.{IsWithin}
use Rattle.hk_blast.proofs.node.blast_resize.Goals as goal

pub returns-clause-within : goal.returns-clause-within
returns-clause-within c =
    c.in_ok-word.ensures.within c.args.gates.now.vars (subst (λ ls. All (IsWithin c.args.gates.now.vars) ls) (sym c.word.ensures) (c.requires.words c.args.a)) c.requires.truth
