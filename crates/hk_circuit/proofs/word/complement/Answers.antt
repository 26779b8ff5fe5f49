use Rattle.std.proofs.Common.{All, map, neg_ℤ, subst, sym, ◌∙◌, ap}
use Rattle.std.proofs.lemmas.List.{take_all}
use Rattle.hk_cnf.specs.Literal.{IsWithin}
use Rattle.hk_circuit.specs.Words.{gate_number}
use Rattle.hk_circuit.proofs.WordNumbers.{number-complement, complement-within}
use Rattle.hk_circuit.proofs.word.complement.Goals as goal

pub returns-clause-within : goal.returns-clause-within
returns-clause-within c = λ n w. subst (λ x. All (IsWithin n) x) (sym (c.loop-lit.invariant ∙ ap (map neg_ℤ) (take_all c.loop-lit.lit-index c.args.a.now c.loop-lit-test.false))) (complement-within n c.args.a.now w)

pub returns-clause-value : goal.returns-clause-value
returns-clause-value c = λ d w v. ap (λ x. gate_number d x v) (c.loop-lit.invariant ∙ ap (map neg_ℤ) (take_all c.loop-lit.lit-index c.args.a.now c.loop-lit-test.false)) ∙ number-complement d c.args.a.now v w
