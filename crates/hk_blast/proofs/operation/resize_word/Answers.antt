use Rattle.std.proofs.Common.{sym, subst, ap, ◌∙◌, length}
use Rattle.std.proofs.lemmas.Result.{IfOk-weaker}
use Rattle.hk_cnf.specs.Literal.{IsWithin}
use Rattle.hk_cnf.proofs.CircuitLaws.{IsWithin-neg}
use Rattle.hk_term.specs.Operations.{resize_value}
use Rattle.hk_circuit.specs.Words.{gate_number}
use Rattle.hk_blast.proofs.Bottoms.{is_false}
use Rattle.hk_blast.proofs.operation.resize_word.Goals as goal

pub returns-in-Zero-clause-within : goal.returns-in-Zero-clause-within
returns-in-Zero-clause-within c =
    IfOk-weaker c.zero_extend.result _ _ (λ w h n a t. h n a (subst (IsWithin n) (sym c.negated.ensures.value) (IsWithin-neg n c.args.truth t))) c.zero_extend.ensures.within

pub returns-in-Zero-clause-value : goal.returns-in-Zero-clause-value
returns-in-Zero-clause-value c =
    IfOk-weaker c.zero_extend.result _ _ (λ w h d v t.
    h d v (is_false d c.args.truth c.negated.result v c.requires.truth t c.negated.ensures.value)
    ∙ sym (ap (λ k. resize_value k (length c.args.a.now) c.args.to (gate_number d c.args.a.now v)) c.in-Zero.is)) c.zero_extend.ensures.value

pub returns-in-Sign-clause-within : goal.returns-in-Sign-clause-within
returns-in-Sign-clause-within c = IfOk-weaker c.sign_extend.result _ _ (λ w h n a t. h n a) c.sign_extend.ensures.within
