use Rattle.std.proofs.Common.{◌≡◌, ◌+◌, ◌++◌, ◌∷◌, [], All, sym, ◌∙◌, ap, subst, arith}
use Rattle.std.proofs.lemmas.List.Elements.{All-push}
use Rattle.hk_cnf.specs.Literal.{IsWithin}
use Rattle.hk_cnf.specs.Circuit.{variable}
use Rattle.hk_circuit.proofs.WordNumbers.{within_more, size-push}
use Rattle.hk_blast.proofs.FreshWords.{IsWidened, widened-same, widened-more, widened-vars, widened-number, widened-required, widened-free, widened-chosen, variables-more}
use Rattle.hk_blast.proofs.input.input_word.Goals as goal

pub returns-in_err-lit-clause-keeps_words : goal.returns-in_err-lit-clause-keeps_words
returns-in_err-lit-clause-keeps_words c = λ ls w v. widened-number _ _ _ (widened-same _ _ _ _ c.loop-i.invariant.widened c.in_err-lit.ensures.err) ls v

pub returns-in_err-lit-clause-required : goal.returns-in_err-lit-clause-required
returns-in_err-lit-clause-required c = widened-required _ _ _ (widened-same _ _ _ _ c.loop-i.invariant.widened c.in_err-lit.ensures.err)

pub returns-in_err-push-clause-keeps_words : goal.returns-in_err-push-clause-keeps_words
returns-in_err-push-clause-keeps_words c = λ ls w v. widened-number _ _ _ (widened-more _ _ _ _ c.loop-i.invariant.widened c.in_ok-lit.ensures.circuit) ls v

pub returns-in_err-push-clause-required : goal.returns-in_err-push-clause-required
returns-in_err-push-clause-required c = widened-required _ _ _ (widened-more _ _ _ _ c.loop-i.invariant.widened c.in_ok-lit.ensures.circuit)

pub loop-i-preserved : goal.loop-i-preserved
loop-i-preserved c =
    let old = c.args.gates.now in
    let i = c.loop-i.invariant in
    let next : IsWidened old (c.loop-i.i + 1) c.fresh.new.self = widened-more old c.loop-i.gates c.fresh.new.self c.loop-i.i i.widened c.in_ok-lit.ensures.circuit in
    let grown : c.push.new.self.items ≡ c.loop-i.word.items ++ c.in_ok-lit.lit ∷ [] = c.in_ok-push.ensures.items in
    let place : c.loop-i.gates.vars ≡ old.vars + c.loop-i.i = widened-vars old c.loop-i.gates c.loop-i.i i.widened in
    record {
      widened = next;
      grows = λ d g. c.fresh.ensures.grows d (i.grows d g);
      items = grown
          ∙ ((λ j. i.items j ++ (c.in_ok-lit.ensures.literal ∙ ap variable place) j ∷ [])
          ∙ variables-more old.vars c.loop-i.i);
      size = size-push c.loop-i.word.items c.push.new.self.items c.in_ok-lit.lit c.loop-i.i grown i.size;
      within = subst (λ ls. All (IsWithin c.fresh.new.self.vars) ls) (sym grown)
          (All-push (IsWithin c.fresh.new.self.vars) c.loop-i.word.items c.in_ok-lit.lit (within_more c.loop-i.gates.vars c.fresh.new.self.vars c.loop-i.word.items c.fresh.ensures.vars i.within) c.in_ok-lit.ensures.within);
    }

pub returns-clause-keeps_words : goal.returns-clause-keeps_words
returns-clause-keeps_words c = λ ls w v. widened-number _ _ _ c.loop-i.invariant.widened ls v

pub returns-clause-required : goal.returns-clause-required
returns-clause-required c = widened-required _ _ _ c.loop-i.invariant.widened

pub returns-clause-free : goal.returns-clause-free
returns-clause-free c = omega (arith, widened-free _ _ _ c.loop-i.invariant.widened, c.loop-i-test.false, c.loop-i.auto.i-end)

pub returns-clause-chosen : goal.returns-clause-chosen
returns-clause-chosen c = λ p b _ v. widened-chosen _ _ _ p c.loop-i.invariant.widened b v
