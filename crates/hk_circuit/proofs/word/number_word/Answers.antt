use Rattle.std.proofs.Common.{◌≡◌, ◌+◌, ◌*◌, ◌^◌, true, false, ℕ, Bool, ℤ, All, neg_ℤ, ◌++◌, ◌∷◌, [], if◌then◌else◌, subst, sym, ◌∙◌, ap}
use Rattle.std.proofs.lemmas.List.Elements.{All-push}
use Rattle.hk_cnf.specs.Literal.{IsWithin}
use Rattle.hk_cnf.proofs.CircuitLaws.{IsWithin-neg}
use Rattle.hk_circuit.specs.Words.{bit, gate_number}
use Rattle.hk_circuit.proofs.WordNumbers.{number-push, size-push}
use Rattle.hk_circuit.proofs.Products.{bit-step, literal-value}
use Rattle.hk_circuit.proofs.word.number_word.Goals as goal

pub loop-i-preserved : goal.loop-i-preserved
loop-i-preserved c =
    let i = c.loop-i.invariant in
    let lit : ℤ = c.constant-lit.result in
    let grown : c.push.new.self.items ≡ c.loop-i.word.items ++ lit ∷ [] = c.in_ok-push.ensures.items in
    record {
      size = size-push c.loop-i.word.items c.push.new.self.items lit c.loop-i.i grown i.size;
      within = λ n w. subst (λ ls. All (IsWithin n) ls) (sym grown) (All-push (IsWithin n) c.loop-i.word.items lit (i.within n w) (subst (IsWithin n) (sym c.constant-lit.ensures) (pick n c.bit_at.result w)));
      value = λ d v t.
          ap (λ ls. gate_number d ls v) grown
          ∙ (number-push d c.loop-i.word.items lit v
          ∙ ((λ j. i.value d v t j + 2 ^ i.size j * bit ((literal-value d lit c.args.truth c.bit_at.result v c.requires.literal t c.constant-lit.ensures ∙ c.bit_at.ensures) j))
          ∙ sym (bit-step c.args.number c.loop-i.i)));
    }
  where
    pick : (n : ℕ) (b : Bool) → IsWithin n c.args.truth → IsWithin n (if b then c.args.truth else neg_ℤ c.args.truth)
    pick n true w = w
    pick n false w = IsWithin-neg n c.args.truth w
