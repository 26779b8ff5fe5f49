use Rattle.std.proofs.Common.{◌≡◌, ◌+◌, ◌*◌, ◌%◌, ◌^◌, not, false, ℕ, Bool, All, length, take, if◌then◌else◌, subst, sym, ◌∙◌, ap, arith}
use Rattle.std.proofs.lemmas.Grind.{common_steps}
use Rattle.std.proofs.lemmas.List.Elements.{All-replicate}
use Rattle.std.proofs.lemmas.Nat.{pow_pos}
use Rattle.hk_cnf.specs.Literal.{IsWithin}
use Rattle.hk_cnf.specs.Circuit.{gate_value}
use Rattle.hk_cnf.proofs.CircuitLaws.{IsWithin-neg}
use Rattle.hk_circuit.specs.Words.{gate_number}
use Rattle.hk_circuit.proofs.Frames.{unchanged, followed}
use Rattle.hk_circuit.proofs.Negated.{value_negated}
use Rattle.hk_circuit.proofs.WordNumbers.{at, number-next}
use Rattle.hk_circuit.proofs.WordArithmetic.{number-zeros}
use Rattle.hk_circuit.proofs.Products.{product-step, zero-product}
use Rattle.hk_circuit.proofs.multiply.multiply.Goals as goal

pub loop-i-init : goal.loop-i-init
loop-i-init c =
    let start = c.args.gates.now in
    let bottom : IsWithin start.vars c.negated-bottom.result = subst (IsWithin start.vars) (sym c.negated-bottom.ensures.value) (IsWithin-neg start.vars c.args.truth c.requires.truth) in
    record {
      frame = unchanged start;
      size = grind (arith, common_steps);
      within = subst (λ ls. All (IsWithin start.vars) ls) (sym c.in_ok-sum.ensures) (All-replicate (IsWithin start.vars) _ c.negated-bottom.result bottom);
      value = λ v.
          let is : gate_value start c.negated-bottom.result v ≡ false =
          ap (λ l. gate_value start l v) c.negated-bottom.ensures.value ∙ (value_negated start c.args.truth v c.requires.truth.literal ∙ ap not (c.requires.truth_is v)) in
          ap (λ ls. gate_number start ls v) c.in_ok-sum.ensures ∙ (number-zeros start c.negated-bottom.result _ v is ∙ zero-product (gate_number start c.args.a.now v) (2 ^ length c.args.a.now) (pow_pos (length c.args.a.now)));
    }

pub partial_product-requires-clause-bottom_is : goal.partial_product-requires-clause-bottom_is
partial_product-requires-clause-bottom_is c = λ v.
    let start = c.args.gates.now in
    let bottom : IsWithin start.vars c.negated-bottom.result = subst (IsWithin start.vars) (sym c.negated-bottom.ensures.value) (IsWithin-neg start.vars c.args.truth c.requires.truth) in
    c.loop-i.invariant.frame.keeps c.negated-bottom.result bottom.below v
    ∙ (ap (λ l. gate_value start l v) c.negated-bottom.ensures.value ∙ (value_negated start c.args.truth v c.requires.truth.literal ∙ ap not (c.requires.truth_is v)))

pub loop-i-preserved : goal.loop-i-preserved
loop-i-preserved c =
    let start = c.args.gates.now in
    let i = c.loop-i.invariant in
    let p = c.in_ok-row.ensures in
    let e = c.in_ok-next.ensures in
    let b = c.index-b-i.result in
    let wb : IsWithin start.vars b = at start.vars c.args.b.now c.loop-i.i b c.requires.second (omega arith) c.index-b-i.is in
    let size : length c.as_slice.result.now ≡ length c.args.a.now = ap length c.as_slice.ensures.value ∙ i.size in
    record {
      frame = followed (followed i.frame p.frame) e.frame;
      size = e.size ∙ size;
      within = e.within;
      value = λ v.
          let a : ℕ = gate_number start c.args.a.now v in
          let low : ℕ = gate_number start (take c.loop-i.i c.args.b.now) v in
          let w : ℕ = 2 ^ length c.args.a.now in
          let x : Bool = gate_value c.loop-i.gates b v in
          let sum : gate_number c.partial_product.new.gates c.as_slice.result.now v ≡ (a * low) % w =
          ap (λ ls. gate_number c.partial_product.new.gates ls v) c.as_slice.ensures.value ∙ (p.frame.keeps_words c.loop-i.sum.items i.within v ∙ i.value v) in
          let row : gate_number c.partial_product.new.gates c.as_slice-in-loop-i.result.now v ≡ (if x then (a * 2 ^ c.loop-i.i) % w else 0) =
          ap (λ ls. gate_number c.partial_product.new.gates ls v) c.as_slice-in-loop-i.ensures.value
          ∙ (p.value v ∙ ap (λ n. if x then (n * 2 ^ c.loop-i.i) % w else 0) (i.frame.keeps_words c.args.a.now c.requires.first v)) in
          e.value v
          ∙ ((λ j. (sum j + row j) % 2 ^ size j)
          ∙ (product-step a low w (2 ^ c.loop-i.i) x
          ∙ ap (λ n. (a * n) % w) (sym (number-next start c.loop-i.gates c.args.b.now c.loop-i.i b v (omega arith) c.index-b-i.is (i.frame.keeps b wb.below v)))));
    }
