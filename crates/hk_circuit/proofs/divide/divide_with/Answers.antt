use Rattle.std.proofs.Common.{◌≡◌, ◌<◌, ◌+◌, ◌-◌, ◌*◌, not, nat_eq, nat_lt, if◌then◌else◌, ℕ, suc, ℤ, pos, Bool, List, [], ◌∷◌, ◌++◌, length, drop, reverse, get_or, All, subst, sym, refl, ◌∙◌, ap, arith, add-one}
use Rattle.std.proofs.lemmas.List.{get_or_default}
use Rattle.std.proofs.lemmas.List.Elements.{All-drop}
use Rattle.hk_cnf.specs.Literal.{IsWithin}
use Rattle.hk_cnf.specs.Circuit.{gate_value}
use Rattle.hk_term.specs.Operations.{udiv_value, urem_value}
use Rattle.hk_circuit.specs.Words.{bit, gate_number}
use Rattle.hk_circuit.proofs.Frames.{followed}
use Rattle.hk_circuit.proofs.WordNumbers.{at, within-push, size-push}
use Rattle.hk_circuit.proofs.LongDivision.{number-above, quotient-step, remainder-step, reverse-push, within-reverse}
use Rattle.hk_circuit.proofs.divide.divide_with.Goals as goal

pub reduce-requires-clause-clear_is : goal.reduce-requires-clause-clear_is
reduce-requires-clause-clear_is c = λ v.
    let start = c.args.gates.now in
    let i = c.loop-j.invariant in
    let n : ℕ = length c.args.b.now in
    let k : ℕ = length c.args.a.now - 1 - c.loop-j.j in
    let f = c.index-flags-i.result in
    let there : k < n = omega (arith, c.requires.same) in
    let wf : IsWithin start.vars f = at start.vars c.args.flags.now k f c.requires.flags (omega (arith, c.requires.same, c.requires.flags_size)) c.index-flags-i.is in
    let is : f ≡ get_or c.args.flags.now k (pos 1) = c.index-flags-i.is ∙ get_or_default c.args.flags.now k f (pos 1) (omega (arith, there, c.requires.flags_size)) in
    let size : length c.as_slice-in-loop-j.result.now ≡ suc c.loop-j.j =
    ap length (c.as_slice-in-loop-j.ensures.value ∙ c.in_ok-word.ensures) ∙ ap suc (ap length c.as_slice.ensures.value ∙ i.rest_size) in
    let from : n - k ≡ length c.as_slice-in-loop-j.result.now = omega (arith, c.requires.same, size) in
    i.frame.keeps f wf.below v
    ∙ (ap (λ l. gate_value start l v) is
    ∙ (c.requires.clear k there v
    ∙ (ap (λ m. nat_eq (gate_number start (drop m c.args.b.now) v) 0) from
    ∙ ap (λ m. nat_eq m 0) (sym (i.frame.keeps_words (drop (length c.as_slice-in-loop-j.result.now) c.args.b.now) (All-drop (IsWithin start.vars) (length c.as_slice-in-loop-j.result.now) c.args.b.now c.requires.second) v)))))

pub loop-j-preserved : goal.loop-j-preserved
loop-j-preserved c =
    let i = c.loop-j.invariant in
    let e = c.in_ok-step.ensures in
    let start = c.args.gates.now in
    let g = c.loop-j.gates in
    let more = c.reduce.new.gates in
    let j : ℕ = c.loop-j.j in
    let n : ℕ = length c.args.a.now in
    let y = c.index-a-i.result in
    let digits : List ℤ = c.loop-j.digits.items in
    let fits = c.in_ok-step.step.fits in
    let grown : c.push.new.self.items ≡ digits ++ fits ∷ [] = c.in_ok-push.ensures.items in
    let wy : IsWithin start.vars y = at start.vars c.args.a.now (n - 1 - j) y c.requires.first (omega arith) c.index-a-i.is in
    let list : c.as_slice-in-loop-j.result.now ≡ y ∷ c.loop-j.rest.items = c.as_slice-in-loop-j.ensures.value ∙ (c.in_ok-word.ensures ∙ ap (λ ls. y ∷ ls) c.as_slice.ensures.value) in
    let size : length c.as_slice-in-loop-j.result.now ≡ j + 1 = ap length list ∙ (ap suc i.rest_size ∙ sym (add-one j)) in
    let word : (v : ℕ → Bool) → gate_number g c.as_slice-in-loop-j.result.now v ≡ bit (gate_value start y v) + 2 * gate_number g c.loop-j.rest.items v =
    λ v. ap (λ ls. gate_number g ls v) list ∙ ap (λ t. bit t + 2 * gate_number g c.loop-j.rest.items v) (i.frame.keeps y wy.below v) in
    record {
      frame = followed i.frame e.frame;
      digits_size = size-push digits c.push.new.self.items fits j grown i.digits_size;
      rest_size = e.size ∙ size;
      digits_within = subst (λ w. All (IsWithin more.vars) w) (sym grown) (within-push g.vars more.vars digits fits e.frame.vars i.digits_within e.fits_within);
      rest_within = e.within;
      quotient = λ v.
          let x : Bool = gate_value start y v in
          let b : ℕ = gate_number start c.args.b.now v in
          let r : ℕ = gate_number g c.loop-j.rest.items v in
          let d : ℕ = gate_number start (drop (n - j) c.args.a.now) v in
          let q : ℕ = gate_number g (reverse digits) v in
          let fit : gate_value more fits v ≡ not (nat_lt (bit x + 2 * r) b) = e.fits v ∙ (λ k. not (nat_lt (word v k) (i.frame.keeps_words c.args.b.now c.requires.second v k))) in
          ap (λ w. gate_number more (reverse w) v) grown
          ∙ (ap (λ w. gate_number more w v) (reverse-push digits fits)
          ∙ ((λ k. bit (fit k) + 2 * e.frame.keeps_words (reverse digits) (within-reverse g.vars digits i.digits_within) v k)
          ∙ (quotient-step j d b q r x (i.quotient v) (i.remainder v)
          ∙ ap (λ m. udiv_value (j + 1) m b) (sym (number-above start c.args.a.now j (n - 1 - j) y v (omega arith) refl c.index-a-i.is)))));
      remainder = λ v.
          let x : Bool = gate_value start y v in
          let b : ℕ = gate_number start c.args.b.now v in
          let r : ℕ = gate_number g c.loop-j.rest.items v in
          let d : ℕ = gate_number start (drop (n - j) c.args.a.now) v in
          let same : gate_number g c.args.b.now v ≡ b = i.frame.keeps_words c.args.b.now c.requires.second v in
          e.value v
          ∙ ((λ k. if nat_lt (word v k) (same k) then word v k else word v k - same k)
          ∙ (remainder-step j d b r x (i.remainder v)
          ∙ ap (λ m. urem_value (j + 1) m b) (sym (number-above start c.args.a.now j (n - 1 - j) y v (omega arith) refl c.index-a-i.is))));
    }

pub returns-in_err-step-clause-frame : goal.returns-in_err-step-clause-frame
returns-in_err-step-clause-frame c = followed c.loop-j.invariant.frame c.reduce.ensures.frame

pub returns-in_err-push-clause-frame : goal.returns-in_err-push-clause-frame
returns-in_err-push-clause-frame c = followed c.loop-j.invariant.frame c.in_ok-step.ensures.frame
