use Rattle.std.proofs.Common.{◌≡◌, ◌-◌, ◌&&◌, not, nat_eq, ℕ, [], ◌∷◌, ◌++◌, length, drop, All, subst, sym, refl, ◌∙◌, ap, arith}
use Rattle.std.proofs.lemmas.List.Elements.{All-drop}
use Rattle.hk_cnf.specs.Literal.{IsWithin}
use Rattle.hk_cnf.specs.Circuit.{gate_value}
use Rattle.hk_circuit.specs.Words.{gate_number}
use Rattle.hk_circuit.proofs.Frames.{followed}
use Rattle.hk_circuit.proofs.Negated.{value_negated}
use Rattle.hk_circuit.proofs.WordNumbers.{at, words, within-push, size-push}
use Rattle.hk_circuit.proofs.LongDivision.{number-above, clear-step, flags-step}
use Rattle.hk_circuit.proofs.divide.clear_flags.Goals as goal

pub loop-k-preserved : goal.loop-k-preserved
loop-k-preserved c =
    let i = c.loop-k.invariant in
    let e = c.in_ok-clear.ensures in
    let start = c.args.gates.now in
    let g = c.loop-k.gates in
    let more = c.and.new.gates in
    let b = c.index-b-top.result in
    let k : ℕ = c.loop-k.k in
    let grown : c.push.new.self.items ≡ c.loop-k.flags.items ++ c.loop-k.clear ∷ [] = c.in_ok-push.ensures.items in
    let wb : IsWithin start.vars b = at start.vars c.args.b.now (length c.args.b.now - 1 - k) b c.requires.word (omega arith) c.index-b-top.is in
    let wc : IsWithin more.vars c.loop-k.clear = record { literal = i.clear_within.literal; below = omega (arith, i.clear_within.below, e.frame.vars) } in
    record {
      frame = followed i.frame e.frame;
      size = size-push c.loop-k.flags.items c.push.new.self.items c.loop-k.clear k grown i.size;
      within = subst (λ w. All (IsWithin more.vars) w) (sym grown) (within-push g.vars more.vars c.loop-k.flags.items c.loop-k.clear e.frame.vars i.within wc);
      clear_within = e.within;
      clear = λ v.
          let n : ℕ = gate_number start (drop (length c.args.b.now - k) c.args.b.now) v in
          let turned : gate_value g c.negated.result v ≡ not (gate_value start b v) =
          ap (λ l. gate_value g l v) c.negated.ensures.value ∙ (value_negated g b v wb.literal ∙ ap not (i.frame.keeps b wb.below v)) in
          e.value v
          ∙ ((λ j. i.clear v j && turned j)
          ∙ (clear-step (gate_value start b v) n
          ∙ ap (λ m. nat_eq m 0) (sym (number-above start c.args.b.now k (length c.args.b.now - 1 - k) b v (omega arith) refl c.index-b-top.is))));
      flags = flags-step start g more c.loop-k.flags.items c.push.new.self.items c.args.b.now c.loop-k.clear k grown i.size i.within i.clear_within e.frame.keeps i.clear i.flags;
    }

pub returns-clause-value : goal.returns-clause-value
returns-clause-value c = λ k h v.
    let start = c.args.gates.now in
    c.loop-k.invariant.flags k (omega arith) v
    ∙ ap (λ n. nat_eq n 0) (sym (words start c.loop-k.gates c.loop-k.invariant.frame.keeps (drop (length c.args.b.now - k) c.args.b.now) (All-drop (IsWithin start.vars) (length c.args.b.now - k) c.args.b.now c.requires.word) v))

pub returns-in_err-clear-clause-frame : goal.returns-in_err-clear-clause-frame
returns-in_err-clear-clause-frame c = followed c.loop-k.invariant.frame c.and.ensures.frame
