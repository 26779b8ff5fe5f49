use Rattle.std.proofs.Common.{rules, ◌≡◌, ◌&&◌, ◌||◌, not, false, ◌∙◌, subst, slice_set, slice_index_or}
use Rattle.hk_symvalue.specs.Growth.{Extends}
use Rattle.hk_symvalue.specs.Meaning.{is_true}
use Rattle.hk_symstep.specs.Files.{Covers, registers_of}
use Rattle.ir_machine.specs.Step.{set_all}
use Rattle.hk_symexec.proofs.Kept.{true_kept, operand_same, entries_kept}
use Rattle.hk_symexec.proofs.PhiLaws.{phis_same, covers_kept}
use Rattle.hk_symexec.proofs.jumps.leave.Goals as goal

pub returns-clause-seen : goal.returns-clause-seen
returns-clause-seen c = λ v j.
    let first : Extends c.args.t.now c.and-2.new.t = search rules in
    let frame : Extends c.args.t.now c.set_all.new.t = search rules in
    let edge : is_true c.and-2.new.t c.in_ok-edge.edge v ≡ (is_true c.args.t.now c.args.x.guard v && is_true c.args.t.now c.args.condition v) = search rules in
    let rest : is_true c.set_all.new.t c.in_ok-rest.rest v ≡ (is_true c.args.t.now c.args.x.guard v && not (is_true c.args.t.now c.args.condition v)) = search rules in
    let before = entries_kept c.args.t.now c.and-2.new.t first c.args.x.entries c.requires.state.entries v in
    record {
      guard = rest j;
      entries =
          (entries_kept c.mark.new.t c.set_all.new.t c.set_all.ensures.frame c.in_ok-marked.marked c.in_ok-marked.ensures.within v
          ∙ c.in_ok-marked.ensures.seen v
          ∙ (λ i. slice_set (before i) c.args.to (slice_index_or (before i) c.args.to false || edge i))) j;
      registers = registers_of c.set_all.new.t v c.set_all.new.file;
      back = true_kept c.args.t.now c.set_all.new.t frame c.args.x.back c.requires.state.back v j;
      valued = true_kept c.args.t.now c.set_all.new.t frame c.args.x.valued c.requires.state.valued v j;
      value = operand_same c.args.t.now c.set_all.new.t frame c.args.x.value c.requires.state.value v j;
      stuck = true_kept c.args.t.now c.set_all.new.t frame c.args.x.stuck c.requires.state.stuck v j;
    }

pub returns-clause-here : goal.returns-clause-here
returns-clause-here c = λ v rs on w.
    let first : Extends c.args.t.now c.mark.new.t = search rules in
    let edge : is_true c.mark.new.t c.in_ok-edge.edge v ≡ (is_true c.args.t.now c.args.x.guard v && is_true c.args.t.now c.args.condition v) = search rules in
    subst (λ ps. Covers c.set_all.new.t v c.set_all.new.file (set_all ps rs)) (phis_same c.args.t.now c.mark.new.t first c.args.phis.now c.requires.phis v)
    (c.in_ok-set_all.ensures.here v rs (edge ∙ on) (covers_kept c.args.t.now c.mark.new.t first c.args.x.file c.requires.state.file v rs w))

pub returns-clause-away : goal.returns-clause-away
returns-clause-away c = λ v rs off w.
    let first : Extends c.args.t.now c.mark.new.t = search rules in
    let edge : is_true c.mark.new.t c.in_ok-edge.edge v ≡ (is_true c.args.t.now c.args.x.guard v && is_true c.args.t.now c.args.condition v) = search rules in
    c.in_ok-set_all.ensures.away v rs (edge ∙ off) (covers_kept c.args.t.now c.mark.new.t first c.args.x.file c.requires.state.file v rs w)
