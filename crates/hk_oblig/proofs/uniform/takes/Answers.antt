use Rattle.std.proofs.Common.{◌≡◌, Some, sym, ap, ◌∙◌, subst}
use Rattle.std.specs.Prelude.{slice_get}
use Rattle.hk_term.specs.Shape.{width}
use Rattle.hk_oblig.proofs.UniformLaws.{Agrees, IsPlain, plain_goes, var_goes, read_goes, var_wide, read_wide}
use Rattle.hk_oblig.proofs.uniform.takes.Goals as goal

pub returns-in_ok-fine-in-Var : goal.returns-in_ok-fine-in-Var
returns-in_ok-fine-in-Var c =
    let ns = c.args.terms.now in
    let n = c.node.result.now in
    let size = c.in-Var.width in
    let id = c.in-Var.id in
    let at : slice_get ns c.args.place ≡ Some n = subst (λ k. slice_get ns k ≡ Some n) c.at.ensures c.node.ensures.at in
    let a : Agrees c.args.variables.now c.agrees.new.table id size c.in_ok-fine-in-Var.fine = record {
      same = c.in_ok-fine-in-Var.ensures.same;
      kept = c.in_ok-fine-in-Var.ensures.kept;
      other = c.in_ok-fine-in-Var.ensures.other;
      apart = c.in_ok-fine-in-Var.ensures.apart;
    } in
    var_goes ns c.args.place size id c.args.variables.now c.args.arrays.now c.agrees.new.table c.in_ok-fine-in-Var.fine (at ∙ ap Some c.in-Var.is)
    (var_wide c.at.result (width ns) n size id c.node.ensures.holds.fits c.in-Var.is) a c.requires.tables

pub returns-in_ok-fine-in-Select : goal.returns-in_ok-fine-in-Select
returns-in_ok-fine-in-Select c =
    let ns = c.args.terms.now in
    let n = c.node.result.now in
    let size = c.in-Select.width in
    let array = c.in-Select.array in
    let at : slice_get ns c.args.place ≡ Some n = subst (λ k. slice_get ns k ≡ Some n) c.at.ensures c.node.ensures.at in
    let a : Agrees c.args.arrays.now c.agrees-in-Select.new.table array size c.in_ok-fine-in-Select.fine = record {
      same = c.in_ok-fine-in-Select.ensures.same;
      kept = c.in_ok-fine-in-Select.ensures.kept;
      other = c.in_ok-fine-in-Select.ensures.other;
      apart = c.in_ok-fine-in-Select.ensures.apart;
    } in
    read_goes ns c.args.place size array c.in-Select.index c.args.variables.now c.args.arrays.now c.agrees-in-Select.new.table c.in_ok-fine-in-Select.fine (at ∙ ap Some c.in-Select.is)
    (read_wide c.at.result (width ns) n size array c.in-Select.index c.node.ensures.holds.fits c.in-Select.is) a c.requires.tables

pub returns-in-Const : goal.returns-in-Const
returns-in-Const c =
    let ns = c.args.terms.now in
    let n = c.node.result.now in
    let at : slice_get ns c.args.place ≡ Some n = subst (λ k. slice_get ns k ≡ Some n) c.at.ensures c.node.ensures.at in
    plain_goes ns c.args.place n c.args.variables.now c.args.arrays.now at (subst IsPlain (sym c.in-Const.is) tt) c.requires.tables

pub returns-in-Unary : goal.returns-in-Unary
returns-in-Unary c =
    let ns = c.args.terms.now in
    let n = c.node.result.now in
    let at : slice_get ns c.args.place ≡ Some n = subst (λ k. slice_get ns k ≡ Some n) c.at.ensures c.node.ensures.at in
    plain_goes ns c.args.place n c.args.variables.now c.args.arrays.now at (subst IsPlain (sym c.in-Unary.is) tt) c.requires.tables

pub returns-in-Binary : goal.returns-in-Binary
returns-in-Binary c =
    let ns = c.args.terms.now in
    let n = c.node.result.now in
    let at : slice_get ns c.args.place ≡ Some n = subst (λ k. slice_get ns k ≡ Some n) c.at.ensures c.node.ensures.at in
    plain_goes ns c.args.place n c.args.variables.now c.args.arrays.now at (subst IsPlain (sym c.in-Binary.is) tt) c.requires.tables

pub returns-in-Choose : goal.returns-in-Choose
returns-in-Choose c =
    let ns = c.args.terms.now in
    let n = c.node.result.now in
    let at : slice_get ns c.args.place ≡ Some n = subst (λ k. slice_get ns k ≡ Some n) c.at.ensures c.node.ensures.at in
    plain_goes ns c.args.place n c.args.variables.now c.args.arrays.now at (subst IsPlain (sym c.in-Choose.is) tt) c.requires.tables

pub returns-in-Resize : goal.returns-in-Resize
returns-in-Resize c =
    let ns = c.args.terms.now in
    let n = c.node.result.now in
    let at : slice_get ns c.args.place ≡ Some n = subst (λ k. slice_get ns k ≡ Some n) c.at.ensures c.node.ensures.at in
    plain_goes ns c.args.place n c.args.variables.now c.args.arrays.now at (subst IsPlain (sym c.in-Resize.is) tt) c.requires.tables

pub returns-in-ForAll : goal.returns-in-ForAll
returns-in-ForAll c =
    let ns = c.args.terms.now in
    let n = c.node.result.now in
    let at : slice_get ns c.args.place ≡ Some n = subst (λ k. slice_get ns k ≡ Some n) c.at.ensures c.node.ensures.at in
    plain_goes ns c.args.place n c.args.variables.now c.args.arrays.now at (subst IsPlain (sym c.in-ForAll.is) tt) c.requires.tables
