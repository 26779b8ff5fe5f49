use Rattle.std.proofs.Common.{sym, subst}
use Rattle.ir_ast.specs.ProgramView.{view_module}
use Rattle.hk_symmem.specs.Guarded.{memory_at}
use Rattle.hk_symmem.specs.Origins.{AreOriginsOf}
use Rattle.hk_symexec.specs.Runs.{arguments_at}
use Rattle.hk_symresult.proofs.Bytes.{holds_objects}
use Rattle.hk_symresult.proofs.Calls.{fit_call, has_end}
use Rattle.hk_symresult.proofs.Telling.{told}
use Rattle.hk_symresult.proofs.result.execute_to_result.Goals as goal

pub returns-clause-first : goal.returns-clause-first
returns-clause-first g c = λ v. holds_objects c.args.layout.now.objects c.args.t.now c.args.start.now v c.requires.memory c.in_ok-look_at_objects.ensures

pub returns-clause-objects : goal.returns-clause-objects
returns-clause-objects g c = λ v.
    holds_objects c.args.layout.now.objects c.result_of.new.t c.in_ok-run.run'.memory v
    (subst (AreOriginsOf c.args.layout.now.objects) (sym c.in_ok-run.ensures.origins) c.requires.memory) c.in_ok-look_at_objects.ensures

pub returns-clause-there : goal.returns-clause-there
returns-clause-there g c = λ v.
    has_end (view_module c.args.kernel.now) c.args.called.function _ c.args.called.result_width (arguments_at c.args.t.now v c.args.arguments.now) (memory_at c.args.t.now c.args.start.now v)
    c.requires.runnable c.checked-checked.ensures.ordered c.requires.fit

pub returns-clause-ends : goal.returns-clause-ends
returns-clause-ends g c = λ v.
    let m = view_module c.args.kernel.now in
    let nodes = c.args.t.now in
    let terms = c.args.arguments.now in
    let memory = memory_at nodes c.args.start.now v in
    let first = holds_objects c.args.layout.now.objects nodes c.args.start.now v c.requires.memory c.in_ok-look_at_objects.ensures in
    told m c.args.called.function (arguments_at nodes v terms) memory c.requires.fit.called c.requires.runnable
    (fit_call m c.args.called.function nodes terms c.args.called.result_width v memory c.len-len.ensures.fit c.requires.arguments c.requires.fit first.bytes)
    c.args.called.result_width c.requires.fit.gives c.execute.new.t c.result_of.new.t v c.in_ok-run.run'.undefined c.in_ok-run.run'.value c.in_ok-result.result c.in_ok-run.run'.memory
    c.result_of.ensures.frame c.in_ok-run.ensures.undefined c.in_ok-run.ensures.over c.in_ok-result.ensures.none (c.in_ok-result.ensures.number v) (c.in_ok-run.ensures.runs v)
