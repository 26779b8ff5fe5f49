use Rattle.std.proofs.Common.{◌∙◌, ap, sym}
use Rattle.ir_whole.specs.Numbers.{types_of}
use Rattle.ir_ast.specs.View.{view_indices}
use Rattle.ir_typing.specs.Fits.{steps_over}
use Rattle.ir_typing.proofs.Typing.{steps_behind, list_is}
use Rattle.ir_typing.proofs.fit.steps_over.Goals as goal

pub returns-in-len1-up : goal.returns-in-len1-up
returns-in-len1-up c = λ o stands.
    steps_behind (types_of c.args.numbers.now) c.args.over o c.as_slice.result.now c.steps.result c.if-over-eq0.false stands c.in-len1-up.len_at_least c.steps.ensures
    ∙ ap (λ is. steps_over o (view_indices is)) c.as_slice.ensures.value ∙ ap (steps_over o) (sym (list_is c.args.indices.now))
