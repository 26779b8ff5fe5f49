use Rattle.std.proofs.Common.{◌≡◌, Some, None, ap, ◌∙◌}
use Rattle.std.specs.Prelude.{option_map}
use Rattle.spec_expr.specs.Fronts.{seen}
use Rattle.spec_read.specs.Places.{function_of}
use Rattle.spec_read.specs.Sections.{body_section}
use Rattle.spec_read.proofs.SortSteps.{gives_by}
use Rattle.spec_read.proofs.LineAnswers.{def_ended, def_none}
use Rattle.spec_read.proofs.top.def_with.Goals as goal

pub returns-in-Some : goal.returns-in-Some
returns-in-Some c =
    let names = ap (λ x. option_map body_section (function_of x c.as_slice.result.now)) c.as_bytes.ensures in
    let is : Some c.in-Some.field-0 ≡ option_map body_section (function_of c.args.name c.args.parameters) =
    c.in-Some.ensures ∙ names ∙ ap (λ xs. option_map body_section (function_of c.args.name xs)) c.as_slice.ensures in
    gives_by _ c.ended.result _ _ (def_ended c.args.name c.args.parameters (function_of c.args.name c.args.parameters) c.in-Some.field-0 (seen c.args.tokens.now) is) c.ended.ensures

pub returns-in-None : goal.returns-in-None
returns-in-None c =
    let names = ap (λ x. option_map body_section (function_of x c.as_slice.result.now)) c.as_bytes.ensures in
    let is : None ≡ option_map body_section (function_of c.args.name c.args.parameters) =
    c.in-None.ensures ∙ names ∙ ap (λ xs. option_map body_section (function_of c.args.name xs)) c.as_slice.ensures in
    def_none c.args.name c.args.parameters (function_of c.args.name c.args.parameters) (seen c.args.tokens.now) is
