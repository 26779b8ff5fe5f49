use Rattle.std.proofs.Common.{length, sym, ◌∙◌}
use Rattle.ir_type.proofs.Places.{place_below}
use Rattle.ir_ast.specs.ProgramView.{view_entries, view_function}
use Rattle.ir_type.proofs.NameWalks.{entry_viewed}
use Rattle.ir_type.proofs.Views.{place_viewed}
use Rattle.ir_check.proofs.CheckedLaws.{found_body, no_body_found}
use Rattle.ir_check.proofs.checked.body_place.Goals as goal

pub returns-in-Some-clause-found : goal.returns-in-Some-clause-found
returns-in-Some-clause-found c =
    let e = entry_viewed view_function c.args.functions.now c.in-Some.place c.at.result.now c.at.ensures in
    c.place_where.ensures.place
    ∙ found_body (view_entries view_function c.args.functions.now) c.args.name.now e.0 c.in-Some.place (view_function c.at.result.now) c.has_body.result
    (place_viewed view_function c.args.functions.now c.args.name.now ∙ sym c.get.ensures.place ∙ c.in-Some.is) e.1 c.has_body.ensures

pub returns-in-None-clause-found : goal.returns-in-None-clause-found
returns-in-None-clause-found c =
    no_body_found (view_entries view_function c.args.functions.now) c.args.name.now (place_viewed view_function c.args.functions.now c.args.name.now ∙ sym c.get.ensures.place ∙ c.in-None.is)

pub returns-in-Some-clause-within : goal.returns-in-Some-clause-within
returns-in-Some-clause-within c =
    c.place_where.ensures.within (length c.args.functions.now) (place_below c.args.functions.now c.args.name.now c.in-Some.place (sym c.get.ensures.place ∙ c.in-Some.is))
