use Rattle.std.proofs.Common.{◌≡◌, ◌∙◌, sym, is_some}
use Rattle.std.proofs.lemmas.Result.{IfOk-weaker}
use Rattle.spec_ast.specs.View.{view_item}
use Rattle.spec_lines.specs.Faults.{fits_line}
use Rattle.spec_lines.specs.Whole.{made_behind}
use Rattle.spec_lines.specs.View.{view_here}
use Rattle.spec_lines.specs.MadeView.{view_made}
use Rattle.spec_lines.proofs.Fitting.{fits_made}
use Rattle.spec_lines.proofs.made.Made.fit.Goals as goal

pub returns-clause-fits : goal.returns-clause-fits
returns-clause-fits c =
    let h = view_here c.args.here.now in
    let m = view_made c.args.self.now in
    let item = view_item c.args.item.now in
    IfOk-weaker c.add_fitting.result (λ b. b ≡ is_some (made_behind h m item)) (λ b. b ≡ fits_line h item)
    (λ b e. e ∙ sym (fits_made h m item c.in_ok-sorts.sorts c.in_ok-sorts.ensures c.if-not-sorts.false)) c.add_fitting.ensures.fits
