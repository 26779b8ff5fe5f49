use Rattle.std.specs.Fmt.{decimal}
use Rattle.hk_rows.proofs.Adding.{on_err, err_then, ok_then, adds_then, fails_then, fails_front}
use Rattle.hk_rows.proofs.line.add_numbered.Goals as goal

pub returns-in_err-add-clause-err : goal.returns-in_err-add-clause-err
returns-in_err-add-clause-err g c =
    on_err _ _ (fails_front _ _ _ _ _ c.args.before.now (decimal c.args.number) c.in_err-add.ensures.err)

pub returns-clause-ok : goal.returns-clause-ok
returns-clause-ok g c =
    ok_then _ _ _ (λ last. adds_then _ _ _ _ _ _ _ _ _ c.args.before.now (decimal c.args.number) c.in_ok-add.ensures.ok last) c.add_decimal.ensures.ok

pub returns-clause-err : goal.returns-clause-err
returns-clause-err g c =
    err_then _ _ _ (λ last. fails_then _ _ _ _ _ _ _ _ c.args.before.now (decimal c.args.number) c.in_ok-add.ensures.ok last) c.add_decimal.ensures.err
