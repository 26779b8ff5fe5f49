use Rattle.std.proofs.Common.{ℕ, List, [], ◌+◌, drop, get_or, ap, sym, ◌∙◌}
use Rattle.std.proofs.lemmas.Result.{err_from_is_err_and}
use Rattle.hk_cnf.specs.Text.{lines_of}
use Rattle.hk_cert_lines.specs.Blocks.{arg_at}
use Rattle.hk_cert.specs.Steps.{line_at, place_of}
use Rattle.hk_cert.specs.States.{args_from}
use Rattle.hk_cert.proofs.Taking.{place, args_more, args_err, args_end, drop_next, drop_end, gives_err}
use Rattle.hk_cert.proofs.states.args.Goals as goal

pub returns-in_err-number : goal.returns-in_err-number
returns-in_err-number c =
    let ws = c.args.widths.now in
    let k = c.loop-k.k in
    let p = err_from_is_err_and c.from_residual.result c.from_residual.ensures.1 in
    rw (p.1, p.2)
    (gives_err (λ (n : ℕ). n) (λ (args : List ℕ). args) c.in_err-number.field-0.0 (line_at (arg_at k (get_or ws k 0)) (place c.loop-k.line (lines_of c.loop-k.text.now))) (args_from [] 0 ws (place_of c.args.at))
    (λ f e. sym c.loop-k.invariant ∙ args_err c.loop-k.args k (get_or ws k 0) (drop k ws) (drop (k + 1) ws) (place c.loop-k.line (lines_of c.loop-k.text.now)) f (drop_next ws k c.loop-k-test.true) e)
    c.in_err-number.ensures)

pub loop-k-preserved : goal.loop-k-preserved
loop-k-preserved c =
    let ws = c.args.widths.now in
    let k = c.loop-k.k in
    let q = place c.in_ok-number.after.line (lines_of c.in_ok-number.after.text.now) in
    ap (λ args. args_from args (k + 1) (drop (k + 1) ws) (place c.in_ok-number.after.line (lines_of c.in_ok-number.after.text.now))) c.in_ok-push.ensures.ok
    ∙ sym (args_more c.loop-k.args k (get_or ws k 0) (drop k ws) (drop (k + 1) ws) (place c.loop-k.line (lines_of c.loop-k.text.now)) c.in_ok-number.number q (drop_next ws k c.loop-k-test.true) c.in_ok-number.ensures)
    ∙ c.loop-k.invariant

pub returns : goal.returns
returns c =
    let ws = c.args.widths.now in
    sym c.loop-k.invariant ∙ args_end c.loop-k.args c.loop-k.k (drop c.loop-k.k ws) (place c.loop-k.line (lines_of c.loop-k.text.now)) (drop_end ws c.loop-k.k c.loop-k-test.false)
