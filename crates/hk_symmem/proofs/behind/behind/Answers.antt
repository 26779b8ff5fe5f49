use Rattle.std.proofs.Common.{rules, ◌+◌, ◌≤◌, ◌^◌, ◌⊎◌}
use Rattle.hk_term.specs.Meaning.{value}
use Rattle.hk_symmem.proofs.Wholes.{after_read, apart_read}
use Rattle.hk_symmem.proofs.behind.behind.Goals as goal

pub returns-then-is_apart-clause-value : goal.returns-then-is_apart-clause-value
returns-then-is_apart-clause-value c = λ v b read.
    let fits : value c.args.t.now c.args.w.now.offset v + c.args.w.now.bytes ≤ 2 ^ 64 = search rules in
    let apart : (value c.args.t.now c.args.offset v + c.args.bytes ≤ value c.args.t.now c.args.w.now.offset v) ⊎ (value c.args.t.now c.args.w.now.offset v + c.args.w.now.bytes ≤ value c.args.t.now c.args.offset v) = search rules in
    apart_read c.args.t.now v c.args.w.now (value c.args.t.now c.args.offset v) c.args.bytes (value c.args.t.now c.args.found v) b fits apart read

pub returns-in_ok-made-2-clause-value : goal.returns-in_ok-made-2-clause-value
returns-in_ok-made-2-clause-value c = λ v b read.
    after_read c.args.t.now v c.args.w.now (value c.args.t.now c.args.offset v) c.args.bytes (value c.args.t.now c.args.found v) _ b read (c.in_ok-made-2.ensures.value v b read)
