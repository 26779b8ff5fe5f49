use Rattle.std.proofs.Common.{sym, codes}
use Rattle.ir_typing.proofs.Widths.{is_assume, with_found, with_rest, same_word, other_word}
use Rattle.ir_typing.proofs.intrinsics.intrinsic.Goals as goal

pub returns-then-eq : goal.returns-then-eq
returns-then-eq c = sym (is_assume c.args.name.now
    (same_word c.args.name.now (codes "llvm.assume") c.as_bytes-bytes.result.now c.as_slice.result.now c.eq.result c.as_bytes-bytes.ensures c.as_slice.ensures c.eq.ensures c.if-eq.true))

pub returns-in-Some : goal.returns-in-Some
returns-in-Some c = with_found c.args.name.now c.as_bytes-bytes.result.now c.in-Some.found c.as_bytes-bytes.ensures
    (other_word c.args.name.now (codes "llvm.assume") c.as_bytes-bytes.result.now c.as_slice.result.now c.eq.result c.as_bytes-bytes.ensures c.as_slice.ensures c.eq.ensures c.if-eq.false)
    c.in-Some.ensures

pub returns-in-None : goal.returns-in-None
returns-in-None c = with_rest c.args.name.now c.as_bytes-bytes.result.now _ c.as_bytes-bytes.ensures
    (other_word c.args.name.now (codes "llvm.assume") c.as_bytes-bytes.result.now c.as_slice.result.now c.eq.result c.as_bytes-bytes.ensures c.as_slice.ensures c.eq.ensures c.if-eq.false)
    c.in-None.ensures c.with_one_result.ensures
