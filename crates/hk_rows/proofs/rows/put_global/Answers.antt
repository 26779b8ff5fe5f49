use Rattle.std.proofs.Common.{◌*◌, length}
use Rattle.std.specs.Int.{div_ceil}
use Rattle.std.specs.List.{range_with_len}
use Rattle.hk_rows.specs.Rows.{row_text, row_of}
use Rattle.hk_rows.proofs.Adding.{on_err, shows_more, shows_all, pieces_cut}
use Rattle.hk_rows.proofs.Places.{row_within, row_at, rows_end}
use Rattle.hk_rows.proofs.rows.put_global.Goals as goal

pub returns-in_err-put_row-clause-cut : goal.returns-in_err-put_row-clause-cut
returns-in_err-put_row-clause-cut g c =
    let name = c.args.name.now in
    let bytes = c.args.bytes.now in
    let n = div_ceil (length bytes) 16 in
    let count = c.div_ceil-k-end.ensures in
    let k = c.loop-k.k in
    let put = c.in_err-put_row.ensures in
    let failed = pieces_cut (λ k. row_text name (16 * k) (row_of bytes k)) (range_with_len 0 n) k 0 _ _ _ _ _ _ _ (row_within _ n k count c.loop-k-test.true) (row_at _ n k count c.loop-k-test.true)
    c.loop-k.invariant (record { cut = rw c.row_at.ensures at put.cut; failed = put.failed; later = put.later }) in
    on_err _ _ failed.cut

pub loop-k-preserved : goal.loop-k-preserved
loop-k-preserved g c =
    let name = c.args.name.now in
    let bytes = c.args.bytes.now in
    let n = div_ceil (length bytes) 16 in
    let count = c.div_ceil-k-end.ensures in
    let k = c.loop-k.k in
    let put = c.in_ok-put_row.ensures in
    shows_more (λ k. row_text name (16 * k) (row_of bytes k)) (range_with_len 0 n) k 0 _ _ _ _ _ _ _ (row_within _ n k count c.loop-k-test.true) (row_at _ n k count c.loop-k-test.true)
    c.loop-k.invariant (record { whole = rw c.row_at.ensures at put.whole; still = put.still })

pub returns-clause-whole : goal.returns-clause-whole
returns-clause-whole g c =
    let name = c.args.name.now in
    let bytes = c.args.bytes.now in
    let n = div_ceil (length bytes) 16 in
    (shows_all (λ k. row_text name (16 * k) (row_of bytes k)) (range_with_len 0 n) c.loop-k.k _ _ _ _ (rows_end _ n c.loop-k.k c.div_ceil-k-end.ensures c.loop-k-test.false) c.loop-k.invariant).whole
