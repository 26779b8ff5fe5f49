use Rattle.std.proofs.Common.{map}
use Rattle.std.specs.List.{enumerate_from}
use Rattle.spec_tree.specs.Sorted.{key_sizes}
use Rattle.spec_tree.specs.Value.{tuple_at}
use Rattle.spec_tree.specs.View.{view_key}
use Rattle.hk_verdict.specs.Entries.{entry_text}
use Rattle.hk_rows.proofs.Adding.{on_err, shows_more, shows_all, pieces_cut}
use Rattle.hk_verdict.proofs.Listed.{arg_within, arg_at, args_end}
use Rattle.hk_verdict.proofs.entries.put_field.Goals as goal

pub returns-in_err-put_at-clause-cut : goal.returns-in_err-put_at-clause-cut
returns-in_err-put_at-clause-cut g c =
    let entries = c.args.entries.now in
    let field = c.args.field.now in
    let put = c.in_err-put_at.ensures in
    let failed = pieces_cut (λ e. entry_text c.args.mark.now field.name (tuple_at (key_sizes (map view_key field.keys)) e.0) e.1) (enumerate_from 0 entries) c.loop-k.k (0, 0) _ _ _ _ _ _ _ (arg_within entries c.loop-k.k c.loop-k-test.true) (arg_at entries c.loop-k.k c.loop-k-test.true)
    c.loop-k.invariant (record { cut = put.cut; failed = put.failed; later = put.later }) in
    on_err _ _ failed.cut

pub loop-k-preserved : goal.loop-k-preserved
loop-k-preserved g c =
    let entries = c.args.entries.now in
    let field = c.args.field.now in
    let put = c.in_ok-put_at.ensures in
    shows_more (λ e. entry_text c.args.mark.now field.name (tuple_at (key_sizes (map view_key field.keys)) e.0) e.1) (enumerate_from 0 entries) c.loop-k.k (0, 0) _ _ _ _ _ _ _ (arg_within entries c.loop-k.k c.loop-k-test.true) (arg_at entries c.loop-k.k c.loop-k-test.true)
    c.loop-k.invariant (record { whole = put.whole; still = put.still })

pub returns-clause-whole : goal.returns-clause-whole
returns-clause-whole g c =
    let field = c.args.field.now in
    (shows_all (λ e. entry_text c.args.mark.now field.name (tuple_at (key_sizes (map view_key field.keys)) e.0) e.1) (enumerate_from 0 c.args.entries.now) c.loop-k.k _ _ _ _ (args_end c.args.entries.now c.loop-k.k c.loop-k-test.false) c.loop-k.invariant).whole
