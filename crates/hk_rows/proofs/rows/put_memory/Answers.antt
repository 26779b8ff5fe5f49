use Rattle.std.proofs.Common.{ℕ, List, length}
use Rattle.std.specs.List.{enumerate_from}
use Rattle.std.proofs.lemmas.Option.{slice_get_within}
use Rattle.ir_ast.specs.Program.{GlobalView}
use Rattle.ir_ast.specs.ProgramView.{view_entries, view_global}
use Rattle.ir_layout.specs.Bytes.{object_of}
use Rattle.hk_rows.specs.Rows.{object_text}
use Rattle.hk_rows.proofs.Adding.{on_err, shows_more, shows_all, pieces_cut}
use Rattle.hk_rows.proofs.Places.{entry_within, entries_end, entry_at, global_there, as_many}
use Rattle.hk_rows.proofs.rows.put_memory.Goals as goal

pub returns-in_err-put_object-clause-cut : goal.returns-in_err-put_object-clause-cut
returns-in_err-put_object-clause-cut g c =
    let memory = c.args.memory.now in
    let globals = view_entries view_global c.args.globals.now in
    let k = c.loop-place.place in
    let e = global_there c.args.globals.now k c.at.result.now c.at.ensures in
    let put = c.in_err-put_object.ensures in
    let failed = pieces_cut (λ (e : ℕ × (List ℕ × GlobalView)). object_text e.1.1 (object_of memory e.0)) (enumerate_from 0 globals) k _ (k, (e.0, view_global c.at.result.now)) _ _ _ _ _ _
    (entry_within globals _ k (as_many c.args.globals.now c.len-place-end.result c.len-place-end.ensures.count) c.loop-place-test.true) (entry_at globals k _ e.1)
    c.loop-place.invariant (record { cut = rw c.bytes_of.ensures at put.cut; failed = put.failed; later = put.later }) in
    on_err _ _ failed.cut

pub loop-place-preserved : goal.loop-place-preserved
loop-place-preserved g c =
    let memory = c.args.memory.now in
    let globals = view_entries view_global c.args.globals.now in
    let k = c.loop-place.place in
    let e = global_there c.args.globals.now k c.at.result.now c.at.ensures in
    let put = c.in_ok-put_object.ensures in
    shows_more (λ (e : ℕ × (List ℕ × GlobalView)). object_text e.1.1 (object_of memory e.0)) (enumerate_from 0 globals) k _ (k, (e.0, view_global c.at.result.now)) _ _ _ _ _ _
    (entry_within globals _ k (as_many c.args.globals.now c.len-place-end.result c.len-place-end.ensures.count) c.loop-place-test.true) (entry_at globals k _ e.1)
    c.loop-place.invariant (record { whole = rw c.bytes_of.ensures at put.whole; still = put.still })

pub returns-clause-whole : goal.returns-clause-whole
returns-clause-whole g c =
    let memory = c.args.memory.now in
    let globals = view_entries view_global c.args.globals.now in
    (shows_all (λ (e : ℕ × (List ℕ × GlobalView)). object_text e.1.1 (object_of memory e.0)) (enumerate_from 0 globals) c.loop-place.place _ _ _ _
    (entries_end globals _ c.loop-place.place (as_many c.args.globals.now c.len-place-end.result c.len-place-end.ensures.count) c.loop-place-test.false) c.loop-place.invariant).whole
