use Rattle.std.proofs.Common.{length, map, rules, arith, ap, ◌∙◌}
use Rattle.std.proofs.lemmas.List.{length-map}
use Rattle.std.proofs.lemmas.Slice.Zip.{zip_turn, zip_end}
use Rattle.std.specs.List.{zip}
use Rattle.spec_tree.specs.View.{view_field, view_spec}
use Rattle.hk_verdict.specs.Entries.{field_text}
use Rattle.hk_rows.proofs.Adding.{on_err, shows_next, shows_all, pieces_cut}
use Rattle.hk_verdict.proofs.Listed.{pair_within, field_at, pairs_end, one_longer, fitted_pair}
use Rattle.hk_verdict.proofs.entries.put_entries.Goals as goal

pub put_field-requires-clause-few : goal.put_field-requires-clause-few
put_field-requires-clause-few g c =
    let fields = c.args.spec.now.fields in
    let state = c.args.state.now in
    let done = c.loop-field.yielded in
    let turn = zip_turn fields state done c.into_iter-field-iterator.result c.loop-field.field-iterator c.next.new.self c.next.result (search rules) (search rules) c.loop-field.yielded_by
    (c.in-Some.field, c.in-Some.entries) c.in-Some.is c.next.ensures.steps in
    (fitted_pair (view_spec c.args.spec.now) fields state (length done) c.in-Some.field.now c.in-Some.entries.now c.requires.sorted.fields c.requires.state turn.0 (turn.2 _) (turn.3 _)).few

pub put_field-requires-clause-all : goal.put_field-requires-clause-all
put_field-requires-clause-all g c =
    let fields = c.args.spec.now.fields in
    let state = c.args.state.now in
    let done = c.loop-field.yielded in
    let turn = zip_turn fields state done c.into_iter-field-iterator.result c.loop-field.field-iterator c.next.new.self c.next.result (search rules) (search rules) c.loop-field.yielded_by
    (c.in-Some.field, c.in-Some.entries) c.in-Some.is c.next.ensures.steps in
    ap length c.as_slice-in-loop-field.ensures ∙ (fitted_pair (view_spec c.args.spec.now) fields state (length done) c.in-Some.field.now c.in-Some.entries.now c.requires.sorted.fields c.requires.state turn.0 (turn.2 _) (turn.3 _)).all

pub loop-field-preserved : goal.loop-field-preserved
loop-field-preserved g c =
    let fields = c.args.spec.now.fields in
    let state = c.args.state.now in
    let done = c.loop-field.yielded in
    let turn = zip_turn fields state done c.into_iter-field-iterator.result c.loop-field.field-iterator c.next.new.self c.next.result (search rules) (search rules) c.loop-field.yielded_by
    (c.in-Some.field, c.in-Some.entries) c.in-Some.is c.next.ensures.steps in
    let put = c.in_ok-put_field.ensures in
    shows_next (λ e. field_text c.args.mark.now e.0 e.1) (zip (map view_field fields) state) (length done) _ _ (view_field c.in-Some.field.now, c.in-Some.entries.now) _ _ _ _ _ _
    (pair_within (map view_field fields) state (length done) (omega (arith, turn.0, length-map fields view_field)) turn.1) (field_at fields state (length done) _ _ turn.0 turn.1 (turn.2 _) (turn.3 _)) (one_longer done _)
    c.loop-field.invariant (record { whole = rw c.as_slice-in-loop-field.ensures at put.whole; still = put.still })

pub returns-in_err-put_field-clause-cut : goal.returns-in_err-put_field-clause-cut
returns-in_err-put_field-clause-cut g c =
    let fields = c.args.spec.now.fields in
    let state = c.args.state.now in
    let done = c.loop-field.yielded in
    let turn = zip_turn fields state done c.into_iter-field-iterator.result c.loop-field.field-iterator c.next.new.self c.next.result (search rules) (search rules) c.loop-field.yielded_by
    (c.in-Some.field, c.in-Some.entries) c.in-Some.is c.next.ensures.steps in
    let put = c.in_err-put_field.ensures in
    let failed = pieces_cut (λ e. field_text c.args.mark.now e.0 e.1) (zip (map view_field fields) state) (length done) _ (view_field c.in-Some.field.now, c.in-Some.entries.now) _ _ _ _ _ _
    (pair_within (map view_field fields) state (length done) (omega (arith, turn.0, length-map fields view_field)) turn.1) (field_at fields state (length done) _ _ turn.0 turn.1 (turn.2 _) (turn.3 _))
    c.loop-field.invariant (record { cut = rw c.as_slice-in-loop-field.ensures at put.cut; failed = put.failed; later = put.later }) in
    on_err _ _ failed.cut

pub returns-clause-whole : goal.returns-clause-whole
returns-clause-whole g c =
    let fields = c.args.spec.now.fields in
    let state = c.args.state.now in
    let done = c.loop-field.yielded in
    let end = zip_end fields state done c.into_iter-field-iterator.result c.loop-field.field-iterator c.next.new.self c.next.result (search rules) (search rules) c.loop-field.yielded_by c.in-None.is c.next.ensures.steps in
    (shows_all (λ e. field_text c.args.mark.now e.0 e.1) (zip (map view_field fields) state) (length done) _ _ _ _ (pairs_end (map view_field fields) state (length done) (omega (arith, end, length-map fields view_field))) c.loop-field.invariant).whole
