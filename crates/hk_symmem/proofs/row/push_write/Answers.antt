use Rattle.std.proofs.Common.{rules, ◌≡◌, ◌∷◌, ◌++◌, [], get_or, Result, Ok, Err, ap, sym, ◌∙◌}
use Rattle.std.specs.Prelude.{map, slice_set, OnErr}
use Rattle.std.proofs.Math.Seq.{map-set_same}
use Rattle.std.proofs.lemmas.List.{map-set, get_or-map}
use Rattle.hk_symmem.specs.declared.row.Row.{Row}
use Rattle.hk_symmem.proofs.row.push_write.Goals as goal

given : {T E P : Type 0} (r : Result T E) → P → OnErr r P
given (Ok x) p = tt
given (Err x) p = p

pub returns-clause-sizes : goal.returns-clause-sizes
returns-clause-sizes c =
    let is : c.index_mut.result.now ≡ get_or c.args.rows.now.items c.args.object c.index_mut.result.now = search rules in
    map-set_same (λ (r : Row). r.size) c.args.rows.now.items c.args.object _ c.index_mut.result.now (ap (λ (r : Row). r.size) is)

pub returns-in_err-push-clause-sizes : goal.returns-in_err-push-clause-sizes
returns-in_err-push-clause-sizes c =
    let is : c.index_mut.result.now ≡ get_or c.args.rows.now.items c.args.object c.index_mut.result.now = search rules in
    map-set_same (λ (r : Row). r.size) c.args.rows.now.items c.args.object _ c.index_mut.result.now (ap (λ (r : Row). r.size) is)

pub returns-clause-written : goal.returns-clause-written
returns-clause-written c =
    let is : c.index_mut.result.now ≡ get_or c.args.rows.now.items c.args.object c.index_mut.result.now = search rules in
    map-set (λ (r : Row). r.writes.items) c.args.rows.now.items c.args.object _
    ∙ ap (slice_set (map (λ (r : Row). r.writes.items) c.args.rows.now.items) c.args.object)
    (c.in_ok-push.ensures.items
    ∙ ap (λ xs. xs ++ c.args.w ∷ []) (ap (λ (r : Row). r.writes.items) is
    ∙ sym (get_or-map (λ (r : Row). r.writes.items) c.args.rows.now.items c.args.object c.index_mut.result.now [] c.requires)))

pub returns-in_err-push-clause-err : goal.returns-in_err-push-clause-err
returns-in_err-push-clause-err c =
    let is : c.index_mut.result.now ≡ get_or c.args.rows.now.items c.args.object c.index_mut.result.now = search rules in
    given c.from_residual.result
    (map-set_same (λ (r : Row). r.writes.items) c.args.rows.now.items c.args.object _ c.index_mut.result.now (c.in_err-push.ensures.items ∙ ap (λ (r : Row). r.writes.items) is))
