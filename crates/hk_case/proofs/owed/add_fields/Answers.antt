use Rattle.std.proofs.Common.{[], ◌∷◌, ◌++◌, ap, sym, ◌∙◌, zero-add, append_assoc, map}
use Rattle.std.proofs.lemmas.List.FromFn.{map-range_with_len_more}
use Rattle.std.specs.List.{range_with_len}
use Rattle.hk_case.specs.declared.Obligation.TheVariants.{State}
use Rattle.hk_case.proofs.owed.add_fields.Goals as goal

pub loop-place-preserved : goal.loop-place-preserved
loop-place-preserved c =
    let first = c.args.list.now.items in
    let k = c.loop-place.place in
    c.in_ok-push.ensures.items ∙ ap (λ l. l ++ State k ∷ []) c.loop-place.invariant
    ∙ append_assoc first (map State (range_with_len 0 k)) (State k ∷ [])
    ∙ ap (λ l. first ++ l) (sym (map-range_with_len_more State 0 k k (zero-add k)))
