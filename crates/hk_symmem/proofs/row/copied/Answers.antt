use Rattle.std.proofs.Common.{◌≡◌, ◌∷◌, ◌++◌, ◌+◌, ◌<◌, [], ℕ, List, length, take, get_or, ap, sym, subst, ◌∙◌}
use Rattle.std.specs.Prelude.{map}
use Rattle.std.proofs.lemmas.List.{map-append, take_more, get_or-map}
use Rattle.hk_symmem.specs.declared.row.Row.{Row}
use Rattle.hk_symmem.proofs.RowLaws.{map_count}
use Rattle.hk_symmem.proofs.row.copied.Goals as goal

turn : {B : Type 0} (f : Row → B) (old new rs : List Row) (r copy : Row) (i : ℕ) (e : B) → new ≡ old ++ copy ∷ [] → map f old ≡ take i (map f rs) → f copy ≡ f r → r ≡ get_or rs i r → i < length rs
    → map f new ≡ take (i + 1) (map f rs)
turn f old new rs r copy i e push is same item l =
    ap (map f) push ∙ map-append f old (copy ∷ []) ∙ (λ k. is k ++ (same ∙ ap f item ∙ sym (get_or-map f rs i r e l)) k ∷ [])
    ∙ sym (take_more (map f rs) i e (subst (λ n. i < n) (sym (map_count f rs)) l))

pub loop-row-preserved : goal.loop-row-preserved
loop-row-preserved c = record {
  sizes = turn (λ r. r.size) c.loop-row.copies.items c.push.new.self.items c.args.rows.now c.row-item.result _ c.loop-row.row-index 0 c.in_ok-push.ensures.items c.loop-row.invariant.sizes (λ i. c.row-item.result.size) c.row-item.is c.loop-row-test.true;
  writes = turn (λ r. r.writes.items) c.loop-row.copies.items c.push.new.self.items c.args.rows.now c.row-item.result _ c.loop-row.row-index [] c.in_ok-push.ensures.items c.loop-row.invariant.writes
      (c.in_ok-from_slice.ensures.items ∙ c.as_slice.ensures.value) c.row-item.is c.loop-row-test.true;
}
