use Rattle.std.proofs.Common.{◌≡◌, ◌∷◌, ◌++◌, ◌+◌, ◌<◌, [], ℕ, List, length, take, get_or, ap, sym, subst, ◌∙◌}
use Rattle.std.specs.Prelude.{map}
use Rattle.std.proofs.lemmas.List.{map-append, take_more, get_or-map}
use Rattle.hk_symmem.specs.declared.source.Source.{Source}
use Rattle.hk_symmem.specs.Origins.{fixed}
use Rattle.hk_symmem.specs.Sources.{origin_of}
use Rattle.hk_symmem.proofs.RowLaws.{map_count}
use Rattle.hk_symmem.proofs.source.copies_of.Goals as goal

turn : (old new rs : List Source) (r copy : Source) (i : ℕ) → new ≡ old ++ copy ∷ [] → map origin_of old ≡ take i (map origin_of rs) → origin_of copy ≡ origin_of r → r ≡ get_or rs i r → i < length rs
    → map origin_of new ≡ take (i + 1) (map origin_of rs)
turn old new rs r copy i push is same item l =
    ap (map origin_of) push ∙ map-append origin_of old (copy ∷ []) ∙ (λ k. is k ++ (same ∙ ap origin_of item ∙ sym (get_or-map origin_of rs i r (fixed []) l)) k ∷ [])
    ∙ sym (take_more (map origin_of rs) i (fixed []) (subst (λ n. i < n) (sym (map_count origin_of rs)) l))

pub loop-source-preserved : goal.loop-source-preserved
loop-source-preserved c = turn c.loop-source.copies.items c.push.new.self.items c.args.sources.now c.source-item.result _ c.loop-source.source-index c.in_ok-push.ensures.items c.loop-source.invariant c.in_ok-copy_of.ensures c.source-item.is c.loop-source-test.true
