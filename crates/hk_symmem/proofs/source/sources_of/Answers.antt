use Rattle.std.proofs.Common.{◌≡◌, ◌∷◌, ◌++◌, ◌+◌, ◌<◌, [], ℕ, List, length, take, get_or, false, arith, ap, sym, subst, ◌∙◌}
use Rattle.std.specs.Prelude.{map}
use Rattle.std.proofs.lemmas.List.{map-append, take_more}
use Rattle.ir_layout.specs.declared.object.Object.{Object}
use Rattle.hk_symmem.specs.declared.source.Source.{Source}
use Rattle.hk_symmem.specs.Origins.{AreOriginsOf, IsOriginOf}
use Rattle.hk_symmem.specs.Sources.{origin_of}
use Rattle.hk_symmem.proofs.SourceLaws.{origins_push}
use Rattle.hk_symmem.proofs.source.sources_of.Goals as goal

turn : (os : List Object) (old new : List Source) (s : Source) (k : ℕ) (d : Object) → k < length os → new ≡ old ++ s ∷ [] → AreOriginsOf (take k os) (map origin_of old) → IsOriginOf (get_or os k d) (origin_of s)
    → AreOriginsOf (take (k + 1) os) (map origin_of new)
turn os old new s k d l push a i =
    subst (λ xs. AreOriginsOf (take (k + 1) os) xs) (sym (ap (map origin_of) push ∙ map-append origin_of old (s ∷ [])))
    (subst (λ xs. AreOriginsOf xs (map origin_of old ++ origin_of s ∷ [])) (sym (take_more os k d l)) (origins_push (take k os) (map origin_of old) (get_or os k d) (origin_of s) a i))

none : Object
none = record { size = 0; align = 0; constant = false; bytes = [] }

pub loop-object-preserved : goal.loop-object-preserved
loop-object-preserved c = turn c.args.layout.now.objects c.loop-object.sources.items c.push.new.self.items _ c.loop-object.object none
    (omega (arith, c.loop-object-test.true, c.objects-object-end.ensures.count)) c.in_ok-push.ensures.items c.loop-object.invariant (c.in_ok-source_of.ensures none)
