use Rattle.std.proofs.Common.{◌<◌, ◌^◌, ap, refl, sym, subst, ◌∙◌}
use Rattle.std.specs.Prelude.{Some}
use Rattle.std.proofs.lemmas.Bool.{lt-ltb}
use Rattle.hk_term.specs.declared.node.Node.TheVariants.{Const}
use Rattle.hk_inst.specs.Demanded.IsRefutation.{ranged}
use Rattle.hk_inst.specs.Growing.{ids_below}
use Rattle.hk_inst.proofs.required.ranged.Goals as goal

pub returns-clause-refutes : goal.returns-clause-refutes
returns-clause-refutes c = λ b bound bs ss same h.
    ranged 64 c.args.id c.in_ok-variable.variable c.in_ok-limit.limit c.in_ok-test.test c.args.rest c.in_ok-no.no
    (subst (λ n. n < 2 ^ 64) (sym same) c.ranges.size.fits)
    (c.put-5.ensures.keeps c.in_ok-variable.variable _ (c.put-4.ensures.keeps c.in_ok-variable.variable _ (c.put-3.ensures.keeps c.in_ok-variable.variable _ (c.put-2.ensures.keeps c.in_ok-variable.variable _ c.in_ok-variable.ensures.at))))
    (c.put-5.ensures.keeps c.in_ok-limit.limit _ (c.put-4.ensures.keeps c.in_ok-limit.limit _ (c.put-3.ensures.keeps c.in_ok-limit.limit _ (c.in_ok-limit.ensures.at ∙ ap (λ n. Some (Const 64 n)) (sym same)))))
    (c.put-5.ensures.keeps c.in_ok-test.test _ (c.put-4.ensures.keeps c.in_ok-test.test _ c.in_ok-test.ensures.at))
    (c.put-5.ensures.keeps c.in_ok-no.no _ c.in_ok-no.ensures.at)
    c.in_ok-made.ensures.at
    (c.put-5.ensures.refutes b c.args.rest bs ss (c.put-4.ensures.refutes b c.args.rest bs ss (c.put-3.ensures.refutes b c.args.rest bs ss (c.put-2.ensures.refutes b c.args.rest bs ss (c.put.ensures.refutes b c.args.rest bs ss h)))))

pub returns-clause-adds : goal.returns-clause-adds
returns-clause-adds c = λ next below all.
    c.put-5.ensures.adds (ids_below next)
    (c.put-4.ensures.adds (ids_below next)
    (c.put-3.ensures.adds (ids_below next) (c.put-2.ensures.adds (ids_below next) (c.put.ensures.adds (ids_below next) all (lt-ltb c.args.id next below)) refl) refl) refl) refl
