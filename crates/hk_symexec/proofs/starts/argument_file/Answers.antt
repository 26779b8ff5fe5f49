use Rattle.std.proofs.Common.{◌≡◌, ◌<◌, ◌+◌, None, [], ◌∷◌, ◌++◌, sym, subst, take, length}
use Rattle.hk_symstep.specs.Files.{IsFile, registers_of}
use Rattle.ir_machine.specs.Step.{unset}
use Rattle.hk_symexec.specs.Runs.{arguments_at, held_numbers}
use Rattle.hk_symexec.proofs.PhiLaws.{take_next}
use Rattle.hk_symexec.proofs.Calling.{file_push}
use Rattle.hk_symexec.proofs.Starting.{Holding, holding_on, unset_held}
use Rattle.hk_symexec.proofs.starts.argument_file.Goals as goal

pub loop-argument-preserved : goal.loop-argument-preserved
loop-argument-preserved c =
    subst (λ l. Holding c.args.t.now c.argument_place.new.t (take (c.loop-argument.argument-index + 1) c.args.arguments.now) l) (sym c.in_ok-push.ensures.items)
    (subst (λ is. Holding c.args.t.now c.argument_place.new.t is (c.loop-argument.places.items ++ c.in_ok-place.place ∷ []))
    (sym (take_next c.args.arguments.now c.loop-argument.argument-index c.argument-item.result c.loop-argument-test.true c.argument-item.is))
    (holding_on c.args.t.now c.loop-argument.t c.argument_place.new.t (take c.loop-argument.argument-index c.args.arguments.now) c.loop-argument.places.items c.argument-item.result c.in_ok-place.place
    c.loop-argument.invariant
    (subst (λ a. a < length c.args.t.now) (sym c.argument-item.is) (c.requires c.loop-argument.argument-index c.argument-item.result c.loop-argument-test.true))
    c.in_ok-place.ensures.frame c.in_ok-place.ensures.within c.in_ok-place.ensures.meaning))

pub loop-preserved : goal.loop-preserved
loop-preserved c = (
  subst (IsFile c.loop-argument.t) (sym c.in_ok-push-2.ensures.items) (file_push c.loop-argument.t c.loop.places.items None c.loop.invariant.0 tt),
  λ v. subst (λ l. registers_of c.loop-argument.t v l ≡ held_numbers (arguments_at c.args.t.now v c.args.arguments.now) ++ unset (c.loop.counter + 1)) (sym c.in_ok-push-2.ensures.items)
      (unset_held c.loop-argument.t v (held_numbers (arguments_at c.args.t.now v c.args.arguments.now)) c.loop.counter c.loop.places.items (c.loop.invariant.1 v)),
)
