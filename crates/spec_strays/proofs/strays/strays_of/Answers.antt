use Rattle.std.proofs.Common.{List, Bool, length, subst}
use Rattle.std.proofs.lemmas.Result.{IfOk-weaker}
use Rattle.spec_kernel.specs.Seen.{kernel_in}
use Rattle.spec_scope.specs.Words.{words}
use Rattle.spec_lines.specs.Whole.{AreStrays}
use Rattle.spec_lines.specs.Lines.{strays_in}
use Rattle.spec_strays.specs.Reached.{AreReached}
use Rattle.spec_strays.specs.Places.{AreStrayPlaces}
use Rattle.spec_strays.proofs.Straying.{strays_told, callers_within, places_within}
use Rattle.spec_strays.proofs.strays.strays_of.Goals as goal

pub reached-requires-clause-within : goal.reached-requires-clause-within
reached-requires-clause-within c = callers_within (kernel_in c.args.kernel.now) c.in_ok-callers.callers c.in_ok-callers.ensures

pub reached-requires-clause-starts : goal.reached-requires-clause-starts
reached-requires-clause-starts c =
    places_within (kernel_in c.args.kernel.now) c.as_slice.result.now c.in_ok-strays.strays.items c.in_ok-callers.callers c.in_ok-strays.ensures c.in_ok-callers.ensures

pub returns : goal.returns
returns c =
    let k = kernel_in c.args.kernel.now in
    let strays = subst (λ (flags : List Bool). AreStrayPlaces k flags (length k.functions) c.in_ok-strays.strays.items) c.as_slice.ensures.value c.in_ok-strays.ensures in
    IfOk-weaker c.reached.result (λ flags. AreReached c.in_ok-callers.callers c.in_ok-strays.strays.items flags.items)
    (λ flags. AreStrays k (words c.args.hooks.now) (strays_in k flags.items))
    (λ flags reached. strays_told k (words c.args.hooks.now) c.in_ok-hooked.hooked.items c.in_ok-hooked.ensures.told c.in_ok-strays.strays.items strays c.in_ok-callers.callers c.in_ok-callers.ensures
    flags.items reached)
    c.reached.ensures
