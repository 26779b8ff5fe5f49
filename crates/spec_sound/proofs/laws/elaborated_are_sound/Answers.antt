use Rattle.std.proofs.Common.{subst}
use Rattle.spec_kernel.specs.View.{kernel_of}
use Rattle.spec_lines.specs.Behind.{begin}
use Rattle.spec_lines.specs.Laws.{Tells}
use Rattle.spec_lines.specs.Whole.{text_of}
use Rattle.spec_sound.proofs.Fitting.{fits_kernel}
use Rattle.spec_sound.proofs.Whole.{well_sorted}
use Rattle.spec_sound.proofs.laws.elaborated_are_sound.Goals as goal

pub returns-clause-sorted : goal.returns-clause-sorted
returns-clause-sorted c = λ m strays raw spec widths none made within.
    let k = kernel_of m in
    let t = text_of strays k raw in
    let stand = subst (Tells t (begin k raw) raw) none (c.first_faults_are_told.ensures.told t (begin k raw) raw) in
    let taken = c.what_is_taken_is_sorted.ensures in
    let shapes = c.shapes_lie_in_their_objects.ensures in
    well_sorted taken.taken taken.own taken.keys c.equations_are_sorted.ensures t k raw (shapes.leaves m) (shapes.lies m) widths stand spec made within

pub returns-clause-fits : goal.returns-clause-fits
returns-clause-fits c = λ m strays raw spec none made.
    let k = kernel_of m in
    let t = text_of strays k raw in
    fits_kernel t k raw spec (subst (Tells t (begin k raw) raw) none (c.first_faults_are_told.ensures.told t (begin k raw) raw)) made
