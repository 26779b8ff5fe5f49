use Rattle.hk_simplify.proofs.FormLaws.{grows-trans}
use Rattle.hk_symspec.specs.KernelLaws.{kernel_kept, memory_kept}
use Rattle.hk_symspec.proofs.laws.memories_stay_as_lists_grow.Goals as goal

pub returns-clause-keeps : goal.returns-clause-keeps
returns-clause-keeps c = λ old new longer widths values grows. record {
  longer = longer;
  widths = widths;
  values = values;
  grows = λ first g. grows-trans first old new g grows;
}

pub returns-clause-over : goal.returns-clause-over
returns-clause-over c = kernel_kept

pub returns-clause-same : goal.returns-clause-same
returns-clause-same c = memory_kept
