use Rattle.spec_tree.specs.View.{view_spec}
use Rattle.hk_case.specs.Obligations as definition
use Rattle.hk_cert_read.proofs.Widening.{capped_same}
use Rattle.hk_cert_read.proofs.widths.is_wide.Goals as goal

pub returns : goal.returns
returns c = λ l t laid found. capped_same c.case_bits.result (definition.case_bits l.objects (view_spec c.args.spec.now) t c.args.obligation) (c.case_bits.ensures l t laid found)
