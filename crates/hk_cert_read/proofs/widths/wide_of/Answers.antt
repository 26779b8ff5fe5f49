use Rattle.spec_tree.specs.View.{view_spec}
use Rattle.hk_cert_read.proofs.Widening.{wide_same}
use Rattle.hk_cert_read.proofs.widths.wide_of.Goals as goal

pub returns : goal.returns
returns c = λ l t laid found.
    wide_same l.objects (view_spec c.args.spec.now) t (record { properties = c.is_wide.result; others = c.is_wide-2.result })
    (c.is_wide.ensures l t laid found) (c.is_wide-2.ensures l t laid found)
