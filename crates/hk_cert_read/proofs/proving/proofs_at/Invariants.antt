use Rattle.std.proofs.Common.{◌≡◌, [], drop}
use Rattle.hk_cnf.specs.Text.{lines_of}
use Rattle.spec_tree.specs.View.{view_spec}
use Rattle.hk_cert.specs.Steps.{place_of}
use Rattle.hk_cert_read.specs.Proving.{proofs_by}
use Rattle.hk_cert_read.specs.Widths.{wide_for}
use Rattle.hk_cert_read.proofs.proving.proofs_at.Given as goal

abbrev pub invariant-each : goal.invariant-each
invariant-each l =
    proofs_by (wide_for l.wide) (view_spec l.spec) l.proofs (drop l.obligation-index l.owed) (record { next = l.line; lines = lines_of l.text })
    ≡ proofs_by (wide_for l.wide) (view_spec l.spec) [] l.owed (place_of l.fn.at)
