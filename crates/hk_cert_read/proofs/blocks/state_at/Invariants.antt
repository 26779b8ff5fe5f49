use Rattle.std.proofs.Common.{◌≡◌, [], drop, map}
use Rattle.hk_cnf.specs.Text.{lines_of}
use Rattle.spec_tree.specs.View.{view_field}
use Rattle.hk_cert.specs.Steps.{place_of}
use Rattle.hk_cert.specs.States.{state_from}
use Rattle.hk_cert_read.proofs.blocks.state_at.Given as goal

abbrev pub invariant-each : goal.invariant-each
invariant-each l =
    state_from l.state.items (map view_field (drop l.field-index l.fields)) (record { next = l.line; lines = lines_of l.text })
    ≡ state_from [] (map view_field l.fields) (place_of l.fn.at)
