use Rattle.std.proofs.Common.{◌≡◌, [], drop}
use Rattle.hk_cnf.specs.Text.{lines_of}
use Rattle.ir_ast.specs.ProgramView.{view_entries, view_global}
use Rattle.hk_cert.specs.Steps.{place_of}
use Rattle.hk_cert.specs.States.{memory_from}
use Rattle.hk_cert_read.proofs.blocks.memory_at.Given as goal

abbrev pub invariant-each : goal.invariant-each
invariant-each l =
    memory_from l.memory.items (drop l.k (view_entries view_global l.globals)) (drop l.k l.start) (record { next = l.line; lines = lines_of l.text })
    ≡ memory_from [] (view_entries view_global l.globals) l.start (place_of l.fn.at)
