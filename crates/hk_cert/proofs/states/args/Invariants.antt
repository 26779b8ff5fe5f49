use Rattle.std.proofs.Common.{◌≡◌, [], drop}
use Rattle.hk_cnf.specs.Text.{lines_of}
use Rattle.hk_cert.specs.Steps.{place_of}
use Rattle.hk_cert.specs.States.{args_from}
use Rattle.hk_cert.proofs.states.args.Given as goal

abbrev pub invariant-loop-k : goal.invariant-loop-k
invariant-loop-k l = args_from l.args l.k (drop l.k l.widths) (record { next = l.line; lines = lines_of l.text }) ≡ args_from [] 0 l.widths (place_of l.fn.at)
