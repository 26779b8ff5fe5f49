use Rattle.std.proofs.Common.{◌≡◌, ◌≤◌, length, ap, arith}
use Rattle.std.proofs.lemmas.List.{length-map}
use Rattle.spec_tree.specs.View.{view_spec, view_transition}
use Rattle.hk_cert_read.proofs.handlers.handlers_in.Goals as goal

pub returns : goal.returns
returns c =
    let few : length (view_spec c.args.spec.now).transitions ≤ 256 = c.requires.handlers in
    let same = length-map c.args.spec.now.transitions view_transition in
    let len : length c.as_slice.result.now ≡ length c.args.spec.now.transitions = ap length c.as_slice.ensures in
    omega (arith, few, same, len)
