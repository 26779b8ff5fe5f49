use Rattle.std.proofs.Common.{◌≡◌, map, length}
use Rattle.std.proofs.lemmas.List.{length-map}
use Rattle.hk_cdcl.specs.Records.{lit_of}
use Rattle.hk_cdcl.proofs.Blocking.{found-before}
use Rattle.hk_cdcl.proofs.records.left_before.Goals as goal

pub returns : goal.returns
returns c =
    let n : length (map lit_of c.args.codes.now) ≡ length c.args.codes.now = length-map c.args.codes.now lit_of in
    found-before c.args.trail.now.lits (map lit_of c.args.codes.now) (lit_of c.args.other) c.args.start c.left_between.result (rw n c.requires.none) c.left_between.ensures
