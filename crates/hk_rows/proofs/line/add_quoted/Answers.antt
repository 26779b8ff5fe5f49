use Rattle.std.proofs.Common.{◌++◌, ◌∷◌, []}
use Rattle.std.specs.List.{flat_map}
use Rattle.hk_rows.specs.Texts.{escaped}
use Rattle.hk_rows.proofs.Adding.{on_err, err_then, ok_then, adds_then, fails_then, fails_front}
use Rattle.hk_rows.proofs.line.add_quoted.Goals as goal

pub returns-in_err-add_byte-clause-err : goal.returns-in_err-add_byte-clause-err
returns-in_err-add_byte-clause-err g c =
    on_err _ _ (fails_front _ _ _ _ _ (34 ∷ []) (flat_map escaped c.args.name.now ++ 34 ∷ []) c.in_err-add_byte.ensures.err)

pub returns-in_err-add_all_escaped-clause-err : goal.returns-in_err-add_all_escaped-clause-err
returns-in_err-add_all_escaped-clause-err g c =
    let both = fails_then _ _ _ _ _ _ _ _ (34 ∷ []) (flat_map escaped c.args.name.now) c.in_ok-add_byte.ensures.ok c.in_err-add_all_escaped.ensures.err in
    on_err _ _ (fails_front _ _ _ _ _ (34 ∷ flat_map escaped c.args.name.now) (34 ∷ []) both)

pub returns-clause-ok : goal.returns-clause-ok
returns-clause-ok g c =
    let both = adds_then _ _ _ _ _ _ _ _ _ (34 ∷ []) (flat_map escaped c.args.name.now) c.in_ok-add_byte.ensures.ok c.in_ok-add_all_escaped.ensures.ok in
    ok_then _ _ _ (λ last. adds_then _ _ _ _ _ _ _ _ _ (34 ∷ flat_map escaped c.args.name.now) (34 ∷ []) both last) c.add_byte-2.ensures.ok

pub returns-clause-err : goal.returns-clause-err
returns-clause-err g c =
    let both = adds_then _ _ _ _ _ _ _ _ _ (34 ∷ []) (flat_map escaped c.args.name.now) c.in_ok-add_byte.ensures.ok c.in_ok-add_all_escaped.ensures.ok in
    err_then _ _ _ (λ last. fails_then _ _ _ _ _ _ _ _ (34 ∷ flat_map escaped c.args.name.now) (34 ∷ []) both last) c.add_byte-2.ensures.err
