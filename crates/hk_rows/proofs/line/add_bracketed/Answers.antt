use Rattle.std.proofs.Common.{◌++◌, ◌∷◌, []}
use Rattle.std.specs.List.{flat_map}
use Rattle.std.specs.Prelude.{codes}
use Rattle.hk_rows.specs.Texts.{numbered}
use Rattle.hk_rows.proofs.Adding.{on_err, err_then, ok_then, adds_then, fails_then, fails_front}
use Rattle.hk_rows.proofs.line.add_bracketed.Goals as goal

pub returns-in_err-add_numbered-clause-err : goal.returns-in_err-add_numbered-clause-err
returns-in_err-add_numbered-clause-err g c =
    on_err _ _ (fails_front _ _ _ _ _ (numbered (codes "[") c.args.index) (flat_map (numbered (codes ", ")) c.args.indices.now ++ 93 ∷ []) c.in_err-add_numbered.ensures.err)

pub returns-in_err-add_later_indices-clause-err : goal.returns-in_err-add_later_indices-clause-err
returns-in_err-add_later_indices-clause-err g c =
    let later = flat_map (numbered (codes ", ")) c.args.indices.now in
    on_err _ _ (fails_then _ _ _ _ _ _ _ _ (numbered (codes "[") c.args.index) (later ++ 93 ∷ []) c.in_ok-add_numbered.ensures.ok (fails_front _ _ _ _ _ later (93 ∷ []) c.in_err-add_later_indices.ensures.err))

pub returns-clause-ok : goal.returns-clause-ok
returns-clause-ok g c =
    let later = flat_map (numbered (codes ", ")) c.args.indices.now in
    ok_then _ _ _ (λ last. adds_then _ _ _ _ _ _ _ _ _ (numbered (codes "[") c.args.index) (later ++ 93 ∷ []) c.in_ok-add_numbered.ensures.ok (adds_then _ _ _ _ _ _ _ _ _ later (93 ∷ []) c.in_ok-add_later_indices.ensures.ok last)) c.add_byte.ensures.ok

pub returns-clause-err : goal.returns-clause-err
returns-clause-err g c =
    let later = flat_map (numbered (codes ", ")) c.args.indices.now in
    err_then _ _ _ (λ last. fails_then _ _ _ _ _ _ _ _ (numbered (codes "[") c.args.index) (later ++ 93 ∷ []) c.in_ok-add_numbered.ensures.ok (fails_then _ _ _ _ _ _ _ _ later (93 ∷ []) c.in_ok-add_later_indices.ensures.ok last)) c.add_byte.ensures.err
