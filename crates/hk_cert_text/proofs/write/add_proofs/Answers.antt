use Rattle.std.proofs.Common.{length, rules}
use Rattle.std.proofs.lemmas.Slice.Zip.{zip_turn, zip_end}
use Rattle.std.specs.List.{zip}
use Rattle.spec_tree.specs.View.{view_spec}
use Rattle.hk_cert_text.specs.Certificate.{proved_text}
use Rattle.hk_cert_text.proofs.Behind.{adds_next, adds_all, one_longer, pair_within, pair_at, pairs_end}
use Rattle.hk_cert_text.proofs.write.add_proofs.Goals as goal

pub loop-obligation-preserved : goal.loop-obligation-preserved
loop-obligation-preserved c =
    let ks = c.args.obligations.now in
    let vs = c.args.proofs.now in
    let done = c.loop-obligation.yielded in
    let turn = zip_turn ks vs done c.into_iter-obligation-iterator.result c.loop-obligation.obligation-iterator c.next.new.self c.next.result (search rules) (search rules) c.loop-obligation.yielded_by
    (c.in-Some.obligation, c.in-Some.proof) c.in-Some.is c.next.ensures.steps in
    adds_next (λ e. proved_text (view_spec c.args.spec.now) e.0 e.1) (zip ks vs) (length done) _ _ (c.in-Some.obligation.now, c.in-Some.proof.now) _ _ _
    (pair_within ks vs (length done) turn.0 turn.1) (pair_at ks vs (length done) _ _ turn.0 turn.1 (turn.2 _) (turn.3 _)) (one_longer done _)
    c.loop-obligation.invariant c.in_ok-add_proved.ensures

pub returns : goal.returns
returns c =
    let ks = c.args.obligations.now in
    let vs = c.args.proofs.now in
    let done = c.loop-obligation.yielded in
    let end = zip_end ks vs done c.into_iter-obligation-iterator.result c.loop-obligation.obligation-iterator c.next.new.self c.next.result (search rules) (search rules) c.loop-obligation.yielded_by c.in-None.is c.next.ensures.steps in
    adds_all (λ e. proved_text (view_spec c.args.spec.now) e.0 e.1) (zip ks vs) (length done) _ _ (pairs_end ks vs (length done) end) c.loop-obligation.invariant
