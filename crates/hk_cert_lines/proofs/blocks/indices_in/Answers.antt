use Rattle.std.proofs.Common.{◌≡◌, ◌+◌, [], ◌∷◌, ◌++◌, true, false, map, drop, ap, sym, ◌∙◌, subst}
use Rattle.spec_tree.specs.View.{view_key}
use Rattle.hk_cert_lines.specs.Words.{is_decimal}
use Rattle.hk_cert_lines.specs.Blocks.{digits_of, index_of, indices_from}
use Rattle.hk_cert_lines.proofs.Indexing.{indices_none, indices_word, indices_more}
use Rattle.hk_cert_lines.proofs.blocks.indices_in.Goals as goal

pub returns-in_default : goal.returns-in_default
returns-in_default c =
    sym c.loop-key.invariant
    ∙ indices_none c.loop-key.indices.items c.loop-key.first c.args.keys.now c.loop-key._key-index c.loop-key.rest.now c.loop-key-test.true (sym c.in_default.ensures)

pub returns-then-not-is_decimal : goal.returns-then-not-is_decimal
returns-then-not-is_decimal c =
    let refused : is_decimal (digits_of c.in-Some.front.now) ≡ false = subst (λ w. is_decimal w ≡ false) c.split_digits.ensures.digits (sym c.is_decimal.ensures ∙ c.if-not-is_decimal.true) in
    sym c.loop-key.invariant
    ∙ indices_word c.loop-key.indices.items c.loop-key.first c.args.keys.now c.loop-key._key-index c.loop-key.rest.now c.loop-key-test.true c.in-Some.front.now (sym c.in-Some.ensures) refused

pub loop-key-preserved : goal.loop-key-preserved
loop-key-preserved c =
    let taken : is_decimal (digits_of c.in-Some.front.now) ≡ true = subst (λ w. is_decimal w ≡ true) c.split_digits.ensures.digits (sym c.is_decimal.ensures ∙ c.if-not-is_decimal.false) in
    let pushed : c.push.new.self.items ≡ c.loop-key.indices.items ++ index_of (digits_of c.in-Some.front.now) ∷ [] =
    c.in_ok-push.ensures.items ∙ ap (λ n. c.loop-key.indices.items ++ n ∷ []) (c.index_of.ensures ∙ ap index_of c.split_digits.ensures.digits) in
    ap (λ items. indices_from items false (map view_key (drop (c.loop-key._key-index + 1) c.args.keys.now)) c.split_digits.result.1.now) pushed
    ∙ ap (indices_from (c.loop-key.indices.items ++ index_of (digits_of c.in-Some.front.now) ∷ []) false (map view_key (drop (c.loop-key._key-index + 1) c.args.keys.now))) c.split_digits.ensures.behind
    ∙ sym (indices_more c.loop-key.indices.items c.loop-key.first c.args.keys.now c.loop-key._key-index c.loop-key.rest.now c.loop-key-test.true c.in-Some.front.now (sym c.in-Some.ensures) taken)
    ∙ c.loop-key.invariant
