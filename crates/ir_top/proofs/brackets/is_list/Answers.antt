use Rattle.std.proofs.Common.{sym, ◌∙◌, []}
use Rattle.ir_lex.specs.declared.token.Token.{Token}
use Rattle.ir_lex.specs.declared.token.TokenKind.TheVariants.{Word}
use Rattle.ir_part.specs.Reader.{seen}
use Rattle.ir_top.specs.Tops.{is_list}
use Rattle.ir_top.proofs.Listing.{last_turn, wrong_turn, next_turn}
use Rattle.ir_top.proofs.brackets.is_list.Goals as goal

-- what stands for a token that is not there
nothing : Token
nothing = record { kind = Word; line = 0; text = record { ref_ptr = (0, 0); now = [] } }

pub loop-at-preserved : goal.loop-at-preserved
unfolding nothing
loop-at-preserved c =
    next_turn c.loop-at.brackets c.pass.new.self c.args.tokens.now c.split_at.result.1.now c.loop-at.at nothing (is_list [] (seen c.args.tokens.now)) c.loop-at-test.true c.split_at.ensures.back
    (sym c.is_ended.ensures ∙ c.if-is_ended.false) c.loop-at.invariant (sym c.takes.ensures ∙ c.if-not-takes.false) c.in_ok-pass.ensures

pub returns-then-not-takes : goal.returns-then-not-takes
unfolding nothing
returns-then-not-takes c =
    wrong_turn c.loop-at.brackets c.args.tokens.now c.split_at.result.1.now c.loop-at.at nothing (is_list [] (seen c.args.tokens.now)) c.loop-at-test.true c.split_at.ensures.back
    (sym c.is_ended.ensures ∙ c.if-is_ended.false) c.loop-at.invariant (sym c.takes.ensures ∙ c.if-not-takes.true)

pub returns-then-is_ended : goal.returns-then-is_ended
unfolding nothing
returns-then-is_ended c =
    last_turn c.loop-at.brackets c.args.tokens.now c.split_at.result.1.now c.loop-at.at nothing (is_list [] (seen c.args.tokens.now)) c.end_with.result c.loop-at-test.true c.split_at.ensures.back
    (sym c.is_ended.ensures ∙ c.if-is_ended.true) c.loop-at.invariant c.end_with.ensures
