use Rattle.std.proofs.Common.{◌≡◌, true, false, [], subst, get_or, sym, ◌∙◌}
use Rattle.ir_lex.specs.Lexeme.{lexeme, lexemes}
use Rattle.ir_lex.specs.declared.token.Token.{Token}
use Rattle.ir_lex.specs.declared.token.TokenKind.TheVariants.{Word}
use Rattle.ir_body.specs.LeftOut.{is_left_out}
use Rattle.ir_body.proofs.LeftOutSteps.{found_here, goes_on}
use Rattle.ir_body.proofs.tell.holds_left_out.Goals as goal

pub returns-then-is_left_out : goal.returns-then-is_left_out
returns-then-is_left_out c =
    let tokens = c.args.tokens.now in
    let token : Token = record { kind = Word; line = 0; text = record { ref_ptr = (0, 0); now = [] } } in
    let is = subst (λ ts. is_left_out (lexeme (get_or tokens c.loop-at.at token)) (lexemes ts) ≡ true) c.split_at.ensures.back (sym c.if-is_left_out.ensures) in
    sym (found_here c.loop-at.at tokens token c.loop-at-test.true is) ∙ c.loop-at.invariant

pub loop-at-preserved : goal.loop-at-preserved
loop-at-preserved c =
    let tokens = c.args.tokens.now in
    let token : Token = record { kind = Word; line = 0; text = record { ref_ptr = (0, 0); now = [] } } in
    let is = subst (λ ts. is_left_out (lexeme (get_or tokens c.loop-at.at token)) (lexemes ts) ≡ false) c.split_at.ensures.back (sym c.if-is_left_out.ensures) in
    goes_on c.loop-at.at tokens token c.loop-at-test.true is ∙ c.loop-at.invariant
