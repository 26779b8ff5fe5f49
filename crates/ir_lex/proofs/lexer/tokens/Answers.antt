use Rattle.std.proofs.Common.{sym, arith}
use Rattle.ir_lex.specs.declared.token.Token.{Token}
use Rattle.ir_lex.proofs.Lexing.{goes_token}
use Rattle.ir_lex.proofs.lexer.tokens.Goals as goal

pub loop-rest-preserved : goal.loop-rest-preserved
loop-rest-preserved c =
    let token : Token = record { kind = c.in-Whole.kind; line = c.loop-rest.line; text = c.split_at-in-Whole.result.0 } in
    let read = goes_token c.loop-rest.found.items token c.in-Whole.length c.loop-rest.rest.now c.args.text.now (sym c.in-Whole.ensures.value) c.in-Whole.ensures.within.0 c.split_at-in-Whole.ensures.front c.loop-rest.invariant.so_far in
    record {
      so_far = rw (c.in_ok-push-in-Whole.ensures.items, c.split_at-in-Whole.ensures.back) read;
      short = omega (arith, c.split_at-in-Whole.ensures.back_len, c.loop-rest.invariant.short);
      room = omega (arith, c.split_at-in-Whole.ensures.back_len, c.loop-rest.invariant.room);
    }
