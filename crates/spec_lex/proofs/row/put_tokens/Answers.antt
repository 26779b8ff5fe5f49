use Rattle.std.proofs.Common.{sym, arith, rules}
use Rattle.spec_lex.specs.Token.{token_of}
use Rattle.spec_lex.specs.Reading.{row_tokens}
use Rattle.spec_lex.specs.declared.token.Token.{Token}
use Rattle.spec_lex.proofs.Rows.{reads_comment, reads_none, reads_token, ends_tokens, ends_nest, moves_token, moves_nest}
use Rattle.spec_lex.proofs.row.put_tokens.Goals as goal

pub returns-in-Comment-clause-tokens : goal.returns-in-Comment-clause-tokens
returns-in-Comment-clause-tokens c =
    ends_tokens _ _ _ (reads_comment c.loop-rest.rest.now (sym c.in-Comment.ensures.value)) c.loop-rest.invariant.tokens

pub loop-rest-preserved : goal.loop-rest-preserved
loop-rest-preserved c =
    let token : Token = record { kind = c.in-Whole.kind; text = c.split_at-in-Whole.result.0 } in
    let first = reads_token token c.in-Whole.length c.loop-rest.rest.now (sym c.in-Whole.ensures.value) c.in-Whole.ensures.within.0 c.split_at-in-Whole.ensures.front in
    record {
      tokens = rw (c.in_ok-push-in-Whole.ensures, c.split_at-in-Whole.ensures.back) (moves_token _ _ _ _ (token_of token) first c.loop-rest.invariant.tokens);
      nest = rw (c.nest_behind-level.ensures.value, c.split_at-in-Whole.ensures.back) (moves_nest _ c.args.nest _ _ (row_tokens c.args.row.now) (token_of token) first c.loop-rest.invariant.nest);
      short = omega (arith, c.split_at-in-Whole.ensures.back_len, c.loop-rest.invariant.short);
      room = omega (arith, c.split_at-in-Whole.ensures.back_len, c.nest_behind-level.ensures.within, c.in-Whole.ensures.within.0, c.loop-rest.invariant.room);
    }

pub returns-clause-tokens : goal.returns-clause-tokens
returns-clause-tokens c = ends_tokens _ _ _ (reads_none c.loop-rest.rest.now (search rules)) c.loop-rest.invariant.tokens

pub returns-clause-nest : goal.returns-clause-nest
returns-clause-nest c = ends_nest _ c.args.nest _ (row_tokens c.args.row.now) (reads_none c.loop-rest.rest.now (search rules)) c.loop-rest.invariant.nest
