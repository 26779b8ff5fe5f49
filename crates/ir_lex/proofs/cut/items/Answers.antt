use Rattle.std.proofs.Common.{◌≡◌, ◌++◌, [], subst, drop, get_or, sym, refl, arith}
use Rattle.ir_lex.specs.Lexeme.{lexemes}
use Rattle.ir_lex.specs.Cut.{cuts_of, cut_from, cut}
use Rattle.ir_lex.specs.declared.token.Token.{Token}
use Rattle.ir_lex.specs.declared.token.TokenKind.TheVariants.{Word}
use Rattle.ir_lex.specs.declared.cut.Item.{Item}
use Rattle.ir_lex.proofs.Cutting.{starts_cut, goes_cut, ends_cut, none_left, drop_on}
use Rattle.ir_lex.proofs.cut.items.Goals as goal

pub loop-at-init : goal.loop-at-init
loop-at-init c = record {
  so_far = rw c.new-found.ensures.items (starts_cut (lexemes c.args.tokens.now));
  within = omega arith;
}

pub loop-at-preserved : goal.loop-at-preserved
loop-at-preserved c =
    let stretch = c.in_ok-count.ensures in
    let rest = c.split_at.result.1.now in
    let first : Token = record { kind = Word; line = 0; text = record { ref_ptr = (0, 0); now = [] } } in
    let item : Item = record { line = (get_or rest 0 first).line; tokens = c.split_at-in-loop-at.result.0; closed = c.in_ok-count.field-0.closed } in
    let back = c.split_at.ensures.back in
    let before = subst (λ ts. cuts_of c.loop-at.found.items ++ cut_from 0 (lexemes ts) ≡ cut (lexemes c.args.tokens.now)) (sym back) c.loop-at.invariant.so_far in
    let found = goes_cut c.loop-at.found.items item first c.in_ok-count.field-0.count rest (cut (lexemes c.args.tokens.now)) stretch.value stretch.within.0 refl c.split_at-in-loop-at.ensures.front (omega (arith, stretch.within.0, stretch.within.1)) before in
    record {
      so_far = rw (c.in_ok-push.ensures.items, drop_on c.loop-at.at c.in_ok-count.field-0.count c.args.tokens.now, sym back) found;
      within = omega (arith, c.split_at.ensures.back_len, stretch.within.1);
    }

pub returns : goal.returns
returns c =
    let all = c.args.tokens.now in
    ends_cut c.loop-at.found.items (drop c.loop-at.at all) (cut (lexemes all)) (none_left c.loop-at.at all c.loop-at-test.false) c.loop-at.invariant.so_far
