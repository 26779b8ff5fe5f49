use Rattle.std.proofs.Common.{◌≡◌, ◌<◌, ◌++◌, [], subst, sym, ◌∙◌, drop, length, arith}
use Rattle.ir_lex.specs.Lexeme.{lexemes}
use Rattle.ir_lex.specs.Drop.{remaining, remaining_from}
use Rattle.ir_lex.specs.Within.{IsFrontWithin}
use Rattle.ir_lex.specs.declared.drops.Front.TheVariants.{Dropped}
use Rattle.ir_lex.specs.declared.token.Token.{Token}
use Rattle.ir_lex.specs.declared.token.TokenKind.TheVariants.{Word}
use Rattle.ir_lex.proofs.Cutting.{none_left, drop_on}
use Rattle.ir_lex.proofs.Dropping.{starts_dropped, goes_kept, goes_dropped, goes_unclosed, goes_end, ends_dropped}
use Rattle.ir_lex.proofs.drops.remaining.Goals as goal

pub loop-at-init : goal.loop-at-init
loop-at-init c = record {
  so_far = starts_dropped c.in_ok-kept.kept.items c.args.tokens.now c.label_length-at.result (c.in_ok-kept.ensures.items ∙ c.split_at.ensures.front) c.label_length-at.ensures.value;
  within = c.label_length-at.ensures.within;
}

pub loop-at-preserved-in-Kept : goal.loop-at-preserved-in-Kept
loop-at-preserved-in-Kept c =
    let tokens = c.args.tokens.now in
    let rest = c.split_at-in-loop-at.result.1.now in
    let first : Token = record { kind = Word; line = 0; text = record { ref_ptr = (0, 0); now = [] } } in
    let back = c.split_at-in-loop-at.ensures.back in
    let before = subst (λ ts. lexemes c.loop-at.kept.items ++ remaining_from 0 c.loop-at.after_comma (lexemes ts) ≡ remaining (lexemes tokens)) (sym back) c.loop-at.invariant.so_far in
    let some : 0 < length rest = omega (arith, c.split_at-in-loop-at.ensures.back_len, c.loop-at-test.true) in
    let kept = goes_kept c.loop-at.kept.items first c.loop-at.after_comma c.is_mark-after_comma.result rest (remaining (lexemes tokens)) some (sym c.in-Kept.is ∙ c.in_ok-front_of.ensures.value) c.is_mark-after_comma.ensures before in
    record {
      so_far = rw (c.in_ok-push-in-Kept.ensures.items, drop_on c.loop-at.at 1 tokens, sym back) kept;
      within = omega (arith, c.loop-at-test.true);
    }

pub loop-at-preserved-in-Dropped : goal.loop-at-preserved-in-Dropped
loop-at-preserved-in-Dropped c =
    let tokens = c.args.tokens.now in
    let rest = c.split_at-in-loop-at.result.1.now in
    let back = c.split_at-in-loop-at.ensures.back in
    let before = subst (λ ts. lexemes c.loop-at.kept.items ++ remaining_from 0 c.loop-at.after_comma (lexemes ts) ≡ remaining (lexemes tokens)) (sym back) c.loop-at.invariant.so_far in
    let bounds : IsFrontWithin (length rest) (Dropped c.in-Dropped.count) = subst (IsFrontWithin (length rest)) c.in-Dropped.is c.in_ok-front_of.ensures.within in
    let kept = goes_dropped c.loop-at.kept.items c.in-Dropped.count c.loop-at.after_comma rest (remaining (lexemes tokens)) bounds.0 (sym c.in-Dropped.is ∙ c.in_ok-front_of.ensures.value) before in
    record {
      so_far = rw (drop_on c.loop-at.at c.in-Dropped.count tokens, sym back) kept;
      within = omega (arith, c.split_at-in-loop-at.ensures.back_len, bounds.1);
    }

pub loop-at-preserved : goal.loop-at-preserved
loop-at-preserved c =
    let tokens = c.args.tokens.now in
    let rest = c.split_at-in-loop-at.result.1.now in
    let back = c.split_at-in-loop-at.ensures.back in
    let before = subst (λ ts. lexemes c.loop-at.kept.items ++ remaining_from 0 c.loop-at.after_comma (lexemes ts) ≡ remaining (lexemes tokens)) (sym back) c.loop-at.invariant.so_far in
    let kept = goes_unclosed c.loop-at.kept.items c.loop-at.after_comma rest (remaining (lexemes tokens)) (sym c.in-Unclosed.is ∙ c.in_ok-front_of.ensures.value) before in
    record {
      so_far = goes_end c.extend_from_slice.new.self.items c.loop-at.after_comma tokens (remaining (lexemes tokens)) (rw c.in_ok-extend_from_slice-in-Unclosed.ensures.items kept);
      within = omega arith;
    }

pub returns : goal.returns
returns c =
    let tokens = c.args.tokens.now in
    c.new.ensures ∙ ends_dropped c.loop-at.kept.items c.loop-at.after_comma (drop c.loop-at.at tokens) (remaining (lexemes tokens)) (none_left c.loop-at.at tokens c.loop-at-test.false) c.loop-at.invariant.so_far
