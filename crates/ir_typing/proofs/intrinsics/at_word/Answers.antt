use Rattle.std.proofs.Common.{◌≡◌, ◌≢◌, ◌++◌, List, ℕ, Option, option_map, MatchOption, Bor, sym, ◌∙◌, ap, subst}
use Rattle.std.proofs.lemmas.Slice.Eq.{strip_prefix_is}
use Rattle.std.proofs.lemmas.Bool.Decides.{Decides-eqb}
use Rattle.ir_type.specs.Names.{entry_of}
use Rattle.ir_typing.specs.Intrinsics.{at_widths}
use Rattle.ir_typing.specs.Listed.{form_at}
use Rattle.ir_typing.proofs.Widths.{at_word, at_no_word}
use Rattle.ir_typing.proofs.intrinsics.at_word.Goals as goal

IsStripped : List ℕ → List ℕ → Option (Bor (List ℕ)) → Type 0
IsStripped s p r = MatchOption r ((rest : List ℕ) → s ≢ p ++ rest) (λ x. s ≡ p ++ x.now)

pub returns-in-Some-width : goal.returns-in-Some-width
unfolding IsStripped
returns-in-Some-width c =
    let split = subst (IsStripped c.args.name.now c.args.word.now) c.in-Some.is (strip_prefix_is Decides-eqb c.args.name.now c.args.word.now c.strip_prefix.result c.strip_prefix.ensures.cases) in
    ap (option_map (form_at c.args.form)) c.in-Some-width.ensures
    ∙ sym (ap (λ n. entry_of n (at_widths (c.args.word.now, form_at c.args.form))) split ∙ at_word c.args.word.now (form_at c.args.form) c.in-Some.digits.now)

pub returns-in-None-width : goal.returns-in-None-width
unfolding IsStripped
returns-in-None-width c =
    let split = subst (IsStripped c.args.name.now c.args.word.now) c.in-Some.is (strip_prefix_is Decides-eqb c.args.name.now c.args.word.now c.strip_prefix.result c.strip_prefix.ensures.cases) in
    ap (option_map (form_at c.args.form)) c.in-None-width.ensures
    ∙ sym (ap (λ n. entry_of n (at_widths (c.args.word.now, form_at c.args.form))) split ∙ at_word c.args.word.now (form_at c.args.form) c.in-Some.digits.now)

pub returns-in-None : goal.returns-in-None
unfolding IsStripped
returns-in-None c =
    let split = subst (IsStripped c.args.name.now c.args.word.now) c.in-None.is (strip_prefix_is Decides-eqb c.args.name.now c.args.word.now c.strip_prefix.result c.strip_prefix.ensures.cases) in
    sym (at_no_word c.args.word.now (form_at c.args.form) c.args.name.now split)
