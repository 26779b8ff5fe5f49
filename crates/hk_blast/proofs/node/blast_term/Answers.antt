use Rattle.std.proofs.Common.{sym, subst, arith, ◌≤◌}
use Rattle.hk_blast.specs.Blasted.{HasWord, IsMissing, AreBlasted, places_of}
use Rattle.hk_blast.proofs.WordLists.{has_here, has_more, has_from, missing_here, only_here}
use Rattle.hk_blast.proofs.BlastedLaws.{grown-blasted, push-blasted}
use Rattle.std.proofs.lemmas.List.Elements.{All-weaker}
use Rattle.hk_blast.proofs.NodeLaws.{lengthens-push}
use Rattle.hk_blast.proofs.node.blast_term.Goals as goal

pub returns-in_err-word-clause-table : goal.returns-in_err-word-clause-table
returns-in_err-word-clause-table c =
    grown-blasted c.args.terms.now c.args.gates.now c.term_word.new.gates c.args.bits.now c.term_word.ensures.vars c.term_word.ensures.keeps c.requires.table

pub returns-in_err-enter-clause-table : goal.returns-in_err-enter-clause-table
returns-in_err-enter-clause-table c =
    subst (λ table. AreBlasted c.args.terms.now c.term_word.new.gates table) (sym c.in_err-enter.ensures.err)
    (grown-blasted c.args.terms.now c.args.gates.now c.term_word.new.gates c.args.bits.now c.term_word.ensures.vars c.term_word.ensures.keeps c.requires.table)

pub returns-clause-table : goal.returns-clause-table
returns-clause-table c =
    subst (λ table. AreBlasted c.args.terms.now c.term_word.new.gates table) (sym c.in_ok-enter.ensures.ok)
    (push-blasted c.args.terms.now c.term_word.new.gates c.args.bits.now c.args.t c.in_ok-word.word.items
    (grown-blasted c.args.terms.now c.args.gates.now c.term_word.new.gates c.args.bits.now c.term_word.ensures.vars c.term_word.ensures.keeps c.requires.table) c.in_ok-word.ensures.blasted)

pub returns-clause-there : goal.returns-clause-there
returns-clause-there c =
    subst (λ table. HasWord table c.args.t) (sym c.in_ok-enter.ensures.ok)
    (has_from c.args.t _ c.in_ok-word.word.items (has_here c.args.t c.args.bits.now c.in_ok-word.word.items c.requires.first))

pub returns-clause-kept : goal.returns-clause-kept
returns-clause-kept c = λ k h. subst (λ table. HasWord table k) (sym c.in_ok-enter.ensures.ok) (has_more k c.args.bits.now _ h)

pub returns-clause-others : goal.returns-clause-others
returns-clause-others c = λ k h d. subst (λ table. IsMissing table k) (sym c.in_ok-enter.ensures.ok) (missing_here k c.args.t c.args.bits.now c.in_ok-word.word.items h d)

pub returns-clause-only : goal.returns-clause-only
returns-clause-only c = λ k h. only_here k c.args.t c.args.bits.now c.in_ok-word.word.items (subst (λ table. HasWord table k) c.in_ok-enter.ensures.ok h)

pub returns-clause-lengthens : goal.returns-clause-lengthens
returns-clause-lengthens c = λ first front l h.
    lengthens-push c.args.terms.now first front c.args.bits.now (c.args.t, c.in_ok-word.word.items) c.enter.new.self c.in_ok-enter.ensures.ok
    (All-weaker (λ p. c.args.gates.now.vars ≤ p) (λ p. first ≤ p) (λ p b. omega (arith, l, b)) (places_of c.args.terms.now (c.args.t, c.in_ok-word.word.items)) c.in_ok-word.ensures.fresh) h
