use Rattle.hk_term.specs.Shape.{Grows}
use Rattle.hk_copy.proofs.StepLaws.{grows-refl, longer-width, longer-value, copied-width, copied-value, copied-cost}
use Rattle.hk_copy.proofs.ListLaws.{copied-reads, copied-quantifiers, copied-free}
use Rattle.hk_copy.proofs.walk.copy.Goals as goal

grown : (c : goal.After-len-len) → Grows c.args.terms.now c.copy_under-made.new.terms
grown c = c.copy_under-made.ensures.grows c.args.terms.now (grows-refl c.args.terms.now)

pub returns-clause-width : goal.returns-clause-width
returns-clause-width c =
    copied-width c.args.terms.now c.copy_under-made.new.terms (grown c) c.len-len.ensures.fit c.args.stands.now c.args.term c.requires.term c.copy_under-made.result c.copy_under-made.ensures.copies

pub returns-clause-value : goal.returns-clause-value
returns-clause-value c =
    copied-value c.args.terms.now c.copy_under-made.new.terms (grown c) c.len-len.ensures.fit c.args.stands.now c.args.term c.requires.term c.copy_under-made.result c.copy_under-made.ensures.copies

pub returns-clause-cost : goal.returns-clause-cost
returns-clause-cost c =
    copied-cost c.args.terms.now c.copy_under-made.new.terms (grown c) c.len-len.ensures.fit c.args.stands.now c.args.term c.requires.term c.copy_under-made.result c.copy_under-made.ensures.copies

pub returns-clause-keeps_widths : goal.returns-clause-keeps_widths
returns-clause-keeps_widths c = longer-width c.args.terms.now c.copy_under-made.new.terms (grown c)

pub returns-clause-keeps_values : goal.returns-clause-keeps_values
returns-clause-keeps_values c = longer-value c.args.terms.now c.copy_under-made.new.terms (grown c)

pub returns-clause-reads : goal.returns-clause-reads
returns-clause-reads c =
    copied-reads c.args.terms.now c.copy_under-made.new.terms (grown c) c.len-len.ensures.fit c.args.stands.now c.args.term c.requires.term c.copy_under-made.result c.copy_under-made.ensures.copies

pub returns-clause-quantifiers : goal.returns-clause-quantifiers
returns-clause-quantifiers c =
    copied-quantifiers c.args.terms.now c.copy_under-made.new.terms (grown c) c.len-len.ensures.fit c.args.stands.now c.args.term c.requires.term c.copy_under-made.result c.copy_under-made.ensures.copies

pub returns-clause-free : goal.returns-clause-free
returns-clause-free c =
    copied-free c.args.terms.now c.copy_under-made.new.terms (grown c) c.len-len.ensures.fit c.args.stands.now c.args.term c.requires.term c.copy_under-made.result c.copy_under-made.ensures.copies
