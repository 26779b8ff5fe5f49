use Rattle.std.proofs.Common.{◌∙◌, ◌<◌, length, sym, subst, ap}
use Rattle.std.specs.List.{All}
use Rattle.hk_cnf.specs.Literal.{IsWithin}
use Rattle.hk_blast.specs.Blasted.{word_in}
use Rattle.hk_blast.proofs.BlastedLaws.{words-within}
use Rattle.hk_inst.proofs.KeptQuestions.{reads-within}
use Rattle.hk_inst.proofs.QuestionFacts.{known-within}
use Rattle.hk_inst.proofs.SetNumbers.{words-short}
use Rattle.hk_inst.proofs.completion.completion.Goals as goal

pub variables-requires-clause-there : goal.variables-requires-clause-there
variables-requires-clause-there c = known-within c.args.s.now.terms c.args.s.now.gates c.args.s.now.bits c.requires.kept.growing.base.blasted

pub variables-requires-clause-short : goal.variables-requires-clause-short
variables-requires-clause-short c = words-short c.args.s.now.terms c.args.s.now.gates c.args.s.now.bits c.requires.kept.growing.base.blasted

pub variables-requires-clause-within : goal.variables-requires-clause-within
variables-requires-clause-within c = λ k.
    subst (λ n. All (IsWithin n) (word_in c.args.s.now.bits k)) (sym (ap length c.as_slice-values.ensures ∙ c.requires.size))
    (words-within c.args.s.now.terms c.args.s.now.gates c.args.s.now.bits c.requires.kept.growing.base.blasted k)

pub read_numbers-requires-clause-there : goal.read_numbers-requires-clause-there
read_numbers-requires-clause-there c = subst (All (λ t. t < length c.args.s.now.terms)) (sym c.as_slice-reads.ensures.value) (reads-within c.args.s.now c.requires.kept)

pub read_numbers-requires-clause-short : goal.read_numbers-requires-clause-short
read_numbers-requires-clause-short c = words-short c.args.s.now.terms c.args.s.now.gates c.args.s.now.bits c.requires.kept.growing.base.blasted

pub read_numbers-requires-clause-within : goal.read_numbers-requires-clause-within
read_numbers-requires-clause-within c = λ k.
    subst (λ n. All (IsWithin n) (word_in c.args.s.now.bits k)) (sym (ap length c.as_slice-values.ensures ∙ c.requires.size))
    (words-within c.args.s.now.terms c.args.s.now.gates c.args.s.now.bits c.requires.kept.growing.base.blasted k)

pub entries-requires-clause-there : goal.entries-requires-clause-there
entries-requires-clause-there c = subst (All (λ t. t < length c.args.s.now.terms)) (sym c.as_slice-reads.ensures.value) (reads-within c.args.s.now c.requires.kept)
