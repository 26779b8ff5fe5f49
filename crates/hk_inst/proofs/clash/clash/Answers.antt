use Rattle.std.proofs.Common.{◌≡◌, ◌&&◌, ◌∙◌, ℕ, true, Some, rules, refl, sym, subst, ap}
use Rattle.std.specs.Prelude.{slice_get}
use Rattle.std.proofs.lemmas.Bool.{eq-eqb}
use Rattle.hk_term.specs.declared.node.Node.TheVariants.{Select}
use Rattle.hk_inst.specs.Inputs.{number_in, entry_number, is_read_at}
use Rattle.hk_inst.specs.States.{asked_of}
use Rattle.hk_inst.specs.Violations.{Clashes, first_read}
use Rattle.hk_inst.proofs.FirstReads.{clash-found}
use Rattle.hk_inst.proofs.clash.clash.Goals as goal

pub returns-else-get-number-clause-differs : goal.returns-else-get-number-clause-differs
returns-else-get-number-clause-differs c =
    let q = asked_of c.args.s.now in
    let f : ℕ → ℕ = number_in c.args.s.now.bits c.args.values.now in
    let array = c.in-Some.array in
    let index = c.in-Some.index in
    let at : slice_get c.args.s.now.terms c.args.t ≡ Some (Select array c.in-Some.ensures.some.0 index) = search rules in
    let here : is_read_at (slice_get q.nodes c.args.t) f array (f index) ≡ true = ap (λ o. is_read_at o f array (f index)) at ∙ (λ x. eq-eqb array array refl x && eq-eqb (f index) (f index) refl x) in
    let there : c.get.result ≡ entry_number q.nodes f q.table.reads array (f index) = search rules in
    let other : c.get.result ≡ f c.args.t → ⊥ = λ e. c.if-get-number.false (e ∙ sym c.number_of-number.ensures) in
    let first : first_read q.nodes f q.table.reads 0 array (f index) ≡ c.get-else-get-number.result = search rules in
    subst (λ j. Clashes q.nodes q.table f j c.args.t) first
    (clash-found q.nodes q.table f c.args.t array c.in-Some.ensures.some.0 index c.get.result c.requires.read at here there other)
