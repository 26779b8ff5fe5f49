use Rattle.std.proofs.Common.{◌≡◌, ◌∙◌, ap, Some, nat_eq}
use Rattle.std.specs.Map.{lookup}
use Rattle.hk_blast.proofs.BlastedLaws.{got-within, got-size}
use Rattle.hk_blast.proofs.table.BitTable.get.Goals as goal

pub returns-in-Some-clause-size : goal.returns-in-Some-clause-size
returns-in-Some-clause-size c = λ nodes d h.
    let own : c.as_slice.result.now ≡ c.in-Some.bits.now = c.as_slice.ensures.value ∙ c.bits.view_is in
    let got : Some c.in-Some.bits.now ≡ lookup (nat_eq c.args.t) c.self.inside.words.entries = c.in-Some.ensures.value in
    got-size nodes d c.args.self.now c.args.t c.as_slice.result.now h (ap Some own ∙ (got ∙ ap (lookup (nat_eq c.args.t)) c.self.view_is))

pub returns-in-Some-clause-within : goal.returns-in-Some-clause-within
returns-in-Some-clause-within c = λ nodes d h.
    let own : c.as_slice.result.now ≡ c.in-Some.bits.now = c.as_slice.ensures.value ∙ c.bits.view_is in
    let got : Some c.in-Some.bits.now ≡ lookup (nat_eq c.args.t) c.self.inside.words.entries = c.in-Some.ensures.value in
    got-within nodes d c.args.self.now c.args.t c.as_slice.result.now h (ap Some own ∙ (got ∙ ap (lookup (nat_eq c.args.t)) c.self.view_is))
