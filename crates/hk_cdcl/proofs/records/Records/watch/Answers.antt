use Rattle.std.proofs.Common.{◌≡◌, ◌+◌, length, set, refl, ◌∙◌, ap, arith}
use Rattle.hk_cdcl.proofs.Packed.{StandsAt, stands}
use Rattle.std.proofs.Math.ListN.{length-set}
use Rattle.hk_cdcl.proofs.Packed.{rewritten-as}
use Rattle.hk_cdcl.proofs.records.Records.watch.Goals as goal

pub write_word-requires : goal.write_word-requires
write_word-requires c =
    let st : StandsAt c.self.inside c.args.self.now c.args.start = stands c.self.inside c.args.self.now c.args.start c.self.view_is c.self.invariant c.requires in
    omega (arith, st.inside)

pub write_word-requires-2 : goal.write_word-requires-2
write_word-requires-2 c =
    let st : StandsAt c.self.inside c.args.self.now c.args.start = stands c.self.inside c.args.self.now c.args.start c.self.view_is c.self.invariant c.requires in
    let n : length c.write_word.new.words.items ≡ length c.self.inside.words.items = ap length c.write_word.ensures ∙ length-set c.self.inside.words.items c.args.start c.args.first in
    omega (arith, st.inside, n)

pub invariant_of-self : goal.invariant_of-self
invariant_of-self c = (rewritten-as c.self.inside (record c.self.inside { words = c.write_word-2.new.words }) c.args.self.now c.args.start c.args.first c.args.second c.self.view_is c.self.invariant c.requires (c.write_word-2.ensures ∙ ap (λ ws. set ws (c.args.start + 1) c.args.second) c.write_word.ensures) refl).0

pub returns : goal.returns
returns c = (rewritten-as c.self.inside (record c.self.inside { words = c.write_word-2.new.words }) c.args.self.now c.args.start c.args.first c.args.second c.self.view_is c.self.invariant c.requires (c.write_word-2.ensures ∙ ap (λ ws. set ws (c.args.start + 1) c.args.second) c.write_word.ensures) refl).1
