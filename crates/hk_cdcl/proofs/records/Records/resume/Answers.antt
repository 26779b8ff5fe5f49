use Rattle.std.proofs.Common.{◌<◌, ◌≤◌, length, refl, arith}
use Rattle.hk_cdcl.specs.Records.{text_at, place_in}
use Rattle.hk_cdcl.proofs.Packed.{StandsAt, stands}
use Rattle.hk_cdcl.proofs.Packed.{resumed-as}
use Rattle.hk_cdcl.proofs.records.Records.resume.Goals as goal

pub write_word-requires : goal.write_word-requires
write_word-requires c =
    let st : StandsAt c.self.inside c.args.self.now c.args.start = stands c.self.inside c.args.self.now c.args.start c.self.view_is c.self.invariant c.requires.start in
    omega (arith, st.inside)

pub invariant_of-self : goal.invariant_of-self
invariant_of-self c =
    let b : c.args.at < length (text_at c.args.self.now.texts (place_in c.args.self.now.starts c.args.start)) = c.requires.inside in
    let le : c.resume_at.result ≤ c.args.at = c.resume_at.ensures in
    (resumed-as c.self.inside (record c.self.inside { words = c.write_word.new.words }) c.args.self.now c.args.start c.resume_at.result c.self.view_is c.self.invariant c.requires.start (omega (arith, b, le)) c.write_word.ensures refl).0

pub returns : goal.returns
returns c =
    let b : c.args.at < length (text_at c.args.self.now.texts (place_in c.args.self.now.starts c.args.start)) = c.requires.inside in
    let le : c.resume_at.result ≤ c.args.at = c.resume_at.ensures in
    (resumed-as c.self.inside (record c.self.inside { words = c.write_word.new.words }) c.args.self.now c.args.start c.resume_at.result c.self.view_is c.self.invariant c.requires.start (omega (arith, b, le)) c.write_word.ensures refl).1
