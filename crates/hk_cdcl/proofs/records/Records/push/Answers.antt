use Rattle.std.proofs.Common.{◌≡◌, ◌<◌, [], ◌∷◌, ◌++◌, length, map, sym, ◌∙◌, ap, subst, arith}
use Rattle.std.specs.List.{All}
use Rattle.std.specs.Vec.{vec_len}
use Rattle.std.proofs.lemmas.Grind.{common_steps}
use Rattle.hk_cnf.specs.Literal.{code_of}
use Rattle.hk_cdcl.specs.Records.{Recorded}
use Rattle.hk_cdcl.proofs.Packed.{pushed-as, starts-below}
use Rattle.hk_cdcl.proofs.records.Records.push.Goals as goal

pub invariant_of-self : goal.invariant_of-self
invariant_of-self c =
    let w : vec_len c.self.inside.words ≡ length c.self.inside.words.items = grind (arith, common_steps) in
    let s : vec_len c.self.inside.starts ≡ length c.self.inside.starts.items = grind (arith, common_steps) in
    let l : c.len-start.result ≡ length c.self.inside.words.items = c.len-start.ensures ∙ w in
    let k : c.len-count.result ≡ length c.self.inside.starts.items = c.len-count.ensures ∙ s in
    let h : c.push_head.new.words.items ≡ c.self.inside.words.items ++ (code_of c.args.first ∷ code_of c.args.second ∷ 0 ∷ length c.args.lits.now ∷ length c.self.inside.starts.items ∷ []) = grind (arith, common_steps) in
    (pushed-as c.self.inside (record c.self.inside { words = c.push_codes.new.words; starts = c.push_reserved.new.self }) c.args.self.now c.args.lits.now c.args.first c.args.second c.len-start.result c.self.view_is c.self.invariant (λ i d lt. (c.requires.within i d lt).literal.nonzero) c.requires.first.literal.nonzero c.requires.second.literal.nonzero l
    (c.push_codes.ensures ∙ ap (λ ws. ws ++ map code_of c.args.lits.now) h) c.push_reserved.ensures.items).0

pub returns-clause-added : goal.returns-clause-added
returns-clause-added c =
    let w : vec_len c.self.inside.words ≡ length c.self.inside.words.items = grind (arith, common_steps) in
    let s : vec_len c.self.inside.starts ≡ length c.self.inside.starts.items = grind (arith, common_steps) in
    let l : c.len-start.result ≡ length c.self.inside.words.items = c.len-start.ensures ∙ w in
    let k : c.len-count.result ≡ length c.self.inside.starts.items = c.len-count.ensures ∙ s in
    let h : c.push_head.new.words.items ≡ c.self.inside.words.items ++ (code_of c.args.first ∷ code_of c.args.second ∷ 0 ∷ length c.args.lits.now ∷ length c.self.inside.starts.items ∷ []) = grind (arith, common_steps) in
    (pushed-as c.self.inside (record c.self.inside { words = c.push_codes.new.words; starts = c.push_reserved.new.self }) c.args.self.now c.args.lits.now c.args.first c.args.second c.len-start.result c.self.view_is c.self.invariant (λ i d lt. (c.requires.within i d lt).literal.nonzero) c.requires.first.literal.nonzero c.requires.second.literal.nonzero l
    (c.push_codes.ensures ∙ ap (λ ws. ws ++ map code_of c.args.lits.now) h) c.push_reserved.ensures.items).1

pub returns-clause-fresh : goal.returns-clause-fresh
returns-clause-fresh c =
    let w : vec_len c.self.inside.words ≡ length c.self.inside.words.items = grind (arith, common_steps) in
    let l : c.len-start.result ≡ length c.self.inside.words.items = c.len-start.ensures ∙ w in
    subst (All (λ x. x < c.len-start.result)) (ap (λ (v : Recorded). v.starts) c.self.view_is)
    (subst (λ m. All (λ x. x < m) c.self.inside.starts.items) (sym l) (starts-below c.self.inside.words.items c.self.inside.starts.items c.self.invariant))
