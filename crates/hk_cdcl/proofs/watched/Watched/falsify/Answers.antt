use Rattle.std.proofs.Common.{◌≡◌, ◌≢◌, pos, neg_ℤ, sym, ◌∙◌, ap}
use Rattle.hk_cdcl.specs.Records.{lit_of}
use Rattle.hk_cdcl.proofs.Extending.{extends-refl}
use Rattle.hk_cdcl.proofs.Moving.{turning-begins}
use Rattle.hk_cdcl.proofs.Codes.{lit-code}
use Rattle.hk_cdcl.proofs.watched.Watched.falsify.Goals as goal

pub visit_all-requires-clause-turning : goal.visit_all-requires-clause-turning
visit_all-requires-clause-turning c =
    let nz : c.negated.result ≢ pos 0 = c.negated.ensures.negation.nonzero in
    let e : lit_of c.code-code.result ≡ c.negated.result = ap lit_of c.code-code.ensures.value ∙ lit-code c.negated.result nz in
    turning-begins c.args.clauses.now.clauses c.args.self.now c.args.trail.now c.args.head (lit_of c.code-code.result) c.requires.propagating c.requires.inside (e ∙ (c.negated.ensures.value ∙ ap neg_ℤ c.lit.ensures)) (λ z. nz (sym e ∙ z))

pub returns-then-code-from-clause-extends : goal.returns-then-code-from-clause-extends
returns-then-code-from-clause-extends c = extends-refl c.args.clauses.now.clauses c.args.trail.now
