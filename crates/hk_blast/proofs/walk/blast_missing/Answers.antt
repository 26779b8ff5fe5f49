use Rattle.std.proofs.Common.{refl, inl, arith, sym, subst, reverse}
use Rattle.hk_blast.specs.Blasted.Needs.{own}
use Rattle.hk_blast.specs.Walk.{Waits}
use Rattle.hk_blast.proofs.walk.blast_missing.Goals as goal

pub going-init : goal.going-init
going-init c = record {
  vars = omega arith;
  keeps = λ x b v. refl;
  grows = λ d g. g;
  required = refl;
  table = c.requires.table;
  lengthens = λ first front l h. h;
  inputs = refl;
  only = λ k h. inl h;
  stands = subst (λ xs. Waits c.args.terms.now c.args.t c.args.bits.now c.args.t (reverse xs)) (sym c.new-waiting.ensures.items) (c.requires.term, c.requires.first, own, refl);
}
