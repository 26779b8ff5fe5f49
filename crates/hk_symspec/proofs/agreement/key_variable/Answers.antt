use Rattle.std.proofs.Common.{◌-◌, ◌/◌, ◌%◌, ◌^◌, suc, ap, ◌∙◌, arith}
use Rattle.spec_tree.specs.View.{size_of}
use Rattle.hk_symspec.proofs.Agreeing.{cut_is, cut_width}
use Rattle.hk_symspec.proofs.agreement.key_variable.Goals as goal

pub returns-clause-variable : goal.returns-clause-variable
returns-clause-variable c =
    let w = c.args.key.now.width in
    record {
      within = c.in_ok-term.ensures.within;
      width_is = c.in_ok-term.ensures.width ∙ cut_width w c.requires.0.0;
      value_is = λ v low. c.in_ok-term.ensures.value v ∙ ap (λ y. y / 2 ^ 0 % 2 ^ (suc (w - 1) - 0)) (c.in_ok-wide.ensures.value v)
          ∙ cut_is (v.var c.args.id) w (size_of c.args.key.now.size) c.requires.0.0 c.requires.0.1 c.requires.2 low;
      most_is = λ n low. omega (arith, low, c.size_in.ensures);
    }
