use Rattle.std.proofs.Common.{◌≡◌, ◌∙◌, ℕ, List, false, subst}
use Rattle.std.specs.List.{All}
use Rattle.hk_term.specs.Meaning.{Reading, reading_of}
use Rattle.hk_inst.specs.declared.instance.Instance.TheVariants.{Tuple}
use Rattle.hk_inst.specs.Inputs.{number_in}
use Rattle.hk_inst.specs.Truths.{IsTrue, is_among}
use Rattle.hk_inst.specs.States.{asked_of}
use Rattle.hk_inst.specs.Violations.{IsViolated}
use Rattle.hk_inst.proofs.Searches.{numbers-more}
use Rattle.hk_inst.proofs.search.search_all.Goals as goal

pub loop-k-preserved : goal.loop-k-preserved
loop-k-preserved c =
    let f : ℕ → ℕ = number_in c.args.s.now.bits c.args.values.now in
    let q = asked_of c.args.s.now in
    record {
      room = c.search_in.ensures.room;
      case = c.in_ok-search_in.ensures.case ∙ c.loop-k.invariant.case;
      tried = λ e. numbers-more (λ k. (ks : List ℕ) → is_among c.args.s.now.instances (Tuple k ks) ≡ false → IsTrue q.nodes q.table f (reading_of c.args.case.now) (Tuple k ks)) c.loop-k.k
          (c.loop-k.invariant.tried (c.search_in.ensures.kept e))
          (subst (λ (r : Reading). (ks : List ℕ) → is_among c.args.s.now.instances (Tuple c.loop-k.k ks) ≡ false → IsTrue q.nodes q.table f r (Tuple c.loop-k.k ks)) c.loop-k.invariant.case (c.in_ok-search_in.ensures.tried e));
      found = subst (λ (r : Reading). All (IsViolated q f r) c.loop-k.progress.found → All (IsViolated q f r) c.search_in.new.progress.found) c.loop-k.invariant.case c.in_ok-search_in.ensures.found c.loop-k.invariant.found;
    }
