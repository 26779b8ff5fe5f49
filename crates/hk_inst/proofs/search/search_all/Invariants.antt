use Rattle.std.proofs.Common.{◌≡◌, ℕ, ◌<◌, [], List, length, false}
use Rattle.std.specs.List.{All}
use Rattle.hk_term.specs.Meaning.{reading_of}
use Rattle.hk_inst.specs.declared.instance.Instance.TheVariants.{Tuple}
use Rattle.hk_inst.specs.Inputs.{number_in}
use Rattle.hk_inst.specs.Truths.{IsTrue, is_among}
use Rattle.hk_inst.specs.States.{asked_of}
use Rattle.hk_inst.specs.Violations.{IsViolated}
use Rattle.hk_inst.proofs.search.search_all.Given as goal

abbrev pub invariant-loop-k : goal.invariant-loop-k
invariant-loop-k l = record {
  room : length l.room ≡ length l.s.terms;
  case : reading_of l.case ≡ reading_of l.fn.case;
  tried : l.progress.found ≡ [] → (k : ℕ) → k < l.k → (ks : List ℕ) → is_among l.s.instances (Tuple k ks) ≡ false → IsTrue (asked_of l.s).nodes (asked_of l.s).table (number_in l.s.bits l.values) (reading_of l.fn.case) (Tuple k ks);
  found : All (IsViolated (asked_of l.s) (number_in l.s.bits l.values) (reading_of l.fn.case)) l.progress.found;
}
