use Rattle.std.proofs.lemmas.List.Filters.{dedup_is}
use Rattle.std.proofs.lemmas.List.Kept.{Contains-dedup_nat, Contains-from_dedup, AllPairs-from_increasing}
use Rattle.std.proofs.lemmas.List.Sorted.{Contains-permutation, IsPermutation-sym}
use Rattle.std.proofs.lemmas.Map.Keys.{IsStrictlyIncreasing-dedup}
use Rattle.hk_inst.proofs.numbering.numbered.Goals as goal

pub returns : goal.returns
returns c =
    let is = dedup_is _ _ _ c.dedup.ensures.filtered in
    let moved = c.sort_unstable.ensures.permutation in
    record {
      rising = AllPairs-from_increasing _ (rw is (IsStrictlyIncreasing-dedup _ c.sort_unstable.ensures.sorted));
      are = λ t h. c.in_ok-items.ensures.are t (Contains-permutation _ _ t (IsPermutation-sym _ _ moved) (Contains-from_dedup _ _ t (rw is at h)));
      all = λ t has kind. rw is (Contains-dedup_nat _ t (Contains-permutation _ _ t moved (c.in_ok-items.ensures.all t has kind)));
    }
