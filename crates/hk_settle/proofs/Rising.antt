-- How many instances a question has, as it grows.
use Rattle.std.proofs.Common.{◌≡◌, ℕ, zero, suc, ◌<◌, ◌≤◌, ◌++◌, List, [], ◌∷◌, length, All, false, sym, ◌∙◌, ap, subst, refl, arith}
use Rattle.std.specs.Prelude.{slice_index_or}
use Rattle.std.proofs.lemmas.List.{length-append}
use Rattle.hk_inst.specs.declared.instance.Instance.{Instance}
use Rattle.hk_inst.specs.Truths.{is_among}
use Rattle.hk_inst.specs.Questions.{Asked}
use Rattle.hk_inst.specs.Adding.{Lengthened}

pub no_fewer : (q p : Asked) → Lengthened q p → length q.instances ≤ length p.instances
no_fewer q p h = let e = ap length h.instances.1 ∙ length-append q.instances h.instances.0 in omega arith

-- the instances of a round come in one after another, of which none was there before the first: then there are more
pub risen : (q now after : Asked) (found items : List Instance) (k : ℕ) (item copy : Instance) → (k ≡ 0 → now ≡ q) → (0 < k → length q.instances < length now.instances)
    → All (λ i. is_among q.instances i ≡ false) found → items ≡ found → k < length items → item ≡ slice_index_or items k item → copy ≡ item
    → (is_among now.instances copy ≡ false → after.instances ≡ now.instances ++ copy ∷ []) → Lengthened now after → length q.instances < length after.instances
risen q now after found items zero item copy first more fresh same inside is copied added l =
    let there = subst (All (λ i. is_among q.instances i ≡ false)) (sym same) fresh zero item inside in
    let new = subst (λ (p : Asked). is_among p.instances copy ≡ false) (sym (first refl)) (subst (λ (i : Instance). is_among q.instances i ≡ false) (sym (copied ∙ is)) there) in
    let e = ap length (added new) ∙ length-append now.instances (copy ∷ []) in
    let same_length = ap (λ (p : Asked). length p.instances) (first refl) in
    omega arith
risen q now after found items (suc k) item copy first more fresh same inside is copied added l =
    let before = more (omega arith) in
    let behind = no_fewer now after l in
    omega arith
