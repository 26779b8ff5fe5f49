-- Lists of one term for each block.
use Rattle.std.proofs.Common.{◌≡◌, ◌≤◌, ◌+◌, ◌||◌, ℕ, zero, suc, Bool, false, Some, List, [], ◌∷◌, ◌++◌, map, length, replicate, slice_get, slice_index_or, slice_set, refl, sym, ap, ◌∙◌, arith}
use Rattle.std.specs.Option.{unwrap_or}
use Rattle.std.specs.List.{All}
use Rattle.std.proofs.lemmas.Option.{none-some}
use Rattle.std.proofs.lemmas.List.{map-set}
use Rattle.std.proofs.lemmas.List.Elements.{All-set, All-replicate}
use Rattle.std.proofs.Math.Seq.{set_out}
use Rattle.hk_term.specs.Meaning.{Reading}
use Rattle.hk_term.specs.declared.node.Node.{Node}
use Rattle.hk_symvalue.specs.Growth.{Extends}
use Rattle.hk_symvalue.specs.Meaning.{IsTruth, is_true}
use Rattle.hk_symexec.specs.Seen.{entries_seen}
use Rattle.hk_symexec.proofs.Kept.{entries_kept}

pub one_more : (n t : ℕ) → replicate (n + 1) t ≡ replicate n t ++ t ∷ []
one_more n t = ap (λ k. replicate k t) next ∙ by n
  where
    next : n + 1 ≡ suc n
    next = omega arith

    by : (n : ℕ) → replicate (suc n) t ≡ replicate n t ++ t ∷ []
    by zero = refl
    by (suc n) = ap (λ l. t ∷ l) (by n)

-- ---- entries that are marked

seen_at : (f : ℕ → Bool) (entries : List ℕ) (to before : ℕ) → slice_get entries to ≡ Some before → slice_index_or (map f entries) to false ≡ f before
seen_at f [] zero before e = absurd (none-some before e)
seen_at f [] (suc to) before e = absurd (none-some before e)
seen_at f (x ∷ xs) zero before e = ap f (ap (λ o. unwrap_or o x) e)
seen_at f (x ∷ xs) (suc to) before e = seen_at f xs to before e

pub mark_in : (old new : List Node) → Extends old new → (entries : List ℕ) → All (λ k. IsTruth old k) entries → (to both before : ℕ) (c : Bool) (v : Reading)
    → slice_get entries to ≡ Some before → is_true new both v ≡ (is_true old before v || c)
    → entries_seen new v (slice_set entries to both) ≡ slice_set (entries_seen old v entries) to (slice_index_or (entries_seen old v entries) to false || c)
mark_in old new grown entries a to both before c v at e =
    map-set (λ k. is_true new k v) entries to both
    ∙ ap (λ l. slice_set l to (is_true new both v)) (entries_kept old new grown entries a v)
    ∙ ap (λ b. slice_set (entries_seen old v entries) to b) (e ∙ ap (λ b. b || c) (sym (seen_at (λ k. is_true old k v) entries to before at)))

pub long_seen : (nodes : List Node) (v : Reading) (entries : List ℕ) → length (entries_seen nodes v entries) ≡ length entries
long_seen nodes v [] = refl
long_seen nodes v (x ∷ xs) = ap suc (long_seen nodes v xs)

pub mark_out : (nodes : List Node) (v : Reading) (entries : List ℕ) (to : ℕ) (b : Bool) → length entries ≤ to → entries_seen nodes v entries ≡ slice_set (entries_seen nodes v entries) to b
mark_out nodes v entries to b l = sym (set_out (entries_seen nodes v entries) to b (omega (arith, l, long_seen nodes v entries)))

-- ---- entries of a function that begins

map_replicate : (f : ℕ → Bool) (n t : ℕ) → map f (replicate n t) ≡ replicate n (f t)
map_replicate f zero t = refl
map_replicate f (suc n) t = ap (λ l. f t ∷ l) (map_replicate f n t)

pub entries_begun : (nodes : List Node) (v : Reading) (n never condition : ℕ) (b : Bool) → is_true nodes never v ≡ false → is_true nodes condition v ≡ b
    → entries_seen nodes v (slice_set (replicate n never) 0 condition) ≡ slice_set (replicate n false) 0 b
entries_begun nodes v n never condition b off on =
    map-set (λ k. is_true nodes k v) (replicate n never) 0 condition
    ∙ ap (λ l. slice_set l 0 (is_true nodes condition v)) (map_replicate (λ k. is_true nodes k v) n never ∙ ap (replicate n) off)
    ∙ ap (λ c. slice_set (replicate n false) 0 c) on

pub truths_begun : (nodes : List Node) (n never condition : ℕ) → IsTruth nodes never → IsTruth nodes condition → All (λ k. IsTruth nodes k) (slice_set (replicate n never) 0 condition)
truths_begun nodes n never condition a b = All-set (λ k. IsTruth nodes k) (replicate n never) 0 condition b (All-replicate (λ k. IsTruth nodes k) n never a)

-- ---- an entry that is taken

pub entry_at : (old new : List Node) → Extends old new → (entries : List ℕ) → All (λ k. IsTruth old k) entries → (b guard : ℕ) (v : Reading) → slice_get entries b ≡ Some guard
    → is_true new guard v ≡ slice_index_or (entries_seen old v entries) b false
entry_at old new grown entries a b guard v e =
    sym (seen_at (λ k. is_true new k v) entries b guard e) ∙ ap (λ l. slice_index_or l b false) (entries_kept old new grown entries a v)

pub entry_taken : (old new : List Node) → Extends old new → (entries : List ℕ) → All (λ k. IsTruth old k) entries → (b never : ℕ) (v : Reading) → is_true new never v ≡ false
    → entries_seen new v (slice_set entries b never) ≡ slice_set (entries_seen old v entries) b false
entry_taken old new grown entries a b never v off =
    map-set (λ k. is_true new k v) entries b never ∙ ap (λ l. slice_set l b (is_true new never v)) (entries_kept old new grown entries a v)
    ∙ ap (λ c. slice_set (entries_seen old v entries) b c) off

pub entry_shut : (nodes : List Node) (entries : List ℕ) (b guard : ℕ) (v : Reading) → slice_get entries b ≡ Some guard → is_true nodes guard v ≡ false → slice_index_or (entries_seen nodes v entries) b false ≡ false
entry_shut nodes entries b guard v e off = seen_at (λ k. is_true nodes k v) entries b guard e ∙ off
