-- Sorts that lines spell, and variables of them.
use Rattle.std.proofs.Common.{◌≡◌, ℕ, ◌^◌, true, ◌&&◌, nat_le, Option, Some, None, refl, ap, subst, leb-true}
use Rattle.spec_ast.specs.declared.raw.RawSort.{RawSort}
use Rattle.spec_ast.specs.declared.raw.RawSort.TheVariants.{Named, Bits, Index}
use Rattle.spec_tree.specs.declared.sort.Sort as declared
use Rattle.spec_tree.specs.Plain.{Key}
use Rattle.spec_tree.specs.Sorted.{IsIndexSort, IsWidth}
use Rattle.spec_scope.specs.declared.meaning.Meaning.{Meaning}
use Rattle.spec_scope.specs.declared.meaning.Meaning.TheVariants as means
use Rattle.spec_scope.specs.Scope.{Scope, meaning, is_width}
use Rattle.spec_lines.specs.Sorts.{sort_meant, is_index, bits_of, index_of, sort_for, key_with, key_for, sort_meaning, variable_meaning}
use Rattle.spec_sound.proofs.Parts.{both, some_is, none_some, then_is, chain_is}
use Rattle.spec_sound.proofs.Meanings.{IsSound, IsTop, IsPlain, AllNames, meant, top_plain}

width_is : (w : ℕ) → is_width w ≡ true → IsWidth w
width_is w e = let p = both (nat_le 1 w) (nat_le w 64) e in (leb-true 1 w p.0, leb-true w 64 p.1)

index_is : (w n : ℕ) → is_index w n ≡ true → IsIndexSort w n
index_is w n e =
    let p = both (is_width w) (nat_le 1 n && (nat_le n 65536 && nat_le n (2 ^ w))) e in
    let q = both (nat_le 1 n) (nat_le n 65536 && nat_le n (2 ^ w)) p.1 in
    let r = both (nat_le n 65536) (nat_le n (2 ^ w)) q.1 in
    (width_is w p.0, (leb-true 1 n q.0, leb-true n 65536 r.0), leb-true n (2 ^ w) r.1)

sort_is_meant : (o : Option Meaning) (made : declared.Sort) → sort_meant o ≡ Some made → o ≡ Some (means.Sort made)
sort_is_meant None made e = absurd (none_some made e)
sort_is_meant (Some (means.Sort s)) made e = ap (λ q. Some (means.Sort q)) (some_is s made e)
sort_is_meant (Some m) made e = absurd (none_some made e)

bits_are : (w : ℕ) (made : declared.Sort) → bits_of w ≡ Some made → IsSound made
bits_are w made e = subst IsSound (then_is (is_width w) _ made e).1 (λ n q. absurd (none_some n q))

indices_are : (w n : ℕ) (made : declared.Sort) → index_of w n ≡ Some made → IsSound made
indices_are w n made e =
    let p = then_is (is_index w n) _ made e in
    subst IsSound p.1 (λ m q. subst (IsIndexSort w) (some_is n m q) (index_is w n p.0))

sound_sort : (s : Scope) (sort : RawSort) (made : declared.Sort) → AllNames IsPlain s.inner → AllNames IsTop s.top → sort_for s sort ≡ Some made → IsSound made
sound_sort s (Named x) made inner top e = meant IsPlain top_plain s x (means.Sort made) inner top (sort_is_meant (meaning s x) made e)
sound_sort s (Bits w) made inner top e = bits_are w made e
sound_sort s (Index w n) made inner top e = indices_are w n made e

top_sort : (o : Option declared.Sort) → ((made : declared.Sort) → o ≡ Some made → IsSound made) → IsTop (sort_meaning o)
top_sort None sound = tt
top_sort (Some made) sound = sound made refl

-- the name of a sort line means a sort within the limits, or nothing
pub is_top_sort : (s : Scope) (sort : RawSort) → AllNames IsPlain s.inner → AllNames IsTop s.top → IsTop (sort_meaning (sort_for s sort))
is_top_sort s sort inner top = top_sort (sort_for s sort) (λ made e. sound_sort s sort made inner top e)

sound_key : (made : declared.Sort) (size : Option ℕ) (key : Key) → made.size ≡ size → IsSound made → key_with made.width size ≡ Some key → IsIndexSort key.width key.size
sound_key made None key is sound e = absurd (none_some key e)
sound_key made (Some n) key is sound e = subst (λ (k : Key). IsIndexSort k.width k.size) (some_is _ key e) (sound n is)

plain_variable : (o : Option Key) → ((key : Key) → o ≡ Some key → IsIndexSort key.width key.size) → IsPlain (variable_meaning o)
plain_variable None sound = tt
plain_variable (Some key) sound = sound key refl

-- a variable is of an index sort, or means nothing
pub is_plain_variable : (s : Scope) (sort : RawSort) → AllNames IsPlain s.inner → AllNames IsTop s.top → IsPlain (variable_meaning (key_for s sort))
is_plain_variable s sort inner top = plain_variable (key_for s sort) (λ key e. sound key (chain_is (sort_for s sort) (λ made. key_with made.width made.size) key e)) where
  sound : (key : Key) → (made : declared.Sort) × (sort_for s sort ≡ Some made) × (key_with made.width made.size ≡ Some key) → IsIndexSort key.width key.size
  sound key p = sound_key p.0 (p.0).size key refl (sound_sort s sort p.0 inner top p.1) p.2
