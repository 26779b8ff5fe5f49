-- What an instance names in a question, it names in each that the question grows to.
use Rattle.std.proofs.Common.{◌≡◌, ℕ, List, Some, refl, ◌∙◌, ap}
use Rattle.std.specs.Prelude.{slice_get}
use Rattle.hk_blast.proofs.WordLists.{get_more}
use Rattle.hk_inst.specs.declared.instance.Instance.{Instance}
use Rattle.hk_inst.specs.declared.instance.Instance.TheVariants.{Pair, Tuple}
use Rattle.hk_inst.specs.declared.subject.AddFault.{AddFault}
use Rattle.hk_inst.specs.declared.subject.AddFault.TheVariants.{NoSuch, Memory}
use Rattle.hk_inst.specs.Truths.{IsInstance}
use Rattle.hk_inst.specs.Questions.{Asked}
use Rattle.hk_inst.specs.Adding.{IsFault, IsLonger, Lengthened}
use Rattle.hk_inst.proofs.Widening.{at-longer}

at-front : {X : Type 0} (old new : List X) → IsLonger old new → (k : ℕ) (x : X) → slice_get old k ≡ Some x → slice_get new k ≡ Some x
at-front old new h k x e = ap (λ l. slice_get l k) h.1 ∙ get_more old h.0 k x e

pub names-later : (q p : Asked) (i : Instance) → Lengthened q p → IsInstance q.nodes q.table i → IsInstance p.nodes p.table i
names-later q p (Pair a b) l n = record {
  array = n.array;
  first = n.first;
  size = n.size;
  place = n.place;
  second = n.second;
  other_size = n.other_size;
  other_place = n.other_place;
  first_at = at-front q.table.reads p.table.reads l.reads a n.first n.first_at;
  second_at = at-front q.table.reads p.table.reads l.reads b n.second n.second_at;
  first_is = at-longer q.nodes p.nodes l.nodes n.first _ n.first_is;
  second_is = at-longer q.nodes p.nodes l.nodes n.second _ n.second_is;
}
names-later q p (Tuple k ks) l n = record {
  term = n.term;
  bound = n.bound;
  body = n.body;
  at = at-front q.table.quantifiers p.table.quantifiers l.quantifiers k n.term n.at;
  is = at-longer q.nodes p.nodes l.nodes n.term _ n.is;
  fits = n.fits;
}

pub memory-alone : (q p : Asked) (i : Instance) (fault : AddFault) → Lengthened q p → IsInstance q.nodes q.table i → IsFault p.nodes p.table i fault → fault ≡ Memory
memory-alone q p i NoSuch l n h = absurd (h (names-later q p i l n))
memory-alone q p i Memory l n h = refl
