-- Reads against the first one at their place.
use Rattle.std.proofs.Common.{◌≡◌, ◌⊎◌, inl, inr, ℕ, zero, suc, ◌+◌, ◌≤◌, length, Bool, true, false, cond, List, [], ◌∷◌, ◌++◌, take, drop, Option, Some, None, refl, sym, ◌∙◌, ap, subst, arith}
use Rattle.std.specs.Prelude.{slice_get, IfSome, IfNone}
use Rattle.std.specs.List.{All, Contains}
use Rattle.std.proofs.lemmas.List.Elements.{All-push}
use Rattle.std.proofs.lemmas.Option.{same_Some}
use Rattle.hk_term.specs.Meaning.{Reading}
use Rattle.hk_term.specs.declared.node.Node.{Node}
use Rattle.hk_term.specs.declared.node.Node.TheVariants.{Select}
use Rattle.hk_inst.specs.declared.instance.Instance.TheVariants.{Pair}
use Rattle.hk_inst.specs.Inputs.{Table, is_read_at, entry_number}
use Rattle.hk_inst.specs.Truths.{PairOf, IsTrue, is_among}
use Rattle.hk_inst.specs.Questions.{Asked}
use Rattle.hk_inst.specs.Violations.{IsViolated, Clashes, AgreesWithFirst, first_read}
use Rattle.hk_inst.proofs.Tuples.{clash}
use Rattle.hk_inst.proofs.Members.{contains-cases, read-node, member-at, of-all}
use Rattle.hk_inst.proofs.SetNumbers.{drop-entry}

pub first-next : (nodes : List Node) (f : ℕ → ℕ) (reads : List ℕ) (i j t : ℕ) (node : Node) (old new : ℕ → ℕ → ℕ) → i ≡ j + 1 → slice_get reads j ≡ Some t → slice_get nodes t ≡ Some node
    → ((array place : ℕ) → old array place ≡ first_read nodes f (drop i reads) i array place) → ((array place : ℕ) → new array place ≡ cond (is_read_at (Some node) f array place) j (old array place)) → (array place : ℕ) → new array place ≡ first_read nodes f (drop j reads) j array place
first-next nodes f reads i j t node old new step at is h set array place =
    set array place ∙ (λ x. cond (is_read_at (sym is x) f array place) j ((h array place ∙ ap (λ n. first_read nodes f (drop n reads) n array place) step) x))
    ∙ ap (λ rs. first_read nodes f rs j array place) (sym (drop-entry reads j t at))

-- the first read at a place where one reads
pub record IsFirst (nodes : List Node) (f : ℕ → ℕ) (reads : List ℕ) (k array place : ℕ) : Type 0 where
  pub number : ℕ
  pub read : ℕ
  pub number_is : first_read nodes f reads k array place ≡ k + number
  pub at : slice_get reads number ≡ Some read
  pub reads_it : is_read_at (slice_get nodes read) f array place ≡ true
  pub entry : entry_number nodes f reads array place ≡ f read

pub first-found : (nodes : List Node) (f : ℕ → ℕ) (reads : List ℕ) (k t array place : ℕ) → Contains reads t → is_read_at (slice_get nodes t) f array place ≡ true → IsFirst nodes f reads k array place
first-found nodes f [] k t array place (n, l, e) h = absurd (omega arith)
first-found nodes f (x ∷ xs) k t array place c h = by (is_read_at (slice_get nodes x) f array place) refl (first-found nodes f xs (k + 1) t array place)
  where
    by : (b : Bool) → is_read_at (slice_get nodes x) f array place ≡ b → (Contains xs t → is_read_at (slice_get nodes t) f array place ≡ true → IsFirst nodes f xs (k + 1) array place) → IsFirst nodes f (x ∷ xs) k array place
    by true e go = record {
      number = 0;
      read = x;
      number_is = ap (λ b. cond b k (first_read nodes f xs (k + 1) array place)) e ∙ omega arith;
      at = refl;
      reads_it = e;
      entry = ap (λ b. cond b (f x) (entry_number nodes f xs array place)) e;
    }
    by false e go =
        let r : IsFirst nodes f xs (k + 1) array place = go (later (contains-cases x xs t c)) h in
        record {
          number = suc r.number;
          read = r.read;
          number_is = ap (λ b. cond b k (first_read nodes f xs (k + 1) array place)) e ∙ r.number_is ∙ omega arith;
          at = r.at;
          reads_it = r.reads_it;
          entry = ap (λ b. cond b (f x) (entry_number nodes f xs array place)) e ∙ r.entry;
        }
      where
        later : (x ≡ t) ⊎ (Contains xs t) → Contains xs t
        later (inl d) = clash (sym h ∙ ap (λ y. is_read_at (slice_get nodes y) f array place) (sym d) ∙ e)
        later (inr m) = m

pub clash-found : (nodes : List Node) (table : Table) (f : ℕ → ℕ) (t array size i : ℕ) (there : ℕ) → Contains table.reads t → slice_get nodes t ≡ Some (Select array size i) → is_read_at (slice_get nodes t) f array (f i) ≡ true
    → there ≡ entry_number nodes f table.reads array (f i) → (there ≡ f t → ⊥) → Clashes nodes table f (first_read nodes f table.reads 0 array (f i)) t
clash-found nodes table f t array size i there c at here is other =
    let r : IsFirst nodes f table.reads 0 array (f i) = first-found nodes f table.reads 0 t array (f i) c here in
    let same : first_read nodes f table.reads 0 array (f i) ≡ r.number = r.number_is ∙ omega arith in
    let n = read-node (slice_get nodes r.read) f array (f i) r.reads_it in
    record {
      array = array;
      first = r.read;
      size = n.0;
      place = n.1;
      other_size = size;
      other_place = i;
      first_at = subst (λ k. slice_get table.reads k ≡ Some r.read) (sym same) r.at;
      first_is = n.2;
      is = at;
      equal = n.3;
      differ = λ e. other (is ∙ r.entry ∙ e);
    }

-- a pair that clashes is violated, where those that were added are true
pub clash-violated : (q : Asked) (f : ℕ → ℕ) (r : Reading) (j k t : ℕ) → Clashes q.nodes q.table f j t → slice_get q.table.reads k ≡ Some t → (is_among q.instances (Pair j k) ≡ true → IsTrue q.nodes q.table f r (Pair j k)) → IsViolated q f r (Pair j k)
clash-violated q f r j k t c at added = record { names = its; fresh = by (is_among q.instances (Pair j k)) refl; not_true = λ h. c.differ (h its c.equal) }
  where
    its : PairOf q.nodes q.table j k
    its = record {
      array = c.array;
      first = c.first;
      size = c.size;
      place = c.place;
      second = t;
      other_size = c.other_size;
      other_place = c.other_place;
      first_at = c.first_at;
      second_at = at;
      first_is = c.first_is;
      second_is = c.is;
    }

    by : (b : Bool) → is_among q.instances (Pair j k) ≡ b → is_among q.instances (Pair j k) ≡ false
    by true e = absurd (c.differ (added e its c.equal))
    by false e = e

-- where each read agrees with the first one at its place, each pair is true
pub pair-agrees : (nodes : List Node) (table : Table) (f : ℕ → ℕ) (r : Reading) → All (AgreesWithFirst nodes f table.reads) table.reads → (a b : ℕ) → IsTrue nodes table f r (Pair a b)
pair-agrees nodes table f r all a b p e =
    of-all (AgreesWithFirst nodes f table.reads) table.reads p.first all (member-at table.reads a p.first p.first_at) p.array p.size p.place p.first_is
    ∙ ap (entry_number nodes f table.reads p.array) e
    ∙ sym (of-all (AgreesWithFirst nodes f table.reads) table.reads p.second all (member-at table.reads b p.second p.second_at) p.array p.other_size p.other_place p.second_is)

take-entry : (xs : List ℕ) (k x : ℕ) → slice_get xs k ≡ Some x → take (k + 1) xs ≡ take k xs ++ x ∷ []
take-entry [] k x at = cc
take-entry (y ∷ ys) zero x at = ap (λ z. z ∷ []) (same_Some y x at)
take-entry (y ∷ ys) (suc k) x at =
    let more : suc k + 1 ≡ suc (k + 1) = omega arith in
    ap (λ n. take n (y ∷ ys)) more ∙ ap (λ zs. y ∷ zs) (take-entry ys k x at)

-- the pair that is found, if one is
pub pair-violated : (q : Asked) (f : ℕ → ℕ) (r : Reading) (first : Option ℕ) (k t : ℕ) → slice_get q.table.reads k ≡ Some t → ((j : ℕ) → is_among q.instances (Pair j k) ≡ true → IsTrue q.nodes q.table f r (Pair j k)) → IfSome first (λ j. Clashes q.nodes q.table f j t) → IfSome first (λ j. IsViolated q f r (Pair j k))
pair-violated q f r None k t at added c = tt
pair-violated q f r (Some j) k t at added c = clash-violated q f r j k t c at (added j)

-- one read more agrees
pub agree-more : (P : ℕ → Type 0) (reads : List ℕ) (k t : ℕ) (first : Option ℕ) → slice_get reads k ≡ Some t → All P (take k reads) → IfNone first (P t) → first ≡ None → All P (take (k + 1) reads)
agree-more P reads k t first at all last none = subst (All P) (sym (take-entry reads k t at)) (All-push P (take k reads) t all (subst (λ o. IfNone o (P t)) none last))

-- all of them agree, once all were taken
pub agree-all : (P : ℕ → Type 0) (reads : List ℕ) (k : ℕ) → length reads ≤ k → All P (take k reads) → All P reads
agree-all P reads k l all = subst (All P) (taken reads k l) all
  where
    taken : (xs : List ℕ) (n : ℕ) → length xs ≤ n → take n xs ≡ xs
    taken [] zero h = refl
    taken [] (suc n) h = refl
    taken (x ∷ xs) zero h = absurd (omega (arith, h))
    taken (x ∷ xs) (suc n) h = ap (λ ys. x ∷ ys) (taken xs n (omega (arith, h)))
