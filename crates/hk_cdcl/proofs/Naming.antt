-- What holds over a part of a list holds over the list, with the ids renamed.
use Rattle.std.proofs.Common.{◌≡◌, ◌⊎◌, ℕ, zero, suc, ◌+◌, ◌-◌, ◌<◌, ◌≤◌, Bool, true, false, cond, eqb, List, [], ◌∷◌, ◌++◌, length, map, take, get_or, ℤ, Option, Some, None, refl, sym, ◌∙◌, ap, subst, inl, inr, arith, append_assoc, length-append}
use Rattle.std.proofs.lemmas.Bool.{cases_lt}
use Rattle.std.proofs.lemmas.Bool.Decides.{Decides-eqb}
use Rattle.std.proofs.lemmas.List.{append-nil, take_more, length_push, get_or_push, get_or_append_left}
use Rattle.std.proofs.lemmas.List.Elements.{All-nil, All-cons, All-head, All-tail, All-push, All-weaker}
use Rattle.std.specs.List.{All}
use Rattle.hk_cnf.specs.Literal.{denied}
use Rattle.hk_cnf.specs.Hint.{hint_of, with_true}
use Rattle.hk_cnf.specs.declared.hint.Hint.{Hint}
use Rattle.hk_cnf.specs.declared.hint.Hint.TheVariants.{False, Unit as OneLeft, Other}
use Rattle.hk_cnf.specs.Clauses.{Clauses}
use Rattle.hk_lrat.specs.Log.{Live, numbered, clause_of, at_clause, at_hint, follow}
use Rattle.hk_cdcl.specs.Analysis.{Derives}
use Rattle.hk_cdcl.specs.Path.{clause_at}
use Rattle.hk_cdcl.specs.declared.names.Part.{Part}
use Rattle.hk_cdcl.specs.Names.{named, AreNames, IsFront, IsPart}
use Rattle.hk_cdcl.specs.Searching.{with_clause}
use Rattle.hk_cdcl.proofs.Leading.{clause_of-numbered}

-- no clause
pub names-none : (whole : List (List ℤ)) → AreNames [] whole (0 ∷ [])
names-none whole =
    record {
      count = refl;
      inside = All-cons (λ n. n ≤ length whole) 0 [] (omega arith) (All-nil (λ n. n ≤ length whole));
      some = λ id a b. absurd (omega (arith, a, b));
      same = λ id a b. absurd (omega (arith, a, b));
    }

-- a clause more
pub names-more : (part whole : List (List ℤ)) (names : List ℕ) (place : ℕ) (c : List ℤ) → AreNames part whole names → place < length whole → c ≡ get_or whole place [] → AreNames (part ++ c ∷ []) whole (names ++ (place + 1) ∷ [])
names-more part whole names place c h lt e =
    record {
      count = let n : length (names ++ (place + 1) ∷ []) ≡ length names + 1 = length_push names (place + 1) in let k : length names ≡ length part + 1 = h.count in omega (arith, n, k, long);
      inside = All-push (λ n. n ≤ length whole) names (place + 1) h.inside (omega (arith, lt));
      some = λ id a b. some id a b (cases_lt (length part) id);
      same = λ id a b. same id a b (cases_lt (length part) id);
    }
  where
    long : length (part ++ c ∷ []) ≡ length part + 1
    long = length_push part c

    old : (id : ℕ) → id ≤ length part → named (names ++ (place + 1) ∷ []) id ≡ named names id
    old id le = get_or_append_left names ((place + 1) ∷ []) 0 id (let k : length names ≡ length part + 1 = h.count in omega (arith, k, le))

    new : (id : ℕ) → length part < id → id ≤ length (part ++ c ∷ []) → named (names ++ (place + 1) ∷ []) id ≡ place + 1
    new id lo hi = get_or_push names (place + 1) 0 id (let k : length names ≡ length part + 1 = h.count in omega (arith, k, lo, hi, long))

    some : (id : ℕ) → 1 ≤ id → id ≤ length (part ++ c ∷ []) → (length part < id) ⊎ (id ≤ length part) → 1 ≤ named (names ++ (place + 1) ∷ []) id
    some id a b (inl lo) = let n : named (names ++ (place + 1) ∷ []) id ≡ place + 1 = new id lo b in omega (arith, n)
    some id a b (inr le) = let n : named (names ++ (place + 1) ∷ []) id ≡ named names id = old id le in let k : 1 ≤ named names id = h.some id a le in omega (arith, n, k)

    same : (id : ℕ) → 1 ≤ id → id ≤ length (part ++ c ∷ []) → (length part < id) ⊎ (id ≤ length part) → clause_at whole (named (names ++ (place + 1) ∷ []) id) ≡ clause_at (part ++ c ∷ []) id
    same id a b (inl lo) =
        ap (clause_at whole) (new id lo b)
        ∙ (ap (λ n. get_or whole n []) (omega arith) ∙ (sym e ∙ sym (get_or_push part c [] (id - 1) (omega (arith, lo, b, long)))))
    same id a b (inr le) =
        ap (clause_at whole) (old id le) ∙ (h.same id a le ∙ sym (get_or_append_left part (c ∷ []) [] (id - 1) (omega (arith, a, le))))

-- names are of clauses of the list
named-most : (names : List ℕ) (most id : ℕ) → All (λ n. n ≤ most) names → get_or names id 0 ≤ most
named-most [] most zero h = omega arith
named-most [] most (suc id) h = omega arith
named-most (n ∷ names) most zero h = All-head (λ x. x ≤ most) n names h
named-most (n ∷ names) most (suc id) h = named-most names most id (All-tail (λ x. x ≤ most) n names h)

pub hints-named : (names : List ℕ) (most : ℕ) (hints : List ℕ) → All (λ n. n ≤ most) names → All (λ h. h ≤ most) (map (named names) hints)
hints-named names most [] h = All-nil (λ x. x ≤ most)
hints-named names most (x ∷ hints) h = All-cons (λ y. y ≤ most) (named names x) (map (named names) hints) (named-most names most x h) (hints-named names most hints h)

-- the list grows at its end
pub names-longer : (part whole more : List (List ℤ)) (names : List ℕ) → AreNames part whole names → AreNames part (whole ++ more) names
names-longer part whole more names h =
    record {
      count = h.count;
      inside = All-weaker (λ n. n ≤ length whole) (λ n. n ≤ length (whole ++ more)) (λ n le. omega (arith, le, long)) names h.inside;
      some = h.some;
      same = λ id a b. get_or_append_left whole more [] (named names id - 1) (inside id a b) ∙ h.same id a b;
    }
  where
    long : length (whole ++ more) ≡ length whole + length more
    long = length-append whole more

    inside : (id : ℕ) → 1 ≤ id → id ≤ length part → named names id - 1 < length whole
    inside id a b = let s : 1 ≤ named names id = h.some id a b in let m : named names id ≤ length whole = named-most names (length whole) id h.inside in omega (arith, s, m)

-- the part and the list have the same clause more
pub names-learned : (part whole : List (List ℤ)) (names : List ℕ) (place n : ℕ) (c : List ℤ) → AreNames (take place part) whole names → place < length part → c ≡ get_or part place [] → n ≡ length (whole ++ c ∷ []) → AreNames (take (place + 1) part) (whole ++ c ∷ []) (names ++ n ∷ [])
names-learned part whole names place n c h lt e k =
    subst (λ p. AreNames p (whole ++ c ∷ []) (names ++ n ∷ [])) (sym (take_more part place [] lt ∙ ap (λ x. take place part ++ x ∷ []) (sym e)))
    (subst (λ i. AreNames (take place part ++ c ∷ []) (whole ++ c ∷ []) (names ++ i ∷ [])) (sym (k ∙ long))
    (names-more (take place part) (whole ++ c ∷ []) names (length whole) c (names-longer (take place part) whole (c ∷ []) names h) (omega (arith, long)) (sym (get_or_push whole c [] (length whole) refl))))
  where
    long : length (whole ++ c ∷ []) ≡ length whole + 1
    long = length_push whole c

-- an id that is found is of a clause
clause-found : (n : ℕ) (cs : List (List ℤ)) (id : ℕ) (c : List ℤ) → clause_of (numbered n cs) id ≡ Some c → (k : ℕ) × (k < length cs) × (id ≡ n + k) × (get_or cs k [] ≡ c)
clause-found n [] id c h = absurd cc
clause-found n (d ∷ cs) id c h = pick (λ k. clause-found (n + 1) cs id c k) (eqb n id) refl h
  where
    pick : (clause_of (numbered (n + 1) cs) id ≡ Some c → (k : ℕ) × (k < length cs) × (id ≡ (n + 1) + k) × (get_or cs k [] ≡ c)) → (b : Bool) → eqb n id ≡ b → cond b (Some d) (clause_of (numbered (n + 1) cs) id) ≡ Some c → (k : ℕ) × (k < length (d ∷ cs)) × (id ≡ n + k) × (get_or (d ∷ cs) k [] ≡ c)
    pick rest true e s = let same : d ≡ c = cc in let i : n ≡ id = (Decides-eqb n id).0 e in (0, omega arith, omega (arith, i), same)
    pick rest false e s =
        let r : (k : ℕ) × (k < length cs) × (id ≡ (n + 1) + k) × (get_or cs k [] ≡ c) = rest s in
        let lt : r.0 < length cs = r.1 in
        let i : id ≡ (n + 1) + r.0 = r.2 in
        (suc r.0, omega (arith, lt), omega (arith, i), r.3)

-- it is found in the list under its name
found-named : (part whole : List (List ℤ)) (names : List ℕ) → AreNames part whole names → (id : ℕ) (c : List ℤ) → clause_of (numbered 1 part) id ≡ Some c → clause_of (numbered 1 whole) (named names id) ≡ Some c
found-named part whole names h id c e =
    let f : (k : ℕ) × (k < length part) × (id ≡ 1 + k) × (get_or part k [] ≡ c) = clause-found 1 part id c e in
    let lt : f.0 < length part = f.1 in
    let i : id ≡ 1 + f.0 = f.2 in
    let a : 1 ≤ id = omega (arith, i) in
    let b : id ≤ length part = omega (arith, i, lt) in
    let at : clause_at part id ≡ c = ap (λ n. get_or part n []) (omega (arith, i)) ∙ f.3 in
    clause_of-numbered whole (named names id) (h.some id a b) (named-most names (length whole) id h.inside) ∙ ap (λ d. Some d) (h.same id a b ∙ at)

-- hints that are followed
follow-named : (f : ℕ → ℕ) (live more : Live) (truth : ℤ → Bool) (hs : List ℕ) → ((id : ℕ) (c : List ℤ) → clause_of live id ≡ Some c → clause_of more (f id) ≡ Some c) → follow live truth hs ≡ None → follow more truth (map f hs) ≡ None
follow-named f live more truth [] found h = h
follow-named f live more truth (id ∷ hs) found h = pick (λ t. follow-named f live more t hs found) (clause_of live id) refl h
  where
    hint : ((t : ℤ → Bool) → follow live t hs ≡ None → follow more t (map f hs) ≡ None) → (k : Hint) → at_hint k (λ l. follow live (with_true l truth) hs) ≡ None → at_hint k (λ l. follow more (with_true l truth) (map f hs)) ≡ None
    hint rest False e = refl
    hint rest (OneLeft l) e = rest (with_true l truth) e
    hint rest Other e = absurd cc

    pick : ((t : ℤ → Bool) → follow live t hs ≡ None → follow more t (map f hs) ≡ None) → (o : Option (List ℤ)) → clause_of live id ≡ o → at_clause o (λ c. at_hint (hint_of truth c) (λ l. follow live (with_true l truth) hs)) ≡ None → follow more truth (f id ∷ map f hs) ≡ None
    pick rest None e k = absurd cc
    pick rest (Some c) e k = ap (λ o. at_clause o (λ d. at_hint (hint_of truth d) (λ l. follow more (with_true l truth) (map f hs)))) (found id c e) ∙ hint rest (hint_of truth c) k

-- what hints derive over the part, the named ones derive over the list
pub derives-named : (part whole : List (List ℤ)) (names : List ℕ) (c : List ℤ) (hints : List ℕ) → AreNames part whole names → Derives part c hints → Derives whole c (map (named names) hints)
derives-named part whole names c hints h d = follow-named (named names) (numbered 1 part) (numbered 1 whole) (denied c) hints (found-named part whole names h) d

-- the front of the list, a clause after the other
pub front-none : (whole : Clauses) (p : Part) → p.clauses ≡ record { vars = whole.vars; clauses = [] } → p.names.items ≡ 0 ∷ [] → IsFront 0 whole p
front-none whole p ec en =
    record {
      clauses = ec;
      names = subst (λ (k : Clauses). AreNames k.clauses whole.clauses p.names.items) (sym ec) (subst (AreNames [] whole.clauses) (sym en) (names-none whole.clauses));
    }

added-names : (whole : Clauses) (place : ℕ) (old new : Part) → AreNames old.clauses.clauses whole.clauses old.names.items → place < length whole.clauses → new.clauses ≡ with_clause old.clauses (get_or whole.clauses place []) → new.names.items ≡ old.names.items ++ (place + 1) ∷ [] → AreNames new.clauses.clauses whole.clauses new.names.items
added-names whole place old new h lt ec en =
    subst (λ (k : Clauses). AreNames k.clauses whole.clauses new.names.items) (sym ec)
    (subst (AreNames (old.clauses.clauses ++ get_or whole.clauses place [] ∷ []) whole.clauses) (sym en)
    (names-more old.clauses.clauses whole.clauses old.names.items place (get_or whole.clauses place []) h lt refl))

pub front-more : (whole : Clauses) (place : ℕ) (old new : Part) → IsFront place whole old → place < length whole.clauses → new.clauses ≡ with_clause old.clauses (get_or whole.clauses place []) → new.names.items ≡ old.names.items ++ (place + 1) ∷ [] → IsFront (place + 1) whole new
front-more whole place old new h lt ec en =
    record {
      clauses = ec ∙ (ap (λ k. with_clause k (get_or whole.clauses place [])) h.clauses ∙ ap (λ cs. record { vars = whole.vars; clauses = cs }) (sym (take_more whole.clauses place [] lt)));
      names = added-names whole place old new h.names lt ec en;
    }

-- then those that stay
pub front-part : (given : ℕ) (whole : Clauses) (p : Part) → IsFront given whole p → IsPart given whole p
front-part given whole p h =
    record {
      vars = ap (λ (k : Clauses). k.vars) h.clauses;
      front = record { more = []; is = ap (λ (k : Clauses). k.clauses) h.clauses ∙ sym (append-nil (take given whole.clauses)) };
      names = h.names;
    }

pub part-more : (given : ℕ) (whole : Clauses) (place : ℕ) (old new : Part) → IsPart given whole old → place < length whole.clauses → new.clauses ≡ with_clause old.clauses (get_or whole.clauses place []) → new.names.items ≡ old.names.items ++ (place + 1) ∷ [] → IsPart given whole new
part-more given whole place old new h lt ec en =
    record {
      vars = ap (λ (k : Clauses). k.vars) ec ∙ h.vars;
      front = record {
        more = h.front.more ++ get_or whole.clauses place [] ∷ [];
        is = ap (λ (k : Clauses). k.clauses) ec ∙ (ap (λ cs. cs ++ get_or whole.clauses place [] ∷ []) h.front.is ∙ append_assoc (take given whole.clauses) h.front.more (get_or whole.clauses place [] ∷ []));
      };
      names = added-names whole place old new h.names lt ec en;
    }
