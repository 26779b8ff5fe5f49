-- A search in segments: what each learns comes to the whole list, and what it answers holds of the whole list.
use Rattle.std.proofs.Common.{◌≡◌, ℕ, ◌+◌, ◌-◌, ◌≤◌, List, [], ◌∷◌, ◌++◌, length, map, take, get_or, ℤ, Bool, Option, Some, None, Result, Ok, Err, IfOk, IfSome, refl, sym, ◌∙◌, ap, subst, arith, append_assoc, length-append}
use Rattle.std.proofs.lemmas.List.{append-nil, take-append-le}
use Rattle.std.specs.declared.alloc.AllocError.{AllocError}
use Rattle.std.specs.List.{All}
use Rattle.hk_cnf.specs.Literal.{IsWithin}
use Rattle.hk_cnf.specs.Clauses.{Clauses, clauses_value}
use Rattle.hk_lrat.specs.declared.log.LratRow.{LratRow}
use Rattle.hk_lrat.specs.declared.log.LratRow.TheVariants.{Add}
use Rattle.hk_lrat.specs.Log.{has_both, is_nil}
use Rattle.hk_cdcl.specs.declared.names.Part.{Part}
use Rattle.hk_cdcl.specs.declared.search.Search.{Search}
use Rattle.hk_cdcl.specs.declared.search.Found.{Found}
use Rattle.hk_cdcl.specs.declared.search.Found.TheVariants.{Sat as FoundSat, Unsat as FoundUnsat, Spent as FoundSpent}
use Rattle.hk_cdcl.specs.declared.segments.Answer.{Answer}
use Rattle.hk_cdcl.specs.declared.segments.Answer.TheVariants.{Sat, Unsat}
use Rattle.hk_cdcl.specs.Analysis.{Derives}
use Rattle.hk_cdcl.specs.Fresh.{additions}
use Rattle.hk_cdcl.specs.Forgetting.{IsDerived, AreDerived, Learns, IsBegun, IsSearched, Says, Tells, Answers, answer_of, found_of, Called}
use Rattle.hk_cdcl.specs.Names.{named, AreNames, ids_of, front_of, IsPart}
use Rattle.hk_cdcl.specs.Propagation.{Grown}
use Rattle.hk_cdcl.specs.Searching.{IsLogged, with_clause, with_row}
use Rattle.hk_cdcl.specs.Solved.{Satisfies}
use Rattle.hk_cdcl.specs.States.{Grows, Closes, Ran}
use Rattle.hk_cdcl.proofs.Deriving.{logged-derived}
use Rattle.hk_cdcl.proofs.Growing.{grows-same, grows-then, additions-append, take-front}
use Rattle.hk_cdcl.proofs.Logging.{logged-none, logged-more}
use Rattle.hk_cdcl.proofs.Naming.{hints-named, derives-named}
use Rattle.hk_cdcl.proofs.Running.{satisfies-given}
use Rattle.hk_cdcl.proofs.Satisfying.{front-true}

-- so is the empty clause, where the list is the same
pub closes-same : (s t : Search) (row : LratRow) → t.clauses ≡ s.clauses → Closes s row → Closes t row
closes-same s t row e k =
    record {
      hints = k.hints;
      is = k.is ∙ ap (λ (c : Clauses). Add (length c.clauses + 1) [] k.hints) (sym e);
      derived = subst (λ (c : Clauses). Derives c.clauses [] k.hints) (sym e) k.derived;
    }

-- a call between two states with the same clauses and rows
pub ran-between : (budget : ℕ) (s t u v : Search) (r : Result Found AllocError) → t.log ≡ s.log → v.clauses ≡ u.clauses → v.log ≡ u.log → IfOk r (Ran budget t u) → IfOk r (Ran budget s v)
ran-between budget s t u v (Err e) el fc fl h = tt
ran-between budget s t u v (Ok (FoundSat a)) el fc fl h = subst (λ c. Satisfies c a) (sym fc) h
ran-between budget s t u v (Ok (FoundUnsat row)) el fc fl h = closes-same u v row fc h
ran-between budget s t u v (Ok FoundSpent) el fc fl h = ap length fl ∙ (h ∙ ap (λ l. length l + budget) el)

-- nothing came
pub learns-same : (s t : Search) → t.clauses ≡ s.clauses → t.log ≡ s.log → Learns s t
learns-same s t ec el =
    record {
      more = [];
      log = el ∙ sym (append-nil s.log);
      vars = ap (λ (c : Clauses). c.vars) ec;
      clauses = ap (λ (c : Clauses). c.clauses) ec ∙ sym (append-nil s.clauses.clauses);
      logged = λ given h. subst (λ c. IsLogged given c t.log) (sym ec) (subst (IsLogged given s.clauses) (sym el) h);
    }

-- one after the other
pub learns-then : (s t u : Search) → Learns s t → Learns t u → Learns s u
learns-then s t u g h =
    record {
      more = g.more ++ h.more;
      log = h.log ∙ (ap (λ l. l ++ h.more) g.log ∙ append_assoc s.log g.more h.more);
      vars = h.vars ∙ g.vars;
      clauses = h.clauses ∙ (ap (λ cs. cs ++ additions h.more) g.clauses ∙ (append_assoc s.clauses.clauses (additions g.more) (additions h.more) ∙ ap (λ cs. s.clauses.clauses ++ cs) (sym (additions-append g.more h.more))));
      logged = λ given k. h.logged given (g.logged given k);
    }

-- what a search learned
pub learns-grown : (given : Clauses) (s u : Search) → IsLogged given s.clauses s.log → Grows s u → Learns s u
learns-grown given s u h g =
    record {
      more = g.more;
      log = g.log;
      vars = (g.logged given h).vars ∙ sym h.vars;
      clauses = g.clauses;
      logged = g.logged;
    }

-- a row of the part came under its name
pub learns-row : (s u : Search) (part : List (List ℤ)) (names : List ℕ) (place : ℕ) (row : LratRow) (c : List ℤ) (hints : List ℕ) → IsDerived part place row → AreNames (take place part) s.clauses.clauses names → c ≡ get_or part place [] → hints ≡ map (named names) (ids_of row) → All (IsWithin s.clauses.vars) c → u.clauses ≡ with_clause s.clauses c → u.log ≡ with_row s.clauses s.log c hints → Learns s u
learns-row s u part names place row c hints d h e n w ec el =
    record {
      more = Add (length s.clauses.clauses + 1) c hints ∷ [];
      log = el;
      vars = ap (λ (k : Clauses). k.vars) ec;
      clauses = ap (λ (k : Clauses). k.clauses) ec;
      logged = λ given g. subst (λ k. IsLogged given k u.log) (sym ec) (subst (IsLogged given (with_clause s.clauses c)) (sym el)
          (logged-more given s.clauses s.log (length s.clauses.clauses + 1) c hints g refl w (ap has_both e ∙ d.not_both) derived (ap is_nil e ∙ d.not_nil) most));
    }
  where
    ids : hints ≡ map (named names) d.hints
    ids = n ∙ ap (λ r. map (named names) (ids_of r)) d.is

    derived : Derives s.clauses.clauses c hints
    derived =
        subst (λ hs. Derives s.clauses.clauses c hs) (sym ids)
        (derives-named (take place part) s.clauses.clauses names c d.hints h (subst (λ x. Derives (take place part) x d.hints) (sym e) d.derived))

    most : All (λ x. x ≤ length s.clauses.clauses) hints
    most = subst (All (λ x. x ≤ length s.clauses.clauses)) (sym ids) (hints-named names (length s.clauses.clauses) d.hints h.inside)

-- so came the last one
pub closes-named : (s part : Search) (names : List ℕ) (row : LratRow) (id : ℕ) (hints : List ℕ) → Closes part row → AreNames part.clauses.clauses s.clauses.clauses names → id ≡ length s.clauses.clauses + 1 → hints ≡ map (named names) (ids_of row) → Closes s (Add id [] hints)
closes-named s part names row id hints k h e n =
    record {
      hints = hints;
      is = ap (λ i. Add i [] hints) e;
      derived =
          subst (λ hs. Derives s.clauses.clauses [] hs) (sym (n ∙ ap (λ r. map (named names) (ids_of r)) k.is))
          (derives-named part.clauses.clauses s.clauses.clauses names [] k.hints h k.derived);
    }

-- a segment begins over a part of the list
pub begun-part : (given : ℕ) (whole active : Search) (p : Part) → IsPart given whole.clauses p → active.clauses ≡ p.clauses → active.log ≡ [] → IsBegun given whole active p.names.items
begun-part given whole active p h ec el =
    record {
      vars = ap (λ (k : Clauses). k.vars) ec ∙ h.vars;
      front = subst (λ (k : Clauses). Grown (take given whole.clauses.clauses) k.clauses) (sym ec) h.front;
      are_names = subst (λ (k : Clauses). AreNames k.clauses whole.clauses.clauses p.names.items) (sym ec) h.names;
      none = el;
    }

-- the whole list is the same behind it
pub begun-same : (given : ℕ) (whole now active : Search) (names : List ℕ) → now.clauses ≡ whole.clauses → IsBegun given whole active names → IsBegun given now active names
begun-same given whole now active names e b =
    record {
      vars = b.vars ∙ ap (λ (c : Clauses). c.vars) (sym e);
      front = subst (λ (c : Clauses). Grown (take given c.clauses) active.clauses.clauses) (sym e) b.front;
      are_names = subst (λ (c : Clauses). AreNames active.clauses.clauses c.clauses names) (sym e) b.are_names;
      none = b.none;
    }

-- the list of a segment is logged over its first state
begun-logged : (begun active : Search) → begun.log ≡ [] → Grows begun active → IsLogged begun.clauses active.clauses active.log
begun-logged begun active e g = g.logged begun.clauses (subst (IsLogged begun.clauses begun.clauses) (sym e) (logged-none begun.clauses))

pub searched : (given : ℕ) (whole begun active : Search) (names : List ℕ) → IsBegun given whole begun names → Grows begun active → IsSearched whole active names
searched given whole begun active names b g =
    record {
      vars = l.vars ∙ b.vars;
      some = omega (arith, count);
      are_names = subst (λ cs. AreNames cs whole.clauses.clauses names) (sym front) b.are_names;
      derived = subst (λ n. AreDerived active.clauses.clauses n active.log) (sym first) (logged-derived begun.clauses active.clauses active.log l);
    }
  where
    l : IsLogged begun.clauses active.clauses active.log
    l = begun-logged begun active b.none g

    count : length names ≡ length begun.clauses.clauses + 1
    count = b.are_names.count

    first : length names - 1 ≡ length begun.clauses.clauses
    first = omega (arith, count)

    front : take (length names - 1) active.clauses.clauses ≡ begun.clauses.clauses
    front = ap (take (length names - 1)) l.grown ∙ (ap (λ n. take n (begun.clauses.clauses ++ additions active.log)) first ∙ take-front begun.clauses.clauses (additions active.log))

pub searched-front : (given : ℕ) (whole begun active : Search) (names : List ℕ) → IsBegun given whole begun names → Grows begun active → Grown (take given whole.clauses.clauses) active.clauses.clauses
searched-front given whole begun active names b g =
    let l : IsLogged begun.clauses active.clauses active.log = begun-logged begun active b.none g in
    record {
      more = b.front.more ++ additions active.log;
      is = l.grown ∙ (ap (λ cs. cs ++ additions active.log) b.front.is ∙ append_assoc (take given whole.clauses.clauses) b.front.more (additions active.log));
    }

pub says-ran : (budget : ℕ) (s t : Search) (f : Found) → Ran budget s t f → Says t f
says-ran budget s t (FoundSat a) h = h
says-ran budget s t (FoundUnsat row) h = h
says-ran budget s t FoundSpent h = tt

-- the first clauses of the list stay
pub front-learns : (given : ℕ) (s t : Search) → given ≤ length s.clauses.clauses → Learns s t → front_of given t.clauses ≡ front_of given s.clauses
front-learns given s t le g =
    ap (λ v. record { vars = v; clauses = take given t.clauses.clauses }) g.vars
    ∙ ap (λ cs. record { vars = s.clauses.vars; clauses = cs }) (ap (take given) g.clauses ∙ take-append-le given s.clauses.clauses (additions g.more) le)

pub longer-learns : (s t : Search) → Learns s t → length s.clauses.clauses ≤ length t.clauses.clauses
longer-learns s t g = let n : length t.clauses.clauses ≡ length s.clauses.clauses + length (additions g.more) = ap length g.clauses ∙ length-append s.clauses.clauses (additions g.more) in omega (arith, n)

satisfies-front : (given : ℕ) (whole active : Clauses) (a : List Bool) → Grown (take given whole.clauses) active.clauses → active.vars ≡ whole.vars → Satisfies active a → Satisfies (front_of given whole) a
satisfies-front given whole active a f v s =
    record {
      each = s.each ∙ v;
      holds = front-true a (take given whole.clauses) f.more (ap (clauses_value a) (sym f.is) ∙ s.holds);
    }

-- the answer of a segment holds of the whole list
pub answers-told : (given : ℕ) (whole begun active now : Search) (names : List ℕ) (r : Result (Option Answer) AllocError) → given ≤ length whole.clauses.clauses → IsBegun given whole begun names → Grows begun active → Learns whole now → IfOk r (λ o. IfSome o (Tells active now)) → IfOk r (λ o. IfSome o (Answers given now))
answers-told given whole begun active now names (Err e) le b g l h = tt
answers-told given whole begun active now names (Ok None) le b g l h = tt
answers-told given whole begun active now names (Ok (Some (Unsat row))) le b g l h = h
answers-told given whole begun active now names (Ok (Some (Sat a))) le b g l h =
    subst (λ k. Satisfies k a) (sym (front-learns given whole now le l))
    (satisfies-front given whole.clauses active.clauses a (searched-front given whole begun active names b g) ((begun-logged begun active b.none g).vars ∙ b.vars) h)

-- the answer of a segment over the whole list
pub answers-ran : (given budget : ℕ) (old new : Search) (f : Found) → given ≤ length old.clauses.clauses → IsLogged (front_of given old.clauses) old.clauses old.log → Grows old new → Ran budget old new f → IfSome (answer_of f) (Answers given new)
answers-ran given budget old new (FoundSat a) le h g k =
    subst (λ c. Satisfies c a) (sym (front-learns given old new le (learns-grown (front_of given old.clauses) old new h g)))
    (satisfies-given (front_of given old.clauses) new.clauses new.log a (g.logged (front_of given old.clauses) h) k)
answers-ran given budget old new (FoundUnsat row) le h g k = k
answers-ran given budget old new FoundSpent le h g k = tt

-- the list is logged again
pub logged-learns : (given : ℕ) (s t : Search) → given ≤ length s.clauses.clauses → IsLogged (front_of given s.clauses) s.clauses s.log → Learns s t → IsLogged (front_of given t.clauses) t.clauses t.log
logged-learns given s t le h g = subst (λ c. IsLogged c t.clauses t.log) (sym (front-learns given s t le g)) (g.logged (front_of given s.clauses) h)

-- the answer of the call
pub called-answer : (given budget : ℕ) (old new : Search) (r : Answer) → given ≤ length old.clauses.clauses → Learns old new → Answers given new r → Called given budget old new (found_of r)
called-answer given budget old new (Sat a) le l h = subst (λ k. Satisfies k a) (front-learns given old new le l) h
called-answer given budget old new (Unsat row) le l h = h

-- the state before the call again
front-rows : (xs ys : List LratRow) → take (length xs) (xs ++ ys) ≡ xs
front-rows [] ys = refl
front-rows (x ∷ xs) ys = ap (λ zs. x ∷ zs) (front-rows xs ys)

pub back-clauses : (old mid now : Search) (n : ℕ) → Learns old mid → n ≡ length old.clauses.clauses → now.clauses ≡ front_of n mid.clauses → now.clauses ≡ old.clauses
back-clauses old mid now n l e k =
    k ∙ (ap (λ v. record { vars = v; clauses = take n mid.clauses.clauses }) l.vars
    ∙ ap (λ cs. record { vars = old.clauses.vars; clauses = cs }) (ap (take n) l.clauses ∙ (ap (λ i. take i (old.clauses.clauses ++ additions l.more)) e ∙ take-front old.clauses.clauses (additions l.more))))

pub back-log : (old mid now : Search) (n : ℕ) → Learns old mid → n ≡ length old.log → now.log ≡ take n mid.log → now.log ≡ old.log
back-log old mid now n l e k = k ∙ (ap (take n) l.log ∙ (ap (λ i. take i (old.log ++ l.more)) e ∙ front-rows old.log l.more))

-- and the search from there
pub learns-again : (given : ℕ) (old now new : Search) → now.clauses ≡ old.clauses → now.log ≡ old.log → IsLogged (front_of given old.clauses) old.clauses old.log → Grows now new → Learns old new
learns-again given old now new ec el h g = learns-grown (front_of given old.clauses) old new h (grows-then old now new (grows-same old now ec el) g)

pub called-again : (given budget : ℕ) (old now new : Search) (r : Result Found AllocError) → now.clauses ≡ old.clauses → now.log ≡ old.log → IsLogged (front_of given old.clauses) old.clauses old.log → Grows now new → IfOk r (Ran budget now new) → IfOk r (Called given budget old new)
called-again given budget old now new (Err e) ec el h g k = tt
called-again given budget old now new (Ok (FoundSat a)) ec el h g k =
    satisfies-given (front_of given old.clauses) new.clauses new.log a ((grows-then old now new (grows-same old now ec el) g).logged (front_of given old.clauses) h) k
called-again given budget old now new (Ok (FoundUnsat row)) ec el h g k = k
called-again given budget old now new (Ok FoundSpent) ec el h g k = (grows-then old now new (grows-same old now ec el) g, k ∙ ap (λ l. length l + budget) el)
