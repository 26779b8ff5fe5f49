-- The parts of a row of literals as clauses are added at its end and cut off.
use Rattle.std.proofs.Common.{◌≡◌, ℕ, zero, suc, ◌+◌, ◌-◌, ◌<◌, ◌≤◌, List, [], ◌∷◌, ◌++◌, length, take, drop, get_or, ℤ, refl, sym, ◌∙◌, ap, subst, arith, min, ◌^◌, length-append, length-take}
use Rattle.std.proofs.lemmas.List.{length-map, take-append-le, drop-append-le, drop_at, take_all, take-take, get_or-map, get_or-take, map-append, take-map, length-take-le}
use Rattle.std.proofs.lemmas.List.Elements.{All-nil, All-cons, All-head, All-tail, All-push, All-take, All-same}
use Rattle.std.proofs.Math.Seq.{get_or-append_seam}
use Rattle.std.proofs.lemmas.Grind.{common_steps}
use Rattle.std.proofs.lemmas.Slice.{between_is}
use Rattle.std.specs.List.{All}
use Rattle.hk_cnf.specs.declared.clauses.ClauseList.TheInside.{Inside}
use Rattle.hk_cnf.specs.Literal.{IsWithin}
use Rattle.hk_cnf.specs.Clauses.{Clauses, AreWithin}
use Rattle.hk_cnf.specs.Layout.{Span, spans_from, part_of, clauses_of, view_of, IsSpan, last_end, IsLaidOut}

-- records with the same parts
clauses_same : (v w : ℕ) (cs ds : List (List ℤ)) → v ≡ w → cs ≡ ds → let x : Clauses = record { vars = v; clauses = cs } in let y : Clauses = record { vars = w; clauses = ds } in x ≡ y
clauses_same v w cs ds e f = cc

-- more literals at the end leave a part as it was
pub part_of-append : (lits more : List ℤ) (s : Span) → IsSpan (length lits) s → part_of (lits ++ more) s ≡ part_of lits s
part_of-append lits more s h =
    let e : drop s.start (lits ++ more) ≡ drop s.start lits ++ more = drop-append-le s.start lits more (omega (arith, h.rising, h.inside)) in
    ap (take (s.end - s.start)) e ∙ take-append-le (s.end - s.start) (drop s.start lits) more (grind (arith, common_steps, h.rising, h.inside))

pub clauses_of-append : (lits more : List ℤ) (spans : List Span) → All (IsSpan (length lits)) spans → clauses_of (lits ++ more) spans ≡ clauses_of lits spans
clauses_of-append lits more [] h = refl
clauses_of-append lits more (s ∷ ss) h =
    ap (λ c. c ∷ clauses_of (lits ++ more) ss) (part_of-append lits more s (All-head (IsSpan (length lits)) s ss h))
    ∙ ap (λ cs. part_of lits s ∷ cs) (clauses_of-append lits more ss (All-tail (IsSpan (length lits)) s ss h))

-- the part behind the row is what was added
pub part_of-whole : (lits more : List ℤ) (s : Span) → s.start ≡ length lits → s.end ≡ length lits + length more → part_of (lits ++ more) s ≡ more
part_of-whole lits more s e f =
    ap (take (s.end - s.start)) (drop_at lits more s.start (sym e))
    ∙ take_all (s.end - s.start) more (omega (arith, e, f))

pub clauses_of-push : (lits more : List ℤ) (spans : List Span) (s : Span) → All (IsSpan (length lits)) spans → s.start ≡ length lits → s.end ≡ length lits + length more → clauses_of (lits ++ more) (spans ++ s ∷ []) ≡ clauses_of lits spans ++ more ∷ []
clauses_of-push lits more spans s h e f =
    map-append (part_of (lits ++ more)) spans (s ∷ [])
    ∙ (ap (λ cs. cs ++ part_of (lits ++ more) s ∷ []) (clauses_of-append lits more spans h)
    ∙ ap (λ c. clauses_of lits spans ++ c ∷ []) (part_of-whole lits more s e f))

pub spans-push : (lits more : List ℤ) (spans : List Span) (s : Span) → All (IsSpan (length lits)) spans → s.start ≡ length lits → s.end ≡ length lits + length more → All (IsSpan (length (lits ++ more))) (spans ++ s ∷ [])
spans-push lits more spans s h e f =
    let n : length (lits ++ more) ≡ length lits + length more = length-append lits more in
    All-push (IsSpan (length (lits ++ more))) spans s
    (λ k d b. let i : IsSpan (length lits) (get_or spans k d) = h k d b in record { rising = i.rising; inside = omega (arith, n, i.inside) })
    (record { rising = omega (arith, e, f); inside = omega (arith, n, f) })

pub within-push : (vars : ℕ) (lits more : List ℤ) (spans : List Span) (s : Span) → All (IsSpan (length lits)) spans → s.start ≡ length lits → s.end ≡ length lits + length more → AreWithin vars (clauses_of lits spans) → All (IsWithin vars) more → AreWithin vars (clauses_of (lits ++ more) (spans ++ s ∷ []))
within-push vars lits more spans s h e f w m =
    All-same (λ c. All (IsWithin vars) c) (clauses_of (lits ++ more) (spans ++ s ∷ [])) (clauses_of lits spans ++ more ∷ []) (clauses_of-push lits more spans s h e f)
    (All-push (λ c. All (IsWithin vars) c) (clauses_of lits spans) more w m)

-- a part that ends before the cut is as it was
pub part_of-take : (lits : List ℤ) (k : ℕ) (s : Span) → s.end ≤ k → part_of (take k lits) s ≡ part_of lits s
part_of-take lits k s b = between_is (take k lits) s.start s.end ∙ (ap (drop s.start) (take-take s.end k lits b) ∙ sym (between_is lits s.start s.end))

pub clauses_of-take : (lits : List ℤ) (k : ℕ) (spans : List Span) → All (λ s. s.end ≤ k) spans → clauses_of (take k lits) spans ≡ clauses_of lits spans
clauses_of-take lits k [] b = refl
clauses_of-take lits k (s ∷ ss) b =
    ap (λ c. c ∷ clauses_of (take k lits) ss) (part_of-take lits k s (All-head (λ s. s.end ≤ k) s ss b))
    ∙ ap (λ cs. part_of lits s ∷ cs) (clauses_of-take lits k ss (All-tail (λ s. s.end ≤ k) s ss b))

-- the parts of ends are as many as the ends
pub length-spans : (start : ℕ) (ends : List ℕ) → length (spans_from start ends) ≡ length ends
length-spans start [] = refl
length-spans start (end ∷ ends) = ap suc (length-spans end ends)

-- one end more is one part more
pub spans-more : (start : ℕ) (ends : List ℕ) (e : ℕ) → spans_from start (ends ++ e ∷ []) ≡ spans_from start ends ++ record { start = get_or (start ∷ ends) (length ends) 0; end = e } ∷ []
spans-more start [] e = refl
spans-more start (end ∷ ends) e = ap (λ ss. record { start = start; end = end } ∷ ss) (spans-more end ends e)

pub spans-take : (n start : ℕ) (ends : List ℕ) → take n (spans_from start ends) ≡ spans_from start (take n ends)
spans-take zero start ends = refl
spans-take (suc n) start [] = refl
spans-take (suc n) start (end ∷ ends) = ap (λ ss. record { start = start; end = end } ∷ ss) (spans-take n end ends)

-- the part at a place starts where the one before it ends
pub spans-at : (start : ℕ) (ends : List ℕ) (i : ℕ) (d : Span) → i < length ends → get_or (spans_from start ends) i d ≡ record { start = get_or (start ∷ ends) i 0; end = get_or ends i 0 }
spans-at start [] i d b = absurd (omega (arith, b))
spans-at start (end ∷ ends) zero d b = refl
spans-at start (end ∷ ends) (suc i) d b = spans-at end ends i d (omega (arith, b))

-- ends never fall
ends-rise : (m start : ℕ) (ends : List ℕ) (n : ℕ) → n ≤ length ends → All (IsSpan m) (spans_from start ends) → start ≤ get_or (start ∷ ends) n 0
ends-rise m start ends zero b h = omega arith
ends-rise m start [] (suc n) b h = absurd (omega (arith, b))
ends-rise m start (end ∷ ends) (suc n) b h =
    let s : Span = record { start = start; end = end } in
    let first : IsSpan m s = All-head (IsSpan m) s (spans_from end ends) h in
    let rest : end ≤ get_or (end ∷ ends) n 0 = ends-rise m end ends n (omega (arith, b)) (All-tail (IsSpan m) s (spans_from end ends) h) in
    omega (arith, first.rising, rest)

-- the first parts end where the next one starts, or earlier
pub ends-before : (m start : ℕ) (ends : List ℕ) (n : ℕ) → n ≤ length ends → All (IsSpan m) (spans_from start ends) → All (λ s. s.end ≤ get_or (start ∷ ends) n 0) (take n (spans_from start ends))
ends-before m start ends zero b h = All-nil (λ s. s.end ≤ start)
ends-before m start [] (suc n) b h = absurd (omega (arith, b))
ends-before m start (end ∷ ends) (suc n) b h =
    let s : Span = record { start = start; end = end } in
    let rest : All (IsSpan m) (spans_from end ends) = All-tail (IsSpan m) s (spans_from end ends) h in
    All-cons (λ t. t.end ≤ get_or (end ∷ ends) n 0) s (take n (spans_from end ends)) (ends-rise m end ends n (omega (arith, b)) rest) (ends-before m end ends n (omega (arith, b)) rest)

pub last_end-push : (ends : List ℕ) (e : ℕ) → last_end (ends ++ e ∷ []) ≡ e
last_end-push ends e =
    let n : length (ends ++ e ∷ []) ≡ suc (length ends) = length-append ends (e ∷ []) ∙ next (length ends) in
    ap (λ k. get_or (0 ∷ (ends ++ e ∷ [])) k 0) n ∙ get_or-append_seam (0 ∷ ends) e [] 0
  where
    next : (n : ℕ) → n + 1 ≡ suc n
    next n = omega arith

pub last_end-take : (n : ℕ) (ends : List ℕ) → n ≤ length ends → last_end (take n ends) ≡ get_or (0 ∷ ends) n 0
last_end-take n ends b =
    ap (λ k. get_or (0 ∷ take n ends) k 0) (length-take-le n ends b)
    ∙ get_or-take (suc n) (0 ∷ ends) n 0 (omega arith)

-- one more clause behind the row
pub IsLaidOut-push : (c d : Inside) (more : List ℤ) (e : ℕ) → IsLaidOut c → All (IsWithin c.vars) more → d.vars ≡ c.vars → d.lits.items ≡ c.lits.items ++ more → d.ends.items ≡ c.ends.items ++ e ∷ [] → e ≡ length c.lits.items + length more → IsLaidOut d
IsLaidOut-push c d more e h m ev el ee b =
    let s : Span = record { start = last_end c.ends.items; end = e } in
    let es : spans_from 0 d.ends.items ≡ spans_from 0 c.ends.items ++ s ∷ [] = ap (spans_from 0) ee ∙ spans-more 0 c.ends.items e in
    record {
      spans = subst (λ ls. All (IsSpan (length ls)) (spans_from 0 d.ends.items)) (sym el) (subst (All (IsSpan (length (c.lits.items ++ more)))) (sym es) (spans-push c.lits.items more (spans_from 0 c.ends.items) s h.spans h.whole b));
      whole = ap last_end ee ∙ (last_end-push c.ends.items e ∙ (b ∙ (sym (length-append c.lits.items more) ∙ ap length (sym el))));
      within = subst (λ vars. AreWithin vars (clauses_of d.lits.items (spans_from 0 d.ends.items))) (sym ev)
          (subst (λ ls. AreWithin c.vars (clauses_of ls (spans_from 0 d.ends.items))) (sym el)
          (subst (λ ss. AreWithin c.vars (clauses_of (c.lits.items ++ more) ss)) (sym es)
          (within-push c.vars c.lits.items more (spans_from 0 c.ends.items) s h.spans h.whole b h.within m)));
      few = subst (λ vars. vars < 2 ^ 63) (sym ev) h.few;
    }

pub view_of-push : (c d : Inside) (more : List ℤ) (e : ℕ) → IsLaidOut c → d.vars ≡ c.vars → d.lits.items ≡ c.lits.items ++ more → d.ends.items ≡ c.ends.items ++ e ∷ [] → e ≡ length c.lits.items + length more → view_of d ≡ record { vars = c.vars; clauses = clauses_of c.lits.items (spans_from 0 c.ends.items) ++ more ∷ [] }
view_of-push c d more e h ev el ee b =
    let s : Span = record { start = last_end c.ends.items; end = e } in
    let es : spans_from 0 d.ends.items ≡ spans_from 0 c.ends.items ++ s ∷ [] = ap (spans_from 0) ee ∙ spans-more 0 c.ends.items e in
    let same : clauses_of d.lits.items (spans_from 0 d.ends.items) ≡ clauses_of c.lits.items (spans_from 0 c.ends.items) ++ more ∷ [] =
    ap (λ ls. clauses_of ls (spans_from 0 d.ends.items)) el ∙ (ap (clauses_of (c.lits.items ++ more)) es ∙ clauses_of-push c.lits.items more (spans_from 0 c.ends.items) s h.spans h.whole b) in
    clauses_same d.vars c.vars (clauses_of d.lits.items (spans_from 0 d.ends.items)) (clauses_of c.lits.items (spans_from 0 c.ends.items) ++ more ∷ []) ev same

-- the clauses that are kept, where the row is cut behind them
clauses-cut : (c d : Inside) (n k : ℕ) → IsLaidOut c → n ≤ length c.ends.items → k ≡ get_or (0 ∷ c.ends.items) n 0 → d.lits.items ≡ take k c.lits.items → d.ends.items ≡ take n c.ends.items → clauses_of d.lits.items (spans_from 0 d.ends.items) ≡ take n (clauses_of c.lits.items (spans_from 0 c.ends.items))
clauses-cut c d n k h b at el ee =
    let spans : List Span = spans_from 0 c.ends.items in
    let es : spans_from 0 d.ends.items ≡ take n spans = ap (spans_from 0) ee ∙ sym (spans-take n 0 c.ends.items) in
    let kept : All (λ s. s.end ≤ k) (take n spans) = subst (λ k. All (λ s. s.end ≤ k) (take n spans)) (sym at) (ends-before (length c.lits.items) 0 c.ends.items n b h.spans) in
    ap (λ ls. clauses_of ls (spans_from 0 d.ends.items)) el ∙ (ap (clauses_of (take k c.lits.items)) es ∙ (clauses_of-take c.lits.items k (take n spans) kept ∙ sym (take-map (part_of c.lits.items) n spans)))

-- the first clauses alone
pub IsLaidOut-cut : (c d : Inside) (vars n k : ℕ) → IsLaidOut c → vars ≤ c.vars → AreWithin vars (take n (clauses_of c.lits.items (spans_from 0 c.ends.items))) → n ≤ length c.ends.items → k ≡ get_or (0 ∷ c.ends.items) n 0 → d.vars ≡ vars → d.lits.items ≡ take k c.lits.items → d.ends.items ≡ take n c.ends.items → IsLaidOut d
IsLaidOut-cut c d vars n k h less w b at ev el ee =
    let spans : List Span = spans_from 0 c.ends.items in
    let es : spans_from 0 d.ends.items ≡ take n spans = ap (spans_from 0) ee ∙ sym (spans-take n 0 c.ends.items) in
    let kept : All (λ s. s.end ≤ k) (take n spans) = subst (λ k. All (λ s. s.end ≤ k) (take n spans)) (sym at) (ends-before (length c.lits.items) 0 c.ends.items n b h.spans) in
    let l : length (take k c.lits.items) ≡ min k (length c.lits.items) = length-take k c.lits.items in
    let all : All (IsSpan (length c.lits.items)) (take n spans) = All-take (IsSpan (length c.lits.items)) n spans h.spans in
    let reach : k ≤ length c.lits.items = ends-within c n k h b at in
    record {
      spans = subst (λ ls. All (IsSpan (length ls)) (spans_from 0 d.ends.items)) (sym el) (subst (All (IsSpan (length (take k c.lits.items)))) (sym es)
          (λ i e lt. let s : IsSpan (length c.lits.items) (get_or (take n spans) i e) = all i e lt in
          let f : (get_or (take n spans) i e).end ≤ k = kept i e lt in
          record { rising = s.rising; inside = omega (arith, l, s.inside, f) }));
      whole = ap last_end ee ∙ (last_end-take n c.ends.items b ∙ (sym at ∙ (sym (length-take-le k c.lits.items reach) ∙ ap length (sym el))));
      within = subst (λ v. AreWithin v (clauses_of d.lits.items (spans_from 0 d.ends.items))) (sym ev)
          (subst (AreWithin vars) (sym (clauses-cut c d n k h b at el ee)) w);
      few = omega (arith, ev, less, h.few);
    }
  where
    -- the cut lies within the row
    ends-within : (c : Inside) (n k : ℕ) → IsLaidOut c → n ≤ length c.ends.items → k ≡ get_or (0 ∷ c.ends.items) n 0 → k ≤ length c.lits.items
    ends-within c zero k h b at = omega (arith, at)
    ends-within c (suc n) k h b at =
        let s : Span = record { start = 0; end = 0 } in
        let i : IsSpan (length c.lits.items) (get_or (spans_from 0 c.ends.items) n s) = h.spans n s (omega (arith, b, length-spans 0 c.ends.items)) in
        let e : get_or (spans_from 0 c.ends.items) n s ≡ record { start = get_or (0 ∷ c.ends.items) n 0; end = get_or c.ends.items n 0 } = spans-at 0 c.ends.items n s (omega (arith, b)) in
        omega (arith, at, subst (λ t. t.end ≤ length c.lits.items) e i.inside)

pub view_of-cut : (c d : Inside) (vars n k : ℕ) → IsLaidOut c → n ≤ length c.ends.items → k ≡ get_or (0 ∷ c.ends.items) n 0 → d.vars ≡ vars → d.lits.items ≡ take k c.lits.items → d.ends.items ≡ take n c.ends.items → view_of d ≡ record { vars = vars; clauses = take n (clauses_of c.lits.items (spans_from 0 c.ends.items)) }
view_of-cut c d vars n k h b at ev el ee =
    clauses_same d.vars vars (clauses_of d.lits.items (spans_from 0 d.ends.items)) (take n (clauses_of c.lits.items (spans_from 0 c.ends.items))) ev (clauses-cut c d n k h b at el ee)

-- there are as many ends as clauses
pub length-clauses : (c : Inside) (v : Clauses) → view_of c ≡ v → length c.ends.items ≡ length v.clauses
length-clauses c v e =
    let m : length (clauses_of c.lits.items (spans_from 0 c.ends.items)) ≡ length c.ends.items = length-map (spans_from 0 c.ends.items) (part_of c.lits.items) ∙ length-spans 0 c.ends.items in
    sym m ∙ ap (λ w. length w.clauses) e

-- where a clause stands in the row
pub record StandsAt (c : Inside) (v : Clauses) (i : ℕ) : Type 0 where
  pub few : i < length c.ends.items
  pub rising : get_or (0 ∷ c.ends.items) i 0 ≤ get_or c.ends.items i 0
  pub inside : get_or c.ends.items i 0 ≤ length c.lits.items
  pub same : part_of c.lits.items (record { start = get_or (0 ∷ c.ends.items) i 0; end = get_or c.ends.items i 0 }) ≡ get_or v.clauses i []

pub stands_at : (c : Inside) (v : Clauses) (i : ℕ) → view_of c ≡ v → IsLaidOut c → i < length v.clauses → StandsAt c v i
stands_at c v i e h b =
    let few : i < length c.ends.items = omega (arith, b, length-clauses c v e) in
    let s : Span = record { start = 0; end = 0 } in
    let spans : List Span = spans_from 0 c.ends.items in
    let n : i < length spans = omega (arith, few, length-spans 0 c.ends.items) in
    let at : get_or spans i s ≡ record { start = get_or (0 ∷ c.ends.items) i 0; end = get_or c.ends.items i 0 } = spans-at 0 c.ends.items i s few in
    let is : IsSpan (length c.lits.items) (record { start = get_or (0 ∷ c.ends.items) i 0; end = get_or c.ends.items i 0 }) = subst (IsSpan (length c.lits.items)) at (h.spans i s n) in
    record {
      few = few;
      rising = is.rising;
      inside = is.inside;
      same = ap (part_of c.lits.items) (sym at) ∙ (sym (get_or-map (part_of c.lits.items) spans i s [] n) ∙ ap (λ w. get_or w.clauses i []) e);
    }

-- the literals of a clause are within the variables
pub clause-within : (c : Inside) (v : Clauses) (i : ℕ) → view_of c ≡ v → IsLaidOut c → i < length v.clauses → All (IsWithin v.vars) (get_or v.clauses i [])
clause-within c v i e h b = subst (λ w. AreWithin w.vars w.clauses) e h.within i [] b
