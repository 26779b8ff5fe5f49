-- A conflict is learned from, and the search goes back.
use Rattle.std.proofs.Common.{◌≡◌, ◌⊎◌, ℕ, suc, ◌+◌, ◌<◌, ◌≤◌, ◌^◌, false, List, [], ◌∷◌, length, take, min, get_or, ℤ, pos, negsuc, neg_ℤ, refl, sym, ◌∙◌, ap, subst, inl, inr, arith}
use Rattle.std.proofs.lemmas.Bool.{false≢true, false_from_ne_true, or_left, or_right}
use Rattle.std.proofs.lemmas.List.{take_all, take-take, length-take}
use Rattle.std.specs.List.{All}
use Rattle.hk_cnf.specs.Literal.{IsWithin, has}
use Rattle.hk_cnf.specs.Clauses.{Clauses}
use Rattle.hk_lrat.specs.declared.log.LratRow.{LratRow}
use Rattle.hk_lrat.specs.declared.log.LratRow.TheVariants.{Add}
use Rattle.hk_cdcl.specs.declared.search.Search.{Search}
use Rattle.hk_cdcl.specs.Path.{Path, IsPath, cut_at, lit_at, is_set}
use Rattle.hk_cdcl.specs.States.{Leveled, Grows, IsBack, IsRestarted}
use Rattle.hk_cdcl.specs.Analysis.{IsLearned}
use Rattle.hk_cdcl.specs.Searching.{IsLogged, IsLeveled, IsJump, with_clause, with_row}
use Rattle.hk_cdcl.proofs.Leveling.{leveled-jump, jump-fresh, leveled-zero}
use Rattle.hk_cdcl.proofs.Logging.{logged-more, not-nil}
use Rattle.hk_cdcl.proofs.Growing.{grows-same, grows-then}

pub back-leveled : (clauses : Clauses) (p : Path) (levels kept : List ℕ) (n below rest target : ℕ) (c : List ℤ) (hints : List ℕ) → IsPath p → IsLeveled clauses p levels → n + 1 ≡ length levels → below ≡ get_or levels n 0 → IsLearned clauses.clauses p below c hints rest → IsJump levels kept rest target → IsLeveled (with_clause clauses c) (cut_at p target) kept
back-leveled clauses p levels kept n below rest target c hints path h last e l j = leveled-jump clauses p levels kept n below rest target c path h last e l.asserting j

pub back-logged : (clauses : Clauses) (p : Path) (levels kept : List ℕ) (n below rest target : ℕ) (c : List ℤ) (hints : List ℕ) (log : List LratRow) → IsPath p → IsLeveled clauses p levels → n + 1 ≡ length levels → below ≡ get_or levels n 0 → IsLearned clauses.clauses p below c hints rest → IsJump levels kept rest target → (given : Clauses) → IsLogged given clauses log → IsLogged given (with_clause clauses c) (with_row clauses log c hints)
back-logged clauses p levels kept n below rest target c hints log path h last e l j given g =
    logged-more given clauses log (length clauses.clauses + 1) c hints g refl (subst (λ v. All (IsWithin v) c) h.vars l.within) l.not_both l.derived
    (not-nil c (neg_ℤ (lit_at p.lits l.asserting.uip)) l.asserting.member) l.hinted

pub back-of : (s u : Search) (n below rest target : ℕ) (c : List ℤ) (hints : List ℕ) → IsPath s.trail → Leveled s → n + 1 ≡ length s.levels.items → below ≡ get_or s.levels.items n 0 → IsLearned s.clauses.clauses s.trail below c hints rest → IsJump s.levels.items u.levels.items rest target → u.clauses ≡ with_clause s.clauses c → u.trail ≡ cut_at s.trail target → length u.seen ≡ length s.seen → u.left + 1 ≡ s.left → IsBack s u target
back-of s u n below rest target c hints path h last e l j ec et es ef =
    record {
      leveled = (
        subst (λ k. IsLeveled k u.trail u.levels.items) (sym ec) (subst (λ p. IsLeveled (with_clause s.clauses c) p u.levels.items) (sym et)
            (back-leveled s.clauses s.trail s.levels.items u.levels.items n below rest target c hints path h.0 last e l j)),
        es ∙ (h.1 ∙ sym (ap (λ (p : Path). p.vars) et)),
      );
      left = ef;
      lits = ap (λ (p : Path). p.lits) et;
      vars = ap (λ (p : Path). p.vars) et;
    }

-- the learned clause is fresh, and its row accepted
pub back-grows : (s u : Search) (n below rest target : ℕ) (kept : List ℕ) (c : List ℤ) (hints : List ℕ) → IsPath s.trail → Leveled s → n + 1 ≡ length s.levels.items → below ≡ get_or s.levels.items n 0 → IsLearned s.clauses.clauses s.trail below c hints rest → IsJump s.levels.items kept rest target → u.clauses ≡ with_clause s.clauses c → u.log ≡ with_row s.clauses s.log c hints → Grows s u
back-grows s u n below rest target kept c hints path h last e l j ec el =
    record {
      more = Add (length s.clauses.clauses + 1) c hints ∷ [];
      log = el;
      clauses = ap (λ (k : Clauses). k.clauses) ec;
      fresh = (jump-fresh s.clauses s.trail s.levels.items kept n below rest target c path h.0 last e l.asserting j, tt);
      logged = λ given g. subst (λ k. IsLogged given k u.log) (sym ec) (subst (IsLogged given (with_clause s.clauses c)) (sym el)
          (back-logged s.clauses s.trail s.levels.items kept n below rest target c hints s.log path h.0 last e l j given g));
    }

pub restarted-none : (s : Search) → Leveled s → (n : ℕ) → n ≡ length s.trail.lits → IsRestarted s s n
restarted-none s h n e = record { leveled = h; clauses = refl; log = refl; left = refl; vars = refl; lits = sym (take_all n s.trail.lits (omega (arith, e))); inside = omega (arith, e) }

pub restarted-zero : (s u : Search) (first : ℕ) → Leveled s → 0 < length s.levels.items → first ≡ get_or s.levels.items 0 0 → u.clauses ≡ s.clauses → u.log ≡ s.log → u.trail ≡ cut_at s.trail first → u.levels.items ≡ [] → length u.seen ≡ length s.seen → u.left ≡ s.left → IsRestarted s u first
restarted-zero s u first h some e ec el et ev es ef =
    record {
      leveled = (
        subst (λ k. IsLeveled k u.trail u.levels.items) (sym ec) (subst (λ p. IsLeveled s.clauses p u.levels.items) (sym et) (subst (IsLeveled s.clauses (cut_at s.trail first)) (sym ev) (leveled-zero s.clauses s.trail s.levels.items first h.0 some e))),
        es ∙ (h.1 ∙ sym (ap (λ (p : Path). p.vars) et)),
      );
      clauses = ec;
      log = el;
      left = ef;
      vars = ap (λ (p : Path). p.vars) et;
      lits = ap (λ (p : Path). p.lits) et;
      inside = let b : get_or s.levels.items 0 0 < length s.trail.lits = h.0.inside 0 0 some in omega (arith, b, e);
    }

pub back-restarted : (s m r u : Search) (n k : ℕ) → IsBack s m n → r.left ≡ m.left → r.trail ≡ m.trail → IsRestarted r u k → IsBack s u k
back-restarted s m r u n k b ef et h =
    record {
      leveled = h.leveled;
      left = ap (λ i. i + 1) (h.left ∙ ef) ∙ b.left;
      vars = h.vars ∙ (ap (λ (p : Path). p.vars) et ∙ b.vars);
      lits = h.lits ∙ (ap (take k) lits ∙ take-take k n s.trail.lits inside);
    }
  where
    lits : r.trail.lits ≡ take n s.trail.lits
    lits = ap (λ (p : Path). p.lits) et ∙ b.lits

    inside : k ≤ n
    inside = let a : k ≤ length r.trail.lits = h.inside in let c : length r.trail.lits ≡ length (take n s.trail.lits) = ap length lits in let d : length (take n s.trail.lits) ≡ min n (length s.trail.lits) = length-take n s.trail.lits in omega (arith, a, c, d)

-- what stands behind learning stands behind a restart
pub grows-restarted : (s m r u : Search) (k : ℕ) → Grows s m → r.clauses ≡ m.clauses → r.log ≡ m.log → IsRestarted r u k → Grows s u
grows-restarted s m r u k g ec el h = grows-then s m u g (grows-same m u (h.clauses ∙ ec) (h.log ∙ el))

-- either literal of a variable that is not set
pub unset-literal : (lits : List ℤ) (vars n : ℕ) (l : ℤ) → vars < 2 ^ 63 → n < vars → is_set lits n ≡ false → (l ≡ pos (n + 1)) ⊎ (l ≡ negsuc n) → IsWithin vars l × (has lits l ≡ false) × (has lits (neg_ℤ l) ≡ false)
unset-literal lits vars n l few lt u (inl e) = subst (λ x. IsWithin vars x × (has lits x ≡ false) × (has lits (neg_ℤ x) ≡ false)) (sym (e ∙ ap pos one)) (record { literal = record { nonzero = λ k. cc; small = small }; below = lt }, first, second)
  where
    one : n + 1 ≡ suc n
    one = omega arith

    small : suc n < 2 ^ 63
    small = omega (arith, few, lt)

    first : has lits (pos (suc n)) ≡ false
    first = false_from_ne_true (has lits (pos (suc n))) (λ k. false≢true (sym u ∙ or_left (has lits (pos (suc n))) (has lits (negsuc n)) k))

    second : has lits (negsuc n) ≡ false
    second = false_from_ne_true (has lits (negsuc n)) (λ k. false≢true (sym u ∙ or_right (has lits (pos (suc n))) (has lits (negsuc n)) k))
unset-literal lits vars n l few lt u (inr e) = subst (λ x. IsWithin vars x × (has lits x ≡ false) × (has lits (neg_ℤ x) ≡ false)) (sym e) (record { literal = record { nonzero = λ k. cc; small = small }; below = lt }, second, first)
  where
    small : suc n < 2 ^ 63
    small = omega (arith, few, lt)

    first : has lits (pos (suc n)) ≡ false
    first = false_from_ne_true (has lits (pos (suc n))) (λ k. false≢true (sym u ∙ or_left (has lits (pos (suc n))) (has lits (negsuc n)) k))

    second : has lits (negsuc n) ≡ false
    second = false_from_ne_true (has lits (negsuc n)) (λ k. false≢true (sym u ∙ or_right (has lits (pos (suc n))) (has lits (negsuc n)) k))
