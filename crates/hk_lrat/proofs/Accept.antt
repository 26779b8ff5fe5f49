-- What an accepted row leaves in the checker.
use Rattle.std.proofs.Common.{◌≡◌, ℕ, zero, suc, ◌+◌, ◌<◌, ◌^◌, Bool, true, cond, List, [], ◌∷◌, ◌++◌, length, take, get_or, ℤ, pos, negsuc, Some, None, sym, ◌∙◌, ap, arith, length-take-le}
use Rattle.std.proofs.lemmas.Bool.{ltb-true, false≢true}
use Rattle.std.proofs.lemmas.List.{take_more}
use Rattle.std.specs.List.{All, list_all}
use Rattle.hk_cnf.specs.Literal.{IsWithin}
use Rattle.hk_lrat.specs.declared.checker.Checker.TheInside.{Inside}
use Rattle.hk_lrat.specs.declared.log.RowReason.TheVariants.{L3}
use Rattle.hk_lrat.specs.Log.{State, numbered, is_within, add_fault, delete_fault}
use Rattle.hk_lrat.specs.Entries.{is_live_at}
use Rattle.hk_lrat.specs.Room.{Checked}
use Rattle.hk_lrat.specs.Checked.{view_of}
use Rattle.hk_lrat.proofs.Look.{all_live-same}
use Rattle.hk_lrat.proofs.Sound.{all-pass, accepted, IsAccepted}

-- a literal that passes the test is within the variables
IsWithin-test : (vars : ℕ) (l : ℤ) → vars < 2 ^ 63 → is_within vars l ≡ true → IsWithin vars l
IsWithin-test vars (pos zero) few h = absurd (false≢true h)
IsWithin-test vars (pos (suc n)) few h = let lt : n < vars = ltb-true n vars h in record { literal = record { nonzero = λ e. cc; small = omega (arith, lt, few) }; below = lt }
IsWithin-test vars (negsuc n) few h = let lt : n < vars = ltb-true n vars h in record { literal = record { nonzero = λ e. cc; small = omega (arith, lt, few) }; below = lt }

pub accepted-within : (s : State) (id : ℕ) (c : List ℤ) (hints : List ℕ) → s.vars < 2 ^ 63 → None ≡ add_fault s id c hints → All (IsWithin s.vars) c
accepted-within s id c hints few e =
    let p : IsAccepted s id c hints = accepted s id c hints (sym e) in
    λ k d lt. IsWithin-test s.vars (get_or c k d) few (all-pass (is_within s.vars) c p.within k d lt)

-- the table's answer to a deletion is the definition's
pub delete-answer : (c : Inside) (v : Checked) (row : List ℕ) (b : Bool) → view_of c ≡ v → b ≡ list_all (is_live_at c.table.items) row → cond b None (Some L3) ≡ delete_fault v.state row
delete-answer c v ids b e h =
    ap (λ x. cond x None (Some L3)) (h ∙ sym (all_live-same c.lits.items c.table.items ids)) ∙ ap (λ w. delete_fault w.state ids) e

numbered-push : (n : ℕ) (cs : List (List ℤ)) (c : List ℤ) → numbered n (cs ++ c ∷ []) ≡ numbered n cs ++ (n + length cs, c) ∷ []
numbered-push n [] c = ap (λ k. (k, c) ∷ []) (omega arith)
numbered-push n (d ∷ cs) c = ap (λ es. (n, d) ∷ es) (numbered-push (n + 1) cs c ∙ ap (λ k. numbered (n + 1) cs ++ (k, c) ∷ []) (omega arith))

-- one given clause more
pub start-more : (s : State) (vars i : ℕ) (cs : List (List ℤ)) (c : List ℤ) → s ≡ record { vars = vars; last = i; live = numbered 1 (take i cs) } → i < length cs → c ≡ get_or cs i [] → record s { last = i + 1; live = s.live ++ (i + 1, c) ∷ [] } ≡ record { vars = vars; last = i + 1; live = numbered 1 (take (i + 1) cs) }
start-more s vars i cs c e lt at =
    let n : length (take i cs) ≡ i = length-take-le i cs (omega (arith, lt)) in
    let k : i + 1 ≡ 1 + length (take i cs) = omega (arith, n) in
    let live : numbered 1 (take i cs) ++ (i + 1, c) ∷ [] ≡ numbered 1 (take (i + 1) cs) =
    ap (λ k. numbered 1 (take i cs) ++ (k, c) ∷ []) k ∙ (sym (numbered-push 1 (take i cs) c)
    ∙ (ap (λ d. numbered 1 (take i cs ++ d ∷ [])) at ∙ ap (numbered 1) (sym (take_more cs i [] lt)))) in
    let f : State → State = λ s. record s { last = i + 1; live = s.live ++ (i + 1, c) ∷ [] } in
    let g : List (ℕ × List ℤ) → State = λ l. record { vars = vars; last = i + 1; live = l } in
    ap f e ∙ ap g live
