-- The arguments of a state block are read back.
use Rattle.std.proofs.Common.{◌≡◌, ℕ, ◌+◌, ◌-◌, ◌^◌, ◌<◌, ◌≤◌, true, ltb, List, [], ◌∷◌, ◌++◌, length, Ok, Err, sym, ◌∙◌, ap, subst, arith}
use Rattle.std.proofs.Math.Pow.{pow_mono}
use Rattle.std.proofs.lemmas.Bool.{cond-true, lt-ltb}
use Rattle.std.proofs.lemmas.List.{append_assoc, append-nil}
use Rattle.std.proofs.lemmas.List.Elements.{All-head, All-tail}
use Rattle.std.specs.Prelude.{codes}
use Rattle.std.specs.List.{All, enumerate_from, flat_map}
use Rattle.std.specs.Fmt.{decimal}
use Rattle.hk_cnf.specs.Text.{natural_of}
use Rattle.spec_tree.specs.Sorted.{IsWidth}
use Rattle.spec_tree.specs.Shapes.{AreNumbers}
use Rattle.hk_verdict.specs.Report.{arg_text}
use Rattle.hk_cert_lines.specs.declared.reason.CertReason.TheVariants.{Q1, Q2}
use Rattle.hk_cert_lines.specs.Words.{behind, is_decimal, narrow, number_of_width}
use Rattle.hk_cert_lines.specs.Blocks.{behind_in, arg_number, arg_at}
use Rattle.hk_cert.specs.States.{args_from}
use Rattle.hk_cert.specs.Steps.{line_at}
use Rattle.hk_cert_law.proofs.Lines.{is_inner, is_one_line, all_append, Says, says_line}
use Rattle.hk_cert_law.proofs.Words.{token_inner}
use Rattle.hk_cert_law.proofs.Numbers.{number_token, number_decimal, number_read}
use Rattle.hk_cert_law.proofs.Fronts.{behind_put, behind_next}
use Rattle.hk_cert_law.proofs.Takes.{Takes, AnyText, line_takes, then_takes, none_takes}

-- a number of a width of at most 64 bits
pub narrow_number : (w n : ℕ) → IsWidth w → n < 2 ^ w → n < 2 ^ 64
narrow_number w n wide small =
    let most : w ≤ 64 = wide.1 in
    let more : 2 ^ w ≤ 2 ^ 64 = pow_mono most in
    omega (arith, small, more)

pub width_read : (w n : ℕ) → IsWidth w → n < 2 ^ w → number_of_width w (decimal n) ≡ Ok n
width_read w n wide small =
    let fits : n < 2 ^ 64 = narrow_number w n wide small in
    cond-true (is_decimal (decimal n)) (narrow w (natural_of (2 ^ 64 - 1) (decimal n))) (Err Q1) (number_decimal n fits)
    ∙ ap (narrow w) (number_read (2 ^ 64 - 1) n (omega (arith, fits)) fits)
    ∙ cond-true (ltb n (2 ^ w)) (Ok n) (Err Q2) (lt-ltb n (2 ^ w) small)

-- a number ends a line
pub number_inner : (n : ℕ) → n < 2 ^ 64 → is_one_line (decimal n) ≡ true
number_inner n h = token_inner (decimal n) (number_token n h)

pub last_inner : (n : ℕ) → n < 2 ^ 64 → is_one_line (decimal n ++ []) ≡ true
last_inner n h = ap is_one_line (append-nil (decimal n)) ∙ number_inner n h

arg_says : (k w n : ℕ) → k < 2 ^ 64 → IsWidth w → n < 2 ^ w → Says (arg_text (k, n)) (arg_at k w) (Ok n)
arg_says k w n few wide small =
    let fits : n < 2 ^ 64 = narrow_number w n wide small in
    let last = decimal n ++ [] in
    let rest = decimal k ++ (codes " = " ++ last) in
    let inner : is_one_line (codes "  arg " ++ rest) ≡ true = all_append is_inner (decimal k) (codes " = " ++ last) (number_inner k few) (last_inner n fits) in
    says_line (codes "  arg " ∷ decimal k ∷ codes " = " ∷ decimal n ∷ []) (arg_at k w) (Ok n) inner
    (ap (arg_number w) (behind_next (codes " = ") last (behind_in (decimal k) (behind (codes "  arg ") (codes "  arg " ++ rest)))
    (behind_next (decimal k) (codes " = " ++ last) (behind (codes "  arg ") (codes "  arg " ++ rest)) (behind_put (codes "  arg ") rest)))
    ∙ ap (number_of_width w) (append-nil (decimal n))
    ∙ width_read w n wide small)

pub args_take : (widths args before : List ℕ) (k : ℕ) → AreNumbers widths args → All IsWidth widths → k + length widths < 2 ^ 64
    → Takes AnyText (flat_map arg_text (enumerate_from k args)) (args_from before k widths) (before ++ args)
args_take [] args before k numbers wide few =
    subst (λ ns. Takes AnyText (flat_map arg_text (enumerate_from k ns)) (args_from before k []) (before ++ ns)) (sym numbers)
    (none_takes AnyText (args_from before k []) (before ++ []) (λ p. ap (λ ns. Ok (ns, p)) (sym (append-nil before))))
args_take (w ∷ widths) [] before k numbers wide few = absurd numbers
args_take (w ∷ widths) (n ∷ args) before k numbers wide few =
    let next = args_take widths args (before ++ n ∷ []) (k + 1) numbers.1 (All-tail IsWidth w widths wide) (omega (arith, few)) in
    let says = arg_says k w n (omega (arith, few)) (All-head IsWidth w widths wide) numbers.0 in
    subst (λ ns. Takes AnyText (flat_map arg_text (enumerate_from k (n ∷ args))) (args_from before k (w ∷ widths)) ns) (append_assoc before (n ∷ []) args)
    (then_takes AnyText AnyText (arg_text (k, n)) (flat_map arg_text (enumerate_from (k + 1) args)) (line_at (arg_at k w)) (λ n q. args_from (before ++ n ∷ []) (k + 1) widths q) n ((before ++ n ∷ []) ++ args)
    (line_takes AnyText (arg_text (k, n)) (arg_at k w) n says) next (λ rest ahead. tt))
