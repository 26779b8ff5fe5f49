-- What is shown by several puts, one after another.
use Rattle.std.proofs.Common.{◌≡◌, ◌+◌, ◌≤◌, ℕ, List, Option, None, Some, ◌++◌, length, take, arith, ap, sym, ◌∙◌, refl}
use Rattle.std.proofs.lemmas.List.{length-append, take-append-le, append_assoc}
use Rattle.std.proofs.Math.Seq.{take-append-add}
use Rattle.hk_io.specs.Shown.{shown_with, ShowsPrefix}

-- Two pieces, one behind the other, are one longer piece.
pub shown_with-append : (before : Option (List ℕ)) (text piece : List ℕ) → shown_with (shown_with before text) piece ≡ shown_with before (text ++ piece)
shown_with-append None text piece = refl
shown_with-append (Some front) text piece = ap Some (append_assoc front text piece)

-- A prefix of a text is one of a longer text.
pub prefix_append : (before after : Option (List ℕ)) (text rest : List ℕ) → ShowsPrefix before after text → ShowsPrefix before after (text ++ rest)
prefix_append before after text rest (n, within, is) =
    (n, omega (arith, length-append text rest, within), is ∙ ap (shown_with before) (sym (take-append-le n text rest within)))

-- What shows a prefix of a piece behind a text shows a prefix of both together.
pub prefix_behind : (before between after : Option (List ℕ)) (text piece : List ℕ) → between ≡ shown_with before text → ShowsPrefix between after piece → ShowsPrefix before after (text ++ piece)
prefix_behind before between after text piece first (n, within, is) = (
  length text + n,
  omega (arith, length-append text piece, within),
  is ∙ ap (λ o. shown_with o (take n piece)) first ∙ shown_with-append before text (take n piece)
      ∙ ap (shown_with before) (sym (take-append-add text piece n)),
)

-- The same of a failed put behind a text, by how many bytes of its piece it has shown.
pub prefix_sent : (before between after : Option (List ℕ)) (text piece : List ℕ) (n : ℕ) → between ≡ shown_with before text → n ≤ length piece → after ≡ shown_with between (take n piece) → ShowsPrefix before after (text ++ piece)
prefix_sent before between after text piece n first within is =
    prefix_behind before between after text piece first (n, within, is)
