-- What readers come to, by what the next line is.
use Rattle.std.proofs.Common.{◌≡◌, ◌<◌, ◌≤◌, ℕ, ◌+◌, add-one, zero-add, get_or, List, [], ◌∷◌, ◌++◌, length, drop, Some, None, Result, Ok, Err, ap, sym, ◌∙◌}
use Rattle.spec_tree.specs.Plain.{Field}
use Rattle.hk_cert_lines.specs.declared.reason.CertReason.{CertReason}
use Rattle.hk_cert_lines.specs.declared.reason.CertReason.TheVariants.{Q1}
use Rattle.hk_cert_lines.specs.Blocks.{arg_at, row_front, row_at, entry_front, entry_at}
use Rattle.hk_cert.specs.declared.fault.CertFault.{CertFault}
use Rattle.hk_cert.specs.Steps.{Place, Reading, fault, and_then, judged, first_says, line_at, Gives}
use Rattle.hk_cert.specs.States.{args_from, zeros, padded, with_row, at_row, while_front, rows_from, at_entry, entries_from}
use Rattle.std.specs.Prelude.{slice_set}
use Rattle.std.proofs.lemmas.List.{drop_all}
use Rattle.hk_cert.specs.declared.fault.CertStop.{CertStop}
use Rattle.hk_cert.specs.declared.fault.CertStop.TheVariants.{Refused, Memory}
use Rattle.std.proofs.lemmas.List.FromFn.{map-range_with_len_more}
use Rattle.std.proofs.Math.Seq.{drop-cons}

abbrev pub place : ℕ → List (List ℕ) → Place
place n lines = record { next = n; lines = lines }

-- ---- one line

pub first_ok : {A : Type 0} (says : List ℕ → Result A CertReason) (n : ℕ) (lines : List (List ℕ)) (line : List ℕ) (behind : List (List ℕ)) (x : A)
    → lines ≡ line ∷ behind → says line ≡ Ok x → first_says says n lines ≡ Ok (x, place (n + 1) behind)
first_ok says n lines line behind x is said = ap (first_says says n) is ∙ ap (judged n behind) said

pub first_err : {A : Type 0} (says : List ℕ → Result A CertReason) (n : ℕ) (lines : List (List ℕ)) (line : List ℕ) (behind : List (List ℕ)) (reason : CertReason)
    → lines ≡ line ∷ behind → says line ≡ Err reason → first_says says n lines ≡ Err (fault n reason)
first_err says n lines line behind reason is said = ap (first_says says n) is ∙ ap (judged n behind) said

pub first_end : {A : Type 0} (says : List ℕ → Result A CertReason) (n : ℕ) (lines : List (List ℕ)) → lines ≡ [] → first_says says n lines ≡ Err (fault n Q1)
first_end says n lines is = ap (first_says says n) is

pub then_ok : {A B : Type 0} (r : Reading A) (next : A → Place → Reading B) (x : A) (q : Place) → r ≡ Ok (x, q) → and_then r next ≡ next x q
then_ok r next x q is = ap (λ s. and_then s next) is

pub then_err : {A B : Type 0} (r : Reading A) (next : A → Place → Reading B) (f : CertFault) → r ≡ Err f → and_then r next ≡ Err f
then_err r next f is = ap (λ s. and_then s next) is

-- ---- arguments

pub args_more : (args : List ℕ) (k w : ℕ) (left widths : List ℕ) (p : Place) (n : ℕ) (q : Place) → left ≡ w ∷ widths → line_at (arg_at k w) p ≡ Ok (n, q)
    → args_from args k left p ≡ args_from (args ++ n ∷ []) (k + 1) widths q
args_more args k w left widths p n q is said =
    ap (λ l. args_from args k l p) is ∙ ap (λ r. and_then r (λ n q. args_from (args ++ n ∷ []) (k + 1) widths q)) said

pub args_err : (args : List ℕ) (k w : ℕ) (left widths : List ℕ) (p : Place) (f : CertFault) → left ≡ w ∷ widths → line_at (arg_at k w) p ≡ Err f
    → args_from args k left p ≡ Err f
args_err args k w left widths p f is said =
    ap (λ l. args_from args k l p) is ∙ ap (λ r. and_then r (λ n q. args_from (args ++ n ∷ []) (k + 1) widths q)) said

pub args_end : (args : List ℕ) (k : ℕ) (left : List ℕ) (p : Place) → left ≡ [] → args_from args k left p ≡ Ok (args, p)
args_end args k left p is = ap (λ l. args_from args k l p) is

-- ---- rows

module _ (shown : List ℕ) (size : ℕ) (bytes : List ℕ) (n : ℕ) (lines : List (List ℕ)) where
  pub rows_none : lines ≡ [] → rows_from shown size bytes n lines ≡ Ok (padded size bytes, place n lines)
  rows_none is = ap (rows_from shown size bytes n) is ∙ ap (λ l. Ok (padded size bytes, place n l)) (sym is)

  module _ (line : List ℕ) (behind : List (List ℕ)) (is : lines ≡ line ∷ behind) where
    pub rows_other : row_front shown line ≡ None → rows_from shown size bytes n lines ≡ Ok (padded size bytes, place n lines)
    rows_other front =
        ap (rows_from shown size bytes n) is
        ∙ ap (λ o. while_front o (Ok (padded size bytes, place n (line ∷ behind))) (λ rest. at_row n (row_at (length bytes) size rest) (λ row. rows_from shown size (with_row bytes row) (n + 1) behind))) front
        ∙ ap (λ l. Ok (padded size bytes, place n l)) (sym is)

    pub rows_more : (rest : List ℕ) (row : ℕ × List ℕ) → row_front shown line ≡ Some rest → row_at (length bytes) size rest ≡ Ok row
        → rows_from shown size bytes n lines ≡ rows_from shown size (with_row bytes row) (n + 1) behind
    rows_more rest row front said =
        ap (rows_from shown size bytes n) is
        ∙ ap (λ o. while_front o (Ok (padded size bytes, place n (line ∷ behind))) (λ rest. at_row n (row_at (length bytes) size rest) (λ row. rows_from shown size (with_row bytes row) (n + 1) behind))) front
        ∙ ap (λ r. at_row n r (λ row. rows_from shown size (with_row bytes row) (n + 1) behind)) said

    pub rows_err : (rest : List ℕ) (reason : CertReason) → row_front shown line ≡ Some rest → row_at (length bytes) size rest ≡ Err reason
        → rows_from shown size bytes n lines ≡ Err (fault n reason)
    rows_err rest reason front said =
        ap (rows_from shown size bytes n) is
        ∙ ap (λ o. while_front o (Ok (padded size bytes, place n (line ∷ behind))) (λ rest. at_row n (row_at (length bytes) size rest) (λ row. rows_from shown size (with_row bytes row) (n + 1) behind))) front
        ∙ ap (λ r. at_row n r (λ row. rows_from shown size (with_row bytes row) (n + 1) behind)) said

-- ---- entries

module _ (f : Field) (entries : List ℕ) (low n : ℕ) (lines : List (List ℕ)) where
  pub entries_none : lines ≡ [] → entries_from f entries low n lines ≡ Ok (entries, place n lines)
  entries_none is = ap (entries_from f entries low n) is ∙ ap (λ l. Ok (entries, place n l)) (sym is)

  module _ (line : List ℕ) (behind : List (List ℕ)) (is : lines ≡ line ∷ behind) where
    pub entries_other : entry_front f.name f.keys line ≡ None → entries_from f entries low n lines ≡ Ok (entries, place n lines)
    entries_other front =
        ap (entries_from f entries low n) is
        ∙ ap (λ o. while_front o (Ok (entries, place n (line ∷ behind))) (λ rest. at_entry n (entry_at low f.keys f.width rest) (λ e. entries_from f (slice_set entries e.0 e.1) (e.0 + 1) (n + 1) behind))) front
        ∙ ap (λ l. Ok (entries, place n l)) (sym is)

    pub entries_more : (rest : List ℕ) (e : ℕ × ℕ) → entry_front f.name f.keys line ≡ Some rest → entry_at low f.keys f.width rest ≡ Ok e
        → entries_from f entries low n lines ≡ entries_from f (slice_set entries e.0 e.1) (e.0 + 1) (n + 1) behind
    entries_more rest e front said =
        ap (entries_from f entries low n) is
        ∙ ap (λ o. while_front o (Ok (entries, place n (line ∷ behind))) (λ rest. at_entry n (entry_at low f.keys f.width rest) (λ e. entries_from f (slice_set entries e.0 e.1) (e.0 + 1) (n + 1) behind))) front
        ∙ ap (λ r. at_entry n r (λ e. entries_from f (slice_set entries e.0 e.1) (e.0 + 1) (n + 1) behind)) said

    pub entries_err : (rest : List ℕ) (reason : CertReason) → entry_front f.name f.keys line ≡ Some rest → entry_at low f.keys f.width rest ≡ Err reason
        → entries_from f entries low n lines ≡ Err (fault n reason)
    entries_err rest reason front said =
        ap (entries_from f entries low n) is
        ∙ ap (λ o. while_front o (Ok (entries, place n (line ∷ behind))) (λ rest. at_entry n (entry_at low f.keys f.width rest) (λ e. entries_from f (slice_set entries e.0 e.1) (e.0 + 1) (n + 1) behind))) front
        ∙ ap (λ r. at_entry n r (λ e. entries_from f (slice_set entries e.0 e.1) (e.0 + 1) (n + 1) behind)) said

-- ---- zeros

pub zeros_more : (k : ℕ) → zeros (k + 1) ≡ zeros k ++ 0 ∷ []
zeros_more k = map-range_with_len_more (λ n. 0) 0 k k (zero-add k)

-- ---- lists of widths

pub drop_next : (ws : List ℕ) (k : ℕ) → k < length ws → drop k ws ≡ get_or ws k 0 ∷ drop (k + 1) ws
drop_next ws k within = drop-cons ws k 0 within ∙ ap (λ n. get_or ws k 0 ∷ drop n ws) (sym (add-one k))

pub drop_end : (ws : List ℕ) (k : ℕ) → length ws ≤ k → drop k ws ≡ []
drop_end ws k past = drop_all k ws past

-- ---- exits

-- where a reader fails as a part of it does, the code's stop at the part is one of the whole
pub gives_err : {A B C D : Type 0} (view : A → B) (other : C → D) (why : CertStop) (part : Reading B) (all : Reading D)
    → ((f : CertFault) → part ≡ Err f → all ≡ Err f) → Gives view (Err why) part → Gives other (Err why) all
gives_err view other (Refused f) part all go is = go f is
gives_err view other Memory part all go is = tt
