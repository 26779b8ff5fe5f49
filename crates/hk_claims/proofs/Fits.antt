-- The entries that are read fit the handlers, and the lines of their proofs lie within the text.
use Rattle.std.proofs.Common.{◌≡◌, ◌<◌, ◌≤◌, ℕ, zero, suc, ◌+◌, ◌^◌, Bool, true, false, if◌then◌else◌, List, [], ◌∷◌, ◌++◌, length, map, Some, Ok, Err, refl, sym, ap, ◌∙◌, subst, append_assoc, append-nil, arith}
use Rattle.std.specs.Prelude.{All, slice_get, codes, ◌==◌}
use Rattle.std.specs.List.{AllZip}
use Rattle.ir_ast.specs.Program.{ModuleView}
use Rattle.ir_layout.specs.declared.object.Object.{Object}
use Rattle.ir_layout.specs.Layouts.{LayoutView, IsLayoutOf}
use Rattle.spec_tree.specs.Plain.{Transition, Spec}
use Rattle.hk_cnf.specs.Text.{with_first, lines_of}
use Rattle.hk_proof.specs.declared.Proof.{Proof}
use Rattle.hk_case.specs.declared.Obligation.{Obligation}
use Rattle.hk_case.specs.declared.Obligation.TheVariants.{Undefined, Invariant, State, ResultValue, Property}
use Rattle.hk_case.specs.declared.Case.{Case}
use Rattle.hk_case.specs.declared.Case.TheVariants.{Machine, Abstract}
use Rattle.spec_tree.specs.Shapes.{AreNumbers}
use Rattle.hk_case.specs.Obligations.{obligations_of, IsMachineState, IsCase}
use Rattle.hk_check.specs.Told.{AreFew}
use Rattle.hk_cert_text.specs.declared.entry.Entry.{Entry}
use Rattle.hk_cert_text.specs.declared.entry.Entry.TheVariants as entry
use Rattle.hk_cert_lines.specs.declared.handlers.Claim.{Claim}
use Rattle.hk_cert_lines.specs.declared.handlers.Claim.TheVariants as claim
use Rattle.hk_cert_lines.specs.Handlers.{claim_at}
use Rattle.hk_cert.specs.Steps.{Place, Reading, and_then, line_at}
use Rattle.hk_cert.specs.States.{args_from, memory_from, state_from, machine_at, abstract_at, case_at}
use Rattle.hk_cert.specs.Reading.{proofs_from, entry_by, entry_at, entries_from, is_line, ended, whole, with_end, text_at, certificate_of}
use Rattle.hk_claims.specs.Fitting.{lines_of_proofs, Fits, AllFit}
use Rattle.hk_claims.proofs.Followed.{place, ok_is, followed, total, line_was}
use Rattle.hk_claims.proofs.Proving.{proofs_were}
use Rattle.hk_claims.proofs.Claims.{Among, rejected}
use Rattle.hk_claims.proofs.Arguments.{args_were, state_was}
use Rattle.hk_claims.proofs.Memories.{Bytes, AreThose, memory_was, memory_kept}

-- ---- lines

first_few : (b : ℕ) (pieces : List (List ℕ)) → length (with_first b pieces) ≤ suc (length pieces)
first_few b [] = omega arith
first_few b (piece ∷ pieces) = omega arith

-- each line takes a byte, that of its newline or another
pub lines_few : (text : List ℕ) → length (lines_of text) ≤ length text
lines_few [] = omega arith
lines_few (b ∷ text) = inner (b == 10) (lines_few text)
  where
    inner : (ends : Bool) → length (lines_of text) ≤ length text → length (if ends then [] ∷ lines_of text else with_first b (lines_of text)) ≤ suc (length text)
    inner true few = omega (arith, few)
    inner false few = omega (arith, first_few b (lines_of text), few)

-- the lines of an acceptance end in front of this one
abbrev pub IsIn : ℕ → Entry → Type 0
IsIn bound (entry.Accept at proofs) = at + lines_of_proofs proofs + 1 ≤ bound
IsIn bound (entry.Reject o case) = Unit {0}
IsIn bound (entry.Unknown o) = Unit {0}
IsIn bound entry.Memory = Unit {0}

abbrev pub AreIn : ℕ → List Entry → Type 0
AreIn bound [] = Unit {0}
AreIn bound (e ∷ es) = IsIn bound e × AreIn bound es

in_at : (bound : ℕ) (es : List Entry) (k at : ℕ) (proofs : List Proof) → AreIn bound es → slice_get es k ≡ Some (entry.Accept at proofs) → at + lines_of_proofs proofs + 1 ≤ bound
in_at bound [] k at proofs are found = cc
in_at bound (e ∷ es) zero at proofs are found =
    let is : e ≡ entry.Accept at proofs = cc in
    subst (λ (x : Entry). IsIn bound x) is are.0
in_at bound (e ∷ es) (suc k) at proofs are found = in_at bound es k at proofs are.1 found

module _ (m : ModuleView) (objects : List Object) (s : Spec) where
  -- ---- cases

  record Cased (t : Transition) (o : Obligation) (p : Place) (y : Case × Place) : Type 0 where
    shape : AreThose m.globals objects → IsCase objects s t o y.0
    kept : total y.1 ≡ total p

  record Machines (widths : List ℕ) (p : Place) (y : Case × Place) : Type 0 where
    memory : List (List ℕ)
    args : List ℕ
    are : y.0 ≡ Machine memory args
    state : AreThose m.globals objects → IsMachineState objects memory
    numbers : AreNumbers widths args
    kept : total y.1 ≡ total p

  state_of : (q : Place) (z : List (List ℕ) × Place) → memory_from [] m.globals (map (λ x. x.bytes) objects) q ≡ Ok z → AreThose m.globals objects → IsMachineState objects z.0
  state_of q z h those =
      let b = memory_was [] m.globals objects q z those h in
      subst (λ (x : List (List ℕ)). IsMachineState objects x) (sym b.are) (record { sizes = b.sizes; constants = b.constants })

  machine_was : (widths : List ℕ) (p : Place) (y : Case × Place) → machine_at m (map (λ x. x.bytes) objects) widths p ≡ Ok y → Machines widths p y
  machine_was widths p y h =
      let f = followed (args_from [] 0 widths p) (λ args q. and_then (memory_from [] m.globals (map (λ x. x.bytes) objects) q) (λ memory r. Ok (Machine memory args, r))) y h in
      let a = args_were [] 0 widths p f.before f.first in
      let g = followed (memory_from [] m.globals (map (λ x. x.bytes) objects) f.before.1) (λ memory r. Ok (Machine memory f.before.0, r)) y f.after in
      let left : total g.before.1 ≡ total f.before.1 = memory_kept [] m.globals (map (λ x. x.bytes) objects) f.before.1 g.before g.first in
      let e : (Machine g.before.0 f.before.0, g.before.1) ≡ y = ok_is (Machine g.before.0 f.before.0, g.before.1) y g.after in
      record {
        memory = g.before.0;
        args = a.news;
        are = sym (ap (λ (z : Case × Place). z.0) e) ∙ ap (λ x. Machine g.before.0 x) a.are;
        state = state_of f.before.1 g.before g.first;
        numbers = a.fit;
        kept = sym (ap (λ (z : Case × Place). total z.1) e) ∙ (left ∙ a.kept);
      }

  abstract_was : (t : Transition) (k : ℕ) (p : Place) (y : Case × Place) → abstract_at s t.widths p ≡ Ok y → Cased t (Property k) p y
  abstract_was t k p y h =
      let f = followed (args_from [] 0 t.widths p) (λ args q. and_then (state_from [] s.fields q) (λ state r. Ok (Abstract state args, r))) y h in
      let a = args_were [] 0 t.widths p f.before f.first in
      let g = followed (state_from [] s.fields f.before.1) (λ state r. Ok (Abstract state f.before.0, r)) y f.after in
      let b = state_was [] s.fields f.before.1 g.before g.first in
      let e : (Abstract g.before.0 f.before.0, g.before.1) ≡ y = ok_is (Abstract g.before.0 f.before.0, g.before.1) y g.after in
      let is : Abstract b.news a.news ≡ y.0 = sym (ap (λ x. Abstract x f.before.0) b.are ∙ ap (λ x. Abstract b.news x) a.are) ∙ ap (λ (z : Case × Place). z.0) e in
      record {
        shape = λ _. subst (λ (c : Case). IsCase objects s t (Property k) c) is (b.fit, a.fit);
        kept = sym (ap (λ (z : Case × Place). total z.1) e) ∙ (b.kept ∙ a.kept);
      }

  case_was : (t : Transition) (o : Obligation) (p : Place) (y : Case × Place) → case_at m (map (λ x. x.bytes) objects) s t o p ≡ Ok y → Cased t o p y
  case_was t (Property k) p y h = abstract_was t k p y h
  case_was t Undefined p y h =
      let w = machine_was t.widths p y h in
      record { shape = λ those. subst (λ (c : Case). IsCase objects s t Undefined c) (sym w.are) (w.state those, w.numbers); kept = w.kept }
  case_was t (Invariant i) p y h =
      let w = machine_was t.widths p y h in
      record { shape = λ those. subst (λ (c : Case). IsCase objects s t (Invariant i) c) (sym w.are) (w.state those, w.numbers); kept = w.kept }
  case_was t (State f) p y h =
      let w = machine_was t.widths p y h in
      record { shape = λ those. subst (λ (c : Case). IsCase objects s t (State f) c) (sym w.are) (w.state those, w.numbers); kept = w.kept }
  case_was t ResultValue p y h =
      let w = machine_was t.widths p y h in
      record { shape = λ those. subst (λ (c : Case). IsCase objects s t ResultValue c) (sym w.are) (w.state those, w.numbers); kept = w.kept }

  -- ---- entries

  record Entered (t : Transition) (bound : ℕ) (y : Entry × Place) : Type 0 where
    fits : AreThose m.globals objects → Fits objects s t y.0
    within : IsIn bound y.0
    kept : total y.1 ≡ bound

  entry_by_was : (t : Transition) (n bound : ℕ) (said : Claim) (p : Place) (y : Entry × Place) → ((o : Obligation) → said ≡ claim.Reject o → Among (obligations_of s t) o) → p.next ≡ n + 1 → total p ≡ bound
      → entry_by m objects s t n said p ≡ Ok y → Entered t bound y
  entry_by_was t n bound claim.Accept p y among next all h =
      let f = followed (proofs_from objects s t [] (obligations_of s t) p) (λ proofs q. Ok (entry.Accept n proofs, q)) y h in
      let w = proofs_were objects s t [] (obligations_of s t) p f.before f.first in
      let a : f.before.1.next ≡ p.next + lines_of_proofs f.before.0 = w.next ∙ ap (λ (ps : List Proof). p.next + lines_of_proofs ps) (sym w.are) in
      let kept : f.before.1.next + length f.before.1.lines ≡ bound = w.kept ∙ all in
      subst (λ (z : Entry × Place). Entered t bound z) (ok_is (entry.Accept n f.before.0, f.before.1) y f.after) (record {
        fits = λ _. subst (λ (ps : List Proof). (length ps ≡ length (obligations_of s t)) × AreFew objects s t ps) (sym w.are) (w.many, w.small);
        within = omega (arith, a, kept, next);
        kept = kept;
      })
  entry_by_was t n bound (claim.Reject o) p y among next all h =
      let f = followed (case_at m (map (λ x. x.bytes) objects) s t o p) (λ case q. Ok (entry.Reject o case, q)) y h in
      let w = case_was t o p f.before f.first in
      subst (λ (z : Entry × Place). Entered t bound z) (ok_is (entry.Reject o f.before.0, f.before.1) y f.after)
      (record { fits = λ those. (among o refl, w.shape those); within = tt; kept = w.kept ∙ all })
  entry_by_was t n bound (claim.Unknown o) p y among next all h =
      subst (λ (z : Entry × Place). Entered t bound z) (ok_is (entry.Unknown o, p) y h) (record { fits = λ _. tt; within = tt; kept = all })
  entry_by_was t n bound claim.Memory p y among next all h =
      subst (λ (z : Entry × Place). Entered t bound z) (ok_is (entry.Memory, p) y h) (record { fits = λ _. tt; within = tt; kept = all })

  entry_was : (t : Transition) (bound : ℕ) (p : Place) (y : Entry × Place) → total p ≡ bound → entry_at m objects s t p ≡ Ok y → Entered t bound y
  entry_was t bound p y all h =
      let f = followed (line_at (claim_at s t (obligations_of s t)) p) (λ said q. entry_by m objects s t p.next said q) y h in
      let l = line_was (claim_at s t (obligations_of s t)) p f.before f.first in
      entry_by_was t p.next bound f.before.0 f.before.1 y
      (λ o is. rejected s t (obligations_of s t) l.line o (l.said ∙ ap (λ (c : Claim). Ok c) is)) l.next (l.kept ∙ all) f.after

  record Entries (es : List Entry) (ts : List Transition) (bound : ℕ) (y : List Entry × Place) : Type 0 where
    news : List Entry
    are : y.0 ≡ es ++ news
    fit : AreThose m.globals objects → AllZip (Fits objects s) ts news
    within : AreIn bound news
    kept : total y.1 ≡ bound

  entries_were : (es : List Entry) (ts : List Transition) (bound : ℕ) (p : Place) (y : List Entry × Place) → total p ≡ bound → entries_from m objects s es ts p ≡ Ok y → Entries es ts bound y
  entries_were es [] bound p y all h =
      subst (λ (z : List Entry × Place). Entries es [] bound z) (ok_is (es, p) y h) (record { news = []; are = sym (append-nil es); fit = λ _. tt; within = tt; kept = all })
  entries_were es (t ∷ ts) bound p y all h =
      let f = followed (entry_at m objects s t p) (λ e q. entries_from m objects s (es ++ e ∷ []) ts q) y h in
      let one = entry_was t bound p f.before all f.first in
      let rest = entries_were (es ++ f.before.0 ∷ []) ts bound f.before.1 y one.kept f.after in
      record {
        news = f.before.0 ∷ rest.news;
        are = rest.are ∙ append_assoc es (f.before.0 ∷ []) rest.news;
        fit = λ those. (one.fits those, rest.fit those);
        within = (one.within, rest.within);
        kept = rest.kept;
      }

  -- ---- the whole

  record Kept (bound : ℕ) (entries : List Entry) : Type 0 where
    fit : AreThose m.globals objects → AllFit objects s entries
    within : AreIn bound entries

  ended_was : (es : List Entry) (n : ℕ) (lines : List (List ℕ)) (entries : List Entry) → ended es n lines ≡ Ok entries → es ≡ entries
  ended_was es n [] entries h = cc
  ended_was es n (line ∷ behind) entries h = cc

  whole_was : (r : Reading (List Entry)) (entries : List Entry) → whole r ≡ Ok entries → (q : Place) × (r ≡ Ok (entries, q))
  whole_was (Ok p) entries h = (p.1, ap (λ (es : List Entry). Ok (es, p.1)) (ended_was p.0 p.1.next p.1.lines entries h))
  whole_was (Err f) entries h = cc

  certificate_was : (text : List ℕ) (entries : List Entry) → certificate_of m objects s text ≡ Ok entries → Kept (1 + length (lines_of text)) entries
  certificate_was text entries h =
      let start = place 1 (lines_of text) in
      let w = whole_was (text_at m objects s start) entries h in
      let f = followed (line_at (is_line (codes "hkv certificate 1")) start) (λ _ q. and_then (entries_from m objects s [] s.transitions q) (λ es r. with_end es r)) (entries, w.0) w.1 in
      let l = line_was (is_line (codes "hkv certificate 1")) start f.before f.first in
      let g = followed (entries_from m objects s [] s.transitions f.before.1) (λ es r. with_end es r) (entries, w.0) f.after in
      let e = entries_were [] s.transitions (1 + length (lines_of text)) f.before.1 g.before l.kept g.first in
      let last = followed (line_at (is_line (codes "end")) g.before.1) (λ _ q. Ok (g.before.0, q)) (entries, w.0) g.after in
      let end : (g.before.0, last.before.1) ≡ (entries, w.0) = ok_is (g.before.0, last.before.1) (entries, w.0) last.after in
      let is : e.news ≡ entries = sym e.are ∙ ap (λ (z : List Entry × Place). z.0) end in
      subst (λ (es : List Entry). Kept (1 + length (lines_of text)) es) is (record { fit = e.fit; within = e.within })

-- ---- over a layout

those_of : (m : ModuleView) (l : LayoutView) → IsLayoutOf m l → All Bytes (map (λ o. o.bytes) l.objects) → AreThose m.globals l.objects
those_of m l laid below = record { constants = laid.constants; sizes = laid.shapes; bytes = below }

pub read_fits : (m : ModuleView) (l : LayoutView) (s : Spec) (text : List ℕ) (entries : List Entry) → IsLayoutOf m l → All Bytes (map (λ o. o.bytes) l.objects) → certificate_of m l.objects s text ≡ Ok entries
    → AllFit l.objects s entries
read_fits m l s text entries laid below read = (certificate_was m l.objects s text entries read).fit (those_of m l laid below)

module _ (m : ModuleView) (objects : List Object) (s : Spec) (text : List ℕ) (entries : List Entry) (read : certificate_of m objects s text ≡ Ok entries) where
  pub read_within : (k at : ℕ) (proofs : List Proof) → slice_get entries k ≡ Some (entry.Accept at proofs) → at + lines_of_proofs proofs ≤ length (lines_of text)
  read_within k at proofs found =
      let h = in_at (1 + length (lines_of text)) entries k at proofs (certificate_was m objects s text entries read).within found in
      omega (arith, h)

  pub read_small : length text < 2 ^ 31 → (k at : ℕ) (proofs : List Proof) → slice_get entries k ≡ Some (entry.Accept at proofs) → at + lines_of_proofs proofs + 1 < 2 ^ 32
  read_small short k at proofs found = omega (arith, short, read_within k at proofs found, lines_few text)
