-- Phis as terms, step by step.
use Rattle.std.proofs.Common.{◌≡◌, ◌⊎◌, inl, inr, ◌<◌, ◌+◌, ℕ, suc, Bool, true, false, Option, Some, None, List, [], ◌∷◌, ◌++◌, length, take, drop, slice_index_or, slice_set, refl, sym, ap, ◌∙◌, subst, arith}
use Rattle.std.specs.Option.{unwrap_or}
use Rattle.std.proofs.lemmas.Option.{none-some}
use Rattle.std.proofs.Math.Seq.{take-suc, drop-cons}
use Rattle.std.proofs.lemmas.Bool.{false≢true}
use Rattle.std.proofs.lemmas.List.Elements.{All-push, All-head, All-tail}
use Rattle.hk_term.specs.Meaning.{Reading}
use Rattle.hk_term.specs.declared.node.Node.{Node}
use Rattle.ir_value.specs.declared.value.Value.{Value}
use Rattle.ir_code.specs.declared.act.Step.{Step}
use Rattle.ir_machine.specs.declared.state.Head.{Head}
use Rattle.ir_machine.specs.declared.state.Head.TheVariants as head
use Rattle.ir_machine.specs.declared.state.Held.TheVariants as held
use Rattle.ir_machine.specs.Values.{Registers}
use Rattle.ir_machine.specs.Step.{phi_of, head_of, staged_on, staged, set_all}
use Rattle.hk_symvalue.specs.declared.value.SymValue.{SymValue}
use Rattle.hk_symvalue.specs.Growth.{Extends}
use Rattle.hk_symvalue.specs.Meaning.{IsSym, meaning}
use Rattle.hk_symstep.specs.Held.{value_meaning}
use Rattle.hk_symexec.specs.declared.phis.Phi.{Phi}
use Rattle.hk_symexec.specs.declared.phis.SymHead.{SymHead}
use Rattle.hk_symexec.specs.declared.phis.SymHead.TheVariants.{Ends, Lost, Reads}
use Rattle.hk_symexec.specs.Phis.{phis_meaning, ArePhis, AnswersHead}
use Rattle.hk_symexec.proofs.Kept.{true_kept, sym_kept, meaning_kept, registers_kept, memory_kept}
use Rattle.hk_symvalue.specs.Meaning.{IsTruth, is_true}
use Rattle.hk_symvalue.proofs.Frames.{followed}
use Rattle.hk_symmem.specs.Guarded.{MemoryView, IsOver, memory_at}
use Rattle.hk_symstep.specs.Files.{File, IsFile, IsWithin, Covers}

some_is : {X : Type 0} (x y : X) → Some x ≡ Some y → x ≡ y
some_is x y e = ap (λ o. unwrap_or o x) e

pub phi_reads : (nodes : List Node) (v : Reading) (k : ℕ) (s : SymValue) (o : Option Value) → ((x : Value) → o ≡ Some x → Some (meaning nodes s v) ≡ Some x)
    → AnswersHead nodes v (Reads (record { register = k; value = s })) (phi_of (Some k) o)
phi_reads nodes v k s None h = tt
phi_reads nodes v k s (Some x) h = (refl, some_is (meaning nodes s v) x (h x refl))

pub phi_lost : (nodes : List Node) (v : Reading) (k : Option ℕ) (s : Option SymValue) (o : Option Value) → ((k ≡ None) ⊎ (s ≡ None)) → ((x : Value) → o ≡ Some x → value_meaning nodes v s ≡ Some x)
    → AnswersHead nodes v Lost (phi_of k o)
phi_lost nodes v None s None e h = tt
phi_lost nodes v None s (Some x) e h = tt
phi_lost nodes v (Some k) s None e h = tt
phi_lost nodes v (Some k) None (Some x) e h = absurd (none-some x (h x refl))
phi_lost nodes v (Some k) (Some s) (Some x) (inl e) h = absurd (none-some k (sym e))
phi_lost nodes v (Some k) (Some s) (Some x) (inr e) h = absurd (none-some s (sym e))

abbrev is_ends : SymHead → Bool
is_ends Ends = true
is_ends _ = false

-- the head of a block, as terms read it, on the way through the phis
module _ (nodes : List Node) (v : Reading) (memory : List (List ℕ)) (rs : Registers) (from : ℕ) (s : Step) (ss : List Step) (found ps : List (ℕ × Value)) where
  pub on_ends : AnswersHead nodes v Ends (head_of memory rs from s.result s.act) → staged memory rs from (s ∷ ss) found ≡ Some ps → Some found ≡ Some ps
  on_ends a q = by (head_of memory rs from s.result s.act) a q
    where
      by : (h : Head) → AnswersHead nodes v Ends h → staged_on h found (staged memory rs from ss) ≡ Some ps → Some found ≡ Some ps
      by head.Ends a q = q
      by head.Lost a q = absurd (none-some ps q)
      by (head.Reads k x) a q = absurd a

  pub on_lost : AnswersHead nodes v Lost (head_of memory rs from s.result s.act) → staged memory rs from (s ∷ ss) found ≡ Some ps → ⊥
  on_lost a q = by (head_of memory rs from s.result s.act) a q
    where
      by : (h : Head) → AnswersHead nodes v Lost h → staged_on h found (staged memory rs from ss) ≡ Some ps → ⊥
      by head.Ends a q = false≢true (ap is_ends a)
      by head.Lost a q = none-some ps q
      by (head.Reads k x) a q = a

  pub on_reads : (phi : Phi) → AnswersHead nodes v (Reads phi) (head_of memory rs from s.result s.act) → staged memory rs from (s ∷ ss) found ≡ Some ps
      → staged memory rs from ss (found ++ (phi.register, meaning nodes phi.value v) ∷ []) ≡ Some ps
  on_reads phi a q = by (head_of memory rs from s.result s.act) a q
    where
      by : (h : Head) → AnswersHead nodes v (Reads phi) h → staged_on h found (staged memory rs from ss) ≡ Some ps
          → staged memory rs from ss (found ++ (phi.register, meaning nodes phi.value v) ∷ []) ≡ Some ps
      by head.Ends a q = absurd (false≢true (ap is_ends a))
      by head.Lost a q = absurd (none-some ps q)
      by (head.Reads k x) (same, value) q = (λ i. staged memory rs from ss (found ++ (same i, value i) ∷ [])) ∙ q

-- ---- as the list of terms grows

module _ (old new : List Node) (grown : Extends old new) where
  pub phis_kept : (phis : List Phi) → ArePhis old phis → ArePhis new phis
  phis_kept phis a k d l = sym_kept old new grown (slice_index_or phis k d).value (a k d l)

  pub phis_same : (phis : List Phi) → ArePhis old phis → (v : Reading) → phis_meaning new v phis ≡ phis_meaning old v phis
  phis_same [] a v = refl
  phis_same (p ∷ phis) a v = λ i. (p.register, meaning_kept old new grown p.value (All-head (λ (q : Phi). IsSym old q.value) p phis a) v i) ∷ phis_same phis (All-tail (λ (q : Phi). IsSym old q.value) p phis a) v i

pub phis_more : (nodes : List Node) (v : Reading) (phis : List Phi) (p : Phi) → phis_meaning nodes v (phis ++ p ∷ []) ≡ phis_meaning nodes v phis ++ (p.register, meaning nodes p.value v) ∷ []
phis_more nodes v [] p = refl
phis_more nodes v (x ∷ xs) p = ap (λ l. (x.register, meaning nodes x.value v) ∷ l) (phis_more nodes v xs p)

-- one register more
pub set_more : (ps : List (ℕ × Value)) (p : ℕ × Value) (rs : Registers) → set_all (ps ++ p ∷ []) rs ≡ slice_set (set_all ps rs) p.0 (Some (held.Value p.1))
set_more [] p rs = refl
set_more (q ∷ ps) p rs = set_more ps p (slice_set rs q.0 (Some (held.Value q.1)))

-- ---- phis that are read one after the other

pub covers_kept : (old new : List Node) → Extends old new → (file : File) → IsFile old file → (v : Reading) (rs : Registers) → Covers old v file rs → Covers new v file rs
covers_kept old new grown file i v rs w = subst (IsWithin rs) (sym (registers_kept old new grown file i v)) w

pub record Staging (first now : List Node) (file : File) (m : MemoryView) (from : ℕ) (steps rest : List Step) (found : List Phi) : Type 0 where
  pub frame : Extends first now
  pub phis : ArePhis now found
  pub goes : (v : Reading) (rs : Registers) (ps : List (ℕ × Value)) → Covers first v file rs → staged (memory_at first m v) rs from steps [] ≡ Some ps
      → staged (memory_at first m v) rs from rest (phis_meaning now v found) ≡ Some ps

module _ (first now new : List Node) (file : File) (m : MemoryView) (from : ℕ) (steps rest : List Step) (s : Step) (found : List Phi)
    (so_far : Staging first now file m from steps (s ∷ rest) found) (in_first : IsFile first file) (over : IsOver first m) (grown : Extends now new) where
  answer : (h : SymHead) → ((v : Reading) (rs : Registers) → Covers now v file rs → AnswersHead new v h (head_of (memory_at now m v) rs from s.result s.act))
      → (v : Reading) (rs : Registers) → Covers first v file rs → AnswersHead new v h (head_of (memory_at first m v) rs from s.result s.act)
  answer h answers v rs w =
      subst (λ k. AnswersHead new v h (head_of k rs from s.result s.act)) (memory_kept first now so_far.frame m over v)
      (answers v rs (covers_kept first now so_far.frame file in_first v rs w))

  behind : (v : Reading) (rs : Registers) (ps : List (ℕ × Value)) → Covers first v file rs → staged (memory_at first m v) rs from steps [] ≡ Some ps
      → staged (memory_at first m v) rs from (s ∷ rest) (phis_meaning new v found) ≡ Some ps
  behind v rs ps w q = ap (staged (memory_at first m v) rs from (s ∷ rest)) (phis_same now new grown found so_far.phis v) ∙ so_far.goes v rs ps w q

  pub staging_on : (phi : Phi) → IsSym new phi.value
      → ((v : Reading) (rs : Registers) → Covers now v file rs → AnswersHead new v (Reads phi) (head_of (memory_at now m v) rs from s.result s.act))
      → Staging first new file m from steps rest (found ++ phi ∷ [])
  staging_on phi i answers = record {
    frame = followed first now new so_far.frame grown;
    phis = All-push (λ (q : Phi). IsSym new q.value) found phi (phis_kept now new grown found so_far.phis) i;
    goes = λ v rs ps w q.
        ap (staged (memory_at first m v) rs from rest) (phis_more new v found phi)
        ∙ on_reads new v (memory_at first m v) rs from s rest (phis_meaning new v found) ps phi (answer (Reads phi) answers v rs w) (behind v rs ps w q);
  }

  pub staging_ends : ((v : Reading) (rs : Registers) → Covers now v file rs → AnswersHead new v Ends (head_of (memory_at now m v) rs from s.result s.act))
      → (v : Reading) (rs : Registers) (ps : List (ℕ × Value)) → Covers first v file rs → staged (memory_at first m v) rs from steps [] ≡ Some ps → Some (phis_meaning new v found) ≡ Some ps
  staging_ends answers v rs ps w q = on_ends new v (memory_at first m v) rs from s rest (phis_meaning new v found) ps (answer Ends answers v rs w) (behind v rs ps w q)

  pub staging_lost : ((v : Reading) (rs : Registers) → Covers now v file rs → AnswersHead new v Lost (head_of (memory_at now m v) rs from s.result s.act))
      → (v : Reading) (rs : Registers) (ps : List (ℕ × Value)) → Covers first v file rs → staged (memory_at first m v) rs from steps [] ≡ Some ps → ⊥
  staging_lost answers v rs ps w q = on_lost new v (memory_at first m v) rs from s rest (phis_meaning new v found) ps (answer Lost answers v rs w) (behind v rs ps w q)

-- ---- registers of phis that are set one after the other

pub record Setting (first now : List Node) (condition : ℕ) (before file : File) (phis : List Phi) : Type 0 where
  pub frame : Extends first now
  pub within : IsFile now file
  pub here : (v : Reading) (rs : Registers) → is_true first condition v ≡ true → Covers first v before rs → Covers now v file (set_all (phis_meaning first v phis) rs)
  pub away : (v : Reading) (rs : Registers) → is_true first condition v ≡ false → Covers first v before rs → Covers now v file rs

pub setting_on : (first now new : List Node) (condition : ℕ) (before file after : File) (phis : List Phi) (phi : Phi)
    → Setting first now condition before file phis → IsTruth first condition → IsSym first phi.value → Extends now new → IsFile new after
    → ((v : Reading) (rs : Registers) → is_true now condition v ≡ true → Covers now v file rs → Covers new v after (slice_set rs phi.register (Some (held.Value (meaning now phi.value v)))))
    → ((v : Reading) (rs : Registers) → is_true now condition v ≡ false → Covers now v file rs → Covers new v after rs)
    → Setting first new condition before after (phis ++ phi ∷ [])
setting_on first now new condition before file after phis phi s truth i grown within here away = record {
  frame = followed first now new s.frame grown;
  within = within;
  here = λ v rs on w.
      subst (Covers new v after)
      (ap (λ x. slice_set (set_all (phis_meaning first v phis) rs) phi.register (Some (held.Value x))) (meaning_kept first now s.frame phi.value i v)
      ∙ sym (ap (λ l. set_all l rs) (phis_more first v phis phi) ∙ set_more (phis_meaning first v phis) (phi.register, meaning first phi.value v) rs))
      (here v (set_all (phis_meaning first v phis) rs) (true_kept first now s.frame condition truth v ∙ on) (s.here v rs on w));
  away = λ v rs off w. away v rs (true_kept first now s.frame condition truth v ∙ off) (s.away v rs off w);
}

-- ---- places of lists

pub take_next : {X : Type 0} (xs : List X) (i : ℕ) (x : X) → i < length xs → x ≡ slice_index_or xs i x → take (i + 1) xs ≡ take i xs ++ x ∷ []
take_next xs i x l e = ap (λ k. take k xs) next ∙ take-suc xs i x l ∙ ap (λ y. take i xs ++ y ∷ []) (sym e)
  where
    next : i + 1 ≡ suc i
    next = omega arith

pub drop_next : {X : Type 0} (xs : List X) (i : ℕ) (x : X) → i < length xs → x ≡ slice_index_or xs i x → drop i xs ≡ x ∷ drop (i + 1) xs
drop_next xs i x l e = drop-cons xs i x l ∙ ap (λ y. y ∷ drop (suc i) xs) (sym e) ∙ ap (λ k. x ∷ drop k xs) (sym next)
  where
    next : i + 1 ≡ suc i
    next = omega arith

pub drop_at : {X : Type 0} (xs : List X) (i : ℕ) (d : X) → i < length xs → drop i xs ≡ slice_index_or xs i d ∷ drop (i + 1) xs
drop_at xs i d l = drop-cons xs i d l ∙ ap (λ k. slice_index_or xs i d ∷ drop k xs) (sym next)
  where
    next : i + 1 ≡ suc i
    next = omega arith

pub covers_back : (old new : List Node) → Extends old new → (file : File) → IsFile old file → (v : Reading) (rs : Registers) → Covers new v file rs → Covers old v file rs
covers_back old new grown file i v rs w = subst (IsWithin rs) (registers_kept old new grown file i v) w
