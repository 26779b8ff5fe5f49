-- Turns over the obligations of a handler.
use Rattle.std.proofs.Common.{◌≡◌, ◌+◌, ◌<◌, ◌≤◌, ℕ, Bool, true, Option, Some, None, List, [], ◌∷◌, ◌++◌, length, take, get_or, refl, sym, ap, ◌∙◌, subst, arith}
use Rattle.std.specs.Prelude.{All, slice_get, ⊤, IfSome, IfNone}
use Rattle.std.proofs.lemmas.List.{take_all, take_more, length-take-le}
use Rattle.std.proofs.lemmas.List.Elements.{All-nil}
use Rattle.std.proofs.lemmas.Option.{slice_get-get_or}
use Rattle.ir_ast.specs.Program.{ModuleView}
use Rattle.ir_check.proofs.Taken.{all_there}
use Rattle.ir_layout.specs.declared.object.Object.{Object}
use Rattle.spec_tree.specs.Plain.{Transition, Spec}
use Rattle.hk_case.specs.declared.Obligation.{Obligation}
use Rattle.hk_case.specs.declared.Case.{Case}
use Rattle.hk_case.specs.Obligations.{obligations_of}
use Rattle.hk_case.specs.Violation.{IsNeverViolated}
use Rattle.hk_verdict.specs.declared.verdict.Verdict.{Verdict}
use Rattle.hk_verdict.specs.declared.verdict.Verdict.TheVariants.{Accepted, Rejected, Unknown, Memory}
use Rattle.hk_decide.specs.Right.{IsRefuted, IsNeverWhereSmall, IsRight, IsDecided, IsSmall, AreSmall}
use Rattle.hk_decide.specs.SoFar.{IsTried, Stands, IsKept, IsPassed, noted}
use Rattle.hk_decide.specs.declared.found.Tried.{Tried}
use Rattle.hk_decide.specs.declared.found.Tried.TheVariants.{Violated}
use Rattle.hk_decide.specs.declared.found.Standing.{Standing}
use Rattle.hk_decide.specs.declared.found.Standing.TheVariants.{Holds}
use Rattle.hk_decide.proofs.Standings.{no_proofs, stands_next, never_where_small, kept_next, none_kept}

-- a place of the list of obligations
pub owed_at : (s : Spec) (t : Transition) (items : List Obligation) (i : ℕ) (d : Obligation) → items ≡ obligations_of s t → i < length items → slice_get (obligations_of s t) i ≡ Some (get_or items i d)
owed_at s t items i d owed low = subst (λ (os : List Obligation). slice_get os i ≡ Some (get_or items i d)) owed (slice_get-get_or items i d low)

-- ---- turns over the obligations

module _ (budget : ℕ) (m : ModuleView) (objects : List Object) (s : Spec) (t : Transition) where
  pub stands_first : (standing : Standing) → standing ≡ Holds [] → Stands budget m objects s t [] standing
  stands_first standing first = subst (Stands budget m objects s t []) (sym first) (All-nil (IsNeverViolated m objects s t), no_proofs m objects s t [])

  -- the next one was not found violated
  pub stands_on : (owed : List Obligation) (i : ℕ) (d : Obligation) (keep : Bool) (old new : Standing) (tried : Tried) (found : Option Case) → i < length owed
      → Stands budget m objects s t (take i owed) old → IsKept keep i old → IsTried budget m objects s t (get_or owed i d) tried
      → found ≡ None → IfNone found (IsPassed tried) → IfNone found (new ≡ noted keep tried old) → Stands budget m objects s t (take (i + 1) owed) new
  stands_on owed i d keep old new tried found low stands kept is none passed noted_is =
      let p : IsPassed tried = subst (λ f. IfNone f (IsPassed tried)) none passed in
      let e : new ≡ noted keep tried old = subst (λ f. IfNone f (new ≡ noted keep tried old)) none noted_is in
      let long : length (take i owed) ≡ i = length-take-le i owed (omega (arith, low)) in
      subst (λ st. Stands budget m objects s t (take (i + 1) owed) st) (sym e)
      (subst (λ os. Stands budget m objects s t os (noted keep tried old)) (sym (take_more owed i d low))
      (stands_next budget m objects s t (take i owed) (get_or owed i d) keep old tried stands (subst (λ n. IsKept keep n old) (sym long) kept) is p))

  -- the next one was
  pub refuted : (owed : List Obligation) (i : ℕ) (d : Obligation) (old : Standing) (tried : Tried) (found : Option Case) (c : Case) → owed ≡ obligations_of s t → i < length owed
      → Stands budget m objects s t (take i owed) old → IsTried budget m objects s t (get_or owed i d) tried
      → found ≡ Some c → IfSome found (λ c. tried ≡ Violated c) → IsRefuted m objects s t (get_or owed i d) c
  refuted owed i d old tried found c all low stands is some violated =
      let e : tried ≡ Violated c = subst (λ f. IfSome f (λ c. tried ≡ Violated c)) some violated in
      let v : IsTried budget m objects s t (get_or owed i d) (Violated c) = subst (IsTried budget m objects s t (get_or owed i d)) e is in
      record {
        place = i;
        owed = owed_at s t owed i d all low;
        shape = v.0;
        violates = v.1;
        first = subst (λ (os : List Obligation). All (IsNeverWhereSmall m objects s t) (take i os)) all (never_where_small budget m objects s t (take i owed) d old stands);
      }

  pub all_stand : (owed : List Obligation) (i : ℕ) (standing : Standing) → owed ≡ obligations_of s t → length owed ≤ i → Stands budget m objects s t (take i owed) standing → Stands budget m objects s t (obligations_of s t) standing
  all_stand owed i standing all past stands = subst (λ os. Stands budget m objects s t os standing) (take_all i owed past ∙ all) stands

pub kept_first : (keep : Bool) (standing : Standing) → standing ≡ Holds [] → IsKept keep 0 standing
kept_first keep standing first = subst (IsKept keep 0) (sym first) (none_kept keep)

pub kept_on : (keep : Bool) (i : ℕ) (old new : Standing) (tried : Tried) (found : Option Case) → IsKept keep i old
    → found ≡ None → IfNone found (IsPassed tried) → IfNone found (new ≡ noted keep tried old) → IsKept keep (i + 1) new
kept_on keep i old new tried found kept none passed noted_is =
    let p : IsPassed tried = subst (λ f. IfNone f (IsPassed tried)) none passed in
    let e : new ≡ noted keep tried old = subst (λ f. IfNone f (new ≡ noted keep tried old)) none noted_is in
    subst (IsKept keep (i + 1)) (sym e) (kept_next keep i old tried kept p)

pub all_kept : (keep is : Bool) (i count : ℕ) (standing : Standing) → keep ≡ is → i ≡ count → IsKept keep i standing → IsKept is count standing
all_kept keep is i count standing e f kept = subst (λ b. IsKept b count standing) e (subst (λ n. IsKept keep n standing) f kept)

-- a handler is decided where the cases of all its obligations are few
pub small_is_decided : (budget : ℕ) (m : ModuleView) (objects : List Object) (s : Spec) (t : Transition) (verdict : Verdict) → (verdict ≡ Memory → ⊥) → IsRight budget m objects s t verdict → AreSmall objects s t → IsDecided verdict
small_is_decided budget m objects s t (Accepted proofs) d right small = tt
small_is_decided budget m objects s t (Rejected o c) d right small = tt
small_is_decided budget m objects s t (Unknown o instances clauses log) d right small =
    let few = all_there (IsSmall objects s t) (obligations_of s t) right.place o right.owed small in
    let many = right.many in
    absurd (omega (arith, few, many))
small_is_decided budget m objects s t Memory d right small = absurd (d refl)
