-- Two loads, one after the other.

use Rattle.std.proofs.Common.{ℕ, ◌≡◌, Option, Result, Ok, Err, IfOk, IfErr, List, [], ◌∷◌, ◌++◌, refl, ap, ◌∙◌, append_assoc, subst}
use Rattle.hk_io.specs.Held.{Files}
use Rattle.hk_verify.specs.declared.answer.TopFault.{TopFault}
use Rattle.hk_verify.specs.Inputs.{Asked, AreLoaded, IsLoaded, IsLoadFault, IsLoadingFault, ShelfView, seen}

pub first_fails : (shelf : ShelfView) (first : Asked) (others : List Asked) (fault : TopFault)
    → IsLoadFault shelf first fault → IsLoadingFault shelf (first ∷ others) fault
first_fails shelf first others fault cause = record {
  before = [];
  failed = first;
  behind = others;
  in_order = refl;
  texts = [];
  loaded = tt;
  cause = cause;
}

pub second_fails : (held now : Option Files) (before between after : ℕ) (first second : Asked) (text : List ℕ) (fault : TopFault)
    → now ≡ held → between ≡ before → IsLoaded held first text → IsLoadFault (seen now between after) second fault
    → IsLoadingFault (seen held before after) (first ∷ second ∷ []) fault
second_fails held now before between after first second text fault same still loaded cause = record {
  before = first ∷ [];
  failed = second;
  behind = [];
  in_order = refl;
  texts = text ∷ [];
  loaded = (loaded, tt);
  cause = subst (λ h. IsLoadFault (seen h before after) second fault) same (subst (λ n. IsLoadFault (seen now n after) second fault) still cause);
}

-- What fails among files fails also where one more is asked for behind them.
pub still_fails : (shelf : ShelfView) (files : List Asked) (more : Asked) (fault : TopFault) → IsLoadingFault shelf files fault → IsLoadingFault shelf (files ++ more ∷ []) fault
still_fails shelf files more fault h = record {
  before = h.before;
  failed = h.failed;
  behind = h.behind ++ more ∷ [];
  in_order = ap (λ fs. fs ++ more ∷ []) h.in_order ∙ append_assoc h.before (h.failed ∷ h.behind) (more ∷ []);
  texts = h.texts;
  loaded = h.loaded;
  cause = h.cause;
}

pub third_fails : (held now : Option Files) (before between after : ℕ) (first second third : Asked) (texts : List (List ℕ)) (fault : TopFault)
    → now ≡ held → between ≡ before → AreLoaded held (first ∷ second ∷ []) texts → IsLoadFault (seen now between after) third fault
    → IsLoadingFault (seen held before after) (first ∷ second ∷ third ∷ []) fault
third_fails held now before between after first second third texts fault same still loaded cause = record {
  before = first ∷ second ∷ [];
  failed = third;
  behind = [];
  in_order = refl;
  texts = texts;
  loaded = loaded;
  cause = subst (λ h. IsLoadFault (seen h before after) third fault) same (subst (λ n. IsLoadFault (seen now n after) third fault) still cause);
}

-- One load alone.
pub only_fails : {T : Type 0} (shelf : ShelfView) (first : Asked) (r : Result T TopFault) → IfErr r (IsLoadFault shelf first) → IfErr r (IsLoadingFault shelf (first ∷ []))
only_fails shelf first (Ok x) h = tt
only_fails shelf first (Err fault) h = first_fails shelf first [] fault h

-- What holds of an answer holds of what it has.
pub if_ok : {A E : Type 0} (P : A → Type 0) (r : Result A E) (a : A) → r ≡ Ok a → IfOk r P → P a
if_ok {A} {E} P r a is h = subst (λ (x : Result A E). IfOk x P) is h

pub if_err : {A E : Type 0} (P : E → Type 0) (r : Result A E) (e : E) → r ≡ Err e → IfErr r P → P e
if_err {A} {E} P r e is h = subst (λ (x : Result A E). IfErr x P) is h
