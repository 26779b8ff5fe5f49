-- What is said of handlers, one after another: what was found of each, and the text of it.
use Rattle.std.specs.Prelude.{ℕ, ◌≡◌, List, ◌∷◌, ◌++◌, Option}
use Rattle.std.specs.List.{AllZip, zip, flat_map}
use Rattle.hk_io.specs.Shown.{shown_with}
use Rattle.spec_tree.specs.Plain.{Transition}
use Rattle.hk_cert_text.specs.declared.entry.Entry.{Entry}

-- a handler and what the certificate says of it
abbrev pub Claim : Type 0
Claim = Transition × Entry

-- the texts of the first handlers, each by what was found of it
abbrev pub texts_of : {F : Type 0} → (Claim → F → List ℕ) → List Claim → List F → List ℕ
texts_of text claims founds = flat_map (λ f. text f.0 f.1) (zip claims founds)

-- something was found of each of these handlers, and the sink shows their texts since
pub record AreTold {F : Type 0} (IsFound : Claim → F → Type 0) (text : Claim → F → List ℕ) (claims : List Claim) (founds : List F) (shown shown' : Option (List ℕ)) : Type 0 where
  pub found : AllZip IsFound claims founds
  pub says : shown' ≡ shown_with shown (texts_of text claims founds)

-- the same of the handlers before some one, at which it ends
pub record EndsAt {F : Type 0} (IsFound : Claim → F → Type 0) (text : Claim → F → List ℕ) (claims : List Claim) (founds : List F) (at : Claim) (shown shown' : Option (List ℕ)) : Type 0 where
  pub before : List Claim
  pub behind : List Claim
  pub claims_are : claims ≡ before ++ at ∷ behind
  pub told : AreTold IsFound text before founds shown shown'
