-- What expressions read, and the shape that it has: numbers of their widths, states of a specification, memories of its objects.
use Rattle.std.specs.Prelude.{◌≡◌, ℕ, ◌^◌, ◌<◌, true, List, [], ◌∷◌, length, All}
use Rattle.spec_tree.specs.Sorted.{Context, FieldSort, key_sizes, product}
use Rattle.spec_tree.specs.Value.{Env}

-- one number for each width, below 2 to it
abbrev pub AreNumbers : List ℕ → List ℕ → Type 0
AreNumbers [] ns = ns ≡ []
AreNumbers (w ∷ ws) [] = ⊥
AreNumbers (w ∷ ws) (n ∷ ns) = (n < 2 ^ w) × AreNumbers ws ns

-- one index for each size, below it
abbrev pub AreBelow : List ℕ → List ℕ → Type 0
AreBelow [] is = is ≡ []
AreBelow (n ∷ ns) [] = ⊥
AreBelow (n ∷ ns) (i ∷ is) = (i < n) × AreBelow ns is

-- the entries of a field: one for each index tuple, of the field's width
abbrev pub AreEntries : FieldSort → List ℕ → Type 0
AreEntries f entries = (length entries ≡ product (key_sizes f.keys)) × All (λ n. n < 2 ^ f.width) entries

-- an abstract state has the entries of each field
abbrev pub IsState : List FieldSort → List (List ℕ) → Type 0
IsState [] state = state ≡ []
IsState (f ∷ fs) [] = ⊥
IsState (f ∷ fs) (entries ∷ state) = AreEntries f entries × IsState fs state

-- a memory has the bytes of each object
abbrev pub IsMemory : List ℕ → List (List ℕ) → Type 0
IsMemory [] memory = memory ≡ []
IsMemory (n ∷ ns) [] = ⊥
IsMemory (n ∷ ns) (bytes ∷ memory) = ((length bytes ≡ n) × All (λ b. b < 256) bytes) × IsMemory ns memory

-- what is read fits what may be named
pub record Fits (c : Context) (v : Env) : Type 0 where
  pub old : c.old ≡ true → IsState c.fields v.old
  pub new : c.new ≡ true → IsState c.fields v.new
  pub memory : c.kernel ≡ true → IsMemory c.objects v.memory
  pub args : AreNumbers c.args v.args
  pub locals : AreNumbers c.locals v.locals
  pub bounds : AreBelow c.bounds v.bounds
