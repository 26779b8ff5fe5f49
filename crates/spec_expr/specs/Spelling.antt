-- How expressions are spelled, in the printing direction, as words: the texts of their tokens. Operators bind as in Python.
use Rattle.std.specs.Prelude.{◌≡◌, ℕ, zero, suc, ◌≤◌, Bool, true, false, Some, List, [], ◌∷◌, ◌++◌, codes, bytes_eq}
use Rattle.spec_ast.specs.declared.kind.UnKind.{UnKind}
use Rattle.spec_ast.specs.declared.kind.UnKind.TheVariants.{Minus, Complement, Not}
use Rattle.spec_ast.specs.declared.kind.BinKind.{BinKind}
use Rattle.spec_ast.specs.declared.kind.BinKind.TheVariants.{Mul, Add, Sub, Shl, Ashr, Lshr, BitAnd, BitXor, BitOr, Udiv, Urem, Eq, Ne, Slt, Sle, Sgt, Sge, Ult, Ule, Ugt, Uge, Implies}
use Rattle.spec_ast.specs.declared.raw.RawResize.{RawResize}
use Rattle.spec_ast.specs.declared.raw.RawResize.TheVariants.{ZeroExt, SignExt, Extract}
use Rattle.spec_ast.specs.Raw.{Tree, literal, truth, named, read, read_at, path, unary, binary, all_of, any_of, choose, resize, sized, for_all, exists, Trees, no_trees, tree_and, Step, element, member, Steps, no_steps, step_and}
use Rattle.spec_expr.specs.Words.{Text, is_name, number_of, member_of}

-- an operator between its operands: how loosely it binds, the places of its operands, and its mark; or a call with two arguments
pub data Form : Type 0 where
  between : ℕ → ℕ → ℕ → Text → Form
  called : Text → Form

-- 0 is the place of an operand of `*` and of a sign, 6 that of an operand of a comparison, which does not chain; 7 is a whole expression
abbrev pub form_of : BinKind → Form
form_of Mul = between 1 1 0 (codes "*")
form_of Add = between 2 2 1 (codes "+")
form_of Sub = between 2 2 1 (codes "-")
form_of Shl = between 3 3 2 (codes "<<")
form_of Ashr = between 3 3 2 (codes ">>")
form_of BitAnd = between 4 4 3 (codes "&")
form_of BitXor = between 5 5 4 (codes "^")
form_of BitOr = between 6 6 5 (codes "|")
form_of Eq = between 7 6 6 (codes "==")
form_of Ne = between 7 6 6 (codes "!=")
form_of Slt = between 7 6 6 (codes "<")
form_of Sle = between 7 6 6 (codes "<=")
form_of Sgt = between 7 6 6 (codes ">")
form_of Sge = between 7 6 6 (codes ">=")
form_of Lshr = called (codes "LShR")
form_of Udiv = called (codes "UDiv")
form_of Urem = called (codes "URem")
form_of Ult = called (codes "ULT")
form_of Ule = called (codes "ULE")
form_of Ugt = called (codes "UGT")
form_of Uge = called (codes "UGE")
form_of Implies = called (codes "Implies")

abbrev pub form_looseness : Form → ℕ
form_looseness (between own left right text) = own
form_looseness (called text) = 0

-- how loosely the expression binds
abbrev pub looseness : Tree → ℕ
looseness (binary kind a b) = form_looseness (form_of kind)
looseness _ = 0

-- in so many parentheses
abbrev pub IsWrapped : ℕ → (List Text → Type 0) → List Text → Type 0
IsWrapped zero S ts = S ts
IsWrapped (suc count) S ts = (inner : List Text) × IsWrapped count S inner × (ts ≡ codes "(" ∷ (inner ++ codes ")" ∷ []))

-- in any number of parentheses, and in some where it binds more loosely than its place takes
pub record IsAt (place own : ℕ) (S : List Text → Type 0) (ts : List Text) : Type 0 where
  pub count : ℕ
  pub wrapped : IsWrapped count S ts
  pub fits : count ≡ 0 → own ≤ place

-- two operands with an operator between them, or in a call
abbrev pub AreJoined : Form → (ℕ → List Text → Type 0) → (ℕ → List Text → Type 0) → List Text → Type 0
AreJoined (between own left right text) A B ts = (a : List Text) × (b : List Text) × A left a × B right b × (ts ≡ a ++ text ∷ b)
AreJoined (called text) A B ts =
    (a : List Text) × (b : List Text) × A 7 a × B 7 b × (ts ≡ text ∷ codes "(" ∷ (a ++ codes "," ∷ (b ++ codes ")" ∷ [])))

-- names with a comma before each, and the bracket that closes them
abbrev pub AreMoreNames : List Text → List Text → Type 0
AreMoreNames [] ts = ts ≡ codes "]" ∷ []
AreMoreNames (x ∷ xs) ts = (rest : List Text) × (is_name x ≡ true) × AreMoreNames xs rest × (ts ≡ codes "," ∷ x ∷ rest)

abbrev pub AreNames : List Text → List Text → Type 0
AreNames [] ts = ⊥
AreNames (x ∷ xs) ts = (rest : List Text) × (is_name x ≡ true) × AreMoreNames xs rest × (ts ≡ x ∷ rest)

-- what stands before the one argument of a call
pub data Head : Type 0 where
  negation : Head
  resized : RawResize → Head
  each_of : List Text → Head
  some_of : List Text → Head

abbrev pub IsNumber : ℕ → Text → Type 0
IsNumber n text = number_of text ≡ Some n

-- behind the word and its parenthesis: nothing, `n ,`, `high , low ,` or `[ v , .. ] ,`
abbrev pub SpellsResize : RawResize → List Text → Type 0
SpellsResize (ZeroExt n) ts = (text : Text) × IsNumber n text × (ts ≡ text ∷ codes "," ∷ [])
SpellsResize (SignExt n) ts = (text : Text) × IsNumber n text × (ts ≡ text ∷ codes "," ∷ [])
SpellsResize (Extract high low) ts = (hi : Text) × (lo : Text) × IsNumber high hi × IsNumber low lo × (ts ≡ hi ∷ codes "," ∷ lo ∷ codes "," ∷ [])

abbrev pub SpellsBound : List Text → List Text → Type 0
SpellsBound xs ts = (names : List Text) × AreNames xs names × (ts ≡ codes "[" ∷ (names ++ codes "," ∷ []))

abbrev pub SpellsHead : Head → List Text → Type 0
SpellsHead negation ts = ts ≡ []
SpellsHead (resized kind) ts = SpellsResize kind ts
SpellsHead (each_of xs) ts = SpellsBound xs ts
SpellsHead (some_of xs) ts = SpellsBound xs ts

abbrev pub resize_word : RawResize → Text
resize_word (ZeroExt n) = codes "ZeroExt"
resize_word (SignExt n) = codes "SignExt"
resize_word (Extract high low) = codes "Extract"

abbrev pub head_word : Head → Text
head_word negation = codes "Not"
head_word (resized kind) = resize_word kind
head_word (each_of xs) = codes "ForAll"
head_word (some_of xs) = codes "Exists"

-- a call with one expression as its last argument
abbrev pub IsCalled : Head → (List Text → Type 0) → List Text → Type 0
IsCalled head A ts =
    (front : List Text) × (inner : List Text) × SpellsHead head front × A inner × (ts ≡ head_word head ∷ codes "(" ∷ (front ++ (inner ++ codes ")" ∷ [])))

abbrev pub IsUnary : UnKind → (ℕ → List Text → Type 0) → List Text → Type 0
IsUnary Minus A ts = (a : List Text) × A 0 a × (ts ≡ codes "-" ∷ a)
IsUnary Complement A ts = (a : List Text) × A 0 a × (ts ≡ codes "~" ∷ a)
IsUnary Not A ts = IsCalled negation (A 7) ts

abbrev pub truth_word : Bool → Text
truth_word true = codes "True"
truth_word false = codes "False"

-- the state's name is not that of the kernel, whose parts are paths
abbrev pub IsStateName : Text → Type 0
IsStateName s = (is_name s ≡ true) × (bytes_eq s (codes "kernel") ≡ false)

abbrev mutual
  -- the words spell the expression, without parentheses around it
  pub SpellsBare : Tree → List Text → Type 0
  SpellsBare (literal n) ts = (text : Text) × IsNumber n text × (ts ≡ text ∷ [])
  SpellsBare (truth b) ts = ts ≡ truth_word b ∷ []
  SpellsBare (named x) ts = (is_name x ≡ true) × (ts ≡ x ∷ [])
  SpellsBare (read s f) ts = IsStateName s × (is_name f ≡ true) × (ts ≡ s ∷ codes "." ∷ f ∷ [])
  SpellsBare (read_at s f es) ts =
      (inner : List Text) × IsStateName s × (is_name f ≡ true) × SpellsArguments (codes ")") es inner × (ts ≡ s ∷ codes "." ∷ f ∷ codes "(" ∷ inner)
  SpellsBare (path g steps) ts = (rest : List Text) × (is_name g ≡ true) × SpellsSteps steps rest × (ts ≡ codes "kernel" ∷ codes "." ∷ g ∷ rest)
  SpellsBare (unary kind a) ts = IsUnary kind (λ place. IsAt place (looseness a) (SpellsBare a)) ts
  SpellsBare (binary kind a b) ts =
      AreJoined (form_of kind) (λ place. IsAt place (looseness a) (SpellsBare a)) (λ place. IsAt place (looseness b) (SpellsBare b)) ts
  SpellsBare (all_of es) ts = (inner : List Text) × SpellsArguments (codes ")") es inner × (ts ≡ codes "And" ∷ codes "(" ∷ inner)
  SpellsBare (any_of es) ts = (inner : List Text) × SpellsArguments (codes ")") es inner × (ts ≡ codes "Or" ∷ codes "(" ∷ inner)
  SpellsBare (choose c a b) ts =
      (first : List Text) × (second : List Text) × (third : List Text)
      × IsAt 7 (looseness c) (SpellsBare c) first × IsAt 7 (looseness a) (SpellsBare a) second × IsAt 7 (looseness b) (SpellsBare b) third
      × (ts ≡ codes "If" ∷ codes "(" ∷ (first ++ codes "," ∷ (second ++ codes "," ∷ (third ++ codes ")" ∷ []))))
  SpellsBare (resize kind a) ts = IsCalled (resized kind) (IsAt 7 (looseness a) (SpellsBare a)) ts
  SpellsBare (sized n w) ts =
      (number : Text) × (width : Text) × IsNumber n number × IsNumber w width
      × (ts ≡ codes "BitVecVal" ∷ codes "(" ∷ number ∷ codes "," ∷ width ∷ codes ")" ∷ [])
  SpellsBare (for_all xs a) ts = IsCalled (each_of xs) (IsAt 7 (looseness a) (SpellsBare a)) ts
  SpellsBare (exists xs a) ts = IsCalled (some_of xs) (IsAt 7 (looseness a) (SpellsBare a)) ts

  -- one expression or more with commas between them, and the bracket that closes them
  pub SpellsArguments : Text → Trees → List Text → Type 0
  SpellsArguments close no_trees ts = ⊥
  SpellsArguments close (tree_and e es) ts =
      (first : List Text) × (rest : List Text) × IsAt 7 (looseness e) (SpellsBare e) first × SpellsMore close es rest × (ts ≡ first ++ rest)

  pub SpellsMore : Text → Trees → List Text → Type 0
  SpellsMore close no_trees ts = ts ≡ close ∷ []
  SpellsMore close (tree_and e es) ts =
      (first : List Text) × (rest : List Text) × IsAt 7 (looseness e) (SpellsBare e) first × SpellsMore close es rest × (ts ≡ codes "," ∷ (first ++ rest))

  -- `[ e ]` and `. fK`
  pub SpellsSteps : Steps → List Text → Type 0
  SpellsSteps no_steps ts = ts ≡ []
  SpellsSteps (step_and s ss) ts = (first : List Text) × (rest : List Text) × SpellsStep s first × SpellsSteps ss rest × (ts ≡ first ++ rest)

  pub SpellsStep : Step → List Text → Type 0
  SpellsStep (element e) ts = (inner : List Text) × IsAt 7 (looseness e) (SpellsBare e) inner × (ts ≡ codes "[" ∷ (inner ++ codes "]" ∷ []))
  SpellsStep (member k) ts = (text : Text) × (member_of text ≡ Some k) × (ts ≡ codes "." ∷ text ∷ [])

-- the words spell the expression at this place
abbrev pub SpellsAt : ℕ → Tree → List Text → Type 0
SpellsAt place e ts = IsAt place (looseness e) (SpellsBare e) ts

-- the words spell the expression
abbrev pub SpellsExpr : Tree → List Text → Type 0
SpellsExpr e ts = SpellsAt 7 e ts
