-- The size of the object that an address points to, told by its base.
use Rattle.std.proofs.Common.{◌≡◌, ℕ, ◌-◌, Bool, true, false, ◌&&◌, if◌then◌else◌, nat_eq, nat_le, List, refl, ap, ◌∙◌, arith}
use Rattle.ir_ast.specs.declared.instr.Predicate.{Predicate}
use Rattle.ir_value.specs.declared.value.Value.{Value}
use Rattle.ir_value.specs.declared.value.Value.TheVariants.{Number, Null, Address, Poison}
use Rattle.ir_value.specs.Pointers.{begin_at, signed_step, wraps, step_of, compare_pointers}
use Rattle.ir_machine.specs.Values.{size_at, size_of}
use Rattle.hk_symvalue.specs.Meaning.{stands_for}
use Rattle.hk_symaccess.specs.Accesses.{sized}

-- an address has its object behind 0 and 1
big : (base : ℕ) → nat_eq base 0 ≡ false → nat_eq base 1 ≡ false → nat_le base 1 ≡ false
big base e f = grind arith

-- a function that reads a size at addresses alone reads it by the base
module _ {B : Type 0} (f : ℕ → Value → B) (poison : (a b : ℕ) → f a Poison ≡ f b Poison) (null : (a b : ℕ) → f a Null ≡ f b Null) (number : (a b n : ℕ) → f a (Number n) ≡ f b (Number n)) where
  pub by_base : (memory : List (List ℕ)) (p : Bool) (base bits : ℕ) → f (sized memory base) (stands_for p base bits) ≡ f (size_at memory (stands_for p base bits)) (stands_for p base bits)
  by_base memory true base bits = poison _ _
  by_base memory false base bits = at (nat_eq base 0) (nat_eq base 1) refl refl
    where
      at : (none null_base : Bool) → nat_eq base 0 ≡ none → nat_eq base 1 ≡ null_base
          → f (sized memory base) (if none then Number bits else (if null_base then Null else Address (base - 2) bits)) ≡ f (size_at memory (if none then Number bits else (if null_base then Null else Address (base - 2) bits))) (if none then Number bits else (if null_base then Null else Address (base - 2) bits))
      at true null_base e g = number _ _ _
      at false true e g = null _ _
      at false false e g = ap (λ s. f (if s then 0 else size_of memory (base - 2)) (Address (base - 2) bits)) (big base e g)

-- without `inbounds` no size is read
begin_free : (a b : ℕ) (v : Value) → begin_at false a v ≡ begin_at false b v
begin_free a b (Number n) = refl
begin_free a b Null = refl
begin_free a b (Address o x) = refl
begin_free a b Poison = refl

step_free : (w each a b : ℕ) (i v : Value) → signed_step false a w each i v ≡ signed_step false b w each i v
step_free w each a b (Number n) (Number m) = refl
step_free w each a b (Number n) Null = refl
step_free w each a b (Number n) (Address o x) = refl
step_free w each a b (Number n) Poison = refl
step_free w each a b Null v = refl
step_free w each a b (Address o x) v = refl
step_free w each a b Poison v = refl

begin_poison : (inbounds : Bool) (a b : ℕ) → begin_at inbounds a Poison ≡ begin_at inbounds b Poison
begin_poison inbounds a b = refl

step_poison : (inbounds : Bool) (w each : ℕ) (i : Value) (a b : ℕ) → signed_step inbounds a w each i Poison ≡ signed_step inbounds b w each i Poison
step_poison inbounds w each (Number n) a b = refl
step_poison inbounds w each Null a b = refl
step_poison inbounds w each (Address o x) a b = refl
step_poison inbounds w each Poison a b = refl

step_null : (inbounds : Bool) (w each : ℕ) (i : Value) (a b : ℕ) → signed_step inbounds a w each i Null ≡ signed_step inbounds b w each i Null
step_null inbounds w each (Number n) a b = refl
step_null inbounds w each Null a b = refl
step_null inbounds w each (Address o x) a b = refl
step_null inbounds w each Poison a b = refl

step_number : (inbounds : Bool) (w each : ℕ) (i : Value) (a b n : ℕ) → signed_step inbounds a w each i (Number n) ≡ signed_step inbounds b w each i (Number n)
step_number inbounds w each (Number m) a b n = refl
step_number inbounds w each Null a b n = refl
step_number inbounds w each (Address o x) a b n = refl
step_number inbounds w each Poison a b n = refl

pub begun : (inbounds : Bool) (size : ℕ) (memory : List (List ℕ)) (p : Bool) (base bits : ℕ) → (inbounds ≡ true → size ≡ sized memory base)
    → begin_at inbounds size (stands_for p base bits) ≡ begin_at inbounds (size_at memory (stands_for p base bits)) (stands_for p base bits)
begun false size memory p base bits e = begin_free size (size_at memory (stands_for p base bits)) (stands_for p base bits)
begun true size memory p base bits e =
    ap (λ s. begin_at true s (stands_for p base bits)) (e refl) ∙ by_base (begin_at true) (begin_poison true) (λ a b. refl) (λ a b n. refl) memory p base bits

signed : (inbounds : Bool) (size : ℕ) (memory : List (List ℕ)) (w each : ℕ) (i : Value) (p : Bool) (base bits : ℕ) → (inbounds ≡ true → size ≡ sized memory base)
    → signed_step inbounds size w each i (stands_for p base bits) ≡ signed_step inbounds (size_at memory (stands_for p base bits)) w each i (stands_for p base bits)
signed false size memory w each i p base bits e = step_free w each size (size_at memory (stands_for p base bits)) i (stands_for p base bits)
signed true size memory w each i p base bits e =
    ap (λ s. signed_step true s w each i (stands_for p base bits)) (e refl)
    ∙ by_base (λ s v. signed_step true s w each i v) (step_poison true w each i) (step_null true w each i) (step_number true w each i) memory p base bits

pub stepped : (inbounds nuw : Bool) (size : ℕ) (memory : List (List ℕ)) (w each : ℕ) (i : Value) (p : Bool) (base bits : ℕ) → (inbounds ≡ true → size ≡ sized memory base)
    → step_of inbounds nuw size w each i (stands_for p base bits) ≡ step_of inbounds nuw (size_at memory (stands_for p base bits)) w each i (stands_for p base bits)
stepped inbounds nuw size memory w each i p base bits e =
    ap (λ u. if (inbounds && nuw) && wraps w each i (stands_for p base bits) then Poison else u) (signed inbounds size memory w each i p base bits e)

-- ---- comparisons

first_poison : (c : Predicate) (sb : ℕ) (v : Value) (a b : ℕ) → compare_pointers c a sb Poison v ≡ compare_pointers c b sb Poison v
first_poison c sb (Number n) a b = refl
first_poison c sb Null a b = refl
first_poison c sb (Address o x) a b = refl
first_poison c sb Poison a b = refl

first_null : (c : Predicate) (sb : ℕ) (v : Value) (a b : ℕ) → compare_pointers c a sb Null v ≡ compare_pointers c b sb Null v
first_null c sb (Number n) a b = refl
first_null c sb Null a b = refl
first_null c sb (Address o x) a b = refl
first_null c sb Poison a b = refl

first_number : (c : Predicate) (sb : ℕ) (v : Value) (a b n : ℕ) → compare_pointers c a sb (Number n) v ≡ compare_pointers c b sb (Number n) v
first_number c sb v a b n = refl

second_poison : (c : Predicate) (sa : ℕ) (u : Value) (a b : ℕ) → compare_pointers c sa a u Poison ≡ compare_pointers c sa b u Poison
second_poison c sa (Number n) a b = refl
second_poison c sa Null a b = refl
second_poison c sa (Address o x) a b = refl
second_poison c sa Poison a b = refl

second_null : (c : Predicate) (sa : ℕ) (u : Value) (a b : ℕ) → compare_pointers c sa a u Null ≡ compare_pointers c sa b u Null
second_null c sa (Number n) a b = refl
second_null c sa Null a b = refl
second_null c sa (Address o x) a b = refl
second_null c sa Poison a b = refl

second_number : (c : Predicate) (sa : ℕ) (u : Value) (a b n : ℕ) → compare_pointers c sa a u (Number n) ≡ compare_pointers c sa b u (Number n)
second_number c sa (Number m) a b n = refl
second_number c sa Null a b n = refl
second_number c sa (Address o x) a b n = refl
second_number c sa Poison a b n = refl

pub compared : (c : Predicate) (memory : List (List ℕ)) (p : Bool) (base bits : ℕ) (q : Bool) (other more : ℕ)
    → compare_pointers c (sized memory base) (sized memory other) (stands_for p base bits) (stands_for q other more)
    ≡ compare_pointers c (size_at memory (stands_for p base bits)) (size_at memory (stands_for q other more)) (stands_for p base bits) (stands_for q other more)
compared c memory p base bits q other more =
    by_base (λ s u. compare_pointers c s (sized memory other) u (stands_for q other more)) (first_poison c (sized memory other) (stands_for q other more)) (first_null c (sized memory other) (stands_for q other more)) (first_number c (sized memory other) (stands_for q other more)) memory p base bits
    ∙ by_base (λ s u. compare_pointers c (size_at memory (stands_for p base bits)) s (stands_for p base bits) u) (second_poison c (size_at memory (stands_for p base bits)) (stands_for p base bits)) (second_null c (size_at memory (stands_for p base bits)) (stands_for p base bits)) (second_number c (size_at memory (stands_for p base bits)) (stands_for p base bits)) memory q other more
