-- The first item that fails: there is at most one, with it the module is not well formed, and the least of what several walks over the
-- items saw is it.
use Rattle.std.proofs.Common.{◌≡◌, ◌⊎◌, inl, inr, ℕ, ◌<◌, ◌≤◌, ◌||◌, ◌&&◌, Bool, true, false, cond, eqb, nat_lt, nat_le, Option, Some, None, refl, sym, ◌∙◌, ap, subst, arith}
use Rattle.std.specs.Prelude.{◌==◌, if◌then◌else◌}
use Rattle.std.proofs.lemmas.Bool.{cases_Bool}
use Rattle.ir_ast.specs.Program.{ModuleView}
use Rattle.ir_ast.specs.declared.fault.KernelFault.{KernelFault}
use Rattle.ir_ast.specs.declared.fault.KernelReason.{KernelReason}
use Rattle.ir_type.specs.Items.{Item, line_of, Rule, K5, K6, K7, K8, K9, K10, K11, K12, K13, K14, K15, number_of, Fails, IsFree, IsFirst}
use Rattle.ir_check.specs.Least.{reason_of, number, Faults, IsUpTo, IsLeast, Either, AllFaults, is_up_to, least_of}

-- ---- one fault

rule_numbered : ℕ → Rule
rule_numbered n =
    cond (eqb n 5) K5 (cond (eqb n 6) K6 (cond (eqb n 7) K7 (cond (eqb n 8) K8 (cond (eqb n 9) K9 (cond (eqb n 10) K10
    (cond (eqb n 11) K11 (cond (eqb n 12) K12 (cond (eqb n 13) K13 (cond (eqb n 14) K14 K15)))))))))

by_number : (r : Rule) → rule_numbered (number_of r) ≡ r
unfolding rule_numbered
by_number K5 = refl
by_number K6 = refl
by_number K7 = refl
by_number K8 = refl
by_number K9 = refl
by_number K10 = refl
by_number K11 = refl
by_number K12 = refl
by_number K13 = refl
by_number K14 = refl
by_number K15 = refl

pub same_rule : (r q : Rule) → number_of r ≡ number_of q → r ≡ q
same_rule r q e = sym (by_number r) ∙ ap rule_numbered e ∙ by_number q

module _ (Falls : Item → Rule → Type 0) (m : ModuleView) where
  same_line : (l k n o : ℕ) → IsUpTo l n k o → IsUpTo k o l n → (l ≡ k) × (n ≡ o)
  same_line l k n o (inl a) (inl b) = absurd (omega arith)
  same_line l k n o (inl a) (inr b) = let e = b.0 in absurd (omega arith)
  same_line l k n o (inr a) (inl b) = let e = a.0 in absurd (omega arith)
  same_line l k n o (inr a) (inr b) = (a.0, (let x = a.1 in let y = b.1 in omega arith))

  -- a module has at most one first fault
  pub one_fault : (l k : ℕ) (r q : Rule) → IsFirst Falls m l r → IsFirst Falls m k q → (l ≡ k) × (r ≡ q)
  one_fault l k r q a b =
      let same = same_line l k (number_of r) (number_of q) (a.least k q b.fails) (b.least l r a.fails) in
      (same.0, same_rule r q same.1)

  -- and with one an item falls
  pub fault_is_not_free : (l : ℕ) (r : Rule) → IsFirst Falls m l r → IsFree Falls m → ⊥
  fault_is_not_free l r first free = let (item, is, line, falls) = first.fails in free item is r falls

  -- where nothing fails, no item falls
  pub nothing_is_free : ((l : ℕ) (r : Rule) → Fails Falls m l r → ⊥) → IsFree Falls m
  nothing_is_free fails item is rule falls = fails (line_of item) rule (item, is, refl, falls)

-- ---- the least of several walks

up_to_itself : (l n : ℕ) → IsUpTo l n l n
up_to_itself l n = inr (refl, omega arith)

pub up_to_both : (l n k o j p : ℕ) → IsUpTo l n k o → IsUpTo k o j p → IsUpTo l n j p
up_to_both l n k o j p (inl a) (inl b) = inl (omega arith)
up_to_both l n k o j p (inl a) (inr b) = let e = b.0 in inl (omega arith)
up_to_both l n k o j p (inr a) (inl b) = let e = a.0 in inl (omega arith)
up_to_both l n k o j p (inr a) (inr b) = inr (a.0 ∙ b.0, (let x = a.1 in let y = b.1 in omega arith))

-- the test says which is not behind the other
record Says (b : Bool) (l n k o : ℕ) : Type 0 where
  holds : b ≡ true → IsUpTo l n k o
  fails : b ≡ false → IsUpTo k o l n

says : (l n k o : ℕ) → Says (nat_lt l k || ((l == k) && nat_le n o)) l n k o
says l n k o = record { holds = grind arith; fails = grind arith }

-- the least of two walks
pub least_joins : (P Q : Faults) (a b : Option KernelFault) → IsLeast P a → IsLeast Q b → IsLeast (Either P Q) (least_of a b)
least_joins P Q None None p q = λ l r e. pick l r e
  where
    pick : (l : ℕ) (r : KernelReason) → Either P Q l r → ⊥
    pick l r (inl x) = p l r x
    pick l r (inr x) = q l r x
least_joins P Q None (Some b) p q = (inr q.0, pick)
  where
    pick : (l : ℕ) (r : KernelReason) → Either P Q l r → IsUpTo b.line (number b.reason) l (number r)
    pick l r (inl x) = absurd (p l r x)
    pick l r (inr x) = q.1 l r x
least_joins P Q (Some a) None p q = (inl p.0, pick)
  where
    pick : (l : ℕ) (r : KernelReason) → Either P Q l r → IsUpTo a.line (number a.reason) l (number r)
    pick l r (inl x) = p.1 l r x
    pick l r (inr x) = absurd (q l r x)
least_joins P Q (Some a) (Some b) p q = by (cases_Bool (is_up_to a b))
  where
    test : Says (is_up_to a b) a.line (number a.reason) b.line (number b.reason)
    test = says a.line (number a.reason) b.line (number b.reason)

    left : IsUpTo a.line (number a.reason) b.line (number b.reason) → (l : ℕ) (r : KernelReason) → Either P Q l r → IsUpTo a.line (number a.reason) l (number r)
    left u l r (inl x) = p.1 l r x
    left u l r (inr x) = up_to_both a.line (number a.reason) b.line (number b.reason) l (number r) u (q.1 l r x)

    right : IsUpTo b.line (number b.reason) a.line (number a.reason) → (l : ℕ) (r : KernelReason) → Either P Q l r → IsUpTo b.line (number b.reason) l (number r)
    right u l r (inl x) = up_to_both b.line (number b.reason) a.line (number a.reason) l (number r) u (p.1 l r x)
    right u l r (inr x) = q.1 l r x

    by : (is_up_to a b ≡ true) ⊎ (is_up_to a b ≡ false) → IsLeast (Either P Q) (least_of (Some a) (Some b))
    by (inl t) = subst (λ c. IsLeast (Either P Q) (Some (if c then a else b))) (sym t) (inl p.0, left (test.holds t))
    by (inr t) = subst (λ c. IsLeast (Either P Q) (Some (if c then a else b))) (sym t) (inr q.0, right (test.fails t))

-- the least of those that were seen is the least of all where each other one is behind one that was seen
pub least_covers : (P Q : Faults) (o : Option KernelFault) → IsLeast P o → ((l : ℕ) (r : KernelReason) → P l r → Q l r)
    → ((l : ℕ) (r : KernelReason) → Q l r → (k : ℕ) × (s : KernelReason) × P k s × IsUpTo k (number s) l (number r)) → IsLeast Q o
least_covers P Q None least all covered = λ l r q. let c = covered l r q in least c.0 c.1 c.2
least_covers P Q (Some f) least all covered = (
  all f.line f.reason least.0,
  λ l r q. let c = covered l r q in up_to_both f.line (number f.reason) c.0 (number c.1) l (number r) (least.1 c.0 c.1 c.2) c.3,
)

pub least_same : (P Q : Faults) (o : Option KernelFault) → IsLeast P o → ((l : ℕ) (r : KernelReason) → P l r → Q l r) → ((l : ℕ) (r : KernelReason) → Q l r → P l r) → IsLeast Q o
least_same P Q o least to from = least_covers P Q o least to (λ l r q. (l, r, from l r q, up_to_itself l (number r)))

-- ---- the least of all is the first

pub numbered : (r : Rule) → number (reason_of r) ≡ number_of r
numbered K5 = refl
numbered K6 = refl
numbered K7 = refl
numbered K8 = refl
numbered K9 = refl
numbered K10 = refl
numbered K11 = refl
numbered K12 = refl
numbered K13 = refl
numbered K14 = refl
numbered K15 = refl

module _ (Falls : Item → Rule → Type 0) (m : ModuleView) where
  pub least_is_free : IsLeast (AllFaults Falls m) None → IsFree Falls m
  least_is_free least = nothing_is_free Falls m (λ l r f. least l (reason_of r) (r, refl, f))

  pub least_is_first : (f : KernelFault) → IsLeast (AllFaults Falls m) (Some f) → (rule : Rule) × (f.reason ≡ reason_of rule) × IsFirst Falls m f.line rule
  least_is_first f ((rule, is, fails), least) = (rule, is, record { fails = fails; least = behind })
    where
      behind : (l : ℕ) (r : Rule) → Fails Falls m l r → (f.line < l) ⊎ ((f.line ≡ l) × (number_of rule ≤ number_of r))
      behind l r other =
          subst (λ n. IsUpTo f.line n l (number_of r)) (ap number is ∙ numbered rule)
          (subst (λ n. IsUpTo f.line (number f.reason) l n) (numbered r) (least l (reason_of r) (r, refl, other)))
