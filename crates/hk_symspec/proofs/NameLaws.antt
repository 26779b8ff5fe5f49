-- A local name more, and what is read then.
use Rattle.std.proofs.Common.{◌≡◌, ℕ, zero, suc, ◌+◌, ◌^◌, ◌<◌, ◌≤◌, List, [], ◌∷◌, ◌++◌, length, drop, drop-cons, add-one, refl, sym, ◌∙◌, ap, subst, arith, get_or}
use Rattle.std.specs.Prelude.{All, Some}
use Rattle.std.proofs.lemmas.List.{map-append}
use Rattle.hk_term.specs.Meaning as term
use Rattle.hk_term.specs.Meaning.{Reading}
use Rattle.hk_term.specs.declared.node.Node.{Node}
use Rattle.hk_symmem.specs.Guarded.{MemoryView, memory_at}
use Rattle.spec_tree.specs.Plain.{Tree, Spec}
use Rattle.spec_tree.specs.Sorted.{Context, AreLocals, IsFieldSort, IsSorted, over_kernel, with_local, with_locals}
use Rattle.spec_tree.specs.Value.{Env, value, bit, holds}
use Rattle.spec_tree.specs.Meaning.{in_memory, with_value, with_values}
use Rattle.hk_symexpr.specs.Sources.{Source, Agrees}
use Rattle.hk_symexpr.specs.Naming.{IsNamed, IsRead}
use Rattle.hk_symexpr.specs.declared.names.NamedTerm.{NamedTerm}
use Rattle.hk_symspec.specs.Standing.{IsKernelOver, IsSteadyMemory}
use Rattle.hk_symspec.specs.KeptLaws.{names_kept}
use Rattle.hk_symspec.specs.Formulas.{IsFormula, Reads, formula_context, formula_scope}

pub agrees_then : (limit : ℕ) (v u w : Reading) → Agrees limit v u → Agrees limit u w → Agrees limit v w
agrees_then limit v u w a b = record { entry = b.entry ∙ a.entry; var = λ id l. b.var id l ∙ a.var id l }

pub agrees_self : (limit : ℕ) (v : Reading) → Agrees limit v v
agrees_self limit v = record { entry = refl; var = λ id l. refl }

-- what is read where one more name stands for the term of an expression
pub reads_more : (source source' : Reading → Source) (c : Context) (old new : List Node) (args locals : List NamedTerm) (base : ℕ) (e : Tree) (n : NamedTerm)
    → ((k : ℕ) → k < length old → (v : Reading) → term.value new k v ≡ term.value old k v)
    → ((v : Reading) → source' v ≡ source v)
    → All (IsNamed old) args → All (IsNamed old) locals
    → ((v : Reading) (env : Env) → Reads source c old args locals base v env → term.value new n.term v ≡ value (formula_context c args locals base) env e)
    → (v : Reading) (env : Env) → Reads source c old args locals base v env
    → Reads source' c new args (locals ++ n ∷ []) base v (with_value (formula_context c args locals base) env e)
reads_more source source' c old new args locals base e n keeps same named locals_named is v env s u a = record {
  read = same u ∙ r.read;
  memory = r.memory;
  args = r.args ∙ sym (names_kept old new args u keeps named);
  locals = (λ i. (r.locals ∙ sym (names_kept old new locals u keeps locals_named)) i ++ sym number i ∷ []) ∙ sym (map-append (λ l. term.value new l.term u) locals (n ∷ []));
  bounds = r.bounds;
  below = r.below;
  known = λ k d l. absurd (omega (arith, l));
}
  where
    r : IsRead source (formula_context c args locals base) old (formula_scope args locals base) u env
    r = s u a

    number : term.value new n.term u ≡ value (formula_context c args locals base) env e
    number = is u env (λ w b. s w (agrees_then (base + 0) v u w a b))

pub part_at : {X : Type 0} (items : List X) (k : ℕ) (part : X) → part ≡ get_or items k part → k < length items → drop k items ≡ part ∷ drop (k + 1) items
part_at items k part e l = drop-cons items k part l ∙ ap (λ x. x ∷ drop (suc k) items) (sym e) ∙ ap (λ q. part ∷ drop q items) (sym (add-one k))

-- the names that are left, where the first of them was put
pub sorted_left : (c c' : Context) (e : Tree) (left rest : List Tree) → left ≡ e ∷ rest → c' ≡ with_local c e → AreLocals c left → IsSorted c e × AreLocals c' rest
sorted_left c c' e left rest is context sorted =
    let both : AreLocals c (e ∷ rest) = subst (AreLocals c) is sorted in
    let P : Context → Type 0 = λ x. AreLocals x rest in
    (both.0, subst P (sym context) both.1)

pub context_left : (c c' : Context) (e : Tree) (left rest : List Tree) → left ≡ e ∷ rest → c' ≡ with_local c e → with_locals c' rest ≡ with_locals c left
context_left c c' e left rest is context = ap (λ x. with_locals x rest) context ∙ ap (with_locals c) (sym is)

-- behind what is read now, the names that are left lead to what is read behind all names
pub record Leads (source : Reading → Source) (c : Context) (nodes : List Node) (args locals : List NamedTerm) (base : ℕ) (left : List Tree) (v : Reading) (last : Env) : Type 0 where
  pub now : Env
  pub reads : Reads source c nodes args locals base v now
  pub ends : with_values (formula_context c args locals base) now left ≡ last

pub leads_on : (source source' : Reading → Source) (c : Context) (old new : List Node) (args locals locals' : List NamedTerm) (base : ℕ) (e : Tree) (left rest : List Tree)
    → left ≡ e ∷ rest
    → formula_context c args locals' base ≡ with_local (formula_context c args locals base) e
    → ((v : Reading) (env : Env) → Reads source c old args locals base v env → Reads source' c new args locals' base v (with_value (formula_context c args locals base) env e))
    → (v : Reading) (last : Env) → Leads source c old args locals base left v last → Leads source' c new args locals' base rest v last
leads_on source source' c old new args locals locals' base e left rest is context step v last l = record {
  now = with_value (formula_context c args locals base) l.now e;
  reads = step v l.now l.reads;
  ends = ap (λ x. with_values x (with_value (formula_context c args locals base) l.now e) rest) context
      ∙ ap (with_values (formula_context c args locals base) l.now) (sym is) ∙ l.ends;
}

pub drop_end : {X : Type 0} (items : List X) (k : ℕ) → length items ≤ k → drop k items ≡ []
drop_end [] zero l = refl
drop_end [] (suc k) l = refl
drop_end (x ∷ items) zero l = absurd (omega (arith, l))
drop_end (x ∷ items) (suc k) l = drop_end items k (omega (arith, l))

pub led : (source : Reading → Source) (c : Context) (nodes : List Node) (args locals : List NamedTerm) (base : ℕ) (left : List Tree) (v : Reading) (last : Env)
    → left ≡ [] → Leads source c nodes args locals base left v last → Reads source c nodes args locals base v last
led source c nodes args locals base left v last is l =
    subst (Reads source c nodes args locals base v) (ap (with_values (formula_context c args locals base) l.now) (sym is) ∙ l.ends) l.reads

-- what is read of a kernel
pub kernel_reads : (s : Spec) (nodes : List Node) (m : MemoryView) (base : ℕ) (v : Reading) → IsKernelOver s nodes m → IsSteadyMemory base nodes (Some m) v
    → Reads (λ u. record { old = []; new = []; memory = memory_at nodes m u }) (over_kernel s) nodes [] [] base v (in_memory (memory_at nodes m v))
kernel_reads s nodes m base v over steady u a = record {
  read = λ i. record { old = []; new = []; memory = steady u (record { entry = a.entry; var = λ id l. a.var id (omega (arith, l)) }) i };
  memory = λ _. over.whole v;
  args = refl;
  locals = refl;
  bounds = refl;
  below = refl;
  known = λ k d l. absurd (omega (arith, l));
}

-- a number of one bit is a truth
pub bit_of : (n : ℕ) → n < 2 → n ≡ bit (holds n)
bit_of zero l = refl
bit_of (suc zero) l = refl
bit_of (suc (suc n)) l = absurd (omega (arith, l))

pub begun_formula : (c : Context) (limit : ℕ) (nodes : List Node) (base : ℕ) → base ≤ limit → All IsFieldSort c.fields → All (λ n. n < 2 ^ 64) c.objects
    → IsFormula c limit nodes [] [] base
begun_formula c limit nodes base ids fields objects = record {
  names = record { args = λ k d l. absurd (omega (arith, l)); locals = λ k d l. absurd (omega (arith, l)); keys = λ k d l. absurd (omega (arith, l)); known = λ k d l. absurd (omega (arith, l)) };
  ids = ids;
  fields = fields;
  objects = objects;
}

-- the number of a truth behind its local names
pub body_value : (source source' : Reading → Source) (c : Context) (old middle new : List Node) (base : ℕ) (none put listed : List NamedTerm) (es : List Tree) (e : Tree) (r : ℕ)
    → none ≡ [] → listed ≡ put
    → formula_context c [] put base ≡ with_locals (formula_context c [] none base) es
    → ((v : Reading) (env : Env) → Reads source c old [] none base v env → Reads source' c middle [] put base v (with_values (formula_context c [] none base) env es))
    → ((v : Reading) (env : Env) → Reads source' c middle [] listed base v env → term.value new r v ≡ value (formula_context c [] listed base) env e)
    → ((v : Reading) → term.value new r v < 2)
    → (v : Reading) (env : Env) → Reads source c old [] [] base v env
    → term.value new r v ≡ bit (holds (value (with_locals (formula_context c [] [] base) es) (with_values (formula_context c [] [] base) env es) e))
body_value source source' c old middle new base none put listed es e r empty same context reads is small v env s =
    bit_of (term.value new r v) (small v) ∙ ap (λ n. bit (holds n)) (is v behind now ∙ told)
  where
    behind : Env
    behind = with_values (formula_context c [] none base) env es

    now : Reads source' c middle [] listed base v behind
    now = let P : List NamedTerm → Type 0 = λ l. Reads source' c middle [] l base v behind in
        let Q : List NamedTerm → Type 0 = λ l. Reads source c old [] l base v env in
        subst P (sym same) (reads v env (subst Q (sym empty) s))

    told : value (formula_context c [] listed base) behind e ≡ value (with_locals (formula_context c [] [] base) es) (with_values (formula_context c [] [] base) env es) e
    told = ap (λ l. value (formula_context c [] l base) behind e) same ∙ ap (λ x. value x behind e) context
        ∙ ap (λ l. value (with_locals (formula_context c [] l base) es) (with_values (formula_context c [] l base) env es) e) empty
