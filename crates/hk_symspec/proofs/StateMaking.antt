-- States that are made.
use Rattle.std.proofs.Common.{◌≡◌, ◌<◌, ◌≤◌, ◌+◌, ◌^◌, ℕ, Some, None, List, [], ◌∷◌, length, map, arith, ap, sym, ◌∙◌, subst, refl}
use Rattle.std.specs.Prelude.{All}
use Rattle.std.proofs.lemmas.List.Elements.{All-cons}
use Rattle.hk_term.specs.Meaning.{Reading, value}
use Rattle.hk_term.specs.declared.node.Node.{Node}
use Rattle.hk_symmem.specs.Guarded.{MemoryView, memory_at}
use Rattle.spec_tree.specs.Plain.{Key, Spec}
use Rattle.spec_tree.specs.Sorted.{field_sorts, over_kernel, with_locals}
use Rattle.spec_tree.specs.Value.{Env}
use Rattle.spec_tree.specs.Meaning.{abstraction, in_memory, with_values}
use Rattle.hk_symexpr.specs.Naming.{AreIndexTerms, IsRead, index_values}
use Rattle.hk_symexpr.specs.declared.names.NamedTerm.{NamedTerm}
use Rattle.hk_symexpr.specs.declared.names.Limit.{Limit}
use Rattle.hk_symspec.specs.States.{free_state, numbers_at}
use Rattle.hk_symspec.specs.Standing.{AreKeyTerms, IsEquated, IsKernelOver, IsStateOver, IsSteady, IsSteadyMemory, entry_base}
use Rattle.hk_symspec.specs.Formulas.{IsFormula, Reads, formula_context, formula_scope}
use Rattle.hk_symspec.proofs.NameLaws.{agrees_self, kernel_reads}

-- the equations' local names were made
pub equated_made : (s : Spec) (old new : List Node) (m : MemoryView) (none locals : List NamedTerm) (limit : ℕ) → none ≡ [] → IsKernelOver s old m → IsKernelOver s new m
    → ((v : Reading) → memory_at new m v ≡ memory_at old m v)
    → IsFormula (over_kernel s) limit new [] locals entry_base
    → formula_context (over_kernel s) [] locals entry_base ≡ with_locals (formula_context (over_kernel s) [] none entry_base) s.equation_locals
    → ((v : Reading) (env : Env) → Reads (λ u. record { old = []; new = []; memory = memory_at old m u }) (over_kernel s) old [] none entry_base v env
    → Reads (λ u. record { old = []; new = []; memory = memory_at new m u }) (over_kernel s) new [] locals entry_base v (with_values (formula_context (over_kernel s) [] none entry_base) env s.equation_locals))
    → IsEquated s new m locals
equated_made s old new m none locals limit empty before over same formula context reads = record {
  kernel = over;
  named = formula.names.locals;
  widths = ap (λ c. c.locals) context ∙ ap (λ l. (with_locals (formula_context (over_kernel s) [] l entry_base) s.equation_locals).locals) empty;
  values = λ v still. sym (now v still).locals
      ∙ ap (λ l. (with_values (formula_context (over_kernel s) [] l entry_base) (in_memory (memory_at old m v)) s.equation_locals).locals) empty
      ∙ ap (λ x. (with_values (over_kernel s) (in_memory x) s.equation_locals).locals) (sym (same v));
}
  where
    now : (v : Reading) → IsSteadyMemory entry_base new (Some m) v
        → IsRead (λ u. record { old = []; new = []; memory = memory_at new m u }) (formula_context (over_kernel s) [] locals entry_base) new (formula_scope [] locals entry_base) v
        (with_values (formula_context (over_kernel s) [] none entry_base) (in_memory (memory_at old m v)) s.equation_locals)
    now v still =
        let P : List NamedTerm → Type 0 = λ l. Reads (λ u. record { old = []; new = []; memory = memory_at old m u }) (over_kernel s) old [] l entry_base v (in_memory (memory_at old m v)) in
        reads v (in_memory (memory_at old m v))
        (subst P (sym empty) (kernel_reads s old m entry_base v before (λ u a. sym (same u) ∙ still u a ∙ same v)))
        v (agrees_self (entry_base + 0) v)

pub none_over : (s : Spec) (nodes : List Node) (locals : List NamedTerm) (first : ℕ) → first + length s.fields ≤ 2 ^ 32
    → IsStateOver s nodes (record { memory = None; locals = locals; first = first; writes = [] })
none_over s nodes locals first fits = record { base = fits; writes = λ k d l. absurd (omega (arith, l)) }

pub none_steady : (s : Spec) (limit : ℕ) (nodes : List Node) (locals : List NamedTerm) (first : ℕ) (v : Reading)
    → IsSteady limit s nodes (record { memory = None; locals = locals; first = first; writes = [] }) v
none_steady s limit nodes locals first v = record { memory = λ u a. refl; state = λ u a. ap (free_state first (field_sorts s)) a.entry }

pub some_over : (s : Spec) (nodes : List Node) (m : MemoryView) (locals : List NamedTerm) (first : ℕ) → IsEquated s nodes m locals
    → IsStateOver s nodes (record { memory = Some m; locals = locals; first = first; writes = [] })
some_over s nodes m locals first e = record { base = e; writes = λ k d l. absurd (omega (arith, l)) }

pub some_steady : (s : Spec) (limit : ℕ) (old new : List Node) (m : MemoryView) (locals : List NamedTerm) (first : ℕ) (v : Reading)
    → ((v : Reading) → memory_at new m v ≡ memory_at old m v) → IsSteadyMemory limit old (Some m) v
    → IsSteady limit s new (record { memory = Some m; locals = locals; first = first; writes = [] }) v
some_steady s limit old new m locals first v same still = record {
  memory = λ u a. same u ∙ still u a ∙ sym (same v);
  state = λ u a. ap (abstraction s) (same u ∙ still u a ∙ sym (same v));
}

-- ---- index terms with their limits

pub index_terms_of : (nodes : List Node) (keys : List Key) (index : List ℕ) (limits : List Limit) → map (λ i. i.term) limits ≡ index → AreKeyTerms nodes keys index → AreIndexTerms nodes keys limits
index_terms_of nodes keys index limits e h = walk keys limits (subst (AreKeyTerms nodes keys) (sym e) h)
  where
    walk : (ks : List Key) (ls : List Limit) → AreKeyTerms nodes ks (map (λ i. i.term) ls) → AreIndexTerms nodes ks ls
    walk [] [] g = refl
    walk [] (l ∷ ls) g = cc
    walk (k ∷ ks) [] g = absurd g
    walk (k ∷ ks) (l ∷ ls) g = (g.0, g.1, walk ks ls g.2)

pub numbers_of : (nodes : List Node) (index : List ℕ) (limits : List Limit) (v : Reading) → map (λ i. i.term) limits ≡ index → index_values nodes limits v ≡ numbers_at nodes index v
numbers_of nodes index limits v e = walk limits ∙ ap (λ l. numbers_at nodes l v) e
  where
    walk : (ls : List Limit) → index_values nodes ls v ≡ numbers_at nodes (map (λ i. i.term) ls) v
    walk [] = refl
    walk (l ∷ ls) = ap (λ r. value nodes l.term v ∷ r) (walk ls)

pub terms_there : (nodes : List Node) (keys : List Key) (index : List ℕ) → AreKeyTerms nodes keys index → All (λ k. k < length nodes) index
terms_there nodes [] index h = λ k d l. let e : length index ≡ 0 = ap length h in absurd (omega (arith, l, e))
terms_there nodes (k ∷ ks) [] h = absurd h
terms_there nodes (k ∷ ks) (i ∷ is) h = All-cons (λ k. k < length nodes) i is h.0 (terms_there nodes ks is h.2)
