-- What is asked of a head, by its parts, is so of its type.
use Rattle.std.proofs.Common.{◌≡◌, ℕ, zero, suc, Bool, true, false, ◌||◌, List, [], ◌∷◌, ◌++◌, map, refl, sym, ◌∙◌, ap}
use Rattle.std.specs.List.{list_any}
use Rattle.std.proofs.lemmas.List.Folds.{list_any-append}
use Rattle.ir_ast.specs.Plain.{Ty, Tys, integer}
use Rattle.ir_type.specs.Names.{parts_of, all_parts_of}
use Rattle.ir_type.specs.Whole.{is_odd, is_pointer}
use Rattle.ir_whole.specs.declared.head.Head.{Head}
use Rattle.ir_whole.specs.declared.head.Head.TheVariants.{Opaque, Void, Int, Ptr, Array, Struct, Packed}
use Rattle.ir_whole.specs.declared.node.Facts.{Facts}
use Rattle.ir_whole.specs.Heads.{type_at, fields, type_of}
use Rattle.ir_whole.specs.Kept.{no_facts, either, type_facts, fact_at, row_facts, head_facts}

or_none : (a : Bool) → (a || false) ≡ a
or_none true = refl
or_none false = refl

or_assoc : (a b c : Bool) → ((a || b) || c) ≡ (a || (b || c))
or_assoc true b c = refl
or_assoc false b c = refl

-- what is asked of fields behind others of which this is so
abbrev fields_facts : Facts → Tys → Facts
fields_facts all ts = record { odd = all.odd || list_any is_odd (all_parts_of ts); pointer = all.pointer || list_any is_pointer (all_parts_of ts) }

pub fact_is : (types : List Ty) (n : ℕ) → fact_at (map type_facts types) n ≡ type_facts (type_at types n)
fact_is [] n = refl
fact_is (t ∷ types) zero = refl
fact_is (t ∷ types) (suc n) = fact_is types n

joined : (p : Ty → Bool) (a : Bool) (t : Ty) (rest : List Ty) → ((a || list_any p (parts_of t)) || list_any p rest) ≡ (a || list_any p (parts_of t ++ rest))
joined p a t rest = or_assoc a (list_any p (parts_of t)) (list_any p rest) ∙ ap (λ b. a || b) (sym (list_any-append p (parts_of t) rest))

row_is : (types : List Ty) (all : Facts) (row : List ℕ) → row_facts (map type_facts types) all row ≡ fields_facts all (fields types row)
row_is types all [] = λ i. record { odd = sym (or_none all.odd) i; pointer = sym (or_none all.pointer) i }
row_is types all (p ∷ row) =
    ap (λ f. row_facts (map type_facts types) (either all f) row) (fact_is types p)
    ∙ row_is types (either all (type_facts (type_at types p))) row
    ∙ (λ i. record { odd = joined is_odd all.odd (type_at types p) (all_parts_of (fields types row)) i; pointer = joined is_pointer all.pointer (type_at types p) (all_parts_of (fields types row)) i })

pub facts_are : (types : List Ty) (h : Head) → head_facts (map type_facts types) h ≡ type_facts (type_of types h)
facts_are types Opaque = refl
facts_are types Void = refl
facts_are types (Int w) = λ i. record { odd = sym (or_none (is_odd (integer w))) i; pointer = false }
facts_are types Ptr = refl
facts_are types (Array n e) = fact_is types e
facts_are types (Struct row) = row_is types no_facts row
facts_are types (Packed row) = row_is types no_facts row
