-- The names of globals that a text prints differ.
use Rattle.std.proofs.Common.{◌≡◌, ℕ, false, List, [], ◌∷◌, ◌++◌, map, refl, sym, ◌∙◌, ap, subst}
use Rattle.std.specs.Prelude.{bytes_eq}
use Rattle.std.specs.List.{AllByRecursion, IsDistinct, flat_map}
use Rattle.ir_ast.specs.Program.{ModuleView}
use Rattle.ir_ast.specs.Table.{names_of}
use Rattle.ir_read.specs.Printing.{IsPrintedText, Section, declared_section, global_section, globals_in, labelled_section, layout_section, type_section, unlabelled_section}

all_left : (x : List ℕ) (a b : List (List ℕ)) → AllByRecursion (λ y. bytes_eq x y ≡ false) (a ++ b) → AllByRecursion (λ y. bytes_eq x y ≡ false) a
all_left x [] b h = tt
all_left x (y ∷ a) b h = (h.0, all_left x a b h.1)

distinct_left : (a b : List (List ℕ)) → IsDistinct bytes_eq (a ++ b) → IsDistinct bytes_eq a
unfolding IsDistinct
distinct_left [] b h = tt
distinct_left (x ∷ a) b h = (all_left x a b h.0, distinct_left a b h.1)

-- a global stands under its name
own_names : (sections : List Section) → names_of (flat_map globals_in sections) ≡ map (λ g. g.1.name) (flat_map globals_in sections)
own_names [] = refl
own_names (layout_section l ∷ sections) = own_names sections
own_names (type_section x t ∷ sections) = own_names sections
own_names (global_section g ∷ sections) = ap (λ names. g.name ∷ names) (own_names sections)
own_names (declared_section line name result ∷ sections) = own_names sections
own_names (labelled_section head first others ∷ sections) = own_names sections
own_names (unlabelled_section head instrs others ∷ sections) = own_names sections

pub globals_differ : (text : List ℕ) (m : ModuleView) → IsPrintedText text m → IsDistinct bytes_eq (map (λ g. g.1.name) m.globals)
globals_differ text m p =
    let tables = p.printed.tables.globals in
    let names : names_of m.globals ≡ map (λ g. g.1.name) m.globals = ap names_of tables ∙ own_names p.printed.sections ∙ ap (λ gs. map (λ g. g.1.name) gs) (sym tables) in
    subst (IsDistinct bytes_eq) names (distinct_left (names_of m.globals) (names_of m.functions) p.printed.scopes.symbols)
