-- Entries of tables, seen as plain data, by the places of their names.
use Rattle.std.proofs.Common.{◌≡◌, ℕ, ◌+◌, Bool, true, false, cond, Option, Some, None, option_map, is_some, List, [], ◌∷◌, map, refl, sym, ◌∙◌, ap}
use Rattle.std.specs.List.{position_from}
use Rattle.std.proofs.lemmas.Iterator.Adapters.{position_from-zero}
use Rattle.std.specs.Prelude.{slice_get, bytes_eq, find, position}
use Rattle.ir_ast.specs.Program.{FunctionView, BlockView}
use Rattle.ir_ast.specs.Table.{place_of}
use Rattle.ir_ast.specs.ProgramView.{view_entries}
use Rattle.ir_type.specs.Names.{entry_of}
use Rattle.ir_type.proofs.Places.{at_place, no_place}
use Rattle.ir_typing.specs.Registers.{blocks_of, block_of}
use Rattle.ir_typing.specs.Places.{block_names}

-- the entry of a name among what is seen
pub entry_seen : {E V : Type 0} (view : E → V) (entries : List (List ℕ × E)) (x : List ℕ) → entry_of x (view_entries view entries) ≡ option_map view (entry_of x entries)
entry_seen view [] x = refl
entry_seen {E} {V} view (e ∷ entries) x = pick (bytes_eq x e.0) (entry_seen view entries x)
  where
    pick : (b : Bool) → entry_of x (view_entries view entries) ≡ option_map view (entry_of x entries)
        → option_map {T = List ℕ × V} (λ f. f.1) (cond b (Some (e.0, view e.1)) (find (λ f. bytes_eq x f.0) (view_entries view entries)))
        ≡ option_map view (option_map {T = List ℕ × E} (λ f. f.1) (cond b (Some e) (find (λ f. bytes_eq x f.0) entries)))
    pick true rest = refl
    pick false rest = rest

pub known_place : {E : Type 0} (entries : List (List ℕ × E)) (x : List ℕ) → is_some (place_of x entries) ≡ is_some (entry_of x entries)
known_place {E} entries x = pick (place_of x entries) refl
  where
    pick : (o : Option ℕ) → place_of x entries ≡ o → is_some o ≡ is_some (entry_of x entries)
    pick None h = sym (ap is_some (no_place entries x h))
    pick (Some p) h = sym (ap is_some (at_place entries x p h).1.found)

pub known_viewed : {E V : Type 0} (view : E → V) (entries : List (List ℕ × E)) (x : List ℕ) → is_some (place_of x entries) ≡ is_some (entry_of x (view_entries view entries))
known_viewed {E} {V} view entries x = known_place entries x ∙ same (entry_of x entries) ∙ sym (ap is_some (entry_seen view entries x))
  where
    same : (o : Option E) → is_some o ≡ is_some (option_map view o)
    same None = refl
    same (Some e) = refl

-- what a look-up gives is the entry
pub found_viewed : {E V : Type 0} (view : E → V) (entries : List (List ℕ × E)) (x : List ℕ) (p : ℕ) (e : E) → place_of x entries ≡ Some p
    → option_map (λ entry. entry.1) (slice_get entries p) ≡ Some e → Some (view e) ≡ entry_of x (view_entries view entries)
found_viewed {E} view entries x p e there is =
    let s = at_place entries x p there in
    let second : List ℕ × E → E = λ entry. entry.1 in
    sym (entry_seen view entries x ∙ ap (option_map view) (s.1.found ∙ sym (ap (option_map second) s.1.there) ∙ is))

pub none_viewed : {E V : Type 0} (view : E → V) (entries : List (List ℕ × E)) (x : List ℕ) → place_of x entries ≡ None → None ≡ entry_of x (view_entries view entries)
none_viewed view entries x h = sym (entry_seen view entries x ∙ ap (option_map view) (no_place entries x h))

-- ---- blocks

known_from : (x : List ℕ) (i : ℕ) (bs : List BlockView) → is_some (position_from (bytes_eq x) i (map (λ b. b.name) bs)) ≡ is_some (find (λ b. bytes_eq x b.name) bs)
known_from x i [] = refl
known_from x i (b ∷ bs) = pick (bytes_eq x b.name) (known_from x (i + 1) bs)
  where
    pick : (t : Bool) → is_some (position_from (bytes_eq x) (i + 1) (map (λ b. b.name) bs)) ≡ is_some (find (λ b. bytes_eq x b.name) bs)
        → is_some (cond t (Some i) (position_from (bytes_eq x) (i + 1) (map (λ b. b.name) bs))) ≡ is_some (cond t (Some b) (find (λ b. bytes_eq x b.name) bs))
    pick true rest = refl
    pick false rest = rest

pub known_block : (f : FunctionView) (x : List ℕ) → is_some (position (bytes_eq x) (block_names f)) ≡ is_some (block_of f x)
known_block f x = ap is_some (position_from-zero (bytes_eq x) (block_names f)) ∙ known_from x 0 (blocks_of f)
