-- What is added to the code's lists is added to the plain ones.
use Rattle.std.proofs.Common.{◌≡◌, ◌≤◌, ◌<◌, ◌^◌, ◌+◌, ℕ, Bool, true, false, cond, ◌||◌, is_some, Result, Ok, Err, List, [], ◌∷◌, ◌++◌, map, length, length-append, refl, sym, ◌∙◌, ap, arith}
use Rattle.std.specs.Prelude.{position, bytes_eq}
use Rattle.ir_ast.specs.ProgramView.{view_entries, view_block, view_instr, view_global, view_function, view_type_entry, view_range}
use Rattle.ir_ast.specs.Table.{names_of, place_of}
use Rattle.ir_ast.specs.declared.instr.Block.{Block}
use Rattle.ir_ast.specs.declared.instr.Instr.{Instr}
use Rattle.ir_ast.specs.declared.fault.KernelReason.{KernelReason}
use Rattle.ir_ast.specs.declared.fault.KernelReason.TheVariants.{K4}
use Rattle.ir_ast.specs.declared.global.TypeEntry.{TypeEntry}
use Rattle.ir_ast.specs.declared.global.RangeEntry.{RangeEntry}
use Rattle.ir_read.specs.Steps.{Out, with_entry, is_entry, is_symbol, types_in, ranges_in, with_new_global, with_function}
use Rattle.ir_ast.specs.declared.global.GlobalItem.{GlobalItem}
use Rattle.ir_ast.specs.declared.instr.Function.{Function}
use Rattle.ir_read.specs.declared.stop.Stop.{Stop}
use Rattle.ir_read.specs.declared.stop.Stop.TheVariants.{Refused, Memory}
use Rattle.ir_read.specs.declared.whole.Whole.{Whole}
use Rattle.ir_read.specs.Answers.{Becomes}
use Rattle.ir_read.specs.View.{view_whole, AreCounted}

mapped_added : {A B : Type 0} → (f : A → B) → (xs : List A) → (x : A) → map f (xs ++ x ∷ []) ≡ map f xs ++ f x ∷ []
mapped_added f [] x = refl
mapped_added f (y ∷ ys) x = ap (λ zs. f y ∷ zs) (mapped_added f ys x)

pub blocks_added : (blocks : List Block) (block : Block) → map view_block (blocks ++ block ∷ []) ≡ map view_block blocks ++ view_block block ∷ []
blocks_added blocks block = mapped_added view_block blocks block

pub instrs_added : (instrs : List Instr) (i : Instr) → map view_instr (instrs ++ i ∷ []) ≡ map view_instr instrs ++ view_instr i ∷ []
instrs_added instrs i = mapped_added view_instr instrs i

pub entries_added : {E V : Type 0} → (view : E → V) → (entries : List (List ℕ × E)) → (name : List ℕ) → (entry : E) → view_entries view (entries ++ (name, entry) ∷ []) ≡ view_entries view entries ++ (name, view entry) ∷ []
entries_added view entries name entry = mapped_added (λ e. (e.0, view e.1)) entries (name, entry)

names_viewed : {E V : Type 0} → (view : E → V) → (entries : List (List ℕ × E)) → names_of (view_entries view entries) ≡ names_of entries
names_viewed view [] = refl
names_viewed view (e ∷ es) = ap (λ ns. e.0 ∷ ns) (names_viewed view es)

pub place_viewed : {E V : Type 0} → (view : E → V) → (entries : List (List ℕ × E)) → (name : List ℕ) → place_of name (view_entries view entries) ≡ place_of name entries
place_viewed view entries name = ap (λ ns. position (bytes_eq name) ns) (names_viewed view entries)

out_map : {A B : Type 0} → (A → B) → Out A → Out B
out_map f (Ok a) = Ok (f a)
out_map f (Err reason) = Err reason

entry_by : {E V : Type 0} → (view : E → V) → (q : Bool) → (entries : List (List ℕ × E)) → (name : List ℕ) → (entry : E)
    → cond {A = Out (List (List ℕ × V))} q (Err K4) (Ok (view_entries view entries ++ (name, view entry) ∷ [])) ≡ out_map (view_entries view) (cond {A = Out (List (List ℕ × E))} q (Err K4) (Ok (entries ++ (name, entry) ∷ [])))
unfolding out_map
entry_by view true entries name entry = refl
entry_by view false entries name entry = ap (λ es. Ok es) (sym (entries_added view entries name entry))

entry_viewed : {E V : Type 0} → (view : E → V) → (entries : List (List ℕ × E)) → (name : List ℕ) → (entry : E) → with_entry name (view entry) (view_entries view entries) ≡ out_map (view_entries view) (with_entry name entry entries)
entry_viewed view entries name entry = rw (place_viewed view entries name) (entry_by view (is_entry name entries) entries name entry)

-- a table's answer, as the plain table's
pub entry_became : {E V : Type 0} → (view : E → V) → (r : Result (Unit {0}) Stop) → (name : List ℕ) → (entry : E) → (old new : List (List ℕ × E))
    → Becomes (λ x. x) r new (with_entry name entry old) → Becomes (view_entries view) r new (with_entry name (view entry) (view_entries view old))
unfolding out_map
entry_became view (Ok u) name entry old new h = entry_viewed view old name entry ∙ ap (out_map (view_entries view)) h
entry_became view (Err (Refused reason)) name entry old new h = entry_viewed view old name entry ∙ ap (out_map (view_entries view)) h
entry_became view (Err Memory) name entry old new h = tt

pub types_became : (r : Result (Unit {0}) Stop) → (w : Whole) → (name : List ℕ) → (entry : TypeEntry) → (new : List (List ℕ × TypeEntry)) → (count : ℕ) → Becomes (λ x. x) r new (with_entry name entry w.types)
    → Becomes view_whole r (record w { types = new; count = count }) (types_in (with_entry name (view_type_entry entry) (view_entries view_type_entry w.types)) (view_whole w))
types_became (Ok u) w name entry new count h = ap (λ o. types_in o (view_whole w)) (entry_became view_type_entry (Ok u) name entry w.types new h)
types_became (Err (Refused reason)) w name entry new count h = ap (λ o. types_in o (view_whole w)) (entry_became view_type_entry (Err (Refused reason)) name entry w.types new h)
types_became (Err Memory) w name entry new count h = tt

pub ranges_became : (r : Result (Unit {0}) Stop) → (w : Whole) → (name : List ℕ) → (entry : RangeEntry) → (new : List (List ℕ × RangeEntry)) → (count : ℕ) → Becomes (λ x. x) r new (with_entry name entry w.ranges)
    → Becomes view_whole r (record w { ranges = new; count = count }) (ranges_in (with_entry name (view_range entry) (view_entries view_range w.ranges)) (view_whole w))
ranges_became (Ok u) w name entry new count h = ap (λ o. ranges_in o (view_whole w)) (entry_became view_range (Ok u) name entry w.ranges new h)
ranges_became (Err (Refused reason)) w name entry new count h = ap (λ o. ranges_in o (view_whole w)) (entry_became view_range (Err (Refused reason)) name entry w.ranges new h)
ranges_became (Err Memory) w name entry new count h = tt

pub symbol_viewed : (w : Whole) (name : List ℕ) → is_symbol name (view_whole w) ≡ is_some (place_of name w.globals) || is_some (place_of name w.functions)
symbol_viewed w name = ap (λ o. is_some o || is_some (place_of name (view_entries view_function w.functions))) (place_viewed view_global w.globals name)
    ∙ ap (λ o. is_some (place_of name w.globals) || is_some o) (place_viewed view_function w.functions name)

pub counted_fits : (w : Whole) → AreCounted w → w.count < 2 ^ 32 → (length w.globals < 2 ^ 32) × (length w.functions < 2 ^ 32)
counted_fits w h n = (omega (arith, h.globals), omega (arith, h.functions))

pub length_added : {A : Type 0} → (xs : List A) → (x : A) → (n m : ℕ) → length xs ≤ n → m ≡ n + 1 → length (xs ++ x ∷ []) ≤ m
length_added xs x n m h e = omega (arith, length-append xs (x ∷ []))

either_false : (a b : Bool) → (a || b) ≡ false → (a ≡ false) × (b ≡ false)
either_false true b h = cc
either_false false b h = (refl, h)

new_entry : {E : Type 0} → (name : List ℕ) → (entry : E) → (entries : List (List ℕ × E)) → is_entry name entries ≡ false → with_entry name entry entries ≡ Ok (entries ++ (name, entry) ∷ [])
new_entry name entry entries h = rw h refl

ok_is : {A : Type 0} → (a b : A) → ◌≡◌ {A = Out A} (Ok a) (Ok b) → a ≡ b
ok_is a b h = cc

never_err : {A : Type 0} → {B : Type 0} → (a : A) → (reason : KernelReason) → ◌≡◌ {A = Out A} (Err reason) (Ok a) → B
never_err a reason h = absurd cc

pub globals_became : (r : Result (Unit {0}) Stop) → (w : Whole) → (name : List ℕ) → (g : GlobalItem) → (new : List (List ℕ × GlobalItem)) → (count : ℕ) → name ≡ g.name → is_symbol g.name (view_whole w) ≡ false
    → Becomes (λ x. x) r new (with_entry name g w.globals) → Becomes view_whole r (record w { globals = new; count = count }) (Ok (with_new_global (view_global g) (view_whole w)))
globals_became (Ok u) w name g new count same none h =
    let old = view_entries view_global w.globals in
    let was = entry_became view_global (Ok u) name g w.globals new h in
    let is = ap (λ n. with_entry n (view_global g) old) same ∙ new_entry g.name (view_global g) old (either_false (is_entry g.name old) (is_entry g.name (view_entries view_function w.functions)) none).0 in
    ap (λ gs. Ok (record (view_whole w) { globals = gs })) (ok_is _ _ (sym is ∙ was))
globals_became (Err (Refused reason)) w name g new count same none h =
    let old = view_entries view_global w.globals in
    let was = entry_became view_global (Err (Refused reason)) name g w.globals new h in
    let is = ap (λ n. with_entry n (view_global g) old) same ∙ new_entry g.name (view_global g) old (either_false (is_entry g.name old) (is_entry g.name (view_entries view_function w.functions)) none).0 in
    never_err _ reason (sym was ∙ is)
globals_became (Err Memory) w name g new count same none h = tt

pub functions_became : (r : Result (Unit {0}) Stop) → (w : Whole) → (name : List ℕ) → (f : Function) → (new : List (List ℕ × Function)) → (count : ℕ) → name ≡ f.name → is_symbol f.name (view_whole w) ≡ false
    → Becomes (λ x. x) r new (with_entry name f w.functions) → Becomes view_whole r (record w { functions = new; count = count }) (Ok (with_function (view_function f) (view_whole w)))
functions_became (Ok u) w name f new count same none h =
    let old = view_entries view_function w.functions in
    let was = entry_became view_function (Ok u) name f w.functions new h in
    let is = ap (λ n. with_entry n (view_function f) old) same ∙ new_entry f.name (view_function f) old (either_false (is_entry f.name (view_entries view_global w.globals)) (is_entry f.name old) none).1 in
    ap (λ fs. Ok (record (view_whole w) { functions = fs })) (ok_is _ _ (sym is ∙ was))
functions_became (Err (Refused reason)) w name f new count same none h =
    let old = view_entries view_function w.functions in
    let was = entry_became view_function (Err (Refused reason)) name f w.functions new h in
    let is = ap (λ n. with_entry n (view_function f) old) same ∙ new_entry f.name (view_function f) old (either_false (is_entry f.name (view_entries view_global w.globals)) (is_entry f.name old) none).1 in
    never_err _ reason (sym was ∙ is)
functions_became (Err Memory) w name f new count same none h = tt
