-- An item is read exactly where its tokens spell it.
use Rattle.std.proofs.Common.{◌≡◌, ℕ, zero, suc, ◌<◌, length, get_or, arith, Bool, true, false, ◌&&◌, Option, Some, None, List, [], ◌∷◌, ◌++◌, refl, sym, ◌∙◌, ap, subst, inl, inr, append_assoc}
use Rattle.std.specs.Prelude.{if◌then◌else◌, Any}
use Rattle.ir_ast.specs.Program.{Act}
use Rattle.ir_lex.specs.Drop.{label_kind}
use Rattle.ir_lex.specs.Names.{plain_name}
use Rattle.ir_lex.specs.Tok.{Tok, word, mark, IsLocal}
use Rattle.ir_lex.specs.Items.{Inner, label_item, instr_item, close_item, SpellsInner}
use Rattle.ir_lex.specs.Rows.{Sets, does, might, never, Row, rows, SpellsSetting, SpellsRow, SpellsInstr}
use Rattle.ir_lex.specs.declared.token.TokenKind.TheVariants.{Word, Number, Quoted, Local, Global, Metadata, Attribute, Mark}
use Rattle.ir_part.specs.Reader.{◌>>=◌, Takes}
use Rattle.ir_part.specs.Fronts.{is_this_mark, after_mark, local_at}
use Rattle.ir_part.proofs.Fronts.{bound, some_is, if_some, mark_is, after_mark_is, local_sound}
use Rattle.ir_body.specs.Words.{operation_of}
use Rattle.ir_body.specs.Rows.{read_row, read_operation, sets_of, allows}
use Rattle.ir_body.specs.Items.{is_close, is_label, label_of, begins_setting, setting_at, instr_by, instr_at, inner_at}
use Rattle.ir_body.specs.declared.operation.Operation.{Operation}
use Rattle.ir_body.proofs.RowLaws.{row_sound, row_complete}
use Rattle.ir_body.proofs.OperationLaws.{RowReads, operation_found, Ready, EachReady, all_ready}

-- ---- what is read is spelled

-- the tokens of a setting
abbrev IsSetting : Option (List ℕ) → List Tok → Type 0
IsSetting None ts = ts ≡ []
IsSetting (Some name) ts = (register : List Tok) × IsLocal name register × (ts ≡ register ++ mark 61 ∷ [])

abbrev setting_read : Bool → List Tok → Option (Option (List ℕ) × List Tok)
setting_read b ts = if b then (local_at ts >>= (λ x. after_mark 61 x.1 >>= (λ rest. Some (Some x.0, rest)))) else Some (None, ts)

setting_found : (b : Bool) (ts : List Tok) (x : Option (List ℕ)) (rest : List Tok) → setting_read b ts ≡ Some (x, rest) → Takes IsSetting ts x rest
setting_found true ts x rest h =
    let n = bound (local_at ts) (λ (n : List ℕ × List Tok). after_mark 61 n.1 >>= (λ (us : List Tok). Some (Some n.0, us))) (x, rest) h in
    let m = bound (after_mark 61 n.value.1) (λ (us : List Tok). Some (Some n.value.0, us)) (x, rest) n.rest in
    let e : (Some n.value.0, m.value) ≡ (x, rest) = some_is m.rest in
    let s = local_sound ts n.value.0 n.value.1 n.was in
    let front = s.front ++ mark 61 ∷ [] in
    record {
      front = front;
      spelled = subst (λ y. IsSetting y front) (ap (λ q. q.0) e) (s.front, s.spelled, refl);
      parts = s.parts ∙ ap (λ us. s.front ++ us) (after_mark_is 61 n.value.1 m.value m.was ∙ ap (λ q. mark 61 ∷ q.1) e) ∙ sym (append_assoc s.front (mark 61 ∷ []) rest);
    }
setting_found false ts x rest h =
    let e : (None, ts) ≡ (x, rest) = some_is h in
    record { front = []; spelled = subst (λ y. IsSetting y []) (ap (λ q. q.0) e) refl; parts = ap (λ q. q.1) e }

setting_sound : (ts : List Tok) (x : Option (List ℕ)) (rest : List Tok) → setting_at ts ≡ Some (x, rest) → Takes IsSetting ts x rest
setting_sound ts x rest h = setting_found (begins_setting ts) ts x rest h

allowed : (sets : Sets) (result : Option (List ℕ)) (ts : List Tok) → allows sets result ≡ true → IsSetting result ts → SpellsSetting sets result ts
allowed does None ts h s = cc
allowed does (Some name) ts h s = s
allowed might None ts h s = s
allowed might (Some name) ts h s = s
allowed never None ts h s = s
allowed never (Some name) ts h s = cc

-- a row that reads spells the item
row_spells : (text : List ℕ) (operation : Operation) (result : Option (List ℕ)) (setting ts : List Tok) (act : Act) → allows (sets_of operation) result ≡ true → IsSetting result setting
    → (row : List ℕ × Row) → RowReads text operation ts act row → SpellsRow row result act (setting ++ word text ∷ ts)
row_spells text operation result setting ts act may s row r =
    let m = row_sound row.1 ts act r.2 in
    (setting, ts, m.got, subst (λ k. SpellsSetting k result setting) (sym r.1) (allowed (sets_of operation) result setting may s), m.spelled, m.built, ap (λ t. setting ++ word t ∷ ts) r.0)

any_map : {A : Type 0} (P Q : A → Type 0) → ((x : A) → P x → Q x) → (xs : List A) → Any P xs → Any Q xs
any_map P Q f xs h = (h.0, h.1, h.2, h.3, f h.1 h.4)

instr_made : (result : Option (List ℕ)) (setting : List Tok) (text : List ℕ) (ts : List Tok) (o : Option Operation) (inner : Inner) → IsSetting result setting → operation_of text ≡ o → instr_by result o ts ≡ Some inner
    → SpellsInner inner (setting ++ word text ∷ ts)
unfolding SpellsInstr
instr_made result setting text ts None inner s is h = cc
instr_made result setting text ts (Some operation) inner s is h =
    elim (if_some (allows (sets_of operation) result) (read_operation operation ts >>= (λ (act : Act). Some (instr_item result act))) None inner h) [
      | inl p ↦ (let b = bound (read_operation operation ts) (λ (act : Act). Some (instr_item result act)) inner p.1 in
          let e : instr_item result b.value ≡ inner = some_is b.rest in
          let found = operation_found text operation is ts b.value b.was in
          subst (λ i. SpellsInner i (setting ++ word text ∷ ts)) e
          (any_map (RowReads text operation ts b.value) (λ row. SpellsRow row result b.value (setting ++ word text ∷ ts)) (row_spells text operation result setting ts b.value p.0 s) rows found))
      | inr p ↦ (let wrong = p.1 in cc)
    ]

instr_sound : (result : Option (List ℕ)) (setting ts : List Tok) (inner : Inner) → IsSetting result setting → instr_at result ts ≡ Some inner → SpellsInner inner (setting ++ ts)
instr_sound result setting [] inner s h = cc
instr_sound result setting ((Word, text) ∷ ts) inner s h = instr_made result setting text ts (operation_of text) inner s refl h
instr_sound result setting ((Number, text) ∷ ts) inner s h = cc
instr_sound result setting ((Quoted, text) ∷ ts) inner s h = cc
instr_sound result setting ((Local, text) ∷ ts) inner s h = cc
instr_sound result setting ((Global, text) ∷ ts) inner s h = cc
instr_sound result setting ((Metadata, text) ∷ ts) inner s h = cc
instr_sound result setting ((Attribute, text) ∷ ts) inner s h = cc
instr_sound result setting ((Mark, text) ∷ ts) inner s h = cc

close_is : (ts : List Tok) → is_close ts ≡ true → ts ≡ mark 125 ∷ []
close_is [] h = cc
close_is (t ∷ []) h = ap (λ u. u ∷ []) (mark_is 125 t h)
close_is (t ∷ u ∷ ts) h = cc

both_true : (a b : Bool) → (a && b) ≡ true → (a ≡ true) × (b ≡ true)
both_true true b h = (refl, h)
both_true false b h = cc

label_sound : (ts : List Tok) (inner : Inner) → is_label ts ≡ true → label_of ts ≡ Some inner → SpellsInner inner ts
label_sound [] inner is h = cc
label_sound (t ∷ []) inner is h = cc
label_sound (t ∷ u ∷ []) inner is h =
    let p = both_true (label_kind t.0 t.1) (is_this_mark 58 u) is in
    let e : label_item (plain_name t.1) ≡ inner = some_is h in
    subst (λ i. SpellsInner i (t ∷ u ∷ [])) e (t.0, t.1, p.0, refl, ap (λ v. t ∷ v ∷ []) (mark_is 58 u p.1))
label_sound (t ∷ u ∷ v ∷ ts) inner is h = cc

pub inner_sound : (ts : List Tok) (inner : Inner) → inner_at ts ≡ Some inner → SpellsInner inner ts
unfolding inner_at
inner_sound ts inner h =
    elim (if_some (is_close ts) (Some close_item) (if is_label ts then label_of ts else (setting_at ts >>= (λ (s : Option (List ℕ) × List Tok). instr_at s.0 s.1))) inner h) [
      | inl p ↦ (let e : close_item ≡ inner = some_is p.1 in subst (λ i. SpellsInner i ts) e (close_is ts p.0))
      | inr p ↦ elim (if_some (is_label ts) (label_of ts) (setting_at ts >>= (λ (s : Option (List ℕ) × List Tok). instr_at s.0 s.1)) inner p.1) [
        | inl q ↦ label_sound ts inner q.0 q.1
        | inr q ↦ (let b = bound (setting_at ts) (λ (s : Option (List ℕ) × List Tok). instr_at s.0 s.1) inner q.1 in
            let s = setting_sound ts b.value.0 b.value.1 b.was in
            subst (λ us. SpellsInner inner us) (sym s.parts) (instr_sound b.value.0 s.front b.value.1 inner s.spelled b.rest))
      ]
    ]

-- ---- what is spelled is read

record Found (Q P : List ℕ × Row → Type 0) : Type 0 where
  row : List ℕ × Row
  one : Q row
  other : P row

ready_at : (xs : List (List ℕ × Row)) (i : ℕ) (x : List ℕ × Row) → EachReady xs → i < length xs → get_or xs i x ≡ x → Ready x
ready_at [] i x each below is = absurd (omega (arith, below))
ready_at (y ∷ xs) zero x each below is = subst Ready is each.0
ready_at (y ∷ xs) (suc i) x each below is = ready_at xs i x each.1 (omega (arith, below)) is

any_ready : (P : List ℕ × Row → Type 0) (xs : List (List ℕ × Row)) → EachReady xs → Any P xs → Found Ready P
any_ready P xs each h = record { row = h.1; one = ready_at xs h.0 h.1 each h.2 h.3; other = h.4 }

-- the word of an operation, with what it sets and what stands behind it
instr_there : (result : Option (List ℕ)) (text : List ℕ) (operation : Operation) (ts : List Tok) (act : Act) → operation_of text ≡ Some operation → allows (sets_of operation) result ≡ true
    → read_operation operation ts ≡ Some act → instr_at result (word text ∷ ts) ≡ Some (instr_item result act)
instr_there result text operation ts act is may reads =
    ap (λ o. instr_by result o ts) is
    ∙ ap (λ b. if b then (read_operation operation ts >>= (λ (a : Act). Some (instr_item result a))) else None) may
    ∙ ap (λ o. o >>= (λ (a : Act). Some (instr_item result a))) reads

allows_is : (sets : Sets) (result : Option (List ℕ)) (ts : List Tok) → SpellsSetting sets result ts → (allows sets result ≡ true) × IsSetting result ts
allows_is does None ts s = absurd s
allows_is does (Some name) ts s = (refl, s)
allows_is might None ts s = (refl, s)
allows_is might (Some name) ts s = (refl, s)
allows_is never None ts s = (refl, s)
allows_is never (Some name) ts s = absurd s

-- an item that sets a register
set_there : (name text : List ℕ) (register ts : List Tok) (act : Act) → IsLocal name register → instr_at (Some name) (word text ∷ ts) ≡ Some (instr_item (Some name) act)
    → inner_at ((register ++ mark 61 ∷ []) ++ word text ∷ ts) ≡ Some (instr_item (Some name) act)
unfolding inner_at
set_there name text register ts act s reads =
    ap (λ us. inner_at ((us ++ mark 61 ∷ []) ++ word text ∷ ts)) s.2 ∙ ap (λ n. instr_at (Some n) (word text ∷ ts)) s.1 ∙ reads

-- an item that sets none, and is no label
bare_there : (text : List ℕ) (ts : List Tok) (inner : Inner) → is_label (word text ∷ ts) ≡ false → instr_at None (word text ∷ ts) ≡ Some inner → inner_at (word text ∷ ts) ≡ Some inner
unfolding inner_at
bare_there text [] inner free reads = reads
bare_there text (u ∷ ts) inner free reads = ap (λ b. if b then label_of (word text ∷ u ∷ ts) else instr_at None (word text ∷ u ∷ ts)) free ∙ reads

no_label_by : (u : Tok) (b : Bool) → is_this_mark 58 u ≡ b → (u ∷ [] ≡ mark 58 ∷ [] → ⊥) → b ≡ false
no_label_by u true is free = absurd (free (ap (λ v. v ∷ []) (mark_is 58 u is)))
no_label_by u false is free = refl

no_label : (text : List ℕ) (ts : List Tok) → (ts ≡ mark 58 ∷ [] → ⊥) → is_label (word text ∷ ts) ≡ false
no_label text [] free = refl
no_label text (u ∷ []) free = no_label_by u (is_this_mark 58 u) refl free
no_label text (u ∷ v ∷ ts) free = refl

none_some : (act : Act) → None ≡ Some act → ⊥
none_some act e = cc

row_there : (row : List ℕ × Row) (ready : Ready row) (result : Option (List ℕ)) (act : Act) (ts : List Tok) → SpellsRow row result act ts → inner_at ts ≡ Some (instr_item result act)
row_there row ready None act ts s =
    let reads = row_complete row.1 ready.ready s.1 act s.2 s.4 s.5 in
    let may = allows_is row.1.sets None s.0 s.3 in
    let there = instr_there None row.0 ready.operation s.1 act ready.is (ap (λ k. allows k None) ready.sets ∙ may.0) (ready.reads s.1 act reads) in
    let shape : ts ≡ word row.0 ∷ s.1 = s.6 ∙ ap (λ us. us ++ word row.0 ∷ s.1) may.1 in
    ap inner_at shape ∙ bare_there row.0 s.1 (instr_item None act) (no_label row.0 s.1 (λ e. none_some act (sym ready.no_colon ∙ ap (read_row row.1) (sym e) ∙ reads))) there
row_there row ready (Some name) act ts s =
    let reads = row_complete row.1 ready.ready s.1 act s.2 s.4 s.5 in
    let may = allows_is row.1.sets (Some name) s.0 s.3 in
    let there = instr_there (Some name) row.0 ready.operation s.1 act ready.is (ap (λ k. allows k (Some name)) ready.sets ∙ may.0) (ready.reads s.1 act reads) in
    let shape : ts ≡ (may.1.0 ++ mark 61 ∷ []) ++ word row.0 ∷ s.1 = s.6 ∙ ap (λ us. us ++ word row.0 ∷ s.1) may.1.2 in
    ap inner_at shape ∙ set_there name row.0 may.1.0 s.1 act may.1.1 there

instr_complete : (result : Option (List ℕ)) (act : Act) (ts : List Tok) → SpellsInstr result act ts → inner_at ts ≡ Some (instr_item result act)
unfolding SpellsInstr
instr_complete result act ts s =
    let f = any_ready (λ row. SpellsRow row result act ts) rows all_ready s in
    row_there f.row f.one result act ts f.other

pub inner_complete : (inner : Inner) (ts : List Tok) → SpellsInner inner ts → inner_at ts ≡ Some inner
unfolding inner_at
inner_complete (label_item name) ts s =
    ap inner_at s.4 ∙ ap (λ b. if b && true then Some (label_item (plain_name s.1)) else (setting_at ((s.0, s.1) ∷ mark 58 ∷ []) >>= (λ (r : Option (List ℕ) × List Tok). instr_at r.0 r.1))) s.2 ∙ ap (λ n. Some (label_item n)) s.3
inner_complete (instr_item result act) ts s = instr_complete result act ts s
inner_complete close_item ts s = ap inner_at s

pub spelled_apart : (a b : Inner) (ts : List Tok) → SpellsInner a ts → SpellsInner b ts → a ≡ b
spelled_apart a b ts s r = some_is (sym (inner_complete a ts s) ∙ inner_complete b ts r)
