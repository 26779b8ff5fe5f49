use Rattle.std.proofs.Common.{rules, ◌≡◌, ◌<◌, [], ℕ, List, length, ap, subst, sym, ◌∙◌}
use Rattle.std.specs.Prelude.{map, slice_get, slice_index_or}
use Rattle.std.specs.List.{All}
use Rattle.hk_term.specs.Meaning.{value}
use Rattle.hk_symmem.specs.declared.row.Row.{Row}
use Rattle.hk_symmem.specs.Guarded.{Keeps, IsWriteOver, after_writes}
use Rattle.hk_symmem.specs.Reading.{IsRead}
use Rattle.hk_symmem.proofs.Laws.{memories_kept, write_kept, after_writes_kept}
use Rattle.hk_symmem.proofs.RowLaws.{place_within, writes_over, read_first, read_behind, no_elements}
use Rattle.hk_symmem.proofs.memory.SymMemory.read.Goals as goal

pub writes_of-writes-requires : goal.writes_of-writes-requires
writes_of-writes-requires g c = subst (λ rs. c.args.object < length rs) (sym c.deref.ensures.value)
    (place_within _ c.self.inside.rows.items c.args.self.now c.args.object c.self.view_is c.self.invariant c.requires.object)

pub returns-in_err-found-clause-keeps_memories : goal.returns-in_err-found-clause-keeps_memories
returns-in_err-found-clause-keeps_memories g c = memories_kept _ _ (record { longer = c.initial.ensures.longer; widths = c.initial.ensures.keeps_widths; values = c.initial.ensures.keeps_values })

pub returns-then-writes-eq0-clause-keeps_memories : goal.returns-then-writes-eq0-clause-keeps_memories
returns-then-writes-eq0-clause-keeps_memories g c = memories_kept _ _ (record { longer = c.initial.ensures.longer; widths = c.initial.ensures.keeps_widths; values = c.initial.ensures.keeps_values })

pub returns-in_err-made-clause-keeps_memories : goal.returns-in_err-made-clause-keeps_memories
returns-in_err-made-clause-keeps_memories g c = memories_kept _ _ (record { longer = search rules; widths = search rules; values = search rules })

pub returns-clause-keeps_memories : goal.returns-clause-keeps_memories
returns-clause-keeps_memories g c = memories_kept _ _ (record { longer = search rules; widths = search rules; values = search rules })

pub returns-then-writes-eq0-clause-value : goal.returns-then-writes-eq0-clause-value
returns-then-writes-eq0-clause-value g c = λ v.
    let is : slice_index_or (map (λ (r : Row). r.writes.items) c.self.inside.rows.items) c.args.object [] ≡ c.writes_of-writes.result.now =
    ap (λ rs. slice_index_or (map (λ (r : Row). r.writes.items) rs) c.args.object []) (sym c.deref.ensures.value) ∙ sym c.writes_of-writes.ensures in
    read_first c.args.t.now v _ c.self.inside.rows.items c.args.self.now c.args.object (value c.args.t.now c.args.offset v) c.args.bytes _ c.self.view_is c.requires.object
    (is ∙ no_elements c.writes_of-writes.result.now c.if-writes-eq0.true) (c.in_ok-found.ensures.value v)

pub behind_all-requires-clause-writes : goal.behind_all-requires-clause-writes
behind_all-requires-clause-writes g c = λ k d l.
    let keeps : Keeps c.args.t.now c.initial.new.t = record { longer = c.initial.ensures.longer; widths = c.initial.ensures.keeps_widths; values = c.initial.ensures.keeps_values } in
    let is : slice_index_or (map (λ (r : Row). r.writes.items) c.self.inside.rows.items) c.args.object [] ≡ c.writes_of-writes.result.now =
    ap (λ rs. slice_index_or (map (λ (r : Row). r.writes.items) rs) c.args.object []) (sym c.deref.ensures.value) ∙ sym c.writes_of-writes.ensures in
    write_kept c.args.t.now c.initial.new.t _ keeps
    (subst (λ ws. All (IsWriteOver c.args.t.now) ws) is
    (writes_over c.args.t.now _ c.self.inside.rows.items c.args.self.now c.args.object c.self.view_is c.requires.over
    (place_within _ c.self.inside.rows.items c.args.self.now c.args.object c.self.view_is c.self.invariant c.requires.object)) k d l)

turn : (p p' m n new : ℕ) (b y y' : List ℕ) → p' ≡ p → y' ≡ y → (IsRead p' m b n → IsRead p' m y' new) → IsRead p m b n → IsRead p m y new
turn p p' m n new b y y' ep ey h read = subst (λ q. IsRead p m q new) ey (subst (λ q. IsRead q m y' new) ep (h (subst (λ q. IsRead q m b n) (sym ep) read)))

pub returns-clause-value : goal.returns-clause-value
returns-clause-value g c = λ v.
    let keeps : Keeps c.args.t.now c.initial.new.t = record { longer = c.initial.ensures.longer; widths = c.initial.ensures.keeps_widths; values = c.initial.ensures.keeps_values } in
    let is : slice_index_or (map (λ (r : Row). r.writes.items) c.self.inside.rows.items) c.args.object [] ≡ c.writes_of-writes.result.now =
    ap (λ rs. slice_index_or (map (λ (r : Row). r.writes.items) rs) c.args.object []) (sym c.deref.ensures.value) ∙ sym c.writes_of-writes.ensures in
    read_behind c.args.t.now v _ c.self.inside.rows.items c.args.self.now c.args.object (value c.args.t.now c.args.offset v) c.args.bytes c.size_at-size.result
    (value c.initial.new.t c.in_ok-found.found v) _ c.self.view_is c.self.invariant c.requires.object
    (ap (λ rs. slice_get (map (λ (r : Row). r.size) rs) c.args.object) (sym c.deref-2.ensures.value) ∙ c.size_at-size.ensures) c.size_at-size.type_inv
    (λ e. c.if-writes-eq0.false (ap length (sym is ∙ e)))
    (c.in_ok-found.ensures.value v)
    (λ b. turn (value c.args.t.now c.args.offset v) (value c.initial.new.t c.args.offset v) c.args.bytes (value c.initial.new.t c.in_ok-found.found v) (value c.behind_all.new.t c.in_ok-made.made v) b
    (after_writes c.args.t.now v (slice_index_or (map (λ (r : Row). r.writes.items) c.self.inside.rows.items) c.args.object []) b)
    (after_writes c.initial.new.t v c.writes_of-writes.result.now b)
    (c.initial.ensures.keeps_values c.args.offset c.requires.offset v)
    (ap (λ ws. after_writes c.initial.new.t v ws b) (sym is)
    ∙ after_writes_kept c.args.t.now c.initial.new.t v (slice_index_or (map (λ (r : Row). r.writes.items) c.self.inside.rows.items) c.args.object []) b keeps
    (writes_over c.args.t.now _ c.self.inside.rows.items c.args.self.now c.args.object c.self.view_is c.requires.over
    (place_within _ c.self.inside.rows.items c.args.self.now c.args.object c.self.view_is c.self.invariant c.requires.object)))
    (c.in_ok-made.ensures.value v b))
