use Rattle.std.proofs.Common.{rules, ◌≡◌, ◌∙◌, ap, ◌<◌, ◌≤◌, ℕ, List, length, sym, subst}
use Rattle.std.specs.Prelude.{All, slice_index_or}
use Rattle.hk_term.specs.Shape.{width}
use Rattle.hk_term.specs.Meaning.{value}
use Rattle.spec_tree.specs.Plain.{Spec, Key}
use Rattle.spec_tree.specs.Sorted.{FieldSort, field_sorts, no_field}
use Rattle.spec_tree.specs.View.{view_spec}
use Rattle.spec_tree.specs.Meaning.{State}
use Rattle.hk_symexpr.specs.Naming.{index_values}
use Rattle.hk_symspec.specs.declared.write.EntryWrite.{EntryWrite}
use Rattle.hk_symspec.specs.States.{after_writes, base_at}
use Rattle.hk_symspec.specs.Standing.{IsWriteOver}
use Rattle.hk_symspec.specs.Ranges.{IsEntry, IsLong}
use Rattle.hk_symspec.specs.KeptLaws.{KeepsValues, writes_over}
use Rattle.hk_symspec.proofs.OverlayLaws.{indices_kept, index_terms_kept}
use Rattle.hk_symspec.proofs.ReadLaws.{base_long, limits_kept, read_value}
use Rattle.hk_symspec.proofs.entries.read_entry.Goals as goal

pub behind_all-requires-clause-writes : goal.behind_all-requires-clause-writes
behind_all-requires-clause-writes g c =
    let fields : List FieldSort = field_sorts (view_spec c.args.spec.now) in
    subst (λ ws. All (IsWriteOver fields c.before_writes.new.t) ws) (sym (c.as_slice.ensures ∙ ap (λ a. a.writes) c.state.view_is))
    (writes_over fields c.args.t.now c.before_writes.new.t c.args.state.now.writes c.in_ok-found.ensures.longer c.in_ok-found.ensures.keeps_widths c.requires.over.writes)

pub behind_all-requires-clause-index : goal.behind_all-requires-clause-index
behind_all-requires-clause-index g c =
    index_terms_kept c.args.t.now c.before_writes.new.t _ c.args.index.now c.in_ok-found.ensures.longer c.in_ok-found.ensures.keeps_widths c.requires.index

pub behind_all-requires-2-clause-writes : goal.behind_all-requires-2-clause-writes
behind_all-requires-2-clause-writes g c =
    let longer : length c.args.t.now ≤ length c.behind_all.new.t = search rules in
    let widths : (k : ℕ) → k < length c.args.t.now → width c.behind_all.new.t k ≡ width c.args.t.now k = search rules in
    writes_over (field_sorts (view_spec c.args.spec.now)) c.args.t.now c.behind_all.new.t c.args.writes.now longer widths c.requires.writes

pub behind_all-requires-2-clause-index : goal.behind_all-requires-2-clause-index
behind_all-requires-2-clause-index g c =
    let longer : length c.args.t.now ≤ length c.behind_all.new.t = search rules in
    let widths : (k : ℕ) → k < length c.args.t.now → width c.behind_all.new.t k ≡ width c.args.t.now k = search rules in
    index_terms_kept c.args.t.now c.behind_all.new.t _ c.args.index.now longer widths c.requires.index

pub ranged-requires-clause-index : goal.ranged-requires-clause-index
ranged-requires-clause-index g c =
    let longer : length c.args.t.now ≤ length c.behind_all-2.new.t = search rules in
    let widths : (k : ℕ) → k < length c.args.t.now → width c.behind_all-2.new.t k ≡ width c.args.t.now k = search rules in
    index_terms_kept c.args.t.now c.behind_all-2.new.t _ c.args.index.now longer widths c.requires.index

pub returns-clause-value : goal.returns-clause-value
returns-clause-value g c = λ v limited steady still.
    let s : Spec = view_spec c.args.spec.now in
    let fields : List FieldSort = field_sorts s in
    let keys : List Key = (slice_index_or fields c.args.field no_field).keys in
    let k1 : KeepsValues c.args.t.now c.before_writes.new.t = c.in_ok-found.ensures.keeps_values in
    let k2 : KeepsValues c.args.t.now c.behind_all.new.t = search rules in
    let k3 : KeepsValues c.args.t.now c.behind_all-2.new.t = search rules in
    let E : List EntryWrite → Type 0 = λ ws. (st : State) → IsLong fields st → IsEntry fields c.args.field (index_values c.before_writes.new.t c.args.index.now v) st (value c.before_writes.new.t c.in_ok-found.found v)
    → IsEntry fields c.args.field (index_values c.before_writes.new.t c.args.index.now v) (after_writes fields c.before_writes.new.t v ws st) (value c.behind_all.new.t c.in_ok-earlier.earlier v) in
    read_value fields c.args.t.now c.before_writes.new.t c.behind_all.new.t c.behind_all-2.new.t v c.args.field c.args.index.now c.args.state.now.writes c.args.writes.now
    (base_at s c.args.t.now c.args.state.now.memory c.args.state.now.first v)
    (value c.before_writes.new.t c.in_ok-found.found v) (value c.behind_all.new.t c.in_ok-earlier.earlier v) (value c.behind_all-2.new.t c.in_ok-later.later v) (value c.ranged.new.t c.in_ok-made.made v)
    k1 k2 k3 c.requires.index c.requires.over.writes c.requires.writes
    (base_long s c.args.t.now c.args.state.now.memory c.args.state.now.locals c.args.state.now.first v c.requires.spec c.requires.over.base)
    (c.in_ok-found.ensures.value v limited steady still)
    (subst E (c.as_slice.ensures ∙ ap (λ a. a.writes) c.state.view_is) (λ st. c.in_ok-earlier.ensures.value v st))
    (λ st. c.in_ok-later.ensures.value v st)
    (λ st. c.in_ok-made.ensures.value v (limits_kept c.args.t.now c.behind_all-2.new.t c.args.index.now v (indices_kept c.args.t.now c.behind_all-2.new.t keys c.args.index.now v k3 c.requires.index) limited) st)
