use Rattle.std.proofs.Common.{◌∙◌, ◌^◌, ◌<◌, ℕ, ◌&&◌, ap, subst}
use Rattle.std.specs.Prelude.{if◌then◌else◌, nat_eq}
use Rattle.hk_term.specs.Operations.{bit}
use Rattle.hk_term.specs.Meaning.{value}
use Rattle.spec_tree.specs.Sorted.{field_sorts}
use Rattle.spec_tree.specs.View.{view_spec}
use Rattle.hk_symexpr.specs.Naming.{index_values}
use Rattle.hk_symspec.specs.States.{numbers_at}
use Rattle.hk_symspec.specs.Ranges.{same_numbers}
use Rattle.hk_symspec.proofs.OverlayLaws.{behind, guard_bit}
use Rattle.hk_symspec.proofs.overlay.behind_write.Goals as goal

pub returns-clause-value : goal.returns-clause-value
returns-clause-value c = λ v state long entry.
    let w = c.args.w.now in
    let guard : ℕ = value c.args.t.now w.guard v in
    let P : ℕ → Type 0 = λ k. guard < 2 ^ k in
    let hit : ℕ = value c.is_hit.new.t c.in_ok-hit.hit v in
    behind (field_sorts (view_spec c.args.spec.now)) c.args.t.now v w c.args.field _ c.args.index.now state hit (value c.args.t.now c.args.found v) (value c.choose.new.t c.in_ok-made.made v)
    c.keys_of.ensures c.if-w-field.false c.requires.write c.requires.index long
    (c.in_ok-hit.ensures.value v (nat_eq guard 1) (guard_bit guard (subst P c.requires.write.truth (c.node-guard.ensures.holds.below v)))
    ∙ ap (λ x. bit (nat_eq guard 1 && same_numbers (numbers_at c.args.t.now x v) (index_values c.args.t.now c.args.index.now v))) c.as_slice.ensures)
    (c.in_ok-made.ensures.value v ∙ (λ j. if nat_eq hit 1 then c.in_ok-hit.ensures.keeps_values w.value c.requires.write.value v j else c.in_ok-hit.ensures.keeps_values c.args.found c.requires.found v j))
    entry
