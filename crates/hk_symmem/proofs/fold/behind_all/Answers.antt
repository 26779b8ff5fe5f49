use Rattle.std.proofs.Common.{rules, ◌≡◌, ℕ, List, take, ap, subst, sym, ◌∙◌}
use Rattle.hk_term.specs.Meaning.{value}
use Rattle.hk_simplify.proofs.FormLaws.{grows-trans}
use Rattle.hk_symmem.specs.Guarded.{after_write, after_writes, Keeps, IsWriteOver}
use Rattle.hk_symmem.specs.Reading.{IsRead}
use Rattle.hk_symmem.proofs.Laws.{after_write_kept}
use Rattle.hk_symmem.proofs.Wholes.{after_more}
use Rattle.hk_symmem.proofs.fold.behind_all.Goals as goal

turn : (p p' m n new : ℕ) (b y y' z : List ℕ) → p' ≡ p → y' ≡ y → z ≡ y → (IsRead p' m b n → IsRead p' m y' new) → IsRead p m b n → IsRead p m z new
turn p p' m n new b y y' z ep ey ez h read =
    subst (λ q. IsRead p m q new) (sym ez) (subst (λ q. IsRead p m q new) ey (subst (λ q. IsRead q m y' new) ep (h (subst (λ q. IsRead q m b n) (sym ep) read))))

pub loop-w-preserved : goal.loop-w-preserved
loop-w-preserved c =
    let keeps : Keeps c.args.t.now c.loop-w.t = record { longer = search rules; widths = search rules; values = search rules } in
    let over : IsWriteOver c.args.t.now c.w-item.result = subst (IsWriteOver c.args.t.now) (sym c.w-item.is) (c.requires.writes c.loop-w.w-index c.w-item.result c.loop-w-test.true) in
    record {
      within = search rules;
      size = search rules;
      is = λ v b read. turn (value c.args.t.now c.args.offset v) (value c.loop-w.t c.args.offset v) c.args.bytes (value c.loop-w.t c.loop-w.made v) _
          (after_writes c.args.t.now v (take c.loop-w.w-index c.args.writes.now) b)
          (after_write c.args.t.now v c.w-item.result (after_writes c.args.t.now v (take c.loop-w.w-index c.args.writes.now) b)) _ _
          (keeps.values c.args.offset c.requires.offset v)
          (after_write_kept c.args.t.now c.loop-w.t v c.w-item.result (after_writes c.args.t.now v (take c.loop-w.w-index c.args.writes.now) b) keeps over)
          (after_more c.args.t.now v c.args.writes.now c.loop-w.w-index c.w-item.result b c.loop-w-test.true
          ∙ ap (λ w. after_write c.args.t.now v w (after_writes c.args.t.now v (take c.loop-w.w-index c.args.writes.now) b)) (sym c.w-item.is))
          (c.in_ok-made.ensures.value v (after_writes c.args.t.now v (take c.loop-w.w-index c.args.writes.now) b))
          (c.loop-w.invariant.is v b read);
      keeps_widths = search rules;
      keeps_values = search rules;
      longer = search rules;
      grows = grows-trans _ _ _ c.loop-w.invariant.grows c.behind.ensures.grows;
    }
