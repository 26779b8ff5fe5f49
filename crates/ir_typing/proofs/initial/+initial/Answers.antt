use Rattle.std.proofs.Common.{◌≡◌, ◌<◌, ◌+◌, refl, sym, ◌∙◌, ap, le_refl, length, drop, option_map, arith}
use Rattle.ir_ast.specs.View.{view_type, view_init, view_inits}
use Rattle.ir_ast.specs.ProgramView.{view_entries, view_type_entry}
use Rattle.ir_type.specs.Whole.{meant, is_same}
use Rattle.ir_whole.specs.Heads.{type_at}
use Rattle.ir_whole.specs.Numbers.{types_of}
use Rattle.ir_typing.specs.Fits.{init_fits, fields_fit}
use Rattle.ir_typing.specs.Initial.{fields_in, behind}
use Rattle.ir_typing.proofs.InitialLaws.{bytes_seen, part_at, field_there, elements_start, elements_more, fields_start, fields_more, fields_other, fields_misfit, fields_over, fields_end, told_none, drop_end}
use Rattle.ir_typing.proofs.initial.+initial.Goals as goal

pub init_fits-returns-in-Bytes-clause-fits : goal.init_fits-returns-in-Bytes-clause-fits
init_fits-returns-in-Bytes-clause-fits t c =
    c.bytes_fit.ensures (view_entries view_type_entry c.args.types.now)
    ∙ ap (init_fits (view_entries view_type_entry c.args.types.now) (type_at (types_of c.args.numbers.now) c.args.over)) (sym (ap view_init c.in-Bytes.is ∙ bytes_seen c.in-Bytes.bytes))

pub elements_fit-each-init : goal.elements_fit-each-init
elements_fit-each-init t c = record {
  own = c.requires.own;
  longer = le_refl _;
  keeps = λ k l. refl;
  known = tt;
  rest = elements_start (view_entries view_type_entry c.args.types.now) c.args.count (type_at (types_of c.args.numbers.now) c.args.element) c.args.parts.now c.as_slice-items.result.now c.as_slice-items.ensures.value;
}

pub elements_fit-each-preserved : goal.elements_fit-each-preserved
elements_fit-each-preserved t c =
    let within : c.args.element < length (types_of c.each.numbers) = omega (arith, c.requires.element, c.each.invariant.longer) in
    let same : c.in_ok-is_of_known.field-0 ≡ is_same (meant (view_entries view_type_entry c.args.types.now) (view_type c.part-item.result.0)) (type_at (types_of c.args.numbers.now) c.args.element) =
    c.in_ok-is_of_known.ensures.is ∙ ap (is_same (meant (view_entries view_type_entry c.args.types.now) (view_type c.part-item.result.0))) (c.each.invariant.keeps c.args.element c.requires.element) in
    let fits : c.in_ok-init_fits.field-0 ≡ init_fits (view_entries view_type_entry c.args.types.now) (type_at (types_of c.args.numbers.now) c.args.element) (view_init c.part-item.result.1) =
    c.in_ok-init_fits.ensures.fits
    ∙ ap (λ u. init_fits (view_entries view_type_entry c.args.types.now) u (view_init c.part-item.result.1)) (c.is_of_known.ensures.keeps c.args.element within ∙ c.each.invariant.keeps c.args.element c.requires.element) in
    record {
      own = c.init_fits.ensures.own;
      longer = omega (arith, c.each.invariant.longer, c.is_of_known.ensures.longer, c.init_fits.ensures.longer);
      keeps = λ k l.
          c.init_fits.ensures.keeps k (omega (arith, l, c.each.invariant.longer, c.is_of_known.ensures.longer))
          ∙ c.is_of_known.ensures.keeps k (omega (arith, l, c.each.invariant.longer)) ∙ c.each.invariant.keeps k l;
      known = sym same ∙ c.if-not-branch.false;
      rest =
          elements_more (view_entries view_type_entry c.args.types.now) c.each.left (type_at (types_of c.args.numbers.now) c.args.element) c.as_slice-items.result.now c.each.part-index c.part-item.result
          c.in_ok-is_of_known.field-0 c.in_ok-init_fits.field-0 (part_at c.as_slice-items.result.now c.each.part-index c.part-item.result c.part-item.is c.each-test.true) c.if-left-eq0.false
          same c.if-not-branch.false fits c.if-not-branch-2.false
          ∙ c.each.invariant.rest;
    }

pub fields_fit-each-init : goal.fields_fit-each-init
fields_fit-each-init t c = record {
  own = c.requires.own;
  longer = le_refl _;
  keeps = λ k l. refl;
  place = refl;
  rest = fields_start (view_entries view_type_entry c.args.types.now) (fields_in (type_at (types_of c.args.numbers.now) c.args.over)) c.args.parts.now c.as_slice-items.result.now c.as_slice-items.ensures.value;
}

pub fields_fit-each-preserved : goal.fields_fit-each-preserved
fields_fit-each-preserved t c =
    let fits : c.in_ok-init_fits.field-0 ≡ init_fits (view_entries view_type_entry c.args.types.now) (type_at (types_of c.each.numbers) c.in-Some.field) (view_init c.part-item.result.1) =
    c.in_ok-init_fits.ensures.fits ∙ ap (λ u. init_fits (view_entries view_type_entry c.args.types.now) u (view_init c.part-item.result.1)) (c.is_of.ensures.keeps c.in-Some.field c.in-Some.ensures.within) in
    record {
      own = c.init_fits.ensures.own;
      longer = omega (arith, c.each.invariant.longer, c.is_of.ensures.longer, c.init_fits.ensures.longer);
      keeps = λ k l.
          c.init_fits.ensures.keeps k (omega (arith, l, c.each.invariant.longer, c.is_of.ensures.longer))
          ∙ c.is_of.ensures.keeps k (omega (arith, l, c.each.invariant.longer)) ∙ c.each.invariant.keeps k l;
      place = ap (λ k. k + 1) c.each.invariant.place;
      rest =
          fields_more (view_entries view_type_entry c.args.types.now) (fields_in (type_at (types_of c.args.numbers.now) c.args.over)) (type_at (types_of c.each.numbers) c.in-Some.field)
          c.as_slice-items.result.now c.each.part-index c.each.place c.part-item.result c.in_ok-is_of.field-0 c.in_ok-init_fits.field-0
          (part_at c.as_slice-items.result.now c.each.part-index c.part-item.result c.part-item.is c.each-test.true)
          (field_there (type_at (types_of c.args.numbers.now) c.args.over) (type_at (types_of c.each.numbers) c.args.over) c.each.place _ (c.each.invariant.keeps c.args.over c.requires.over) c.in-Some.ensures.field)
          c.in_ok-is_of.ensures.is c.if-not-branch.false fits c.if-not-branch-2.false
          ∙ c.each.invariant.rest;
    }

pub fields_fit-returns-in_default-clause-fits : goal.fields_fit-returns-in_default-clause-fits
fields_fit-returns-in_default-clause-fits t c =
    fields_over (view_entries view_type_entry c.args.types.now) (fields_in (type_at (types_of c.args.numbers.now) c.args.over))
    c.as_slice-items.result.now c.each.part-index c.each.place c.part-item.result
    (part_at c.as_slice-items.result.now c.each.part-index c.part-item.result c.part-item.is c.each-test.true)
    (field_there (type_at (types_of c.args.numbers.now) c.args.over) (type_at (types_of c.each.numbers) c.args.over) c.each.place _ (c.each.invariant.keeps c.args.over c.requires.over) c.in_default.ensures.field)
    ∙ c.each.invariant.rest

pub fields_fit-returns-then-not-branch-clause-fits : goal.fields_fit-returns-then-not-branch-clause-fits
fields_fit-returns-then-not-branch-clause-fits t c =
    fields_other (view_entries view_type_entry c.args.types.now) (fields_in (type_at (types_of c.args.numbers.now) c.args.over)) (type_at (types_of c.each.numbers) c.in-Some.field)
    c.as_slice-items.result.now c.each.part-index c.each.place c.part-item.result c.in_ok-is_of.field-0
    (part_at c.as_slice-items.result.now c.each.part-index c.part-item.result c.part-item.is c.each-test.true)
    (field_there (type_at (types_of c.args.numbers.now) c.args.over) (type_at (types_of c.each.numbers) c.args.over) c.each.place _ (c.each.invariant.keeps c.args.over c.requires.over) c.in-Some.ensures.field)
    c.in_ok-is_of.ensures.is c.if-not-branch.true
    ∙ c.each.invariant.rest

pub fields_fit-returns-then-not-branch-2-clause-fits : goal.fields_fit-returns-then-not-branch-2-clause-fits
fields_fit-returns-then-not-branch-2-clause-fits t c =
    let fits : c.in_ok-init_fits.field-0 ≡ init_fits (view_entries view_type_entry c.args.types.now) (type_at (types_of c.each.numbers) c.in-Some.field) (view_init c.part-item.result.1) =
    c.in_ok-init_fits.ensures.fits ∙ ap (λ u. init_fits (view_entries view_type_entry c.args.types.now) u (view_init c.part-item.result.1)) (c.is_of.ensures.keeps c.in-Some.field c.in-Some.ensures.within) in
    fields_misfit (view_entries view_type_entry c.args.types.now) (fields_in (type_at (types_of c.args.numbers.now) c.args.over)) (type_at (types_of c.each.numbers) c.in-Some.field)
    c.as_slice-items.result.now c.each.part-index c.each.place c.part-item.result c.in_ok-is_of.field-0 c.in_ok-init_fits.field-0
    (part_at c.as_slice-items.result.now c.each.part-index c.part-item.result c.part-item.is c.each-test.true)
    (field_there (type_at (types_of c.args.numbers.now) c.args.over) (type_at (types_of c.each.numbers) c.args.over) c.each.place _ (c.each.invariant.keeps c.args.over c.requires.over) c.in-Some.ensures.field)
    c.in_ok-is_of.ensures.is c.if-not-branch.false fits c.if-not-branch-2.true
    ∙ c.each.invariant.rest

pub fields_fit-returns-clause-fits : goal.fields_fit-returns-clause-fits
fields_fit-returns-clause-fits t c =
    let all : drop c.each.part-index c.as_slice-items.result.now ≡ _ = drop_end c.as_slice-items.result.now c.each.part-index c.each-test.false in
    told_none (type_at (types_of c.each.numbers)) c.field-2.result c.is_none.result c.is_none.ensures
    ∙ fields_end (view_entries view_type_entry c.args.types.now) (fields_in (type_at (types_of c.args.numbers.now) c.args.over)) c.each.place (option_map (type_at (types_of c.each.numbers)) c.field-2.result)
    (sym (field_there (type_at (types_of c.args.numbers.now) c.args.over) (type_at (types_of c.each.numbers) c.args.over) c.each.place _ (c.each.invariant.keeps c.args.over c.requires.over) c.field-2.ensures.field))
    ∙ ap (λ is. fields_fit (view_entries view_type_entry c.args.types.now) (behind c.each.place (fields_in (type_at (types_of c.args.numbers.now) c.args.over))) (view_inits is)) (sym all)
    ∙ c.each.invariant.rest
