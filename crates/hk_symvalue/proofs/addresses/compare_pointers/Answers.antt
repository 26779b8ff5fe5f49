use Rattle.std.proofs.Common.{◌≡◌, ◌∙◌, ◌||◌, ◌&&◌, not, false, rules}
use Rattle.hk_term.specs.Meaning.{value}
use Rattle.ir_value.specs.Numbers.{truth}
use Rattle.hk_symvalue.specs.Meaning.{is_true, meaning}
use Rattle.hk_symvalue.specs.Rows.{flagged, pointers_stick, pointers_hold}
use Rattle.hk_symvalue.proofs.AddressLaws.{pointer_answers}
use Rattle.hk_symvalue.proofs.addresses.compare_pointers.Goals as goal

pub returns-clause-answers : goal.returns-clause-answers
returns-clause-answers c = λ v.
    let old = c.args.t.now in
    let last = c.offset_of-2.new.t in
    let p = c.args.predicate in
    let sa = value old c.args.size_a v in
    let sb = value old c.args.size_b v in
    let a = value old c.args.a.base v in
    let x = value old c.args.a.bits v in
    let b = value old c.args.b.base v in
    let y = value old c.args.b.bits v in
    let pa = is_true old c.args.a.poison v in
    let pb = is_true old c.args.b.poison v in
    let base_a : value last c.args.a.base v ≡ a = search rules in
    let place_a : value last c.in_ok-x.x v ≡ x = search rules in
    let base_b : value last c.args.b.base v ≡ b = search rules in
    let place_b : value last c.in_ok-y.y v ≡ y = search rules in
    let size_a : value last c.args.size_a v ≡ sa = search rules in
    let size_b : value last c.args.size_b v ≡ sb = search rules in
    let sticks : is_true c.pointers_stick.new.t c.in_ok-sticks.sticks v ≡ pointers_stick p sa sb a x b y =
    c.in_ok-sticks.ensures.value v ∙ (λ i. pointers_stick p (size_a i) (size_b i) (base_a i) (place_a i) (base_b i) (place_b i)) in
    let first : is_true c.pointers_stick.new.t c.args.a.poison v ≡ pa = search rules in
    let second : is_true c.pointers_stick.new.t c.args.b.poison v ≡ pb = search rules in
    let known : is_true c.where_known.new.t c.in_ok-stuck.stuck v ≡ (not (pa || pb) && pointers_stick p sa sb a x b y) =
    c.in_ok-stuck.ensures.value v ∙ (λ i. not (first i || second i) && sticks i) in
    let stuck : is_true c.number_of.new.t c.in_ok-stuck.stuck v ≡ is_true c.where_known.new.t c.in_ok-stuck.stuck v = search rules in
    let later_a : value c.where_known.new.t c.args.a.base v ≡ a = search rules in
    let later_x : value c.where_known.new.t c.in_ok-x.x v ≡ x = search rules in
    let later_b : value c.where_known.new.t c.args.b.base v ≡ b = search rules in
    let later_y : value c.where_known.new.t c.in_ok-y.y v ≡ y = search rules in
    let told : is_true c.pointers_hold.new.t c.in_ok-bit.bit v ≡ pointers_hold p a x b y =
    c.in_ok-bit.ensures.value v ∙ (λ i. pointers_hold p (later_a i) (later_x i) (later_b i) (later_y i)) in
    let bit : value c.pointers_hold.new.t c.in_ok-bit.bit v ≡ truth (is_true c.pointers_hold.new.t c.in_ok-bit.bit v) = search rules in
    let last_a : is_true c.constant.new.t c.args.a.poison v ≡ pa = search rules in
    let last_b : is_true c.constant.new.t c.args.b.poison v ≡ pb = search rules in
    let last_bit : value c.constant.new.t c.in_ok-bit.bit v ≡ value c.pointers_hold.new.t c.in_ok-bit.bit v = search rules in
    let shows : meaning c.number_of.new.t c.in_ok-value.value v ≡ flagged ((pa || pb) || false) (value c.pointers_hold.new.t c.in_ok-bit.bit v) =
    c.in_ok-value.ensures.value v ∙ (λ i. flagged ((last_a i || last_b i) || c.in_ok-never.ensures.value v i) (last_bit i)) in
    pointer_answers p sa sb a x b y _ _ pa pb _ _ (stuck ∙ known) told bit shows
