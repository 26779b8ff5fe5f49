use Rattle.std.proofs.Common.{◌≡◌, true, sym, ◌∙◌, subst}
use Rattle.std.specs.Prelude.{IfSome}
use Rattle.ir_ast.specs.View.{view_type}
use Rattle.ir_ast.specs.ProgramView.{view_entries, view_type_entry}
use Rattle.ir_type.specs.Whole.{meant, is_same}
use Rattle.ir_whole.specs.Heads.{type_at}
use Rattle.ir_whole.specs.Numbers.{types_of}
use Rattle.ir_typing.proofs.InitialLaws.{known_is}
use Rattle.ir_typing.proofs.initial.is_of_known.Goals as goal

pub returns-then-same_type-clause-is : goal.returns-then-same_type-clause-is
returns-then-same_type-clause-is c =
    known_is (view_entries view_type_entry c.args.types.now) (view_type c.in-Some.known.now) (view_type c.args.over.now) (type_at (types_of c.args.numbers.now) c.args.number)
    (subst (λ o. IfSome o (λ t. is_same (meant (view_entries view_type_entry c.args.types.now) (view_type t.now)) (type_at (types_of c.args.numbers.now) c.args.number) ≡ true)) c.in-Some.is c.requires.known)
    (sym c.same_type.ensures ∙ c.if-same_type.true)
