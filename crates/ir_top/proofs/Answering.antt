-- What a call that reads exactly answers, in the words of the spelling.
use Rattle.std.proofs.Common.{Result, Ok, Err, IfOk, IfErr, List}
use Rattle.ir_lex.specs.Tok.{Tok}
use Rattle.ir_lex.specs.Items.{SpellsTop}
use Rattle.ir_part.specs.Reader.{Gives}
use Rattle.ir_part.specs.declared.stop.PartStop.{PartStop}
use Rattle.ir_part.specs.declared.stop.PartStop.TheVariants.{NotSpelled, Memory}
use Rattle.ir_top.specs.Tops.{top_at}
use Rattle.ir_top.specs.TopView.{view_top, IsTopStop}
use Rattle.ir_top.specs.declared.item.TopItem.{TopItem}
use Rattle.ir_top.proofs.TopLaws.{top_sound, none_spelled}

pub gives_read : (r : Result TopItem PartStop) (ts : List Tok) → Gives view_top r (top_at ts) → IfOk r (λ top. SpellsTop (view_top top) ts)
gives_read (Ok top) ts h = top_sound ts (view_top top) h
gives_read (Err why) ts h = tt

pub gives_unread : (r : Result TopItem PartStop) (ts : List Tok) → Gives view_top r (top_at ts) → IfErr r (IsTopStop ts)
gives_unread (Ok top) ts h = tt
gives_unread (Err NotSpelled) ts h = λ top s. none_spelled ts top h s
gives_unread (Err Memory) ts h = tt
