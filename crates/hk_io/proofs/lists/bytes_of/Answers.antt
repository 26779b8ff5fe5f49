use Rattle.std.proofs.Common.{rules, sym, ◌∙◌, ap, ◌≡◌, None, Some}
use Rattle.std.specs.Option.{option_copied, option_map}
use Rattle.hk_io.specs.Held.{file_of}
use Rattle.hk_io.proofs.HeldLemmas.{lookup_found}
use Rattle.hk_io.proofs.lists.bytes_of.Goals as goal

pub returns-in_err-file : goal.returns-in_err-file
returns-in_err-file c =
    let none : option_copied c.from_residual.result ≡ None = search rules in
    none ∙ ap (option_map (λ file. (file_of file).1)) c.in_err-file.ensures ∙ sym (lookup_found file_of c.args.name.now c.args.files.now)

pub returns : goal.returns
returns c =
    ap Some c.deref.ensures.value ∙ ap (option_map (λ file. (file_of file).1)) c.in_ok-file.ensures ∙ sym (lookup_found file_of c.args.name.now c.args.files.now)
