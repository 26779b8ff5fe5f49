-- Tokens that this project leaves out, one by one.
use Rattle.std.specs.Prelude.{Bool, not, ◌&&◌, ◌||◌, List, codes}
use Rattle.ir_lex.specs.Lexeme.{Lexeme}
use Rattle.ir_lex.specs.Marks.{is_word, is_mark, front_passes}
use Rattle.ir_lex.specs.Items.{is_left_out_word, is_left_out_type, is_left_out_operation, is_wide}

-- the first words of what is left out
unfoldable pub first_word : Lexeme → Bool
first_word t = is_word (codes "undef") t || is_word (codes "volatile") t || is_word (codes "atomic") t || is_word (codes "asm") t || is_word (codes "thread_local") t || is_word (codes "addrspace") t

-- the first operations that are left out, these with the next, and the last
unfoldable pub first_operation : Lexeme → Bool
first_operation t = is_word (codes "ptrtoint") t || is_word (codes "inttoptr") t || is_word (codes "bitcast") t || is_word (codes "addrspacecast") t || is_word (codes "insertvalue") t || is_word (codes "invoke") t

unfoldable pub next_operation : Lexeme → Bool
next_operation t = first_operation t || is_word (codes "landingpad") t || is_word (codes "resume") t || is_word (codes "indirectbr") t || is_word (codes "callbr") t || is_word (codes "va_arg") t || is_word (codes "fence") t

unfoldable pub last_operation : Lexeme → Bool
last_operation t = is_word (codes "cmpxchg") t || is_word (codes "atomicrmw") t || is_word (codes "extractelement") t || is_word (codes "insertelement") t || is_word (codes "shufflevector") t

unfoldable pub out_word : Lexeme → Bool
out_word t = is_left_out_word t

unfoldable pub out_type : Lexeme → Bool
out_type t = is_left_out_type t

unfoldable pub out_operation : Lexeme → Bool
out_operation t = is_left_out_operation t

unfoldable pub out_wide : Lexeme → Bool
out_wide t = is_wide t

-- this token is left out, where these stand behind it
unfoldable pub is_left_out : Lexeme → List Lexeme → Bool
is_left_out t ts =
    out_word t || out_type t || out_operation t || out_wide t || is_mark 42 t
    || (is_mark 60 t && not (front_passes (is_mark 123) ts))
