-- The two texts of a workload of size n: a template with a part for each handler k, from 0 to n - 1.

use Rattle.std.specs.Prelude.{ℕ, ◌%◌, ◌==◌, if◌then◌else◌, List, [], ◌∷◌, ◌++◌, map, codes}
use Rattle.std.specs.List.{concat, flat_map, range_with_len}
use Rattle.std.specs.Fmt.{decimal}

-- a line: its pieces and a newline
abbrev pub line : List (List ℕ) → List ℕ
line pieces = concat pieces ++ codes "\n"

abbrev pub lines : List (List (List ℕ)) → List ℕ
lines pieces = flat_map line pieces

-- handlers 3, 7, 11, .. let the number of processes itself pass
abbrev pub predicate : ℕ → List ℕ
predicate k = if k % 4 == 3 then codes "ule" else codes "ult"

-- what a handler does to its field, in the kernel and in the specification
abbrev pub operation : ℕ → List ℕ
operation k = if k % 3 == 0 then codes "add" else (if k % 3 == 1 then codes "xor" else codes "sub")

abbrev pub operator : ℕ → List ℕ
operator k = if k % 3 == 0 then codes "+" else (if k % 3 == 1 then codes "^" else codes "-")

-- its field, in the kernel and in the specification
abbrev pub field : ℕ → List ℕ
field k = decimal (k % 2)

abbrev pub field_name : ℕ → List ℕ
field_name k = if k % 2 == 0 then codes "a" else codes "b"

abbrev pub kernel_head : ℕ → List ℕ
kernel_head n = lines (
    (codes "%struct.proc = type { i32, i32 }" ∷ [])
    ∷ (codes "@procs = global [" ∷ decimal n ∷ codes " x %struct.proc] zeroinitializer, align 4" ∷ [])
    ∷ [])

abbrev pub kernel_handler : ℕ → ℕ → List ℕ
kernel_handler n k = lines (
    (codes "define i32 @s" ∷ decimal k ∷ codes "(i32 %pid, i32 %x) {" ∷ [])
    ∷ (codes "  %c = icmp " ∷ predicate k ∷ codes " i32 %pid, " ∷ decimal n ∷ [])
    ∷ (codes "  br i1 %c, label %ok, label %bad" ∷ [])
    ∷ (codes "ok:" ∷ [])
    ∷ (codes "  %i = zext i32 %pid to i64" ∷ [])
    ∷ (codes "  %p = getelementptr inbounds [" ∷ decimal n ∷ codes " x %struct.proc], ptr @procs, i64 0, i64 %i, i32 " ∷ field k ∷ [])
    ∷ (codes "  %v = load i32, ptr %p, align 4" ∷ [])
    ∷ (codes "  %w = " ∷ operation k ∷ codes " i32 %v, %x" ∷ [])
    ∷ (codes "  store i32 %w, ptr %p, align 4" ∷ [])
    ∷ (codes "  ret i32 0" ∷ [])
    ∷ (codes "bad:" ∷ [])
    ∷ (codes "  ret i32 -1" ∷ [])
    ∷ (codes "}" ∷ [])
    ∷ [])

abbrev pub spec_head : ℕ → List ℕ
spec_head n = lines (
    (codes "PidT = Index(32, " ∷ decimal n ∷ codes ")" ∷ [])
    ∷ (codes "class S:" ∷ [])
    ∷ (codes "    a = Map(PidT, Bits(32))" ∷ [])
    ∷ (codes "    b = Map(PidT, Bits(32))" ∷ [])
    ∷ (codes "def equiv(kernel, state):" ∷ [])
    ∷ (codes "    p = Var(PidT)" ∷ [])
    ∷ (codes "    return And(ForAll([p], state.a(p) == kernel.procs[p].f0), ForAll([p], state.b(p) == kernel.procs[p].f1))" ∷ [])
    ∷ [])

abbrev pub spec_handler : ℕ → ℕ → List ℕ
spec_handler n k = lines (
    (codes "def s" ∷ decimal k ∷ codes "(state, pid, x):" ∷ [])
    ∷ (codes "    new = state.copy()" ∷ [])
    ∷ (codes "    new." ∷ field_name k ∷ codes "[pid] = state." ∷ field_name k ∷ codes "(pid) " ∷ operator k ∷ codes " x" ∷ [])
    ∷ (codes "    return ULT(pid, " ∷ decimal n ∷ codes "), new" ∷ [])
    ∷ [])

-- the handlers from 0 to n - 1
abbrev pub handlers : (ℕ → List ℕ) → ℕ → List ℕ
handlers handler n = concat (map handler (range_with_len 0 n))

abbrev pub kernel_text : ℕ → List ℕ
kernel_text n = kernel_head n ++ handlers (kernel_handler n) n

abbrev pub spec_text : ℕ → List ℕ
spec_text n = spec_head n ++ handlers (spec_handler n) n
