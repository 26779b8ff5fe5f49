-- Two phis that are read at once, within one turn.
use Rattle.std.specs.Prelude.{◌≡◌, refl, ℕ, ◌==◌, ◌&&◌, ◌||◌, Bool, true, false, Some, None, List, [], ◌∷◌, codes, pos}
use Rattle.ir_ast.specs.Plain.{Ty, integer, nothing, Val, local, global, number}
use Rattle.ir_ast.specs.Program.{Act, binary, compare, phi, store, goto, branch, give, unreachable, InstrView, BlockView, FunctionView}
use Rattle.ir_ast.specs.declared.instr.BinaryKind.TheVariants.{Add}
use Rattle.ir_ast.specs.declared.instr.Predicate.TheVariants.{Eq, Ult}
use Rattle.ir_ast.specs.declared.operand.Flags.{Flags}
use Rattle.hk_unroll.specs.declared.copies.BlockCopy.{BlockCopy}
use Rattle.hk_unroll.specs.Names.{names_of, fresh, block_name, register_name, phi_name, end_name}
use Rattle.hk_unroll.specs.Rebuilt.{Loops, made, rebuilt}

abbrev at : ℕ → ℕ → BlockCopy
at turns block = record { turns = turns; block = block }

abbrev no_flags : Flags
no_flags = record { nuw = false; nsw = false; exact = false; disjoint = false; nneg = false; inbounds = false }

abbrev pub looping : FunctionView
looping =
    record {
      line = 1;
      name = codes "rot";
      result = integer 8;
      parameters = ((integer 8, codes "x") ∷ (integer 8, codes "y") ∷ []);
      body = Some (
          record {
            line = 1;
            name = (codes "0");
            instrs =
                (record { line = 2; result = None; act = goto (codes "h") }
                ∷ []);
          }
          ∷ record {
            line = 3;
            name = (codes "h");
            instrs =
                (record { line = 4; result = Some (codes "a"); act = phi (integer 8) (((local (codes "x")), (codes "0")) ∷ ((local (codes "b")), (codes "h")) ∷ []) }
                ∷ record { line = 5; result = Some (codes "b"); act = phi (integer 8) (((local (codes "y")), (codes "0")) ∷ ((local (codes "a")), (codes "h")) ∷ []) }
                ∷ record { line = 6; result = Some (codes "i"); act = phi (integer 8) (((number (pos 0)), (codes "0")) ∷ ((local (codes "j")), (codes "h")) ∷ []) }
                ∷ record { line = 7; result = Some (codes "j"); act = binary Add no_flags 8 (local (codes "i")) (number (pos 1)) }
                ∷ record { line = 8; result = Some (codes "c"); act = compare false Eq (integer 8) (local (codes "i")) (number (pos 1)) }
                ∷ record { line = 9; result = None; act = branch (local (codes "c")) (codes "e") (codes "h") }
                ∷ []);
          }
          ∷ record {
            line = 10;
            name = (codes "e");
            instrs =
                (record { line = 11; result = None; act = give (integer 8) (Some (local (codes "b"))) }
                ∷ []);
          }
          ∷ []);
    }

-- what every path leaves
abbrev passed : ℕ → ℕ → Bool
passed by to = (by == 1) && (to == 2)

abbrev loops : Loops
loops = record { function = looping; most = 1; fresh = fresh (names_of looping); is_passed = passed }

some_rebuilt : rebuilt loops ≡
    record {
      line = 1;
      name = codes "rot";
      result = integer 8;
      parameters = ((integer 8, codes "x") ∷ (integer 8, codes "y") ∷ []);
      body = Some (
          record {
            line = 1;
            name = (codes "0");
            instrs =
                (record { line = 2; result = None; act = goto (codes "h") }
                ∷ []);
          }
          ∷ record {
            line = 3;
            name = (codes "h");
            instrs =
                (record { line = 4; result = Some (codes "a"); act = phi (integer 8) (((local (codes "x")), (codes "0")) ∷ []) }
                ∷ record { line = 5; result = Some (codes "b"); act = phi (integer 8) (((local (codes "y")), (codes "0")) ∷ []) }
                ∷ record { line = 6; result = Some (codes "i"); act = phi (integer 8) (((number (pos 0)), (codes "0")) ∷ []) }
                ∷ record { line = 7; result = Some (codes "j"); act = binary Add no_flags 8 (local (codes "i")) (number (pos 1)) }
                ∷ record { line = 8; result = Some (codes "c"); act = compare false Eq (integer 8) (local (codes "i")) (number (pos 1)) }
                ∷ record { line = 9; result = None; act = branch (local (codes "c")) (codes "e") (block_name 0 (at 1 1)) }
                ∷ []);
          }
          ∷ record {
            line = 10;
            name = (codes "e");
            instrs =
                (record { line = 4; result = Some (phi_name 0 (at 0 2) 2); act = phi (integer 8) (((local (codes "a")), (codes "h")) ∷ []) }
                ∷ record { line = 5; result = Some (phi_name 0 (at 0 2) 3); act = phi (integer 8) (((local (codes "b")), (codes "h")) ∷ []) }
                ∷ record { line = 6; result = Some (phi_name 0 (at 0 2) 4); act = phi (integer 8) (((local (codes "i")), (codes "h")) ∷ []) }
                ∷ record { line = 7; result = Some (phi_name 0 (at 0 2) 5); act = phi (integer 8) (((local (codes "j")), (codes "h")) ∷ []) }
                ∷ record { line = 8; result = Some (phi_name 0 (at 0 2) 6); act = phi (integer 1) (((local (codes "c")), (codes "h")) ∷ []) }
                ∷ record { line = 11; result = None; act = give (integer 8) (Some (local (phi_name 0 (at 0 2) 3))) }
                ∷ []);
          }
          ∷ record {
            line = 3;
            name = (block_name 0 (at 1 1));
            instrs =
                (record { line = 4; result = Some (register_name 0 1 2); act = phi (integer 8) (((local (codes "b")), (codes "h")) ∷ []) }
                ∷ record { line = 5; result = Some (register_name 0 1 3); act = phi (integer 8) (((local (codes "a")), (codes "h")) ∷ []) }
                ∷ record { line = 6; result = Some (register_name 0 1 4); act = phi (integer 8) (((local (codes "j")), (codes "h")) ∷ []) }
                ∷ record { line = 7; result = Some (register_name 0 1 5); act = binary Add no_flags 8 (local (register_name 0 1 4)) (number (pos 1)) }
                ∷ record { line = 8; result = Some (register_name 0 1 6); act = compare false Eq (integer 8) (local (register_name 0 1 4)) (number (pos 1)) }
                ∷ record { line = 9; result = None; act = branch (local (register_name 0 1 6)) (block_name 0 (at 1 2)) (end_name 0) }
                ∷ []);
          }
          ∷ record {
            line = 10;
            name = (block_name 0 (at 1 2));
            instrs =
                (record { line = 4; result = Some (phi_name 0 (at 1 2) 2); act = phi (integer 8) (((local (register_name 0 1 2)), (block_name 0 (at 1 1))) ∷ []) }
                ∷ record { line = 5; result = Some (phi_name 0 (at 1 2) 3); act = phi (integer 8) (((local (register_name 0 1 3)), (block_name 0 (at 1 1))) ∷ []) }
                ∷ record { line = 6; result = Some (phi_name 0 (at 1 2) 4); act = phi (integer 8) (((local (register_name 0 1 4)), (block_name 0 (at 1 1))) ∷ []) }
                ∷ record { line = 7; result = Some (phi_name 0 (at 1 2) 5); act = phi (integer 8) (((local (register_name 0 1 5)), (block_name 0 (at 1 1))) ∷ []) }
                ∷ record { line = 8; result = Some (phi_name 0 (at 1 2) 6); act = phi (integer 1) (((local (register_name 0 1 6)), (block_name 0 (at 1 1))) ∷ []) }
                ∷ record { line = 11; result = None; act = give (integer 8) (Some (local (phi_name 0 (at 1 2) 3))) }
                ∷ []);
          }
          ∷ record {
            line = 1;
            name = (end_name 0);
            instrs =
                (record { line = 1; result = None; act = unreachable }
                ∷ []);
          }
          ∷ []);
    }
some_rebuilt = refl
