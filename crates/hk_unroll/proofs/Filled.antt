-- A loop that fills a byte, within one turn.
use Rattle.std.specs.Prelude.{◌≡◌, refl, ℕ, ◌==◌, ◌&&◌, ◌||◌, Bool, true, false, Some, None, List, [], ◌∷◌, codes, pos}
use Rattle.ir_ast.specs.Plain.{Ty, integer, nothing, Val, local, global, number}
use Rattle.ir_ast.specs.Program.{Act, binary, compare, phi, store, goto, branch, give, unreachable, InstrView, BlockView, FunctionView}
use Rattle.ir_ast.specs.declared.instr.BinaryKind.TheVariants.{Add}
use Rattle.ir_ast.specs.declared.instr.Predicate.TheVariants.{Eq, Ult}
use Rattle.ir_ast.specs.declared.operand.Flags.{Flags}
use Rattle.hk_unroll.specs.declared.copies.BlockCopy.{BlockCopy}
use Rattle.hk_unroll.specs.Names.{names_of, fresh, block_name, register_name, phi_name, end_name}
use Rattle.hk_unroll.specs.Rebuilt.{Loops, made, rebuilt}

abbrev at : ℕ → ℕ → BlockCopy
at turns block = record { turns = turns; block = block }

abbrev no_flags : Flags
no_flags = record { nuw = false; nsw = false; exact = false; disjoint = false; nneg = false; inbounds = false }

abbrev pub looping : FunctionView
looping =
    record {
      line = 2;
      name = codes "fill";
      result = nothing;
      parameters = [];
      body = Some (
          record {
            line = 2;
            name = (codes "0");
            instrs =
                (record { line = 3; result = None; act = goto (codes "h") }
                ∷ []);
          }
          ∷ record {
            line = 4;
            name = (codes "h");
            instrs =
                (record { line = 5; result = Some (codes "i"); act = phi (integer 8) (((number (pos 0)), (codes "0")) ∷ ((local (codes "j")), (codes "b")) ∷ []) }
                ∷ record { line = 6; result = Some (codes "c"); act = compare false Ult (integer 8) (local (codes "i")) (number (pos 3)) }
                ∷ record { line = 7; result = None; act = branch (local (codes "c")) (codes "b") (codes "e") }
                ∷ []);
          }
          ∷ record {
            line = 8;
            name = (codes "b");
            instrs =
                (record { line = 9; result = None; act = store (integer 8) (local (codes "i")) (global (codes "t")) 0 }
                ∷ record { line = 10; result = Some (codes "j"); act = binary Add no_flags 8 (local (codes "i")) (number (pos 1)) }
                ∷ record { line = 11; result = None; act = goto (codes "h") }
                ∷ []);
          }
          ∷ record {
            line = 12;
            name = (codes "e");
            instrs =
                (record { line = 13; result = None; act = give nothing None }
                ∷ []);
          }
          ∷ []);
    }

-- what every path leaves
abbrev passed : ℕ → ℕ → Bool
passed by to = (by == 1) && ((to == 2) || (to == 3))

abbrev loops : Loops
loops = record { function = looping; most = 1; fresh = fresh (names_of looping); is_passed = passed }

some_rebuilt : rebuilt loops ≡
    record {
      line = 2;
      name = codes "fill";
      result = nothing;
      parameters = [];
      body = Some (
          record {
            line = 2;
            name = (codes "0");
            instrs =
                (record { line = 3; result = None; act = goto (codes "h") }
                ∷ []);
          }
          ∷ record {
            line = 4;
            name = (codes "h");
            instrs =
                (record { line = 5; result = Some (codes "i"); act = phi (integer 8) (((number (pos 0)), (codes "0")) ∷ []) }
                ∷ record { line = 6; result = Some (codes "c"); act = compare false Ult (integer 8) (local (codes "i")) (number (pos 3)) }
                ∷ record { line = 7; result = None; act = branch (local (codes "c")) (codes "b") (codes "e") }
                ∷ []);
          }
          ∷ record {
            line = 8;
            name = (codes "b");
            instrs =
                (record { line = 5; result = Some (phi_name 0 (at 0 2) 0); act = phi (integer 8) (((local (codes "i")), (codes "h")) ∷ []) }
                ∷ record { line = 6; result = Some (phi_name 0 (at 0 2) 1); act = phi (integer 1) (((local (codes "c")), (codes "h")) ∷ []) }
                ∷ record { line = 9; result = None; act = store (integer 8) (local (phi_name 0 (at 0 2) 0)) (global (codes "t")) 0 }
                ∷ record { line = 10; result = Some (codes "j"); act = binary Add no_flags 8 (local (phi_name 0 (at 0 2) 0)) (number (pos 1)) }
                ∷ record { line = 11; result = None; act = goto (block_name 0 (at 1 1)) }
                ∷ []);
          }
          ∷ record {
            line = 12;
            name = (codes "e");
            instrs =
                (record { line = 5; result = Some (phi_name 0 (at 0 3) 0); act = phi (integer 8) (((local (codes "i")), (codes "h")) ∷ []) }
                ∷ record { line = 6; result = Some (phi_name 0 (at 0 3) 1); act = phi (integer 1) (((local (codes "c")), (codes "h")) ∷ []) }
                ∷ record { line = 13; result = None; act = give nothing None }
                ∷ []);
          }
          ∷ record {
            line = 4;
            name = (block_name 0 (at 1 1));
            instrs =
                (record { line = 5; result = Some (register_name 0 1 0); act = phi (integer 8) (((local (codes "j")), (codes "b")) ∷ []) }
                ∷ record { line = 6; result = Some (register_name 0 1 1); act = compare false Ult (integer 8) (local (register_name 0 1 0)) (number (pos 3)) }
                ∷ record { line = 7; result = None; act = branch (local (register_name 0 1 1)) (block_name 0 (at 1 2)) (block_name 0 (at 1 3)) }
                ∷ []);
          }
          ∷ record {
            line = 8;
            name = (block_name 0 (at 1 2));
            instrs =
                (record { line = 5; result = Some (phi_name 0 (at 1 2) 0); act = phi (integer 8) (((local (register_name 0 1 0)), (block_name 0 (at 1 1))) ∷ []) }
                ∷ record { line = 6; result = Some (phi_name 0 (at 1 2) 1); act = phi (integer 1) (((local (register_name 0 1 1)), (block_name 0 (at 1 1))) ∷ []) }
                ∷ record { line = 9; result = None; act = store (integer 8) (local (phi_name 0 (at 1 2) 0)) (global (codes "t")) 0 }
                ∷ record { line = 10; result = Some (register_name 0 1 2); act = binary Add no_flags 8 (local (phi_name 0 (at 1 2) 0)) (number (pos 1)) }
                ∷ record { line = 11; result = None; act = goto (end_name 0) }
                ∷ []);
          }
          ∷ record {
            line = 12;
            name = (block_name 0 (at 1 3));
            instrs =
                (record { line = 5; result = Some (phi_name 0 (at 1 3) 0); act = phi (integer 8) (((local (register_name 0 1 0)), (block_name 0 (at 1 1))) ∷ []) }
                ∷ record { line = 6; result = Some (phi_name 0 (at 1 3) 1); act = phi (integer 1) (((local (register_name 0 1 1)), (block_name 0 (at 1 1))) ∷ []) }
                ∷ record { line = 13; result = None; act = give nothing None }
                ∷ []);
          }
          ∷ record {
            line = 2;
            name = (end_name 0);
            instrs =
                (record { line = 2; result = None; act = unreachable }
                ∷ []);
          }
          ∷ []);
    }
some_rebuilt = refl
