-- `paint::upto_column` meets its contract: all columns but those behind the place.
-- Assumes nothing.
use Prim.Native.Nat.{◌%◌, ◌^◌}
use native.Mathlib.Nat.{div-le_self}
use native.Mathlib.Omega.{arith}
use Rattle.paint.proofs.upto_column.Goals as goal

pub overflow_sub-result : goal.overflow_sub-result
overflow_sub-result c = let le = div-le_self 0x7FFF (2 ^ (c.args.place % 16)) in omega arith
