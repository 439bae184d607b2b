use Prim.Native.Nat.{◌-◌}
use Rattle.signature.specs.Model.{max_types, type_of}
use Rattle.rows.proofs.Copying.{Copied}
use Rattle.pechunaq.specs.View.{type_in}
use Rattle.pechunaq.proofs.TypeRowsFromTypes.from.Given as goal

abbrev pub invariant-loop-i : goal.invariant-loop-i
invariant-loop-i l = Copied type_of type_in l.n max_types l.types.items l.rows.items l.i

abbrev pub decreases-loop-i : goal.decreases-loop-i
decreases-loop-i l = l.n - l.i
