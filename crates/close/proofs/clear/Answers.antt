-- `clear` meets its contract: each row that is written stands at n or after it.
use mathlib.Core.Path.{◌∙◌}
use Rattle.std.proofs.lemmas.List.{take-set-le}
use native.Mathlib.Omega.{arith}
use Rattle.close.proofs.clear.Goals as goal

pub loop-i-preserved : goal.loop-i-preserved
loop-i-preserved g c = take-set-le _ _ _ _ (omega arith) ∙ c.loop-i.invariant
