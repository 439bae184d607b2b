-- `Unification::new` meets its contract: every entry passed has its own number.
use mathlib.Core.Path.{refl, sym, ap, ◌∙◌}
use mathlib.Core.List.{List}
use Prim.Native.Nat.{ℕ}
use native.Mathlib.Omega.{arith}
use lib.ListN.{length-set}
use lib.Seq.{ext_get_or}
use Rattle.unification.specs.Roots.{max_els, up_to}
use Rattle.unification.proofs.Arrays.{up_to_length, up_to_at, numbered_more}
use Rattle.unification.proofs.Unification.new.Goals as goal

pub loop-i-init : goal.loop-i-init
loop-i-init c = (omega arith, refl, (λ k h. absurd (omega arith)))

pub loop-i-preserved : goal.loop-i-preserved
loop-i-preserved c =
    let l = c.loop-i in
    (omega arith, simp length-set l.invariant.1, numbered_more l.links l.i (omega arith) l.invariant.2)

pub returns : goal.returns
returns c =
    let l = c.loop-i in
    ap (λ (xs : List ℕ). record { links = xs; len = 0 })
    (ext_get_or 0 l.links (up_to max_els) (l.invariant.1 ∙ sym (up_to_length max_els))
    (λ k h. l.invariant.2 k (omega arith) ∙ sym (up_to_at max_els k (omega arith))))
