-- `read_all` meets its contract.
use Prim.Native.Nat.{◌-◌, ◌≤◌}
use mathlib.Core.Path.{◌≡◌, refl, sym, ap, subst, ◌∙◌}
use native.Mathlib.Omega.{arith}
use lib.ListN.{length}
use Rattle.std.specs.Prelude.{Ok}
use Rattle.std.specs.Io.{ReadsAtMost}
use Rattle.std.specs.Io.KnownBytes.{ReadConsumes, Consumes}
use Rattle.reading.specs.Reading.{ends, is_longer, gives}
use Rattle.reading.proofs.Taken.{gave, taken_then, front_put, front_kept, put_length, failed}
use Rattle.reading.proofs.read_all.Goals as goal

pub returns-in_err-n-clause-reads : goal.returns-in_err-n-clause-reads
returns-in_err-n-clause-reads g c =
    c.loop-at.invariant.0 _ _ (failed _ _ _ _ _ (front_kept c.loop-at.at c.loop-at.bytes c.read.new.buf (omega (arith, c.loop-at.invariant.1, c.loop-at.invariant.3))) c.from_residual.ensures.0)

pub returns-in_default-clause-reads : goal.returns-in_default-clause-reads
returns-in_default-clause-reads g c =
    c.loop-at.invariant.0 _ _ (ends (front_kept c.loop-at.at c.loop-at.bytes c.read.new.buf (omega (arith, c.loop-at.invariant.1, c.loop-at.invariant.3))))

pub loop-at-preserved : goal.loop-at-preserved
loop-at-preserved g c =
    let l = c.loop-at in
    let n = c.in-Some.n in
    let read = gave c.read.result n (sym c.came_to.ensures ∙ c.in_ok-n.was ∙ ap Ok c.in-Some.is) in
    let most = subst (λ r. ReadsAtMost r c.read.new.buf) read.0 c.read.ensures.bound in
    let took = subst (λ r. ReadConsumes (g.R.Read.remaining l.input) (g.R.Read.remaining c.read.new.self) r c.read.new.buf) read.0 c.read.ensures.bytes in
    let within : l.at ≤ length l.bytes = omega (arith, l.invariant.1, l.invariant.3) in
    let whole : length c.read.new.buf ≡ length l.bytes - l.at = omega (arith, c.read.auto.buf, within) in (
      λ after r h. l.invariant.0 after r (gives read.1 (omega (arith, most, c.read.auto.buf, l.invariant.1, l.invariant.3)) (front_kept l.at l.bytes c.read.new.buf within) h),
      put_length l.at l.bytes c.read.new.buf within whole ∙ l.invariant.1,
      subst (Consumes _ _) (sym (front_put l.at n l.bytes c.read.new.buf within most.0)) (taken_then _ _ _ _ _ l.invariant.2 took.0),
      omega (arith, most, c.read.auto.buf, l.invariant.1, l.invariant.3),
    )

pub returns-in_err-came_to-clause-reads : goal.returns-in_err-came_to-clause-reads
returns-in_err-came_to-clause-reads g c = c.loop-at.invariant.0 _ _ (failed _ _ _ _ _ refl c.from_residual-in_err-came_to.ensures.0)

pub returns-in-None-clause-reads : goal.returns-in-None-clause-reads
returns-in-None-clause-reads g c = c.loop-at.invariant.0 _ _ (ends refl)

pub returns-in-Some-2-clause-reads : goal.returns-in-Some-2-clause-reads
returns-in-Some-2-clause-reads g c =
    c.loop-at.invariant.0 _ _ (is_longer {n = 1} (omega arith) (omega (arith, c.loop-at-test.false, c.loop-at.invariant.1)) refl)
