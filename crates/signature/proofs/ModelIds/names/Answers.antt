-- `ModelIds::names` meets its contract.
use mathlib.Core.Path.{sym}
use mathlib.Core.Bool.{or-false}
use borrow.Author.Tests.{eq-eqb, ne_eqb}
use Rattle.signature.specs.Calls.{member}
use Rattle.signature.proofs.ModelIds.names.Goals as goal

pub returns-then-func-self : goal.returns-then-func-self
unfolding member
returns-then-func-self c = rw (eq-eqb _ _ c.if-func-self.true)

pub returns-then-func-self-2 : goal.returns-then-func-self-2
unfolding member
returns-then-func-self-2 c =
    rw (ne_eqb _ _ c.if-func-self.false, eq-eqb _ _ c.if-func-self-2.true)

pub returns-then-func-self-3 : goal.returns-then-func-self-3
unfolding member
returns-then-func-self-3 c =
    rw (ne_eqb _ _ c.if-func-self.false, ne_eqb _ _ c.if-func-self-2.false, eq-eqb _ _ c.if-func-self-3.true)

pub returns : goal.returns
unfolding member
returns c =
    rw (ne_eqb _ _ c.if-func-self.false, ne_eqb _ _ c.if-func-self-2.false, ne_eqb _ _ c.if-func-self-3.false) (sym (or-false _))
