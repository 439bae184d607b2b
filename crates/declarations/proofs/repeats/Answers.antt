-- `repeats` meets its contract.
use mathlib.Core.Path.{refl}
use mathlib.Core.Bool.{or-false}
use Rattle.signature.specs.Calls.{member, repeats}
use Rattle.declarations.proofs.repeats.Goals as goal

pub returns : goal.returns
unfolding repeats member
returns c =
    rw (c.or.ensures, c.or-later.ensures, c.or-cod.ensures, c.or-dom-2.ensures, c.or-dom.ensures, or-false, or-false, or-false, or-false) refl
