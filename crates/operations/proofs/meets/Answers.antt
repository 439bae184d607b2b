-- `meets` meets its contract: the number met first stays.
use mathlib.Core.Path.{refl, ap, ◌∙◌}
use Rattle.merging.specs.View.{met_of}
use Rattle.merging.proofs.Laws.{met_first}
use Rattle.operations.proofs.meets.Goals as goal

pub returns : goal.returns
returns c = record { is = ap met_of c.or-next.ensures ∙ met_first c.args.number c.args.counts.met; counts = refl }
