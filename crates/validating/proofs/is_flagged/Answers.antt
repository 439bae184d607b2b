-- `is_flagged` meets its contract.
use mathlib.Core.Path.{sym, ◌∙◌}
use mathlib.Core.Bool.{not, ◌&&◌}
use lib.Dec.{eqb}
use Rattle.ids.proofs.Answers.{or_left}
use Rattle.ids.proofs.Tests.{or_then}
use Rattle.semantics.specs.Structure.{variable, ambient}
use Rattle.structure.specs.View.{structure_of}
use Rattle.validating.specs.View.{is_flagged}
use Rattle.validating.proofs.BySlot.{given_many}
use Rattle.validating.proofs.Flagged.{all_entries}
use Rattle.validating.proofs.is_flagged.Goals as goal

pub returns-then-structure : goal.returns-then-structure
unfolding is_flagged
returns-then-structure c = sym (or_left _ c.if-structure.true)

pub returns : goal.returns
unfolding is_flagged
returns c =
    let s = c.args.structure in
    let vars = c.count_given.ensures ∙ given_many variable 0 s.var_els.slots in
    let ambients = c.count_given-2.ensures ∙ given_many ambient 0 s.ambient_model_els.slots in
    let all =
    all_entries (structure_of s) c.size.ensures.is c.size-2.ensures.is c.size-3.ensures.is c.size-4.ensures.is c.size-5.ensures.is vars ambients
    c.size-6.ensures.is in
    sym (or_then c.if-structure.false (λ i. eqb (sym all i) 0 && not s.settled))
