use mathlib.Core.Path.{◌≡◌}
use mathlib.Core.List.{map}
use Prim.Native.Nat.{ℕ, ◌+◌}
use lib.ListN.{drop}
use Rattle.ids.specs.Ids.{els_of}
use Rattle.semantics.specs.Structure.{fact}
use Rattle.facts.specs.View.{fact_of}
use Rattle.el_rows.specs.View.{links_in, marks_in}
use Rattle.imposing.proofs.Kept.{kept}
use Rattle.imposing.proofs.keeps_types.Given as goal

-- the loop does not read the element of the fact that is imposed
abbrev pub invariant-loop-here : goal.invariant-loop-here
invariant-loop-here l =
    (x : ℕ) →
    kept (links_in l.els) (marks_in l.els) l.root.0 (fact x l.typ.0 (els_of l.parents)) (drop (l.first + l.here-index) (map fact_of l.fn.facts))
    ≡ kept (links_in l.els) (marks_in l.els) l.root.0 (fact x l.typ.0 (els_of l.parents)) (map fact_of l.fn.facts)
