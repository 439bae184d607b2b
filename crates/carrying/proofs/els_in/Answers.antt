-- `els_in` meets its contract.
use mathlib.Core.Path.{◌≡◌, ap, ◌∙◌}
use mathlib.Core.List.{map-id}
use Prim.Native.Nat.{ℕ}
use lib.ListN.{length}
use Rattle.ids.specs.Limits.{max_list}
use Rattle.ids.specs.Ids.{given_of, el_of}
use Rattle.ids.proofs.Views.{long}
use Rattle.carrying.proofs.Laws.{mapped, slots_given}
use borrow.Author.Rules.{rules}
use Rattle.carrying.proofs.els_in.Goals as goal

pub returns : goal.returns
returns c =
    let a = c.args in
    let four : length a.slots ≡ max_list = search (rules, long) in
    ap (given_of c.min.result) (mapped _ el_of (λ (x : ℕ). x) (λ p x y q h. search rules) _ a.slots c.map.result max_list 0 (record { 0 = 0 }) four c.map.ensures.items ∙ map-id a.slots)
    ∙ slots_given a.slots a.n c.min.result four c.min.ensures
