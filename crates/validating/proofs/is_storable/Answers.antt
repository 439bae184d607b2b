-- `is_storable` meets its contract.
use mathlib.Core.Path.{◌≡◌, ap, ◌∙◌}
use mathlib.Core.Bool.{not}
use mathlib.Core.List.{List}
use Prim.Native.Nat.{ℕ}
use native.Mathlib.Omega.{arith}
use lib.ListN.{take, length-take}
use Rattle.std.specs.List.{list_all}
use Rattle.ids.proofs.Views.{take_same}
use Rattle.unification.specs.Roots.{links_of}
use Rattle.structure.specs.View.{structure_of}
use Rattle.facts.specs.declared.Fact.{Fact}
use Rattle.facts.specs.View.{fact_of}
use Rattle.file.specs.File.{link_rises}
use Rattle.validating.specs.View.{on_root, is_storable}
use Rattle.validating.proofs.Searching.{all_taken}
use Rattle.validating.proofs.Flagged.{on_roots, five_tests}
use Rattle.validating.proofs.is_storable.Goals as goal

pub returns : goal.returns
unfolding is_storable
returns c =
    let s = c.args.structure in
    let u = s.unification in
    let fs = s.els in
    let n = c.size.result in
    let links : take n u.links ≡ links_of u = take_same n u.len u.links (omega (arith, c.size.ensures.is, length-take u.len u.links)) in
    let falls = c.links_fall.ensures ∙ ap (λ (ls : List ℕ). not (link_rises 0 ls)) links in
    let roots =
    c.facts_are_on_roots.ensures
    ∙ ap (λ (ls : List ℕ). list_all (λ (f : Fact). on_root ls (fact_of f)) (take c.size-2.result fs.items)) links
    ∙ all_taken fact_of fs.len fs.items c.size-2.ensures (on_root (links_of u))
    ∙ on_roots (structure_of s) in
    five_tests c.entries_are_allowed.ensures falls roots c.is_in_order.ensures c.is_flagged.ensures
