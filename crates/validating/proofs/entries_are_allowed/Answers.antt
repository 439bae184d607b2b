-- `entries_are_allowed` meets its contract.
use mathlib.Core.Path.{refl, sym, ◌∙◌}
use lib.ListN.{length}
use Rattle.signature.specs.Model.{sig_of}
use Rattle.structure.specs.View.{structure_of}
use Rattle.facts.specs.View.{fact_of}
use Rattle.apps.specs.View.{func_app_of, pred_app_of}
use Rattle.equalities.specs.View.{pair_of}
use Rattle.validating.specs.View.{fact_allowed, func_app_allowed, pred_app_allowed, pair_within}
use Rattle.validating.proofs.Searching.{all_taken, all_reversed, size_forward}
use Rattle.validating.proofs.Entries.{seven_tests, entries_allowed}
use Rattle.validating.proofs.entries_are_allowed.Goals as goal

pub returns : goal.returns
returns c =
    let s = c.args.structure in
    let g = sig_of c.args.signature in
    let els = c.size-els.result in
    let fs = s.els in
    let fas = s.func_apps in
    let pas = s.pred_apps in
    let is = s.pending_type_impositions in
    let ps = s.pending_equalities in
    let facts = c.are_allowed.ensures ∙ all_taken fact_of fs.len fs.items c.size.ensures (fact_allowed g.types els) in
    let func_apps = c.are_allowed-2.ensures ∙ all_taken func_app_of fas.len fas.items c.size-2.ensures (func_app_allowed g els) in
    let pred_apps = c.are_allowed-3.ensures ∙ all_taken pred_app_of pas.len pas.items c.size-3.ensures (pred_app_allowed els (length g.preds)) in
    let impositions = c.are_allowed-4.ensures ∙ all_taken fact_of is.len is.items c.size-4.ensures (fact_allowed g.types els) in
    let pairs =
    c.are_allowed-5.ensures ∙ all_taken pair_of ps.len ps.items (size_forward c.size-5.ensures) (pair_within els) ∙ all_reversed (pair_within els) _ in
    seven_tests facts func_apps pred_apps impositions c.vars_are_within.ensures c.ambients_are_allowed.ensures pairs
    ∙ sym (entries_allowed g (structure_of s) c.size-els.ensures.is refl)
