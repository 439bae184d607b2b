-- `decode` meets its contract.
use mathlib.Core.Path.{◌≡◌, ap, ◌∙◌}
use mathlib.Core.List.{List}
use Prim.Native.Nat.{ℕ, suc, ◌*◌}
use native.Mathlib.Omega.{arith}
use lib.ListN.{length, take, length-take, length-drop}
use lib.Seq.{get_or-take, length-take-le}
use Rattle.semantics.specs.Sheet.{words}
use Rattle.file.specs.File.{owner}
use Rattle.decoding.specs.View.{facts_owned}
use Rattle.decoding.proofs.Reading.{from_on}
use Rattle.decoding.proofs.Decoded.{counted, room, decoded}
use Rattle.decoding.proofs.decode.Goals as goal

pub links_in-links-requires : goal.links_in-links-requires
links_in-links-requires c =
    let pre = c.requires in
    let many = counted _ pre.0.most in
    let there = room _ _ _ pre.0 pre.1 in
    (many.els, there.links)

pub marks_in-marks-requires : goal.marks_in-marks-requires
marks_in-marks-requires c =
    let pre = c.requires in
    let many = counted _ pre.0.most in
    let there = room _ _ _ pre.0 pre.1 in
    (many.els, there.marks)

pub func_apps_in-func_apps-requires : goal.func_apps_in-func_apps-requires
func_apps_in-func_apps-requires c =
    let pre = c.requires in
    let many = counted _ pre.0.most in
    let there = room _ _ _ pre.0 pre.1 in
    (many.func_apps, there.func_apps)

pub pred_apps_in-pred_apps-requires : goal.pred_apps_in-pred_apps-requires
pred_apps_in-pred_apps-requires c =
    let pre = c.requires in
    let many = counted _ pre.0.most in
    let there = room _ _ _ pre.0 pre.1 in
    (many.pred_apps, there.pred_apps)

pub impositions_in-impositions-requires : goal.impositions_in-impositions-requires
impositions_in-impositions-requires c =
    let pre = c.requires in
    let many = counted _ pre.0.most in
    let there = room _ _ _ pre.0 pre.1 in
    (many.impositions, there.impositions)

pub pairs_in-pairs-requires : goal.pairs_in-pairs-requires
pairs_in-pairs-requires c =
    let pre = c.requires in
    let many = counted _ pre.0.most in
    let there = room _ _ _ pre.0 pre.1 in
    (many.pairs, there.pairs)

pub bounds-bytes-flags : goal.bounds-bytes-flags
bounds-bytes-flags c =
    let pre = c.requires in
    omega (arith, (room _ _ _ pre.0 pre.1).flags)

pub overflow_add-flags : goal.overflow_add-flags
overflow_add-flags c =
    omega (arith, (room _ _ _ c.requires.0 c.requires.1).flags, c.well_formed.0)

pub bounds-bytes-flags-2 : goal.bounds-bytes-flags-2
bounds-bytes-flags-2 c =
    let pre = c.requires in
    omega (arith, (room _ _ _ pre.0 pre.1).flags)

pub owners_in-owners-requires : goal.owners_in-owners-requires
owners_in-owners-requires c =
    let pre = c.requires in
    let many = counted _ pre.0.most in
    let there = room _ _ _ pre.0 pre.1 in
    (many.els, (many.facts, omega (arith, there.firsts, length-drop {A = ℕ}, length-take {A = ℕ})))

pub facts_in-facts-requires : goal.facts_in-facts-requires
facts_in-facts-requires c =
    let pre = c.requires in
    let many = counted _ pre.0.most in
    let there = room _ _ _ pre.0 pre.1 in
    (omega (arith, many.facts, length-take {A = ℕ}), omega (arith, there.facts, length-drop {A = ℕ}, length-take {A = ℕ}))

pub vars_in-vars-requires : goal.vars_in-vars-requires
vars_in-vars-requires c =
    let pre = c.requires in
    let many = counted _ pre.0.most in
    let there = room _ _ _ pre.0 pre.1 in
    (many.vars, omega (arith, there.vars, length-drop {A = ℕ}, length-take {A = ℕ}))

pub ambients_in-ambients-requires : goal.ambients_in-ambients-requires
ambients_in-ambients-requires c =
    let pre = c.requires in
    let many = counted _ pre.0.most in
    let there = room _ _ _ pre.0 pre.1 in
    (many.ambients, omega (arith, there.ambients, length-drop {A = ℕ}, length-take {A = ℕ}))

pub slice_bounds-owners_in-count : goal.slice_bounds-owners_in-count
slice_bounds-owners_in-count c =
    let pre = c.requires in
    omega (arith, counted _ pre.0.most, room _ _ _ pre.0 pre.1, length-drop {A = ℕ}, length-take {A = ℕ})

pub slice_bounds-owners_in-start : goal.slice_bounds-owners_in-start
slice_bounds-owners_in-start c =
    let pre = c.requires in
    omega (arith, counted _ pre.0.most, room _ _ _ pre.0 pre.1, length-drop {A = ℕ}, length-take {A = ℕ})

pub slice_bounds-facts_in-count : goal.slice_bounds-facts_in-count
slice_bounds-facts_in-count c =
    let pre = c.requires in
    omega (arith, counted _ pre.0.most, room _ _ _ pre.0 pre.1, length-drop {A = ℕ}, length-take {A = ℕ})

pub slice_bounds-facts_in-start : goal.slice_bounds-facts_in-start
slice_bounds-facts_in-start c =
    let pre = c.requires in
    omega (arith, counted _ pre.0.most, room _ _ _ pre.0 pre.1, length-drop {A = ℕ}, length-take {A = ℕ})

pub slice_bounds-owners-end : goal.slice_bounds-owners-end
slice_bounds-owners-end c =
    let pre = c.requires in
    omega (arith, counted _ pre.0.most, room _ _ _ pre.0 pre.1, length-drop {A = ℕ}, length-take {A = ℕ}, c.owners_in-owners.ensures.long)

pub slice_bounds-facts_in-end-2 : goal.slice_bounds-facts_in-end-2
slice_bounds-facts_in-end-2 c =
    let pre = c.requires in
    omega (arith, counted _ pre.0.most, room _ _ _ pre.0 pre.1, length-drop {A = ℕ}, length-take {A = ℕ}, c.owners_in-owners.ensures.long)

pub slice_bounds-vars_in-count : goal.slice_bounds-vars_in-count
slice_bounds-vars_in-count c =
    let pre = c.requires in
    omega (arith, counted _ pre.0.most, room _ _ _ pre.0 pre.1, length-drop {A = ℕ}, length-take {A = ℕ})

pub slice_bounds-vars_in-start : goal.slice_bounds-vars_in-start
slice_bounds-vars_in-start c =
    let pre = c.requires in
    omega (arith, counted _ pre.0.most, room _ _ _ pre.0 pre.1, length-drop {A = ℕ}, length-take {A = ℕ})

pub slice_bounds-ambients_in-count : goal.slice_bounds-ambients_in-count
slice_bounds-ambients_in-count c =
    let pre = c.requires in
    omega (arith, counted _ pre.0.most, room _ _ _ pre.0 pre.1, length-drop {A = ℕ}, length-take {A = ℕ})

pub slice_bounds-ambients_in-start : goal.slice_bounds-ambients_in-start
slice_bounds-ambients_in-start c =
    let pre = c.requires in
    omega (arith, counted _ pre.0.most, room _ _ _ pre.0 pre.1, length-drop {A = ℕ}, length-take {A = ℕ})

pub returns : goal.returns
returns c =
    let pre = c.requires in
    let h = c.args.head in
    let p = c.args.at in
    let b = c.args.bytes.now in
    let owners = take h.facts c.owners_in-owners.result in
    decoded _ _ _ pre.0 pre.1 owners _
    record {
      links = c.links_in-links.ensures;
      marks = c.marks_in-marks.ensures;
      owned = λ i k.
          get_or-take h.facts c.owners_in-owners.result i 0 k
          ∙ c.owners_in-owners.ensures.each i k
          ∙ ap (λ (l : List ℕ). owner (suc i) (words (take (2 * h.els) l))) (from_on p.firsts b);
      facts =
          let each : length owners ≡ h.facts =
          length-take-le h.facts c.owners_in-owners.result (omega (arith, counted _ pre.0.most, c.owners_in-owners.ensures.long)) in
          c.facts_in-facts.ensures ∙ (λ i. facts_owned owners (each i) (from_on p.facts b i));
      func_apps = c.func_apps_in-func_apps.ensures;
      pred_apps = c.pred_apps_in-pred_apps.ensures;
      impositions = c.impositions_in-impositions.ensures;
      vars = rw (from_on p.vars b) at c.vars_in-vars.ensures;
      ambients = rw (from_on p.ambients b) at c.ambients_in-ambients.ensures;
      pairs = c.pairs_in-pairs.ensures;
      settled = c.of_byte-settled.ensures;
      started = c.of_byte-started.ensures;
    }
