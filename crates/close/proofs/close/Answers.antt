-- `close` meets its contract: the tables of the structure are copied (`loaded`), the rounds and the impositions run on them, and what they leave is
-- put together (Closing.antt).
use mathlib.Core.Path.{◌≡◌, refl, sym, ap, ◌∙◌}
use mathlib.Core.Bool.{◌||◌}
use mathlib.Core.List.{List, map, reverse}
use Prim.Native.Nat.{ℕ, ◌≤◌}
use native.Mathlib.Omega.{arith}
use lib.Dec.{ltb}
use lib.ListN.{length, take, length-take, length-reverse}
use lib.Seq.{length-take-le}
use Rattle.std.specs.declared.option.Option.TheVariants.{None}
use Rattle.ids.proofs.Views.{long, view_clamped}
use Rattle.signature.specs.Model.{Sig, sig_of}
use Rattle.semantics.specs.Types.{any_marked, impose_all}
use Rattle.semantics.specs.Calls.{Step, merges_of}
use Rattle.facts.specs.View.{fact_of, impositions_of}
use Rattle.apps.specs.View.{func_app_of, pred_app_of}
use Rattle.equalities.specs.declared.Pair.{Pair}
use Rattle.equalities.specs.View.{pair_of}
use Rattle.merging.specs.View.{Lent, lent, core_of, tally, Passes}
use Rattle.merging.proofs.Laws.{counts_as}
use Rattle.imposing.specs.Bounds.{all_impositions}
use Rattle.rounds.specs.View.{one_close}
use Rattle.close.proofs.Closing.{Loaded, in_rows, loaded_holds, loaded_room, imposing_room}
use Rattle.close.proofs.Closing.{merges_most, written, refuses, accepts}
use borrow.Author.Rules.{rules}
use Rattle.close.proofs.close.Goals as goal
use Rattle.close.proofs.close.Goals.{After-is_sorted-is_sorted, After-rounds-ran, After-apply_pending_type_impositions-counts}

-- what is lent first
module _ (c : After-is_sorted-is_sorted) where
  abbrev start : Lent
  start =
      lent c.fill_els-is_marked.new.els c.args.structure.els.items c.args.structure.pending_equalities.items
      (tally c.size-fact_count.result c.size-func_count.result c.size-pair_count.result c.is_sorted-is_sorted.result c.fill_els-is_marked.result None 0 0)

  loaded : Loaded c.args.structure start c.args.structure.func_apps.items (take c.size-pred_count.result c.args.structure.pred_apps.items)
  loaded =
      let s = c.args.structure in
      let e = c.fill_els-is_marked.ensures in
      let many : length c.fill_els-is_marked.new.els ≡ c.size-n.result = e.long ∙ length-take-le c.size-n.result _ (search (rules, c.size-n.ensures.most)) in record {
        sized = record { is = many ∙ c.size-n.ensures.is; most = omega (arith, many, c.size-n.ensures.most) };
        links_long = search (rules, long);
        marks_long = search (rules, long);
        links = e.links_are ∙ ap (λ (n : ℕ). take n s.unification.links) (sym e.long);
        marks = e.marks_are ∙ ap (λ (n : ℕ). take n s.inferred_parent_els) (sym e.long);
        marked = e.some_is ∙ ap (λ (n : ℕ). any_marked (take n s.inferred_parent_els)) (sym e.long);
        facts = in_rows fact_of s.els.len _ _ s.els.items c.size-fact_count.ensures (search (rules, long));
        funcs = in_rows func_app_of s.func_apps.len _ _ s.func_apps.items c.size-func_count.ensures (search (rules, long));
        predicates = view_clamped pred_app_of s.pred_apps.len c.size-pred_count.result s.pred_apps.items c.size-pred_count.ensures.is;
        pairs = ap reverse (view_clamped pair_of s.pending_equalities.len c.size-pair_count.result s.pending_equalities.items
            (c.size-pair_count.ensures.is ∙ length-reverse (map pair_of (take s.pending_equalities.len s.pending_equalities.items))));
        pairs_few = c.size-pair_count.ensures.most;
        pairs_long = search (rules, long);
        sorted = c.is_sorted-is_sorted.ensures;
        none_met = refl;
        none_merged = refl;
        none_added = refl;
      }

pub rounds-ran-requires : goal.rounds-ran-requires
rounds-ran-requires c =
    let l = loaded (goal.at.rounds-ran-requires c).After-is_sorted-is_sorted in
    (loaded_holds l, (loaded_room l, ((l.funcs.most, l.funcs.long), omega (arith, length-take c.size-pred_count.result c.args.structure.pred_apps.items, c.size-pred_count.ensures.most))))

abbrev sig : After-rounds-ran → Sig
sig c = sig_of c.args.signature

pub apply_pending_type_impositions-counts-requires : goal.apply_pending_type_impositions-counts-requires
apply_pending_type_impositions-counts-requires c =
    let at = goal.at.apply_pending_type_impositions-counts-requires c in (
      c.rounds-ran.ensures.ready.holds,
      (
        imposing_room (sig at.After-rounds-ran) (loaded at.After-is_sorted-is_sorted) c.rounds-ran.ensures,
        omega (arith, length-take c.size-imposed_count.result c.args.structure.pending_type_impositions.items, c.size-imposed_count.ensures.most),
      ),
    )

-- what the impositions do: as many as the queue holds
imposed : (c : After-apply_pending_type_impositions-counts) →
    let s = c.args.structure in
    Passes (lent c.rounds-ran.new.els c.rounds-ran.new.facts c.rounds-ran.new.pairs c.rounds-ran.result.counts)
    (lent c.apply_pending_type_impositions-counts.new.els c.apply_pending_type_impositions-counts.new.facts c.rounds-ran.new.pairs c.apply_pending_type_impositions-counts.result)
    all_impositions (impose_all (impositions_of s.pending_type_impositions))
imposed c =
    let s = c.args.structure.pending_type_impositions in
    let same = view_clamped fact_of s.len c.size-imposed_count.result s.items c.size-imposed_count.ensures.is in
    counts_as c.apply_pending_type_impositions-counts.ensures (λ i. impose_all (same i) (core_of (lent c.rounds-ran.new.els c.rounds-ran.new.facts c.rounds-ran.new.pairs c.rounds-ran.result.counts)))

pub grew-late-requires : goal.grew-late-requires
grew-late-requires c =
    let at = goal.at.grew-late-requires c in
    let room = imposing_room (sig at.After-rounds-ran) (loaded at.After-is_sorted-is_sorted) c.rounds-ran.ensures in
    (omega (arith, room), omega (arith, room, c.apply_pending_type_impositions-counts.ensures.count_most))

-- the merges that an answer reports are those of the step that it makes
answered : {s t : Step} → s ≡ t → merges_of t.answer ≤ one_close → merges_of s.answer ≤ one_close
answered e h = rw (ap (λ (x : Step). merges_of x.answer) e) h

pub returns-in-Some : goal.returns-in-Some
unfolding merges_of
returns-in-Some c =
    let at = goal.at.returns-in-Some c in
    let g = sig at.After-rounds-ran in record {
      result_value = c.refuse.ensures g ∙ refuses g (loaded at.After-is_sorted-is_sorted) c.rounds-ran.ensures (imposed at.After-apply_pending_type_impositions-counts) c.in-Some.is;
      answer_bound = answered (c.refuse.ensures g) (omega arith);
    }

pub returns : goal.returns
unfolding merges_of
returns c =
    let at = goal.at.returns c in
    let g = sig at.After-rounds-ran in
    let l = loaded at.After-is_sorted-is_sorted in
    let rs = c.rounds-ran.ensures in
    let is = imposed at.After-apply_pending_type_impositions-counts in
    let same : length c.apply_pending_type_impositions-counts.new.els ≡ length c.fill_els-is_marked.new.els =
    c.apply_pending_type_impositions-counts.auto.els ∙ c.rounds-ran.auto.els in
    let all = written g l rs is c.links_of-unification.result c.marks_of-marked.result same (search (rules, c.links_of-unification.type_inv)) (search (rules, c.marks_of-marked.type_inv))
    c.links_of-unification.ensures c.marks_of-marked.ensures (ap (map fact_of) c.restore.ensures ∙ c.canonical_facts-fact_len.ensures.is)
    (ap (map func_app_of) c.clear.ensures) (ap (map pred_app_of) c.clear-2.ensures ∙ c.canonical_pred_apps-pred_len.ensures.is)
    c.canonical_vars-vars.ensures (ap (λ (xs : List Pair). reverse (map pair_of xs)) c.clear-3.ensures) c.canonical_impositions-imposed.ensures in record {
      result_value = c.accept.ensures g ∙ accepts g l rs is c.in_default.is (λ i. ltb 1 c.rounds-ran.result.rounds || c.grew-late.ensures i) all;
      answer_bound = answered (c.accept.ensures g) (merges_most g l rs is);
    }
