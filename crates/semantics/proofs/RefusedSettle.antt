-- A settle whose first close is accepted and whose second meets number 11 (02, M-100: "settle returns 11 and the structure before the settle").
-- With 1,024 facts a close takes too many steps to compute. All but four of them stand at elements that no imposition names: what the closes
-- ask of these is proved once (`Others`), and the rest computes. The machine is given, as in the other rows on 11; by calls the case is among the
-- histories that `replay` runs.
use mathlib.Core.Path.{◌≡◌, refl, sym, ap, subst, ◌∙◌}
use mathlib.Core.Bool.{Bool, true, false, ◌&&◌}
use mathlib.Core.List.Memᴰ
use mathlib.Core.List.{List, [], ◌∷◌, ◌++◌, map, append-nil, Memᴰ}
use mathlib.Core.Logic.{inl, inr}
use mathlib.Core.Option.{some}
use Prim.Native.Nat.{ℕ, zero, suc, ◌+◌, ◌-◌, ◌*◌}
use lib.ListN.{length, drop, replicate}
use lib.Dec.{eqb, ltb}
use Rattle.ids.specs.declared.Ordering.{Ordering}
use Rattle.ids.specs.declared.Ordering.TheVariants.{Less, Equal, Greater}
use Rattle.ids.specs.Answers.{Outcome, outcome, first_of, decided, accepting, refusing, too_many_facts}
use Rattle.ids.specs.Table.{placed, rewrite_into}
use Rattle.ids.proofs.Sorted.{Sorted, all_map, rewrite_same, no_test}
use Rattle.unification.specs.Roots.{root_of}
use Rattle.signature.specs.Model.{Sig, plain, max_types}
use Rattle.semantics.specs.Structure.{Fact, fact, Structure, empty, compare_fact, canonical_fact, fact_at, max_facts}
use Rattle.semantics.specs.Structure.{with_links, with_marks, with_facts, with_impositions, with_flags}
use Rattle.semantics.specs.Types.{Core, with_merge, with_added, with_met, facts_at, concrete_types_of, refine_all, insert_canonical, impose, impose_all, grew}
use Rattle.semantics.specs.Close as closing
use Rattle.semantics.specs.Close.{Closed, report, core_at_start, rounds_made, CloseRun, as_close_run, close_run, close_by, met_causes, report_of, after_close}
use Rattle.semantics.specs.Calls as steps
use Rattle.semantics.specs.Calls.{close, settle, closed, Machine, Step, answers, refusal, step, start, after_calls, leaves, SettleRun, as_settle_run}
use Rattle.semantics.specs.Calls.{reported_first, settle_after, settle_by, settle_from, settle_run}
use Rattle.semantics.specs.Sheet.{bit}
use Rattle.semantics.proofs.Orders.{fact_ordered}
use Rattle.semantics.proofs.Cases.{and_first, and_second}
use Rattle.semantics.proofs.Computes.{everything}
use Rattle.semantics.proofs.Settling.{close_accepted, close_refused, settle_refuses}
use Rattle.semantics.proofs.ProvedCases as rows
use Rattle.semantics.proofs.ProvedCases.{typ, plain_el, marked_el, types2, down_from, set_facts, facts_before, calls_from, tells, closes, refuses}
use Rattle.semantics.proofs.ProvedCases.{link, settled, machine, el, flag, whole, ◌is◌, stated, answers_of, output_of, machine_of, look, shown_by}
use Rattle.semantics.proofs.ProvedCases.{stated_by, Row, Holds, table, computed_row_holds}

-- A table that computes as ascending is sorted, so that a rewriting leaves its entries as they are (`rewrite_same`).

is_less : Ordering → Bool
is_less Less = true
is_less Equal = false
is_less Greater = false

less_if : (o : Ordering) → is_less o ≡ true → o ≡ Less
unfolding is_less
less_if Less e = refl
less_if Equal e = no_test e refl
less_if Greater e = no_test e refl

-- each entry is smaller than the next

unfoldable ascends : Fact → List Fact → Bool
ascends f [] = true
ascends f (g ∷ gs) = is_less (compare_fact f g) && ascends g gs

unfoldable ascending : List Fact → Bool
ascending [] = true
ascending (f ∷ fs) = ascends f fs

ascends_sorted : (f : Fact) (l : List Fact) → ascends f l ≡ true → Sorted compare_fact (f ∷ l)
unfolding ascends
ascends_sorted f [] e = (tt, tt)
ascends_sorted f (g ∷ gs) e =
    let less = less_if (compare_fact f g) (and_first (is_less (compare_fact f g)) (ascends g gs) e) in
    let rest = ascends_sorted g gs (and_second (is_less (compare_fact f g)) (ascends g gs) e) in
    ((less, all_map (λ h k. fact_ordered.trans f g h less k) gs rest.0), rest)

ascending_sorted : (l : List Fact) → ascending l ≡ true → Sorted compare_fact l
unfolding ascending
ascending_sorted [] e = tt
ascending_sorted (f ∷ l) e = ascends_sorted f l e

facts_at_append : (e : ℕ) (k l : List Fact) → facts_at e (k ++ l) ≡ facts_at e k ++ facts_at e l
unfolding facts_at
facts_at_append e [] l = refl
facts_at_append e (f ∷ k) l = go (eqb f.el e) (facts_at_append e k l)
  where
    go : (b : Bool) → facts_at e (k ++ l) ≡ facts_at e k ++ facts_at e l
        → (elim b as (λ _. List Fact) [ true ↦ f ∷ facts_at e (k ++ l) | false ↦ facts_at e (k ++ l) ])
        ≡ (elim b as (λ _. List Fact) [ true ↦ f ∷ facts_at e k | false ↦ facts_at e k ]) ++ facts_at e l
    go true r = ap (λ (x : List Fact). f ∷ x) r
    go false r = r

-- A structure with no application and no pair: the round of a close does nothing.

abbrev given : List ℕ → List Bool → List Fact → List Fact → Bool → Structure
given ls ms fs qs is-settled = with_links ls (with_marks ms (with_facts fs (with_impositions qs (with_flags true is-settled empty))))

abbrev ran : Structure → Core → CloseRun
ran s w = as_close_run (rounds_made (core_at_start s) [] 1) w

no_rounds : (g : Sig) (ls : List ℕ) (ms : List Bool) (fs qs : List Fact) (is-settled : Bool) →
    let s = given ls ms fs qs is-settled in
    close_run g s ≡ ran s (impose_all qs (core_at_start s))
unfolding everything
no_rounds g ls ms fs qs is-settled = refl

-- The two closes. The first merges 1 with 0, the second 2 with 0.

unfoldable up_from : ℕ → ℕ → List ℕ
up_from e zero = []
up_from e (suc n) = e ∷ up_from (suc e) n

-- the links and the marks before the closes, after the first and in the second

unfoldable links0 : List ℕ
links0 = up_from 0 36

unfoldable links1 : List ℕ
links1 = 0 ∷ 0 ∷ up_from 2 34

unfoldable links2 : List ℕ
links2 = 0 ∷ 0 ∷ 0 ∷ up_from 3 33

abbrev unmarked : List Bool
unmarked = replicate 33 false

abbrev marks0 : List Bool
marks0 = false ∷ true ∷ true ∷ unmarked

abbrev marks1 : List Bool
marks1 = false ∷ false ∷ true ∷ unmarked

abbrev marks2 : List Bool
marks2 = false ∷ false ∷ false ∷ unmarked

-- the facts of elements 0 to 3

abbrev pub facts0 : List Fact
facts0 = fact 0 1 (0 ∷ []) ∷ fact 1 1 (2 ∷ []) ∷ fact 2 2 (0 ∷ []) ∷ fact 3 1 (2 ∷ []) ∷ []

abbrev facts1 : List Fact
facts1 = fact 0 1 (0 ∷ []) ∷ fact 0 1 (2 ∷ []) ∷ fact 2 2 (0 ∷ []) ∷ fact 3 1 (2 ∷ []) ∷ []

abbrev facts2 : List Fact
facts2 = fact 0 1 (0 ∷ []) ∷ fact 0 1 (2 ∷ []) ∷ fact 0 2 (0 ∷ []) ∷ fact 3 1 (2 ∷ []) ∷ []

-- the impositions

abbrev one : Fact
one = fact 0 1 (0 ∷ [])

abbrev two0 : Fact
two0 = fact 2 2 (1 ∷ [])

abbrev two1 : Fact
two1 = fact 2 2 (0 ∷ [])

abbrev three : Fact
three = fact 3 1 (2 ∷ [])

unfoldable computed : ℕ
unfolding everything up_from links0 links1 links2
computed = 0

-- what a merge does to a fact
abbrev moved : ℕ → ℕ → Fact → Fact
moved keep drop f = elim (eqb f.el drop) [ true ↦ fact_at keep f | false ↦ f ]

-- other facts, which the closes leave as they are
record Others (F : List Fact) : Type 0 where
  at_zero : facts_at 0 F ≡ []
  at_two : facts_at 2 F ≡ []
  at_three : facts_at 3 F ≡ []
  many : length F ≡ max_facts - 4
  merge_one : rewrite_into compare_fact (moved 0 1) F facts1 ≡ facts1 ++ F
  canonical : rewrite_into compare_fact (canonical_fact links1) F facts1 ≡ facts1 ++ F
  merge_two : rewrite_into compare_fact (moved 0 2) F facts2 ≡ facts2 ++ F

-- before the settle, and after its first close

abbrev before : List Fact → Structure
before F = given links0 marks0 (facts0 ++ F) (one ∷ two0 ∷ three ∷ []) true

abbrev between : List Fact → Structure
between F = given links1 marks1 (facts1 ++ F) (one ∷ two1 ∷ three ∷ []) false

-- what the first close answers
abbrev answer : Closed
answer = report true 1 1 0

module _ (F : List Fact) (h : Others F) where
  -- an imposition on an element that has none of them: what it refines, and then inserts
  imposes : (f : Fact) (w v u : Core) (S : List Fact) → w.facts ≡ S ++ F → facts_at (root_of w.links f.el) F ≡ []
      → refine_all (concrete_types_of w.links S f.el) f w ≡ v → insert_canonical f v ≡ u → impose f w ≡ u
  unfolding impose concrete_types_of
  imposes f w v u S e away refines inserts =
      let r = root_of w.links f.el in
      let here : facts_at r w.facts ≡ facts_at r S =
      ap (facts_at r) e ∙ facts_at_append r S F ∙ ap (λ (x : List Fact). facts_at r S ++ x) away ∙ append-nil (facts_at r S) in
      ap (λ (x : List Fact). insert_canonical f (refine_all (rewrite_into compare_fact (canonical_fact w.links) x []) f w)) here
      ∙ ap (insert_canonical f) refines
      ∙ inserts

  -- The first close.

  abbrev w0 : Core
  w0 = core_at_start (before F)

  abbrev w1 : Core
  w1 = with_merge links1 marks1 (facts1 ++ F) w0

  first_one : impose one w0 ≡ w0
  first_one = imposes one w0 w0 w0 facts0 (unfold core_at_start in refl) (unfold computed in h.at_zero) (unfold computed in refl) (unfold computed in refl)

  first_two : impose two0 w0 ≡ w1
  first_two =
      imposes two0 w0 w1 w1 facts0 (unfold core_at_start in refl) (unfold computed in h.at_two)
      (unfold computed in ap (λ (fs : List Fact). with_merge links1 marks1 fs w0) h.merge_one) (unfold computed in refl)

  first_three : impose three w1 ≡ w1
  first_three = imposes three w1 w1 w1 facts1 refl (unfold computed in h.at_three) (unfold computed in refl) (unfold computed in refl)

  first_all : impose_all (one ∷ two0 ∷ three ∷ []) w0 ≡ w1
  unfolding impose_all
  first_all = ap (λ (w : Core). impose three (impose two0 w)) first_one ∙ ap (impose three) first_two ∙ first_three

  first_close : (g : Sig) → closing.close g (before F) ≡ accepting answer (after_close (ran (before F) w1) (before F))
  unfolding closing.close close_by outcome met_causes first_of decided report_of grew core_at_start
  first_close g =
      ap (λ (r : CloseRun). close_by r (before F))
      (no_rounds g links0 marks0 (facts0 ++ F) (one ∷ two0 ∷ three ∷ []) true ∙ ap (ran (before F)) first_all)

  first_leaves : (g : Sig) → leaves true (closed answer) (closing.close g (before F)).after ≡ between F
  first_leaves g =
      ap (λ (o : Outcome Closed Structure). leaves true (closed answer) o.after) (first_close g)
      ∙ (unfold computed in ap (λ (fs : List Fact). given links1 marks1 fs (one ∷ two1 ∷ three ∷ []) false) h.canonical)

  -- The second.

  abbrev v0 : Core
  v0 = core_at_start (between F)

  abbrev v1 : Core
  v1 = with_merge links2 marks2 (facts2 ++ F) v0

  second_one : impose one v0 ≡ v1
  second_one =
      imposes one v0 v1 v1 facts1 (unfold core_at_start in refl) (unfold computed in h.at_zero)
      (unfold computed in ap (λ (fs : List Fact). with_merge links2 marks2 fs v0) h.merge_two) (unfold computed in refl)

  second_two : impose two1 v1 ≡ v1
  second_two = imposes two1 v1 v1 v1 facts2 refl (unfold computed in h.at_zero) (unfold computed in refl) (unfold computed in refl)

  full : ltb (length (facts2 ++ F)) max_facts ≡ false
  full = ap (λ (n : ℕ). ltb (suc (suc (suc (suc n)))) max_facts) h.many

  -- 3 has the type with parent 2, and is to have it with 0, the root of 2 now
  second_three : impose three v1 ≡ with_met too_many_facts v1
  second_three =
      imposes three v1 v1 (with_met too_many_facts v1) facts2 refl (unfold computed in h.at_three) (unfold computed in refl)
      (unfold computed in ap (λ (b : Bool). elim b as (λ _. Core) [
        | true ↦ with_added (placed compare_fact (fact 3 1 (0 ∷ [])) (facts2 ++ F)) v1
        | false ↦ with_met too_many_facts v1
      ]) full)

  second_all : impose_all (one ∷ two1 ∷ three ∷ []) v0 ≡ with_met too_many_facts v1
  unfolding impose_all
  second_all = ap (λ (w : Core). impose three (impose two1 w)) second_one ∙ ap (impose three) second_two ∙ second_three

  second_close : (g : Sig) → closing.close g (between F) ≡ refusing (between F) too_many_facts
  unfolding closing.close close_by outcome met_causes first_of decided core_at_start
  second_close g =
      ap (λ (r : CloseRun). close_by r (between F))
      (no_rounds g links1 marks1 (facts1 ++ F) (one ∷ two1 ∷ three ∷ []) false ∙ ap (ran (between F)) second_all)

  -- The settle.

  settle_meets : (g : Sig) → settle_run g (before F) ≡ as_settle_run (answer ∷ []) (some too_many_facts) (between F)
  unfolding settle_run settle_from settle_by settle_after reported_first links0 up_from
  settle_meets g =
      let rest : Structure → SettleRun = λ s. reported_first answer (settle_from 36 g s) in
      let accepts : (closing.close g (before F)).answer ≡ _ = ap (λ (o : Outcome Closed Structure). o.answer) (first_close g) in
      ap (λ a. settle_after a (closing.close g (before F)).after (settle_from 36 g)) accepts
      ∙ ap rest (first_leaves g)
      ∙ ap (λ (o : Outcome Closed Structure). reported_first answer (settle_by o (settle_from 35 g))) (second_close g)

-- The machine.

-- all types that there can be, elements 0 to 3, of which 1 and 2 are marked, and as many more as types, and the impositions
unfoldable pub base : Machine
base =
    after_calls
    (types2
    ++ (typ plain (0 ∷ [])
    ∷ down_from (max_types - 3) (λ n. typ plain [])
    ++ (plain_el ∷ marked_el ∷ marked_el ∷ plain_el
    ∷ down_from max_types (λ n. plain_el)
    ++ (rows.impose 0 1 (0 ∷ []) ∷ rows.impose 2 2 (1 ∷ []) ∷ rows.impose 3 1 (2 ∷ []) ∷ []))))
    start

-- 1,020 facts at the elements from 4 on
unfoldable pub others : List Fact
others = drop (4 * max_types) (facts_before (4 * max_types + (max_facts - 4)) [])

-- settled is set by hand, since the impositions were answered with yes: a refused settle leaves this too
unfoldable pub crowded : Machine
crowded = let m = set_facts (facts0 ++ others) base in steps.machine m.sig (with_flags true true m.structure)

kept : (φ : Fact → Fact) (k : List Fact) → map φ others ≡ others → ascending (k ++ others) ≡ true → rewrite_into compare_fact φ others k ≡ k ++ others
kept φ k e a = rewrite_same compare_fact φ others k e (ascending_sorted (k ++ others) a)

others_are : Others others
others_are = record {
  at_zero = (unfold facts_at others facts_before in refl);
  at_two = (unfold facts_at others facts_before in refl);
  at_three = (unfold facts_at others facts_before in refl);
  many = (unfold others facts_before in refl);
  merge_one = kept (moved 0 1) facts1 (unfold others facts_before in refl) (unfold compare_fact ascending ascends is_less others facts_before in refl);
  canonical = kept (canonical_fact links1) facts1 (unfold computed others facts_before in refl)
      (unfold compare_fact ascending ascends is_less others facts_before in refl);
  merge_two = kept (moved 0 2) facts2 (unfold others facts_before in refl) (unfold compare_fact ascending ascends is_less others facts_before in refl);
}

abbrev sig : Sig
sig = base.sig

crowded_is : crowded ≡ steps.machine sig (before others)
unfolding computed down_from base crowded
crowded_is = refl

-- a close is accepted and changes it ..
first_step : step close crowded ≡ answers (closed answer) (steps.machine sig (between others))
first_step =
    ap (step close) crowded_is
    ∙ close_accepted (steps.machine sig (before others)) answer (ap (λ (o : Outcome Closed Structure). o.answer) (first_close others others_are sig))
    ∙ ap (λ (s : Structure). answers (closed answer) (steps.machine sig s)) (first_leaves others others_are sig)

-- .. the next one is refused ..
second_step : step close (steps.machine sig (between others)) ≡ refusal (steps.machine sig (between others)) too_many_facts
second_step =
    close_refused (steps.machine sig (between others)) too_many_facts
    (ap (λ (o : Outcome Closed Structure). o.answer) (second_close others others_are sig))

-- .. and so is a settle
settle_step : step settle crowded ≡ refusal crowded too_many_facts
settle_step =
    subst (λ (m : Machine). step settle m ≡ refusal m too_many_facts) (sym crowded_is)
    (settle_refuses (steps.machine sig (before others)) too_many_facts (ap (λ (r : SettleRun). r.met) (settle_meets others others_are sig)))

-- As rows.

pub second_refused : Row
second_refused = record {
  source = calls_from crowded (close ∷ close ∷ []);
  output = tells (closes 1 1 1 0 ∷ refuses 11 ∷ []);
  claims = link 1 is el 0 ∷ settled is flag false ∷ [];
}

second_holds : Holds second_refused
unfolding shown_by stated_by output_of machine_of answers_of stated after_calls look bit links1 second_refused
second_holds =
    ap (λ (x : Step). record {
      output = tells (stated x.answer (stated (step close x.after).answer []));
      seen = look (step close x.after).after (link 1) ∷ look (step close x.after).after settled ∷ [];
    }) first_step
    ∙ ap (λ (x : Step). record {
      output = tells (closes 1 1 1 0 ∷ stated x.answer []);
      seen = look x.after (link 1) ∷ look x.after settled ∷ [];
    }) second_step

pub settle_undone : Row
settle_undone = record { source = calls_from crowded (settle ∷ []); output = tells (refuses 11 ∷ []); claims = machine is whole crowded ∷ [] }

undone_holds : Holds settle_undone
unfolding shown_by stated_by output_of machine_of answers_of stated after_calls look settle_undone
undone_holds = ap (λ (x : Step). record { output = tells (stated x.answer []); seen = whole x.after ∷ [] }) settle_step

-- The table of proved cases: the rows that compute, and these.

pub cases : List Row
cases = table ++ (second_refused ∷ settle_undone ∷ [])

-- every row of it holds
pub every_row_holds : (r : Row) → Memᴰ r cases → Holds r
unfolding cases
every_row_holds r m = elim (Memᴰ.append_cases table m) [ inl c ↦ computed_row_holds r c | inr c ↦ go c ]
  where
    go : Memᴰ r (second_refused ∷ settle_undone ∷ []) → Holds r
    go (Memᴰ.head e) = subst Holds (sym e) second_holds
    go (Memᴰ.tail (Memᴰ.head e)) = subst Holds (sym e) undone_holds
    go (Memᴰ.tail (Memᴰ.tail x)) = elim x [ ]
