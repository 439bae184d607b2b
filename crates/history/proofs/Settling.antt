-- A settle of a valid structure ends by itself (02, M-100), marks or not: its last close reports no change, after at most one close more than there
-- are elements.
use mathlib.Core.Path.{◌≡◌, refl, sym, subst, ap, ◌∙◌}
use mathlib.Core.Bool.{Bool, true, false, not}
use mathlib.Core.Logic.{inl, inr}
use mathlib.Core.List.{List, [], ◌∷◌}
use mathlib.Core.Option.{none}
use Prim.Native.Nat.{ℕ, zero, suc, ◌+◌, ◌≤◌, ◌<◌}
use native.Mathlib.Omega.{arith}
use lib.ListN.{length}
use borrow.Author.Tests.{eq-eqb}
use Rattle.ids.specs.Answers.{Answered, accepted, refused}
use Rattle.ids.specs.Count.{count}
use Rattle.ids.proofs.Sorted.{all_of, all_map, no_test}
use Rattle.unification.specs.Roots.{root_of}
use Rattle.unification.proofs.Numbers.{same_or}
use Rattle.unification.proofs.Laws.{root_le}
use Rattle.signature.specs.Model.{Sig}
use Rattle.semantics.specs.Structure.{Structure}
use Rattle.semantics.specs.Valid.{counts_of, ValidStructure, Valid}
use Rattle.semantics.specs.Close.{demands, Closed, core_at_start, close}
use Rattle.semantics.specs.Calls as calls
use Rattle.semantics.specs.Calls.{settle, closed, summed, Totals, Machine, machine, Step, leaves, settled_by, SettleRun, as_settle_run, reported_first, settle_after}
use Rattle.semantics.specs.Calls.{settle_by, settle_from, settle_run, merges_in, sums_of, step}
use Rattle.semantics.proofs.Counts.{is_root, roots, roots_most, count_yes, count_no}
use Rattle.semantics.proofs.Cases.{none_some}
use Rattle.semantics.proofs.Judged.{closed_answer, close_steps}
use Rattle.semantics.proofs.Settling.{closes_leave, settle_few, settle_by_lem, settle_totals}
use Rattle.validity.proofs.Demands.{demands_valid}
use Rattle.validity.proofs.Settling.{Reaches, closes_reach}
use Rattle.history.proofs.Operations.{laws_all, Held}
use Rattle.history.proofs.Passes.{canonical_no_work}
use Rattle.history.proofs.Closing.{accepted_close}
use Rattle.history.proofs.SecondClose.{Idle, idle_report, idle_flags, closed_idle}

-- there is a last one of these closes, and it reported no change
pub data LastUnchanged : List Closed → Type 0 where
  last : {c : Closed} → c.changed ≡ false → LastUnchanged (c ∷ [])
  later : {c : Closed} {cs : List Closed} → LastUnchanged cs → LastUnchanged (c ∷ cs)

-- what a settle of at most so many closes comes to, of which k are enough
record Ended (k : ℕ) (at_most : ℕ → SettleRun) : Type 0 where
  same : (n : ℕ) → k ≤ n → at_most n ≡ at_most k
  unchanged : (at_most k).met ≡ none → LastUnchanged (at_most k).reports
  settled : (at_most k).met ≡ none → (at_most k).after.settled ≡ true

abbrev EndsIn : ℕ → Sig → Structure → Type 0
EndsIn k g s = Ended k (λ n. settle_from n g s)

module _ (k : ℕ) (g : Sig) where
  -- after a close that answered so and left t, where k are enough for the rest
  ended_after : (a : Answered Closed) (t : Structure) → ((c : Closed) → a ≡ accepted c → c.changed ≡ true → EndsIn k g (leaves true (closed c) t))
      → Ended k (λ n. settle_after a t (settle_from n g))
  unfolding settle_after reported_first
  ended_after (refused n) t h = record { same = λ j l. refl; unchanged = λ e. none_some (sym e); settled = λ e. none_some (sym e) }
  ended_after (accepted c) t h = go c.changed refl
    where
      go : (b : Bool) → c.changed ≡ b
          → Ended k (λ n. reported_first c (elim b [
            | true ↦ settle_from n g (leaves true (closed c) t)
            | false ↦ as_settle_run [] none (leaves true (closed c) t)
          ]))
      go true e =
          let r = h c refl e in
          record { same = λ n l. ap (reported_first c) (r.same n l); unchanged = λ q. later (r.unchanged q); settled = r.settled }
      go false e = record { same = λ n l. refl; unchanged = λ q. last e; settled = λ q. (unfold leaves settled_by in ap not e) }

  -- one close more
  ends_in : (s : Structure) → ((c : Closed) → (close g s).answer ≡ accepted c → c.changed ≡ true → EndsIn k g (leaves true (closed c) (close g s).after))
      → EndsIn (suc k) g s
  unfolding settle_from settle_by
  ends_in s h = record { same = same; unchanged = first.unchanged; settled = first.settled }
    where
      first : Ended k (λ n. settle_by (close g s) (settle_from n g))
      first = ended_after (close g s).answer (close g s).after h

      same : (n : ℕ) → suc k ≤ n → settle_from n g s ≡ settle_from (suc k) g s
      same zero l = absurd (omega arith)
      same (suc n) l = first.same n (omega arith)

  -- where nothing remains to do, one close is enough
  idle_ends : (s : Structure) → Idle g s → EndsIn (suc k) g s
  idle_ends s i =
      ends_in s (λ c e changed. no_test changed (ap (λ (x : Closed). x.changed) ((accepted_close g s c e).answer ∙ idle_report g s i)))

-- With no element nothing remains to do.
none_idle : (g : Sig) (s : Structure) → Valid g s → length s.links ≡ 0 → Idle g s
unfolding core_at_start
none_idle g s v e = record {
  rounds = canonical_no_work g s.pred_apps (core_at_start s) s.func_apps refl
      (all_map (λ p h. absurd (omega (arith, e, h.lhs))) s.pairs vs.pairs.each) vs.func_apps.sorted
      (all_map (λ x h. absurd (omega (arith, e, h.result))) s.func_apps vs.func_apps.each)
      (all_map (λ f h. absurd (omega (arith, e, h.el))) (demands g s.func_apps s.pred_apps)
      (demands_valid g v.sig (length s.links) s.func_apps s.pred_apps vs.func_apps.each vs.pred_apps.each))
      (laws_all (λ x. ⊥) (Held s.links s.func_apps) g.models
      (all_of (λ m. record { identity = λ ps a r q. absurd q; composite = λ ps f h k q. absurd q }) g.models) s.func_apps
      (all_map (λ x h. omega (arith, e, h.result)) s.func_apps vs.func_apps.each));
  imposed = all_map (λ f h. absurd (omega (arith, e, h.el))) s.impositions vs.impositions.each;
}
  where
    vs : ValidStructure (counts_of g s) s
    vs = v.structure

-- With no root there is no element, since 0 would be a root.

count_first : (p : ℕ → Bool) (n : ℕ) → p 0 ≡ true → 0 < count p (suc n)
count_first p zero e = omega (arith, count_yes p 0 e)
count_first p (suc n) e = go (p (suc n)) refl (count_first p n e)
  where
    go : (b : Bool) → p (suc n) ≡ b → 0 < count p (suc n) → 0 < count p (suc (suc n))
    go true q h = omega (arith, count_yes p (suc n) q)
    go false q h = omega (arith, count_no p (suc n) q)

no_root : (ls : List ℕ) → roots ls ≡ 0 → length ls ≡ 0
unfolding roots is_root
no_root [] e = refl
no_root (l ∷ ls) e =
    let first = count_first (is_root (l ∷ ls)) (length ls) (eq-eqb (root_of (l ∷ ls) 0) 0 (omega (arith, root_le (l ∷ ls) 0))) in
    absurd (omega (arith, first, e))

module _ (g : Sig) (s : Structure) (v : Valid g s) (c : Closed) (e : (close g s).answer ≡ accepted c) where
  -- what an accepted close of a valid structure leaves
  abbrev after : Structure
  after = leaves true (closed c) (close g s).after

  after_reached : Reaches (machine g s) (c ∷ []) (machine g after)
  unfolding closed_answer
  after_reached =
      let stepped = sym (close_steps (machine g s)) ∙ ap (closed_answer (machine g s) (close g s).after) e in
      subst (λ (t : Step). Reaches (machine g s) (c ∷ []) t.after) stepped
      (closes_reach (c ∷ []) (machine g s) (step calls.close (machine g s)).after v (ap (λ (t : Step). t.answer) stepped, refl))

  after_idle : c.merges ≡ 0 → Idle g after
  unfolding leaves
  after_idle z = idle_flags g (close g s).after _ _ (closed_idle g s v c e z)

-- One close more than there are roots is enough: a close that merges leaves fewer roots, and after one that does not nothing remains to do.
roots_enough : (k : ℕ) (g : Sig) (s : Structure) → Valid g s → roots s.links < k → EndsIn k g s
unfolding merges_in
roots_enough zero g s v l = absurd (omega arith)
roots_enough (suc zero) g s v l = idle_ends 0 g s (none_idle g s v (no_root s.links (omega arith)))
roots_enough (suc (suc k)) g s v l =
    ends_in (suc k) g s (λ c e changed.
    elim (same_or c.merges 0) [
      | inl z ↦ idle_ends k g (after g s v c e) (after_idle g s v c e z)
      | inr n ↦
          let r = after_reached g s v c e in
          roots_enough (suc k) g (after g s v c e) r.valid (omega (arith, l, n, r.sum))
    ])

-- The bound of a settle never ends it.
module _ (g : Sig) (s : Structure) (v : Valid g s) where
  ended : EndsIn (suc (length s.links)) g s
  ended = roots_enough (suc (length s.links)) g s v (omega (arith, roots_most s.links))

  -- more closes change nothing, also where one is refused
  pub settle_fuel : (j : ℕ) → settle_from (suc (length s.links) + j) g s ≡ settle_run g s
  unfolding settle_run
  settle_fuel j = ended.same (suc (length s.links) + j) (omega arith)

  -- where none is refused, the last one reported no change
  pub settle_unchanged : (settle_run g s).met ≡ none → LastUnchanged (settle_run g s).reports
  unfolding settle_run
  settle_unchanged = ended.unchanged

  pub run_settled : (settle_run g s).met ≡ none → (settle_run g s).after.settled ≡ true
  unfolding settle_run
  run_settled = ended.settled

-- where there is a last one there is one
pub last_some : {cs : List Closed} → LastUnchanged cs → 0 < length cs
last_some (last e) = omega arith
last_some (later h) = omega arith

-- The call.

-- an accepted settle met no number, and leaves what its closes leave
settle_accepted : (m : Machine) (t : Totals) → (step settle m).answer ≡ summed t
    → ((settle_run m.sig m.structure).met ≡ none) × ((step settle m).after ≡ closes_leave m)
settle_accepted m t =
    settle_by_lem m (λ (x : Step). x.answer ≡ summed t → ((settle_run m.sig m.structure).met ≡ none) × (x.after ≡ closes_leave m))
    (λ e q. (e, refl)) (λ n e q. let z : ◌≡◌ {A = ℕ} 0 1 = cc in absurd (omega arith))

-- what an accepted settle of m that answers t says
pub record SettleEnds (m : Machine) (t : Totals) : Type 0 where
  -- "at most the element count plus one closes"
  pub few : t.closes ≤ suc (length m.structure.links)
  pub some : 0 < t.closes
  -- "until one reports no change"
  pub unchanged : LastUnchanged (settle_run m.sig m.structure).reports
  pub settled : (step settle m).after.structure.settled ≡ true

pub settle_ends : (m : Machine) → Valid m.sig m.structure → (t : Totals) → (step settle m).answer ≡ summed t → SettleEnds m t
unfolding sums_of
settle_ends m v t e =
    let a = settle_accepted m t e in
    let many : t.closes ≡ length (settle_run m.sig m.structure).reports = ap (λ (x : Totals). x.closes) (settle_totals m t e) in
    let unchanged = settle_unchanged m.sig m.structure v a.0 in
    record {
      few = omega (arith, many, settle_few m.sig m.structure);
      some = omega (arith, many, last_some unchanged);
      unchanged = unchanged;
      settled = subst (λ (z : Machine). z.structure.settled ≡ true) (sym a.1) (run_settled m.sig m.structure v a.0);
    }
