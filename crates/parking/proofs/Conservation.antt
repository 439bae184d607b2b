-- The conservation rule and M-101's reading over every list of acts (02, M-104).
use mathlib.Core.Path.{◌≡◌, refl, sym, ap, subst, ◌∙◌}
use mathlib.Core.Bool.{true, false}
use mathlib.Core.List.{List, [], ◌∷◌, ◌++◌}
use mathlib.Core.Option.{Option, none, some, map, some-injective, none-ne-some}
use Rattle.semantics.specs.Types.{any_marked}
use Rattle.semantics.specs.Close.{Closed}
use Rattle.semantics.specs.Calls.{Call, Machine, step}
use Rattle.history.specs.Book.{Book, history, RanCloses, Conserved, Conservation}
use Rattle.history.specs.Settled.{settled_after}
use Rattle.history.proofs.Histories.{after_history}
use Rattle.history.proofs.Conservation.{conservation}
use Rattle.history.proofs.Settled.{NothingToClose, settled_is, settled_closes_at}
use Rattle.parking.specs.Parking.{Act, call, Notes, taken_down, notes_of, State, called, act, acted, Continues, ParkedConservation}
use Rattle.parking.proofs.Continuing.{acted_next, step_continues, continues}

-- from a machine that a list of calls alone comes to
conserved_next : (m : Machine) (n : Notes) (k : Call) (cs : List Closed) → Continues m n → RanCloses m k cs
    → any_marked (taken_down k (step k m).answer n).book.marks ≡ false
    → Conserved (taken_down k (step k m).answer n).book (step k m).after.structure.links cs
unfolding Conservation taken_down notes_of
conserved_next m n k cs c ran unmarked =
    let after = step_continues k m n c in
    let h = history (n.list ++ (k ∷ [])) in
    let book : (taken_down k (step k m).answer n).book ≡ h.book = ap (λ (x : Notes). x.book) after.notes in
    let holds = conservation n.list k cs (subst (λ (z : Machine). RanCloses z k cs) c.machine ran) (ap (λ (b : Book). any_marked b.marks) (sym book) ∙ unmarked) in
    rw (book, after.machine) holds

-- For every list of acts and every accepted close or settle in it after which the rule applies, with no element marked up to then.
pub parked_conservation : ParkedConservation
unfolding ParkedConservation act called
parked_conservation before k cs n ran is unmarked =
    let s = acted before in
    let after = acted_next before (call k) in
    let is' = ap (λ (z : State). z.notes) (sym after) ∙ is in
    subst (λ (z : State). Conserved n.book z.machine.structure.links cs) (sym after) (go s.notes (continues before) is')
  where
    go : (known : Option Notes) → ((x : Notes) → known ≡ some x → Continues (acted before).machine x)
        → map (taken_down k (step k (acted before).machine).answer) known ≡ some n
        → Conserved n.book (step k (acted before).machine).after.structure.links cs
    go none c e = absurd (none-ne-some n e)
    go (some x) c e =
        let same = some-injective (taken_down k (step k (acted before).machine).answer x) n e in
        subst (λ (z : Notes). Conserved z.book (step k (acted before).machine).after.structure.links cs) same
        (conserved_next (acted before).machine x k cs (c x refl) ran (ap (λ (z : Notes). any_marked z.book.marks) same ∙ unmarked))

module _ (l : List Act) (n : Notes) (applies : (acted l).notes ≡ some n) where
  -- M-101: the structure is settled exactly when the calls of the list and their answers say so
  pub settled_is_noted : (acted l).machine.structure.settled ≡ settled_after n.events
  unfolding notes_of
  settled_is_noted =
      let c = continues l n applies in
      ap (λ (m : Machine). m.structure.settled) (c.machine ∙ sym (after_history n.list)) ∙ settled_is n.list
      ∙ ap (λ (x : Notes). settled_after x.events) (sym c.notes)

  -- and where it says yes a close is accepted and reports no change, no merge, one round and no new fact
  pub settled_closes_noted : (acted l).machine.structure.settled ≡ true → NothingToClose (acted l).machine
  settled_closes_noted =
      settled_closes_at n.list (acted l).machine (after_history n.list ∙ sym (continues l n applies).machine)
