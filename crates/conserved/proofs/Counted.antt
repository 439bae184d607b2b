-- What the counts of a close say (02, M-106), for the code's own values: after calls alone, and with stores, loads and shutdowns among them.
use mathlib.Core.Path.{◌≡◌, sym, ap, subst, ◌∙◌}
use mathlib.Core.Bool.{false}
use mathlib.Core.List.{List, []}
use mathlib.Core.Option.{some}
use Prim.Native.Nat.{ℕ, ◌+◌, ◌≤◌}
use lib.ListN.{length}
use Rattle.signature.specs.Model.{sig_of}
use Rattle.semantics.specs.Close.{Closed}
use Rattle.semantics.specs.Calls as calls
use Rattle.semantics.specs.Calls.{Call, closed, Step, step}
use Rattle.structure.specs.declared.Machine.{Machine}
use Rattle.structure.specs.View.{structure_of, machine_of}
use Rattle.validity.proofs.Calls.{ValidMachine}
use Rattle.validity.proofs.Added.{NoneStale, facts_most, facts_exactly, none_stale}
use Rattle.history.specs.Book.{Book, blank, History}
use Rattle.history.proofs.Histories.{after_history, history_valid}
use Rattle.history.proofs.NoChange.{DidNothing, unchanged_nothing, nothing_unchanged}
use Rattle.parking.specs.Parking.{Act, Notes, acted}
use Rattle.parking.proofs.Continuing.{continues}
use Rattle.conserved.specs.Run.{Made, Run, Fresh}
use Rattle.conserved.specs.Acts.{Did}
use Rattle.conserved.proofs.Composed.{made_step, run_history}
use Rattle.conserved.proofs.Parked.{did_acted, code_acts_valid}

-- A close that the code makes of any values, and that is accepted.
module _ {w z : Machine} {c : Closed} (m : Made w calls.close (closed c) z) where
  answered : (step calls.close (machine_of w)).answer ≡ closed c
  answered = sym (ap (λ (s : Step). s.answer) (made_step m))

  left : (step calls.close (machine_of w)).after ≡ machine_of z
  left = sym (ap (λ (s : Step). s.after) (made_step m))

  -- the facts that it hands back are at most those that it was given and F
  pub code_facts_most : length (structure_of z.structure).facts ≤ length (structure_of w.structure).facts + c.added
  code_facts_most =
      subst (λ (x : calls.Machine). length x.structure.facts ≤ length (structure_of w.structure).facts + c.added) left
      (facts_most (machine_of w) c answered)

  -- where it reports no change it did nothing
  pub code_unchanged_nothing : c.changed ≡ false → DidNothing (sig_of w.signature) (structure_of w.structure) c
  code_unchanged_nothing = unchanged_nothing (machine_of w) c answered

  -- where nothing merged and no fact was stale they are exactly those
  exactly : ValidMachine (machine_of w) → NoneStale (machine_of w) → c.merges ≡ 0
      → length (structure_of z.structure).facts ≡ length (structure_of w.structure).facts + c.added
  exactly v canon unmerged =
      ap (λ (x : calls.Machine). length x.structure.facts) (sym left) ∙ facts_exactly (machine_of w) v c answered unmerged canon

  -- After calls that the code makes from fresh values, refused ones included, marks or not.
  module _ {v : Machine} {d : Book} {before : List Call} (f : Fresh v) (r : Run v blank before w d) where
    valid : ValidMachine (machine_of w)
    valid = subst (λ (h : History). ValidMachine h.machine) (sym (run_history f r)) (history_valid before).valid

    -- where nothing merged
    pub code_facts_exactly : c.merges ≡ 0 → length (structure_of z.structure).facts ≡ length (structure_of w.structure).facts + c.added
    code_facts_exactly =
        exactly valid (subst NoneStale (after_history before ∙ sym (ap (λ (h : History). h.machine) (run_history f r))) (none_stale before))

    -- where it did nothing it reports no change
    pub code_nothing_unchanged : DidNothing (sig_of w.signature) (structure_of w.structure) c → c.changed ≡ false
    code_nothing_unchanged = nothing_unchanged (machine_of w) valid c answered

  -- With stores, loads and shutdowns among them (02, M-104). A file may hold a stale fact, which no call leaves.
  module _ {v : Machine} {kept : List (List ℕ)} {l : List Act} (f : Fresh v) (d : Did v [] l w kept) where
    pub code_acts_nothing_unchanged : DidNothing (sig_of w.signature) (structure_of w.structure) c → c.changed ≡ false
    code_acts_nothing_unchanged = nothing_unchanged (machine_of w) (code_acts_valid f d) c answered

    pub code_acts_facts_exactly : NoneStale (machine_of w) → c.merges ≡ 0
        → length (structure_of z.structure).facts ≡ length (structure_of w.structure).facts + c.added
    code_acts_facts_exactly = exactly (code_acts_valid f d)

    -- where the list goes on none is stale
    pub code_noted_facts_exactly : (n : Notes) → (acted l).notes ≡ some n → c.merges ≡ 0
        → length (structure_of z.structure).facts ≡ length (structure_of w.structure).facts + c.added
    code_noted_facts_exactly n applies =
        code_acts_facts_exactly
        (subst NoneStale (after_history n.list ∙ sym (continues l n applies).machine ∙ sym (did_acted f d).machine) (none_stale n.list))
