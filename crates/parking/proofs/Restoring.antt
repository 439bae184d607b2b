-- "a load takes structure, book, sum and M-101's reading back to those at its store, also where calls stand between": which list of calls it is that a list
-- of acts comes to, where a file is loaded under the signature that it was stored with.
use mathlib.Core.Path.{◌≡◌, refl, sym, ap, subst, ◌∙◌}
use mathlib.Core.Bool.{Bool, true, false}
use mathlib.Core.List.{List, [], ◌∷◌, ◌++◌, map, append_assoc, append-nil}
use mathlib.Core.Option
use mathlib.Core.Option.{Option, none, some}
use Prim.Native.Nat.{ℕ, zero, suc}
use lib.ListN.{length}
use Rattle.ids.specs.Answers.{Answered, accepted, refused}
use Rattle.semantics.specs.Structure.{Structure}
use Rattle.semantics.specs.Calls.{Call, machine, step}
use Rattle.semantics.proofs.Cases.{none_some}
use Rattle.validity.proofs.Calls.{ValidMachine}
use Rattle.history.specs.Book.{history}
use Rattle.file.specs.File.{store, load}
use Rattle.file.proofs.LoadStore.{load_store}
use Rattle.parking.specs.Same.{same_sig}
use Rattle.parking.specs.Parking.{Act, call, park, restore, load_other, restart, Notes, no_notes, taken_down, notes_of, Parked, State, state, called}
use Rattle.parking.specs.Parking.{parked_now, loaded, taken_back, file_at, restored, act, acts, fresh, acted}
use Rattle.parking.proofs.Same.{sig_same}
use Rattle.parking.proofs.Validity.{acted_valid}
use Rattle.parking.proofs.Continuing.{acts_append, acted_next, step_continues, begins, continues}

-- The state is that of a list of calls alone.
pub record ComesTo (s : State) (ks : List Call) : Type 0 where
  pub machine : s.machine ≡ (history ks).machine
  pub notes : s.notes ≡ some (notes_of ks)

-- calls after it are calls of the list
calls_come : (ks js : List Call) (s : State) → ComesTo s ks → ComesTo (acts (map call js) s) (ks ++ js)
unfolding acts act called taken_down notes_of
calls_come ks [] s c = rw (append-nil ks) c
calls_come ks (j ∷ js) s c =
    let d = step_continues j s.machine (notes_of ks) (record { machine = c.machine; notes = refl }) in
    let e : ComesTo (act (call j) s) (ks ++ (j ∷ [])) = record {
      machine = d.machine;
      notes = ap (Option.map (taken_down j (step j s.machine).answer)) c.notes ∙ ap {B = Option Notes} some d.notes;
    } in
    rw (append_assoc ks (j ∷ []) js) at (calls_come (ks ++ (j ∷ [])) js (act (call j) s) e)

-- so of a list without stores and loads this is the rule as it was
pub calls_alone : (ks : List Call) → ComesTo (acted (map call ks)) ks
unfolding acted fresh no_notes notes_of
calls_alone ks = calls_come [] ks fresh (record { machine = begins.machine; notes = ap {B = Option Notes} some begins.notes })

-- Files stay.

file_stays : (i : ℕ) (ps more : List Parked) (p : Parked) → file_at i ps ≡ some p → file_at i (ps ++ more) ≡ some p
unfolding file_at
file_stays i [] more p e = none_some e
file_stays zero (q ∷ ps) more p e = e
file_stays (suc i) (q ∷ ps) more p e = file_stays i ps more p e

file_last : (ps : List Parked) (p : Parked) → file_at (length ps) (ps ++ (p ∷ [])) ≡ some p
unfolding file_at
file_last [] p = refl
file_last (q ∷ ps) p = file_last ps p

loaded_files : (o : Answered Structure) (known : Option Notes) (s : State) → (loaded o known s).files ≡ s.files
unfolding loaded
loaded_files (refused n) known s = refl
loaded_files (accepted x) known s = refl

restored_files : (o : Option Parked) (s : State) → (restored o s).files ≡ s.files
unfolding restored
restored_files none s = refl
restored_files (some p) s = loaded_files (load s.machine.sig p.bytes) (taken_back s.machine.sig p) s

module _ (i : ℕ) (p : Parked) where
  act_file : (a : Act) (s : State) → file_at i s.files ≡ some p → file_at i (act a s).files ≡ some p
  unfolding act called
  act_file (call k) s e = e
  act_file park s e = file_stays i s.files (parked_now s ∷ []) p e
  act_file (restore j) s e = ap (file_at i) (restored_files (file_at j s.files) s) ∙ e
  act_file (load_other bytes) s e = ap (file_at i) (loaded_files (load s.machine.sig bytes) none s) ∙ e
  act_file restart s e = e

  acts_file : (l : List Act) (s : State) → file_at i s.files ≡ some p → file_at i (acts l s).files ≡ some p
  unfolding acts
  acts_file [] s e = e
  acts_file (a ∷ l) s e = acts_file l (act a s) (act_file a s e)

-- A store after some acts, other acts, and a load of its file.

abbrev pub parked_after : List Act → List Act → State
parked_after before between = acted (before ++ (park ∷ between))

abbrev pub round_trip : List Act → List Act → List Act
round_trip before between = (before ++ (park ∷ between)) ++ (restore (length (acted before).files) ∷ [])

-- the load's part
module _ (s t : State) (v : ValidMachine s.machine) (same : t.machine.sig ≡ s.machine.sig) where
  restored_back : restored (some (parked_now s)) t ≡ state s.machine s.notes t.files
  unfolding restored loaded taken_back parked_now
  restored_back =
      let g = s.machine.sig in
      let x = s.machine.structure in
      let given : load t.machine.sig (store x) ≡ accepted x = rw same (load_store g x v) in
      let told : same_sig t.machine.sig g ≡ true = rw same (sig_same g) in
      let back = ap {B = Option Notes} (λ (b : Bool). elim b as (λ _. Option Notes) [ true ↦ s.notes | false ↦ none ]) told in
      (λ i. loaded (given i) (back i) t) ∙ (λ i. state (machine (same i) x) s.notes t.files)

module _ (before between : List Act) (same : (parked_after before between).machine.sig ≡ (acted before).machine.sig) where
  -- structure, list, book, sum and M-101's reading are those at the store, whether the rule applies or not
  pub restores : acted (round_trip before between) ≡ state (acted before).machine (acted before).notes (parked_after before between).files
  unfolding act acts acted
  restores =
      let s = acted before in
      let t = parked_after before between in
      let i = length s.files in
      let goes_on : t ≡ acts between (act park s) = acts_append before (park ∷ between) fresh in
      let at_store = acts_file i (parked_now s) between (act park s) (file_last s.files (parked_now s)) in
      let kept : file_at i t.files ≡ some (parked_now s) = ap (λ (z : State). file_at i z.files) goes_on ∙ at_store in
      acted_next (before ++ (park ∷ between)) (restore i) ∙ ap (λ (o : Option Parked). restored o t) kept
      ∙ restored_back s t (acted_valid before) same

  -- the list of calls: those up to the store, then those after the load
  pub list_goes_on : (n : Notes) → (acted before).notes ≡ some n → (after : List Call)
      → ComesTo (acted (round_trip before between ++ map call after)) (n.list ++ after)
  unfolding acted
  list_goes_on n applies after =
      let c = continues before n applies in
      subst (λ (z : State). ComesTo z (n.list ++ after)) (sym (acts_append (round_trip before between) (map call after) fresh))
      (calls_come n.list after (acted (round_trip before between)) (record {
        machine = ap (λ (z : State). z.machine) restores ∙ c.machine;
        notes = ap (λ (z : State). z.notes) restores ∙ applies ∙ ap {B = Option Notes} some c.notes;
      }))
