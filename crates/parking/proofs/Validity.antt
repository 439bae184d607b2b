-- "for any other accepted load the passes' rule starts from what it holds": every state that acts reach is valid, and what the passes obey is proved for
-- every valid signature and structure.
use mathlib.Core.Path.{◌≡◌, refl}
use mathlib.Core.List.{List, [], ◌∷◌}
use mathlib.Core.Option.{Option, none, some}
use Prim.Native.Nat.{ℕ}
use Rattle.ids.specs.Answers.{Answered, accepted, refused}
use Rattle.semantics.specs.Structure.{Structure}
use Rattle.validity.proofs.Calls.{ValidMachine, start_valid, step_valid}
use Rattle.file.specs.File.{load}
use Rattle.file.proofs.Loaded.{load_valid}
use Rattle.parking.specs.Parking.{Act, call, park, restore, load_other, restart, Notes, Parked, State, called, loaded, taken_back, file_at, restored}
use Rattle.parking.specs.Parking.{act, acts, fresh, acted}

module _ (s : State) (v : ValidMachine s.machine) where
  loaded_valid : (bytes : List ℕ) (known : Option Notes) → ValidMachine (loaded (load s.machine.sig bytes) known s).machine
  unfolding loaded
  loaded_valid bytes known = go (load s.machine.sig bytes) refl
    where
      go : (o : Answered Structure) → load s.machine.sig bytes ≡ o → ValidMachine (loaded o known s).machine
      go (refused n) e = v
      go (accepted x) e = load_valid s.machine.sig bytes x v.sig e

  restored_valid : (o : Option Parked) → ValidMachine (restored o s).machine
  unfolding restored
  restored_valid none = v
  restored_valid (some p) = loaded_valid p.bytes (taken_back s.machine.sig p)

  act_valid : (a : Act) → ValidMachine (act a s).machine
  unfolding act called
  act_valid (call k) = step_valid k s.machine v
  act_valid park = v
  act_valid (restore i) = restored_valid (file_at i s.files)
  act_valid (load_other bytes) = loaded_valid bytes none
  act_valid restart = start_valid

acts_valid : (l : List Act) (s : State) → ValidMachine s.machine → ValidMachine (acts l s).machine
unfolding acts
acts_valid [] s v = v
acts_valid (a ∷ l) s v = acts_valid l (act a s) (act_valid s v a)

pub acted_valid : (l : List Act) → ValidMachine (acted l).machine
unfolding acted fresh
acted_valid l = acts_valid l fresh start_valid
