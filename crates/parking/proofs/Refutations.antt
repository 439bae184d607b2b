-- Wrong readings of what a load takes back (02, M-104), each refuted by a list of acts: of each, the rule or M-101's reading is false.
use mathlib.Core.Path.{◌≡◌, refl, ap, ◌∙◌}
use mathlib.Core.Logic.{◌↔◌}
use mathlib.Core.Bool.{true, false}
use mathlib.Core.List.{List, [], ◌∷◌, ◌++◌}
use mathlib.Core.Option.{Option, none, some, map}
use lib.ListN.{length}
use native.Mathlib.Omega.{arith}
use Rattle.ids.proofs.Sorted.{no_test}
use Rattle.signature.specs.Model.{Sig, with_models}
use Rattle.semantics.specs.Types.{any_marked}
use Rattle.semantics.specs.Close.{Closed, report}
use Rattle.semantics.specs.Calls.{Call, equate_els, close, Answer}
use Rattle.semantics.proofs.ProvedCases.{plain_el}
use Rattle.history.specs.Book.{with_merges, RanCloses, closes, Conserved, AppliesNeither}
use Rattle.history.specs.Settled.{reported_change, unchanged, settled_after}
use Rattle.history.proofs.WrongLaws.{maps, apart_by_fits}
use Rattle.history.proofs.Settled.{NothingToClose}
use Rattle.file.specs.File.{load}
use Rattle.parking.specs.Parking.{Act, call, park, restore, load_other, restart, Notes, notes, no_notes, Parked, State, loaded, taken_back, file_at}
use Rattle.parking.specs.Parking.{restored, act, acts, fresh, acted, ParkedConservation}
use Rattle.parking.proofs.Conservation.{settled_is_noted, settled_closes_noted}
use Rattle.parking.proofs.Computing.{acting}
use Rattle.parking.proofs.Examples.{unnamed, elsewhere}

-- A version says what is noted after an accepted load of a kept file, by the signature then, the file, and what was noted before the load.

abbrev pub Version : Type 0
Version = Sig → Parked → Option Notes → Option Notes

unfoldable pub restored_by : Version → Option Parked → State → State
restored_by v none s = s
restored_by v (some p) s = loaded (load s.machine.sig p.bytes) (v s.machine.sig p s.notes) s

unfoldable pub act_by : Version → Act → State → State
act_by v (call k) s = act (call k) s
act_by v park s = act park s
act_by v (restore i) s = restored_by v (file_at i s.files) s
act_by v (load_other bytes) s = act (load_other bytes) s
act_by v restart s = act restart s

unfoldable pub acts_by : Version → List Act → State → State
acts_by v [] s = s
acts_by v (a ∷ l) s = acts_by v l (act_by v a s)

unfoldable pub acted_by : Version → List Act → State
acted_by v l = acts_by v l fresh

-- the right one
abbrev right : Version
right g p now = taken_back g p

right_act : (a : Act) (s : State) → act_by right a s ≡ act a s
unfolding act_by act restored_by restored
right_act (call k) s = refl
right_act park s = refl
right_act (restore i) s = go (file_at i s.files)
  where
    go : (o : Option Parked) → restored_by right o s ≡ restored o s
    go none = refl
    go (some p) = refl
right_act (load_other bytes) s = refl
right_act restart s = refl

right_acts : (l : List Act) (s : State) → acts_by right l s ≡ acts l s
unfolding acts_by acts
right_acts [] s = refl
right_acts (a ∷ l) s = ap (acts_by right l) (right_act a s) ∙ right_acts l (act a s)

pub right_is : (l : List Act) → acted_by right l ≡ acted l
unfolding acted_by acted
right_is l = right_acts l fresh

-- The claims, with the states that lists of acts come to as a parameter.

unfoldable pub ConservedOver : (List Act → State) → Type 1
ConservedOver over =
    (l : List Act) (k : Call) (cs : List Closed) (n : Notes) → RanCloses (over l).machine k cs
    → (over (l ++ (call k ∷ []))).notes ≡ some n → any_marked n.book.marks ≡ false
    → Conserved n.book (over (l ++ (call k ∷ []))).machine.structure.links cs

pub conserved_over : ConservedOver acted ↔ ParkedConservation
unfolding ConservedOver ParkedConservation
conserved_over = (λ h. h, λ h. h)

-- M-101: the flag is what the noted answers say, and where it is set a close finds nothing to do
pub record SettledOver (over : List Act → State) : Type 0 where
  pub is : (l : List Act) (n : Notes) → (over l).notes ≡ some n → (over l).machine.structure.settled ≡ settled_after n.events
  pub closes : (l : List Act) (n : Notes) → (over l).notes ≡ some n → (over l).machine.structure.settled ≡ true → NothingToClose (over l).machine

pub settled_over : SettledOver acted
settled_over = record { is = settled_is_noted; closes = settled_closes_noted }

-- The versions.

-- the structure goes back, and book and list stay
abbrev pub book_stays : Version
book_stays g p now = now

-- all but the sum goes back
abbrev pub sum_stays : Version
sum_stays g p none = taken_back g p
sum_stays g p (some m) = map (λ (n : Notes). notes n.list (with_merges m.book.merges n.book) n.events) (taken_back g p)

-- all but the answers goes back
abbrev pub events_stay : Version
events_stay g p none = taken_back g p
events_stay g p (some m) = map (λ (n : Notes). notes n.list n.book m.events) (taken_back g p)

-- a load begins a list
abbrev pub begun_anew : Version
begun_anew g p now = some no_notes

-- the signature is not asked for
abbrev pub any_signature : Version
any_signature g p now = p.notes

-- Two elements are parked, and made one three times over: there are not as many merges.

again : List Act
again = restore 0 ∷ call (equate_els 0 1) ∷ []

thrice : List Act
thrice = call plain_el ∷ call plain_el ∷ park ∷ call (equate_els 0 1) ∷ call close ∷ (again ++ (call close ∷ again))

-- what a version notes of it at the close that ends it
record Thrice (v : Version) (n : Notes) : Type 0 where
  ran : RanCloses (acted_by v thrice).machine close (report true 1 2 0 ∷ [])
  applies : (acted_by v (thrice ++ (call close ∷ []))).notes ≡ some n
  two : n.book.marks ≡ false ∷ false ∷ []

-- three merges of two elements
too_many : (v : Version) (n : Notes) → Thrice v n → n.book.merges ≡ 3 → ConservedOver (acted_by v) → ⊥
unfolding ConservedOver any_marked
too_many v n w three h =
    let c = h thrice close (report true 1 2 0 ∷ []) n w.ran w.applies (ap any_marked w.two) in
    omega (arith, c.by_class.sum, three, ap length w.two)

-- what these versions note: all calls, or those of the list with the sum of all
pub book_stays_refuted : ConservedOver (acted_by book_stays) → ⊥
unfolding acting acted_by acts_by act_by restored_by again thrice
book_stays_refuted = too_many book_stays _ (record { ran = closes refl; applies = refl; two = refl }) refl

pub sum_stays_refuted : ConservedOver (acted_by sum_stays) → ⊥
unfolding acting acted_by acts_by act_by restored_by again thrice
sum_stays_refuted = too_many sum_stays _ (record { ran = closes refl; applies = refl; two = refl }) refl

-- the right one has one merge of two elements
one_merge : (n : Notes) × (Thrice right n × (n.book.merges ≡ 1))
unfolding acting acted_by acts_by act_by restored_by again thrice
one_merge = (_, (record { ran = closes refl; applies = refl; two = refl }, refl))

-- a book that begins at the load has no elements, and the structure has two
pub begun_anew_refuted : ConservedOver (acted_by begun_anew) → ⊥
unfolding acting acted_by acts_by act_by restored_by ConservedOver
begun_anew_refuted h =
    let c = h (call plain_el ∷ call plain_el ∷ park ∷ restore 0 ∷ []) close (report false 0 1 0 ∷ []) _ (closes refl) refl refl in
    omega (arith, c.by_class.long)

-- answers that stay: settled at the store, and the equality after it was answered with yes
pub events_stay_refuted : SettledOver (acted_by events_stay) → ⊥
unfolding acting acted_by acts_by act_by restored_by
events_stay_refuted h =
    no_test refl (h.is (call plain_el ∷ call plain_el ∷ call close ∷ park ∷ call (equate_els 0 1) ∷ restore 0 ∷ []) _ refl)

-- Under another signature: the flag is set and the next close merges; and by the list that was noted at the store the two that it merges share no class.

pub any_signature_unsettled : SettledOver (acted_by any_signature) → ⊥
unfolding acting acted_by acts_by act_by restored_by unnamed elsewhere
any_signature_unsettled h =
    no_test (ap (λ (a : Answer). unchanged (reported_change a)) (h.closes elsewhere _ refl refl).closes) refl

pub any_signature_refuted : ConservedOver (acted_by any_signature) → ⊥
unfolding acting acted_by acts_by act_by restored_by unnamed elsewhere ConservedOver AppliesNeither
any_signature_refuted h =
    let c = h elsewhere close (report true 1 3 0 ∷ []) _ (closes refl) refl refl in
    apart_by_fits (with_models maps []) (((c.plain (refl, (refl, tt))).one_root 0 1 (omega arith) (omega arith)).0 refl)
