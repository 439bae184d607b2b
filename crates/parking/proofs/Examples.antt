-- Lists of acts for which each hypothesis holds, computed: stores, calls that go another way, a shutdown, and loads under the same signature and
-- under another.
use mathlib.Core.Path.{◌≡◌, refl}
use mathlib.Core.Bool.{true, false}
use mathlib.Core.List.{List, [], ◌∷◌, ◌++◌, map}
use mathlib.Core.Option.{none, some}
use native.Mathlib.Omega.{arith}
use lib.ListN.{take}
use Rattle.signature.specs.Model.{plain}
use Rattle.semantics.specs.Structure.{pair}
use Rattle.semantics.specs.Types.{any_marked}
use Rattle.semantics.specs.Close.{report}
use Rattle.semantics.specs.Calls.{Call, equate_els, close, settle, closed, step}
use Rattle.semantics.proofs.ProvedCases.{typ, func, plain_el, app, signature102, identity, cod}
use Rattle.history.specs.Book.{elements, Shared, Classes, RanCloses, closes, Conserved}
use Rattle.history.specs.Settled.{settled_after}
use Rattle.history.proofs.Settled.{NothingToClose}
use Rattle.parking.specs.Parking.{Act, call, park, restore, restart, Notes, notes_of, State, acted, ParkedConservation}
use Rattle.parking.proofs.Restoring.{parked_after, round_trip, ComesTo, list_goes_on}
use Rattle.parking.proofs.Conservation.{parked_conservation, settled_closes_noted}
use Rattle.parking.proofs.Computing.{acting}

-- f of 0 is 2 and f of 1 is 3
abbrev declared : List Call
declared = typ plain [] ∷ func [] (0 ∷ []) 0 ∷ []

abbrev stated : List Call
stated = plain_el ∷ plain_el ∷ plain_el ∷ plain_el ∷ app 0 [] (0 ∷ []) 2 ∷ app 0 [] (1 ∷ []) 3 ∷ []

-- up to the store
before : List Act
before = map call (declared ++ stated)

-- 0 and 3 are one, and an element is added; after a shutdown the signature is declared again
between : List Act
between = map call (equate_els 0 3 ∷ plain_el ∷ close ∷ []) ++ (restart ∷ map call declared)

-- after the load 0 and 1 are one
worked : List Act
worked = round_trip before between ++ map call (equate_els 0 1 ∷ [])

-- the calls of its list
remaining : List Call
remaining = (declared ++ stated) ++ (equate_els 0 1 ∷ [])

-- each hypothesis of the rule, and what the book then is: four elements, and the merges of the close after the load alone
record Worked (n : Notes) : Type 0 where
  ran : RanCloses (acted worked).machine close (report true 2 3 2 ∷ [])
  applies : (acted (worked ++ (call close ∷ []))).notes ≡ some n
  unmarked : any_marked n.book.marks ≡ false
  four : elements n.book ≡ 4
  one_equality : n.book.equalities ≡ pair 0 1 ∷ []
  two_merges : n.book.merges ≡ 2

works : Worked (notes_of (remaining ++ (close ∷ [])))
unfolding acting before between worked remaining
works = record { ran = closes refl; applies = refl; unmarked = refl; four = refl; one_equality = refl; two_merges = refl }

-- the hypotheses of `list_goes_on`, and what was there meanwhile
record Parks (n : Notes) : Type 0 where
  applies : (acted before).notes ≡ some n
  same : (parked_after before between).machine.sig ≡ (acted before).machine.sig
  -- the shutdown left nothing but the file
  gone : (parked_after before between).machine.structure.links ≡ []

parks : Parks (notes_of (declared ++ stated))
unfolding acting before between
parks = record { applies = refl; same = refl; gone = refl }

-- Settled at the store, and no more after an equality that is answered with yes: the load takes the answers back too.

settled_list : List Act
settled_list = map call (declared ++ (stated ++ (settle ∷ [])))

unsettled : List Act
unsettled = settled_list ++ (park ∷ call (equate_els 0 1) ∷ [])

record SettledAgain (n : Notes) : Type 0 where
  cleared : (acted unsettled).machine.structure.settled ≡ false
  applies : (acted (unsettled ++ (restore 0 ∷ []))).notes ≡ some n
  said : settled_after n.events ≡ true
  settled : (acted (unsettled ++ (restore 0 ∷ []))).machine.structure.settled ≡ true

settled_again : SettledAgain (notes_of (declared ++ (stated ++ (settle ∷ []))))
unfolding acting settled_list unsettled
settled_again = record { cleared = refl; applies = refl; said = refl; settled = refl }

-- "for any other accepted load": id(0) = 0 and cod(0) = 1 of functions that no model names are stored, settled, and loaded where a model names them.

unfoldable pub unnamed : List Call
unnamed = take 7 signature102 ++ (plain_el ∷ plain_el ∷ identity 0 0 ∷ cod 0 1 ∷ settle ∷ [])

unfoldable pub elsewhere : List Act
elsewhere = map call unnamed ++ (park ∷ restart ∷ (map call signature102 ++ (restore 0 ∷ [])))

-- "its settled mark included", which the next close refutes; "the conservation rule does not apply"
record OtherSignature (s : State) : Type 0 where
  nothing_noted : s.notes ≡ none
  settled : s.machine.structure.settled ≡ true
  changes : (step close s.machine).answer ≡ closed (report true 1 3 0)

other_signature : OtherSignature (acted elsewhere)
unfolding acting unnamed elsewhere
other_signature = record { nothing_noted = refl; settled = refl; changes = refl }

-- so the rule says of the first what it says
conserves : Conserved (notes_of (remaining ++ (close ∷ []))).book (acted (worked ++ (call close ∷ []))).machine.structure.links (report true 2 3 2 ∷ [])
unfolding ParkedConservation
conserves = parked_conservation worked close (report true 2 3 2 ∷ []) (notes_of (remaining ++ (close ∷ []))) works.ran works.applies works.unmarked

two_classes : Classes Shared (notes_of (remaining ++ (close ∷ []))).book 2
two_classes = rw two at conserves.by_class.counted
  where
    two : conserves.by_class.classes ≡ 2
    two = omega (arith, conserves.by_class.sum, works.four, works.two_merges)

-- it is the state of the remaining calls alone
comes_to : ComesTo (acted worked) remaining
unfolding worked remaining notes_of
comes_to = list_goes_on before between parks.same (notes_of (declared ++ stated)) parks.applies (equate_els 0 1 ∷ [])

-- and where it is settled again the next close finds nothing to do
nothing_to_close : NothingToClose (acted (unsettled ++ (restore 0 ∷ []))).machine
nothing_to_close =
    settled_closes_noted (unsettled ++ (restore 0 ∷ [])) (notes_of (declared ++ (stated ++ (settle ∷ [])))) settled_again.applies
    settled_again.settled
