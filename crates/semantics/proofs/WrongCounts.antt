-- Wrong readings of F (02, M-106), each refuted by a close after a list of calls.
use mathlib.Core.Path.{◌≡◌, refl}
use mathlib.Core.List.{List, [], ◌∷◌, ◌++◌}
use Prim.Native.Nat.{ℕ, ◌+◌, ◌-◌}
use Prim.Native.String.{String}
use native.Mathlib.Omega.{arith}
use lib.ListN.{length}
use Rattle.signature.specs.Model.{plain}
use Rattle.semantics.specs.Structure.{Structure}
use Rattle.semantics.specs.Close.{CloseRun, close_run, after_close}
use Rattle.semantics.specs.Calls.{Call, equate_els, close, closed, Answer, number, says, done, conflicting, summed, found, typed, els, refuse, Machine}
use Rattle.semantics.specs.Calls.{start, step, after_calls}
use Rattle.semantics.proofs.Computes.{everything}
use Rattle.semantics.proofs.ProvedCases.{typ, plain_el, impose, app, signature2, imposed4, imposed5}

-- a reading: what it counts of a run, from the structure before it
abbrev pub Reading : Type 0
Reading = CloseRun → Structure → ℕ

-- F, of a close that is accepted
unfoldable pub added_of : Answer → ℕ
added_of (closed c) = c.added
added_of (number n) = 0
added_of (says b) = 0
added_of done = 0
added_of (conflicting cs n) = 0
added_of (summed t) = 0
added_of (found f) = 0
added_of (typed t) = 0
added_of (els es) = 0
added_of (refuse n) = 0

-- the reading, of a close after the list
abbrev pub read_by : Reading → Machine → ℕ
read_by v m = v (close_run m.sig m.structure) m.structure

pub record Refuted : Type 0 where
  pub name : String
  pub reading : Reading
  pub calls : List Call
  pub right : ℕ
  pub wrong : ℕ
  pub shows : added_of (step close (after_calls calls start)).answer ≡ right
  pub says : read_by reading (after_calls calls start) ≡ wrong
  pub differ : wrong ≡ right → ⊥

-- P2, without its conflicts
abbrev called2 : List Call
called2 = signature2 ++ (plain_el ∷ plain_el ∷ plain_el ∷ plain_el ∷ app 0 (0 ∷ []) [] 2 ∷ app 0 (1 ∷ []) [] 3 ∷ equate_els 2 3 ∷ [])

-- P4 up to its second close, and up to its third
abbrev second4 : List Call
second4 = imposed4 ++ (close ∷ equate_els 0 1 ∷ [])

abbrev third4 : List Call
third4 = second4 ++ (close ∷ [])

-- 0 and 1 have one type each, the same; they are made one, and 0 is to have another
abbrev merging : List Call
merging =
    typ plain [] ∷ typ plain [] ∷ plain_el ∷ plain_el ∷ impose 0 0 [] ∷ impose 1 0 [] ∷ close ∷ equate_els 0 1 ∷ impose 0 1 [] ∷ []

pub table : List Refuted
unfolding everything added_of
table =
    record {
      name = "the facts of the rounds";
      reading = λ c s. c.rounds.core.added;
      calls = imposed4;
      right = 1;
      wrong = 0;
      shows = refl;
      says = refl;
      differ = λ e. omega (arith, e);
    }
    ∷ record {
      name = "those of the impositions";
      reading = λ c s. c.core.added - c.rounds.core.added;
      calls = imposed5;
      right = 3;
      wrong = 1;
      shows = refl;
      says = refl;
      differ = λ e. omega (arith, e);
    }
    ∷ record {
      name = "how many facts more are held";
      reading = λ c s. length (after_close c s).facts - length s.facts;
      calls = second4;
      right = 1;
      wrong = 0;
      shows = refl;
      says = refl;
      differ = λ e. omega (arith, e);
    }
    ∷ record {
      name = "how many more there are before they are rewritten";
      reading = λ c s. length c.core.facts - length s.facts;
      calls = merging;
      right = 1;
      wrong = 0;
      shows = refl;
      says = refl;
      differ = λ e. omega (arith, e);
    }
    ∷ record {
      name = "how many are held";
      reading = λ c s. length (after_close c s).facts;
      calls = third4;
      right = 0;
      wrong = 1;
      shows = refl;
      says = refl;
      differ = λ e. omega (arith, e);
    }
    ∷ record {
      name = "merges too";
      reading = λ c s. c.core.merges + c.core.added;
      calls = called2;
      right = 2;
      wrong = 3;
      shows = refl;
      says = refl;
      differ = λ e. omega (arith, e);
    }
    ∷ []
