-- A list of calls for which each hypothesis of the rule holds, computed, with a close and with a settle after it: P3 of 01 with a refused call and a
-- find; and lists in which laws of identities and composites join elements (02, M-102). And one after which the structure is settled (02, M-101), with a mark and a queued pair; and one after which the next close reports no change
-- while applications are stored by elements that are no roots.
use mathlib.Core.Path.{◌≡◌, refl, ap}
use mathlib.Core.Bool.{true, false}
use mathlib.Core.List.{List, [], ◌∷◌, ◌++◌}
use Prim.Native.Nat.{ℕ, ◌<◌}
use native.Mathlib.Omega.{arith}
use Rattle.unification.specs.Roots.{root_of}
use Rattle.signature.specs.Model.{plain}
use Rattle.semantics.specs.Structure.{pair, func_app}
use Rattle.semantics.specs.Types.{any_marked}
use Rattle.semantics.specs.Close.{Closed, report}
use Rattle.semantics.specs.Calls.{Call, equate_els, close, settle, root, says, closed, totals, is_accepted, merges_of, Machine, start, step, after_calls}
use Rattle.semantics.proofs.Computes.{everything}
use Rattle.semantics.proofs.ProvedCases.{typ, func, plain_el, marked_el, impose, app, down_from, signature102, dom, identity, composite}
use Rattle.validity.proofs.Calls.{calls_valid}
use Rattle.history.specs.Book.{blank, elements, taken, fed, noted, next, run, begin, History, history, Shared}
use Rattle.history.specs.Book.{Classes, RanCloses, closes, settles, Conserved, Conservation}
use Rattle.history.specs.Settled.{asserts, is_yes, said_yes}
use Rattle.history.proofs.SecondClose.{no_change, NextUnchanged}
use Rattle.history.proofs.NextClose.{step_next_unchanged}
use Rattle.history.proofs.Settled.{NothingToClose, settled_closes}
use Rattle.history.proofs.Conservation.{conservation}

-- the definitions that a list and its book compute with
unfoldable pub computed : ℕ
unfolding everything blank taken fed is_accepted merges_of noted next run begin history any_marked down_from
computed = 0

-- f of 0 is 2 and f of 1 is 3; 0 and 9 are refused, since there is no 9; 0 and 1 are one
worked : List Call
worked =
    typ plain []
    ∷ func [] (0 ∷ []) 0
    ∷ plain_el
    ∷ plain_el
    ∷ plain_el
    ∷ plain_el
    ∷ app 0 [] (0 ∷ []) 2
    ∷ app 0 [] (1 ∷ []) 3
    ∷ equate_els 0 9
    ∷ equate_els 0 1
    ∷ root 3
    ∷ []

-- where the list has come to when the close or settle after it returns
abbrev after : Call → History
after k = history (worked ++ (k ∷ []))

-- each hypothesis of the rule, and what the book and the links then are
record Worked (k : Call) (cs : List Closed) : Type 0 where
  ran : RanCloses (history worked).machine k cs
  unmarked : any_marked (after k).book.marks ≡ false
  -- four elements, one equality, since the other was refused, and two merges
  four : elements (after k).book ≡ 4
  one_equality : (after k).book.equalities ≡ pair 0 1 ∷ []
  two_merges : (after k).book.merges ≡ 2
  same_root : root_of (after k).machine.structure.links 2 ≡ root_of (after k).machine.structure.links 3
  -- a close after it reports no change
  next_unchanged : (step close (after k).machine).answer ≡ closed no_change

-- "close 1 2 3 2"
with_close : Worked close (report true 2 3 2 ∷ [])
unfolding computed worked
with_close = record {
  ran = closes refl;
  unmarked = refl;
  four = refl;
  one_equality = refl;
  two_merges = refl;
  same_root = refl;
  next_unchanged = refl;
}

-- "settle 2 2": its closes answer "close 1 2 3 2" and "close 0 0 1 0"
with_settle : Worked settle (report true 2 3 2 ∷ no_change ∷ [])
unfolding computed worked
with_settle = record {
  ran = settles {t = totals 2 2} refl;
  unmarked = refl;
  four = refl;
  one_equality = refl;
  two_merges = refl;
  same_root = refl;
  next_unchanged = refl;
}

-- so the rule says of each what it says
module _ {k : Call} {cs : List Closed} (w : Worked k cs) where
  conserves : Conserved (after k).book (after k).machine.structure.links cs
  unfolding Conservation
  conserves = conservation worked k cs w.ran w.unmarked

  -- there are two classes
  two_classes : Classes Shared (after k).book 2
  two_classes = rw two at conserves.by_class.counted
    where
      two : conserves.by_class.classes ≡ 2
      two = omega (arith, conserves.by_class.sum, w.four, w.two_merges)

  -- 2 and 3 share one, by the two applications
  two_three : Shared (after k).book 2 3
  two_three = (conserves.by_class.one_root 2 3 (omega (arith, w.four)) (omega (arith, w.four))).0 w.same_root

-- Identities and composites (02, M-102): elements that a law joins.

-- 0 and 1 have one identity, 2, whose dom they both are
identities : List Call
identities = signature102 ++ (plain_el ∷ plain_el ∷ plain_el ∷ identity 0 2 ∷ identity 1 2 ∷ [])

-- the composite of 0 and 1 is 2; dom is 4 at 3, which is 0, and 5 at 2
composites : List Call
composites = signature102 ++ (down_from 6 (λ n. plain_el) ++ (composite 0 1 2 ∷ dom 3 4 ∷ dom 2 5 ∷ equate_els 0 3 ∷ []))

-- the hypotheses of the rule, at the close after such a list, and two elements of n that have one root then
record JoinedByLaw (ks : List Call) (c : Closed) (n x y : ℕ) : Type 0 where
  ran : RanCloses (history ks).machine close (c ∷ [])
  unmarked : any_marked (history (ks ++ (close ∷ []))).book.marks ≡ false
  many : elements (history (ks ++ (close ∷ []))).book ≡ n
  same_root : root_of (history (ks ++ (close ∷ []))).machine.structure.links x ≡ root_of (history (ks ++ (close ∷ []))).machine.structure.links y

-- "close 1 1 3 3"
identities_joined : JoinedByLaw identities (report true 1 3 3) 3 0 1
unfolding computed identities
identities_joined = record { ran = closes refl; unmarked = refl; many = refl; same_root = refl }

-- "close 1 2 3 5"
composites_joined : JoinedByLaw composites (report true 2 3 5) 6 4 5
unfolding computed composites
composites_joined = record { ran = closes refl; unmarked = refl; many = refl; same_root = refl }

-- so they share a class
joined_shared : (ks : List Call) (c : Closed) (n x y : ℕ) → JoinedByLaw ks c n x y → x < n → y < n → Shared (history (ks ++ (close ∷ []))).book x y
unfolding Conservation
joined_shared ks c n x y w hx hy =
    ((conservation ks close (c ∷ []) w.ran w.unmarked).by_class.one_root x y (omega (arith, w.many)) (omega (arith, w.many))).0 w.same_root

-- Settled: after the settle an equality within one class, answered with no and queued; a marked element; a find; a refused equality.
after_settle : List Call
after_settle = settle ∷ equate_els 0 1 ∷ marked_el ∷ root 3 ∷ equate_els 0 9 ∷ []

record StaysSettled (m : Machine) : Type 0 where
  settled : m.structure.settled ≡ true
  -- nothing to close does not mean an empty queue
  queued : m.structure.pairs ≡ pair 0 1 ∷ []
  marked : any_marked m.structure.marks ≡ true

stays_settled : StaysSettled (after_calls (worked ++ after_settle) start)
unfolding computed worked after_settle
stays_settled = record { settled = refl; queued = refl; marked = refl }

-- so the next close, or settle, finds nothing to do
nothing_to_close : NothingToClose (after_calls (worked ++ after_settle) start)
nothing_to_close = settled_closes (worked ++ after_settle) stays_settled.settled

-- Stored by elements that are no roots: f of 1 is 3 and f of 2 is 1; the close's impositions, which come last, make 0 and the marked 1 one.
stale : List Call
stale =
    typ plain []
    ∷ typ plain (0 ∷ [])
    ∷ func [] (0 ∷ []) 0
    ∷ plain_el
    ∷ marked_el
    ∷ plain_el
    ∷ plain_el
    ∷ app 0 [] (1 ∷ []) 3
    ∷ app 0 [] (2 ∷ []) 1
    ∷ impose 2 1 (0 ∷ [])
    ∷ impose 2 1 (1 ∷ [])
    ∷ close
    ∷ []

-- f of 2 is 0: stored with 1, which is of the same class
said_again : Call
said_again = app 0 [] (2 ∷ []) 0

record StaleUnchanged (m : Machine) : Type 0 where
  no_root : root_of m.structure.links 1 ≡ 0
  apps : m.structure.func_apps ≡ func_app 0 [] (1 ∷ []) 3 ∷ func_app 0 [] (2 ∷ []) 1 ∷ []
  unchanged : NextUnchanged m
  -- answered with no, and queued as a pair of the two results
  no : (step said_again m).answer ≡ says false
  queued : (step said_again m).after.structure.pairs ≡ pair 1 0 ∷ []

stale_unchanged : StaleUnchanged (after_calls stale start)
unfolding computed stale said_again
stale_unchanged = record { no_root = refl; apps = refl; unchanged = refl; no = refl; queued = refl }

-- so the next close reports no change after it too
still_unchanged : NextUnchanged (step said_again (after_calls stale start)).after
unfolding asserts is_yes said_again
still_unchanged =
    step_next_unchanged said_again (after_calls stale start) (calls_valid stale) stale_unchanged.unchanged
    (ap (said_yes said_again) stale_unchanged.no)
