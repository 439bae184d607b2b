-- What a call answers: a value, or the number of its refusal (01, the table of refusals, and 02).
use Rattle.std.specs.Prelude.{ℕ, Bool, true, false, List, [], ◌∷◌}
use Rattle.std.proofs.Math.Option.{Option, none, some}

-- The numbers of the table of refusals, each by its cause.

-- "sheet empty, not a multiple of 32 bytes, or over 32,768"
abbrev pub bad_sheet : ℕ
bad_sheet = 1

-- "next index not in the sheet, or not zero on the N-th record visited of N"
abbrev pub bad_chain : ℕ
bad_chain = 2

-- "kind, count, key, A or an unused word outside the above"
abbrev pub malformed : ℕ
malformed = 3

-- "kinds 1 to 5 after any accepted of 6 to 14"; 02, M-100: "Number 4 treats kind 15 as it does 14"
abbrev pub too_late : ℕ
too_late = 4

-- "number not declared"
abbrev pub undeclared : ℕ
undeclared = 5

-- "Mor's model, or a type in 4 or 12, not Model; record 4's mor not a Mor of A; record 5's morphism type not Mor"
abbrev pub wrong_kind : ℕ
wrong_kind = 6

-- "application of id, comp or a morphism application function"; 02, M-102: "Number 7 remains for record 5 functions, and for id and comp where a record 5
-- stands."
abbrev pub reserved : ℕ
reserved = 7

-- "model type, function in records 4 and 5, morphism pair, variable or ambient given again"
abbrev pub given_again : ℕ
given_again = 8

-- "an entry needed, its table at its limit"
abbrev pub no_room : ℕ
no_room = 9

-- "ambient lookup of a type with none"
abbrev pub no_ambient : ℕ
no_ambient = 10

-- "the close would at some moment hold 1,025 facts"
abbrev pub too_many_facts : ℕ
too_many_facts = 11

-- 02, M-102: "an id application without exactly one argument, or a comp without exactly two"
abbrev pub wrong_arg_count : ℕ
wrong_arg_count = 12

-- 02, M-104: "a file too short for its counts, or whose length does not fit them"
abbrev pub wrong_length : ℕ
wrong_length = 13

-- 02, M-104: "a number or count outside its table, an entry whose call would refuse it, a link to a higher element, a fact on an element that is no root,
-- a broken chain, an order other than ours or a nonzero unused byte", "after 13"; M-105: "Number 14 covers such an imposition or fact in a file."
abbrev pub wrong_content : ℕ
wrong_content = 14

-- 02, M-105: an imposition that does not give "exactly as many parents as its type has"
abbrev pub wrong_parent_count : ℕ
wrong_parent_count = 15

-- a value, or the number of the refusal
pub data Answered (A : Type 0) : Type 0 where
  accepted : A → Answered A
  refused : ℕ → Answered A

-- a number, and whether it applies
pub record Cause : Type 0 where
  pub number : ℕ
  pub applies : Bool

infixl 70 ◌if◌
abbrev pub ◌if◌ : ℕ → Bool → Cause
n if b = record { number = n; applies = b }

-- 01: "The lowest number that applies is given"; 02 gives later numbers their place ("with 12, directly after 7"): the causes are listed in the order of
-- the papers, and the number of the first that applies is given
unfoldable pub first_of : List Cause → Option ℕ
first_of [] = none
first_of (c ∷ cs) = elim c.applies [ true ↦ some c.number | false ↦ first_of cs ]

-- refused by a number, or done
unfoldable pub decided : {R : Type 0} → Option ℕ → (ℕ → R) → R → R
decided (some n) refuse done = refuse n
decided none refuse done = done

-- an answer, and what the call leaves
pub record Outcome (A S : Type 0) : Type 0 where
  pub answer : Answered A
  pub after : S

abbrev pub refusing : {A S : Type 0} → S → ℕ → Outcome A S
refusing s n = record { answer = refused n; after = s }

abbrev pub accepting : {A S : Type 0} → A → S → Outcome A S
accepting a s = record { answer = accepted a; after = s }

-- "left as it was": a refused call leaves everything as it was
unfoldable pub outcome : {A S : Type 0} → List Cause → S → A → S → Outcome A S
outcome causes before value after = decided (first_of causes) (refusing before) (accepting value after)
