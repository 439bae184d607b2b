-- Laws of the lists that a record gives, of a record's call and its answer, of calls one after the other, and of one record more.
use Prim.Native.Nat.{ℕ, zero, suc, ◌+◌, ◌<◌, min}
use mathlib.Core.Path.{◌≡◌, refl, sym, ap, ◌∙◌, subst}
use mathlib.Core.List.{List, [], ◌∷◌, ◌++◌}
use mathlib.Core.Option.{Option, none, some}
use native.Mathlib.Omega.{arith}
use lib.ListN.{take}
use lib.Seq.{take_all}
use borrow.Author.Tests.{ne_eqb}
use Rattle.ids.specs.Answers.{Answered}
use Rattle.ids.specs.Ids.{padded, given_of}
use Rattle.ids.specs.declared.TypeId.{TypeId}
use Rattle.signature.specs.declared.Typed.{Typed}
use Rattle.signature.specs.declared.Typed.TheVariants.{At}
use Rattle.signature.specs.declared.TypeLookup.{TypeLookup}
use Rattle.signature.specs.Calls.{TypedM, typed_of, type_looked_of, lookup_type_of}
use Rattle.semantics.specs.Calls.{Call, lookup_type, done, typed, concrete_type, leading, Machine, Step, answers, step, after_calls}
use Rattle.semantics.proofs.Judged.{looked_up, lookup_steps}
use Rattle.semantics.specs.Sheet as sheet
use Rattle.semantics.specs.Sheet.{Record, record_at, carry_out}
use Rattle.records.specs.View.{record_within}
use Rattle.records.proofs.Laws.{record_within_lem}
use Rattle.driver.specs.Calls.{root_kind, root_const_kind, lookup_type_kind, ambient_parents_kind, call_at, list_call_of, whole_records, call_list}
use Rattle.driver.specs.Calls.{calls_before, last_answer, list_before}

-- the first n of a list that is given
pub first_given : (n len k : ℕ) (xs : List ℕ) → k ≡ min len n → given_of k xs ≡ take n (given_of len xs)
unfolding padded
first_given n zero k xs h = let none : k ≡ 0 = omega (arith, h) in ap (λ (j : ℕ). given_of j xs) none ∙ sym (take_all n [] (omega arith))
first_given zero (suc len) k xs h = let none : k ≡ 0 = omega (arith, h) in ap (λ (j : ℕ). given_of j xs) none
first_given (suc n) (suc len) zero xs h = absurd (omega (arith, h))
first_given (suc n) (suc len) (suc k) [] h = ap (λ (l : List ℕ). 0 ∷ l) (first_given n len k [] (omega (arith, h)))
first_given (suc n) (suc len) (suc k) (x ∷ xs) h = ap (λ (l : List ℕ). x ∷ l) (first_given n len k xs (omega (arith, h)))

-- the type lookup came out as x
pub looked_up_lem : (m : Machine) (t : ℕ) (ps : List ℕ) {x y : TypeLookup} → y ≡ x → type_looked_of y ≡ lookup_type_of m.sig t ps
    → answers (looked_up ps (type_looked_of x)) m ≡ step (lookup_type t ps) m
looked_up_lem m t ps e is = ap (λ (x : Answered TypedM). answers (looked_up ps x) m) (ap type_looked_of (sym e) ∙ is) ∙ lookup_steps m t ps

-- a type came out, with its leading parents
pub type_found : (m : Machine) (ps : List ℕ) {es : List ℕ} {x : Typed} (t : TypeId) (n : ℕ) → es ≡ take n ps → x ≡ At t n
    → answers (typed (some (concrete_type t.0 es))) m ≡ answers (typed (leading ps (typed_of x))) m
unfolding leading
type_found m ps t n e h =
    ap (λ (l : List ℕ). answers (typed (some (concrete_type t.0 l))) m) e
    ∙ ap (λ (y : Typed). answers (typed (leading ps (typed_of y))) m) (sym h)

-- the call of a record is the call of the kind that it has
module _ (r : Record) (m : Machine) where
  pub of_kind : {k j : ℕ} → k ≡ j → carry_out (call_at j r) m ≡ carry_out (call_at k r) m
  of_kind e = ap (λ (k : ℕ). carry_out (call_at k r) m) (sym e)

  -- of any other kind it is what a sheet has
  pub as_sheet : (k : ℕ) → (k ≡ root_kind → ⊥) → (k ≡ root_const_kind → ⊥) → (k ≡ lookup_type_kind → ⊥) → (k ≡ ambient_parents_kind → ⊥)
      → carry_out (sheet.call_of r) m ≡ carry_out (call_at k r) m
  unfolding call_at
  as_sheet k a b c d = rw (call_at, ne_eqb k root_kind a, ne_eqb k root_const_kind b, ne_eqb k lookup_type_kind c, ne_eqb k ambient_parents_kind d)

-- Lists.

pub after_append : (ks js : List Call) (m : Machine) → after_calls (ks ++ js) m ≡ after_calls js (after_calls ks m)
unfolding after_calls
after_append [] js m = refl
after_append (k ∷ ks) js m = after_append ks js (step k m).after

-- before the first record
pub begins : (bytes : List ℕ) {m n : Machine} → m ≡ n → answers done m ≡ list_before n bytes 0
unfolding list_before last_answer calls_before after_calls
begins bytes e = ap (answers done) e

-- what a record leaves is what its call does
record_leaves : (o : Option Call) (m : Machine) → (carry_out o m).after ≡ after_calls (call_list o) m
unfolding carry_out call_list after_calls
record_leaves none m = refl
record_leaves (some k) m = refl

-- one record more
pub goes_on : (m : Machine) (bytes : List ℕ) (i : ℕ) {s : Step} {r : Record} → i < whole_records bytes → s ≡ list_before m bytes i → r ≡ record_within bytes i
    → carry_out (list_call_of r) s.after ≡ list_before m bytes (i + 1)
unfolding list_before last_answer calls_before
goes_on m bytes i {s} {r} within e f =
    let ks = calls_before bytes i in
    let o = list_call_of (record_at bytes i) in
    let more : suc i ≡ i + 1 = omega arith in
    let same : r ≡ record_at bytes i = f ∙ record_within_lem bytes i within in
    let leaves : (carry_out o (after_calls ks m)).after ≡ after_calls (ks ++ call_list o) m = record_leaves o (after_calls ks m) ∙ sym (after_append ks (call_list o) m) in
    subst (λ (n : ℕ). carry_out (list_call_of r) s.after ≡ list_before m bytes n) more (ap (λ (x : Record). carry_out (list_call_of x) s.after) same
    ∙ ap (λ (x : Step). carry_out o x.after) e
    ∙ ap (answers (carry_out o (after_calls ks m)).answer) leaves)
