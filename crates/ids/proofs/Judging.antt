-- Laws of verdicts: what the code judges cause by cause is the first cause of a list, and what a verdict tells of a call.
use mathlib.Core.Path.{◌≡◌, refl, sym, ap, ◌∙◌}
use mathlib.Core.Bool.{Bool, true, false}
use mathlib.Core.List.{List, [], ◌∷◌, ◌++◌, map, Memᴰ}
use mathlib.Core.Option.{Option, none, some}
use Prim.Native.Nat.{ℕ}
use native.Mathlib.Omega.{arith}
use Rattle.ids.specs.Answers.{accepted, refused, Cause, first_of, decided, Outcome, outcome, refusing, accepting, ◌if◌}
use Rattle.ids.specs.Judge.{or_if}
use Rattle.ids.specs.Ids.{too_long}
use Rattle.ids.specs.Sorted.{All}

-- no cause applies
abbrev pub NoneApplies : List Cause → Type 0
NoneApplies cs = All (λ c. c.applies ≡ false) cs

-- the numbers of the causes
abbrev pub numbers : List Cause → List ℕ
numbers cs = map (λ (c : Cause). c.number) cs

not_none : (n : ℕ) → ◌≡◌ {A = Option ℕ} (some n) none → ⊥
not_none n e = let z : ◌≡◌ {A = ℕ} 0 1 = cc in omega arith

-- A verdict as far as these causes decide it.
pub record SoFar (v : Option ℕ) (cs : List Cause) : Type 0 where
  pub is : v ≡ first_of cs

pub begin : SoFar none []
unfolding first_of
begin = record { is = refl }

first_more : (cs : List Cause) (c : Cause) → or_if (first_of cs) c ≡ first_of (cs ++ (c ∷ []))
unfolding first_of or_if
first_more [] c = refl
first_more (d ∷ cs) c = go d.applies (first_more cs c)
  where
    go : (b : Bool) → or_if (first_of cs) c ≡ first_of (cs ++ (c ∷ []))
        → or_if (elim b [ true ↦ some d.number | false ↦ first_of cs ]) c ≡ elim b [ true ↦ some d.number | false ↦ first_of (cs ++ (c ∷ [])) ]
    go true e = refl
    go false e = e

-- one more cause judged, whose test is what the code computed
pub judge : (n : ℕ) {v r : Option ℕ} {cs : List Cause} {b t : Bool} → SoFar v cs → r ≡ or_if v (n if b) → b ≡ t → SoFar r (cs ++ (n if t ∷ []))
judge n {v} {r} {cs} {b} {t} s e h = record {
  is = e ∙ ap (λ (x : Bool). or_if v (n if x)) h ∙ ap (λ (x : Option ℕ). or_if x (n if t)) s.is ∙ first_more cs (n if t);
}

-- What one more cause does to a verdict.
module _ (v : Option ℕ) (n : ℕ) (b : Bool) where
  pub stays_refused : (m : ℕ) → v ≡ some m → v ≡ or_if v (n if b)
  unfolding or_if
  stays_refused m e = e ∙ sym (ap (λ (x : Option ℕ). or_if x (n if b)) e)

  pub is_refused : v ≡ none → b ≡ true → some n ≡ or_if v (n if b)
  unfolding or_if
  is_refused e h = sym (ap (λ (x : Option ℕ). or_if x (n if b)) e ∙ ap (λ (x : Bool). or_if none (n if x)) h)

  pub stays_accepted : v ≡ none → b ≡ false → v ≡ or_if v (n if b)
  unfolding or_if
  stays_accepted e h = e ∙ sym (ap (λ (x : Option ℕ). or_if x (n if b)) e ∙ ap (λ (x : Bool). or_if none (n if x)) h)

-- What is held as it was given unless some test applies: behind the cause of that test, either may stand.
pub behind : {A : Type 0} (n : ℕ) (b : Bool) (given held : A) (rest : A → List Cause) → (b ≡ false → given ≡ held)
    → first_of (n if b ∷ rest held) ≡ first_of (n if b ∷ rest given)
unfolding first_of
behind n true given held rest same = refl
behind {A} n false given held rest same = ap (λ (x : A). first_of (rest x)) (sym (same refl))

-- a list that is held as it was given unless it is too long
pub as_given : (n : ℕ) (given held : List ℕ) (rest : List ℕ → List Cause) → (too_long given ≡ false → given ≡ held)
    → first_of (n if too_long given ∷ rest held) ≡ first_of (n if too_long given ∷ rest given)
as_given n given held rest same = behind n (too_long given) given held rest same

-- What a verdict tells of the call that it is of.

pub none_apply : (cs : List Cause) → first_of cs ≡ none → NoneApplies cs
unfolding first_of
none_apply [] e = tt
none_apply (c ∷ cs) e = go c.applies refl e (none_apply cs)
  where
    go : (b : Bool) → c.applies ≡ b → ◌≡◌ {A = Option ℕ} (elim b [ true ↦ some c.number | false ↦ first_of cs ]) none
        → (first_of cs ≡ none → NoneApplies cs) → (c.applies ≡ false) × NoneApplies cs
    go true h e f = absurd (not_none c.number e)
    go false h e f = (h, f e)

pub first_number : (cs : List Cause) (n : ℕ) → first_of cs ≡ some n → Memᴰ n (numbers cs)
unfolding first_of
first_number [] n e = absurd (not_none n (sym e))
first_number (c ∷ cs) n e = go c.applies e (first_number cs n)
  where
    go : (b : Bool) → ◌≡◌ {A = Option ℕ} (elim b [ true ↦ some c.number | false ↦ first_of cs ]) (some n)
        → (first_of cs ≡ some n → Memᴰ n (numbers cs)) → Memᴰ n (c.number ∷ numbers cs)
    go true e f = let same : n ≡ c.number = cc in Memᴰ.head same
    go false e f = Memᴰ.tail (f e)

module _ {R : Type 0} (refuse : ℕ → R) (done : R) where
  pub decided_refuses : {o : Option ℕ} {n : ℕ} → o ≡ some n → decided o refuse done ≡ refuse n
  unfolding decided
  decided_refuses e = ap (λ (x : Option ℕ). decided x refuse done) e

  pub decided_accepts : {o : Option ℕ} → o ≡ none → decided o refuse done ≡ done
  unfolding decided
  decided_accepts e = ap (λ (x : Option ℕ). decided x refuse done) e

  module _ {v : Option ℕ} {cs : List Cause} (so : SoFar v cs) where
    -- the verdict refuses
    pub refused_by : (n : ℕ) → v ≡ some n → refuse n ≡ decided (first_of cs) refuse done
    refused_by n e = sym (decided_refuses (sym so.is ∙ e))

    -- the verdict accepts, and no cause applies
    pub accepted_by : v ≡ none → {r : R} → (NoneApplies cs → r ≡ done) → r ≡ decided (first_of cs) refuse done
    accepted_by e f = let z = sym so.is ∙ e in f (none_apply cs z) ∙ sym (decided_accepts z)

-- what holds of each refusal and, where no cause applies, of the acceptance
pub decided_by {ℓ} : {R : Type 0} (P : R → Type ℓ) (cs : List Cause) (refuse : ℕ → R) (done : R)
    → ((n : ℕ) → Memᴰ n (numbers cs) → P (refuse n)) → (NoneApplies cs → P done) → P (decided (first_of cs) refuse done)
decided_by P cs refuse done f h = go (first_of cs) refl
  where
    go : (o : Option ℕ) → first_of cs ≡ o → P (decided o refuse done)
    go none e = unfold decided in h (none_apply cs e)
    go (some n) e = unfold decided in f n (first_number cs n e)

-- An outcome that causes decide.

not_refused : {A : Type 0} (v : A) (n : ℕ) → accepted v ≡ refused n → ⊥
not_refused v n e = let z : ◌≡◌ {A = ℕ} 0 1 = cc in omega arith

module _ {A S : Type 0} (before after : S) (value : A) (cs : List Cause) where
  -- a refused call leaves all as it was
  pub refused_after : (n : ℕ) → (outcome cs before value after).answer ≡ refused n → (outcome cs before value after).after ≡ before
  unfolding outcome
  refused_after n =
      decided_by (λ (o : Outcome A S). o.answer ≡ refused n → o.after ≡ before) cs (refusing before) (accepting value after) (λ m q e. refl)
      (λ none e. absurd (not_refused value n e))
