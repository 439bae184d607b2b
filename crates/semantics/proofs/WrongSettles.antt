-- Wrong versions of the settle, each refuted by a list of calls. A version is the settle with one part replaced: how many closes may run, which
-- of them another one follows, and what is answered of them. With the right parts it is the settle (`right_is`).
use mathlib.Core.Path.{◌≡◌, refl, ap, ◌∙◌}
use mathlib.Core.Bool.{Bool, true, false}
use mathlib.Core.List.{List, [], ◌∷◌}
use mathlib.Core.Option.{none, some}
use Prim.Native.Nat.{ℕ, zero, suc, ◌-◌}
use Prim.Native.String.{String}
use native.Mathlib.Omega.{arith}
use lib.ListN.{length}
use lib.Dec.{ltb}
use Rattle.ids.specs.Answers.{Answered, accepted, refused}
use Rattle.signature.specs.Model.{Sig, plain}
use Rattle.semantics.specs.Structure.{Structure}
use Rattle.semantics.specs.Close as closing
use Rattle.semantics.specs.Close.{Closed}
use Rattle.semantics.specs.Calls.{Call, settle, Totals, totals, closed, summed, Machine, start, step, after_calls, leaves, SettleRun, as_settle_run}
use Rattle.semantics.specs.Calls.{reported_first, settle_after, settle_by, settle_from, settle_run, merges_in, sums_of}
use Rattle.semantics.proofs.Computes.{everything}
use Rattle.semantics.proofs.ProvedCases.{typ, plain_el, impose, down_from, imposed5}

-- `settle_after`, and a close follows where `more` says so
unfoldable pub version_after : (Closed → Bool) → Answered Closed → Structure → (Structure → SettleRun) → SettleRun
version_after more (refused n) s rest = as_settle_run [] (some n) s
version_after more (accepted c) s rest =
    reported_first c (elim (more c) [
      | true ↦ rest (leaves true (closed c) s)
      | false ↦ as_settle_run [] none (leaves true (closed c) s)
    ])

-- `settle_from`
unfoldable pub version_from : (Closed → Bool) → ℕ → Sig → Structure → SettleRun
version_from more zero g s = as_settle_run [] none s
version_from more (suc k) g s = version_after more (closing.close g s).answer (closing.close g s).after (version_from more k g)

pub record Version : Type 0 where
  -- the most closes, by the number of elements
  pub most : ℕ → ℕ
  pub more : Closed → Bool
  pub sums : List Closed → Totals

abbrev pub version : (ℕ → ℕ) → (Closed → Bool) → (List Closed → Totals) → Version
version most more sums = record { most = most; more = more; sums = sums }

-- what the version answers
unfoldable pub answered_by : Version → Machine → Totals
answered_by v m = v.sums (version_from v.more (v.most (length m.structure.links)) m.sig m.structure).reports

abbrev changes : Closed → Bool
changes c = c.changed

-- the right parts

after_is : (a : Answered Closed) (s : Structure) (rest : Structure → SettleRun) → version_after changes a s rest ≡ settle_after a s rest
unfolding version_after settle_after
after_is (refused n) s rest = refl
after_is (accepted c) s rest = refl

from_is : (k : ℕ) (g : Sig) (s : Structure) → version_from changes k g s ≡ settle_from k g s
unfolding version_from settle_from settle_by
from_is zero g s = refl
from_is (suc k) g s =
    let o = closing.close g s in
    after_is o.answer o.after (version_from changes k g) ∙ (λ i. settle_after o.answer o.after (λ z. from_is k g z i))

pub right_is : (m : Machine) → answered_by (version suc changes sums_of) m ≡ sums_of (settle_run m.sig m.structure).reports
unfolding answered_by settle_run
right_is m = ap (λ (r : SettleRun). sums_of r.reports) (from_is (suc (length m.structure.links)) m.sig m.structure)

-- The table: a version's name, the version, a list, what a settle after it answers, what the version does, and that these are not the same.

pub record Refuted : Type 0 where
  pub name : String
  pub version : Version
  pub calls : List Call
  pub right : Totals
  pub wrong : Totals
  pub shows : (step settle (after_calls calls start)).answer ≡ summed right
  pub says : answered_by version (after_calls calls start) ≡ wrong
  pub differ : wrong ≡ right → ⊥

-- one element and one imposition: the first close adds a fact and merges nothing
abbrev grows : List Call
grows = typ plain [] ∷ plain_el ∷ impose 0 0 [] ∷ []

-- the merges of the last one
abbrev pub last_merges : List Closed → ℕ
last_merges [] = 0
last_merges (c ∷ []) = c.merges
last_merges (c ∷ d ∷ cs) = last_merges (d ∷ cs)

pub table : List Refuted
unfolding everything down_from version_after version_from answered_by
table =
    record {
      name = "one close";
      version = version suc (λ c. false) sums_of;
      calls = imposed5;
      right = totals 3 2;
      wrong = totals 1 1;
      shows = refl;
      says = refl;
      differ = λ e. omega (arith, ap (λ (t : Totals). t.closes) e);
    }
    ∷ record {
      name = "until one merges nothing";
      version = version suc (λ c. ltb 0 c.merges) sums_of;
      calls = grows;
      right = totals 2 0;
      wrong = totals 1 0;
      shows = refl;
      says = refl;
      differ = λ e. omega (arith, ap (λ (t : Totals). t.closes) e);
    }
    ∷ record {
      name = "every close that the bound allows";
      version = version suc (λ c. true) sums_of;
      calls = imposed5;
      right = totals 3 2;
      wrong = totals 6 2;
      shows = refl;
      says = refl;
      differ = λ e. omega (arith, ap (λ (t : Totals). t.closes) e);
    }
    ∷ record {
      name = "at most as many closes as elements";
      version = version (λ n. n) changes sums_of;
      calls = grows;
      right = totals 2 0;
      wrong = totals 1 0;
      shows = refl;
      says = refl;
      differ = λ e. omega (arith, ap (λ (t : Totals). t.closes) e);
    }
    ∷ record {
      name = "the close without a change not counted";
      version = version suc changes (λ cs. totals (length cs - 1) (merges_in cs));
      calls = imposed5;
      right = totals 3 2;
      wrong = totals 2 2;
      shows = refl;
      says = refl;
      differ = λ e. omega (arith, ap (λ (t : Totals). t.closes) e);
    }
    ∷ record {
      name = "merges of the last close only";
      version = version suc changes (λ cs. totals (length cs) (last_merges cs));
      calls = imposed5;
      right = totals 3 2;
      wrong = totals 3 0;
      shows = refl;
      says = refl;
      differ = λ e. omega (arith, ap (λ (t : Totals). t.merges) e);
    }
    ∷ []
