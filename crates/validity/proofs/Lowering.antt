-- Each round of a valid structure that reports work leaves less to do.
use mathlib.Core.Path.{◌≡◌, ap}
use mathlib.Core.Logic.{inl, inr}
use mathlib.Core.Bool.{Bool, true, false}
use Prim.Native.Nat.{ℕ, ◌+◌, ◌-◌, ◌*◌, ◌≤◌, ◌<◌}
use native.Mathlib.Omega.{arith}
use lib.ListN.{length}
use Rattle.unification.specs.Roots.{max_els}
use Rattle.unification.proofs.Numbers.{less_or}
use Rattle.signature.specs.Model.{Sig}
use Rattle.semantics.specs.Structure.{max_func_apps}
use Rattle.semantics.specs.Close.{Rewritten, Turn, fuel}
use Rattle.semantics.specs.Valid.{Counts}
use Rattle.semantics.proofs.Cases.{test}
use Rattle.semantics.proofs.Counts.{roots_most}
use Rattle.semantics.proofs.Canonical.{entered_same}
use Rattle.validity.proofs.Drain.{remaining, some_apart}
use Rattle.validity.proofs.Turns.{keys, AfterRound, Progress, Within}

-- what a round can still do: merge, add a fact, or add an application
unfoldable pub todo : Turn → ℕ
todo t = remaining t.core + (max_func_apps - keys t.core.links t.apps)

-- one more where no pair of two roots waits: the next drain merges such a pair
abbrev pub flag : Turn → ℕ
flag t = elim (some_apart t.core.links t.core.pairs) [ true ↦ 0 | false ↦ 1 ]

unfoldable pub measure : Turn → ℕ
measure t = 2 * todo t + flag t

flag_most : (t : Turn) → flag t ≤ 1
flag_most t = go (some_apart t.core.links t.core.pairs)
  where
    go : (b : Bool) → (elim b [ true ↦ 0 | false ↦ 1 ]) ≤ 1
    go true = omega arith
    go false = omega arith

-- the fuel is more than all that a close can do
pub measure_fuel : (g : Sig) (c : Counts) (t : Turn) → c.els ≤ max_els → AfterRound g c t → measure t < fuel
unfolding measure todo fuel remaining
measure_fuel g c t few h = omega (arith, roots_most t.core.links, h.begins.valid.els, flag_most t)

-- the next round has less, if it works
module _ (g : Sig) (c : Counts) (t u : Turn) (r : Within g c t.core t.apps u) where
  -- a merge lowers more than the keys that it frees
  merged_falls : t.core.merges < u.core.merges → measure u < measure t
  unfolding measure todo
  merged_falls l = omega (arith, l, r.advances.lowered, r.advances.added, flag_most u)

  -- where it does not merge, it adds a fact or an application, or a pair waits now and none did
  module _ (same : u.core.merges ≡ t.core.merges) where
    less : remaining u.core ≤ remaining t.core
    less = omega (arith, same, r.advances.lowered, r.advances.added)

    -- its applications are rewritten, so that each has its key
    own_keys : keys u.core.links u.apps ≡ length u.apps
    unfolding keys
    own_keys =
        ap (λ (z : Rewritten). length z.apps)
        (entered_same u.core.links u.apps r.after.begins.apps.sorted (r.still same).canon)

    still_falls : Progress t.core t.apps u → measure u < measure t
    unfolding measure todo
    still_falls (inl l) = omega (arith, l, same, r.advances.lowered, own_keys, (r.still same).keys, flag_most u)
    still_falls (inr (inl l)) = omega (arith, l, less, own_keys, r.after.begins.apps.most, flag_most u)
    still_falls (inr (inr s)) = elim (test (some_apart t.core.links t.core.pairs)) [
      | inl q ↦ absurd (omega (arith, r.drains q, same))
      | inr q ↦ omega (arith, waiting u s, none_waiting t q, less, own_keys, (r.still same).keys)
    ]
      where
        waiting : (z : Turn) → some_apart z.core.links z.core.pairs ≡ true → flag z ≡ 0
        waiting z e = rw (e, flag)

        none_waiting : (z : Turn) → some_apart z.core.links z.core.pairs ≡ false → flag z ≡ 1
        none_waiting z e = rw (e, flag)

  pub measure_falls : u.worked ≡ true → measure u < measure t
  measure_falls q = elim (less_or t.core.merges u.core.merges) [
    | inl l ↦ merged_falls l
    | inr l ↦ still_falls (omega (arith, l, r.advances.merges)) (r.works q)
  ]
