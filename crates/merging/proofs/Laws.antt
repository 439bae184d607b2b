-- Laws of passes in progress: how a pass begins, takes a step, and what it is said to do; and of the number first met.
use mathlib.Core.Path.{◌≡◌, refl, sym, ap, ◌∙◌}
use Prim.Native.Nat.{ℕ, ◌+◌, ◌*◌, ◌≤◌}
use native.Mathlib.Nat.{add-mul, mul-le-mul_right}
use native.Mathlib.Omega.{arith}
use Rattle.std.specs.declared.option.Option as option
use Rattle.std.specs.declared.option.Option.TheVariants.{None, Some}
use Rattle.std.specs.Option.{option_or}
use Rattle.semantics.specs.Types as types
use Rattle.merging.specs.View.{Lent, core_of, met_of, LentHeld, RoomToCount, Toward, Passes}

-- nothing is done yet
pub begins : (t : Lent) → LentHeld t → (f : types.Core → types.Core) → Toward t t 0 f f
begins t h f = record { is = refl; holds = h; kept = refl; count_most = omega arith }

-- a pass that does nothing
pub idle : (t : Lent) → LentHeld t → {most : ℕ} {f : types.Core → types.Core} → core_of t ≡ f (core_of t) → Passes t t most f
idle t h e = record { is = e; holds = h; kept = refl; count_most = omega arith }

module _ {before now : Lent} {most : ℕ} {rest whole : types.Core → types.Core} (so_far : Toward before now most rest whole) where
  -- a pass g is made: with it the rest, from where it was, is what remains then
  pub takes_here : {next : Lent} {more : ℕ} {g then : types.Core → types.Core} → Passes now next more g
      → then (g (core_of now)) ≡ rest (core_of now) → Toward before next (most + more) then whole
  takes_here {then = then} p e = record {
    is = ap then p.is ∙ e ∙ so_far.is;
    holds = p.holds;
    kept = p.kept ∙ so_far.kept;
    count_most = omega (arith, so_far.count_most, p.count_most);
  }

  -- the same, where that holds from every core
  pub takes : {next : Lent} {more : ℕ} {g then : types.Core → types.Core} → Passes now next more g → ((w : types.Core) → then (g w) ≡ rest w)
      → Toward before next (most + more) then whole
  takes p e = takes_here p (e (core_of now))

  -- there was nothing to do where it was, and there may be as many or more
  pub stays_here : {limit : ℕ} {then : types.Core → types.Core} → most ≤ limit → then (core_of now) ≡ rest (core_of now) → Toward before now limit then whole
  stays_here h e = record { is = e ∙ so_far.is; holds = so_far.holds; kept = so_far.kept; count_most = omega (arith, so_far.count_most) }

  -- the same, from every core
  pub stays : {limit : ℕ} {then : types.Core → types.Core} → most ≤ limit → ((w : types.Core) → then w ≡ rest w) → Toward before now limit then whole
  stays h e = stays_here h (e (core_of now))

  -- the whole said otherwise
  pub counts_as : {wanted : types.Core → types.Core} → whole (core_of before) ≡ wanted (core_of before) → Toward before now most rest wanted
  counts_as e = record { is = so_far.is ∙ e; holds = so_far.holds; kept = so_far.kept; count_most = so_far.count_most }

  -- what can still be counted, of what could be at the start
  pub room_left : (more : ℕ) {total : ℕ} → RoomToCount total before.counts → most + more ≤ total → RoomToCount more now.counts
  room_left more r h = omega (arith, r, h, so_far.count_most)

-- Passes that follow one another.

-- what a pass does where it began, in other words, with as many counted or more
pub does : {before now : Lent} {most limit : ℕ} {g f : types.Core → types.Core} → Passes before now most g → most ≤ limit
    → g (core_of before) ≡ f (core_of before) → Passes before now limit f
does p h e = stays (counts_as p e) h (λ w. refl)

-- a pass that is done, as the first of a larger one
pub first : {before now : Lent} {most : ℕ} {f then whole : types.Core → types.Core} → Passes before now most f
    → ((w : types.Core) → then (f w) ≡ whole w) → Toward before now most then whole
first {before} {then = then} p e = record { is = ap then p.is ∙ e (core_of before); holds = p.holds; kept = p.kept; count_most = p.count_most }

-- one pass after another
pub follows : {before now after : Lent} {most more : ℕ} {f g : types.Core → types.Core} → Passes before now most f → Passes now after more g
    → Passes before after (most + more) (λ w. g (f w))
follows p q = takes (first p (λ w. refl)) q (λ w. refl)

-- The turns of a loop, each of which counts at most `per`.
module _ {before now : Lent} (per : ℕ) {rest whole : types.Core → types.Core} (i : ℕ) (so_far : Toward before now (i * per) rest whole) where
  -- a pass is made
  pub turn : {next : Lent} {g then : types.Core → types.Core} → Passes now next per g → ((w : types.Core) → then (g w) ≡ rest w)
      → Toward before next ((i + 1) * per) then whole
  turn p e = stays (takes so_far p e) (omega (arith, add-mul i 1 per)) (λ w. refl)

  -- there is nothing to do
  pub idle_turn : {then : types.Core → types.Core} → ((w : types.Core) → then w ≡ rest w) → Toward before now ((i + 1) * per) then whole
  idle_turn e = stays so_far (omega (arith, add-mul i 1 per)) e

  -- there is room for a turn, where there was for n of them
  pub room_turn : {n : ℕ} → RoomToCount (n * per) before.counts → i + 1 ≤ n → RoomToCount per now.counts
  room_turn {n} r h = room_left so_far per r (rw (sym (add-mul i 1 per ∙ one)) (mul-le-mul_right per h))
    where
      one : i * per + 1 * per ≡ i * per + per
      one = omega arith

-- the number first met stays
pub met_first : (n : ℕ) (m : option.Option ℕ) → met_of (option_or m (Some n)) ≡ types.first_met n (met_of m)
met_first n None = refl
met_first n (Some k) = refl
