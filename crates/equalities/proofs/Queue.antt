-- Laws of the queue of pairs, of which the last stands first, and of equalities.
use mathlib.Core.Path.{◌≡◌, sym, ap, ◌∙◌}
use mathlib.Core.List.{List, [], ◌∷◌, ◌++◌, map, reverse, reverse-append}
use Prim.Native.Nat.{ℕ, ◌+◌, ◌≤◌, ◌<◌}
use native.Mathlib.Omega.{arith}
use mathlib.Core.Bool.{not}
use lib.ListN.{length, take, set, length-reverse, length-set}
use lib.Dec.{eqb}
use borrow.Author.Tests.{lt-ltb, le-ltb}
use Rattle.ids.specs.Table.{Sized, len_of}
use Rattle.ids.proofs.Views.{length_view, view_pushed}
use Rattle.ids.proofs.Counted.{len_kept, len_grown}
use Rattle.unification.specs.Roots.{short_of, ShortM, find_of, shortened_of}
use Rattle.unification.proofs.Laws.{short_length}
use Rattle.semantics.specs.Structure as model
use Rattle.semantics.specs.Structure.{pair, max_pairs}
use Rattle.semantics.specs.Applying as applying
use Rattle.semantics.specs.Applying.{equating}
use Rattle.equalities.specs.declared.Pair.{Pair}
use Rattle.equalities.specs.declared.Pairs.{Pairs}
use Rattle.equalities.specs.View.{pair_of, pairs_of, queued_of, equate_in}

pub size_reversed : {A : Type 0} {l : List A} {cap n : ℕ} → Sized l cap n → Sized (reverse l) cap n
size_reversed {l = l} s = record { is = s.is ∙ sym (length-reverse l); most = s.most }

-- A pair is queued: what the queue then holds, and the length that it then says.
module _ (t : Pairs) (p : Pair) {n : ℕ} (sized : Sized (pairs_of t) max_pairs n) where
  queue_full : max_pairs ≤ n → pairs_of t ≡ queued_of (pairs_of t) (pair_of p)
  unfolding queued_of
  queue_full h = sym (rw (le-ltb (length (pairs_of t)) max_pairs (omega (arith, sized.is)), queued_of))

  queue_room : length t.items ≡ max_pairs → n < max_pairs
      → pairs_of (record { items = set t.items n p; len = n + 1 }) ≡ queued_of (pairs_of t) (pair_of p)
  unfolding queued_of
  queue_room full h =
      let held : List model.Pair = map pair_of (take t.len t.items) in
      let all : n ≡ t.len = omega (arith, sized.is, length-reverse (map pair_of (take t.len t.items)), length_view pair_of t.len t.items) in
      let pushed : map pair_of (take (n + 1) (set t.items n p)) ≡ map pair_of (take t.len t.items) ++ (pair_of p ∷ []) =
      rw all (view_pushed pair_of t.len t.items p (omega arith)) in
      ap reverse pushed ∙ reverse-append (map pair_of (take t.len t.items)) (pair_of p ∷ [])
      ∙ sym (rw (lt-ltb (length (pairs_of t)) max_pairs (omega (arith, sized.is)), queued_of))

  abbrev queued : Pairs
  queued = record { items = set t.items n p; len = n + 1 }

  pub counted_full : max_pairs ≤ n → (pairs_of t ≡ queued_of (pairs_of t) (pair_of p)) × (t.len ≡ len_of t.len (pairs_of t) (pairs_of t))
  counted_full h = (queue_full h, len_kept _ _)

  pub counted_room : length t.items ≡ max_pairs → n < max_pairs
      → (pairs_of queued ≡ queued_of (pairs_of t) (pair_of p)) × (n + 1 ≡ len_of t.len (pairs_of t) (pairs_of queued))
  counted_room full h =
      let more : length (pairs_of queued) ≡ n + 1 =
      length-reverse (map pair_of (take (n + 1) (set t.items n p)))
      ∙ omega (arith, length_view pair_of (n + 1) (set t.items n p), length-set t.items n p) in
      (queue_room full h, len_grown _ _ sized.is _ more)

-- both finds, one after the other, and the pair
pub equated : (ls : List ℕ) (ps qs : List model.Pair) (a b : ℕ) {f s : ShortM} → f ≡ shortened_of ls a → s ≡ shortened_of f.links b
    → qs ≡ queued_of ps (pair a b)
    → equating s.links qs (not (eqb f.find.root s.find.root)) ≡ equate_in ls ps a b
unfolding equate_in applying.equate shortened_of find_of
equated ls ps qs a b {f} {s} first second queued =
    let then : s ≡ shortened_of (short_of ls a) b = second ∙ ap (λ (l : List ℕ). shortened_of l b) (ap (λ (r : ShortM). r.links) first) in
    λ i. equating (then i).links (queued i) (not (eqb (first i).find.root (then i).find.root))

-- where the queue has room
pub equate_room : (ls : List ℕ) (ps : List model.Pair) (a b : ℕ) → length ps < max_pairs → equate_in ls ps a b ≡ applying.equate ls ps a b
unfolding equate_in applying.equate queued_of
equate_room ls ps a b h = rw (lt-ltb (length ps) max_pairs h, queued_of)

-- there are as many links afterwards
pub equate_length : (ls : List ℕ) (ps : List model.Pair) (a b : ℕ) → length (applying.equate ls ps a b).links ≡ length ls
unfolding applying.equate
equate_length ls ps a b = short_length (short_of ls a) b ∙ short_length ls a
