-- What the code reads and stores in its array, in the list of links.
use mathlib.Core.Path.{◌≡◌, refl, sym, ap, ◌∙◌}
use mathlib.Core.Logic.{⊎_elim}
use mathlib.Core.List.{List, [], ◌∷◌}
use mathlib.Core.Option.{Option, none}
use Prim.Native.Nat.{ℕ, zero, suc, ◌+◌, ◌≤◌, ◌<◌}
use native.Mathlib.Omega.{arith}
use native.Mathlib.Numerals.{add-one}
use lib.ListN.{length, get_or, take, set, length-set, length-append, length-take, get_or-append, get_or-eq_default}
use lib.Seq.{get_or-set_same, get_or-set_other, get_or_at, get_or-take, take-set-lt, take-suc-set}
use lib.Dec.{leb}
use Rattle.ids.specs.Answers.{undeclared, ◌if◌}
use Rattle.ids.specs.Judge.{or_if}
use Rattle.ids.proofs.Judging.{SoFar, begin, judge}
use Rattle.ids.proofs.Tables.{push_room, push_full}
use Rattle.unification.specs.declared.Unification.{Unification}
use Rattle.unification.specs.Roots.{max_els, links_of, up_to, link, root_of, depth_of, short_of, added_of, FindM, find_of, ShortM}
use Rattle.unification.specs.Roots.{shortened_of, find_causes}
use Rattle.unification.proofs.Numbers.{less_or, same_or}
use Rattle.unification.proofs.Laws.{link_other, root_stop, root_pass, root_above, depth_stop, depth_pass, depth_above, short_stop}
use Rattle.unification.proofs.Laws.{short_first}

-- The numbered entries.

pub up_to_length : (n : ℕ) → length (up_to n) ≡ n
unfolding up_to
up_to_length zero = refl
up_to_length (suc n) = omega (arith, length-append (up_to n) (n ∷ []), up_to_length n)

pub up_to_at : (n k : ℕ) → k < n → get_or (up_to n) k 0 ≡ k
unfolding up_to
up_to_at zero k h = absurd (omega arith)
up_to_at (suc n) k h =
    ⊎_elim (λ g. get_or-append (up_to n) (n ∷ []) 0 k (omega (arith, up_to_length n)) ∙ up_to_at n k g)
    (λ g. let e : k ≡ n = omega arith in rw e (get_or_at (up_to n) n [] 0 n (up_to_length n))) (less_or k n)

pub numbered_more : (l : List ℕ) (i : ℕ) → i < length l → ((k : ℕ) → k < i → get_or l k 0 ≡ k)
    → (k : ℕ) → k < i + 1 → get_or (set l i i) k 0 ≡ k
numbered_more l i at h k g =
    ⊎_elim (λ p. rw p (get_or-set_same l i i 0 at)) (λ n. get_or-set_other l i k i 0 n ∙ h k (omega arith)) (same_or k i)

-- Reads and stores.

get_d_any : (l : List ℕ) (i d e : ℕ) → i < length l → get_or l i d ≡ get_or l i e
get_d_any [] i d e h = absurd (omega arith)
get_d_any (x ∷ l) zero d e h = refl
get_d_any (x ∷ l) (suc i) d e h = get_d_any l i d e (omega arith)

module _ (u : Unification) (e : ℕ) (at : e < length (links_of u)) where
  within : e < u.len
  within = omega (arith, length-take u.len u.links)

  -- the entry of an element that is there is its link
  pub link_read : link (links_of u) e ≡ get_or u.links e 0
  link_read =
      get_or-take u.len u.links e e within
      ∙ get_d_any u.links e e 0 (omega (arith, length-take u.len u.links))

  pub link_stored : (v : ℕ) → links_of (record { links = set u.links e v; len = u.len }) ≡ set (links_of u) e v
  link_stored v = take-set-lt u.len u.links e v within

-- a number that is no element links to itself
pub link_past : (ls : List ℕ) (e : ℕ) → length ls ≤ e → link ls e ≡ e
link_past ls e h = get_or-eq_default ls e h

-- One element more.

pub added_full : (ls : List ℕ) → max_els ≤ length ls → added_of ls ≡ ls
unfolding added_of
added_full ls h = push_full max_els ls (length ls) h

-- the entries in use, by a count clamped to those that there are
pub links_used : (u : Unification) (n : ℕ) → n ≡ length (links_of u) → take n u.links ≡ links_of u
links_used u n is = rw is (take_used u.len u.links)
  where
    take_used : (m : ℕ) (xs : List ℕ) → take (length (take m xs)) xs ≡ take m xs
    take_used zero xs = refl
    take_used (suc m) [] = refl
    take_used (suc m) (x ∷ xs) = ap (λ (l : List ℕ). x ∷ l) (take_used m xs)

pub link_added : (u : Unification) (n : ℕ) → n ≡ length (links_of u) → n < max_els → length u.links ≡ max_els
    → links_of (record { links = set u.links n n; len = n + 1 }) ≡ added_of (links_of u)
unfolding added_of
link_added u n is room full =
    rw (add-one n, take-suc-set u.links n n (omega arith), links_used u n is, is) (sym (push_room max_els (links_of u) (length (links_of u)) (omega arith)))

-- The answers.

pub find_is : (ls : List ℕ) (e r n : ℕ) → root_of ls e ≡ r → depth_of ls e ≡ n → ◌≡◌ {A = FindM} (record { root = r; count = n }) (find_of ls e)
unfolding find_of
find_is ls e r n p q = rw (p, q)

pub find_past : (ls : List ℕ) (e : ℕ) → length ls ≤ e → ◌≡◌ {A = FindM} (record { root = e; count = 0 }) (find_of ls e)
find_past ls e h =
    let own : link ls e ≡ e = link_past ls e h in
    find_is ls e e 0 (root_stop ls e (omega arith)) (depth_stop ls e (omega arith))

pub short_is : (ls : List ℕ) (e r n : ℕ) (l : List ℕ) → root_of ls e ≡ r → depth_of ls e ≡ n → short_of ls e ≡ l
    → ◌≡◌ {A = ShortM} (record { find = record { root = r; count = n }; links = l }) (shortened_of ls e)
unfolding shortened_of
short_is ls e r n l p q s = λ i. record { find = find_is ls e r n p q i; links = sym s i }

pub short_past : (ls : List ℕ) (e : ℕ) → length ls ≤ e
    → ◌≡◌ {A = ShortM} (record { find = record { root = e; count = 0 }; links = ls }) (shortened_of ls e)
short_past ls e h =
    let own : link ls e ≡ e = link_past ls e h in
    short_is ls e e 0 ls (root_stop ls e (omega arith)) (depth_stop ls e (omega arith)) (short_stop ls e (omega arith))

-- The public finds judge whether the element is there, by the number n of elements.
pub find_judged : (ls : List ℕ) (e : ℕ) {n : ℕ} {v : Option ℕ} → n ≡ length ls → v ≡ or_if none (undeclared if leb n e) → SoFar v (find_causes ls e)
unfolding find_causes
find_judged ls e h is = judge undeclared begin is (ap (λ (k : ℕ). leb k e) h)

-- One turn of the loop that shortens: from x, whose link p falls, its entry now that of p.
module _ (u : Unification) (x p : ℕ) (at : x < length (links_of u)) (is : p ≡ link (links_of u) x) (low : p < x) where
  abbrev pub entry : ℕ
  entry = get_or u.links p 0

  abbrev pub next : Unification
  next = record { links = set u.links x entry; len = u.len }

  pub record ShortenTurn : Type 0 where
    pub many : length (links_of next) ≡ length (links_of u)
    pub linked : entry ≡ link (links_of next) p
    pub root : root_of (links_of u) x ≡ root_of (links_of next) p
    pub depth : depth_of (links_of u) x ≡ depth_of (links_of next) p + 1
    pub short : short_of (links_of u) x ≡ short_of (links_of next) p

  pub turned : ShortenTurn
  turned =
      let h : link (links_of u) x < x = omega arith in
      let q : link (links_of u) p ≡ entry = link_read u p (omega arith) in
      let q' : link (links_of u) (link (links_of u) x) ≡ entry = rw (← is) q in
      let stored : links_of next ≡ set (links_of u) x entry = link_stored u x at entry in
      record {
        many = ap length stored ∙ length-set (links_of u) x entry;
        linked = rw stored (sym (link_other (links_of u) x entry p (λ e. omega arith) ∙ q));
        root = rw stored (root_pass (links_of u) x h ∙ rw (← is) (sym (root_above (links_of u) x entry p low)));
        depth = rw stored (depth_pass (links_of u) x h ∙ rw (← is) (ap (λ (n : ℕ). n + 1) (sym (depth_above (links_of u) x entry p low))));
        short = rw stored (short_first (links_of u) x h ∙ rw (q', ← is) refl);
      }
