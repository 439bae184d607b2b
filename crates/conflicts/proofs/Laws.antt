-- Laws of the conflicts, for the loops that search for them.
use mathlib.Core.Path.{◌≡◌, refl, sym, ap, subst, ◌∙◌}
use mathlib.Core.Bool.{Bool, true, false, ◌&&◌}
use mathlib.Core.List.Memᴰ
use mathlib.Core.List.{List, [], ◌∷◌, ◌++◌, map, append-nil}
use Prim.Native.Nat.{ℕ, zero, suc, ◌+◌, ◌*◌, ◌≤◌, ◌<◌}
use native.Mathlib.Numerals.{add-one}
use native.Mathlib.Omega.{arith}
use lib.ListN.{length, take, drop, get_or, set, length-append, length-set}
use lib.Dec.{eqb}
use borrow.Author.Tests.{eq-eqb, ne_eqb, lt-ltb, le-ltb}
use Rattle.ids.specs.Limits.{max_list}
use Rattle.ids.specs.Table.{Sized, push_of, present, rewrite_into}
use Rattle.ids.specs.declared.ElId.{ElId}
use Rattle.ids.specs.declared.ElIds.{ElIds}
use Rattle.ids.specs.Ids.{el_of, els_of, whole}
use Rattle.ids.proofs.Views.{view_cons, view_next, view_done, view_nil}
use Rattle.ids.proofs.Sorted.{no_test, rewrite_there}
use Rattle.ids.proofs.Lists.{padded_view, says_held, as_given, as_held, given_held_alike}
use Rattle.ids.proofs.Counted.{push_at, push_past}
use Rattle.ids.proofs.Tables.{push_room}
use Rattle.unification.specs.Roots.{max_els, root_of}
use Rattle.signature.specs.Model.{Sig}
use Rattle.semantics.specs.Structure.{Fact, Structure, empty, with_links, with_facts, max_facts, compare_fact, canonical_fact}
use Rattle.semantics.specs.Types.{facts_at, concrete_types_of}
use Rattle.semantics.specs.Conflicts.{Conflict, conflict, parents_match, disagree, first_conflict, conflict_among, ordered_at, conflict_at, conflicts_below}
use Rattle.semantics.specs.Conflicts.{type_conflicts_of, finds_among, finds_at, finds_below, conflict_finds}
use Rattle.semantics.proofs.Orders.{fact_ordered}
use Rattle.semantics.specs.Calls.{Step}
use Rattle.el_rows.specs.View.{TypesOf}
use Rattle.facts.specs.declared.Fact as code
use Rattle.conflicts.specs.declared.TypeConflict.{TypeConflict}
use Rattle.conflicts.specs.declared.TypeConflicts.{TypeConflicts}
use Rattle.conflicts.specs.View.{conflict_of, conflicts_of, given_conflict, given_conflicts, no_conflict, handed_conflict, handed_conflicts}
use Rattle.conflicts.specs.declared.Conflicting.{Conflicting}
use Rattle.conflicts.specs.View.{handed_conflicting, conflicts_in, finds_in, ParentsFound}
use Rattle.facts.specs.View.{fact_of}
use Rattle.rows.specs.View.{facts_in}

-- A structure of which only links and facts are known.
abbrev pub bare : List ℕ → List Fact → Structure
bare ls fs = with_links ls (with_facts fs empty)

-- the conflicts and the finds read nothing else
below_bare : (s : Structure) (n : ℕ) → conflicts_below (bare s.links s.facts) n ≡ conflicts_below s n
unfolding conflicts_below conflict_at ordered_at
below_bare s zero = refl
below_bare s (suc e) = ap (λ (l : List Conflict). l ++ conflict_at s e) (below_bare s e)

pub conflicts_bare : (s : Structure) → conflicts_in s.links s.facts ≡ type_conflicts_of s
unfolding conflicts_in type_conflicts_of
conflicts_bare s = below_bare s (length s.links)

finds_below_bare : (s : Structure) (n : ℕ) → finds_below (bare s.links s.facts) n ≡ finds_below s n
unfolding finds_below finds_at ordered_at
finds_below_bare s zero = refl
finds_below_bare s (suc e) = ap (λ (k : ℕ). k + finds_at s e) (finds_below_bare s e)

pub finds_bare : (s : Structure) → finds_in s.links s.facts ≡ conflict_finds s
unfolding finds_in conflict_finds
finds_bare s = finds_below_bare s (length s.links)

-- The roots of a fact's parents against another fact's parents, up to the shorter length.
unfoldable pub roots_match : List ℕ → List ℕ → List ℕ → Bool
roots_match ls [] qs = true
roots_match ls (r ∷ rs) [] = true
roots_match ls (r ∷ rs) (q ∷ qs) = eqb r (root_of ls q) && roots_match ls rs qs

roots_of_parents : (ls ps qs : List ℕ) → roots_match ls (map (root_of ls) ps) qs ≡ parents_match ls ps qs
unfolding roots_match parents_match
roots_of_parents ls [] qs = refl
roots_of_parents ls (p ∷ ps) [] = refl
roots_of_parents ls (p ∷ ps) (q ∷ qs) = ap (λ (t : Bool). eqb (root_of ls p) (root_of ls q) && t) (roots_of_parents ls ps qs)

match_nil : (ls rs : List ℕ) → roots_match ls rs [] ≡ true
unfolding roots_match
match_nil ls [] = refl
match_nil ls (r ∷ rs) = refl

-- compared in turn: R says whether all match
module _ (ls : List ℕ) (rs qs : ElIds) (i : ℕ) {R : Bool} (so_far : roots_match ls (drop i (els_of rs)) (drop i (els_of qs)) ≡ R) where
  -- the first list is done
  pub parents_done : length (els_of rs) ≤ i → R ≡ true
  unfolding roots_match
  parents_done h = sym so_far ∙ ap (λ (l : List ℕ). roots_match ls l (drop i (els_of qs))) (view_done el_of rs.len rs.ids i h)

  -- the second list is: what remains of the first is not compared
  pub parents_past : length (els_of qs) ≤ i → roots_match ls (drop (i + 1) (els_of rs)) (drop (i + 1) (els_of qs)) ≡ R
  parents_past h =
      ap (roots_match ls (drop (i + 1) (els_of rs))) (view_done el_of qs.len qs.ids (i + 1) (omega arith))
      ∙ match_nil ls (drop (i + 1) (els_of rs))
      ∙ sym (match_nil ls (drop i (els_of rs)))
      ∙ ap (roots_match ls (drop i (els_of rs))) (sym (view_done el_of qs.len qs.ids i h))
      ∙ so_far

  -- a parent of each
  module _ (d : ElId) (r-at : i < length (els_of rs)) (q-at : i < length (els_of qs)) where
    both : (eqb (el_of (get_or rs.ids i d)) (root_of ls (el_of (get_or qs.ids i d))) && roots_match ls (drop (i + 1) (els_of rs)) (drop (i + 1) (els_of qs))) ≡ R
    unfolding roots_match
    both =
        sym (λ k. roots_match ls (view_next el_of rs.len rs.ids i d r-at k) (view_next el_of qs.len qs.ids i d q-at k))
        ∙ so_far

    pub parents_match_lem : el_of (get_or rs.ids i d) ≡ root_of ls (el_of (get_or qs.ids i d))
        → roots_match ls (drop (i + 1) (els_of rs)) (drop (i + 1) (els_of qs)) ≡ R
    parents_match_lem e = rw (eq-eqb _ _ e) at both

    pub parents_differ : (el_of (get_or rs.ids i d) ≡ root_of ls (el_of (get_or qs.ids i d)) → ⊥) → R ≡ false
    parents_differ n = sym (rw (ne_eqb _ _ n) at both)

-- Two facts compared.
module _ (ls : List ℕ) (f g : Fact) where
  pub other_type : (f.typ ≡ g.typ → ⊥) → disagree ls f g ≡ true
  unfolding disagree
  other_type n = rw (ne_eqb f.typ g.typ n)

  module _ (e : f.typ ≡ g.typ) {rs : List ℕ} (are : rs ≡ map (root_of ls) f.parents) where
    as_roots : roots_match ls rs g.parents ≡ parents_match ls f.parents g.parents
    as_roots = ap (λ (l : List ℕ). roots_match ls l g.parents) are ∙ roots_of_parents ls f.parents g.parents

    pub other_parents : roots_match ls rs g.parents ≡ false → disagree ls f g ≡ true
    unfolding disagree
    other_parents n = rw (eq-eqb f.typ g.typ e, sym as_roots ∙ n)

    pub all_alike : roots_match ls rs g.parents ≡ true → disagree ls f g ≡ false
    unfolding disagree
    all_alike m = rw (eq-eqb f.typ g.typ e, sym as_roots ∙ m)

-- The facts of a class, the first k of a table searched in turn: R is its conflict.
pub facts_start : (ls : List ℕ) (e k : ℕ) (rows : List code.Fact) (d : code.Fact)
    → {ts : List Fact} → facts_in k rows ≡ ts → 0 < length ts → let f = fact_of (get_or rows 0 d) in
    (first_conflict ls e f (drop 1 (facts_in k rows)) ≡ conflict_among ls e (facts_in k rows)) × (length f.parents ≡ finds_among (facts_in k rows))
unfolding first_conflict conflict_among finds_among
facts_start ls e zero rows d are some = absurd (omega (arith, ap length are))
facts_start ls e (suc k) [] d are some = absurd (omega (arith, ap length are))
facts_start ls e (suc k) (r ∷ rows) d are some = (refl, refl)

module _ (ls : List ℕ) (e : ℕ) (f : Fact) (k : ℕ) (rows : List code.Fact) (j : ℕ) {R : List Conflict}
    (so_far : first_conflict ls e f (drop j (facts_in k rows)) ≡ R) where
  pub facts_done : k ≤ j → [] ≡ R
  unfolding first_conflict
  facts_done h = ap (first_conflict ls e f) (sym (view_nil fact_of k rows j h)) ∙ so_far

  module _ (d : code.Fact) (at : j < k) (there : k ≤ length rows) where
    abbrev g : Fact
    g = fact_of (get_or rows j d)

    search_on : first_conflict ls e f (g ∷ drop (j + 1) (facts_in k rows)) ≡ R
    search_on = ap (first_conflict ls e f) (sym (view_cons fact_of k rows j d at (omega arith))) ∙ so_far

    pub facts_agree : disagree ls f g ≡ false → first_conflict ls e f (drop (j + 1) (facts_in k rows)) ≡ R
    unfolding first_conflict
    facts_agree p = rw (p, first_conflict) at search_on

    pub facts_conflict : disagree ls f g ≡ true → conflict e f g ∷ [] ≡ R
    unfolding first_conflict
    facts_conflict p = rw (p, first_conflict) at search_on

-- a table into which facts were put has one
some_present : (x : Fact) (l : List Fact) → present compare_fact x l ≡ true → 0 < length l
unfolding present
some_present x [] h = absurd (no_test h refl)
some_present x (y ∷ ys) h = omega arith

rewrite_some : (f : Fact → Fact) (l : List Fact) → 0 < length l → 0 < length (rewrite_into compare_fact f l [])
rewrite_some f [] h = absurd (omega arith)
rewrite_some f (x ∷ xs) h = some_present (f x) _ (rewrite_there fact_ordered f (x ∷ xs) [] tt (Memᴰ.head refl))

-- A class: its facts in order, where it is searched.
module _ (s : Structure) (e : ℕ) where
  pub no_root : (root_of s.links e ≡ e → ⊥) → [] ≡ ordered_at s e
  unfolding ordered_at
  no_root n = sym (rw (ne_eqb (root_of s.links e) e n, ordered_at))

  module _ (root : root_of s.links e ≡ e) where
    pub few_facts : length (facts_at e s.facts) < 2 → [] ≡ ordered_at s e
    unfolding ordered_at
    few_facts h = sym (rw (eq-eqb (root_of s.links e) e root, le-ltb 1 (length (facts_at e s.facts)) (omega arith), ordered_at))

    module _ (two : 2 ≤ length (facts_at e s.facts)) where
      -- the facts of any list that has its facts
      pub two_facts : (fs : List Fact) → facts_at e fs ≡ facts_at e s.facts → concrete_types_of s.links fs e ≡ ordered_at s e
      unfolding ordered_at concrete_types_of
      two_facts fs same =
          ap (λ (l : List Fact). rewrite_into compare_fact (canonical_fact s.links) l []) (same_root fs ∙ same ∙ sym (same_root s.facts))
          ∙ sym (rw (eq-eqb (root_of s.links e) e root, lt-ltb 1 (length (facts_at e s.facts)) (omega arith), ordered_at))
        where
          same_root : (l : List Fact) → facts_at (root_of s.links e) l ≡ facts_at e l
          same_root l = ap (λ (r : ℕ). facts_at r l) root

      -- there is a first one
      pub one_ordered : 0 < length (ordered_at s e)
      unfolding concrete_types_of
      one_ordered =
          let some = rewrite_some (canonical_fact s.links) (facts_at (root_of s.links e) s.facts) (rw root (omega (arith, two))) in
          rw (two_facts s.facts refl) at some

-- at most one conflict for each class
first_length : (ls : List ℕ) (e : ℕ) (f : Fact) (gs : List Fact) → length (first_conflict ls e f gs) ≤ 1
unfolding first_conflict
first_length ls e f [] = omega arith
first_length ls e f (g ∷ gs) = go (disagree ls f g) (first_length ls e f gs)
  where
    go : (t : Bool) → length (first_conflict ls e f gs) ≤ 1
        → length {A = Conflict} (elim t [ true ↦ conflict e f g ∷ [] | false ↦ first_conflict ls e f gs ]) ≤ 1
    go true h = omega arith
    go false h = h

among_length : (ls : List ℕ) (e : ℕ) (fs : List Fact) → length (conflict_among ls e fs) ≤ 1
unfolding conflict_among
among_length ls e [] = omega arith
among_length ls e (f ∷ fs) = first_length ls e f fs

pub at_length : (s : Structure) (e : ℕ) → length (conflict_at s e) ≤ 1
unfolding conflict_at
at_length s e = among_length s.links e (ordered_at s e)

pub below_length : (s : Structure) (n : ℕ) → length (conflicts_below s n) ≤ n
unfolding conflicts_below
below_length s zero = omega arith
below_length s (suc e) = omega (arith, length-append (conflicts_below s e) (conflict_at s e), below_length s e, at_length s e)

-- The classes in turn: what is known before the class e, of the classes below it.
pub record SoFar (s : Structure) (e : ℕ) (out : TypeConflicts) (finds : ℕ) : Type 0 where
  pub conflicts_are : handed_conflicts out ≡ whole (conflicts_below s e)
  pub finds_are : finds ≡ finds_below s e
  pub few : finds ≤ max_list * e

module _ (s : Structure) (e : ℕ) where
  on : conflicts_below s e ++ conflict_at s e ≡ conflicts_below s (e + 1)
  unfolding conflicts_below
  on = rw add-one refl

  finds_on : finds_below s e + finds_at s e ≡ finds_below s (e + 1)
  unfolding finds_below
  finds_on = rw add-one refl

  -- a class with no conflict
  clear : [] ≡ conflict_at s e → conflicts_below s e ≡ conflicts_below s (e + 1)
  clear h = sym (append-nil (conflicts_below s e)) ∙ ap (λ (l : List Conflict). conflicts_below s e ++ l) h ∙ on

  -- one that is not searched
  pub unsearched : [] ≡ ordered_at s e → {out : TypeConflicts} {finds : ℕ} → SoFar s e out finds → SoFar s (e + 1) out finds
  unfolding conflict_at conflict_among finds_at finds_among
  unsearched none f =
      let no-finds : 0 ≡ finds_at s e = ap finds_among none in
      record {
        conflicts_are = f.conflicts_are ∙ ap (λ (l : List Conflict). whole l) (clear (ap (conflict_among s.links e) none));
        finds_are = omega (arith, f.finds_are, no-finds, finds_on);
        few = omega (arith, f.few);
      }

-- The loops of the search, over the classes below n and over the k facts of the class e, of which the first is f.

pub record AtClass (s : Structure) (n : ℕ) (types : List code.Fact) (out : TypeConflicts) (finds e : ℕ) : Type 0 where
  pub within : e ≤ n
  pub long : length types ≡ max_facts
  pub so_far : SoFar s e out finds

-- A class that is searched: what is known after it, by the conflict among its facts.
pub record SearchedClass (s : Structure) (e : ℕ) (out : TypeConflicts) (finds : ℕ) (ts : List Fact) : Type 0 where
  pub alike : given_conflicts out ≡ conflicts_of out
  pub no_conflict_lem : [] ≡ conflict_among s.links e ts → SoFar s (e + 1) out finds
  pub one_conflict : {x : Conflict} {next : TypeConflicts} → handed_conflicts next ≡ whole (push_of max_els (conflicts_of out) x)
      → x ∷ [] ≡ conflict_among s.links e ts → SoFar s (e + 1) next finds

-- its first fact has p parents
module _ (s : Structure) (e : ℕ) {ts : List Fact} {p : ℕ} (are : ts ≡ ordered_at s e) (first : p ≡ finds_among ts) (most : p ≤ max_list)
    {out : TypeConflicts} {finds : ℕ} (f : SoFar s e out finds) where
  among : conflict_among s.links e ts ≡ conflict_at s e
  unfolding conflict_at
  among = ap (conflict_among s.links e) are

  counted : finds + p ≡ finds_below s (e + 1)
  unfolding finds_at
  counted = let here : p ≡ finds_at s e = first ∙ ap finds_among are in omega (arith, f.finds_are, here, finds_on s e)

  after : {next : TypeConflicts} → handed_conflicts next ≡ whole (conflicts_below s (e + 1)) → SoFar s (e + 1) next (finds + p)
  after is = record { conflicts_are = is; finds_are = counted; few = omega (arith, f.few, most) }

  searched_class : e < max_els → SearchedClass s e out (finds + p) ts
  searched_class room = record {
    alike = given_held_alike f.conflicts_are;
    no_conflict_lem = λ none. after (f.conflicts_are ∙ ap (λ (l : List Conflict). whole l) (clear s e (none ∙ among)));
    one_conflict = λ {x} put one.
        after
        (put
        ∙ ap (λ (l : List Conflict). whole (push_of max_els l x)) (as_held f.conflicts_are)
        ∙ ap (λ (l : List Conflict). whole l)
        (push_room max_els (conflicts_below s e) x (omega (arith, below_length s e))
        ∙ ap (λ (l : List Conflict). conflicts_below s e ++ l) (one ∙ among)
        ∙ on s e));
  }

pub record AtFact (s : Structure) (n : ℕ) (types : List code.Fact) (out : TypeConflicts) (finds e k : ℕ) (f : Fact) (roots : List ℕ) (j : ℕ) : Type 0 where
  pub below : e < n
  pub room : e < max_els
  pub few : k ≤ max_facts
  pub long : length types ≡ max_facts
  pub roots_are : roots ≡ map (root_of s.links) f.parents
  pub class : SearchedClass s e out finds (facts_in k types)
  pub rest : first_conflict s.links e f (drop j (facts_in k types)) ≡ conflict_among s.links e (facts_in k types)

-- at the second fact of a class, whose facts are taken from a list that has them all
pub second_fact : (s : Structure) (n e : ℕ) (d : code.Fact) {fs : List Fact} {types : List code.Fact} {k : ℕ} {roots : List ℕ} {p : ℕ} {out : TypeConflicts} {finds : ℕ}
    → TypesOf s.links fs e types k → root_of s.links e ≡ e → 2 ≤ length (facts_at e s.facts) → facts_at e fs ≡ facts_at e s.facts → e < n → e < max_els
    → ParentsFound s.links (fact_of (get_or types 0 d)) roots p → SoFar s e out finds
    → AtFact s n types out (finds + p) e k (fact_of (get_or types 0 d)) roots 1
second_fact s n e d {fs} {types} {k} t root two same at room parents found =
    let ordered = t.is ∙ two_facts s e root two fs same in
    let starts = facts_start s.links e k types d ordered (one_ordered s e root two) in
    record {
      below = at;
      room = room;
      few = t.most;
      long = t.long;
      roots_are = parents.are;
      class = searched_class s e ordered (parents.each ∙ starts.1) parents.few found room;
      rest = starts.0;
    }

module _ {s : Structure} {n : ℕ} {types : List code.Fact} {out : TypeConflicts} {finds e k : ℕ} {f : Fact} {roots : List ℕ} {j : ℕ}
    (l : AtFact s n types out finds e k f roots j) where
  -- the next class, where the element and the conflicts are still those
  next_class : {e' : ℕ} → e' ≡ e → {next : TypeConflicts} → SoFar s (e + 1) next finds → AtClass s n types next finds (e' + 1)
  next_class {e'} same {next} h = record {
    within = omega (arith, same, l.below);
    long = l.long;
    so_far = subst (λ (k : ℕ). SoFar s (k + 1) next finds) (sym same) h;
  }

  pub still_alike : {out' : TypeConflicts} → out' ≡ out → given_conflicts out' ≡ conflicts_of out'
  still_alike same = subst (λ (t : TypeConflicts). given_conflicts t ≡ conflicts_of t) (sym same) l.class.alike

  -- all facts are looked at
  pub class_done : {e' : ℕ} → e' ≡ e → {out' : TypeConflicts} → out' ≡ out → k ≤ j → AtClass s n types out' finds (e' + 1)
  class_done same {out'} kept h =
      next_class same (subst (λ (t : TypeConflicts). SoFar s (e + 1) t finds) (sym kept) (l.class.no_conflict_lem (facts_done s.links e f k types j l.rest h)))

  -- at the fact j
  module _ (d : code.Fact) (at : j < k) where
    abbrev next : Fact
    next = fact_of (get_or types j d)

    -- it disagrees, and is put at the end
    pub class_conflict : {e' : ℕ} → e' ≡ e → {out' : TypeConflicts} → out' ≡ out → {then : TypeConflicts}
        → handed_conflicts then ≡ whole (push_of max_els (conflicts_of out') (conflict e f next)) → disagree s.links f next ≡ true → AtClass s n types then finds (e' + 1)
    class_conflict same kept put d' =
        next_class same
        (l.class.one_conflict (put ∙ ap (λ (t : TypeConflicts). whole (push_of max_els (conflicts_of t) (conflict e f next))) kept)
        (facts_conflict s.links e f k types j l.rest d at (omega (arith, l.few, l.long)) d'))

    -- it agrees
    pub next_fact : disagree s.links f next ≡ false → AtFact s n types out finds e k f roots (j + 1)
    next_fact a = record {
      below = l.below;
      room = l.room;
      few = l.few;
      long = l.long;
      roots_are = l.roots_are;
      class = l.class;
      rest = facts_agree s.links e f k types j l.rest d at (omega (arith, l.few, l.long)) a;
    }

-- The conflicts of an array, handed back: what they are given as is what is held, also with one more at the end.
module _ (t : TypeConflicts) (alike : given_conflicts t ≡ conflicts_of t) where
  fits : t.len ≤ length t.items
  fits = says_held no_conflict given_conflict conflict_of t.len t.items alike

  entries : map given_conflict (take t.len t.items) ≡ conflicts_of t
  entries = sym (padded_view no_conflict given_conflict t.len t.items fits) ∙ alike

  module _ {size : ℕ} (sized : Sized (conflicts_of t) max_els size) where
    pub push_none : (c : Conflict) → max_els ≤ size → handed_conflicts t ≡ whole (push_of max_els (conflicts_of t) c)
    push_none c h =
        let same = push_past conflict_of t.len t.items sized c h in
        λ i. record { given = (alike ∙ same) i; held = same i }

    pub push_one : (x : TypeConflict) {c : Conflict} → handed_conflict x ≡ whole c → length t.items ≡ max_els → size < max_els
        → handed_conflicts (record { items = set t.items size x; len = size + 1 }) ≡ whole (push_of max_els (conflicts_of t) c)
    push_one x {c} is long h =
        let sized-given : Sized (map given_conflict (take t.len t.items)) max_els size =
        record { is = sized.is ∙ ap length (sym entries); most = sized.most } in
        let given =
        padded_view no_conflict given_conflict (size + 1) (set t.items size x) (omega (arith, length-set t.items size x))
        ∙ push_at given_conflict t.len t.items sized-given x long h
        ∙ (λ i. push_of max_els (entries i) (as_given is i)) in
        let held = push_at conflict_of t.len t.items sized x long h ∙ ap (push_of max_els (conflicts_of t)) (as_held is) in
        λ i. record { given = given i; held = held i }

-- the conflicts of an answer are held as they are given
pub conflicts_alike : (g : Sig) (r : Conflicting) {s : Step} → handed_conflicting g r ≡ whole s
    → given_conflicts r.conflicts ≡ conflicts_of r.conflicts
conflicts_alike g r is = let same = ap (λ (s : Step). s.answer) (given_held_alike is) in cc
