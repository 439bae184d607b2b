-- Laws that the proofs of several functions cite: of accepted calls, of finds, of equalities, of tables of slots, and of the ambient lookup.
-- The proofs take an array's length by its path (`.good` of an argument, `.ok` of a result), since a search enters no more than 128 records.
use mathlib.Core.Path.{◌≡◌, refl, sym, ap, ◌∙◌}
use mathlib.Core.Bool.{Bool, true, false}
use mathlib.Core.List.{List, [], ◌∷◌, ◌++◌, map, append_assoc}
use mathlib.Core.Option.{Option, none, some}
use Prim.Native.Nat.{ℕ, ◌+◌, ◌≤◌, ◌<◌}
use native.Mathlib.Omega.{arith}
use lib.ListN.{length, take, set}
use borrow.Author.Tests.{lt-ltb}
use Rattle.ids.specs.declared.ElId.{ElId}
use Rattle.ids.specs.declared.ElIds.{ElIds}
use Rattle.ids.specs.declared.Ordering.{Ordering}
use Rattle.ids.specs.Answers.{Answered, accepted, refused, first_of, decided, Outcome, outcome, refusing, accepting}
use Rattle.ids.specs.Limits.{max_list}
use Rattle.ids.specs.Ids.{el_of, els_of, given_els}
use Rattle.ids.specs.Table.{placed}
use Rattle.ids.proofs.Judging.{decided_by}
use Rattle.ids.proofs.Lists.{given_view}
use Rattle.ids.proofs.Views.{length_view, view_pushed}
use Rattle.unification.specs.declared.Finding.{Finding}
use Rattle.unification.specs.declared.Finding.TheVariants as findings
use Rattle.unification.specs.Roots as roots
use Rattle.unification.specs.Roots.{max_els, links_of, short_of, FindM, find_of, find_causes, found_answer}
use Rattle.unification.proofs.Laws.{short_length}
use Rattle.unification.proofs.Beside.{kept}
use Rattle.signature.specs.Model.{Sig}
use Rattle.semantics.specs.Structure as model
use Rattle.semantics.specs.Structure.{Ambient, max_pairs, with_links, with_marks, with_pairs}
use Rattle.semantics.specs.Calls as calls
use Rattle.semantics.specs.Applying.{Equated, equate}
use Rattle.semantics.specs.Calls.{Answer, Step, ambient_of, have_ambients, ambient_els, answers, machine, leaves, settled_by}
use Rattle.semantics.specs.Calls.{Call, Rule, asks, says, with_equality, rule, acceptance, refusal, step_by, step}
use Rattle.bindings.specs.View.{bound_of, ambient_el_of}
use Rattle.equalities.specs.declared.Equated as equalities
use Rattle.equalities.specs.View.{pairs_of, equate_in, equated_of}
use Rattle.equalities.proofs.Queue.{equate_room, equate_length}
use Rattle.structure.specs.declared.Structure.{Structure}
use Rattle.structure.specs.View.{structure_of, found_of}

-- an accepted call of kinds 6 to 13 and 15: what it answers, and what it leaves
pub accepts : (g : Sig) {r : Step} {a b : Answer} {s t : model.Structure} → r ≡ answers a (machine g (leaves true a s)) → a ≡ b → s ≡ t
    → r ≡ answers b (machine g (leaves true b t))
accepts g e p q = e ∙ (λ i. answers (p i) (machine g (leaves true (p i) (q i))))

-- What a find answers.

unfoldable pub finding_of : Answered FindM → Answer
finding_of (accepted f) = calls.found f
finding_of (refused n) = calls.refuse n

pub finding : (f : Finding) {a : Answered FindM} → found_answer f ≡ a → found_of f ≡ finding_of a
unfolding finding_of
finding f e = go f ∙ ap finding_of e
  where
    go : (f : Finding) → found_of f ≡ finding_of (found_answer f)
    go (findings.Found f) = refl
    go (findings.Refused n) = refl

-- a find of e is a step, which leaves the links ls
pub find_steps : (g : Sig) (s : model.Structure) (e : ℕ) (k : Call) (ls : List ℕ) → let m = machine g s in
    rule k m ≡ asks (find_causes s.links e) (calls.found (find_of s.links e)) (with_links ls s) m
    → let o = outcome (find_causes s.links e) s.links (find_of s.links e) ls in
    answers (finding_of o.answer) (machine g (with_links o.after s)) ≡ step k m
unfolding step step_by acceptance leaves settled_by outcome finding_of decided
find_steps g s e k ls is = go (first_of (find_causes s.links e)) ∙ sym (ap (λ (r : Rule). step_by r (machine g s)) is)
  where
    does : Rule
    does = asks (find_causes s.links e) (calls.found (find_of s.links e)) (with_links ls s) (machine g s)

    go : (n : Option ℕ) → let o = decided n (refusing s.links) (accepting (find_of s.links e) ls) in
        answers (finding_of o.answer) (machine g (with_links o.after s)) ≡ decided n (refusal (machine g s)) (acceptance does)
    go none = refl
    go (some n) = refl

-- a find leaves as many links
pub root_length : (ls : List ℕ) (e : ℕ) → length (roots.root ls e).after ≡ length ls
unfolding roots.root outcome
root_length ls e =
    decided_by (λ (o : Outcome FindM (List ℕ)). length o.after ≡ length ls) (find_causes ls e) (refusing ls) (accepting (find_of ls e) (short_of ls e))
    (λ n m. refl) (λ none-applies. short_length ls e)

-- What the code leaves of the structure s after an equality, where the queue had room.
module _ (s : Structure) (e : equalities.Equated) (a b : ℕ)
    (is : equated_of e ≡ equate_in (links_of s.unification) (pairs_of s.pending_equalities) a b)
    (room : length (pairs_of s.pending_equalities) < max_pairs) (marks : length s.inferred_parent_els ≡ max_els)
    (us : length s.unification.links ≡ max_els) (vs : length e.unification.links ≡ max_els) where
  abbrev equals : Equated
  equals = equate (links_of s.unification) (pairs_of s.pending_equalities) a b

  abbrev after : model.Structure
  after =
      with_links (links_of e.unification)
      (with_marks (take e.unification.len s.inferred_parent_els) (with_pairs (pairs_of e.pairs) (structure_of s)))

  pub equates : (g : Sig) {r : Step} → r ≡ answers (says e.differ) (machine g (leaves true (says e.differ) after))
      → r ≡ answers (says equals.differ) (machine g (leaves true (says equals.differ) (with_equality equals (structure_of s))))
  unfolding with_equality
  equates g q =
      let same : equated_of e ≡ equals = is ∙ equate_room _ _ a b room in
      let many : length (links_of e.unification) ≡ length (links_of s.unification) =
      ap (λ (x : Equated). length x.links) same ∙ equate_length _ _ a b in
      let marked = kept s.unification e.unification s.inferred_parent_els marks us vs many in
      accepts g q (λ i. says (same i).differ) (λ i. with_links (same i).links (with_marks (marked i) (with_pairs (same i).pairs (structure_of s))))

-- an entry whose key is below the limit of a table of slots
pub bound_room : {E : Type 0} (cmp : E → E → Ordering) (limit key : ℕ) (x : E) (l : List E) → key < limit → bound_of cmp limit key x l ≡ placed cmp x l
unfolding bound_of
bound_room cmp limit key x l h = rw (lt-ltb key limit h, bound_of)

-- A turn of the ambient lookup: the type has an ambient element, or none.
module _ (t : ℕ) (ts : List ℕ) (l : List Ambient) where
  pub have_on : (e : ℕ) → some e ≡ ambient_el_of (ambient_of t l) → have_ambients (t ∷ ts) l ≡ have_ambients ts l
  unfolding have_ambients
  have_on e h = go (ambient_of t l) h
    where
      go : (o : Option Ambient) → some e ≡ ambient_el_of o
          → ◌≡◌ {A = Bool} (elim o [ none ↦ false | some a ↦ have_ambients ts l ]) (have_ambients ts l)
      go none q = let z : ◌≡◌ {A = ℕ} 0 1 = cc in absurd (omega arith)
      go (some a) q = refl

  pub have_none : none ≡ ambient_el_of (ambient_of t l) → have_ambients (t ∷ ts) l ≡ false
  unfolding have_ambients
  have_none h = go (ambient_of t l) h
    where
      go : (o : Option Ambient) → none ≡ ambient_el_of o
          → ◌≡◌ {A = Bool} (elim o [ none ↦ false | some a ↦ have_ambients ts l ]) false
      go none q = refl
      go (some a) q = let z : ◌≡◌ {A = ℕ} 0 1 = cc in absurd (omega arith)

  pub els_on : (e : ℕ) → some e ≡ ambient_el_of (ambient_of t l) → ambient_els (t ∷ ts) l ≡ e ∷ ambient_els ts l
  unfolding ambient_els
  els_on e h = go (ambient_of t l) h
    where
      go : (o : Option Ambient) → some e ≡ ambient_el_of o
          → ◌≡◌ {A = List ℕ} (elim o [ none ↦ ambient_els ts l | some a ↦ a.el ∷ ambient_els ts l ]) (e ∷ ambient_els ts l)
      go none q = let z : ◌≡◌ {A = ℕ} 0 1 = cc in absurd (omega arith)
      go (some a) q = let same : a.el ≡ e = cc in ap (λ (x : ℕ). x ∷ ambient_els ts l) same

-- a list that holds nothing is given with no entries
pub none_given : (els : ElIds) → length els.ids ≡ max_list → els_of els ≡ [] → given_els els ≡ []
none_given els four e =
    let fits : els.len ≤ length els.ids = omega (arith, ap (length {A = ℕ}) e, length_view el_of els.len els.ids) in
    given_view el_of els.len els.ids fits ∙ e

-- the element found stands behind those found before
pub found_more : (els : ElIds) (i : ℕ) (e : ElId) (rest : List ℕ) {R : List ℕ} → els.len ≡ i → i < length els.ids
    → els_of els ++ (e.0 ∷ rest) ≡ R → map el_of (take (i + 1) (set els.ids i e)) ++ rest ≡ R
found_more els i e rest is h so_far =
    ap (λ (l : List ℕ). l ++ rest) (view_pushed el_of i els.ids e h)
    ∙ append_assoc (map el_of (take i els.ids)) (e.0 ∷ []) rest
    ∙ ap (λ (n : ℕ). map el_of (take n els.ids) ++ (e.0 ∷ rest)) (sym is)
    ∙ so_far
