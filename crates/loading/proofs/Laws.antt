-- What the tests of `load` tell: the length, the limits, what the structure that was read is judged to be, and whether it is stored as the same bytes.
use mathlib.Core.Path.{◌≡◌, refl, sym, ap, ◌∙◌}
use mathlib.Core.Logic.{◌⊎◌, inl, inr, ⊎_elim}
use mathlib.Core.Bool.{Bool, true, false, not, ◌&&◌, ◌||◌}
use mathlib.Core.List.{List, [], ◌∷◌}
use mathlib.Core.Option.{Option, none, some}
use Prim.Native.Nat.{ℕ, suc, ◌≤◌, ◌<◌}
use native.Mathlib.Omega.{arith}
use lib.ListN.{length, get_or}
use Rattle.std.specs.Str.{bytes_eq}
use lib.Dec.{eqb}
use borrow.Author.Tests.{lt-leb, le-leb, eq-eqb, eqb-true, ne_eqb}
use Rattle.ids.specs.Answers.{accepted, refused, Cause, first_of, decided, wrong_length, wrong_content}
use Rattle.ids.specs.Sorted.{All}
use Rattle.ids.proofs.Answers as answers
use Rattle.ids.proofs.Sorted.{all_map, no_test}
use Rattle.signature.specs.Model.{Sig, max_types, max_preds, max_funcs}
use Rattle.semantics.specs.Structure.{Structure, compare_var, compare_ambient}
use Rattle.semantics.proofs.Cases.{and_first, and_second}
use Rattle.file.specs.Layout.{sum}
use Rattle.file.specs.File as file
use Rattle.file.specs.File.{counts, head_of, head_bytes, sizes, head_in, Content, content_in, structure_in, has_length, any_over, limits, entry_refused, link_rises}
use Rattle.file.specs.File.{fact_off_root, other_order, content_causes, load_causes, load, store}
use Rattle.file.proofs.RowLaws.{two_tests}
use Rattle.file.proofs.StoreLoad.{Loaded, loaded, store_load}
use Rattle.file.proofs.Chains.{sorted_in_order}
use Rattle.file.proofs.Storable.{Storable, Entries, entries_entered, order_tells}
use Rattle.file.proofs.LoadStore.{load_storable}
use Rattle.file.proofs.Loaded.{loaded_storable}
use Rattle.decoding.specs.declared.Places.{Places}
use Rattle.storing.specs.View.{max_bytes}
use Rattle.decoding.specs.View.{PlacesOf, Keyed}
use Rattle.decoding.proofs.Decoded.{counted}
use Rattle.validating.specs.View.{is_flagged, is_storable}

-- a signature as the code holds it
pub record WithinTables (g : Sig) : Type 0 where
  pub types : length g.types ≤ max_types
  pub preds : length g.preds ≤ max_preds
  pub funcs : length g.funcs ≤ max_funcs

is_not : {b : Bool} → b ≡ false → not b ≡ true
is_not = answers.not_false

pub not_told : (b : Bool) → not b ≡ true → b ≡ false
not_told true e = no_test refl (sym e)
not_told false e = refl

or_set : (b c : Bool) → (b ≡ false → c ≡ true) → (b || c) ≡ true
or_set true c h = refl
or_set false c h = h refl

or_unset : (b c : Bool) → (b || c) ≡ true → b ≡ false → c ≡ true
or_unset true c e h = no_test refl h
or_unset false c e h = e

-- a list is the same as itself
pub all_alike : (xs : List ℕ) → bytes_eq xs xs ≡ true
all_alike [] = refl
all_alike (x ∷ xs) = rw (eq-eqb x x refl) (all_alike xs)

-- numbers that are bytes
pub all_small : (xs : List ℕ) → ((i : ℕ) → get_or xs i 0 < 256) → All (λ (b : ℕ). b < 256) xs
all_small [] h = tt
all_small (x ∷ xs) h = (h 0, all_small xs (λ i. h (suc i)))

-- the parts end where their lengths come to
pub ends : (h : file.Head) (p : Places) → PlacesOf h p → p.end ≡ sum (sizes h)
unfolding sum sizes
ends h p l =
    omega (arith, l.links, l.facts, l.func_apps, l.pred_apps, l.impositions, l.vars, l.ambients, l.marks, l.pairs, l.firsts, l.flags, l.end)

-- no file within the limits is longer than the longest
pub longest : (h : file.Head) → any_over (counts h) limits ≡ false → sum (sizes h) ≤ max_bytes
unfolding sum sizes
longest h e =
    let c = counted h e in
    omega (arith, c.els, c.facts, c.func_apps, c.pred_apps, c.impositions, c.vars, c.ambients, c.pairs)

-- causes that give one number give it or none
one_number : (n : ℕ) (cs : List Cause) → All (λ (c : Cause). c.number ≡ n) cs → (first_of cs ≡ none) ⊎ (first_of cs ≡ some n)
unfolding first_of
one_number n [] h = inl refl
one_number n (c ∷ cs) h = go c.applies refl (one_number n cs h.1)
  where
    go : (b : Bool) → c.applies ≡ b → (first_of cs ≡ none) ⊎ (first_of cs ≡ some n) → (first_of (c ∷ cs) ≡ none) ⊎ (first_of (c ∷ cs) ≡ some n)
    go true e rest = inr (rw (e, first_of) (ap some h.0))
    go false e rest = rw (e, first_of) rest

-- What the code judges is what a file can hold, with what the code's tables have anyway.

module _ (g : Sig) (s : Structure) where
  abbrev blank : Bool
  blank = eqb (sum (counts (head_of s))) 0

  storable_judged : Storable g s → is_storable g s ≡ true
  unfolding is_storable is_flagged
  storable_judged h =
      two_tests (is_not h.unrefused) (two_tests (is_not h.falls) (two_tests (is_not h.rooted) (two_tests (is_not h.ordered)
      (or_set s.started (blank && not s.settled) (λ e. two_tests (eq-eqb (sum (counts (head_of s))) 0 (h.flagged e).0) (is_not (h.flagged e).1))))))

  told_storable : WithinTables g → is_storable g s ≡ true → any_over (counts (head_of s)) limits ≡ false → length s.marks ≡ length s.links
      → Storable g s
  unfolding is_storable is_flagged
  told_storable w e most marks =
      let a = entry_refused g s in
      let b = link_rises 0 s.links in
      let c = fact_off_root s in
      let d = other_order s in
      let f = is_flagged s in
      let e1 = and_second (not a) (not b && (not c && (not d && f))) e in
      let e2 = and_second (not b) (not c && (not d && f)) e1 in
      let e3 = and_second (not c) (not d && f) e2 in
      record {
        types = omega (arith, w.types);
        preds = omega (arith, w.preds);
        funcs = omega (arith, w.funcs);
        most = most;
        marks = marks;
        unrefused = not_told a (and_first (not a) (not b && (not c && (not d && f))) e);
        falls = not_told b (and_first (not b) (not c && (not d && f)) e1);
        rooted = not_told c (and_first (not c) (not d && f) e2);
        ordered = not_told d (and_first (not d) f e3);
        flagged = λ k.
            let both = or_unset s.started (blank && not s.settled) (and_second (not d) f e3) k in
            (eqb-true (sum (counts (head_of s))) 0 (and_first blank (not s.settled) both), not_told s.settled (and_second blank (not s.settled) both));
      }

module _ (g : Sig) (bytes : List ℕ) where
  abbrev said : Structure
  said = structure_in (content_in bytes)

  abbrev judged : List Cause
  judged = content_causes g (head_in bytes) (content_in bytes) said

  other_length : has_length bytes ≡ false → refused wrong_length ≡ load g bytes
  unfolding load load_causes first_of decided
  other_length e = rw (e)

  pub too_short : length bytes < head_bytes → refused wrong_length ≡ load g bytes
  unfolding has_length
  too_short h = other_length (rw (lt-leb head_bytes (length bytes) h))

  pub not_fitting : head_bytes ≤ length bytes → (length bytes ≡ sum (sizes (head_in bytes)) → ⊥) → refused wrong_length ≡ load g bytes
  unfolding has_length
  not_fitting h k = other_length (rw (le-leb head_bytes (length bytes) h) (ne_eqb (length bytes) (sum (sizes (head_in bytes))) k))

  pub fitting : head_bytes ≤ length bytes → length bytes ≡ sum (sizes (head_in bytes)) → has_length bytes ≡ true
  unfolding has_length
  fitting h k = rw (le-leb head_bytes (length bytes) h) (eq-eqb (length bytes) (sum (sizes (head_in bytes))) k)

  module _ (long : has_length bytes ≡ true) where
    by_content : load g bytes ≡ decided (first_of judged) refused (accepted said)
    unfolding load load_causes first_of
    by_content = rw (long)

    pub over_limit : any_over (counts (head_in bytes)) limits ≡ true → refused wrong_content ≡ load g bytes
    unfolding content_causes first_of decided
    over_limit e = sym (by_content ∙ rw (e))

    -- "with 14, after 13": a file whose length fits is loaded or refused with 14
    pub not_loaded : ((s : Structure) → load g bytes ≡ accepted s → ⊥) → refused wrong_content ≡ load g bytes
    unfolding content_causes decided
    not_loaded h =
        ⊎_elim {C = refused wrong_content ≡ load g bytes}
        (λ e. absurd (h said (by_content ∙ ap (λ (o : Option ℕ). decided o refused (accepted said)) e)))
        (λ e. sym (by_content ∙ ap (λ (o : Option ℕ). decided o refused (accepted said)) e))
        (one_number wrong_content judged (refl, (refl, (refl, (refl, (refl, (refl, (refl, tt))))))))

  -- What the structure t is, that the code read.

  module _ (within : WithinTables g) where
    keyed : (s : Structure) → load g bytes ≡ accepted s → Keyed said
    keyed s e =
        let l : Loaded g bytes s = loaded g bytes s e in
        let o = order_tells said l.content.ordered in
        let n : Entries g said = entries_entered g said l.content.entered in
        record {
          vars_ordered = sorted_in_order compare_var said.vars o.vars;
          vars_below = all_map (λ x v. v.key) said.vars n.vars;
          ambients_ordered = sorted_in_order compare_ambient said.ambients o.ambients;
          ambients_below = all_map (λ x v. omega (arith, v.valid.typ, within.types)) said.ambients n.ambients;
        }

    storable : (s : Structure) → load g bytes ≡ accepted s → Storable g s
    storable s e = loaded_storable g bytes s (omega (arith, within.types)) (omega (arith, within.preds)) (omega (arith, within.funcs)) e

    module _ (t : Structure) (read : Keyed said → t ≡ said) where
      is_loaded : (s : Structure) → load g bytes ≡ accepted s → t ≡ s
      is_loaded s e = read (keyed s e) ∙ (loaded g bytes s e).is

      pub not_storable : has_length bytes ≡ true → is_storable g t ≡ false → refused wrong_content ≡ load g bytes
      not_storable long e =
          not_loaded long (λ s a. no_test (storable_judged g s (storable s a)) (sym (ap (is_storable g) (is_loaded s a)) ∙ e))

      pub stored_otherwise : has_length bytes ≡ true → All (λ (b : ℕ). b < 256) bytes → (store t ≡ bytes → ⊥) → refused wrong_content ≡ load g bytes
      stored_otherwise long small h = not_loaded long (λ s a. h (ap store (is_loaded s a) ∙ store_load g bytes s small a))

    pub stored_alike : (t : Structure) → is_storable g t ≡ true → any_over (counts (head_of t)) limits ≡ false → length t.marks ≡ length t.links
        → store t ≡ bytes → accepted t ≡ load g bytes
    stored_alike t e most marks same =
        sym (ap (load g) (sym same) ∙ load_storable g t (told_storable g t within e most marks))
