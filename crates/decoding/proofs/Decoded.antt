-- Laws of a file that fits its head: its parts stand at their places, and what stands there is what the file says.
use mathlib.Core.Path.{◌≡◌, refl, sym, ap, subst, ◌∙◌}
use mathlib.Core.Bool.{true, false}
use mathlib.Core.List.{List, [], ◌∷◌, ◌++◌, map, map-append, reverse}
use Prim.Native.Nat.{ℕ, zero, suc, ◌+◌, ◌*◌, ◌≤◌, ◌<◌}
use native.Mathlib.Omega.{arith}
use lib.ListN.{length, take, drop, get_or, length-map}
use lib.Seq.{get_or-take, get_or-drop}
use lib.Dec.{ltb}
use borrow.Author.Tests.{ltb-false}
use Rattle.ids.specs.Sorted.{All}
use Rattle.unification.specs.Roots.{max_els, up_to}
use Rattle.unification.proofs.Arrays.{up_to_length}
use Rattle.signature.specs.Model.{max_types}
use Rattle.semantics.specs.Structure.{Structure, structure, Fact, Var, Ambient, max_facts, max_func_apps, max_pred_apps, max_vars, max_pairs, max_impositions}
use Rattle.semantics.specs.Structure.{compare_var, compare_ambient}
use Rattle.semantics.specs.Sheet.{words}
use Rattle.semantics.proofs.Cases.{or_first, or_second}
use Rattle.file.specs.Layout.{row_in, rows_in, sum, parts_of}
use Rattle.file.specs.Rows.{fact_in, func_app_in, pred_app_in, imposition_in, var_in, ambient_in, pair_in, bit_in}
use Rattle.file.specs.Rows.{fact_columns, func_app_columns, pred_app_columns, imposition_columns, pair_columns}
use Rattle.file.specs.File.{Head, counts, limits, sizes, any_over, in_order, owner, facts_from, content_from, content_in, structure_in}
use Rattle.file.proofs.LayoutLaws.{part_at, rows_take}
use Rattle.decoding.specs.declared.Places.{Places}
use Rattle.decoding.specs.View.{PlacesOf, Fits, facts_owned, Keyed}

-- Counts.

-- no count is over its limit
pub record Counted (h : Head) : Type 0 where
  pub els : h.els ≤ max_els
  pub facts : h.facts ≤ max_facts
  pub func_apps : h.func_apps ≤ max_func_apps
  pub pred_apps : h.pred_apps ≤ max_pred_apps
  pub impositions : h.impositions ≤ max_impositions
  pub vars : h.vars ≤ max_vars
  pub ambients : h.ambients ≤ max_types
  pub pairs : h.pairs ≤ max_pairs

not_over : (n l : ℕ) (ns ls : List ℕ) → any_over (n ∷ ns) (l ∷ ls) ≡ false → (n ≤ l) × (any_over ns ls ≡ false)
unfolding any_over
not_over n l ns ls h = (ltb-false l n (or_first (ltb l n) (any_over ns ls) h), or_second (ltb l n) (any_over ns ls) h)

pub counted : (h : Head) → any_over (counts h) limits ≡ false → Counted h
unfolding counts
counted h e =
    let a = not_over _ _ _ _ e in
    let b = not_over _ _ _ _ a.1 in
    let c = not_over _ _ _ _ b.1 in
    let d = not_over _ _ _ _ c.1 in
    let f = not_over _ _ _ _ d.1 in
    let g = not_over _ _ _ _ f.1 in
    let i = not_over _ _ _ _ g.1 in
    let j = not_over _ _ _ _ i.1 in
    record {
      els = a.0;
      facts = b.0;
      func_apps = c.0;
      pred_apps = d.0;
      impositions = f.0;
      vars = g.0;
      ambients = i.0;
      pairs = j.0;
    }

-- Facts.

facts_snoc : (i : ℕ) (fs : List ℕ) (rows : List (List ℕ)) (r : List ℕ)
    → facts_from i fs (rows ++ (r ∷ [])) ≡ facts_from i fs rows ++ (fact_in (owner (i + length rows) fs) r ∷ [])
unfolding facts_from
facts_snoc i fs [] r = let same : i ≡ i + 0 = omega arith in ap (λ (m : ℕ). fact_in (owner m fs) r ∷ []) same
facts_snoc i fs (q ∷ rows) r =
    let same : suc i + length rows ≡ i + suc (length rows) = omega arith in
    ap (λ (l : List Fact). fact_in (owner i fs) q ∷ l)
    (facts_snoc (suc i) fs rows r ∙ ap (λ (m : ℕ). facts_from (suc i) fs rows ++ (fact_in (owner m fs) r ∷ [])) same)

-- the owners tell the elements of the facts
facts_owned_lem : (firsts : List ℕ) (n : ℕ) (owners : List ℕ) → ((i : ℕ) → i < n → get_or owners i 0 ≡ owner (suc i) firsts) → (row : ℕ → List ℕ) (m : ℕ) → m ≤ n
    → map (λ (i : ℕ). fact_in (get_or owners i 0) (row i)) (up_to m) ≡ facts_from 1 firsts (map row (up_to m))
unfolding facts_from up_to
facts_owned_lem firsts n owners o row zero h = refl
facts_owned_lem firsts n owners o row (suc m) h =
    let each : ℕ → Fact = λ i. fact_in (get_or owners i 0) (row i) in
    let last : get_or owners m 0 ≡ owner (1 + length (map row (up_to m))) firsts =
    o m h ∙ ap (λ (j : ℕ). owner j firsts) (omega (arith, length-map (up_to m) row, up_to_length m)) in
    map-append each (up_to m) (m ∷ [])
    ∙ (λ i. facts_owned_lem firsts n owners o row m (omega arith) i ++ fact_in (last i) (row m) ∷ [])
    ∙ sym (ap (facts_from 1 firsts) (map-append row (up_to m) (m ∷ [])) ∙ facts_snoc 1 firsts (map row (up_to m)) (row m))

-- Parts.

-- what is read stands before the end
pub record Room (h : Head) (p : Places) (n : ℕ) : Type 0 where
  pub links : p.links + h.els ≤ n
  pub facts : p.facts + fact_columns * h.facts ≤ n
  pub func_apps : p.func_apps + func_app_columns * h.func_apps ≤ n
  pub pred_apps : p.pred_apps + pred_app_columns * h.pred_apps ≤ n
  pub impositions : p.impositions + imposition_columns * h.impositions ≤ n
  pub vars : p.vars + pair_columns * h.vars ≤ n
  pub ambients : p.ambients + pair_columns * h.ambients ≤ n
  pub marks : p.marks + h.els ≤ n
  pub pairs : p.pairs + pair_columns * h.pairs ≤ n
  pub firsts : p.firsts + 2 * h.els ≤ n
  pub flags : p.flags + 1 < n

-- what stands at the places, as it is read; `owners` has the element of each fact
pub record Reads (h : Head) (p : Places) (bytes owners : List ℕ) (s : Structure) : Type 0 where
  pub links : s.links ≡ take h.els (drop p.links bytes)
  pub marks : s.marks ≡ map bit_in (take h.els (drop p.marks bytes))
  pub owned : (i : ℕ) → i < h.facts → get_or owners i 0 ≡ owner (suc i) (words (take (2 * h.els) (drop p.firsts bytes)))
  pub facts : s.facts ≡ facts_owned owners h.facts (drop p.facts bytes)
  pub func_apps : s.func_apps ≡ map func_app_in (rows_in func_app_columns h.func_apps (drop p.func_apps bytes))
  pub pred_apps : s.pred_apps ≡ map pred_app_in (rows_in pred_app_columns h.pred_apps (drop p.pred_apps bytes))
  pub impositions : s.impositions ≡ map imposition_in (rows_in imposition_columns h.impositions (drop p.impositions bytes))
  pub vars : in_order compare_var (map var_in (rows_in pair_columns h.vars (drop p.vars bytes))) ≡ true
      → All (λ (v : Var). v.key < max_vars) (map var_in (rows_in pair_columns h.vars (drop p.vars bytes)))
      → s.vars ≡ map var_in (rows_in pair_columns h.vars (drop p.vars bytes))
  pub ambients : in_order compare_ambient (map ambient_in (rows_in pair_columns h.ambients (drop p.ambients bytes))) ≡ true
      → All (λ (a : Ambient). a.typ < max_types) (map ambient_in (rows_in pair_columns h.ambients (drop p.ambients bytes)))
      → s.ambients ≡ map ambient_in (rows_in pair_columns h.ambients (drop p.ambients bytes))
  pub pairs : s.pairs ≡ reverse (map pair_in (rows_in pair_columns h.pairs (drop p.pairs bytes)))
  pub settled : s.settled ≡ bit_in (get_or bytes p.flags 0)
  pub started : s.started ≡ bit_in (get_or bytes (p.flags + 1) 0)

module _ (h : Head) (p : Places) (bytes : List ℕ) (fits : Fits h bytes) (at : PlacesOf h p) where
  pub room : Room h p (length bytes)
  unfolding sizes sum
  room = record {
    links = omega (arith, fits.long, at);
    facts = omega (arith, fits.long, at);
    func_apps = omega (arith, fits.long, at);
    pred_apps = omega (arith, fits.long, at);
    impositions = omega (arith, fits.long, at);
    vars = omega (arith, fits.long, at);
    ambients = omega (arith, fits.long, at);
    marks = omega (arith, fits.long, at);
    pairs = omega (arith, fits.long, at);
    firsts = omega (arith, fits.long, at);
    flags = omega (arith, fits.long, at);
  }

  abbrev ps : List (List ℕ)
  ps = parts_of (sizes h) bytes

  -- a part stands where those before it end
  part : (i q : ℕ) → i < 13 → q ≡ sum (take i (sizes h)) → take (get_or (sizes h) i 0) (drop q bytes) ≡ get_or ps i []
  unfolding sizes
  part i q g e = ap (λ (m : ℕ). take (get_or (sizes h) i 0) (drop m bytes)) e ∙ sym (part_at (sizes h) bytes i g)

  -- the rows of a part
  rows_of : (k n i q : ℕ) → i < 13 → q ≡ sum (take i (sizes h)) → get_or (sizes h) i 0 ≡ k * n → rows_in k n (drop q bytes) ≡ rows_in k n (get_or ps i [])
  rows_of k n i q g e m =
      sym (rows_take k n (drop q bytes))
      ∙ ap (rows_in k n) (ap (λ (j : ℕ). take j (drop q bytes)) (sym m) ∙ part i q g e)

  -- a byte of the last part
  flag : (j : ℕ) → j < 2 → get_or bytes (p.flags + j) 0 ≡ get_or (get_or ps 12 []) j 0
  unfolding sizes sum
  flag j g =
      sym
      (ap (λ (l : List ℕ). get_or l j 0) (sym (part 12 p.flags (omega arith) (omega (arith, at))))
      ∙ get_or-take 2 (drop p.flags bytes) j 0 g
      ∙ get_or-drop p.flags bytes j 0)

  -- the structure that the parts say
  abbrev said : Structure
  said = structure_in (content_from h ps)

  said_is : said ≡ structure_in (content_in bytes)
  unfolding content_in
  said_is = ap (λ (x : Head). structure_in (content_from x (parts_of (sizes x) bytes))) fits.is

  module _ (owners : List ℕ) (s : Structure) (r : Reads h p bytes owners s) where
    facts_said : s.facts ≡ said.facts
    unfolding structure_in content_from sizes sum rows_in
    facts_said =
        let b : List ℕ = drop p.facts bytes in
        let firsts = part 11 p.firsts (omega arith) (omega (arith, at)) in
        let rows = rows_of fact_columns h.facts 2 p.facts (omega arith) (omega (arith, at)) refl in
        r.facts
        ∙ facts_owned_lem (words (take (2 * h.els) (drop p.firsts bytes))) h.facts owners r.owned (row_in fact_columns h.facts b) h.facts (omega arith)
        ∙ (λ i. facts_from 1 (words (firsts i)) (rows i))

    said_at : Keyed said → s ≡ said
    unfolding structure_in content_from sizes sum
    said_at k =
        let links = r.links ∙ part 1 p.links (omega arith) (omega (arith, at)) in
        let marks = r.marks ∙ ap (map bit_in) (part 9 p.marks (omega arith) (omega (arith, at))) in
        let func_apps = r.func_apps ∙ ap (map func_app_in) (rows_of func_app_columns h.func_apps 4 p.func_apps (omega arith) (omega (arith, at)) refl) in
        let pred_apps = r.pred_apps ∙ ap (map pred_app_in) (rows_of pred_app_columns h.pred_apps 5 p.pred_apps (omega arith) (omega (arith, at)) refl) in
        let impositions =
        r.impositions ∙ ap (map imposition_in) (rows_of imposition_columns h.impositions 6 p.impositions (omega arith) (omega (arith, at)) refl) in
        let var-rows = ap (map var_in) (rows_of pair_columns h.vars 7 p.vars (omega arith) (omega (arith, at)) refl) in
        let vars =
        r.vars (subst (λ (l : List Var). in_order compare_var l ≡ true) (sym var-rows) k.vars_ordered)
        (subst (All (λ (v : Var). v.key < max_vars)) (sym var-rows) k.vars_below) ∙ var-rows in
        let ambient-rows = ap (map ambient_in) (rows_of pair_columns h.ambients 8 p.ambients (omega arith) (omega (arith, at)) refl) in
        let ambients =
        r.ambients (subst (λ (l : List Ambient). in_order compare_ambient l ≡ true) (sym ambient-rows) k.ambients_ordered)
        (subst (All (λ (a : Ambient). a.typ < max_types)) (sym ambient-rows) k.ambients_below) ∙ ambient-rows in
        let pairs =
        r.pairs ∙ ap (λ (l : List (List ℕ)). reverse (map pair_in l)) (rows_of pair_columns h.pairs 10 p.pairs (omega arith) (omega (arith, at)) refl) in
        let first : p.flags ≡ p.flags + 0 = omega arith in
        let settled = r.settled ∙ ap bit_in (ap (λ (q : ℕ). get_or bytes q 0) first ∙ flag 0 (omega arith)) in
        let started = r.started ∙ ap bit_in (flag 1 (omega arith)) in
        λ i. structure (links i) (marks i) (facts_said i) (func_apps i) (pred_apps i) (vars i) (ambients i) (pairs i) (impositions i) (started i) (settled i)

    pub decoded : Keyed (structure_in (content_in bytes)) → s ≡ structure_in (content_in bytes)
    decoded k = said_at (subst Keyed (sym said_is) k) ∙ said_is
