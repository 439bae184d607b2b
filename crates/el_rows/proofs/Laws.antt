-- Laws of the links and marks of rows: reads, stores, a path shortened, a merge, entries as roots.
use mathlib.Core.Path.{◌≡◌, refl, sym, ap, ◌∙◌}
use mathlib.Core.Bool.{Bool, true, false, ◌&&◌, ◌||◌, or-false}
use mathlib.Core.List.{List, [], ◌∷◌, ◌++◌, map}
use Prim.Native.Nat.{ℕ, zero, suc, ◌+◌, ◌≤◌, ◌<◌}
use native.Mathlib.Nat.{le_of_suc-le-suc, not-suc-le-zero}
use native.Mathlib.Numerals.{add-one}
use native.Mathlib.Omega.{arith}
use lib.ListN.{length, take, get_or, set, length-map, length-set, get_or-eq_default}
use lib.Seq.{set_out, set-get_or, map-set, take-suc}
use Rattle.unification.specs.Roots.{link, root_of, short_of}
use Rattle.unification.proofs.Laws.{root_stop, root_pass, root_above, link_other, short_stop, short_first, merged_less}
use Rattle.semantics.specs.Structure.{Fact, fact, FuncApp, func_app, PredApp, pred_app, canonical_fact, canonical_func_app, canonical_pred_app}
use Rattle.semantics.specs.Types.{marked, merged_marks, any_marked}
use Rattle.el_rows.specs.declared.El.{El}
use Rattle.el_rows.specs.View.{link_in, mark_in, links_in, marks_in, Shortened, Merged}

-- what stands for an element past the last
abbrev pub no_el : El
no_el = record { link = 0; marked = false }

-- What some elements hold.

module _ {B : Type 0} (f : El → B) where
  -- of one that is there
  pub view_read : (xs : List El) (i : ℕ) (d : El) (e : B) → i < length xs → get_or (map f xs) i e ≡ f (get_or xs i d)
  view_read [] i d e h = absurd (not-suc-le-zero h)
  view_read (x ∷ xs) zero d e h = refl
  view_read (x ∷ xs) (suc i) d e h = view_read xs i d e (le_of_suc-le-suc h)

  -- past them it is the default
  pub view_past : (xs : List El) {i : ℕ} (e : B) → length xs ≤ i → get_or (map f xs) i e ≡ e
  view_past xs e h = get_or-eq_default (map f xs) e (omega (arith, length-map xs f))

  -- past them nothing is stored
  pub view_unstored : (xs : List El) (i : ℕ) (v : B) → length xs ≤ i → map f xs ≡ set (map f xs) i v
  view_unstored xs i v h = sym (set_out (map f xs) i v (omega (arith, length-map xs f)))

-- Reads.

module _ (els : List El) (e : ℕ) where
  module _ (at : e < length els) (d : El) where
    pub link_read : link (links_in els) e ≡ link_in (get_or els e d)
    link_read = view_read link_in els e d e at

    pub mark_read : mark_in (get_or els e d) ≡ marked (marks_in els) e
    mark_read = sym (view_read mark_in els e d false at)

  -- a number that is no element is its own root, and not marked
  module _ (past : length els ≤ e) where
    pub root_past : e ≡ root_of (links_in els) e
    root_past = let own : link (links_in els) e ≡ e = view_past link_in els e past in sym (root_stop (links_in els) e (omega arith))

    pub mark_past : false ≡ marked (marks_in els) e
    mark_past = sym (view_past mark_in els false past)

-- A path shortened: of the way from e the part from x on, whose link is `to`, is left.
pub record Shortening (e : ℕ) (before now : List El) (x to : ℕ) : Type 0 where
  pub there : x < length before
  pub linked : to ≡ link (links_in now) x
  pub root : root_of (links_in before) e ≡ root_of (links_in now) x
  pub short : short_of (links_in before) e ≡ short_of (links_in now) x
  pub marks : marks_in now ≡ marks_in before
  pub long : length now ≡ length before

pub short_begins : (e : ℕ) (els : List El) (d : El) → e < length els → Shortening e els els e (link_in (get_or els e d))
short_begins e els d at = record { there = at; linked = sym (link_read els e at d); root = refl; short = refl; marks = refl; long = refl }

-- there is no way
pub short_past : (e : ℕ) (els : List El) → length els ≤ e → Shortened e els els e
short_past e els past =
    let own : link (links_in els) e ≡ e = view_past link_in els e past in
    record { is = root_past els e past; links = sym (short_stop (links_in els) e (omega arith)); marks = refl; long = refl }

module _ {e : ℕ} {before now : List El} {x to : ℕ} (so_far : Shortening e before now x to) where
  abbrev ls : List ℕ
  ls = links_in now

  -- its link falls: it gets that of `to`, and the way goes on from there
  pub short_on : (d r : El) → to < x → link_in r ≡ link_in (get_or now to d) → mark_in r ≡ mark_in (get_or now x d)
      → Shortening e before (set now x r) to (link_in (get_or now to d))
  short_on d r low is same =
      let at : to < length now = omega (arith, so_far.there, so_far.long) in
      let here : x < length now = omega (arith, so_far.there, so_far.long) in
      let h : link ls x < x = omega (arith, so_far.linked) in
      let entry : link_in r ≡ link ls to = is ∙ sym (link_read now to at d) in
      let stored : links_in (set now x r) ≡ set ls x (link ls to) = map-set link_in now x r ∙ ap (set ls x) entry in
      record {
        there = omega (arith, so_far.there);
        linked = sym (link_read now to at d) ∙ sym (ap (λ (l : List ℕ). link l to) stored ∙ link_other ls x (link ls to) to (λ q. omega arith));
        root =
            so_far.root ∙ root_pass ls x h ∙ ap (root_of ls) (sym so_far.linked)
            ∙ sym (ap (λ (l : List ℕ). root_of l to) stored ∙ root_above ls x (link ls to) to low);
        short =
            so_far.short ∙ short_first ls x h ∙ (λ i. short_of (set ls x (link ls (sym so_far.linked i))) (sym so_far.linked i))
            ∙ ap (λ (l : List ℕ). short_of l to) (sym stored);
        marks =
            map-set mark_in now x r ∙ ap (set (marks_in now) x) (same ∙ mark_read now x here d)
            ∙ set-get_or (marks_in now) x false ∙ so_far.marks;
        long = length-set now x r ∙ so_far.long;
      }

  -- it ends
  pub short_ends : x ≤ to → Shortened e before now x
  short_ends h =
      let stop : x ≤ link ls x = omega (arith, so_far.linked) in record {
        is = sym (so_far.root ∙ root_stop ls x stop);
        links = sym (so_far.short ∙ short_stop ls x stop);
        marks = so_far.marks;
        long = so_far.long;
      }

-- A merge: first the mark of the smaller, then the row of the larger.

pub record Remarked (e : ℕ) (mark : Bool) (before after : List El) : Type 0 where
  pub links : links_in after ≡ links_in before
  pub marks : marks_in after ≡ set (marks_in before) e mark
  pub long : length after ≡ length before

module _ (e : ℕ) (els : List El) {mark : Bool} where
  pub remarked : (d r : El) {after : List El} → e < length els → link_in r ≡ link_in (get_or els e d) → mark_in r ≡ mark
      → after ≡ set els e r → Remarked e mark els after
  remarked d r at l m is = record {
    links = ap links_in is ∙ map-set link_in els e r ∙ ap (set (links_in els) e) (l ∙ sym (link_read els e at d)) ∙ set-get_or (links_in els) e e;
    marks = ap marks_in is ∙ map-set mark_in els e r ∙ ap (set (marks_in els) e) m;
    long = ap length is ∙ length-set els e r;
  }

  pub unmarked : {after : List El} → length els ≤ e → after ≡ els → Remarked e mark els after
  unmarked past is = record { links = ap links_in is; marks = ap marks_in is ∙ view_unstored mark_in els e mark past; long = ap length is }

module _ (keep drop : ℕ) (before now : List El) {both : Bool} (low : keep < drop)
    (is : both ≡ (marked (marks_in before) keep && marked (marks_in before) drop)) (first : Remarked keep both before now) where
  merge : (after : List El) → links_in after ≡ set (links_in now) drop keep → marks_in after ≡ set (marks_in now) drop false
      → length after ≡ length now → Merged keep drop before after
  unfolding merged_marks
  merge after l m long = record {
    links = l ∙ ap (λ (ls : List ℕ). set ls drop keep) first.links ∙ sym (merged_less (links_in before) keep drop low);
    marks = m ∙ ap (λ (ms : List Bool). set ms drop false) (first.marks ∙ ap (set (marks_in before) keep) is);
    long = long ∙ first.long;
  }

  pub merged_row : (r : El) → link_in r ≡ keep → mark_in r ≡ false → Merged keep drop before (set now drop r)
  merged_row r l m =
      merge (set now drop r) (map-set link_in now drop r ∙ ap (set (links_in now) drop) l)
      (map-set mark_in now drop r ∙ ap (set (marks_in now) drop) m) (length-set now drop r)

  pub merged_past : length now ≤ drop → Merged keep drop before now
  merged_past past = merge now (view_unstored link_in now drop keep past) (view_unstored mark_in now drop false past) refl

-- Entries as roots: what the finds ensure.

pub fact_roots : (ls : List ℕ) (f : Fact) {r : ℕ} {ps : List ℕ} → r ≡ root_of ls f.el → ps ≡ map (root_of ls) f.parents
    → fact r f.typ ps ≡ canonical_fact ls f
unfolding canonical_fact
fact_roots ls f p q = λ i. fact (p i) f.typ (q i)

pub app_roots : (ls : List ℕ) (x : FuncApp) {r : ℕ} {ps es : List ℕ} → ps ≡ map (root_of ls) x.parents → es ≡ map (root_of ls) x.args
    → r ≡ root_of ls x.result → func_app x.func ps es r ≡ canonical_func_app ls x
unfolding canonical_func_app
app_roots ls x p q r = λ i. func_app x.func (p i) (q i) (r i)

pub pred_roots : (ls : List ℕ) (x : PredApp) {ps es : List ℕ} → ps ≡ map (root_of ls) x.parents → es ≡ map (root_of ls) x.args
    → pred_app x.pred ps es ≡ canonical_pred_app ls x
unfolding canonical_pred_app
pred_roots ls x p q = λ i. pred_app x.pred (p i) (q i)

-- A mark more at the end.

any_pushed : (ms : List Bool) (m : Bool) → any_marked (ms ++ m ∷ []) ≡ (any_marked ms || m)
unfolding any_marked
any_pushed [] m = or-false m
any_pushed (true ∷ ms) m = refl
any_pushed (false ∷ ms) m = any_pushed ms m

pub any_more : (ms : List Bool) (i : ℕ) (d : Bool) → i < length ms → any_marked (take (i + 1) ms) ≡ (any_marked (take i ms) || get_or ms i d)
any_more ms i d h = rw (add-one, take-suc ms i d h) (any_pushed (take i ms) (get_or ms i d))
