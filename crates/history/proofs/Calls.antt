-- What ties the book to the structure, where no element is marked, what holds of it with marks too, and that every call keeps both.
use mathlib.Core.Path.{◌≡◌, refl, sym, ap, subst, ◌∙◌}
use mathlib.Core.Logic.{◌≢◌, ◌↔◌, ⊎_elim}
use mathlib.Core.Bool.{Bool, true, false, ◌&&◌}
use mathlib.Core.List.{List, [], ◌∷◌, ◌++◌}
use mathlib.Core.Option.{Option, none, some}
use Prim.Native.Nat.{ℕ, ◌+◌, ◌≤◌, ◌<◌}
use native.Mathlib.Omega.{arith}
use lib.ListN.{length, length-append, get_or-append, get_or-eq_default}
use lib.Seq.{get_or-append_seam}
use lib.Dec.{eqb}
use borrow.Author.Tests.{eqb-true, ltb-true, leb-false, not-false}
use Rattle.ids.specs.Table.{placed, lookup_of}
use Rattle.ids.proofs.Answers.{or_neither}
use Rattle.ids.proofs.Judging.{NoneApplies}
use Rattle.ids.proofs.Sorted.{All, all_of, all_map, all_at, all_left, lookup_sound, lookup_none, placed_all, placed_own, placed_rest}
use Rattle.unification.specs.Roots.{max_els, root_of, short_of, added_of, find_causes}
use Rattle.unification.proofs.Numbers.{less_or, same_or}
use Rattle.unification.proofs.Laws.{root_le, short_length}
use Rattle.unification.proofs.Theorems.{added_formed, short_formed, short_root}
use Rattle.signature.specs.Model.{Sig, with_types, with_preds, with_funcs, with_models, with_mor_apps}
use Rattle.signature.specs.Calls.{is_func, with_type, with_pred, with_func, with_model, with_mor_app}
use Rattle.semantics.specs.Structure as structure
use Rattle.semantics.specs.Structure.{Fact, FuncApp, Pair, pair, Structure, compare_func_app, canonical_func_app}
use Rattle.semantics.specs.Types.{Core, with_links, with_marks, with_pairs, any_marked}
use Rattle.semantics.specs.Valid.{Below}
use Rattle.semantics.specs.Close.{Closed, CloseRun, close_run, report_of, after_close, core_at_start, fuel}
use Rattle.semantics.specs.Applying.{equate, Applied, applied}
use Rattle.semantics.specs.Calls.{is_id_or_comp, is_el, are_els, el_causes, with_el, equality_causes, with_equality, with_imposition}
use Rattle.semantics.specs.Applying.{applied_equal, apply_at, insert_func_app_or_equate}
use Rattle.semantics.specs.Calls.{applied_to, application_causes, with_applied, with_pred_app}
use Rattle.semantics.specs.Calls.{with_var, with_ambient, Call, push_type, push_pred, push_func, push_model, push_mor_app, push_el, equate_els}
use Rattle.semantics.specs.Calls.{impose_type, apply_func, apply_pred, bind_var, bind_ambient, close, type_conflicts, settle, root, root_const}
use Rattle.semantics.specs.Calls.{lookup_type, ambient_parents, is_accepted, merges_of, Machine, machine, Step, equality_rule, imposition_rule, application_rule}
use Rattle.semantics.specs.Calls.{close_rule, settle_rule, rule, closed, merges_in, sums_of, leaves, acceptance, step}
use Rattle.history.specs.MapLaws.{Obeys}
use Rattle.history.specs.Book.{Book, with_sig, with_merges, elements, taken, fed, AppliesNeither}
use Rattle.semantics.proofs.Links.{length_push}
use Rattle.semantics.proofs.Operations.{NoOperation}
use Rattle.semantics.proofs.Judged.{step_by_lem, effect_accepted, below_if}
use Rattle.semantics.proofs.Settling.{Closes, closes_leave, run_closes}
use Rattle.semantics.proofs.Cases.{and_first, and_second, or_first, or_second}
use Rattle.semantics.proofs.Counts.{roots, roots_alike}
use Rattle.validity.proofs.Closing.{after_els}
use Rattle.validity.proofs.Calls.{ValidMachine, step_valid}
use Rattle.history.proofs.Relation.{Equivalence, Respects, says_image, image_says}
use Rattle.history.proofs.Elements.{HoldsOfBook, Named, pair_more, app_more, neither_obeys}
use Rattle.history.proofs.Counts.{roots_added, added_length, added_root}
use Rattle.history.proofs.Drain.{Unmarked}
use Rattle.history.proofs.Functionality.{found_agrees, found_says}
use Rattle.history.proofs.Passes.{HoldsOfCore, roots_below, Ready}
use Rattle.history.proofs.Closing.{ClosedSoundly, unmet, closed_step, run_soundly}

-- the book tied to a core and its applications
pub record Tied (b : Book) (w : Core) (xs : List FuncApp) : Type 1 where
  pub ready : Ready (elements b) (roots w.links) w xs
  pub small : elements b ≤ max_els
  -- elements are roots and merges
  pub sum : roots w.links + b.merges ≡ elements b
  -- a closed set that has what the book has agrees with the structure
  pub on : (R : ℕ → ℕ → Type 0) (S : FuncApp → Type 0) → Equivalence R → Respects R S → All (Obeys S) b.sig.models → HoldsOfBook R S b
      → HoldsOfCore R S w xs
  -- and conversely, where the laws do not matter
  pub back : (R : ℕ → ℕ → Type 0) (S : FuncApp → Type 0) → Equivalence R → Respects R S → HoldsOfCore R S w xs → HoldsOfBook R S b

-- where no application of the book is one of id or comp, none that is stored is
pub neither_stored : (b : Book) (w : Core) (xs : List FuncApp) → Tied b w xs → AppliesNeither b → All (NoOperation b.sig.models) xs
unfolding AppliesNeither
neither_stored b w xs g neither =
    let ms = b.sig.models in
    (g.on (λ x y. Unit {0}) (NoOperation ms) (record { same = λ x. tt; flip = λ e. tt; trans = λ e f. tt })
    (record { alike = λ x y m r e. subst (λ (f : ℕ). is_id_or_comp f ms ≡ false) m.func e; agree = λ x y m e f. tt })
    (neither_obeys ms (NoOperation ms) (λ x e. e))
    (all_of (λ p. tt) b.equalities, neither)
    ).apps

abbrev pub TiedTo : Book → Structure → Type 1
TiedTo b s = Tied b (core_at_start s) s.func_apps

-- other links and marks, with the same roots: no partition tells them apart
alike_holds : (R : ℕ → ℕ → Type 0) (S : FuncApp → Type 0) (w : Core) (xs : List FuncApp) (ks : List ℕ) (ms : List Bool) → ((x : ℕ) → root_of ks x ≡ root_of w.links x)
    → HoldsOfCore R S w xs ↔ HoldsOfCore R S (with_links ks (with_marks ms w)) xs
alike_holds R S w xs ks ms same = (
  λ a. record { rooted = λ x. subst (λ z. R z x) (sym (same x)) (a.rooted x); pairs = a.pairs; apps = a.apps },
  λ a. record { rooted = λ x. subst (λ z. R z x) (same x) (a.rooted x); pairs = a.pairs; apps = a.apps },
)

-- Links shortened: no root alters.

relinked : (b : Book) (w : Core) (xs : List FuncApp) (e : ℕ) → Tied b w xs → e < elements b → Tied b (with_links (short_of w.links e) w) xs
relinked b w xs e g h =
    let f = g.ready.kept.formed in
    let at : e < length w.links = omega (arith, g.ready.kept.long) in
    let same = short_root w.links e at f in
    let long = short_length w.links e in
    let count = roots_alike w.links (short_of w.links e) long same in
    record {
      ready = record {
        kept = record { formed = short_formed w.links e f; long = long ∙ g.ready.kept.long; sum = omega (arith, g.ready.kept.sum) };
        pairs = g.ready.pairs;
        args = g.ready.args;
        results = g.ready.results;
        plain = g.ready.plain;
      };
      small = g.small;
      sum = omega (arith, count, g.sum);
      on = λ R S q law o f. (alike_holds R S w xs (short_of w.links e) w.marks same).0 (g.on R S q law o f);
      back = λ R S q law f. g.back R S q law ((alike_holds R S w xs (short_of w.links e) w.marks same).1 f);
    }

-- A pair queued by `equate`, where a partition holds of the book b' exactly when it holds of b and puts the pair together.

module _ (b b' : Book) (w : Core) (xs : List FuncApp) (x y : ℕ) (g : Tied b w xs) (hx : x < elements b) (hy : y < elements b)
    (many : elements b' ≡ elements b) (merged : b'.merges ≡ b.merges)
    (signed : b'.sig ≡ b.sig)
    (splits : (R : ℕ → ℕ → Type 0) (S : FuncApp → Type 0) → Equivalence R → Respects R S → All (Obeys S) b.sig.models → HoldsOfBook R S b' → HoldsOfBook R S b × R x y)
    (joins : (R : ℕ → ℕ → Type 0) (S : FuncApp → Type 0) → Equivalence R → Respects R S → HoldsOfCore R S w xs → HoldsOfBook R S b → R x y → HoldsOfBook R S b') where
  queued : Tied b' (with_links (short_of (short_of w.links x) y) (with_pairs (pair x y ∷ w.pairs) w)) xs
  queued =
      let v = with_links (short_of (short_of w.links x) y) (with_pairs (pair x y ∷ w.pairs) w) in
      let w₁ = with_links (short_of w.links x) w in
      let g₁ = relinked b w xs x g hx in
      let g₂ = relinked b w₁ xs y g₁ hy in
      let same : (e : ℕ) → root_of v.links e ≡ root_of w.links e = λ e.
      short_root w₁.links y (omega (arith, g₁.ready.kept.long)) g₁.ready.kept.formed e
      ∙ short_root w.links x (omega (arith, g.ready.kept.long)) g.ready.kept.formed e in
      record {
        ready = subst (λ n. Ready n (roots v.links) v xs) (sym many) (record {
          kept = record { formed = g₂.ready.kept.formed; long = g₂.ready.kept.long; sum = g₂.ready.kept.sum };
          pairs = ((hx, hy), g.ready.pairs);
          args = g.ready.args;
          results = g.ready.results;
          plain = g.ready.plain;
        });
        small = omega (arith, g.small);
        sum = omega (arith, g₂.sum);
        on = λ R S q law o f.
            let p = subst (λ (g : Sig). All (Obeys S) g.models) signed o in
            let z = splits R S q law p f in
            let a = g₂.on R S q law p z.0 in
            record { rooted = a.rooted; pairs = (z.1, a.pairs); apps = a.apps };
        back = λ R S q law f.
            let a = (alike_holds R S w xs v.links w.marks same).1 (record { rooted = f.rooted; pairs = f.pairs.1; apps = f.apps }) in
            joins R S q law a (g.back R S q law a) f.pairs.0;
      }

-- Kind 7.
equality_tied : (b : Book) (w : Core) (xs : List FuncApp) (x y : ℕ) → Tied b w xs → x < elements b → y < elements b
    → Tied (taken (equate_els x y) 0 b) (with_links (short_of (short_of w.links x) y) (with_pairs (pair x y ∷ w.pairs) w)) xs
unfolding taken
equality_tied b w xs x y g hx hy =
    queued b (taken (equate_els x y) 0 b) w xs x y g hx hy refl refl refl (λ R S q law o f. ((f.0.1, f.1), f.0.0))
    (λ R S q law a f z. ((z, f.0), f.1))

-- Kind 6.

push_unmarked : (l : List Bool) → Unmarked l → Unmarked (l ++ (false ∷ []))
push_unmarked l u e =
    ⊎_elim (λ (h : e < length l). get_or-append l (false ∷ []) false e h ∙ u e)
    (λ (h : length l ≤ e).
    ⊎_elim (λ (q : e ≡ length l). rw q (get_or-append_seam l false [] false))
    (λ (q : e ≢ length l). get_or-eq_default (l ++ (false ∷ [])) false (simp length-append (omega arith))) (same_or e (length l)))
    (less_or e (length l))

element_tied : (b : Book) (w : Core) (xs : List FuncApp) (mark : Bool) → Tied b w xs → elements b < max_els → mark ≡ false
    → Tied (taken (push_el mark) 0 b) (with_links (added_of w.links) (with_marks (w.marks ++ (mark ∷ [])) w)) xs
unfolding taken
element_tied b w xs mark g h e =
    let room : length w.links < max_els = omega (arith, h, g.ready.kept.long) in
    let long = added_length w.links room in
    let more = length_push b.marks mark in
    let count = roots_added w.links room in
    let same = added_root w.links room in
    record {
      ready = record {
        kept = record {
          formed = added_formed w.links g.ready.kept.formed;
          long = omega (arith, long, more, g.ready.kept.long);
          sum = omega (arith, g.ready.kept.sum);
        };
        pairs = all_map (λ p i. (omega (arith, more, i.0), omega (arith, more, i.1))) w.pairs g.ready.pairs;
        args = all_map (λ x i. all_map (λ e (l : e < elements b). omega (arith, more, l)) x.args i) xs g.ready.args;
        results = all_map (λ x i. omega (arith, more, i)) xs g.ready.results;
        plain = subst (λ m. Unmarked (w.marks ++ (m ∷ []))) (sym e) (push_unmarked w.marks g.ready.plain);
      };
      small = omega (arith, more, h);
      sum = omega (arith, more, count, g.sum);
      on = λ R S q law o f. (alike_holds R S w xs (added_of w.links) (w.marks ++ (mark ∷ [])) same).0 (g.on R S q law o f);
      back = λ R S q law f. g.back R S q law ((alike_holds R S w xs (added_of w.links) (w.marks ++ (mark ∷ [])) same).1 f);
    }

-- Kind 9.

module _ (b : Book) (w : Core) (xs : List FuncApp) (x : FuncApp) (g : Tied b w xs) (hargs : Below (elements b) x.args) (hx : x.result < elements b) where
  abbrev y : FuncApp
  y = canonical_func_app w.links x

  y_inside : y.result < elements b
  unfolding canonical_func_app
  y_inside = omega (arith, root_le w.links x.result)

  y_args : Below (elements b) y.args
  unfolding canonical_func_app
  y_args = roots_below (elements b) w.links x.args hargs

  abbrev b' : Book
  b' = taken (apply_func x) 0 b

  image_from_book : (R : ℕ → ℕ → Type 0) (S : FuncApp → Type 0) → Equivalence R → Respects R S → All (Obeys S) b.sig.models → HoldsOfBook R S b'
      → HoldsOfBook R S b × S y
  unfolding taken
  image_from_book R S q law o f =
      let t : HoldsOfBook R S b = (f.0, f.1.1) in (t, says_image R q S law w.links (g.on R S q law o t).rooted x f.1.0)

  book_from_image : (R : ℕ → ℕ → Type 0) (S : FuncApp → Type 0) → Equivalence R → Respects R S → HoldsOfCore R S w xs → HoldsOfBook R S b → S y → HoldsOfBook R S b'
  unfolding taken
  book_from_image R S q law a f h = (f.0, (image_says R q S law w.links a.rooted x h, f.1))

  abbrev TiedBy : Applied → Type 1
  TiedBy a = Tied b' (with_links a.links (with_pairs a.pairs w)) a.apps

  key_new : lookup_of compare_func_app y xs ≡ none → Tied b' w (placed compare_func_app y xs)
  unfolding taken
  key_new e = record {
    ready = record {
      kept = g.ready.kept;
      pairs = g.ready.pairs;
      args = placed_all compare_func_app y (λ z. Below (elements b) z.args) xs y_args g.ready.args;
      results = placed_all compare_func_app y (λ z. z.result < elements b) xs y_inside g.ready.results;
      plain = g.ready.plain;
    };
    small = g.small;
    sum = g.sum;
    on = λ R S q law o f.
        let z = image_from_book R S q law o f in
        let a = g.on R S q law o z.0 in
        record { rooted = a.rooted; pairs = a.pairs; apps = placed_all compare_func_app y S xs z.1 a.apps };
    back = λ R S q law f.
        let a : HoldsOfCore R S w xs = record { rooted = f.rooted; pairs = f.pairs; apps = placed_rest compare_func_app y S xs f.apps } in
        book_from_image R S q law a (g.back R S q law a) (placed_own compare_func_app y S xs (lookup_none compare_func_app y xs e) f.apps);
  }

  result_same : (z : FuncApp) → lookup_of compare_func_app y xs ≡ some z → z.result ≡ y.result → Tied b' w xs
  unfolding taken
  result_same z e r = record {
    ready = g.ready;
    small = g.small;
    sum = g.sum;
    on = λ R S q law o f. g.on R S q law o (image_from_book R S q law o f).0;
    back = λ R S q law f.
        book_from_image R S q law f (g.back R S q law f) (found_says R S q law y z xs f.apps e (subst (R z.result) r (q.same z.result)));
  }

  result_other : (z : FuncApp) → lookup_of compare_func_app y xs ≡ some z
      → Tied b' (with_links (short_of (short_of w.links z.result) y.result) (with_pairs (pair z.result y.result ∷ w.pairs) w)) xs
  unfolding taken
  result_other z e =
      queued b b' w xs z.result y.result g
      (all_at (λ v. v.result < elements b) xs g.ready.results z (lookup_sound compare_func_app y xs e).0) y_inside refl refl refl
      (λ R S q law o f.
      let t = image_from_book R S q law o f in (t.0, found_agrees R S q law y z xs (g.on R S q law o t.0).apps e t.1))
      (λ R S q law a f h. book_from_image R S q law a f (found_says R S q law y z xs a.apps e h))

  application_tied : TiedBy (insert_func_app_or_equate x w.links w.pairs xs)
  unfolding insert_func_app_or_equate apply_at applied_equal equate
  application_tied = go (lookup_of compare_func_app y xs) refl
    where
      by : (z : FuncApp) → lookup_of compare_func_app y xs ≡ some z → (t : Bool) → eqb z.result y.result ≡ t → TiedBy (elim t [
        | true ↦ applied w.links w.pairs xs false false
        | false ↦ applied_equal (equate w.links w.pairs z.result y.result) w.pairs xs
      ])
      by z e true r = result_same z e (eqb-true z.result y.result r)
      by z e false r = result_other z e

      go : (o : Option FuncApp) → lookup_of compare_func_app y xs ≡ o → TiedBy (apply_at o y w.links w.pairs xs)
      go none e = key_new e
      go (some z) e = by z e (eqb z.result y.result) refl

-- it leaves as many links
module _ (x : FuncApp) (ls : List ℕ) (ps : List Pair) (xs : List FuncApp) where
  abbrev AsLong : Applied → Type 0
  AsLong a = length a.links ≡ length ls

  applied_length : AsLong (insert_func_app_or_equate x ls ps xs)
  unfolding insert_func_app_or_equate apply_at applied_equal equate
  applied_length = go (lookup_of compare_func_app y xs)
    where
      y : FuncApp
      y = canonical_func_app ls x

      by : (z : FuncApp) (t : Bool) → AsLong (elim t [
        | true ↦ applied ls ps xs false false
        | false ↦ applied_equal (equate ls ps z.result y.result) ps xs
      ])
      by z true = refl
      by z false = short_length (short_of ls z.result) y.result ∙ short_length ls z.result

      go : (o : Option FuncApp) → AsLong (apply_at o y ls ps xs)
      go none = refl
      go (some z) = by z (eqb z.result y.result)

-- Kind 13.

module _ (b : Book) (m : Machine) (v : ValidMachine m) where
  abbrev run : CloseRun
  run = close_run m.sig m.structure

  pub close_soundly : TiedTo b m.structure → run.core.met ≡ none
      → ClosedSoundly m.sig (elements b) (roots m.structure.links) m.structure (after_close run m.structure) (report_of run)
  unfolding fuel core_at_start
  close_soundly g =
      run_soundly (elements b) (roots m.structure.links) m.sig m.structure v g.ready (omega (arith, g.sum, g.small))

  close_tied : b.sig ≡ m.sig → TiedTo b m.structure → run.core.met ≡ none → TiedTo (taken close (report_of run).merges b) (after_close run m.structure)
  unfolding taken core_at_start
  close_tied same g met =
      let z = close_soundly g met in
      record {
        ready = z.ready;
        small = g.small;
        sum = omega (arith, z.sum, g.sum);
        on = λ R S q law o f. z.sound.on R S q law (subst (λ (g : Sig). All (Obeys S) g.models) same o) (g.on R S q law o f);
        back = λ R S q law f. g.back R S q law (z.sound.back R S q law f);
      }

-- Every call.

unmarked_last : (l : List Bool) (m : Bool) → any_marked (l ++ (m ∷ [])) ≡ false → (any_marked l ≡ false) × (m ≡ false)
unfolding any_marked
unmarked_last [] m e = (refl, or_first m false e)
unmarked_last (x ∷ xs) m e = let h = unmarked_last xs m (or_second x _ e) in (or_neither (or_first x _ e) h.0, h.1)

-- What holds of the book at each moment, marks or not.
pub record Agreeing (b : Book) (g : Sig) (w : Core) (xs : List FuncApp) : Type 1 where
  -- its signature is the one that the calls made
  pub sig : b.sig ≡ g
  -- there are as many links as elements
  pub long : length w.links ≡ elements b
  -- it names no others
  pub named : Named b
  -- with no element marked, it is tied to the structure
  pub tied : any_marked b.marks ≡ false → Tied b w xs

abbrev pub AgreesWith : Book → Machine → Type 1
AgreesWith b m = Agreeing b m.sig (core_at_start m.structure) m.structure.func_apps

-- A close, and some one after the other.

module _ (m : Machine) (b : Book) (v : ValidMachine m) (g : AgreesWith b m) where
  abbrev c : CloseRun
  c = close_run m.sig m.structure

  close_agrees : c.core.met ≡ none → AgreesWith (taken close (report_of c).merges b) (machine m.sig (after_close c m.structure))
  unfolding core_at_start taken
  close_agrees met = record {
    sig = g.sig;
    long = after_els m.sig m.structure v ∙ g.long;
    named = record { equalities = g.named.equalities; apps = g.named.apps };
    tied = λ u. close_tied b m v g.sig (g.tied u) met;
  }

  closed_agrees : (a : Closed) → (step close m).answer ≡ closed a → AgreesWith (taken close a.merges b) (step close m).after
  unfolding core_at_start leaves
  closed_agrees a e =
      let q = closed_step m a e in
      subst (λ (z : Machine). AgreesWith (taken close a.merges b) z) (sym q.after)
      (subst (λ (x : Closed). AgreesWith (taken close x.merges b) (machine m.sig (after_close c m.structure))) (sym q.answer)
      (close_agrees q.met))

-- a settle is its closes, and the book takes their merges
closes_agree : (cs : List Closed) (m z : Machine) (b : Book) → ValidMachine m → AgreesWith b m → Closes m cs z
    → AgreesWith (taken settle (merges_in cs) b) z
unfolding merges_in taken
closes_agree [] m z b v g h =
    subst (λ (n : ℕ). AgreesWith (with_merges n b) z) (omega arith) (subst (AgreesWith b) h g)
closes_agree (c ∷ cs) m z b v g h =
    subst (λ (n : ℕ). AgreesWith (with_merges n b) z) (omega arith)
    (closes_agree cs (step close m).after z (taken close c.merges b) (step_valid close m v) (closed_agrees m b v g c h.0) h.1)

module _ (m : Machine) (b : Book) (v : ValidMachine m) (g : AgreesWith b m) where
  abbrev s : Structure
  s = m.structure

  abbrev ls : List ℕ
  ls = m.structure.links

  -- another structure
  abbrev at : Structure → Machine
  at = machine m.sig

  -- an element that is declared is one of the book's
  declared : (e : ℕ) → is_el s e ≡ true → e < elements b
  unfolding core_at_start
  declared e t = omega (arith, ltb-true e (length ls) t, g.long)

  all_declared : (es : List ℕ) → are_els s es ≡ true → Below (elements b) es
  unfolding core_at_start
  all_declared es t = subst (λ n. Below n es) g.long (below_if (length ls) es t)

  -- Where no cause applies, what the book takes agrees with the effect.

  el_agrees : (mark : Bool) → NoneApplies (el_causes s) → AgreesWith (taken (push_el mark) 0 b) (at (with_el mark s))
  unfolding el_causes with_el core_at_start taken
  el_agrees mark clear =
      let more = length_push b.marks mark in
      let room = leb-false max_els (length ls) clear.0 in
      record {
        sig = g.sig;
        long = omega (arith, added_length ls room, more, g.long);
        named = record {
          equalities = all_map (pair_more (elements b) _ (omega (arith, more))) b.equalities g.named.equalities;
          apps = all_map (app_more (elements b) _ (omega (arith, more))) b.apps g.named.apps;
        };
        tied = λ e.
            let u = unmarked_last b.marks mark e in
            element_tied b (core_at_start s) s.func_apps mark (g.tied u.0) (omega (arith, room, g.long)) u.1;
      }

  equality_agrees : (x y : ℕ) → NoneApplies (equality_causes s x y)
      → AgreesWith (taken (equate_els x y) 0 b) (at (with_equality (equate ls s.pairs x y) s))
  unfolding equality_causes with_equality equate core_at_start taken
  equality_agrees x y clear =
      let a = not-false (is_el s x && is_el s y) clear.0 in
      let hx = declared x (and_first (is_el s x) (is_el s y) a) in
      let hy = declared y (and_second (is_el s x) (is_el s y) a) in
      record {
        sig = g.sig;
        long = short_length (short_of ls x) y ∙ short_length ls x ∙ g.long;
        named = record { equalities = (record { lhs = hx; rhs = hy }, g.named.equalities); apps = g.named.apps };
        tied = λ e. equality_tied b (core_at_start s) s.func_apps x y (g.tied e) hx hy;
      }

  imposition_agrees : (queued : Bool) (f : Fact) → AgreesWith b (at (with_imposition queued f s))
  unfolding with_imposition core_at_start
  imposition_agrees true f = g
  imposition_agrees false f = g

  application_agrees : (x : FuncApp) → NoneApplies (application_causes m.sig s x)
      → AgreesWith (taken (apply_func x) 0 b) (at (with_applied (applied_to s x) s))
  unfolding application_causes with_applied core_at_start taken
  application_agrees x clear =
      let o = is_func m.sig x.func in
      let p = are_els s x.parents in
      let q = are_els s x.args in
      let r = is_el s x.result in
      let a = and_second o (p && (q && r)) (not-false (o && (p && (q && r))) clear.1.0) in
      let c = and_second p (q && r) a in
      let hx = declared x.result (and_second q r c) in
      let hargs = all_declared x.args (and_first q r c) in
      record {
        sig = g.sig;
        long = applied_length x ls s.pairs s.func_apps ∙ g.long;
        named = record {
          equalities = g.named.equalities;
          apps = (
            record { parents = all_declared x.parents (and_first p (q && r) a); args = hargs; result = hx },
            g.named.apps,
          );
        };
        tied = λ e. application_tied b (core_at_start s) s.func_apps x (g.tied e) hargs hx;
      }

  root_agrees : (e : ℕ) → NoneApplies (find_causes ls e) → AgreesWith b (at (structure.with_links (short_of ls e) s))
  unfolding find_causes core_at_start
  root_agrees e clear = record {
    sig = g.sig;
    long = short_length ls e ∙ g.long;
    named = g.named;
    tied = λ u. relinked b (core_at_start s) s.func_apps e (g.tied u) (omega (arith, leb-false (length ls) e clear.0, g.long));
  }

  -- kinds 1 to 5: both signatures grow alike, and a claim that obeys the laws of all models obeys those of fewer
  declared_agrees : (h : Sig) → (i : Sig) → h ≡ i → ((S : FuncApp → Type 0) → All (Obeys S) h.models → All (Obeys S) b.sig.models)
      → AgreesWith (with_sig h b) (machine i s)
  unfolding core_at_start
  declared_agrees h i same fewer = record {
    sig = same;
    long = g.long;
    named = record { equalities = g.named.equalities; apps = g.named.apps };
    tied = λ e.
        let t = g.tied e in
        record { ready = t.ready; small = t.small; sum = t.sum; on = λ R S q law o f. t.on R S q law (fewer S o) f; back = t.back };
  }

  effect_agrees : (k : Call) → NoneApplies (rule k m).causes → AgreesWith (taken k (merges_of (rule k m).answer) b) (rule k m).after
  unfolding rule equality_rule imposition_rule application_rule close_rule settle_rule sums_of with_pred_app with_var with_ambient taken merges_of core_at_start with_type with_pred with_func with_model with_mor_app with_types with_preds with_funcs with_models with_mor_apps
  effect_agrees (push_type t) clear = declared_agrees _ _ (ap (λ (h : Sig). with_type h t) g.sig) (λ S o. o)
  effect_agrees (push_pred p) clear = declared_agrees _ _ (ap (λ (h : Sig). with_pred h p) g.sig) (λ S o. o)
  effect_agrees (push_func f) clear = declared_agrees _ _ (ap (λ (h : Sig). with_func h f) g.sig) (λ S o. o)
  effect_agrees (push_model x) clear = declared_agrees _ _ (ap (λ (h : Sig). with_model h x) g.sig) (λ S o. all_left (Obeys S) b.sig.models (x ∷ []) o)
  effect_agrees (push_mor_app x) clear = declared_agrees _ _ (ap (λ (h : Sig). with_mor_app h x) g.sig) (λ S o. o)
  effect_agrees (push_el mark) clear = el_agrees mark clear
  effect_agrees (equate_els x y) clear = equality_agrees x y clear
  effect_agrees (impose_type f) clear = imposition_agrees _ _
  effect_agrees (apply_func x) clear = application_agrees x clear
  effect_agrees (apply_pred x) clear = g
  effect_agrees (bind_var x) clear = g
  effect_agrees (bind_ambient a) clear = g
  effect_agrees close clear = close_agrees m b v g (unmet _ clear)
  effect_agrees type_conflicts clear = g
  effect_agrees settle clear = closes_agree _ m (closes_leave m) b v g (run_closes m)
  effect_agrees (root e) clear = root_agrees e clear
  effect_agrees (root_const e) clear = g
  effect_agrees (lookup_type t ps) clear = g
  effect_agrees (ambient_parents ts) clear = g

  abbrev pub FedAgrees : Call → Step → Type 1
  FedAgrees k t = AgreesWith (fed k (is_accepted t.answer) (merges_of t.answer) b) t.after

  -- every call keeps this: a refusal leaves the book and the structure, and the flags of an acceptance do not bear on it
  pub fed_agrees : (k : Call) → FedAgrees k (step k m)
  fed_agrees k =
      step_by_lem k m (FedAgrees k) (λ n q. unfold fed is_accepted in g)
      (λ clear.
      unfold acceptance leaves core_at_start fed in
      subst (λ (t : Bool). AgreesWith (fed k t (merges_of (rule k m).answer) b) (rule k m).after) (sym (effect_accepted k m))
      (effect_agrees k clear))
