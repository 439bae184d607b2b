-- The passes of a round: the laws of each in one record, and of a list of them by recursion.
use mathlib.Core.Path.{◌≡◌, refl, sym, subst, subst₂, ap, ap₂, ◌∙◌}
use mathlib.Core.Logic.{◌⊎◌, ◌↔◌, inl, inr}
use mathlib.Core.Bool.{Bool, true, false, ◌||◌, or-false}
use mathlib.Core.List.{List, [], ◌∷◌, map}
use mathlib.Core.Option.{none}
use Prim.Native.Nat.{ℕ, ◌+◌, ◌≤◌, ◌<◌}
use native.Mathlib.Omega.{arith}
use native.Mathlib.Nat.{le_refl, le_trans}
use lib.ListN.{length}
use lib.Dec.{ltb}
use borrow.Author.Tests.{le-ltb, ltb-false}
use Rattle.ids.proofs.Sorted.{All, all_of, all_at, all_both, all_map, all_image, Sorted, no_test, lookup_sound, placed_all, placed_rest, placed_sorted}
use Rattle.unification.specs.Roots.{root_of, Formed}
use Rattle.unification.proofs.Laws.{root_le, root_root}
use Rattle.signature.specs.Model.{Sig, ModelM}
use Rattle.semantics.specs.Structure.{Fact, FuncApp, func_app, PredApp, Pair, compare_func_app, canonical_func_app}
use Rattle.semantics.specs.Types as types
use Rattle.semantics.specs.Types.{Core, drain, impose_all, grew}
use Rattle.semantics.specs.Close.{Rewritten, rewriting, enter_all, demands, Turn, turn, reports, drained, drain_pass, rewrote, functionality_pass, typed}
use Rattle.semantics.specs.MapLaws.{MapLaw, application, equation, map_laws}
use Rattle.semantics.specs.Close.{typing_pass, apply_turn, obey_all, operation_pass, Pass, passes, run_passes, round}
use Rattle.semantics.specs.Valid.{Below}
use Rattle.semantics.proofs.Cases.{or_first, or_second}
use Rattle.semantics.proofs.Counts.{roots}
use Rattle.semantics.proofs.Functionality.{enter_all_all, enter_all_sorted, enter_all_pairs, enter_all_none}
use Rattle.semantics.proofs.Operations.{rooted_in, obey_all_keeps, NoOperation, laws_none, operations_none}
use Rattle.semantics.proofs.Orders.{func_app_ordered}
use Rattle.semantics.proofs.Queues.{drain_pairs_lem, fresh}
use Rattle.semantics.proofs.Stages.{Stage, Along}
use Rattle.validity.proofs.Drain.{TwoRoots, drain_merges}
use Rattle.history.specs.Book.{Meet}
use Rattle.history.specs.MapLaws.{Obeys}
use Rattle.history.proofs.Relation.{Equivalence, Rooted, Respects, together_same, together_one, meet_flip, says_image}
use Rattle.history.proofs.Drain.{RootsAndMerges, HoldsOfPair, Inside, Unmarked, Joined, drain_law, drain_counted, WithinClass, drain_same}
use Rattle.history.proofs.Drain.{drain_within}
use Rattle.semantics.proofs.Canonical.{Canon, canon_image, entered, entered_same, entered_again}
use Rattle.history.proofs.Functionality.{found_agrees, enter_all_on, enter_all_back}
use Rattle.history.proofs.Operations.{laws_all, Keeps, laws_kept, Held, laws_over_roots}
use Rattle.history.proofs.Obeying.{AllCanon, canon_cases, obey_all_more, laws_same, laws_unworked, Serves, obey_all_serves, Steady, apply_steady}
use Rattle.history.proofs.Obeying.{obey_all_rest}
use Rattle.history.proofs.Imposing.{OnlyFactsGrew, plain_grown, unmarked_inserts, impose_inserts, impose_all_counts, impose_all_still, impose_all_same}
use Rattle.history.proofs.Unjoined.{Safe, imposed_safe, safe_idle, safe_moved}

-- what a partition and a claim on applications say of what a round works on
pub record HoldsOfCore (R : ℕ → ℕ → Type 0) (S : FuncApp → Type 0) (w : Core) (xs : List FuncApp) : Type 0 where
  pub rooted : Rooted R w.links
  pub pairs : All (HoldsOfPair R) w.pairs
  pub apps : All S xs

-- roots of elements are elements
pub roots_below : (n : ℕ) (ls es : List ℕ) → Below n es → Below n (map (root_of ls) es)
roots_below n ls es h = all_image (λ e. e < n) (root_of ls) es (all_map (λ e l. omega (arith, root_le ls e, l)) es h)

-- n elements, so many of them roots or merged, and none marked
pub record Ready (n total : ℕ) (w : Core) (xs : List FuncApp) : Type 0 where
  pub kept : RootsAndMerges n total w
  pub pairs : All (Inside n) w.pairs
  pub args : All (λ x. Below n x.args) xs
  pub results : All (λ x. x.result < n) xs
  pub plain : Unmarked w.marks

-- what every partition that agrees with the one agrees with the other, in both directions; from the first to the second where the claim on
-- applications obeys the laws of these models
pub record Sound (ms : List ModelM) (w : Core) (xs : List FuncApp) (v : Core) (ys : List FuncApp) : Type 1 where
  pub on : (R : ℕ → ℕ → Type 0) (S : FuncApp → Type 0) → Equivalence R → Respects R S → All (Obeys S) ms → HoldsOfCore R S w xs → HoldsOfCore R S v ys
  pub back : (R : ℕ → ℕ → Type 0) (S : FuncApp → Type 0) → Equivalence R → Respects R S → HoldsOfCore R S v ys → HoldsOfCore R S w xs

-- from one core and its applications to another
pub record Passed (ms : List ModelM) (n total : ℕ) (w : Core) (xs : List FuncApp) (v : Core) (ys : List FuncApp) : Type 1 where
  pub ready : Ready n total v ys
  pub sound : Sound ms w xs v ys

-- imposing what the applications of r and the predicate applications demand does nothing
abbrev pub DemandsSafe : Sig → List PredApp → Core → Rewritten → Type 0
DemandsSafe g preds w r = All (Safe w.links w.marks w.facts) (demands g r.apps preds)

-- the laws of the applications of r are held
abbrev pub LawsHeld : Sig → List ℕ → Rewritten → Type 0
LawsHeld g ls r = All (Held ls r.apps) (map_laws g.models r.apps)

-- nothing was done and nothing remains to do, marks or not: pairs wait only within one class, no key has two results once the applications are rewritten,
-- what these demand is stored, and their laws are held
pub record NoWork (g : Sig) (preds : List PredApp) (t : Turn) : Type 0 where
  pub unworked : t.worked ≡ false
  pub unmet : t.core.met ≡ none
  pub joined : All (WithinClass t.core.links) t.core.pairs
  pub agree : (entered t.core.links t.apps).queued ≡ false
  pub safe : DemandsSafe g preds t.core (entered t.core.links t.apps)
  pub held : LawsHeld g t.core.links (entered t.core.links t.apps)

-- where the applications are rewritten already
pub canonical_no_work : (g : Sig) (preds : List PredApp) (w : Core) (xs : List FuncApp) → w.met ≡ none → All (WithinClass w.links) w.pairs
    → Sorted compare_func_app xs → All (Canon w.links) xs → All (Safe w.links w.marks w.facts) (demands g xs preds)
    → All (Held w.links xs) (map_laws g.models xs) → NoWork g preds (turn w xs false)
canonical_no_work g preds w xs m joined sorted canon safe held =
    let own = entered_same w.links xs sorted canon in
    record {
      unworked = refl;
      unmet = m;
      joined = joined;
      agree = ap (λ (r : Rewritten). r.queued) own;
      safe = subst (DemandsSafe g preds w) (sym own) safe;
      held = subst (LawsHeld g w.links) (sym own) held;
    }

-- from t to u nothing is done, but that the queue may be dropped and the applications rewritten
pub record OnlyTidied (g : Sig) (preds : List PredApp) (t u : Turn) : Type 0 where
  pub pairs : List Pair
  pub apps : List FuncApp
  pub is : u ≡ turn (types.with_pairs pairs t.core) apps t.worked
  pub no_work : NoWork g preds u
  -- no pair is queued, and applications that are rewritten already stay
  pub none : t.core.pairs ≡ [] → pairs ≡ []
  pub same : Sorted compare_func_app t.apps → All (Canon t.core.links) t.apps → apps ≡ t.apps

tidied_then : {g : Sig} {preds : List PredApp} (t u v : Turn) → OnlyTidied g preds t u → OnlyTidied g preds u v → OnlyTidied g preds t v
tidied_then {g} {preds} t u v a =
    subst (λ (x : Turn). OnlyTidied g preds x v → OnlyTidied g preds t v) (sym a.is)
    (λ b. record {
      pairs = b.pairs;
      apps = b.apps;
      is = b.is;
      no_work = b.no_work;
      none = λ e. b.none (a.none e);
      same = λ s c.
          let e = a.same s c in
          b.same (subst (Sorted compare_func_app) (sym e) s) (subst (All (Canon t.core.links)) (sym e) c) ∙ e;
    })

-- The stages of a round that begins with the core w.

abbrev pub BeginsWith : Core → Stage
BeginsWith w t = t.core ≡ w

-- a pair of two roots that waited was merged
abbrev pub Merges : Core → Stage
Merges w t = (p : Pair) (ps : List Pair) → w.pairs ≡ p ∷ ps → TwoRoots w.links p → w.merges < t.core.merges

pub record AfterDrain (w : Core) (t : Turn) : Type 0 where
  pub merges : Merges w t
  pub none : t.core.pairs ≡ []

-- the table is rewritten, and a pair that was queued has two roots
pub record AfterFunctionality (w : Core) (t : Turn) : Type 0 where
  pub merges : Merges w t
  pub sorted : Sorted compare_func_app t.apps
  pub canon : All (Canon t.core.links) t.apps
  pub apart : All (TwoRoots t.core.links) t.core.pairs
  pub idle : t.worked ≡ false → t.core.pairs ≡ []

-- and what is demanded is stored unless a number was met, so that to impose it again does nothing
pub record AfterTyping (g : Sig) (preds : List PredApp) (w : Core) (t : Turn) : Type 0 where
  pub table : AfterFunctionality w t
  pub safe : t.core.met ≡ none → All (Safe t.core.links t.core.marks t.core.facts) (demands g t.apps preds)

-- no work is reported, or no application is one of id or comp: then the pass of identities and composites added nothing
abbrev pub AddedNone : Sig → Turn → Type 0
AddedNone g t = (t.worked ≡ false) ⊎ All (NoOperation g.models) t.apps

-- after the round this is so where that pass added nothing, and then the laws are held
pub record RoundDone (g : Sig) (preds : List PredApp) (w : Core) (t : Turn) : Type 0 where
  pub table : AfterFunctionality w t
  pub safe : AddedNone g t → t.core.met ≡ none → All (Safe t.core.links t.core.marks t.core.facts) (demands g t.apps preds)
  pub held : AddedNone g t → t.core.met ≡ none → All (Held t.core.links t.apps) (map_laws g.models t.apps)

-- The laws of a pass that leads from one stage to another.
module _ (g : Sig) (preds : List PredApp) where
  -- imposing merges nothing, since no element is marked or since the pass merges nothing
  abbrev pub Quiet : Pass → Turn → Type 0
  Quiet p t = Unmarked t.core.marks ⊎ ((p g preds t).core.merges ≡ t.core.merges)

  pub record Lawful (p : Pass) (A B : Stage) : Type 1 where
    -- where no element is marked, the classes are as sound as they were
    pub passed : (n total : ℕ) (t : Turn) → A t → Ready n total t.core t.apps
        → Passed g.models n total t.core t.apps (p g preds t).core (p g preds t).apps
    pub leads : (t : Turn) → Quiet p t → A t → B (p g preds t)
    -- where nothing remains to do it does nothing, and says so; pairs within one class may be dropped, and applications rewritten
    pub idle : (t : Turn) → A t → NoWork g preds t → OnlyTidied g preds t (p g preds t)
    -- conversely, where nothing was done and nothing remains to do after it, nothing remained before it
    pub was_idle : (t : Turn) → A t → NoWork g preds (p g preds t) → NoWork g preds t
    -- merges only add up
    pub more : (t : Turn) → t.core.merges ≤ (p g preds t).core.merges
    -- where no application is one of id or comp, none is after it
    pub neither : (t : Turn) → All (NoOperation g.models) t.apps → All (NoOperation g.models) (p g preds t).apps
    -- where no work is reported after it, none was before it and it merged nothing
    pub unworked : (t : Turn) → (p g preds t).worked ≡ false → (t.worked ≡ false) × ((p g preds t).core.merges ≡ t.core.merges)

-- A list of passes.

pub passed_none : (ms : List ModelM) (n total : ℕ) (w : Core) (xs : List FuncApp) → Ready n total w xs → Passed ms n total w xs w xs
passed_none ms n total w xs r = record { ready = r; sound = record { on = λ R S q law obeys f. f; back = λ R S q law f. f } }

pub sound_then : {ms : List ModelM} {w v u : Core} {xs ys zs : List FuncApp} → Sound ms w xs v ys → Sound ms v ys u zs → Sound ms w xs u zs
sound_then a b = record {
  on = λ R S q law obeys f. b.on R S q law obeys (a.on R S q law obeys f);
  back = λ R S q law f. a.back R S q law (b.back R S q law f);
}

pub passed_then : {ms : List ModelM} {n total : ℕ} {w v u : Core} {xs ys zs : List FuncApp} → Passed ms n total w xs v ys → Passed ms n total v ys u zs
    → Passed ms n total w xs u zs
passed_then a b = record { ready = b.ready; sound = sound_then a.sound b.sound }

module _ (g : Sig) (preds : List PredApp) where
  abbrev AllLawful : List Pass → Stage → Stage → Type 1
  AllLawful = Along (Lawful g preds)

  run_idle : (ps : List Pass) (A B : Stage) → AllLawful ps A B → (t : Turn) → A t → NoWork g preds t → OnlyTidied g preds t (run_passes ps g preds t)
  unfolding run_passes
  run_idle [] A B l t h r =
      record { pairs = t.core.pairs; apps = t.apps; is = refl; no_work = r; none = λ e. e; same = λ s c. refl }
  run_idle (p ∷ ps) A C l t h r =
      let a = l.1.idle t h r in
      let next = l.1.leads t (inr (ap (λ (u : Turn). u.core.merges) a.is)) h in
      tidied_then t (p g preds t) _ a (run_idle ps l.0 C l.2 (p g preds t) next a.no_work)

  run_more : (ps : List Pass) (A B : Stage) → AllLawful ps A B → (t : Turn) → t.core.merges ≤ (run_passes ps g preds t).core.merges
  unfolding run_passes
  run_more [] A B l t = le_refl t.core.merges
  run_more (p ∷ ps) A C l t = le_trans (l.1.more t) (run_more ps l.0 C l.2 (p g preds t))

  run_neither : (ps : List Pass) (A B : Stage) → AllLawful ps A B → (t : Turn) → All (NoOperation g.models) t.apps
      → All (NoOperation g.models) (run_passes ps g preds t).apps
  unfolding run_passes
  run_neither [] A B l t h = h
  run_neither (p ∷ ps) A C l t h = run_neither ps l.0 C l.2 (p g preds t) (l.1.neither t h)

  -- where no element is marked
  module _ (n total : ℕ) where
    run_passed : (ps : List Pass) (A B : Stage) → AllLawful ps A B → (t : Turn) → A t → Ready n total t.core t.apps
        → Passed g.models n total t.core t.apps (run_passes ps g preds t).core (run_passes ps g preds t).apps
    unfolding run_passes
    run_passed [] A B l t h r = passed_none g.models n total t.core t.apps r
    run_passed (p ∷ ps) A C l t h r =
        let a = l.1.passed n total t h r in
        passed_then a (run_passed ps l.0 C l.2 (p g preds t) (l.1.leads t (inl r.plain) h) a.ready)

    run_leads : (ps : List Pass) (A B : Stage) → AllLawful ps A B → (t : Turn) → Ready n total t.core t.apps → A t → B (run_passes ps g preds t)
    unfolding run_passes
    run_leads [] A B l t r h = subst (λ (C : Stage). C t) l h
    run_leads (p ∷ ps) A C l t r h =
        run_leads ps l.0 C l.2 (p g preds t) (l.1.passed n total t h r).ready (l.1.leads t (inl r.plain) h)

  -- where nothing is merged
  abbrev Still : List Pass → Turn → Type 0
  Still ps t = (run_passes ps g preds t).core.merges ≡ t.core.merges

  still_both : (p : Pass) (ps : List Pass) (A B C : Stage) → Lawful g preds p A B → AllLawful ps B C → (t : Turn) → Still (p ∷ ps) t
      → ((p g preds t).core.merges ≡ t.core.merges) × Still ps (p g preds t)
  unfolding run_passes
  still_both p ps A B C a l t e =
      let m = a.more t in
      let k = run_more ps B C l (p g preds t) in
      (omega (arith, m, k, e), omega (arith, m, k, e))

  run_still : (ps : List Pass) (A B : Stage) → AllLawful ps A B → (t : Turn) → Still ps t → A t → B (run_passes ps g preds t)
  unfolding run_passes
  run_still [] A B l t e h = subst (λ (C : Stage). C t) l h
  run_still (p ∷ ps) A C l t e h =
      let both = still_both p ps A l.0 C l.1 l.2 t e in
      run_still ps l.0 C l.2 (p g preds t) both.1 (l.1.leads t (inr both.0) h)

  run_was_idle : (ps : List Pass) (A B : Stage) → AllLawful ps A B → (t : Turn) → Still ps t → A t → NoWork g preds (run_passes ps g preds t)
      → NoWork g preds t
  unfolding run_passes
  run_was_idle [] A B l t e h r = r
  run_was_idle (p ∷ ps) A C l t e h r =
      let both = still_both p ps A l.0 C l.1 l.2 t e in
      l.1.was_idle t h (run_was_idle ps l.0 C l.2 (p g preds t) both.1 (l.1.leads t (inr both.0) h) r)

  -- where no work is reported
  run_unworked : (ps : List Pass) (A B : Stage) → AllLawful ps A B → (t : Turn) → (run_passes ps g preds t).worked ≡ false → (t.worked ≡ false) × Still ps t
  unfolding run_passes
  run_unworked [] A B l t e = (e, refl)
  run_unworked (p ∷ ps) A C l t e =
      let later = run_unworked ps l.0 C l.2 (p g preds t) e in
      let first = l.1.unworked t later.0 in
      (first.0, later.1 ∙ first.1)

-- a report of no work by a pass that left the core v
reports_none : (t : Turn) (xs : List FuncApp) (w v : Core) (work : Bool) → w ≡ v → work ≡ false → reports w xs work t ≡ turn v xs t.worked
reports_none t xs w v work p e =
    λ i. turn (p i) xs ((ap (λ (b : Bool). t.worked || b) e ∙ or-false t.worked) i)

-- The drain.

module _ (ms : List ModelM) (n total : ℕ) (t : Turn) (r : Ready n total t.core t.apps) where
  abbrev law : Joined n total (types.with_pairs [] t.core) (drain t.core) (λ R. All (HoldsOfPair R) t.core.pairs)
  law = drain_law n total t.core r.kept r.pairs

  drain_passed : Passed ms n total t.core t.apps (drain t.core) t.apps
  drain_passed = record {
    ready = record {
      kept = law.kept;
      pairs = subst (All (Inside n)) (sym (drain_pairs_lem t.core)) tt;
      args = r.args;
      results = r.results;
      plain = law.plain r.plain;
    };
    sound = record {
      on = λ R S q s obeys f. record {
        rooted = law.on R q f.rooted f.pairs;
        pairs = subst (All (HoldsOfPair R)) (sym (drain_pairs_lem t.core)) tt;
        apps = f.apps;
      };
      back = λ R S q s f. let a = law.back R q f.rooted in record { rooted = a.0; pairs = a.1; apps = f.apps };
    };
  }

drain_lawful : (g : Sig) (preds : List PredApp) (w : Core) → Lawful g preds drain_pass (BeginsWith w) (AfterDrain w)
unfolding drain_pass drained
drain_lawful g preds w = record {
  passed = λ n total t h r. drain_passed g.models n total t r;
  leads = λ t q h.
      subst (λ (x : Core). AfterDrain x (drain_pass g preds t)) h (record { merges = drain_merges t.core; none = drain_pairs_lem t.core });
  idle = λ t h r.
      let v = t.core in
      let e = drain_same v r.joined in
      let is = reports_none t t.apps (drain v) (types.with_pairs [] v) (ltb v.merges (drain v).merges) e
      (ap (λ (x : Core). ltb v.merges x.merges) e ∙ le-ltb v.merges v.merges (le_refl v.merges)) in
      let no_work : NoWork g preds (turn (types.with_pairs [] v) t.apps t.worked) =
      record { unworked = r.unworked; unmet = r.unmet; joined = tt; agree = r.agree; safe = r.safe; held = r.held } in
      record { pairs = []; apps = t.apps; is = is; no_work = subst (NoWork g preds) (sym is) no_work; none = λ q. refl; same = λ s c. refl };
  was_idle = λ t h r.
      let v = t.core in
      let quiet = or_second t.worked (ltb v.merges (drain v).merges) r.unworked in
      let still : (drain v).merges ≡ v.merges = omega (arith, ltb-false v.merges (drain v).merges quiet, (drain_counted v).grew) in
      let no_work = subst (λ (x : Core). NoWork g preds (drained x t)) ((drain_counted v).still still) r in
      record {
        unworked = or_first t.worked (ltb v.merges (drain v).merges) r.unworked;
        unmet = no_work.unmet;
        joined = drain_within v still;
        agree = no_work.agree;
        safe = no_work.safe;
        held = no_work.held;
      };
  more = λ t. (drain_counted t.core).grew;
  neither = λ t h. h;
  unworked = λ t e.
      let n = t.core.merges in
      let k = (drain t.core).merges in
      (or_first t.worked (ltb n k) e, omega (arith, ltb-false n k (or_second t.worked (ltb n k) e), (drain_counted t.core).grew));
}

-- `functionality`.

module _ (t : Turn) where
  abbrev begin : Rewritten
  begin = rewriting [] t.core.pairs false

  abbrev rewritten : Rewritten
  rewritten = enter_all t.core.links t.apps begin

  -- where no pair waits and none is queued
  rewritten_only : t.core.pairs ≡ [] → (entered t.core.links t.apps).queued ≡ false
      → rewritten ≡ rewriting (entered t.core.links t.apps).apps t.core.pairs false
  rewritten_only e q =
      let r = entered t.core.links t.apps in
      ap (λ (ps : List Pair). enter_all t.core.links t.apps (rewriting [] ps false)) e
      ∙ (λ i. rewriting r.apps (((enter_all_none t.core.links t.apps fresh q).1 ∙ sym e) i) (q i))

  functionality_passed : (ms : List ModelM) (n total : ℕ) → Ready n total t.core t.apps
      → Passed ms n total t.core t.apps (types.with_pairs rewritten.pairs t.core) rewritten.apps
  unfolding canonical_func_app
  functionality_passed ms n total r =
      let low = all_map {P = λ x. x.result < n} {Q = λ x. root_of t.core.links x.result < n}
      (λ x h. omega (arith, root_le t.core.links x.result)) t.apps r.results in
      record {
        ready = record {
          kept = record { formed = r.kept.formed; long = r.kept.long; sum = r.kept.sum };
          pairs = enter_all_pairs (λ e. e < n) (Inside n) (λ p a b d. (a, b)) t.core.links t.apps begin low tt r.pairs;
          args = enter_all_all (λ x. Below n x.args) t.core.links t.apps begin
              (all_map (λ x h. roots_below n t.core.links x.args h) t.apps r.args) tt;
          results = enter_all_all (λ x. x.result < n) t.core.links t.apps begin low tt;
          plain = r.plain;
        };
        sound = record {
          on = λ R S q s obeys f.
              let a = enter_all_on R S q s t.core.links f.rooted t.apps begin (record { apps = tt; pairs = f.pairs }) f.apps in
              record { rooted = f.rooted; pairs = a.pairs; apps = a.apps };
          back = λ R S q s f.
              let a = enter_all_back R S q s t.core.links f.rooted t.apps begin (record { apps = f.apps; pairs = f.pairs }) in
              record { rooted = f.rooted; pairs = a.0.pairs; apps = a.1 };
        };
      }

functionality_lawful : (g : Sig) (preds : List PredApp) (w : Core) → Lawful g preds functionality_pass (AfterDrain w) (AfterFunctionality w)
unfolding functionality_pass rewrote
functionality_lawful g preds w = record {
  passed = λ n total t h r. functionality_passed t g.models n total r;
  leads = λ t q h.
      let ls = t.core.links in
      record {
        merges = h.merges;
        sorted = enter_all_sorted ls t.apps (begin t) tt;
        canon = enter_all_all (Canon ls) ls t.apps (begin t) (all_of (λ x. canon_image ls x) t.apps) tt;
        apart = enter_all_pairs (λ e. root_of ls e ≡ e) (TwoRoots ls) (λ p a b d z. d (sym a ∙ z ∙ b)) ls t.apps (begin t)
            (all_of (λ x. root_root ls x.result) t.apps) tt (subst (All (TwoRoots ls)) (sym h.none) tt);
        idle = λ e. (enter_all_none ls t.apps (begin t) (or_second t.worked (rewritten t).queued e)).1 ∙ h.none;
      };
  idle = λ t h r.
      let ls = t.core.links in
      let xs = (entered ls t.apps).apps in
      let again = entered_again ls t.apps in
      let is = ap (λ (x : Rewritten). rewrote x t) (rewritten_only t h.none r.agree) ∙ reports_none t xs t.core t.core false refl refl in
      let no_work : NoWork g preds (turn t.core xs t.worked) = record {
        unworked = r.unworked;
        unmet = r.unmet;
        joined = r.joined;
        agree = ap (λ (x : Rewritten). x.queued) again;
        safe = subst (DemandsSafe g preds t.core) (sym again) r.safe;
        held = subst (LawsHeld g ls) (sym again) r.held;
      } in
      record {
        pairs = t.core.pairs;
        apps = xs;
        is = is;
        no_work = subst (NoWork g preds) (sym is) no_work;
        none = λ e. e;
        same = λ s c. ap (λ (x : Rewritten). x.apps) (entered_same ls t.apps s c);
      };
  was_idle = λ t h r.
      let ls = t.core.links in
      let agree : (entered ls t.apps).queued ≡ false =
      ap (λ (ps : List Pair). (enter_all ls t.apps (rewriting [] ps false)).queued) (sym h.none)
      ∙ or_second t.worked (rewritten t).queued r.unworked in
      let no_work = subst (λ (x : Rewritten). NoWork g preds (rewrote x t)) (rewritten_only t h.none agree) r in
      record {
        unworked = or_first t.worked (rewritten t).queued r.unworked;
        unmet = r.unmet;
        joined = no_work.joined;
        agree = agree;
        safe = subst (DemandsSafe g preds t.core) (entered_again ls t.apps) no_work.safe;
        held = subst (LawsHeld g ls) (entered_again ls t.apps) no_work.held;
      };
  more = λ t. le_refl t.core.merges;
  neither = λ t h. (unfold canonical_func_app in enter_all_all (NoOperation g.models) t.core.links t.apps (begin t) h tt);
  unworked = λ t e. (or_first t.worked (rewritten t).queued e, refl);
}

-- `typing`.

-- where only the facts grow
module _ (ms : List ModelM) (n total : ℕ) (w v : Core) (xs : List FuncApp) (grown : OnlyFactsGrew w v) where
  pub grown_passed : Ready n total w xs → Passed ms n total w xs v xs
  grown_passed r = record {
    ready = record {
      kept = record {
        formed = subst Formed (sym grown.links) r.kept.formed;
        long = ap length grown.links ∙ r.kept.long;
        sum = ap₂ ◌+◌ (ap roots grown.links) grown.merges ∙ r.kept.sum;
      };
      pairs = subst (All (Inside n)) (sym grown.pairs) r.pairs;
      args = r.args;
      results = r.results;
      plain = subst Unmarked (sym grown.marks) r.plain;
    };
    sound = record {
      on = λ R S q s obeys f. record {
        rooted = subst (Rooted R) (sym grown.links) f.rooted;
        pairs = subst (All (HoldsOfPair R)) (sym grown.pairs) f.pairs;
        apps = f.apps;
      };
      back = λ R S q s f. record {
        rooted = subst (Rooted R) grown.links f.rooted;
        pairs = subst (All (HoldsOfPair R)) grown.pairs f.pairs;
        apps = f.apps;
      };
    };
  }

-- with no mark, imposing is that
pub unmarked_grown : (fs : List Fact) (w : Core) → Unmarked w.marks → OnlyFactsGrew w (impose_all fs w)
unmarked_grown fs w u = plain_grown fs w (unmarked_inserts fs w u)

grew_none : (w v : Core) → v ≡ w → grew w v ≡ false
unfolding grew
grew_none w v e =
    let n = w.merges + w.added in ap (λ (x : Core). ltb n (x.merges + x.added)) e ∙ le-ltb n n (le_refl n)

module _ (g : Sig) (preds : List PredApp) where
  abbrev asked : Turn → List Fact
  asked t = demands g t.apps preds

  abbrev imposed : Turn → Core
  imposed t = impose_all (asked t) t.core

  -- what `typing` leaves where it merges nothing
  typing_done : (w : Core) (t : Turn) → (imposed t).merges ≡ t.core.merges → AfterFunctionality w t → AfterTyping g preds w (typing_pass g preds t)
  unfolding typing_pass typed
  typing_done w t e h =
      let grown = plain_grown (asked t) t.core (impose_inserts (asked t) t.core e) in
      record {
        table = record {
          merges = λ p ps q two. omega (arith, grown.merges, h.merges p ps q two);
          sorted = h.sorted;
          canon = subst (λ ls. All (Canon ls) t.apps) (sym grown.links) h.canon;
          apart = subst₂ (λ (ls : List ℕ) (ps : List Pair). All (TwoRoots ls) ps) (sym grown.links) (sym grown.pairs) h.apart;
          idle = λ q. grown.pairs ∙ h.idle (or_first t.worked (grew t.core (imposed t)) q);
        };
        safe = λ m.
            safe_moved (sym grown.links) (sym grown.marks) (imposed t).facts (asked t) (imposed_safe (asked t) t.core e m [] tt).1;
      }

  typing_lawful : (w : Core) → Lawful g preds typing_pass (AfterFunctionality w) (AfterTyping g preds w)
  unfolding typing_pass typed
  typing_lawful w = record {
    passed = λ n total t h r. grown_passed g.models n total t.core (imposed t) t.apps (unmarked_grown (asked t) t.core r.plain) r;
    leads = λ t q. elim q [ inl u ↦ typing_done w t (unmarked_grown (asked t) t.core u).merges | inr e ↦ typing_done w t e ];
    idle = λ t h r.
        let own = entered_same t.core.links t.apps h.sorted h.canon in
        let e = safe_idle (asked t) t.core (subst (DemandsSafe g preds t.core) own r.safe) in
        let is = reports_none t t.apps (imposed t) t.core (grew t.core (imposed t)) e (grew_none t.core (imposed t) e) in
        record {
          pairs = t.core.pairs;
          apps = t.apps;
          is = is;
          no_work = subst (NoWork g preds) (sym is) r;
          none = λ q. q;
          same = λ s c. refl;
        };
    was_idle = λ t h r.
        let work = grew t.core (imposed t) in
        let no_work = subst (λ (x : Core). NoWork g preds (typed x t)) (impose_all_same (asked t) t.core (or_second t.worked work r.unworked) r.unmet) r in
        record {
          unworked = or_first t.worked work r.unworked;
          unmet = no_work.unmet;
          joined = no_work.joined;
          agree = no_work.agree;
          safe = no_work.safe;
          held = no_work.held;
        };
    more = λ t. impose_all_counts (asked t) t.core;
    neither = λ t h. h;
    unworked = λ t e.
        let work = grew t.core (imposed t) in
        (or_first t.worked work e, impose_all_still (asked t) t.core (or_second t.worked work e));
  }

-- Identities and composites.

-- each insertion keeps the table rewritten, and queues pairs of two roots
apply_table : (w : Core) (x : FuncApp) (t : Turn) → AfterFunctionality w t → AfterFunctionality w (apply_turn x t)
unfolding canonical_func_app
apply_table w x t h =
    canon_cases (AfterFunctionality w) x t h.canon
    (λ e. record {
      merges = h.merges;
      sorted = placed_sorted func_app_ordered (rooted_in t x) t.apps h.sorted;
      canon = placed_all compare_func_app (rooted_in t x) (Canon ls) t.apps (canon_image ls x) h.canon;
      apart = h.apart;
      idle = λ q. no_test refl (or_second t.worked true q);
    })
    (λ y e r. record { merges = h.merges; sorted = h.sorted; canon = h.canon; apart = h.apart; idle = λ q. h.idle (or_first t.worked false q) })
    (λ y e own n. record {
      merges = h.merges;
      sorted = h.sorted;
      canon = h.canon;
      apart = (λ z. n (sym own ∙ z ∙ root_root ls x.result), h.apart);
      idle = λ q. no_test refl (or_second t.worked true q);
    })
    (record { merges = h.merges; sorted = h.sorted; canon = h.canon; apart = h.apart; idle = h.idle })
  where
    ls : List ℕ
    ls = t.core.links

module _ (ms : List ModelM) (t : Turn) (canon : AllCanon t) where
  abbrev obeyed : Turn
  obeyed = obey_all (map_laws ms t.apps) t

  start : Steady t.core.links t
  start = record { links = refl; canon = canon }

  module _ (R : ℕ → ℕ → Type 0) (S : FuncApp → Type 0) (q : Equivalence R) (law : Respects R S) where
    abbrev HoldsOfTurn : Turn → Type 0
    HoldsOfTurn u = HoldsOfCore R S u.core u.apps

    -- what has the claim, or a pair of two results that are together
    apply_on : (x : FuncApp) (u : Turn) → Steady t.core.links u × HoldsOfTurn u → S x → Steady t.core.links (apply_turn x u) × HoldsOfTurn (apply_turn x u)
    apply_on x u h s =
        let f = h.1 in
        let own = says_image R q S law u.core.links f.rooted x s in (
          apply_steady t.core.links x u h.0,
          canon_cases HoldsOfTurn x u h.0.canon
              (λ e. record { rooted = f.rooted; pairs = f.pairs; apps = placed_all compare_func_app (rooted_in u x) S u.apps own f.apps })
              (λ y e r. record { rooted = f.rooted; pairs = f.pairs; apps = f.apps })
              (λ y e root n. record { rooted = f.rooted; pairs = (found_agrees R S q law (rooted_in u x) y u.apps f.apps e own, f.pairs); apps = f.apps })
              (record { rooted = f.rooted; pairs = f.pairs; apps = f.apps }),
        )

    -- a side with its element and with its root
    side_on : (ls : List ℕ) → Rooted R ls → (ps : List ℕ) (f e v : ℕ) → S (func_app f ps (root_of ls e ∷ []) v) ↔ S (func_app f ps (e ∷ []) v)
    side_on ls r ps f e v =
        let x = func_app f ps (root_of ls e ∷ []) v in
        let y = func_app f ps (e ∷ []) v in
        let m : Meet R x y = record { func = refl; parents = together_same R q ps; args = together_one (r e) } in
        (law.alike x y m (q.same v), law.alike y x (meet_flip R q m) (q.same v))

    kept_serves : (ls : List ℕ) → Rooted R ls → (l : MapLaw) → Keeps S l → Serves ls S l
    unfolding Keeps Serves
    kept_serves ls r (application x) k = k
    kept_serves ls r (equation ps x y) k = λ v.
        let a = side_on ls r ps x.func x.el v in
        let b = side_on ls r ps y.func y.el v in
        (λ s. b.1 ((k v).0 (a.0 s)), λ s. a.1 ((k v).1 (b.0 s)))

    operations_on : All (Obeys S) ms → HoldsOfTurn t → HoldsOfTurn obeyed
    operations_on o f =
        (obey_all_serves (λ u. Steady t.core.links u × HoldsOfTurn u) S t.core.links (λ u h. h.0.links) (λ u h. h.1.apps) apply_on (map_laws ms t.apps) t
        (all_map (kept_serves t.core.links f.rooted) (map_laws ms t.apps) (laws_kept ms S o t.apps f.apps)) (start, f)).1

    -- the pass only adds applications and pairs
    operations_back : HoldsOfTurn obeyed → HoldsOfTurn t
    operations_back =
        (obey_all_keeps (λ u. Steady t.core.links u × (HoldsOfTurn u → HoldsOfTurn t)) (λ x u h. (
          apply_steady t.core.links x u h.0,
          canon_cases (λ z. HoldsOfTurn z → HoldsOfTurn t) x u h.0.canon
              (λ e f. h.1 (record { rooted = f.rooted; pairs = f.pairs; apps = placed_rest compare_func_app (rooted_in u x) S u.apps f.apps }))
              (λ y e r f. h.1 f)
              (λ y e root n f. h.1 (record { rooted = f.rooted; pairs = f.pairs.1; apps = f.apps }))
              (λ f. h.1 (record { rooted = f.rooted; pairs = f.pairs; apps = f.apps })),
        )) (map_laws ms t.apps) t (start, λ f. f)).1

  module _ (n total : ℕ) where
    -- its arguments and its result are elements
    abbrev OfElements : FuncApp → Type 0
    OfElements x = Below n x.args × (x.result < n)

    abbrev ReadyTurn : Turn → Type 0
    ReadyTurn u = Ready n total u.core u.apps

    apply_ready : (x : FuncApp) (u : Turn) → Steady t.core.links u × ReadyTurn u → OfElements x → Steady t.core.links (apply_turn x u) × ReadyTurn (apply_turn x u)
    unfolding canonical_func_app
    apply_ready x u h i =
        let r = h.1 in
        let low : (rooted_in u x).result < n = omega (arith, root_le u.core.links x.result, i.1) in
        let kept : (v : Core) → v.links ≡ u.core.links → v.merges ≡ u.core.merges → RootsAndMerges n total v = λ v a b. record {
          formed = subst Formed (sym a) r.kept.formed;
          long = ap length a ∙ r.kept.long;
          sum = ap₂ ◌+◌ (ap roots a) b ∙ r.kept.sum;
        } in (
          apply_steady t.core.links x u h.0,
          canon_cases ReadyTurn x u h.0.canon
              (λ e. record {
                kept = r.kept;
                pairs = r.pairs;
                args = placed_all compare_func_app (rooted_in u x) (λ z. Below n z.args) u.apps (roots_below n u.core.links x.args i.0) r.args;
                results = placed_all compare_func_app (rooted_in u x) (λ z. z.result < n) u.apps low r.results;
                plain = r.plain;
              })
              (λ y e same. record { kept = r.kept; pairs = r.pairs; args = r.args; results = r.results; plain = r.plain })
              (λ y e root d. record {
                kept = kept _ refl refl;
                pairs = (
                  (all_at (λ z. z.result < n) u.apps r.results y (lookup_sound compare_func_app (rooted_in u x) u.apps e).0, low),
                  r.pairs,
                );
                args = r.args;
                results = r.results;
                plain = r.plain;
              })
              (record { kept = kept _ refl refl; pairs = r.pairs; args = r.args; results = r.results; plain = r.plain }),
        )

    laws_of_elements : All OfElements t.apps → All (Serves t.core.links OfElements) (map_laws ms t.apps)
    unfolding Serves
    laws_of_elements = laws_all OfElements (Serves t.core.links OfElements) ms (all_of (λ m. record {
      identity = λ ps a r i. (((i.1, tt), i.0.0), ((i.1, tt), i.0.0));
      composite = λ ps f g h i. (both f h i.0.0 i.1, both g h i.0.1.0 i.1, both f g i.0.0 i.0.1.0);
    }) ms) t.apps
      where
        low : (e : ℕ) → e < n → root_of t.core.links e < n
        low e h = omega (arith, root_le t.core.links e, h)

        both : (a b : ℕ) → a < n → b < n → (v : ℕ)
            → (((root_of t.core.links a < n) × Unit {0}) × (v < n)) ↔ (((root_of t.core.links b < n) × Unit {0}) × (v < n))
        both a b ha hb v = (λ i. ((low b hb, tt), i.1), λ i. ((low a ha, tt), i.1))

    operations_ready : ReadyTurn t → ReadyTurn obeyed
    operations_ready r =
        (obey_all_serves (λ u. Steady t.core.links u × ReadyTurn u) OfElements t.core.links (λ u h. h.0.links)
        (λ u h. all_both (λ x. Below n x.args) (λ x. x.result < n) u.apps h.1.args h.1.results) apply_ready (map_laws ms t.apps) t
        (laws_of_elements (all_both (λ x. Below n x.args) (λ x. x.result < n) t.apps r.args r.results)) (start, r)).1

    operations_passed : ReadyTurn t → Passed ms n total t.core t.apps obeyed.core obeyed.apps
    operations_passed r = record {
      ready = operations_ready r;
      sound = record { on = λ R S q law o f. operations_on R S q law o f; back = λ R S q law f. operations_back R S q law f };
    }

module _ (g : Sig) (preds : List PredApp) where
  -- where nothing was added, the pass did nothing, and the laws are held
  operations_none_added : (t : Turn) → AllCanon t → AddedNone g (operation_pass g preds t) → (operation_pass g preds t).core.met ≡ none
      → (operation_pass g preds t ≡ t) × All (Held t.core.links t.apps) (map_laws g.models t.apps)
  unfolding operation_pass
  operations_none_added t c (inl q) m = laws_unworked (map_laws g.models t.apps) t c (laws_over_roots t.core.links g.models t.apps c) q m
  operations_none_added t c (inr plain) m =
      let before = obey_all_rest (NoOperation g.models) (map_laws g.models t.apps) t plain in (
        operations_none g preds t before,
        subst (All (Held t.core.links t.apps)) (sym (laws_none g.models t.apps before)) tt,
      )

  operation_lawful : (w : Core) → Lawful g preds operation_pass (AfterTyping g preds w) (RoundDone g preds w)
  unfolding operation_pass
  operation_lawful w = record {
    passed = λ n total t h r. operations_passed g.models t h.table.canon n total r;
    leads = λ t q h.
        let c = h.table.canon in
        let u = operation_pass g preds t in
        record {
          table = obey_all_keeps (AfterFunctionality w) (apply_table w) (map_laws g.models t.apps) t h.table;
          safe = λ none_added m.
              let e = (operations_none_added t c none_added m).0 in
              subst (λ (z : Turn). All (Safe z.core.links z.core.marks z.core.facts) (demands g z.apps preds)) (sym e)
              (h.safe (subst (λ (z : Turn). z.core.met ≡ none) e m));
          held = λ none_added m.
              let e = operations_none_added t c none_added m in
              subst (λ (z : Turn). All (Held z.core.links z.apps) (map_laws g.models z.apps)) (sym e.0) e.1;
        };
    idle = λ t h r.
        let c = h.table.canon in
        let own = entered_same t.core.links t.apps h.table.sorted c in
        let is = laws_same (map_laws g.models t.apps) t c (laws_over_roots t.core.links g.models t.apps c) (subst (LawsHeld g t.core.links) own r.held) in
        record {
          pairs = t.core.pairs;
          apps = t.apps;
          is = is;
          no_work = subst (NoWork g preds) (sym is) r;
          none = λ q. q;
          same = λ s c. refl;
        };
    was_idle = λ t h r.
        let c = h.table.canon in
        subst (NoWork g preds) (laws_unworked (map_laws g.models t.apps) t c (laws_over_roots t.core.links g.models t.apps c) r.unworked r.unmet).0 r;
    neither = λ t h. subst (λ (z : Turn). All (NoOperation g.models) z.apps) (sym (operations_none g preds t h)) h;
    more = λ t. let e = (obey_all_more (map_laws g.models t.apps) t).merges in omega (arith, e);
    unworked = λ t e. let z = obey_all_more (map_laws g.models t.apps) t in (z.worked e, z.merges);
  }

  -- The round.

  all_lawful : (w : Core) → Along (Lawful g preds) passes (BeginsWith w) (RoundDone g preds w)
  unfolding passes
  all_lawful w = (
    AfterDrain w,
    drain_lawful g preds w,
    (
      AfterFunctionality w,
      functionality_lawful g preds w,
      (AfterTyping g preds w, typing_lawful g preds w, (RoundDone g preds w, operation_lawful w, refl)),
    ),
  )

  -- where nothing remains to do a round does nothing but tidy
  pub round_idle : (xs : List FuncApp) (w : Core) → NoWork g preds (turn w xs false) → OnlyTidied g preds (turn w xs false) (round g preds xs w)
  unfolding round
  round_idle xs w = run_idle g preds passes (BeginsWith w) (RoundDone g preds w) (all_lawful w) (turn w xs false) refl

  -- after a round that added no application, left no pair and met no number, nothing remains to do
  done_no_work : (w : Core) (t : Turn) → RoundDone g preds w t → AddedNone g t → t.core.met ≡ none → t.core.pairs ≡ [] → NoWork g preds (turn t.core t.apps false)
  done_no_work w t d a m e =
      canonical_no_work g preds t.core t.apps m (subst (All (WithinClass t.core.links)) (sym e) tt) d.table.sorted d.table.canon
      (d.safe a m) (d.held a m)

  -- and another does nothing
  pub done_idle : (w : Core) (t : Turn) → RoundDone g preds w t → AddedNone g t → t.core.met ≡ none → t.core.pairs ≡ []
      → round g preds t.apps t.core ≡ turn t.core t.apps false
  done_idle w t d a m e =
      let z = round_idle t.apps t.core (done_no_work w t d a m e) in
      z.is ∙ (λ i. turn (types.with_pairs ((z.none e ∙ sym e) i) t.core) (z.same d.table.sorted d.table.canon i) false)

  module _ (xs : List FuncApp) (w : Core) where
    -- where no element is marked

    pub round_passed : (n total : ℕ) → Ready n total w xs → Passed g.models n total w xs (round g preds xs w).core (round g preds xs w).apps
    unfolding round
    round_passed n total = run_passed g preds n total passes (BeginsWith w) (RoundDone g preds w) (all_lawful w) (turn w xs false) refl

    pub round_done : (n total : ℕ) → Ready n total w xs → RoundDone g preds w (round g preds xs w)
    unfolding round
    round_done n total r = run_leads g preds n total passes (BeginsWith w) (RoundDone g preds w) (all_lawful w) (turn w xs false) r refl

    -- where nothing is merged

    pub still_done : (round g preds xs w).core.merges ≡ w.merges → RoundDone g preds w (round g preds xs w)
    unfolding round
    still_done e = run_still g preds passes (BeginsWith w) (RoundDone g preds w) (all_lawful w) (turn w xs false) e refl

    -- and where no work is reported
    pub unworked_done : (round g preds xs w).worked ≡ false → RoundDone g preds w (round g preds xs w)
    unfolding round
    unworked_done e = still_done (run_unworked g preds passes (BeginsWith w) (RoundDone g preds w) (all_lawful w) (turn w xs false) e).1

    -- where no application is one of id or comp
    pub round_neither : All (NoOperation g.models) xs → All (NoOperation g.models) (round g preds xs w).apps
    unfolding round
    round_neither = run_neither g preds passes (BeginsWith w) (RoundDone g preds w) (all_lawful w) (turn w xs false)

    -- where no work is reported and no number met, nothing remained to do
    pub round_was_idle : (round g preds xs w).worked ≡ false → (round g preds xs w).core.met ≡ none → NoWork g preds (turn w xs false)
    unfolding round
    round_was_idle e m =
        let still = (run_unworked g preds passes (BeginsWith w) (RoundDone g preds w) (all_lawful w) (turn w xs false) e).1 in
        let d = still_done still in
        run_was_idle g preds passes (BeginsWith w) (RoundDone g preds w) (all_lawful w) (turn w xs false) still refl
        (subst (λ (b : Bool). NoWork g preds (turn (round g preds xs w).core (round g preds xs w).apps b)) (sym e)
        (done_no_work w (round g preds xs w) d (inl e) m (d.table.idle e)))
