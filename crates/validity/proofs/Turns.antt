-- A round of a valid structure: what it leaves is valid, and what it does where it reports work. Each pass has one law, and `all_within` lists them.
use mathlib.Core.Path.{◌≡◌, refl, sym, ap, subst, subst₂, ◌∙◌}
use mathlib.Core.Logic.{◌≢◌, ◌⊎◌, inl, inr}
use mathlib.Core.Bool.{Bool, true, false, not, ◌||◌}
use mathlib.Core.List.Memᴰ
use mathlib.Core.List.{List, [], ◌∷◌}
use mathlib.Core.Option.{none, some}
use Prim.Native.Nat.{ℕ, ◌+◌, ◌≤◌, ◌<◌}
use native.Mathlib.Omega.{arith}
use lib.ListN.{length}
use lib.Dec.{eqb, ltb}
use borrow.Author.Tests.{ltb-true, ltb-false, eqb-false, ne_eqb, not-true}
use Rattle.ids.specs.Answers.{no_room}
use Rattle.ids.proofs.Sorted.{All, all_of, all_map, all_at, no_test, lookup_sound, lookup_none, placed_all, placed_absent}
use Rattle.unification.specs.Roots.{root_of}
use Rattle.unification.proofs.Numbers.{less_or}
use Rattle.signature.specs.Model.{Sig}
use Rattle.semantics.specs.Structure.{FuncApp, PredApp, Pair, pair, compare_func_app, max_func_apps, max_pairs}
use Rattle.semantics.specs.Types.{Core, drain, impose_all, grew}
use Rattle.semantics.specs.Applying.{equate}
use Rattle.semantics.specs.MapLaws.{map_laws}
use Rattle.semantics.specs.Close.{Rewritten, rewriting, enter_all, demands, Turn, turn, drained, drain_pass, rewrote, functionality_pass, typed}
use Rattle.semantics.specs.Close.{typing_pass, apply_turn, operation_pass, Pass, passes, round}
use Rattle.semantics.specs.Valid.{Counts, counts_at, FuncAppValid, PredAppValid, Table, ValidSig, Unreserved, WellApplied}
use Rattle.semantics.proofs.Cases.{or_first, or_second, or_either}
use Rattle.semantics.proofs.Equating.{differ_says, equate_relinked}
use Rattle.semantics.proofs.Functionality.{enter_all_all}
use Rattle.semantics.proofs.Canonical.{Canon, canon_image, canon_result, canonical_alike, entered}
use Rattle.semantics.proofs.Queues.{drain_pairs_lem, impose_all_queue}
use Rattle.semantics.proofs.Stages.{Stage, Along, run_along}
use Rattle.semantics.proofs.Operations.{inserted_turn, kept_turn, queued_turn, full_turn, rooted_in, found_in, apply_cases, obey_all_keeps_if}
use Rattle.semantics.proofs.Pairs.{functionality_queue}
use Rattle.semantics.proofs.Orders.{func_app_ordered}
use Rattle.validity.proofs.Drain.{ValidCore, Advances, advances_then, requeued_advances, relinked_advances, met_advances}
use Rattle.validity.proofs.Drain.{some_apart, apart_first, apart_more, apart_alike, drain_advances, drain_apart, drain_place}
use Rattle.validity.proofs.Imposing.{Imposed, impose_all_advances}
use Rattle.validity.proofs.Entering.{waits, Clash, EnteredValid, canonical_entry, fresh_entered, canonical_unreserved, canonical_well_applied}
use Rattle.validity.proofs.Demands.{demands_valid}
use Rattle.validity.proofs.Operating.{Admitted, laws_may}
use Rattle.validity.proofs.Growing.{table_place}

-- how many keys the applications have once they are rewritten
unfoldable pub keys : List ℕ → List FuncApp → ℕ
keys ls xs = length (entered ls xs).apps

-- The stages of a round.

-- what a round begins with
pub record Begins (g : Sig) (c : Counts) (w : Core) (xs : List FuncApp) : Type 0 where
  pub valid : ValidCore c w
  pub most : length w.pairs ≤ max_pairs
  pub apps : Table (FuncAppValid c) compare_func_app max_func_apps xs
  pub unreserved : All (Unreserved g) xs
  pub well_applied : All (WellApplied g) xs

-- what it leaves
pub record AfterRound (g : Sig) (c : Counts) (t : Turn) : Type 0 where
  pub begins : Begins g c t.core t.apps
  -- no pair waits where no pass reported work
  pub idle : t.worked ≡ false → t.core.pairs ≡ []

-- before its first pass, where it begins with the core w and the applications xs
pub record Begun (g : Sig) (c : Counts) (w : Core) (xs : List FuncApp) (t : Turn) : Type 0 where
  pub begins : Begins g c w xs
  pub is : t ≡ turn w xs false

-- after the drain
pub record Drained (g : Sig) (c : Counts) (w : Core) (xs : List FuncApp) (t : Turn) : Type 0 where
  pub begins : Begins g c t.core xs
  pub apps : t.apps ≡ xs
  pub advances : Advances c w t.core
  pub none : t.core.pairs ≡ []
  pub works : t.worked ≡ true → w.merges < t.core.merges
  pub quiet : t.worked ≡ false → t.core.merges ≡ w.merges
  pub drains : some_apart w.links w.pairs ≡ true → w.merges < t.core.merges
  -- where no merge was made, every link is as it was
  pub links : t.core.merges ≡ w.merges → t.core.links ≡ w.links

-- from `functionality` on, where no merge was made since the round began
pub record Still (w : Core) (xs : List FuncApp) (t : Turn) : Type 0 where
  -- every element has the root that it had
  pub roots : (e : ℕ) → root_of t.core.links e ≡ root_of w.links e
  -- the applications are rewritten
  pub canon : All (Canon t.core.links) t.apps
  -- no key is lost
  pub keys : keys w.links xs ≤ length t.apps

-- what a pass that reports work does: a merge or a fact more, an application more, or a pair for the next drain to merge
abbrev pub Progress : Core → List FuncApp → Turn → Type 0
Progress w xs t =
    (w.merges + w.added < t.core.merges + t.core.added)
    ⊎ ((keys w.links xs < length t.apps) ⊎ (some_apart t.core.links t.core.pairs ≡ true))

-- after each pass from `functionality` on
pub record Within (g : Sig) (c : Counts) (w : Core) (xs : List FuncApp) (t : Turn) : Type 0 where
  pub after : AfterRound g c t
  pub advances : Advances c w t.core
  pub works : t.worked ≡ true → Progress w xs t
  pub quiet : t.worked ≡ false → t.core.merges ≡ w.merges
  -- a pair of two roots that waited was merged
  pub drains : some_apart w.links w.pairs ≡ true → w.merges < t.core.merges
  pub still : t.core.merges ≡ w.merges → Still w xs t

waits_none : (ps : List Pair) → waits ps ≡ false → ps ≡ []
unfolding waits
waits_none [] q = refl
waits_none (p ∷ ps) q = no_test refl q

-- of pairs that each have two roots some has
waits_apart : (c : Counts) (ls : List ℕ) (ps : List Pair) → All (Clash c ls) ps → waits ps ≡ true → some_apart ls ps ≡ true
unfolding waits
waits_apart c ls [] h q = no_test q refl
waits_apart c ls (p ∷ ps) h q = apart_first ls p ps h.0.two

-- The law of each pass.

module _ (g : Sig) (v : ValidSig g) (n : ℕ) (preds : List PredApp) (pv : All (PredAppValid (counts_at g n)) preds) where
  abbrev c : Counts
  c = counts_at g n

  pub record RoundLaw (p : Pass) (A B : Stage) : Type 1 where
    pub leads : (t : Turn) → A t → B (p g preds t)

  module _ (w : Core) (xs : List FuncApp) where
    drain_own : Begins g c w xs → Drained g c w xs (drain_pass g preds (turn w xs false))
    unfolding drain_pass drained
    drain_own b =
        let d = drain w in
        let none = drain_pairs_lem w in
        let a = drain_advances c w b.valid in
        record {
          begins = record {
            valid = a.valid;
            most = omega (arith, ap length none);
            apps = b.apps;
            unreserved = b.unreserved;
            well_applied = b.well_applied;
          };
          apps = refl;
          advances = a;
          none = none;
          works = λ q. ltb-true w.merges d.merges q;
          quiet = λ q. omega (arith, ltb-false w.merges d.merges q, a.merges);
          drains = λ q. drain_apart w q;
          links = λ q. elim (drain_place w) [ inl z ↦ z | inr z ↦ absurd (omega (arith, q, z)) ];
        }

    drain_within : RoundLaw drain_pass (Begun g c w xs) (Drained g c w xs)
    drain_within = record { leads = λ t h. subst (λ (u : Turn). Drained g c w xs (drain_pass g preds u)) (sym h.is) (drain_own h.begins) }

    functionality_within : RoundLaw functionality_pass (Drained g c w xs) (Within g c w xs)
    unfolding functionality_pass rewrote
    functionality_within = record {
      leads = λ t h.
          let b = h.begins in
          let ls = t.core.links in
          let start = rewriting [] t.core.pairs false in
          let r : Rewritten = enter_all ls t.apps start in
          let apps = subst (Table (FuncAppValid c) compare_func_app max_func_apps) (sym h.apps) b.apps in
          let e : EnteredValid c ls r =
          subst (λ (ps : List Pair). EnteredValid c ls (enter_all ls t.apps (rewriting [] ps false))) (sym h.none)
          (fresh_entered c ls t.apps apps.each) in
          let roomy = functionality_queue.leads g preds t (record { few = apps.most; none = h.none }) in
          let a = requeued_advances c r.pairs t.core b.valid (all_map (λ p k. k.valid) r.pairs e.pairs) in
          let each = subst (All (Unreserved g)) (sym h.apps) b.unreserved in
          let applied = subst (All (WellApplied g)) (sym h.apps) b.well_applied in
          record {
            after = record {
              begins = record {
                valid = a.valid;
                most = omega (arith, roomy.room);
                apps = record { each = all_map (λ x k. k.valid) r.apps e.each; sorted = e.sorted; most = roomy.few };
                unreserved = enter_all_all (Unreserved g) ls t.apps start (all_map (canonical_unreserved g ls) t.apps each) tt;
                well_applied = enter_all_all (WellApplied g) ls t.apps start (all_map (canonical_well_applied g ls) t.apps applied) tt;
              };
              idle = λ q. waits_none r.pairs (sym e.report ∙ or_second t.worked r.queued q);
            };
            advances = advances_then c w t.core _ h.advances a;
            works = λ q. elim (or_either t.worked r.queued q) [
              | inl z ↦ inl (omega (arith, h.works z, h.advances.added))
              | inr z ↦ inr (inr (waits_apart c ls r.pairs e.pairs (sym e.report ∙ z)))
            ];
            quiet = λ q. h.quiet (or_first t.worked r.queued q);
            drains = h.drains;
            still = λ q.
                let same = h.links q in
                record {
                  roots = λ x. ap (λ (ks : List ℕ). root_of ks x) same;
                  canon = enter_all_all (Canon ls) ls t.apps start (all_of (canon_image ls) t.apps) tt;
                  keys = omega (arith, entered_keys ls t.apps t.core.pairs same h.apps h.none);
                };
          };
    }
      where
        entered_keys : (ls : List ℕ) (ys : List FuncApp) (ps : List Pair) → ls ≡ w.links → ys ≡ xs → ps ≡ []
            → length (enter_all ls ys (rewriting [] ps false)).apps ≡ keys w.links xs
        entered_keys ls ys ps a b e = (unfold keys in λ i. length (enter_all (a i) (b i) (rewriting [] (e i) false)).apps)

    typing_within : RoundLaw typing_pass (Within g c w xs) (Within g c w xs)
    unfolding typing_pass typed grew
    typing_within = record {
      leads = λ t h.
          let b = h.after.begins in
          let fs = demands g t.apps preds in
          let x = impose_all fs t.core in
          let i : Imposed c t.core x =
          impose_all_advances c fs t.core (demands_valid g v n t.apps preds b.apps.each pv) b.valid in
          let a = i.advances in
          let up = h.advances in
          let most : length x.pairs ≤ max_pairs = elim (impose_all_queue fs t.core) [
            | inl p ↦ omega (arith, ap length p, b.most)
            | inr p ↦ omega (arith, ap length p)
          ] in
          record {
            after = record {
              begins = record { valid = a.valid; most = most; apps = b.apps; unreserved = b.unreserved; well_applied = b.well_applied };
              idle = λ q. elim i.place [ inl p ↦ p.1 ∙ h.after.idle (or_first t.worked _ q) | inr p ↦ p.0 ];
            };
            advances = advances_then c w t.core x up a;
            works = λ q. elim (or_either t.worked (ltb (t.core.merges + t.core.added) (x.merges + x.added)) q) [
              | inl z ↦ elim (h.works z) [
                | inl l ↦ inl (omega (arith, l, a.merges, a.added))
                | inr k ↦ elim k [
                  | inl l ↦ inr (inl l)
                  | inr s ↦ elim i.place [
                    | inl p ↦ inr (inr (subst₂ (λ (ls : List ℕ) (ps : List Pair). some_apart ls ps ≡ true) (sym p.0) (sym p.1) s))
                    | inr p ↦ inl (omega (arith, p.1, a.added, up.merges, up.added))
                  ]
                ]
              ]
              | inr z ↦
                  inl (omega (arith, ltb-true (t.core.merges + t.core.added) (x.merges + x.added) z, up.merges, up.added))
            ];
            quiet = λ q.
                let none = ltb-false (t.core.merges + t.core.added) (x.merges + x.added) (or_second t.worked _ q) in
                omega (arith, none, a.merges, a.added, h.quiet (or_first t.worked _ q));
            drains = λ q. omega (arith, h.drains q, a.merges);
            still = λ q.
                let s = h.still (omega (arith, q, a.merges, up.merges)) in
                elim i.place [
                  | inl p ↦ record {
                    roots = λ e. ap (λ (ls : List ℕ). root_of ls e) p.0 ∙ s.roots e;
                    canon = subst (λ (ls : List ℕ). All (Canon ls) t.apps) (sym p.0) s.canon;
                    keys = s.keys;
                  }
                  | inr p ↦ absurd (omega (arith, q, p.1, up.merges))
                ];
          };
    }

    -- One application that a law inserts.

    module _ (x : FuncApp) (t : Turn) (new : Admitted g c x) (h : Within g c w xs t) where
      abbrev ls : List ℕ
      ls = t.core.links

      abbrev b : Begins g c t.core t.apps
      b = h.after.begins

      -- as it is stored
      abbrev entry : FuncApp
      entry = rooted_in t x

      inserted_within : found_in t x ≡ none → length t.apps < max_func_apps → Within g c w xs (inserted_turn entry t)
      inserted_within e room =
          let more = placed_absent compare_func_app entry t.apps (lookup_none compare_func_app entry t.apps e) in
          record {
            after = record {
              begins = record {
                valid = b.valid;
                most = b.most;
                apps = table_place func_app_ordered entry t.apps (canonical_entry c ls x new.valid).valid b.apps (λ _. room);
                unreserved = placed_all compare_func_app entry (Unreserved g) t.apps (canonical_unreserved g ls x new.unreserved) b.unreserved;
                well_applied = placed_all compare_func_app entry (WellApplied g) t.apps (canonical_well_applied g ls x new.well_applied) b.well_applied;
              };
              idle = λ q. no_test refl (or_second t.worked true q);
            };
            advances = h.advances;
            works = λ q. elim (less_or w.merges t.core.merges) [
              | inl l ↦ inl (omega (arith, l, h.advances.added))
              | inr l ↦ inr (inl (omega (arith, (h.still (omega (arith, l, h.advances.merges))).keys, more)))
            ];
            quiet = λ q. no_test refl (or_second t.worked true q);
            drains = h.drains;
            still = λ q.
                let s = h.still q in
                record {
                  roots = s.roots;
                  canon = placed_all compare_func_app entry (Canon ls) t.apps (canon_image ls x) s.canon;
                  keys = omega (arith, s.keys, more);
                };
          }

      kept_within : Within g c w xs (kept_turn t)
      kept_within = subst (λ (worked : Bool). Within g c w xs (turn t.core t.apps worked)) (sym (or_none t.worked)) h
        where
          or_none : (a : Bool) → (a || false) ≡ a
          or_none true = refl
          or_none false = refl

      full_within : Within g c w xs (full_turn t)
      full_within =
          let a = met_advances c no_room (Memᴰ.head refl) t.core b.valid in
          record {
            after = record {
              begins = record { valid = a.valid; most = b.most; apps = b.apps; unreserved = b.unreserved; well_applied = b.well_applied };
              idle = h.after.idle;
            };
            advances = advances_then c w t.core _ h.advances a;
            works = h.works;
            quiet = h.quiet;
            drains = h.drains;
            still = λ q. let s = h.still q in record { roots = s.roots; canon = s.canon; keys = s.keys };
          }

      module _ (y : FuncApp) (e : found_in t x ≡ some y) (other : y.result ≢ entry.result) (room : length t.core.pairs < max_pairs) where
        -- the stored entry is one of the table
        old : (P : FuncApp → Type 0) → All P t.apps → P y
        old P k = all_at P t.apps k y (lookup_sound compare_func_app entry t.apps e).0

        stored : y.result < c.els
        stored = (old (FuncAppValid c) b.apps.each).result

        own : entry.result < c.els
        own = (canonical_entry c ls x new.valid).valid.result

        -- the two roots
        abbrev one : ℕ
        one = root_of ls y.result

        abbrev two : ℕ
        two = root_of ls entry.result

        says : (equate ls t.core.pairs y.result entry.result).differ ≡ not (eqb one two)
        says = differ_says ls t.core.pairs y.result entry.result b.valid.links (omega (arith, stored, b.valid.els))

        -- where the applications are rewritten, two results that differ have different roots
        canon_differs : All (Canon ls) t.apps → (equate ls t.core.pairs y.result entry.result).differ ≡ true
        canon_differs k =
            let apart : one ≢ two =
            (λ z. other (sym (canon_result ls y (old (Canon ls) k)) ∙ z ∙ (canonical_entry c ls x new.valid).root)) in
            says ∙ ap not (ne_eqb one two apart)

        queued_within : Within g c w xs (queued_turn y.result entry.result t)
        unfolding equate
        queued_within =
            let p = pair y.result entry.result in
            let ps = t.core.pairs in
            let links = b.valid.els in
            let r = equate_relinked ls ps y.result entry.result b.valid.links (omega (arith, stored, links)) (omega (arith, own, links)) in
            let ks = (equate ls ps y.result entry.result).links in
            let differ = (equate ls ps y.result entry.result).differ in
            let a = relinked_advances c ks (p ∷ ps) t.core b.valid r.formed r.long r.roots (record { lhs = stored; rhs = own }, b.valid.pairs) in
            record {
              after = record {
                begins = record { valid = a.valid; most = room; apps = b.apps; unreserved = b.unreserved; well_applied = b.well_applied };
                idle = λ q.
                    let s = h.still (h.quiet (or_first t.worked differ q)) in
                    no_test (canon_differs s.canon) (or_second t.worked differ q);
              };
              advances = advances_then c w t.core _ h.advances a;
              works = λ q. elim (or_either t.worked differ q) [
                | inl z ↦ elim (h.works z) [
                  | inl l ↦ inl l
                  | inr k ↦ elim k [
                    | inl l ↦ inr (inl l)
                    | inr s ↦ inr (inr (apart_more ks p ps (apart_alike ls ks r.roots ps ∙ s)))
                  ]
                ]
                | inr z ↦
                    let apart = eqb-false one two (not-true (eqb one two) (sym says ∙ z)) in
                    inr (inr (apart_first ks p ps (λ q. apart (sym (r.roots y.result) ∙ q ∙ r.roots entry.result))))
              ];
              quiet = λ q. h.quiet (or_first t.worked differ q);
              drains = h.drains;
              still = λ q.
                  let s = h.still q in
                  record {
                    roots = λ z. r.roots z ∙ s.roots z;
                    canon = all_map (λ (z : FuncApp) (k : Canon ls z). canonical_alike ls ks r.roots z ∙ k) t.apps s.canon;
                    keys = s.keys;
                  };
            }

      apply_within : Within g c w xs (apply_turn x t)
      apply_within = apply_cases (Within g c w xs) x t inserted_within (λ y e same. kept_within) queued_within full_within

    operation_within : RoundLaw operation_pass (Within g c w xs) (Within g c w xs)
    unfolding operation_pass
    operation_within = record {
      leads = λ t h.
          let b = h.after.begins in
          obey_all_keeps_if (Within g c w xs) (Admitted g c) (λ e. e < n)
          (λ u k. all_map (λ x z. z.result) u.apps k.after.begins.apps.each) (λ x u new k. apply_within x u new k)
          (map_laws g.models t.apps) t (laws_may g v n t.apps b.apps.each b.unreserved) h;
    }

    all_within : Along RoundLaw passes (Begun g c w xs) (Within g c w xs)
    unfolding passes
    all_within =
        (Drained g c w xs, drain_within, (Within g c w xs, functionality_within, (Within g c w xs, typing_within, (Within g c w xs, operation_within, refl))))

  -- The round.

  pub round_within : (w : Core) (xs : List FuncApp) → Begins g c w xs → Within g c w xs (round g preds xs w)
  unfolding round
  round_within w xs b =
      run_along RoundLaw g preds (λ p A B l. l.leads) passes (Begun g c w xs) (Within g c w xs) (all_within w xs) (turn w xs false)
      (record { begins = b; is = refl })
