-- A close, where no element is marked.
use mathlib.Core.Path.{◌≡◌, refl, sym, subst, ap, ◌∙◌}
use mathlib.Core.Bool.{true}
use mathlib.Core.List.{[]}
use mathlib.Core.Option.{Option, none, some}
use Prim.Native.Nat.{ℕ, ◌+◌, ◌≤◌, ◌<◌}
use native.Mathlib.Omega.{arith}
use Rattle.ids.specs.Answers.{Outcome, outcome, accepted, refusing, accepting}
use Rattle.ids.proofs.Judging.{NoneApplies, decided_by}
use Rattle.ids.proofs.Sorted.{All, Sorted, no_test}
use Rattle.signature.specs.Model.{Sig}
use Rattle.semantics.specs.Structure.{Structure, compare_func_app}
use Rattle.semantics.specs.Types.{Core, impose_all}
use Rattle.semantics.specs.Close.{Rounds, rounds, fuel, Closed, core_at_start, canonicalise_refs, with_core, CloseRun, imposed_after, close_run, report_of}
use Rattle.semantics.specs.Close.{after_close, met_causes, close_causes, close_by, close}
use Rattle.semantics.specs.MapLaws.{map_laws}
use Rattle.semantics.specs.Valid.{Valid}
use Rattle.semantics.specs.Calls as calls
use Rattle.semantics.specs.Calls.{closed, Machine, machine, Step, close_rule, acceptance, leaves}
use Rattle.semantics.proofs.Counts.{roots}
use Rattle.semantics.proofs.Judged.{step_by_lem}
use Rattle.semantics.proofs.Canonical.{Canon}
use Rattle.semantics.proofs.Operations.{NoOperation}
use Rattle.validity.proofs.Closing.{close_ends}
use Rattle.history.proofs.Operations.{Held}
use Rattle.history.proofs.Imposing.{OnlyFactsGrew}
use Rattle.history.proofs.Passes.{Ready, Sound, sound_then, Passed, passed_then, grown_passed, unmarked_grown}
use Rattle.history.proofs.Rounds.{rounds_passed, rounds_few, rounds_ended}

-- what no cause refuses met no number
pub unmet : (o : Option ℕ) → NoneApplies (met_causes o) → o ≡ none
unfolding met_causes
unmet none h = refl
unmet (some n) h = no_test refl h.0

-- an accepted close, which answered a: it met no number, and v is its effect
pub record AcceptedClose {X : Type 0} (c : CloseRun) (a : Closed) (effect v : X) : Type 0 where
  pub met : c.core.met ≡ none
  pub answer : a ≡ report_of c
  pub after : v ≡ effect

pub accepted_close : (g : Sig) (s : Structure) (a : Closed) → (close g s).answer ≡ accepted a
    → AcceptedClose (close_run g s) a (after_close (close_run g s) s) (close g s).after
unfolding close close_by outcome
accepted_close g s a =
    decided_by (λ (o : Outcome Closed Structure). o.answer ≡ accepted a → AcceptedClose run a (after_close run s) o.after) (close_causes run)
    (refusing s) (accepting (report_of run) (after_close run s)) (λ n q e. let z : ◌≡◌ {A = ℕ} 0 1 = cc in absurd (omega arith))
    (λ none-applies e. record { met = unmet run.core.met none-applies; answer = cc; after = refl })
  where
    run : CloseRun
    run = close_run g s

-- what the call leaves, having answered a
abbrev pub closed_machine : Machine → Closed → Machine
closed_machine m a = machine m.sig (leaves true (closed a) (after_close (close_run m.sig m.structure) m.structure))

pub closed_step : (m : Machine) (a : Closed) → (calls.step calls.close m).answer ≡ closed a
    → AcceptedClose (close_run m.sig m.structure) a (closed_machine m a) (calls.step calls.close m).after
unfolding calls.rule close_rule acceptance leaves
closed_step m a =
    step_by_lem calls.close m (λ (t : Step). t.answer ≡ closed a → AcceptedClose run a (closed_machine m a) t.after)
    (λ n q e. let z : ◌≡◌ {A = ℕ} 0 1 = cc in absurd (omega arith))
    (λ none-applies e.
    let same : a ≡ report_of run = cc in
    record { met = unmet run.core.met none-applies; answer = same; after = ap (closed_machine m) (sym same) })
  where
    run : CloseRun
    run = close_run m.sig m.structure

-- what an accepted close leaves of s, having answered c
pub record ClosedSoundly (g : Sig) (n total : ℕ) (s v : Structure) (c : Closed) : Type 1 where
  pub ready : Ready n (roots v.links) (core_at_start v) v.func_apps
  pub sound : Sound g.models (core_at_start s) s.func_apps (core_at_start v) v.func_apps
  pub pairs : v.pairs ≡ []
  pub sorted : Sorted compare_func_app v.func_apps
  pub canon : All (Canon v.links) v.func_apps
  -- the laws of identities and composites hold
  pub held : All (Held v.links v.func_apps) (map_laws g.models v.func_apps)
  pub sum : roots v.links + c.merges ≡ total
  -- where none of id or comp is applied
  pub few : All (NoOperation g.models) s.func_apps → c.rounds ≤ c.merges + 2

module _ (n total : ℕ) (g : Sig) (s : Structure) (valid : Valid g s) (ready : Ready n total (core_at_start s) s.func_apps) (enough : total < fuel) where
  abbrev r : Rounds
  r = rounds g s.pred_apps s.func_apps (core_at_start s)

  rounds_sound : Passed g.models n total (core_at_start s) s.func_apps r.core r.apps
  rounds_sound = rounds_passed n total g s.pred_apps s.func_apps (core_at_start s) ready

  abbrev w : Core
  w = impose_all s.impositions r.core

  abbrev run : CloseRun
  run = close_run g s

  grown : OnlyFactsGrew r.core w
  grown = unmarked_grown s.impositions r.core rounds_sound.ready.plain

  -- the rounds, and the impositions, which alter facts only
  passed : Passed g.models n total (core_at_start s) s.func_apps w r.apps
  passed = passed_then rounds_sound (grown_passed g.models n total r.core w r.apps grown rounds_sound.ready)

  -- `canonicalise_refs` does not bear on a partition
  after_sound : Sound g.models w r.apps (core_at_start (after_close run s)) (after_close run s).func_apps
  unfolding core_at_start after_close canonicalise_refs with_core imposed_after close_run
  after_sound = record {
    on = λ R S q law obeys f. record { rooted = f.rooted; pairs = f.pairs; apps = f.apps };
    back = λ R S q law f. record { rooted = f.rooted; pairs = f.pairs; apps = f.apps };
  }

  -- a close that met no number
  pub run_soundly : (close_run g s).core.met ≡ none → ClosedSoundly g n total s (after_close (close_run g s) s) (report_of (close_run g s))
  unfolding after_close canonicalise_refs with_core report_of core_at_start imposed_after close_run
  run_soundly m =
      let ended = rounds_ended g s.pred_apps r (close_ends g s valid) (grown.met m) in
      record {
        ready = record {
          kept = record { formed = passed.ready.kept.formed; long = passed.ready.kept.long; sum = omega arith };
          pairs = passed.ready.pairs;
          args = passed.ready.args;
          results = passed.ready.results;
          plain = passed.ready.plain;
        };
        sound = sound_then passed.sound after_sound;
        pairs = grown.pairs ∙ ended.pairs;
        sorted = ended.sorted;
        canon = subst (λ ls. All (Canon ls) r.apps) (sym grown.links) ended.canon;
        held = subst (λ ls. All (Held ls r.apps) (map_laws g.models r.apps)) (sym grown.links) ended.held;
        sum = passed.ready.kept.sum;
        few = λ neither.
            omega (arith, rounds_few n total g s.pred_apps s.func_apps (core_at_start s) ready refl enough neither, grown.merges);
      }

  pub closed_soundly : (c : Closed) → (close g s).answer ≡ accepted c → ClosedSoundly g n total s (close g s).after c
  closed_soundly c e =
      let a = accepted_close g s c e in
      rw a.after (subst (ClosedSoundly g n total s (after_close run s)) (sym a.answer) (run_soundly a.met))
