-- Every state that acts reach, and of which something is noted, is the one that the noted list of calls alone comes to.
use mathlib.Core.Path.{◌≡◌, refl, sym, ap, subst, ◌∙◌}
use mathlib.Core.Bool.{Bool, true, false}
use mathlib.Core.List.{List, [], ◌∷◌, ◌++◌}
use mathlib.Core.Option.{Option, none, some, map, some-injective}
use Prim.Native.Nat.{ℕ, zero, suc}
use Rattle.ids.specs.Answers.{Answered, accepted, refused}
use Rattle.ids.proofs.Sorted.{All, all_join}
use Rattle.signature.specs.Model.{Sig}
use Rattle.semantics.specs.Structure.{Structure}
use Rattle.semantics.specs.Calls.{Call, Machine, machine, start, step, after_calls}
use Rattle.semantics.proofs.Cases.{none_some}
use Rattle.validity.proofs.Calls.{ValidMachine, calls_valid}
use Rattle.history.specs.Book.{History, noted, next, run, begin, history}
use Rattle.history.specs.Settled.{Event, event, trace}
use Rattle.history.proofs.Histories.{after_history, history_next}
use Rattle.file.specs.File.{store, load}
use Rattle.file.proofs.LoadStore.{load_store}
use Rattle.parking.specs.Same.{same_sig}
use Rattle.parking.specs.Parking.{Act, call, park, restore, load_other, restart, Notes, notes, no_notes, taken_down, notes_of, Parked, State, called}
use Rattle.parking.specs.Parking.{parked_now, loaded, taken_back, file_at, restored, act, acts, fresh, acted, Continues}
use Rattle.parking.proofs.Same.{same_sig_lem}

-- One call more.

trace_next : (ks : List Call) (k : Call) (m : Machine) (es : List Event)
    → trace (ks ++ (k ∷ [])) m es ≡ event k (step k (after_calls ks m)).answer ∷ trace ks m es
unfolding trace after_calls
trace_next [] k m es = refl
trace_next (j ∷ ks) k m es = trace_next ks k (step j m).after (event j (step j m).answer ∷ es)

notes_next : (ks : List Call) (k : Call) → taken_down k (step k (history ks).machine).answer (notes_of ks) ≡ notes_of (ks ++ (k ∷ []))
unfolding taken_down notes_of next noted
notes_next ks k i =
    notes (ks ++ (k ∷ [])) (sym (history_next ks k) i).book
    ((ap (λ (m : Machine). event k (step k m).answer ∷ trace ks start []) (sym (after_history ks)) ∙ sym (trace_next ks k start [])) i)

pub step_continues : (k : Call) (m : Machine) (n : Notes) → Continues m n → Continues (step k m).after (taken_down k (step k m).answer n)
unfolding taken_down next noted
step_continues k m n c = record {
  machine = ap (λ (z : Machine). (step k z).after) c.machine ∙ ap (λ (h : History). h.machine) (sym (history_next n.list k));
  notes = (λ i. taken_down k (step k (c.machine i)).answer (c.notes i)) ∙ notes_next n.list k;
}

-- acts after acts go on from where those came to
pub acts_append : (l j : List Act) (s : State) → acts (l ++ j) s ≡ acts j (acts l s)
unfolding acts
acts_append [] j s = refl
acts_append (a ∷ l) j s = acts_append l j (act a s)

pub acted_next : (l : List Act) (a : Act) → acted (l ++ (a ∷ [])) ≡ act a (acted l)
unfolding acted acts
acted_next l a = acts_append l (a ∷ []) fresh

-- What holds of a state: what is noted of it is so, and so is what was noted at the store of each file kept.

abbrev pub Noted : Machine → Option Notes → Type 0
Noted m none = Unit {0}
Noted m (some n) = Continues m n

pub record Kept (p : Parked) : Type 0 where
  pub structure : Structure
  pub bytes : p.bytes ≡ store structure
  pub noted : Noted (machine p.sig structure) p.notes

pub record Sound (s : State) : Type 0 where
  pub now : Noted s.machine s.notes
  pub files : All Kept s.files

-- a call
called_noted : (k : Call) (m : Machine) (known : Option Notes) → Noted m known
    → Noted (step k m).after (map (taken_down k (step k m).answer) known)
called_noted k m none c = tt
called_noted k m (some n) c = step_continues k m n c

-- a list that begins
pub begins : Continues start no_notes
unfolding no_notes notes_of history run begin trace
begins = record { machine = refl; notes = refl }

kept_at : (i : ℕ) (ps : List Parked) → All Kept ps → (p : Parked) → file_at i ps ≡ some p → Kept p
unfolding file_at
kept_at i [] all p e = none_some e
kept_at zero (q ∷ ps) all p e = subst Kept (some-injective q p e) all.0
kept_at (suc i) (q ∷ ps) all p e = kept_at i ps all.1 p e

continues_valid : (m : Machine) (n : Notes) → Continues m n → ValidMachine m
continues_valid m n c = subst ValidMachine (after_history n.list ∙ sym c.machine) (calls_valid n.list)

-- under the signature of the store a load gives the stored structure, so that what was noted of it is true of what is loaded
loaded_noted : (g : Sig) (p : Parked) (x : Structure) → Kept p → load g p.bytes ≡ accepted x → Noted (machine g x) (taken_back g p)
unfolding taken_back
loaded_noted g p x kept e = go (same_sig g p.sig) refl p.notes kept.noted
  where
    go : (b : Bool) → same_sig g p.sig ≡ b → (known : Option Notes) → Noted (machine p.sig kept.structure) known
        → Noted (machine g x) (elim b as (λ _. Option Notes) [ true ↦ known | false ↦ none ])
    go false q known c = tt
    go true q none c = tt
    go true q (some n) c =
        let g-same = same_sig_lem g p.sig q in
        let v = continues_valid (machine p.sig kept.structure) n c in
        let back : load g p.bytes ≡ accepted kept.structure = rw (g-same, kept.bytes) (load_store p.sig kept.structure v) in
        let x-same : kept.structure ≡ x = cc in
        subst (λ (m : Machine). Continues m n) (λ i. machine (sym g-same i) (x-same i)) c

loaded_sound : (o : Answered Structure) (known : Option Notes) (s : State)
    → ((x : Structure) → o ≡ accepted x → Noted (machine s.machine.sig x) known) → Sound s → Sound (loaded o known s)
unfolding loaded
loaded_sound (refused n) known s true_of c = c
loaded_sound (accepted x) known s true_of c = record { now = true_of x refl; files = c.files }

restored_sound : (o : Option Parked) (s : State) → ((p : Parked) → o ≡ some p → Kept p) → Sound s → Sound (restored o s)
unfolding restored
restored_sound none s kept c = c
restored_sound (some p) s kept c =
    let g = s.machine.sig in
    loaded_sound (load g p.bytes) (taken_back g p) s (λ x e. loaded_noted g p x (kept p refl) e) c

act_sound : (a : Act) (s : State) → Sound s → Sound (act a s)
unfolding act called parked_now
act_sound (call k) s c = record { now = called_noted k s.machine s.notes c.now; files = c.files }
act_sound park s c = record {
  now = c.now;
  files = all_join Kept s.files (parked_now s ∷ []) c.files
      (record { structure = s.machine.structure; bytes = refl; noted = c.now }, tt);
}
act_sound (restore i) s c = restored_sound (file_at i s.files) s (kept_at i s.files c.files) c
act_sound (load_other bytes) s c = loaded_sound (load s.machine.sig bytes) none s (λ x e. tt) c
act_sound restart s c = record { now = begins; files = c.files }

acts_sound : (l : List Act) (s : State) → Sound s → Sound (acts l s)
unfolding acts
acts_sound [] s c = c
acts_sound (a ∷ l) s c = acts_sound l (act a s) (act_sound a s c)

pub acted_sound : (l : List Act) → Sound (acted l)
unfolding acted fresh
acted_sound l = acts_sound l fresh (record { now = begins; files = tt })

-- For every list of acts.
pub continues : (l : List Act) (n : Notes) → (acted l).notes ≡ some n → Continues (acted l).machine n
continues l n e = rw e at (acted_sound l).now
