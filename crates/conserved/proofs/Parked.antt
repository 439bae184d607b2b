-- The conservation rule, M-101's reading and validity over stores, loads and shutdowns (02, M-104), for the code's own values.
use Prim.Native.Nat.{ℕ}
use mathlib.Core.Path.{◌≡◌, refl, sym, ap, ◌∙◌, subst}
use mathlib.Core.Bool.{Bool, true, false}
use mathlib.Core.List.{List, [], ◌∷◌, ◌++◌, map, map-append}
use mathlib.Core.Option
use mathlib.Core.Option.{Option, none, some}
use contract.Lifetimes.{Lfts}
use native.Mathlib.Omega.{arith}
use lib.ListN.{length, take, drop}
use lib.Seq.{take-append_seam}
use Rattle.ids.specs.Answers.{Answered, accepted, refused, first_of, decided, Outcome, refusing, accepting, outcome}
use Rattle.ids.proofs.Judging.{decided_by}
use Rattle.unification.specs.Roots.{links_of}
use Rattle.signature.specs.Model.{Sig, sig_of}
use Rattle.semantics.specs.Structure as model
use Rattle.semantics.specs.Types.{any_marked}
use Rattle.semantics.specs.Close.{Closed}
use Rattle.semantics.specs.Conflicts.{Conflict, type_conflicts_of, conflict_finds}
use Rattle.semantics.specs.Calls as calls
use Rattle.semantics.specs.Calls.{Call, Answer, closed, is_accepted, merges_of, machine, Step, start}
use Rattle.structure.specs.declared.Machine.{Machine}
use Rattle.structure.specs.declared.Structure.{Structure}
use Rattle.structure.specs.View.{structure_of, machine_of}
use Rattle.history.specs.Book.{fed, RanCloses, Conserved}
use Rattle.history.specs.Settled.{settled_after}
use Rattle.history.proofs.SecondClose.{no_change}
use Rattle.validity.proofs.Calls.{ValidMachine}
use Rattle.validity.proofs.Parents.{first_twos_below, conflicts_first_two}
use Rattle.file.specs.File.{store, store_causes, store_into, load}
use Rattle.std.specs.declared.result.Result.{Result}
use Rattle.std.specs.declared.result.Result.TheVariants.{Ok, Err}
use Rattle.loading.specs.declared.Loading.{Loading}
use Rattle.loading.specs.View.{LoadingM, loading, answer_of}
use Rattle.parking.specs.Parking.{Act, Notes, no_notes, taken_down, Parked, parked, State}
use Rattle.parking.specs.Parking.{called, parked_now, loaded, taken_back, file_at, restored, act, acts, fresh, acted, ParkedConservation}
use Rattle.parking.specs.Parking as parking
use Rattle.parking.proofs.Continuing.{acted_next}
use Rattle.parking.proofs.Conservation.{parked_conservation, settled_is_noted, settled_closes_noted}
use Rattle.parking.proofs.Validity.{acted_valid}
use Rattle.conserved.specs.Run.{Made, Fresh}
use Rattle.conserved.specs.Acts.{Lent, LentMut, Stores, Loads, with_loaded, Did, nothing, call, park, restore, load_other, restart}
use Rattle.conserved.specs.Acts.{noted_load, noted_at, noted_of}
use Rattle.conserved.proofs.Composed.{made_step}
use Rattle.conserved.proofs.Settled.{SaysSettled}

-- the files kept, as their bytes
abbrev pub bytes_of : List Parked → List (List ℕ)
bytes_of ps = map (λ (p : Parked). p.bytes) ps

-- the code's values, and the bytes of the files kept, are those of a state of the definitions
pub record Stands (v : Machine) (kept : List (List ℕ)) (s : State) : Type 0 where
  pub machine : machine_of v ≡ s.machine
  pub files : kept ≡ bytes_of s.files

-- the same, and what is noted and kept by the code's own answers and values is so too
record Comes (v : Machine) (kept : List (List ℕ)) (known : Option Notes) (ps : List Parked) (s : State) : Type 0 where
  stands : Stands v kept s
  notes : known ≡ s.notes
  parked : ps ≡ s.files

-- What a store that is accepted leaves at the front of the buffer is the file of the structure.

pub stored_file : (s : model.Structure) (buffer after : List ℕ) (n : ℕ) → accepting n after ≡ store_into s buffer → take n after ≡ store s
unfolding store_into store_causes outcome
stored_file s buffer after n =
    let file = store s in
    decided_by (λ (o : Outcome ℕ (List ℕ)). accepting n after ≡ o → take n after ≡ file) (store_causes s buffer) (refusing buffer)
    (accepting (length file) (file ++ drop (length file) buffer))
    (λ m q e. let apart : accepted n ≡ refused m = ap (λ (o : Outcome ℕ (List ℕ)). o.answer) e in cc)
    (λ none e.
    let answered : accepted n ≡ accepted (length file) = ap (λ (o : Outcome ℕ (List ℕ)). o.answer) e in
    let many : n ≡ length file = cc in
    (λ i. take (many i) (e i).after) ∙ take-append_seam file (drop (length file) buffer))

-- A load: its answer is the definitions', and so are the values and what is noted after it.

answers_itself : (o : Answered model.Structure) → (loading o).answer ≡ o
unfolding loading
answers_itself (accepted x) = refl
answers_itself (refused n) = refl

module _ {v : Machine} {files : List (List ℕ)} {s : State} (at : Stands v files s) where
  with_loaded_lem : (o : Result Unit ℕ) (x : Structure) (given : Option Notes)
      → Comes (with_loaded o x v) files (noted_load o given s.notes) s.files (loaded (answer_of o (structure_of x)) given s)
  unfolding loaded
  with_loaded_lem (Ok u) x given = record {
    stands = record { machine = ap (λ (m : calls.Machine). machine m.sig (structure_of x)) at.machine; files = at.files };
    notes = refl;
    parked = refl;
  }
  with_loaded_lem (Err n) x given = record { stands = at; notes = refl; parked = refl }

  after_load : (κs : Lfts 1) (bytes : Lent) (r : Loading) (given : Option Notes) → Loads v κs bytes r
      → Comes (with_loaded r.answer r.structure v) files (noted_load r.answer given s.notes) s.files
      (loaded (load s.machine.sig bytes.now) given s)
  after_load κs bytes r given did =
      let answered : answer_of r.answer (structure_of r.structure) ≡ load s.machine.sig bytes.now =
      ap (λ (x : LoadingM). x.answer) did ∙ answers_itself (load (sig_of v.signature) bytes.now)
      ∙ ap (λ (m : calls.Machine). load m.sig bytes.now) at.machine in
      subst (λ (o : Answered model.Structure).
      Comes (with_loaded r.answer r.structure v) files (noted_load r.answer given s.notes) s.files (loaded o given s)) answered
      (with_loaded_lem r.answer r.structure given)

-- the file at a place, by the bytes kept
file_of : (before : List (List ℕ)) (bytes : List ℕ) (later : List (List ℕ)) (ps : List Parked) → before ++ (bytes ∷ later) ≡ bytes_of ps
    → (p : Parked) × (file_at (length before) ps ≡ some p) × (p.bytes ≡ bytes)
unfolding file_at
file_of [] bytes later [] e = let z : ◌≡◌ {A = ℕ} 0 1 = cc in absurd (omega arith)
file_of [] bytes later (p ∷ ps) e = (p, refl, cc)
file_of (b ∷ before) bytes later [] e = let z : ◌≡◌ {A = ℕ} 0 1 = cc in absurd (omega arith)
file_of (b ∷ before) bytes later (p ∷ ps) e = file_of before bytes later ps cc

after_restore : {v : Machine} {files : List (List ℕ)} {s : State} (before later : List (List ℕ)) (κs : Lfts 1) (bytes : Lent) (r : Loading)
    → files ≡ before ++ (bytes.now ∷ later) → Loads v κs bytes r → Stands v files s
    → Comes (with_loaded r.answer r.structure v) files (noted_load r.answer (noted_at (sig_of v.signature) (file_at (length before) s.files)) s.notes)
    s.files (act (parking.restore (length before)) s)
unfolding act restored
after_restore {v} {files} {s} before later κs bytes r is did at =
    let f = file_of before bytes.now later s.files (sym is ∙ at.files) in
    let p = f.0 in
    let left = with_loaded r.answer r.structure v in
    let g : sig_of v.signature ≡ s.machine.sig = ap (λ (m : calls.Machine). m.sig) at.machine in
    let under : Comes left files (noted_load r.answer (taken_back (sig_of v.signature) p) s.notes) s.files
    (loaded (load s.machine.sig p.bytes) (taken_back s.machine.sig p) s) =
    subst (λ (b : List ℕ). Comes left files (noted_load r.answer (taken_back (sig_of v.signature) p) s.notes) s.files
    (loaded (load s.machine.sig b) (taken_back s.machine.sig p) s)) (sym f.2)
    (subst (λ (h : Sig). Comes left files (noted_load r.answer (taken_back h p) s.notes) s.files
    (loaded (load s.machine.sig bytes.now) (taken_back s.machine.sig p) s)) (sym g)
    (after_load at κs bytes r (taken_back s.machine.sig p) did)) in
    subst (λ (o : Option Parked). Comes left files (noted_load r.answer (noted_at (sig_of v.signature) o) s.notes) s.files (restored o s)) (sym f.1) under

-- a store
after_store : {v : Machine} {files : List (List ℕ)} {s : State} (κs : Lfts 1) (buffer : LentMut) (n : ℕ) (after : LentMut) → Stores v κs buffer n after
    → Stands v files s
    → Comes v (files ++ (take n after.now ∷ [])) s.notes (s.files ++ (parked (take n after.now) (sig_of v.signature) s.notes ∷ []))
    (act parking.park s)
unfolding act parked_now
after_store {v} {files} {s} κs buffer n after did at =
    let file : take n after.now ≡ store s.machine.structure =
    stored_file (structure_of v.structure) buffer.now after.now n did ∙ ap (λ (m : calls.Machine). store m.structure) at.machine in
    record {
      stands = record {
        machine = at.machine;
        files = (λ i. at.files i ++ (file i ∷ [])) ∙ sym (map-append (λ (p : Parked). p.bytes) s.files (parked_now s ∷ []));
      };
      notes = refl;
      parked = λ i. s.files ++ (parked (file i) (at.machine i).sig s.notes ∷ []);
    }

-- what `new` gives is the empty signature and structure
fresh_start : {v : Machine} → Fresh v → machine_of v ≡ start
unfolding start
fresh_start f i = machine (f.sig i) (f.str i)

-- a call
after_call : {v w : Machine} {files : List (List ℕ)} {k : Call} {a : Answer} {s : State} → Made v k a w → Stands v files s
    → Comes w files (Option.map (taken_down k a) s.notes) s.files (act (parking.call k) s)
unfolding act called
after_call {k = k} {s = s} m at =
    let stepped = made_step m ∙ ap (calls.step k) at.machine in
    record {
      stands = record { machine = ap (λ (t : Step). t.after) stepped; files = at.files };
      notes = ap (λ (t : Step). Option.map (taken_down k t.answer) s.notes) stepped;
      parked = refl;
    }

-- a load of any other bytes
after_other : {v : Machine} {files : List (List ℕ)} {s : State} (κs : Lfts 1) (bytes : Lent) (r : Loading) → Loads v κs bytes r → Stands v files s
    → Comes (with_loaded r.answer r.structure v) files (noted_load r.answer none s.notes) s.files (act (parking.load_other bytes.now) s)
unfolding act
after_other κs bytes r did at = after_load at κs bytes r none did

-- a shutdown
after_restart : {v w : Machine} {files : List (List ℕ)} {s : State} → Fresh w → Stands v files s
    → Comes w files (some no_notes) s.files (act parking.restart s)
unfolding act
after_restart f at = record { stands = record { machine = fresh_start f; files = at.files }; notes = refl; parked = refl }

-- The acts that the code did are those of the definitions, from any state that its values stand for.
pub did_acts : {v z : Machine} {files kept : List (List ℕ)} {l : List Act} → Did v files l z kept → (s : State) → Stands v files s
    → Stands z kept (acts l s)
unfolding acts
did_acts nothing s at = at
did_acts (call m d) s at = did_acts d _ (after_call m at).stands
did_acts (park κs buffer n after did d) s at = did_acts d _ (after_store κs buffer n after did at).stands
did_acts (restore before later κs bytes r is did d) s at = did_acts d _ (after_restore before later κs bytes r is did at).stands
did_acts (load_other κs bytes r did d) s at = did_acts d _ (after_other κs bytes r did at).stands
did_acts (restart f d) s at = did_acts d _ (after_restart f at).stands

noted_as : {v z : Machine} {files kept : List (List ℕ)} {known : Option Notes} {ps : List Parked} {s : State} {l : List Act} (d : Did v files l z kept)
    → Comes v files known ps s → noted_of d s.notes s.files ≡ (acts l s).notes → noted_of d known ps ≡ (acts l s).notes
noted_as d c e = (λ i. noted_of d (c.notes i) (c.parked i)) ∙ e

-- and what is noted by the code's own answers is what the definitions note
pub did_noted : {v z : Machine} {files kept : List (List ℕ)} {l : List Act} (d : Did v files l z kept) (s : State) → Stands v files s
    → noted_of d s.notes s.files ≡ (acts l s).notes
unfolding acts noted_of
did_noted nothing s at = refl
did_noted (call m d) s at = let c = after_call m at in noted_as d c (did_noted d _ c.stands)
did_noted (park κs buffer n after did d) s at = let c = after_store κs buffer n after did at in noted_as d c (did_noted d _ c.stands)
did_noted (restore before later κs bytes r is did d) s at = let c = after_restore before later κs bytes r is did at in noted_as d c (did_noted d _ c.stands)
did_noted (load_other κs bytes r did d) s at = let c = after_other κs bytes r did at in noted_as d c (did_noted d _ c.stands)
did_noted (restart f d) s at = let c = after_restart f at in noted_as d c (did_noted d _ c.stands)

-- Every list of acts that the code does from fresh values, with no file kept.
module _ {v w : Machine} {kept : List (List ℕ)} {l : List Act} (f : Fresh v) (d : Did v [] l w kept) where
  pub did_acted : Stands w kept (acted l)
  unfolding acted fresh
  did_acted = did_acts d fresh (record { machine = fresh_start f; files = refl })

  -- by the code's own answers
  pub did_acted_noted : noted_of d (some no_notes) [] ≡ (acted l).notes
  unfolding acted fresh
  did_acted_noted = did_noted d fresh (record { machine = fresh_start f; files = refl })

  pub code_acts_valid : ValidMachine (machine_of w)
  code_acts_valid = subst ValidMachine (sym did_acted.machine) (acted_valid l)

  -- A conflict report after it has, of each class with two facts or more, as roots, the first two (02, M-105).
  pub code_first_two : {z : Machine} {cs : List Conflict} {n : ℕ} → Made w calls.type_conflicts (calls.conflicting cs n) z
      → cs ≡ first_twos_below (structure_of w.structure) (length (structure_of w.structure).links)
  unfolding calls.step calls.step_by calls.rule calls.acceptance decided first_of
  code_first_two {cs = cs} {n = n} m =
      let s = structure_of w.structure in
      let told : calls.conflicting cs n ≡ calls.conflicting (type_conflicts_of s) (conflict_finds s) = ap (λ (x : Step). x.answer) (made_step m) in
      let same : cs ≡ type_conflicts_of s = cc in
      same ∙ conflicts_first_two (sig_of w.signature) s code_acts_valid

  -- For every close or settle after it that is accepted, where the rule applies when it returns, with no element marked up to then: what `Conserved` says
  -- of the book that is noted, of the links of the structure that this call hands back, and of the answers of the closes that it ran.
  module _ {z : Machine} {k : Call} {a : Answer} (m : Made w k a z) where
    next : Comes z kept (Option.map (taken_down k a) (acted l).notes) (acted l).files (acted (l ++ (parking.call k ∷ [])))
    next =
        subst (λ (s : State). Comes z kept (Option.map (taken_down k a) (acted l).notes) (acted l).files s) (sym (acted_next l (parking.call k)))
        (after_call m did_acted)

    pub code_parked_conserves : {cs : List Closed} (n : Notes) → RanCloses (machine_of w) k cs → (acted (l ++ (parking.call k ∷ []))).notes ≡ some n
        → any_marked n.book.marks ≡ false → Conserved n.book (links_of z.structure.unification) cs
    unfolding ParkedConservation
    code_parked_conserves {cs} n ran applies unmarked =
        subst (λ (x : calls.Machine). Conserved n.book x.structure.links cs) (sym next.stands.machine)
        (parked_conservation l k cs n (subst (λ (x : calls.Machine). RanCloses x k cs) did_acted.machine ran) applies unmarked)

    -- the same, by the code's own answers alone
    pub code_noted_conserves : {cs : List Closed} (n : Notes) → noted_of d (some no_notes) [] ≡ some n → RanCloses (machine_of w) k cs
        → any_marked (fed k (is_accepted a) (merges_of a) n.book).marks ≡ false
        → Conserved (fed k (is_accepted a) (merges_of a) n.book) (links_of z.structure.unification) cs
    unfolding taken_down
    code_noted_conserves n known ran unmarked =
        code_parked_conserves (taken_down k a n) ran
        (sym next.notes ∙ ap (λ (o : Option Notes). Option.map (taken_down k a) o) (sym did_acted_noted ∙ known)) unmarked

  -- Where something is noted: M-101's reading, by the calls of the noted list and their answers.
  module _ (n : Notes) (applies : (acted l).notes ≡ some n) where
    pub code_parked_settled : (a : Bool) → SaysSettled w a → a ≡ settled_after n.events
    code_parked_settled a says = says ∙ ap (λ (m : calls.Machine). m.structure.settled) did_acted.machine ∙ settled_is_noted l n applies

    -- "the next close then reports no change"
    pub code_parked_closes : SaysSettled w true → {a : Answer} {z : Machine} → Made w calls.close a z → a ≡ closed no_change
    code_parked_closes says m =
        let set : (acted l).machine.structure.settled ≡ true = ap (λ (m : calls.Machine). m.structure.settled) (sym did_acted.machine) ∙ sym says in
        ap (λ (s : Step). s.answer) (made_step m) ∙ ap (λ (m : calls.Machine). (calls.step calls.close m).answer) did_acted.machine
        ∙ (settled_closes_noted l n applies set).closes

  -- the same, by the code's own answers alone
  pub code_noted_settled : (n : Notes) → noted_of d (some no_notes) [] ≡ some n → (a : Bool) → SaysSettled w a → a ≡ settled_after n.events
  code_noted_settled n known = code_parked_settled n (sym did_acted_noted ∙ known)
