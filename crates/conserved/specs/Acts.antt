-- A list of calls, stores, loads and shutdowns (02, M-104) that the code made, by what its functions' contracts say of the values that they take and give.
use Rattle.std.specs.Prelude.{ℕ, ◌≡◌, List, [], ◌∷◌, ◌++◌, length, take}
use Rattle.std.proofs.Math.Option.{Option, none, some, map}
use Rattle.std.specs.declared.result.Result.{Result}
use Rattle.std.specs.declared.result.Result.TheVariants.{Ok, Err}
use contract.Lifetimes.{Lfts}
use Rattle.std.specs.Borrow.{Bor, MutBor}
use Rattle.signature.specs.Model.{Sig, sig_of}
use Rattle.semantics.specs.Calls.{Call, Answer}
use Rattle.structure.specs.declared.Structure.{Structure}
use Rattle.structure.specs.declared.Machine.{Machine}
use Rattle.storing.proofs.store.Reads as store-fn
use Rattle.loading.specs.declared.Loading.{Loading}
use Rattle.loading.proofs.load.Reads as load_fn
use Rattle.parking.specs.Parking as parking
use Rattle.parking.specs.Parking.{Act, Notes, no_notes, taken_down, Parked, parked, taken_back, file_at}
use Rattle.conserved.specs.Run.{with_structure, Made, Fresh}

-- a slice of bytes that is lent
abbrev pub Lent : Type 0
Lent = Bor (List ℕ)

-- one that is lent to be written to
abbrev pub LentMut : Type 0
LentMut = MutBor (List ℕ)

-- `store` wrote n bytes into a buffer, and left it so
abbrev pub Stores : Machine → Lfts 1 → LentMut → ℕ → LentMut → Type 0
Stores v κs buffer n after = store-fn.Learnt κs (v.structure, (buffer, tt)) (Ok n) (v.structure, (after, tt))

-- `load` of these bytes gave r
abbrev pub Loads : Machine → Lfts 1 → Lent → Loading → Type 0
Loads v κs bytes r = load_fn.Learnt κs (v.signature, (bytes, tt)) r (v.signature, (bytes, tt))

-- the values after a load: with the structure that it gave, or as they were
abbrev pub with_loaded : Result Unit ℕ → Structure → Machine → Machine
with_loaded (Ok u) s v = with_structure s v
with_loaded (Err n) s v = v

-- Acts were done one after the other, each on the values that the one before it left, with the bytes of the files kept so far, the first of them first.
-- A store that is refused keeps no file, and a load of a file that is not kept is none: neither is an act of the list.
pub data Did : Machine → List (List ℕ) → List Act → Machine → List (List ℕ) → Type 0 where
  nothing : {v : Machine} {files : List (List ℕ)} → Did v files [] v files
  call : {v w z : Machine} {files kept : List (List ℕ)} {k : Call} {a : Answer} {l : List Act} → Made v k a w → Did w files l z kept
      → Did v files (parking.call k ∷ l) z kept
  -- the file is what stands in the buffer, as far as `store` says that it wrote
  park : {v z : Machine} {files kept : List (List ℕ)} {l : List Act} (κs : Lfts 1) (buffer : LentMut) (n : ℕ) (after : LentMut) → Stores v κs buffer n after
      → Did v (files ++ (take n after.now ∷ [])) l z kept → Did v files (parking.park ∷ l) z kept
  -- the bytes that are lent are those of a file kept
  restore : {v z : Machine} {files kept : List (List ℕ)} {l : List Act} (before later : List (List ℕ)) (κs : Lfts 1) (bytes : Lent) (r : Loading)
      → files ≡ before ++ (bytes.now ∷ later) → Loads v κs bytes r → Did (with_loaded r.answer r.structure v) files l z kept
      → Did v files (parking.restore (length before) ∷ l) z kept
  load_other : {v z : Machine} {files kept : List (List ℕ)} {l : List Act} (κs : Lfts 1) (bytes : Lent) (r : Loading) → Loads v κs bytes r
      → Did (with_loaded r.answer r.structure v) files l z kept → Did v files (parking.load_other bytes.now ∷ l) z kept
  -- what `new` gives takes the place of both values
  restart : {v w z : Machine} {files kept : List (List ℕ)} {l : List Act} → Fresh w → Did w files l z kept → Did v files (parking.restart ∷ l) z kept

-- What is noted of the acts, by the code's own answers and values, from what was noted and kept before them.

-- after a load: what is noted of the structure that it gave, or what was noted
abbrev pub noted_load : Result Unit ℕ → Option Notes → Option Notes → Option Notes
noted_load (Ok u) given known = given
noted_load (Err n) given known = known

-- of a file that is kept, under a signature
abbrev pub noted_at : Sig → Option Parked → Option Notes
noted_at g none = none
noted_at g (some p) = taken_back g p

unfoldable pub noted_of : {v z : Machine} {files kept : List (List ℕ)} {l : List Act} → Did v files l z kept → Option Notes → List Parked → Option Notes
noted_of nothing known ps = known
noted_of (call {k = k} {a = a} m d) known ps = noted_of d (map (taken_down k a) known) ps
noted_of (park {v = v} κs buffer n after did d) known ps = noted_of d known (ps ++ (parked (take n after.now) (sig_of v.signature) known ∷ []))
noted_of (restore {v = v} before later κs bytes r is did d) known ps =
    noted_of d (noted_load r.answer (noted_at (sig_of v.signature) (file_at (length before) ps)) known) ps
noted_of (load_other κs bytes r did d) known ps = noted_of d (noted_load r.answer none known) ps
noted_of (restart f d) known ps = noted_of d (some no_notes) ps
