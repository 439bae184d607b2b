-- Lists of calls: what holds of the book at each moment, and at the return of an accepted close or settle.
use mathlib.Core.Path.{◌≡◌, refl, sym, ap, subst, ◌∙◌}
use mathlib.Core.Logic.{◌↔◌}
use mathlib.Core.Bool.{Bool, true, false}
use mathlib.Core.List.{List, [], ◌∷◌, ◌++◌}
use Prim.Native.Nat.{ℕ, ◌+◌, ◌≤◌, ◌<◌}
use native.Mathlib.Omega.{arith}
use lib.ListN.{length}
use Rattle.ids.proofs.Sorted.{All, Sorted}
use Rattle.ids.specs.Count.{count}
use Rattle.unification.specs.Roots.{root_of}
use Rattle.signature.specs.Model as signature
use Rattle.signature.specs.Model.{Sig}
use Rattle.unification.proofs.Theorems.{none_formed}
use Rattle.unification.proofs.Laws.{root_stop}
use Rattle.unification.proofs.Arrays.{link_past}
use Rattle.semantics.specs.Structure.{Structure, empty, compare_func_app}
use Rattle.semantics.specs.Types.{any_marked}
use Rattle.semantics.specs.MapLaws.{map_laws}
use Rattle.semantics.specs.Close.{Closed, core_at_start}
use Rattle.semantics.specs.Calls.{Call, push_el, close, number, closed, is_accepted, merges_of, Machine, Step, start, leaves, rule, acceptance, step, after_calls}
use Rattle.history.specs.Book.{Book, with_merges, blank, elements, taken, fed, History, noted, next, run, begin, history, Shared, AppliesNeither}
use Rattle.history.specs.Book.{RanCloses, closes, settles, RoundLimit}
use Rattle.semantics.proofs.Counts.{roots}
use Rattle.semantics.proofs.Judged.{step_by_lem}
use Rattle.semantics.proofs.Settling.{Closes, settle_closes}
use Rattle.validity.proofs.Calls.{ValidMachine, start_valid, step_valid}
use Rattle.history.proofs.Elements.{Named, SharedAmongAll, shared_among_all}
use Rattle.semantics.proofs.Canonical.{Canon}
use Rattle.semantics.proofs.Operations.{NoOperation}
use Rattle.history.proofs.Closing.{closed_machine, closed_step}
use Rattle.history.proofs.Settling.{last_some, settle_ends}
use Rattle.history.proofs.Operations.{Held}
use Rattle.history.proofs.Calls.{TiedTo, neither_stored, AgreesWith, close_soundly, fed_agrees}

-- what holds at each moment of a list
pub record ValidHistory (h : History) : Type 1 where
  -- its signature and structure are valid
  pub valid : ValidMachine h.machine
  -- its book agrees with the structure
  pub book : AgreesWith h.book h.machine

next_valid : (k : Call) (h : History) → ValidHistory h → ValidHistory (next k h)
unfolding next noted
next_valid k h t = record { valid = step_valid k h.machine t.valid; book = fed_agrees h.machine h.book t.valid t.book k }

run_valid : (ks : List Call) (h : History) → ValidHistory h → ValidHistory (run ks h)
unfolding run
run_valid [] h t = t
run_valid (k ∷ ks) h t = run_valid ks (next k h) (next_valid k h t)

root_empty : (e : ℕ) → root_of [] e ≡ e
root_empty e = root_stop [] e (omega (arith, link_past [] e (omega arith)))

begin_valid : ValidHistory begin
unfolding begin start blank empty signature.empty core_at_start roots count
begin_valid = record {
  valid = start_valid;
  book = record {
    sig = refl;
    long = refl;
    named = record { equalities = tt; apps = tt };
    tied = λ e. record {
      ready = record { kept = record { formed = none_formed; long = refl; sum = refl }; pairs = tt; args = tt; results = tt; plain = λ e. refl };
      small = omega arith;
      sum = refl;
      on = λ R S q law o f. record { rooted = λ x. subst (λ z. R z x) (sym (root_empty x)) (q.same x); pairs = tt; apps = tt };
      back = λ R S q law f. (tt, tt);
    };
  };
}

pub history_valid : (ks : List Call) → ValidHistory (history ks)
unfolding history
history_valid ks = run_valid ks begin begin_valid

-- The book of every list has the signature that its calls made.

pub history_sig : (ks : List Call) → (history ks).book.sig ≡ (history ks).machine.sig
history_sig ks = (history_valid ks).book.sig

-- It names its elements only, so that it is the same whether partitions of its elements or of all numbers are meant.

pub history_named : (ks : List Call) → Named (history ks).book
history_named ks = (history_valid ks).book.named

pub history_shared : (ks : List Call) (x y : ℕ) → x < elements (history ks).book → Shared (history ks).book x y ↔ SharedAmongAll (history ks).book x y
history_shared ks = shared_among_all (history ks).book (history_named ks)

-- An accepted `push_el` answers the book's next element.

pushed_number : (m : Machine) (mark : Bool) (n : ℕ) → (step (push_el mark) m).answer ≡ number n → n ≡ length m.structure.links
unfolding rule acceptance
pushed_number m mark n =
    step_by_lem (push_el mark) m (λ (s : Step). s.answer ≡ number n → n ≡ length m.structure.links)
    (λ k q e. let z : ◌≡◌ {A = ℕ} 0 1 = cc in absurd (omega arith))
    (λ clear (e : number (length m.structure.links) ≡ number n). cc)

pub next_element : (ks : List Call) (mark : Bool) (n : ℕ) → (step (push_el mark) (history ks).machine).answer ≡ number n → n ≡ elements (history ks).book
unfolding core_at_start
next_element ks mark n e = pushed_number (history ks).machine mark n e ∙ (history_valid ks).book.long

-- what a history notes beside the machine does not change what the calls leave
after_run : (ks : List Call) (h : History) → after_calls ks h.machine ≡ (run ks h).machine
unfolding after_calls run next noted
after_run [] h = refl
after_run (k ∷ ks) h = after_run ks (next k h)

pub after_history : (ks : List Call) → after_calls ks start ≡ (history ks).machine
unfolding history begin
after_history ks = after_run ks begin

-- calls after calls go on from where those came to
pub run_append : (ks js : List Call) (h : History) → run (ks ++ js) h ≡ run js (run ks h)
unfolding run
run_append [] js h = refl
run_append (k ∷ ks) js h = run_append ks js (next k h)

-- so a list passes through what each of its beginnings came to
pub history_goes_on : (ks js : List Call) → history (ks ++ js) ≡ run js (history ks)
unfolding history
history_goes_on ks js = run_append ks js begin

pub history_next : (ks : List Call) (k : Call) → history (ks ++ (k ∷ [])) ≡ next k (history ks)
unfolding run
history_next ks k = history_goes_on ks (k ∷ [])

-- The return of an accepted close or settle, with no element marked up to then.

-- what the last of some accepted closes leaves, and the rounds of each
pub record LeftBy (b : Book) (cs : List Closed) (s : Structure) : Type 0 where
  pub pairs : s.pairs ≡ []
  pub sorted : Sorted compare_func_app s.func_apps
  pub canon : All (Canon s.links) s.func_apps
  pub held : All (Held s.links s.func_apps) (map_laws b.sig.models s.func_apps)
  pub few : AppliesNeither b → RoundLimit cs

pub record Returned (h : History) (cs : List Closed) : Type 1 where
  pub long : length h.machine.structure.links ≡ elements h.book
  pub named : Named h.book
  pub tied : TiedTo h.book h.machine.structure
  pub closed_to : LeftBy h.book cs h.machine.structure

-- of the book, both alter the sum only
ran_book : {k : Call} {cs : List Closed} (h : History) → RanCloses h.machine k cs → (n : ℕ) × ((next k h).book ≡ with_merges n h.book)
unfolding next noted fed taken
ran_book {k} h ran = go ran (is_accepted (step k h.machine).answer)
  where
    go : {k : Call} {cs : List Closed} → RanCloses h.machine k cs → (t : Bool)
        → (n : ℕ) × (fed k t (merges_of (step k h.machine).answer) h.book ≡ with_merges n h.book)
    go (closes e) true = (_, refl)
    go (closes e) false = (h.book.merges, refl)
    go (settles e) true = (_, refl)
    go (settles e) false = (h.book.merges, refl)

ran_marks : {k : Call} {cs : List Closed} (h : History) → RanCloses h.machine k cs → (next k h).book.marks ≡ h.book.marks
ran_marks h ran = ap (λ (b : Book). b.marks) (ran_book h ran).1

ran_left : {k : Call} {cs ds : List Closed} {s : Structure} (h : History) → RanCloses h.machine k ds → LeftBy h.book cs s ↔ LeftBy (next k h).book cs s
unfolding AppliesNeither
ran_left {cs = cs} {s = s} h ran =
    let r = ran_book h ran in
    subst (λ (b : Book). LeftBy h.book cs s ↔ LeftBy b cs s) (sym r.1) (
      λ l. record { pairs = l.pairs; sorted = l.sorted; canon = l.canon; held = l.held; few = l.few },
      λ l. record { pairs = l.pairs; sorted = l.sorted; canon = l.canon; held = l.held; few = l.few },
    )

-- both run closes, one after the other, and at least one
ran_some : {k : Call} {cs : List Closed} (m : Machine) → ValidMachine m → RanCloses m k cs → Closes m cs (step k m).after × (0 < length cs)
ran_some m v ran = go m v ran
  where
    go : (m : Machine) {k : Call} {cs : List Closed} → ValidMachine m → RanCloses m k cs → Closes m cs (step k m).after × (0 < length cs)
    go m v (closes e) = ((e, refl), omega arith)
    go m v (settles {t} e) = (settle_closes m t e, last_some (settle_ends m v t e).unchanged)

-- one close
close_leaves : (h : History) (c : Closed) → ValidHistory h → any_marked h.book.marks ≡ false → (step close h.machine).answer ≡ closed c
    → LeftBy h.book (c ∷ []) (step close h.machine).after.structure
unfolding leaves core_at_start
close_leaves h c valid unmarked e =
    let a = closed_step h.machine c e in
    let tied = valid.book.tied unmarked in
    let s = close_soundly h.book h.machine valid.valid tied a.met in
    let sig = valid.book.sig in
    let z = (closed_machine h.machine c).structure in
    subst (λ (m : Machine). LeftBy h.book (c ∷ []) m.structure) (sym a.after) (record {
      pairs = s.pairs;
      sorted = s.sorted;
      canon = s.canon;
      held = subst (λ (g : Sig). All (Held z.links z.func_apps) (map_laws g.models z.func_apps)) (sym sig) s.held;
      few = λ neither. (
        subst (λ (d : Closed). d.rounds ≤ d.merges + 2) (sym a.answer)
            (s.few (subst (λ (g : Sig). All (NoOperation g.models) h.machine.structure.func_apps) sig
            (neither_stored h.book (core_at_start h.machine.structure) h.machine.structure.func_apps tied neither))),
        tt,
      );
    })

closes_leave : (cs : List Closed) (h : History) (z : Machine) → ValidHistory h → any_marked h.book.marks ≡ false → Closes h.machine cs z → 0 < length cs
    → LeftBy h.book cs z.structure
closes_leave [] h z valid unmarked run some = absurd (omega arith)
closes_leave (c ∷ []) h z valid unmarked run some =
    subst (λ (m : Machine). LeftBy h.book (c ∷ []) m.structure) run.1 (close_leaves h c valid unmarked run.0)
closes_leave (c ∷ d ∷ cs) h z valid unmarked run some =
    let still = ap any_marked (ran_marks h (closes run.0)) ∙ unmarked in
    let rest = (ran_left h (closes run.0)).1 (closes_leave (d ∷ cs) (next close h) z (next_valid close h valid) still (unfold next noted in run.1) (omega arith)) in
    record {
      pairs = rest.pairs;
      sorted = rest.sorted;
      canon = rest.canon;
      held = rest.held;
      few = λ neither. (((close_leaves h c valid unmarked run.0).few neither).0, rest.few neither);
    }

next_returned : {k : Call} {cs : List Closed} (h : History) → ValidHistory h → RanCloses h.machine k cs → any_marked (next k h).book.marks ≡ false
    → Returned (next k h) cs
unfolding next noted core_at_start
next_returned {k} {cs} h valid ran unmarked =
    let after = (next_valid k h valid).book in
    let some = ran_some h.machine valid.valid ran in
    let left = closes_leave cs h (step k h.machine).after valid (sym (ap any_marked (ran_marks h ran)) ∙ unmarked) some.0 some.1 in
    record { long = after.long; named = after.named; tied = after.tied unmarked; closed_to = (ran_left h ran).0 left }

pub returned : (before : List Call) (k : Call) (cs : List Closed) → RanCloses (history before).machine k cs
    → any_marked (history (before ++ (k ∷ []))).book.marks ≡ false → Returned (history (before ++ (k ∷ []))) cs
returned before k cs ran unmarked =
    let p = history_next before k in
    subst (λ (h : History). Returned h cs) (sym p)
    (next_returned (history before) (history_valid before) ran (subst (λ (h : History). any_marked h.book.marks ≡ false) p unmarked))
