-- The rule with its parts as parameters, of which `Conservation` is the one with the right parts: what a version of it replaces is one part.
use mathlib.Core.Path.{◌≡◌, refl, sym, subst}
use mathlib.Core.Logic.{◌↔◌}
use mathlib.Core.Bool.{Bool, false}
use mathlib.Core.List.{List, [], ◌∷◌, ◌++◌, Memᴰ}
use Prim.Native.Nat.{ℕ, ◌+◌, ◌≤◌, ◌<◌}
use lib.ListN.{length}
use lib.Dec.{T}
use Rattle.ids.specs.Count.{count}
use Rattle.ids.specs.Sorted.{All}
use Rattle.unification.specs.Roots.{root_of}
use Rattle.signature.specs.Model.{ModelM}
use Rattle.semantics.specs.Structure.{Pair, FuncApp}
use Rattle.semantics.specs.Types.{any_marked}
use Rattle.semantics.specs.Close.{Closed}
use Rattle.semantics.specs.Calls.{Call, Answer, is_accepted, merges_of, Machine, start, step}
use Rattle.history.specs.Book.{Book, blank, elements, fed, History, noted, next, run, begin, history}
use Rattle.history.specs.MapLaws.{Obeys}
use Rattle.history.specs.Book.{Partition, Meet, AppNamed, Sharing, Shared, SharedByFits, AppliesNeither, RanCloses, RootsByClass, Conserved}
use Rattle.history.specs.Book.{Conservation}
use Rattle.history.proofs.Elements.{Named, neither_shared}
use Rattle.history.proofs.Histories.{history_named}
use Rattle.history.proofs.Conservation.{shared_alike}

-- where a list has come to when the close or settle after it returns
abbrev pub after : List Call → Call → History
after ks k = history (ks ++ (k ∷ []))

abbrev pub links_after : List Call → Call → List ℕ
links_after ks k = (after ks k).machine.structure.links

-- what the book becomes by a call and its answer
abbrev pub Feeds : Type 0
Feeds = Call → Answer → Book → Book

unfoldable pub book_by : Feeds → List Call → Machine → Book → Book
book_by feeds [] m b = b
book_by feeds (k ∷ ks) m b = book_by feeds ks (step k m).after (feeds k (step k m).answer b)

-- the book when the call after a list returns
abbrev pub book_after : Feeds → List Call → Call → Book
book_after feeds ks k = book_by feeds (ks ++ (k ∷ [])) start blank

-- when two applications have one result
abbrev pub Meets : Type 1
Meets = (ℕ → ℕ → Type 0) → FuncApp → FuncApp → Type 0

abbrev pub never : Meets
never R x y = ⊥

-- what the applications of a model's id and comp say of its dom and cod
abbrev pub Says : Type 1
Says = (FuncApp → Type 0) → ModelM → Type 0

-- `ClosedSet`: when two applications have one result, when the elements of one may be replaced by those of the other, and the laws
pub record ClosedSetBy (M A : Meets) (L : Says) (b : Book) (R : ℕ → ℕ → Type 0) (S : FuncApp → Type 0) : Type 0 where
  pub named : (x : FuncApp) → S x → AppNamed (elements b) x
  pub equal : (p : Pair) → Memᴰ p b.equalities → R p.lhs p.rhs
  pub given : (x : FuncApp) → Memᴰ x b.apps → S x
  pub replaced : (x y : FuncApp) → S x → AppNamed (elements b) y → A R x y → R x.result y.result → S y
  pub functional : (x y : FuncApp) → S x → S y → M R x y → R x.result y.result
  pub laws : All (L S) b.sig.models

unfoldable pub SharedBy : Meets → Meets → Says → Sharing
SharedBy M A L b x y = (R : ℕ → ℕ → Type 0) (S : FuncApp → Type 0) → Partition (elements b) R → ClosedSetBy M A L b R S → R x y

-- `Classes` and `Conserved`: the sharing, how many elements are counted, the merges, what a root is to an element of its class, the rounds
pub record ClassesBy (Share : Sharing) (b : Book) (counted k : ℕ) : Type 1 where
  pub lowest : ℕ → Bool
  pub is : (e : ℕ) → e < counted → T (lowest e) ↔ ((d : ℕ) → d < e → Share b d e → ⊥)
  pub many : count lowest counted ≡ k

pub record ConservedBy (Share : Sharing) (counts : Book → ℕ) (merged : Book → List Closed → ℕ) (Low : ℕ → ℕ → Type 0) (Few : Book → List Closed → Type 0)
    (b : Book) (links : List ℕ) (cs : List Closed) : Type 1 where
  pub long : length links ≡ elements b
  pub classes : ℕ
  pub counted : ClassesBy Share b (counts b) classes
  pub sum : elements b ≡ classes + merged b cs
  pub one_root : (x y : ℕ) → x < elements b → y < elements b → (root_of links x ≡ root_of links y) ↔ Share b x y
  pub of_class : (x : ℕ) → x < elements b → (root_of links x < elements b) × Share b x (root_of links x)
  pub lowest : (x y : ℕ) → x < elements b → y < elements b → Share b x y → Low (root_of links x) y
  pub few : Few b cs

pub record ConservationBy (feeds : Feeds) (Admits : List Bool → Type 0) (Share : Sharing) (counts : Book → ℕ) (merged : Book → List Closed → ℕ)
    (Low : ℕ → ℕ → Type 0) (Few : Book → List Closed → Type 0) : Type 1 where
  pub says : (before : List Call) (k : Call) (cs : List Closed) → RanCloses (history before).machine k cs → Admits (book_after feeds before k).marks
      → ConservedBy Share counts merged Low Few (book_after feeds before k) (links_after before k) cs

-- The right parts, with which it is the rule.

-- the call, whether it was accepted, the merges of a close or settle
abbrev pub feeding : Feeds
feeding k a b = fed k (is_accepted a) (merges_of a) b

-- the hypothesis of the rule
abbrev pub unmarked : List Bool → Type 0
unmarked ms = any_marked ms ≡ false

abbrev pub merges : Book → List Closed → ℕ
merges b cs = b.merges

-- where neither id nor comp is applied, the rounds of each close are at most its merges and n
abbrev pub round_limit : ℕ → Book → List Closed → Type 0
round_limit n b cs = AppliesNeither b → All (λ (c : Closed). c.rounds ≤ c.merges + n) cs

run_book : (ks : List Call) (h : History) → book_by feeding ks h.machine h.book ≡ (run ks h).book
unfolding book_by run next noted
run_book [] h = refl
run_book (k ∷ ks) h = run_book ks (next k h)

book_right : (ks : List Call) (k : Call) → book_after feeding ks k ≡ (after ks k).book
unfolding history begin
book_right ks k = run_book (ks ++ (k ∷ [])) begin

pub closed_right : (b : Book) (x y : ℕ) → SharedBy Meet Meet Obeys b x y ↔ Shared b x y
unfolding SharedBy Shared
closed_right b x y = (
  λ s R S q c. s R S q (record { named = c.named; equal = c.equal; given = c.given; replaced = c.replaced; functional = c.functional; laws = c.laws }),
  λ s R S q c. s R S q (record { named = c.named; equal = c.equal; given = c.given; replaced = c.replaced; functional = c.functional; laws = c.laws }),
)

pub conservation_right : ConservationBy feeding unmarked Shared elements merges ◌≤◌ (round_limit 2) ↔ Conservation
unfolding Conservation
conservation_right = (
  λ h before k cs ran u.
      let r = h.says before k cs ran (rw (book_right before k) u) in
      let b = book_after feeding before k in
      let named = subst Named (sym (book_right before k)) (history_named (before ++ (k ∷ []))) in
      let by : RootsByClass Shared b (links_after before k) = record {
        long = r.long;
        classes = r.classes;
        counted = record { lowest = r.counted.lowest; is = r.counted.is; many = r.counted.many };
        sum = r.sum;
        one_root = r.one_root;
        of_class = r.of_class;
        lowest = r.lowest;
      } in
      subst (λ (b : Book). Conserved b (links_after before k) cs) (book_right before k) (record {
        by_class = by;
        plain = λ neither. shared_alike Shared SharedByFits b (links_after before k) (neither_shared b named neither) by;
        few = r.few;
      }),
  λ h. record {
    says = λ before k cs ran u.
        let c = h before k cs ran (rw (book_right before k) at u) in
        let r = c.by_class in
        subst (λ (b : Book). ConservedBy Shared elements merges ◌≤◌ (round_limit 2) b (links_after before k) cs) (sym (book_right before k)) (record {
          long = r.long;
          classes = r.classes;
          counted = record { lowest = r.counted.lowest; is = r.counted.is; many = r.counted.many };
          sum = r.sum;
          one_root = r.one_root;
          of_class = r.of_class;
          lowest = r.lowest;
          few = c.few;
        });
  },
)
