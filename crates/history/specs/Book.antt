-- The conservation rule (01, "The conservation rule (demand 3)", and 02, M-100 and M-102): the book, the classes and the claim.
use Rattle.std.specs.Prelude.{◌≡◌, ◌↔◌, Bool, true, false, ℕ, ◌+◌, ◌≤◌, ◌<◌, length, T}
use mathlib.Core.List.{List, [], ◌∷◌, ◌++◌, Memᴰ}
use Rattle.ids.specs.Count.{count}
use Rattle.ids.specs.Sorted.{All}
use Rattle.unification.specs.Roots.{root_of}
use Rattle.signature.specs.Model as signature
use Rattle.signature.specs.Model.{Sig}
use Rattle.signature.specs.Calls.{with_type, with_pred, with_func, with_model, with_mor_app}
use Rattle.semantics.specs.Structure.{Pair, pair, FuncApp}
use Rattle.semantics.specs.Types.{any_marked}
use Rattle.semantics.specs.Valid.{Below}
use Rattle.semantics.specs.Close.{Closed}
use Rattle.semantics.specs.Calls.{Call, push_type, push_pred, push_func, push_model, push_mor_app, push_el, equate_els, impose_type}
use Rattle.semantics.specs.Calls.{apply_func, apply_pred, bind_var, bind_ambient, close, type_conflicts, settle, root, root_const}
use Rattle.semantics.specs.Calls.{lookup_type, ambient_parents, Totals, closed, summed, is_accepted, merges_of, Machine, settle_run, Step, start, step}
use Rattle.semantics.specs.Calls.{is_id_or_comp}
use Rattle.history.specs.MapLaws.{Obeys}

-- The book: "it reads no structure".

pub record Book : Type 0 where
  -- "the book also takes accepted kinds 1 to 5" (02, M-102)
  pub sig : Sig
  -- "of kind 6 the next element and its mark": entry e is the mark of element e
  pub marks : List Bool
  -- "of 7 the equality"
  pub equalities : List Pair
  -- "of 9 the application as given"
  pub apps : List FuncApp
  -- "the merges of an accepted 13", summed, and of a settle "its merges in the sum"
  pub merges : ℕ

-- The one place that builds a book: the fields in their order.
abbrev pub book : Sig → List Bool → List Pair → List FuncApp → ℕ → Book
book g ms es xs n = record { sig = g; marks = ms; equalities = es; apps = xs; merges = n }

-- A field replaced, the others as they were.

abbrev pub with_sig : Sig → Book → Book
with_sig x b = book x b.marks b.equalities b.apps b.merges

abbrev pub with_marks : List Bool → Book → Book
with_marks x b = book b.sig x b.equalities b.apps b.merges

abbrev pub with_equalities : List Pair → Book → Book
with_equalities x b = book b.sig b.marks x b.apps b.merges

abbrev pub with_apps : List FuncApp → Book → Book
with_apps x b = book b.sig b.marks b.equalities x b.merges

abbrev pub with_merges : ℕ → Book → Book
with_merges x b = book b.sig b.marks b.equalities b.apps x

-- "Empty at first"
unfoldable pub blank : Book
blank = book signature.empty [] [] [] 0

-- the book's elements are the numbers below this
abbrev pub elements : Book → ℕ
elements b = length b.marks

-- "it takes from an accepted call": of kinds 1 to 5 the declaration, of a close or settle that merged n the merges
unfoldable pub taken : Call → ℕ → Book → Book
taken (push_type t) n b = with_sig (with_type b.sig t) b
taken (push_pred p) n b = with_sig (with_pred b.sig p) b
taken (push_func f) n b = with_sig (with_func b.sig f) b
taken (push_model x) n b = with_sig (with_model b.sig x) b
taken (push_mor_app x) n b = with_sig (with_mor_app b.sig x) b
taken (push_el mark) n b = with_marks (b.marks ++ (mark ∷ [])) b
taken (equate_els x y) n b = with_equalities (pair x y ∷ b.equalities) b
taken (impose_type f) n b = b
taken (apply_func x) n b = with_apps (x ∷ b.apps) b
taken (apply_pred x) n b = b
taken (bind_var v) n b = b
taken (bind_ambient a) n b = b
taken close n b = with_merges (n + b.merges) b
taken type_conflicts n b = b
taken settle n b = with_merges (n + b.merges) b
taken (root e) n b = b
taken (root_const e) n b = b
taken (lookup_type t ps) n b = b
taken (ambient_parents ts) n b = b

-- "A book is fed each call's arguments, whether it was accepted, and a close's merges"; "Every other call, and every refused one, leaves the book as it was."
unfoldable pub fed : Call → Bool → ℕ → Book → Book
fed k accepted n b = elim accepted [ true ↦ taken k n b | false ↦ b ]

-- The lists of calls.

-- where a list has come to: what its calls leave, with the book beside it
pub record History : Type 0 where
  pub machine : Machine
  pub book : Book

abbrev pub reached : Machine → Book → History
reached m b = record { machine = m; book = b }

-- what a call leaves, and the book fed with the call and its answer
unfoldable pub noted : Call → Step → Book → History
noted k s b = reached s.after (fed k (is_accepted s.answer) (merges_of s.answer) b)

-- "each call gets both, or the one it takes, as the calls before it returned or left them"
unfoldable pub next : Call → History → History
next k h = noted k (step k h.machine) h.book

-- the calls of a list, one after the other: "nothing else writes them meanwhile"
unfoldable pub run : List Call → History → History
run [] h = h
run (k ∷ ks) h = run ks (next k h)

-- "A list begins at the empty signature and structure"
unfoldable pub begin : History
begin = reached start blank

-- a list from its beginning
unfoldable pub history : List Call → History
history ks = run ks begin

-- The classes.

-- "A partition of the book's elements", which are the numbers below n: R x y says that x and y are together
pub record Partition (n : ℕ) (R : ℕ → ℕ → Type 0) : Type 0 where
  pub same : (x : ℕ) → x < n → R x x
  pub flip : (x y : ℕ) → x < n → y < n → R x y → R y x
  pub trans : (x y z : ℕ) → x < n → y < n → z < n → R x y → R y z → R x z

-- "equally many and together place by place"
pub data Together (R : ℕ → ℕ → Type 0) : List ℕ → List ℕ → Type 0 where
  none : Together R [] []
  more : {x y : ℕ} {xs ys : List ℕ} → R x y → Together R xs ys → Together R (x ∷ xs) (y ∷ ys)

-- "applications of one function whose parents, and whose arguments, are equally many and together place by place"
pub record Meet (R : ℕ → ℕ → Type 0) (x y : FuncApp) : Type 0 where
  pub func : x.func ≡ y.func
  pub parents : Together R x.parents y.parents
  pub args : Together R x.args y.args

-- its parents, arguments and result are elements, of which there are n
pub record AppNamed (n : ℕ) (x : FuncApp) : Type 0 where
  pub parents : Below n x.parents
  pub args : Below n x.args
  pub result : x.result < n

-- "set of applications and equalities closed under these laws too" (02, M-102): a set S of applications and an equality R of elements, closed together
pub record ClosedSet (b : Book) (R : ℕ → ℕ → Type 0) (S : FuncApp → Type 0) : Type 0 where
  -- they are of the book's elements
  pub named : (x : FuncApp) → S x → AppNamed (elements b) x
  -- the book's equalities and applications are among them
  pub equal : (p : Pair) → Memᴰ p b.equalities → R p.lhs p.rhs
  pub given : (x : FuncApp) → Memᴰ x b.apps → S x
  -- equalities act on applications: what differs from one in S by equal elements is in S
  pub replaced : (x y : FuncApp) → S x → AppNamed (elements b) y → Meet R x y → R x.result y.result → S y
  -- functionality
  pub functional : (x y : FuncApp) → S x → S y → Meet R x y → R x.result y.result
  -- identities and composites
  pub laws : All (Obeys S) b.sig.models

-- which elements share a class
abbrev pub Sharing : Type 2
Sharing = Book → ℕ → ℕ → Type 1

-- "The smallest partition now belongs to the smallest set of applications and equalities closed under these laws too": two elements share a class exactly
-- when every closed set has them equal
unfoldable pub Shared : Sharing
Shared b x y = (R : ℕ → ℕ → Type 0) (S : FuncApp → Type 0) → Partition (elements b) R → ClosedSet b R S → R x y

-- the application is in the smallest closed set, that is, in every one
unfoldable pub Derived : Book → FuncApp → Type 1
Derived b x = (R : ℕ → ℕ → Type 0) (S : FuncApp → Type 0) → Partition (elements b) R → ClosedSet b R S → S x

-- The classes of 01, which knows no such laws.

-- "fits when it puts together the two elements of each equality, and the results of any two applications .."
pub record Fits (b : Book) (R : ℕ → ℕ → Type 0) : Type 0 where
  pub equal : (p : Pair) → Memᴰ p b.equalities → R p.lhs p.rhs
  pub functional : (x y : FuncApp) → Memᴰ x b.apps → Memᴰ y b.apps → Meet R x y → R x.result y.result

-- "two elements share a class exactly when every fitting partition puts them together"
unfoldable pub SharedByFits : Sharing
SharedByFits b x y = (R : ℕ → ℕ → Type 0) → Partition (elements b) R → Fits b R → R x y

-- "sheets that apply neither id nor comp": no application of the book does
unfoldable pub AppliesNeither : Book → Type 0
AppliesNeither b = All (λ (x : FuncApp). is_id_or_comp x.func b.sig.models ≡ false) b.apps

-- the number of classes is k: each class has one lowest element, and k elements are the lowest of theirs
pub record Classes (Share : Sharing) (b : Book) (k : ℕ) : Type 1 where
  pub lowest : ℕ → Bool
  pub is : (e : ℕ) → e < elements b → T (lowest e) ↔ ((d : ℕ) → d < e → Share b d e → ⊥)
  pub many : count lowest (elements b) ≡ k

-- The claim.

-- the call k, made on m, is a close or a settle that is accepted, and the closes that it ran answered cs
pub data RanCloses (m : Machine) : Call → List Closed → Type 0 where
  closes : {c : Closed} → (step close m).answer ≡ closed c → RanCloses m close (c ∷ [])
  settles : {t : Totals} → (step settle m).answer ≡ summed t → RanCloses m settle (settle_run m.sig m.structure).reports

-- what holds of the book and the links that an accepted close or settle leaves
pub record RootsByClass (Share : Sharing) (b : Book) (links : List ℕ) : Type 1 where
  -- there are as many links as elements
  pub long : length links ≡ elements b
  pub classes : ℕ
  pub counted : Classes Share b classes
  -- elements added are classes and merges
  pub sum : elements b ≡ classes + b.merges
  -- two elements have one root exactly when they share a class
  pub one_root : (x y : ℕ) → x < elements b → y < elements b → (root_of links x ≡ root_of links y) ↔ Share b x y
  -- the root is the class's lowest number
  pub of_class : (x : ℕ) → x < elements b → (root_of links x < elements b) × Share b x (root_of links x)
  pub lowest : (x y : ℕ) → x < elements b → y < elements b → Share b x y → root_of links x ≤ y

-- the round limit, "for each close that settle ran"
abbrev pub RoundLimit : List Closed → Type 0
RoundLimit cs = All (λ (c : Closed). c.rounds ≤ c.merges + 2) cs

-- what holds at the return of an accepted close or settle whose closes answered cs
pub record Conserved (b : Book) (links : List ℕ) (cs : List Closed) : Type 1 where
  pub by_class : RootsByClass Shared b links
  -- where neither id nor comp was applied the classes are those of 01
  pub plain : AppliesNeither b → RootsByClass SharedByFits b links
  -- "the round limit reads only for sheets that apply neither id nor comp" (02, M-102)
  pub few : AppliesNeither b → RoundLimit cs

-- "This is a single claim about the list": after any calls and then a close or settle that is accepted, with no element marked up to then.
-- The calls are any, so this is said of every accepted close and settle of every list, whatever follows.
unfoldable pub Conservation : Type 1
Conservation =
    (before : List Call) (k : Call) (cs : List Closed) → RanCloses (history before).machine k cs
    → any_marked (history (before ++ (k ∷ []))).book.marks ≡ false
    → Conserved (history (before ++ (k ∷ []))).book (history (before ++ (k ∷ []))).machine.structure.links cs

-- The claim as 01 and M-100 have it, with the classes and the round limit of 01: of the lists that apply neither id nor comp.
unfoldable pub PlainConservation : Type 1
PlainConservation =
    (before : List Call) (k : Call) (cs : List Closed) → RanCloses (history before).machine k cs
    → any_marked (history (before ++ (k ∷ []))).book.marks ≡ false
    → AppliesNeither (history (before ++ (k ∷ []))).book
    → RootsByClass SharedByFits (history (before ++ (k ∷ []))).book (history (before ++ (k ∷ []))).machine.structure.links × RoundLimit cs
