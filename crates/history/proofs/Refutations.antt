-- Wrong versions of the rule, each refuted by a short list of calls. Each is about the elements 0 and 1 of its list.
-- A list is data, and what the right definitions say of it is computed and follows from the rule (`WorkedList`, `Right`). A version is the rule
-- with one part replaced (`ConservationBy` of Versions). `table` has the versions, each with its list.
use mathlib.Core.Path.{◌≡◌, refl, sym, subst, ap, ap₂, ◌∙◌}
use mathlib.Core.Logic.{◌↔◌, Lift}
use mathlib.Core.Bool.{Bool, true, false}
use mathlib.Core.List.Memᴰ
use mathlib.Core.List.{List, [], ◌∷◌, ◌++◌, map, Memᴰ}
use Prim.Native.Nat.{ℕ, zero, suc, ◌+◌, ◌-◌, ◌≤◌, ◌<◌}
use Prim.Native.String.{String}
use native.Mathlib.Omega.{arith}
use lib.Dec.{T}
use Rattle.ids.specs.Count.{count}
use Rattle.ids.proofs.Sorted.{All, all_at}
use Rattle.unification.specs.Roots.{root_of}
use Rattle.signature.specs.Model.{plain, model, Sig, sig, empty, FuncM, type_entry, func_entry}
use Rattle.semantics.specs.Structure.{Pair, pair, FuncApp, func_app}
use Rattle.semantics.specs.Types.{any_marked}
use Rattle.semantics.specs.Close.{Closed, report}
use Rattle.semantics.specs.Calls.{Call, equate_els, close, settle, totals, Answer, number, says, done, closed, conflicting, summed, found, typed, els, refuse}
use Rattle.semantics.specs.Calls.{is_accepted, merges_of, merges_in}
use Rattle.semantics.proofs.WrongSettles.{last_merges}
use Rattle.semantics.proofs.ProvedCases.{typ, func, plain_el, marked_el, impose, app, down_from, signature102, dom, cod, identity, composite}
use Rattle.history.specs.Book.{Book, book, with_sig, with_equalities, with_apps, elements, taken, fed, history, Together, none, more, Meet, AppNamed, Shared}
use Rattle.history.specs.MapLaws.{Obeys}
use Rattle.history.specs.Book.{Sharing, SharedByFits, AppliesNeither, Classes, RoundLimit, RanCloses, closes, settles, Conserved, Conservation}
use Rattle.history.proofs.SecondClose.{no_change}
use Rattle.history.proofs.Conservation.{conservation}
use Rattle.history.proofs.Examples.{computed}
use Rattle.history.proofs.Versions.{after, links_after, Feeds, book_by, book_after, Meets, never, SharedBy, ConservedBy, ConservationBy, unmarked}
use Rattle.history.proofs.Versions.{feeding, merges, round_limit, closed_right}
use Rattle.history.proofs.WrongLaws.{no_id_cod, cod_of_first, no_middle, maps, maps_book, id_apps, cod_apps, middle_apps, exact_book, apart_by_fits}
use Rattle.history.proofs.WrongLaws.{undeclared_book, apart_undeclared}
use Rattle.history.proofs.WrongLaws.{apart_no_id_cod, apart_cod_of_first, apart_no_middle, apart_exact}

-- The lists.

pub record Shown : Type 0 where
  pub book : Book
  pub roots : List ℕ

abbrev pub showing : Book → List ℕ → Shown
showing b rs = record { book = b; roots = rs }

unfoldable pub shown : List Call → Call → Shown
shown ks k = showing (after ks k).book (map (root_of (links_after ks k)) (0 ∷ 1 ∷ []))

-- a list and the close or settle that ends it: what the closes answer that it runs, and the book and the root of element 1 when it returns; the
-- root of 0 is 0
pub record WorkedList : Type 0 where
  pub calls : List Call
  pub call : Call
  pub answers : List Closed
  pub book : Book
  pub root : ℕ
  pub ran : RanCloses (history calls).machine call answers
  pub two : 2 ≤ elements book
  pub shows : shown calls call ≡ showing book (0 ∷ root ∷ [])

-- a signature of one type and so many functions that give one of it
abbrev constants : List FuncM → Sig
constants fs = sig (type_entry plain [] ∷ []) [] fs [] []

abbrev constant : FuncM
constant = func_entry [] [] 0

-- a book of two elements with no mark: equalities, applications, merges
abbrev plain_book : Sig → List Pair → List FuncApp → ℕ → Book
plain_book g es xs n = book g (false ∷ false ∷ []) es xs n

apart : WorkedList
unfolding computed shown
apart = record {
  calls = plain_el ∷ plain_el ∷ [];
  call = close;
  answers = report false 0 1 0 ∷ [];
  book = plain_book empty [] [] 0;
  root = 1;
  ran = closes refl;
  two = omega arith;
  shows = refl;
}

equal : WorkedList
unfolding computed shown
equal = record {
  calls = plain_el ∷ plain_el ∷ equate_els 0 1 ∷ [];
  call = close;
  answers = report true 1 2 0 ∷ [];
  book = plain_book empty (pair 0 1 ∷ []) [] 1;
  root = 0;
  ran = closes refl;
  two = omega arith;
  shows = refl;
}

-- the same, closed before
equal_before : WorkedList
unfolding computed shown
equal_before = record {
  calls = plain_el ∷ plain_el ∷ equate_els 0 1 ∷ close ∷ [];
  call = close;
  answers = report false 0 1 0 ∷ [];
  book = plain_book empty (pair 0 1 ∷ []) [] 1;
  root = 0;
  ran = closes refl;
  two = omega arith;
  shows = refl;
}

-- the equality is refused, since there is no 1 yet
refused_equal : WorkedList
unfolding computed shown
refused_equal = record {
  calls = plain_el ∷ equate_els 0 1 ∷ plain_el ∷ [];
  call = close;
  answers = report false 0 1 0 ∷ [];
  book = plain_book empty [] [] 0;
  root = 1;
  ran = closes refl;
  two = omega arith;
  shows = refl;
}

-- one application with two results
two_results : WorkedList
unfolding computed shown
two_results = record {
  calls = typ plain [] ∷ func [] [] 0 ∷ plain_el ∷ plain_el ∷ app 0 [] [] 0 ∷ app 0 [] [] 1 ∷ [];
  call = close;
  answers = report true 1 2 1 ∷ [];
  book = plain_book (constants (constant ∷ [])) [] (func_app 0 [] [] 1 ∷ func_app 0 [] [] 0 ∷ []) 1;
  root = 0;
  ran = closes refl;
  two = omega arith;
  shows = refl;
}

-- two applications that differ in parents
two_parents : WorkedList
unfolding computed shown
two_parents = record {
  calls = typ plain [] ∷ func [] [] 0 ∷ plain_el ∷ plain_el ∷ app 0 (0 ∷ []) [] 0 ∷ app 0 (1 ∷ []) [] 1 ∷ [];
  call = close;
  answers = report true 0 2 2 ∷ [];
  book = plain_book (constants (constant ∷ [])) [] (func_app 0 (1 ∷ []) [] 1 ∷ func_app 0 (0 ∷ []) [] 0 ∷ []) 0;
  root = 1;
  ran = closes refl;
  two = omega arith;
  shows = refl;
}

-- in the function
two_functions : WorkedList
unfolding computed shown
two_functions = record {
  calls = typ plain [] ∷ func [] [] 0 ∷ func [] [] 0 ∷ plain_el ∷ plain_el ∷ app 0 [] [] 0 ∷ app 1 [] [] 1 ∷ [];
  call = close;
  answers = report true 0 2 2 ∷ [];
  book = plain_book (constants (constant ∷ constant ∷ [])) [] (func_app 1 [] [] 1 ∷ func_app 0 [] [] 0 ∷ []) 0;
  root = 1;
  ran = closes refl;
  two = omega arith;
  shows = refl;
}

-- in how many arguments they have
two_lengths : WorkedList
unfolding computed shown
two_lengths = record {
  calls = typ plain [] ∷ func [] [] 0 ∷ plain_el ∷ plain_el ∷ app 0 [] [] 0 ∷ app 0 [] (0 ∷ []) 1 ∷ [];
  call = close;
  answers = report true 0 2 2 ∷ [];
  book = plain_book (constants (constant ∷ [])) [] (func_app 0 [] (0 ∷ []) 1 ∷ func_app 0 [] [] 0 ∷ []) 0;
  root = 1;
  ran = closes refl;
  two = omega arith;
  shows = refl;
}

-- element 1 is marked: one type imposed on 0 with parent 0 and with parent 1 merges them
marked_parent : WorkedList
unfolding computed shown
marked_parent = record {
  calls = typ model [] ∷ typ plain (0 ∷ []) ∷ plain_el ∷ marked_el ∷ impose 0 1 (0 ∷ []) ∷ impose 0 1 (1 ∷ []) ∷ [];
  call = close;
  answers = report true 1 1 1 ∷ [];
  book = book (sig (type_entry model [] ∷ type_entry plain (0 ∷ []) ∷ []) [] [] [] []) (false ∷ true ∷ []) [] [] 1;
  root = 0;
  ran = closes refl;
  two = omega arith;
  shows = refl;
}

-- the same equality, settled: the second close reports no change
equal_settled : WorkedList
unfolding computed shown
equal_settled = record {
  calls = plain_el ∷ plain_el ∷ equate_els 0 1 ∷ [];
  call = settle;
  answers = report true 1 2 0 ∷ no_change ∷ [];
  book = plain_book empty (pair 0 1 ∷ []) [] 1;
  root = 0;
  ran = settles {t = totals 2 1} refl;
  two = omega arith;
  shows = refl;
}

-- the two functions, settled
functions_settled : WorkedList
unfolding computed shown
functions_settled = record {
  calls = typ plain [] ∷ func [] [] 0 ∷ func [] [] 0 ∷ plain_el ∷ plain_el ∷ app 0 [] [] 0 ∷ app 1 [] [] 1 ∷ [];
  call = settle;
  answers = report true 0 2 2 ∷ no_change ∷ [];
  book = plain_book (constants (constant ∷ constant ∷ [])) [] (func_app 1 [] [] 1 ∷ func_app 0 [] [] 0 ∷ []) 0;
  root = 1;
  ran = settles {t = totals 2 0} refl;
  two = omega arith;
  shows = refl;
}

-- Identities and composites (02, M-102).

-- id(0) = 0, so that cod(0) = 0, and cod(0) = 1
identity_cod : WorkedList
unfolding computed shown
identity_cod = record {
  calls = signature102 ++ (plain_el ∷ plain_el ∷ identity 0 0 ∷ cod 0 1 ∷ []);
  call = close;
  answers = report true 1 3 3 ∷ [];
  book = maps_book id_apps;
  root = 0;
  ran = closes refl;
  two = omega arith;
  shows = refl;
}

-- comp(0, 1) = 0, cod(1) = 0 and cod(0) = 1
composite_cod : WorkedList
unfolding computed shown
composite_cod = record {
  calls = signature102 ++ (plain_el ∷ plain_el ∷ composite 0 1 0 ∷ cod 1 0 ∷ cod 0 1 ∷ []);
  call = close;
  answers = report true 1 3 4 ∷ [];
  book = maps_book cod_apps;
  root = 0;
  ran = closes refl;
  two = omega arith;
  shows = refl;
}

-- comp(0, 0) = 0, cod(0) = 0 and dom(0) = 1
composite_middle : WorkedList
unfolding computed shown
composite_middle = record {
  calls = signature102 ++ (plain_el ∷ plain_el ∷ composite 0 0 0 ∷ cod 0 0 ∷ dom 0 1 ∷ []);
  call = close;
  answers = report true 1 3 3 ∷ [];
  book = maps_book middle_apps;
  root = 0;
  ran = closes refl;
  two = omega arith;
  shows = refl;
}

-- comp(1, 1) = 0, dom(2) = 0 and dom(3) = 1, where 1 and 2 are one, and 0 and 3
composite_replaced : WorkedList
unfolding computed shown
composite_replaced = record {
  calls = signature102 ++ (down_from 4 (λ n. plain_el) ++ (composite 1 1 0 ∷ dom 2 0 ∷ dom 3 1 ∷ equate_els 1 2 ∷ equate_els 0 3 ∷ []));
  call = close;
  answers = report true 3 3 4 ∷ [];
  book = exact_book;
  root = 0;
  ran = closes refl;
  two = omega arith;
  shows = refl;
}

-- a chain of composites against the order of the table: each round carries dom one composite further
composite_chain : WorkedList
unfolding computed shown
composite_chain = record {
  calls = signature102 ++ (down_from 6 (λ n. plain_el) ++ (composite 0 4 3 ∷ composite 1 4 0 ∷ composite 2 4 1 ∷ dom 2 5 ∷ []));
  call = close;
  answers = report true 0 4 6 ∷ [];
  book = book maps (false ∷ false ∷ false ∷ false ∷ false ∷ false ∷ []) []
      (func_app 0 [] (2 ∷ []) 5 ∷ func_app 3 [] (2 ∷ 4 ∷ []) 1 ∷ func_app 3 [] (1 ∷ 4 ∷ []) 0 ∷ func_app 3 [] (0 ∷ 4 ∷ []) 3 ∷ []) 0;
  root = 1;
  ran = closes refl;
  two = omega arith;
  shows = refl;
}

-- What the right definitions say of them.

module _ (w : WorkedList) where
  -- the links when its close or settle returns
  abbrev links : List ℕ
  links = links_after w.calls w.call

  book_after_lem : (after w.calls w.call).book ≡ w.book
  unfolding shown
  book_after_lem = ap (λ (s : Shown). s.book) w.shows

  rooted : map (root_of links) (0 ∷ 1 ∷ []) ≡ 0 ∷ w.root ∷ []
  unfolding shown
  rooted = ap (λ (s : Shown). s.roots) w.shows

  root_zero : root_of links 0 ≡ 0
  root_zero = cc rooted

  root_one : root_of links 1 ≡ w.root
  root_one = cc rooted

-- no element is marked: 0 and 1 share a class exactly when 0 is the root of 1, and the classes are the elements that no merge took
pub record Right (w : WorkedList) : Type 1 where
  pub conserved : Conserved w.book (links w) w.answers
  pub shared : Shared w.book 0 1 ↔ (w.root ≡ 0)
  pub classes : Classes Shared w.book (elements w.book - w.book.merges)

right : (w : WorkedList) → unmarked w.book.marks → Right w
unfolding Conservation
right w u =
    let by = c.by_class in
    let s = by.one_root 0 1 (omega (arith, w.two)) (omega (arith, w.two)) in
    record {
      conserved = c;
      shared = (λ h. sym (root_one w) ∙ sym (s.1 h) ∙ root_zero w, λ h. s.0 (root_zero w ∙ sym (root_one w ∙ h)));
      classes = subst (Classes Shared w.book) (let z : by.classes ≡ elements w.book - w.book.merges = omega (arith, by.sum) in z) by.counted;
    }
  where
    c : Conserved w.book (links w) w.answers
    c =
        subst (λ (b : Book). Conserved b (links w) w.answers) (book_after_lem w)
        (conservation w.calls w.call w.answers w.ran (ap (λ (b : Book). any_marked b.marks) (book_after_lem w) ∙ u))

-- How a version is refuted by a list.

-- exactly one number passes, 0
only_first : (p : ℕ → Bool) (n : ℕ) → T (p 0) → ((e : ℕ) → 0 < e → e < suc n → T (p e) → ⊥) → count p (suc n) ≡ 1
unfolding count
only_first p zero t f = go (p 0) t
  where
    go : (b : Bool) → T b → ◌≡◌ {A = ℕ} (elim b [ true ↦ 1 | false ↦ 0 ]) 1
    go true t = refl
    go false t = absurd t
only_first p (suc n) t f = go (p (suc n)) (f (suc n) (omega arith) (omega arith)) (only_first p n t (λ e a l. f e a (omega arith)))
  where
    go : (b : Bool) → (T b → ⊥) → count p (suc n) ≡ 1 → ◌≡◌ {A = ℕ} (elim b [ true ↦ suc (count p (suc n)) | false ↦ count p (suc n) ]) 1
    go true f e = absurd (f tt)
    go false f e = e

module _ {feeds : Feeds} {Admits : List Bool → Type 0} {Share : Sharing} {counts : Book → ℕ} {merged : Book → List Closed → ℕ} {Low : ℕ → ℕ → Type 0}
    {Few : Book → List Closed → Type 0} (h : ConservationBy feeds Admits Share counts merged Low Few) (w : WorkedList) (b : Book)
    (made : book_after feeds w.calls w.call ≡ b) (two : 2 ≤ elements b) (admitted : Admits b.marks) where
  -- what it says of the list
  said : ConservedBy Share counts merged Low Few b (links w) w.answers
  said =
      subst (λ (d : Book). ConservedBy Share counts merged Low Few d (links w) w.answers) made
      (h.says w.calls w.call w.answers w.ran (subst (λ (d : Book). Admits d.marks) (sym made) admitted))

  shares : w.root ≡ 0 → Share b 0 1
  shares r = (said.one_root 0 1 (omega (arith, two)) (omega (arith, two))).0 (root_zero w ∙ sym (root_one w ∙ r))

  -- it puts 0 and 1 into one class, and they have two roots
  joins : w.root ≡ 1 → Share b 0 1 → ⊥
  joins r s =
      let z = (said.one_root 0 1 (omega (arith, two)) (omega (arith, two))).1 s in omega (arith, z, root_zero w, root_one w, r)

  -- it puts them into two classes, and they have one root
  parts : w.root ≡ 0 → (Share b 0 1 → ⊥) → ⊥
  parts r n = n (shares r)

  -- one class is counted, so that the merges of two elements must be 1, and the version has another number
  miscounts : elements b ≡ 2 → (k : ℕ) → counts b ≡ suc k → k ≤ 1 → (1 ≤ k → w.root ≡ 0) → (merged b w.answers ≡ 1 → ⊥) → ⊥
  miscounts both k q l r n = n (omega (arith, said.sum, said.counted.many, one, both))
    where
      p : ℕ → Bool
      p = said.counted.lowest

      first : T (p 0)
      first = (said.counted.is 0 (omega (arith, q))).1 (λ d l s. omega (arith, l))

      second : (e : ℕ) → 0 < e → e < suc k → T (p e) → ⊥
      second e a c t =
          let z : e ≡ 1 = omega arith in
          (said.counted.is 1 (omega (arith, q))).0 (subst (λ (x : ℕ). T (p x)) z t) 0 (omega arith) (shares (r (omega arith)))

      one : count p (counts b) ≡ 1
      one = rw q (only_first p k first second)

  -- its root is not that of the class of 0 and 1
  misplaces : w.root ≡ 0 → (Low 0 1 → ⊥) → ⊥
  misplaces r n =
      n (subst (λ (x : ℕ). Low x 1) (root_zero w) (said.lowest 0 1 (omega (arith, two)) (omega (arith, two)) (shares r)))

  -- it allows too few rounds
  short_of_rounds : (Few b w.answers → ⊥) → ⊥
  short_of_rounds n = n said.few

-- Elements that share a class, and that do not.

equal_shared : (b : Book) → Memᴰ (pair 0 1) b.equalities → Shared b 0 1
unfolding Shared
equal_shared b m R S q c = c.equal (pair 0 1) m

met_shared : (M : Meets) (b : Book) (x y : FuncApp) → Memᴰ x b.apps → Memᴰ y b.apps → ((R : ℕ → ℕ → Type 0) → M R x y)
    → SharedBy M Meet Obeys b x.result y.result
unfolding SharedBy
met_shared M b x y m o t R S q c = c.functional x y (c.given x m) (c.given y o) (t R)

-- to be the same

together_same : (k l : List ℕ) → Together (λ x y. x ≡ y) k l → k ≡ l
together_same k l none = refl
together_same k l (more e t) = ap₂ ◌∷◌ e (together_same _ _ t)

meet_same : (x y : FuncApp) → Meet (λ x y. x ≡ y) x y → x.result ≡ y.result → x ≡ y
meet_same x y m r =
    let p = together_same x.parents y.parents m.parents in
    let a = together_same x.args y.args m.args in
    λ i. func_app (m.func i) (p i) (a i) (r i)

-- with no equality, no two applications that meet, and no model, each element is alone
unmet : (M : Meets) (b : Book) → b.equalities ≡ [] → b.sig.models ≡ [] → All (AppNamed (elements b)) b.apps
    → ((R : ℕ → ℕ → Type 0) (x y : FuncApp) → Memᴰ x b.apps → M R x y → ⊥) → SharedBy M Meet Obeys b 0 1 → ⊥
unfolding SharedBy
unmet M b e none-declared named n s =
    let z : ◌≡◌ {A = ℕ} 0 1 = s (λ x y. x ≡ y) (λ x. Memᴰ x b.apps) (record { same = λ x h. refl; flip = λ x y h k p. sym p; trans = λ x y z h k l p q. p ∙ q })
    (record {
      named = all_at (AppNamed (elements b)) b.apps named;
      equal = λ p m. absurd (Memᴰ.not-nil (subst (λ (l : List Pair). Memᴰ p l) e m));
      given = λ x m. m;
      replaced = λ x y m i t r. subst (λ (z : FuncApp). Memᴰ z b.apps) (meet_same x y t r) m;
      functional = λ x y m o t. absurd (n (λ x y. x ≡ y) x y m t);
      laws = subst (All (Obeys (λ x. Memᴰ x b.apps))) (sym none-declared) tt;
    }) in
    omega (arith, z)

bare : (b : Book) → b.equalities ≡ [] → b.sig.models ≡ [] → b.apps ≡ [] → Shared b 0 1 → ⊥
bare b e d a s =
    unmet Meet b e d (subst (All (AppNamed (elements b))) (sym a) tt)
    (λ R x y m t. Memᴰ.not-nil (subst (λ (l : List FuncApp). Memᴰ x l) a m)) ((closed_right b 0 1).1 s)

-- an application to no element, whose result is 0 or 1
constant_named : (f r : ℕ) → r < 2 → AppNamed 2 (func_app f [] [] r)
constant_named f r h = record { parents = tt; args = tt; result = h }

-- The wrong parts.

abbrev refused_taken : Feeds
refused_taken k a b = with_equalities (taken k (merges_of a) b).equalities (feeding k a b)

abbrev no_equalities : Feeds
no_equalities k a b = with_equalities [] (feeding k a b)

abbrev no_applications : Feeds
no_applications k a b = with_apps [] (feeding k a b)

abbrev no_declarations : Feeds
no_declarations k a b = with_sig empty (feeding k a b)

-- the merges of a close, and none of a settle
abbrev close_merges : Answer → ℕ
close_merges (number n) = 0
close_merges (says b) = 0
close_merges done = 0
close_merges (closed c) = c.merges
close_merges (conflicting l n) = 0
close_merges (summed t) = 0
close_merges (found f) = 0
close_merges (typed t) = 0
close_merges (els l) = 0
close_merges (refuse n) = 0

abbrev no_settles : Feeds
no_settles k a b = fed k (is_accepted a) (close_merges a) b

-- all so far, but of the last close or settle the merges of its last close
abbrev last_of_settle : Book → List Closed → ℕ
last_of_settle b cs = b.merges - merges_in cs + last_merges cs

abbrev rounds_in : List Closed → ℕ
rounds_in [] = 0
rounds_in (c ∷ cs) = c.rounds + rounds_in cs

-- the rounds of a settle summed, against its merges
abbrev summed_limit : Book → List Closed → Type 0
summed_limit b cs = AppliesNeither b → rounds_in cs ≤ merges_in cs + 2

abbrev any_parents : Meets
any_parents R x y = (x.func ≡ y.func) × Together R x.args y.args

abbrev any_function : Meets
any_function R x y = Together R x.parents y.parents × Together R x.args y.args

-- together up to the shorter length
abbrev Prefix : (ℕ → ℕ → Type 0) → List ℕ → List ℕ → Type 0
Prefix R [] ys = Unit {0}
Prefix R (x ∷ xs) [] = Unit {0}
Prefix R (x ∷ xs) (y ∷ ys) = R x y × Prefix R xs ys

abbrev shorter : Meets
shorter R x y = (x.func ≡ y.func) × Prefix R x.parents y.parents × Prefix R x.args y.args

-- What the right definitions say of the list of a row.
pub data RightSays (w : WorkedList) : Type 1 where
  -- the claim of the rule
  conserved : Right w → RightSays w
  -- an element is marked, so that the rule claims nothing: 0 and 1 have one root and share no class
  outside : any_marked w.book.marks ≡ true → w.root ≡ 0 → (Shared w.book 0 1 → ⊥) → RightSays w

-- The table: a version's name, the rule with one part replaced, the list, what the right definitions say of it, and that the version is false.
pub record Refuted : Type 2 where
  pub name : String
  pub version : Type 1
  pub list : WorkedList
  pub fact : RightSays list
  pub wrong : version → ⊥

pub table : List Refuted
unfolding computed shown book_by AppliesNeither apart equal equal_before refused_equal two_results two_parents two_functions two_lengths marked_parent equal_settled functions_settled identity_cod composite_cod composite_middle composite_replaced composite_chain
table =
    record {
      name = "refused equalities taken";
      version = ConservationBy refused_taken unmarked Shared elements merges ◌≤◌ (round_limit 2);
      list = refused_equal;
      fact = conserved (right refused_equal refl);
      wrong = λ h. joins h refused_equal (plain_book empty (pair 0 1 ∷ []) [] 0) refl (omega arith) refl refl (equal_shared _ (Memᴰ.head refl));
    }
    ∷ record {
      name = "equality dropped";
      version = ConservationBy no_equalities unmarked Shared elements merges ◌≤◌ (round_limit 2);
      list = equal;
      fact = conserved (right equal refl);
      wrong = λ h. parts h equal (plain_book empty [] [] 1) refl (omega arith) refl refl (bare _ refl refl refl);
    }
    ∷ record {
      name = "application dropped";
      version = ConservationBy no_applications unmarked Shared elements merges ◌≤◌ (round_limit 2);
      list = two_results;
      fact = conserved (right two_results refl);
      wrong = λ h. parts h two_results (plain_book (constants (constant ∷ [])) [] [] 1) refl (omega arith) refl refl (bare _ refl refl refl);
    }
    ∷ record {
      name = "merges twice";
      version = ConservationBy feeding unmarked Shared elements (λ b cs. b.merges + b.merges) ◌≤◌ (round_limit 2);
      list = equal;
      fact = conserved (right equal refl);
      wrong = λ h. miscounts h equal equal.book refl (omega arith) refl refl 1 refl (omega arith) (λ l. refl) (λ z. omega (arith, z));
    }
    ∷ record {
      name = "merges of the last close only";
      version = ConservationBy feeding unmarked Shared elements (λ b cs. last_merges cs) ◌≤◌ (round_limit 2);
      list = equal_before;
      fact = conserved (right equal_before refl);
      wrong = λ h. miscounts h equal_before equal_before.book refl (omega arith) refl refl 1 refl (omega arith) (λ l. refl) (λ z. omega (arith, z));
    }
    ∷ record {
      name = "classes over one element fewer";
      version = ConservationBy feeding unmarked Shared (λ b. elements b - 1) merges ◌≤◌ (round_limit 2);
      list = apart;
      fact = conserved (right apart refl);
      wrong = λ h. miscounts h apart apart.book refl (omega arith) refl refl 0 refl (omega arith) (λ l. absurd (omega (arith, l))) (λ z. omega (arith, z));
    }
    ∷ record {
      name = "highest root";
      version = ConservationBy feeding unmarked Shared elements merges (λ r y. y ≤ r) (round_limit 2);
      list = equal;
      fact = conserved (right equal refl);
      wrong = λ h. misplaces h equal equal.book refl (omega arith) refl refl (λ l. omega (arith, l));
    }
    ∷ record {
      name = "rounds at most merges and one";
      version = ConservationBy feeding unmarked Shared elements merges ◌≤◌ (round_limit 1);
      list = two_functions;
      fact = conserved (right two_functions refl);
      wrong = λ h. short_of_rounds h two_functions two_functions.book refl (omega arith) refl (λ l. omega (arith, (l (refl, (refl, tt))).0));
    }
    ∷ record {
      name = "all in one class";
      version = ConservationBy feeding unmarked (λ b x y. Unit {1}) elements merges ◌≤◌ (round_limit 2);
      list = apart;
      fact = conserved (right apart refl);
      wrong = λ h. joins h apart apart.book refl (omega arith) refl refl tt;
    }
    ∷ record {
      name = "each alone";
      version = ConservationBy feeding unmarked (λ b x y. Lift {0, 1} (x ≡ y)) elements merges ◌≤◌ (round_limit 2);
      list = equal;
      fact = conserved (right equal refl);
      wrong = λ h. parts h equal equal.book refl (omega arith) refl refl (λ s. omega (arith, s.lower));
    }
    ∷ record {
      name = "no functionality";
      version = ConservationBy feeding unmarked (SharedBy never Meet Obeys) elements merges ◌≤◌ (round_limit 2);
      list = two_results;
      fact = conserved (right two_results refl);
      wrong = λ h. parts h two_results two_results.book refl (omega arith) refl refl (unmet never _ refl refl (constant_named 0 1 (omega arith), (constant_named 0 0 (omega arith), tt)) (λ R x y m t. t));
    }
    ∷ record {
      name = "Meet without parents";
      version = ConservationBy feeding unmarked (SharedBy any_parents Meet Obeys) elements merges ◌≤◌ (round_limit 2);
      list = two_parents;
      fact = conserved (right two_parents refl);
      wrong = λ h.
          joins h two_parents two_parents.book refl (omega arith) refl refl
          (met_shared any_parents _ (func_app 0 (0 ∷ []) [] 0) (func_app 0 (1 ∷ []) [] 1) (Memᴰ.tail (Memᴰ.head refl)) (Memᴰ.head refl)
          (λ R. (refl, none)));
    }
    ∷ record {
      name = "Meet without the function";
      version = ConservationBy feeding unmarked (SharedBy any_function Meet Obeys) elements merges ◌≤◌ (round_limit 2);
      list = two_functions;
      fact = conserved (right two_functions refl);
      wrong = λ h.
          joins h two_functions two_functions.book refl (omega arith) refl refl
          (met_shared any_function _ (func_app 0 [] [] 0) (func_app 1 [] [] 1) (Memᴰ.tail (Memᴰ.head refl)) (Memᴰ.head refl)
          (λ R. (none, none)));
    }
    ∷ record {
      name = "shorter lists together";
      version = ConservationBy feeding unmarked (SharedBy shorter Meet Obeys) elements merges ◌≤◌ (round_limit 2);
      list = two_lengths;
      fact = conserved (right two_lengths refl);
      wrong = λ h.
          joins h two_lengths two_lengths.book refl (omega arith) refl refl
          (met_shared shorter _ (func_app 0 [] [] 0) (func_app 0 [] (0 ∷ []) 1) (Memᴰ.tail (Memᴰ.head refl)) (Memᴰ.head refl)
          (λ R. (refl, tt, tt)));
    }
    ∷ record {
      name = "marks allowed";
      version = ConservationBy feeding (λ ms. Unit {0}) Shared elements merges ◌≤◌ (round_limit 2);
      list = marked_parent;
      fact = outside refl refl (bare _ refl refl refl);
      wrong = λ h. parts h marked_parent marked_parent.book refl (omega arith) tt refl (bare _ refl refl refl);
    }
    ∷ record {
      name = "merges of a settle not taken";
      version = ConservationBy no_settles unmarked Shared elements merges ◌≤◌ (round_limit 2);
      list = equal_settled;
      fact = conserved (right equal_settled refl);
      wrong = λ h.
          miscounts h equal_settled (plain_book empty (pair 0 1 ∷ []) [] 0) refl (omega arith) refl refl 1 refl (omega arith) (λ l. refl) (λ z. omega (arith, z));
    }
    ∷ record {
      name = "merges of a settle's last close only";
      version = ConservationBy feeding unmarked Shared elements last_of_settle ◌≤◌ (round_limit 2);
      list = equal_settled;
      fact = conserved (right equal_settled refl);
      wrong = λ h. miscounts h equal_settled equal_settled.book refl (omega arith) refl refl 1 refl (omega arith) (λ l. refl) (λ z. omega (arith, z));
    }
    ∷ record {
      name = "rounds of a settle at most its merges and two";
      version = ConservationBy feeding unmarked Shared elements merges ◌≤◌ summed_limit;
      list = functions_settled;
      fact = conserved (right functions_settled refl);
      wrong = λ h. short_of_rounds h functions_settled functions_settled.book refl (omega arith) refl (λ l. omega (arith, l (refl, (refl, tt))));
    }
    ∷ record {
      name = "the classes of 01, without the laws";
      version = ConservationBy feeding unmarked SharedByFits elements merges ◌≤◌ (round_limit 2);
      list = identity_cod;
      fact = conserved (right identity_cod refl);
      wrong = λ h. parts h identity_cod identity_cod.book refl (omega arith) refl refl (apart_by_fits maps);
    }
    ∷ record {
      name = "declarations dropped";
      version = ConservationBy no_declarations unmarked Shared elements merges ◌≤◌ (round_limit 2);
      list = identity_cod;
      fact = conserved (right identity_cod refl);
      wrong = λ h. parts h identity_cod undeclared_book refl (omega arith) refl refl apart_undeclared;
    }
    ∷ record {
      name = "dom of an identity without its cod";
      version = ConservationBy feeding unmarked (SharedBy Meet Meet no_id_cod) elements merges ◌≤◌ (round_limit 2);
      list = identity_cod;
      fact = conserved (right identity_cod refl);
      wrong = λ h. parts h identity_cod identity_cod.book refl (omega arith) refl refl apart_no_id_cod;
    }
    ∷ record {
      name = "cod of a composite from the first map";
      version = ConservationBy feeding unmarked (SharedBy Meet Meet cod_of_first) elements merges ◌≤◌ (round_limit 2);
      list = composite_cod;
      fact = conserved (right composite_cod refl);
      wrong = λ h. parts h composite_cod composite_cod.book refl (omega arith) refl refl apart_cod_of_first;
    }
    ∷ record {
      name = "no law of the middle";
      version = ConservationBy feeding unmarked (SharedBy Meet Meet no_middle) elements merges ◌≤◌ (round_limit 2);
      list = composite_middle;
      fact = conserved (right composite_middle refl);
      wrong = λ h. parts h composite_middle composite_middle.book refl (omega arith) refl refl apart_no_middle;
    }
    ∷ record {
      name = "laws of exact tuples";
      version = ConservationBy feeding unmarked (SharedBy Meet never Obeys) elements merges ◌≤◌ (round_limit 2);
      list = composite_replaced;
      fact = conserved (right composite_replaced refl);
      wrong = λ h. parts h composite_replaced composite_replaced.book refl (omega arith) refl refl apart_exact;
    }
    ∷ record {
      name = "the round limit of every list";
      version = ConservationBy feeding unmarked Shared elements merges ◌≤◌ (λ b. RoundLimit);
      list = composite_chain;
      fact = conserved (right composite_chain refl);
      wrong = λ h. short_of_rounds h composite_chain composite_chain.book refl (omega arith) refl (λ l. omega (arith, l.0));
    }
    ∷ []
