-- What is loaded can be stored, and is valid under a valid signature.
use mathlib.Core.Path.{◌≡◌, sym, ap, subst, ◌∙◌}
use mathlib.Core.Bool.{true, false, ◌||◌}
use mathlib.Core.List.{List, [], map}
use Prim.Native.Nat.{ℕ, ◌≤◌}
use native.Mathlib.Omega.{arith}
use lib.ListN.{length, get_or, length-map, length-reverse}
use lib.Dec.{eqb, ltb}
use borrow.Author.Tests.{leb-true, ltb-false, eq-eqb, eqb-false}
use Rattle.ids.specs.Answers.{accepted}
use Rattle.signature.specs.Model.{Sig}
use Rattle.semantics.specs.Structure.{Structure}
use Rattle.semantics.specs.Sheet.{words}
use Rattle.semantics.specs.Valid.{ValidSig, Valid}
use Rattle.semantics.proofs.Cases.{and_fails, or_first, or_second}
use Rattle.file.specs.Layout.{rows_in, parts_of, sum}
use Rattle.file.specs.Rows.{fact_columns, func_app_columns, pred_app_columns, imposition_columns, pair_columns, func_app_in, pred_app_in, imposition_in, var_in, ambient_in, pair_in, is_bit, bit_in}
use Rattle.file.specs.File.{Head, counts, head_of, head_in, sizes, Content, content_from, content_in, structure_in, any_over, limits, flag_outside, load}
use Rattle.file.proofs.LayoutLaws.{part_length, rows_length}
use Rattle.file.proofs.StoreLoad.{Loaded, loaded, sound, has_length_lem, facts_length, said}
use Rattle.file.proofs.Storable.{Storable, storable_valid}

-- a structure has as many of each as the head of its file says
head_said : (h : Head) (ps : List (List ℕ)) → length (get_or ps 1 []) ≡ h.els → head_of (said h ps) ≡ h
unfolding head_of structure_in content_from
head_said h ps els = λ i. record {
  els = els i;
  facts = (facts_length 1 (words (get_or ps 11 [])) (rows_in fact_columns h.facts (get_or ps 2 [])) ∙ rows_length fact_columns h.facts (get_or ps 2 [])) i;
  func_apps = table func_app_in func_app_columns h.func_apps (get_or ps 4 []) i;
  pred_apps = table pred_app_in pred_app_columns h.pred_apps (get_or ps 5 []) i;
  impositions = table imposition_in imposition_columns h.impositions (get_or ps 6 []) i;
  vars = table var_in pair_columns h.vars (get_or ps 7 []) i;
  ambients = table ambient_in pair_columns h.ambients (get_or ps 8 []) i;
  pairs = (length-reverse (map pair_in (rows_in pair_columns h.pairs (get_or ps 10 []))) ∙ table pair_in pair_columns h.pairs (get_or ps 10 [])) i;
}
  where
    table : {A : Type 0} (entry : List ℕ → A) (k n : ℕ) (bytes : List ℕ) → length (map entry (rows_in k n bytes)) ≡ n
    table entry k n bytes = length-map (rows_in k n bytes) entry ∙ rows_length k n bytes

-- the flag for number 4 is not set: nothing is there
flag_tells : (h : Head) (c : Content) → is_bit c.started ≡ true → flag_outside h c ≡ false → bit_in c.started ≡ false
    → (sum (counts h) ≡ 0) × (bit_in c.settled ≡ false)
unfolding flag_outside
flag_tells h c one out unset =
    let zero-there : c.started ≡ 0 = omega (arith, leb-true c.started 1 one, eqb-false c.started 1 unset) in
    let none = ltb 0 (sum (counts h)) in
    let left : (none || bit_in c.settled) ≡ false =
    and_fails (eqb c.started 0) (none || bit_in c.settled) (eq-eqb c.started 0 zero-there) out in
    (omega (arith, ltb-false 0 (sum (counts h)) (or_first none (bit_in c.settled) left)), or_second none (bit_in c.settled) left)

pub loaded_storable : (g : Sig) (bytes : List ℕ) (s : Structure) → length g.types ≤ 256 → length g.preds ≤ 256 → length g.funcs ≤ 256
    → load g bytes ≡ accepted s → Storable g s
unfolding content_in structure_in content_from sizes
loaded_storable g bytes s types preds funcs e =
    let l : Loaded g bytes s = loaded g bytes s e in
    let h : Head = head_in bytes in
    let ps : List (List ℕ) = parts_of (sizes h) bytes in
    let u = l.content in
    let fits : sum (sizes h) ≤ length bytes = omega (arith, (has_length_lem bytes l.long).1) in
    let links : length (get_or ps 1 []) ≡ h.els = part_length (sizes h) bytes 1 fits (omega arith) in
    let marks : length (get_or ps 9 []) ≡ h.els = part_length (sizes h) bytes 9 fits (omega arith) in
    let same : head_of (said h ps) ≡ h = head_said h ps links in
    let bits = sound g h (content_from h ps) (said h ps) u in
    subst (Storable g) l.is (record {
      types = types;
      preds = preds;
      funcs = funcs;
      most = ap (λ (x : Head). any_over (counts x) limits) same ∙ u.over;
      marks = length-map (get_or ps 9 []) bit_in ∙ marks ∙ sym links;
      unrefused = u.entered;
      falls = u.linked;
      rooted = u.rooted;
      ordered = u.ordered;
      flagged = λ q. let f = flag_tells h (content_from h ps) bits.started u.flag q in (ap (λ (x : Head). sum (counts x)) same ∙ f.0, f.1);
    })

-- "for any other accepted load": what is loaded under a valid signature is valid
pub load_valid : (g : Sig) (bytes : List ℕ) (s : Structure) → ValidSig g → load g bytes ≡ accepted s → Valid g s
load_valid g bytes s v e =
    storable_valid g s v
    (loaded_storable g bytes s (omega (arith, v.types.most)) (omega (arith, v.preds.most)) (omega (arith, v.funcs.most)) e)
