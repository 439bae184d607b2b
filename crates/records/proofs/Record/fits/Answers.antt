-- `Record::fits` meets its contract.
use native.Mathlib.Omega.{arith}
use Prim.Native.Nat.{◌≤◌}
use borrow.Author.Rules.{rules}
use Rattle.records.proofs.Laws.{most_word, none_before, none_past, as_type, as_pred, as_el, as_last, as_mor, as_func}
use Rattle.records.proofs.Laws.{as_model, as_mor_app, as_imposition, as_func_app, as_pred_app, as_equality, as_bound}
use Rattle.records.proofs.Record.fits.Goals as goal
use Rattle.records.proofs.Record.fits.Goals.{Start}

-- A and B are words
word_a : (c : Start) → c.args.self.a ≤ most_word
word_a c = search rules

word_b : (c : Start) → c.args.self.b ≤ most_word
word_b c = search rules

pub returns-then-self-eq3 : goal.returns-then-self-eq3
returns-then-self-eq3 c =
    as_mor _ (word_a (goal.at.returns-then-self-eq3 c).Start) (word_b (goal.at.returns-then-self-eq3 c).Start) c.in-1.is c.if-self-eq3.true c.is_within.ensures

pub returns-else-self-eq3 : goal.returns-else-self-eq3
returns-else-self-eq3 c = as_type _ c.in-1.is c.if-self-eq3.false c.is_within-in-1.ensures

pub returns-in-2 : goal.returns-in-2
returns-in-2 c = as_pred _ c.in-2.is c.is_within-in-2.ensures

pub returns-in-3 : goal.returns-in-3
returns-in-3 c =
    as_func _ (word_a (goal.at.returns-in-3 c).Start) (word_b (goal.at.returns-in-3 c).Start) c.in-3.is c.is_within-in-3.ensures

pub returns-in-4 : goal.returns-in-4
returns-in-4 c =
    as_model _ (word_a (goal.at.returns-in-4 c).Start) (word_b (goal.at.returns-in-4 c).Start) c.in-4.is c.is_within-in-4.ensures

pub returns-in-5 : goal.returns-in-5
returns-in-5 c =
    as_mor_app _ (word_a (goal.at.returns-in-5 c).Start) (word_b (goal.at.returns-in-5 c).Start) c.in-5.is c.is_within-in-5.ensures

pub returns-in-6 : goal.returns-in-6
returns-in-6 c = as_el _ c.in-6.is c.is_within-in-6.ensures

pub returns-in-8 : goal.returns-in-8
returns-in-8 c =
    as_imposition _ (word_a (goal.at.returns-in-8 c).Start) (word_b (goal.at.returns-in-8 c).Start) c.in-8.is c.is_within-in-8.ensures

pub returns-in-9 : goal.returns-in-9
returns-in-9 c =
    as_func_app _ (word_a (goal.at.returns-in-9 c).Start) (word_b (goal.at.returns-in-9 c).Start) c.in-9.is c.is_within-in-9.ensures

pub returns-in-10 : goal.returns-in-10
returns-in-10 c =
    as_pred_app _ (word_a (goal.at.returns-in-10 c).Start) (word_b (goal.at.returns-in-10 c).Start) c.in-10.is c.is_within-in-10.ensures

pub returns-in-13-to-15 : goal.returns-in-13-to-15
returns-in-13-to-15 c = as_last _ (omega arith) (omega arith) c.is_within-in-13-to-15.ensures

pub returns-in_default : goal.returns-in_default
returns-in_default c = none_before _ (omega arith)

pub returns-in_default-2 : goal.returns-in_default-2
returns-in_default-2 c = none_past _ (omega arith)

pub returns-in-7 : goal.returns-in-7
returns-in-7 c =
    as_equality _ (word_a (goal.at.returns-in-7 c).Start) (word_b (goal.at.returns-in-7 c).Start) c.in-7.is c.is_within-in-7.ensures

pub returns-in-11-to-12 : goal.returns-in-11-to-12
returns-in-11-to-12 c =
    as_bound _ (word_a (goal.at.returns-in-11-to-12 c).Start) (word_b (goal.at.returns-in-11-to-12 c).Start) (omega arith) (omega arith)
    c.is_within-in-11-to-12.ensures
