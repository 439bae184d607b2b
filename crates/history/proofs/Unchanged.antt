-- In every list of calls, marks or not: a close that merges nothing is followed by one that reports no change.
use mathlib.Core.Path.{◌≡◌, sym, subst}
use mathlib.Core.List.{List, [], ◌∷◌, ◌++◌}
use Rattle.semantics.specs.Close.{Closed}
use Rattle.semantics.specs.Calls.{Call, close, closed, step}
use Rattle.history.specs.Book.{History, noted, next, history}
use Rattle.history.proofs.Histories.{history_valid, history_next}
use Rattle.history.proofs.SecondClose.{no_change, NextUnchanged, second_close}

pub merges_nothing : (before : List Call) (c : Closed) → (step close (history before).machine).answer ≡ closed c → c.merges ≡ 0
    → (step close (history (before ++ (close ∷ []))).machine).answer ≡ closed no_change
unfolding next noted
merges_nothing before c e z =
    subst (λ (h : History). NextUnchanged h.machine) (sym (history_next before close))
    (second_close (history before).machine c (history_valid before).valid e z)
