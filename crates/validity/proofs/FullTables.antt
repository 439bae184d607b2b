-- Rows on number 9 inside a close (02, M-102), as those of semantics/proofs/ProvedCases, each computed by itself. They stand here since they take long to
-- compute and this crate has no must-fail edit, which would compute them again.
use mathlib.Core.Path.{refl}
use mathlib.Core.List.{List, [], ◌∷◌, ◌++◌, Memᴰ}
use Prim.Native.Nat.{ℕ, zero, suc, ◌-◌, ◌/◌, ◌%◌}
use Rattle.ids.proofs.Sorted.{all_at}
use Rattle.semantics.specs.Structure.{FuncApp, func_app, max_func_apps, max_facts, with_func_apps}
use Rattle.signature.specs.Model.{max_types, plain}
use Rattle.semantics.specs.Calls as steps
use Rattle.semantics.specs.Calls.{close, settle, after_calls, Machine, start}
use Rattle.semantics.proofs.Computes.{everything}
use Rattle.semantics.proofs.ProvedCases.{Row, Holds, calls, calls_from, tells, closes, refuses, app, typ, plain_el, impose, down_from, facts_before, set_facts, signature102, identity, shown_by, stated_by, stated, answers_of, output_of, machine_of, look}

-- n applications of function 4 to two of sixteen elements, each to others, before the applications xs
unfoldable pub apps_before : ℕ → List FuncApp → List FuncApp
apps_before zero xs = xs
apps_before (suc n) xs = apps_before n (func_app 4 [] (n / 16 ∷ n % 16 ∷ []) 0 ∷ xs)

abbrev pub set_apps : List FuncApp → Machine → Machine
set_apps xs m = steps.machine m.sig (with_func_apps xs m.structure)

-- sixteen elements, and n applications
abbrev pub applying : ℕ → Machine
applying n = set_apps (apps_before n []) (after_calls (signature102 ++ down_from 16 (λ n. plain_el)) start)

-- all types that there can be, as many elements with all of them, one element more without a fact, and n applications
abbrev pub crowded_with : ℕ → Machine
crowded_with n =
    set_apps (apps_before n [])
    (set_facts (facts_before max_facts [])
    (after_calls (signature102 ++ (down_from (max_types - 2) (λ n. typ plain []) ++ down_from (suc max_types) (λ n. plain_el))) start))

-- an identity's law needs two entries: there is room for both
pub room_for_both : Row
room_for_both = record { source = calls_from (applying (max_func_apps - 3)) (identity 0 1 ∷ close ∷ []); output = tells (closes 1 0 2 2 ∷ []); claims = [] }

room_for_both_holds : Holds room_for_both
unfolding everything stated answers_of output_of machine_of look shown_by stated_by down_from facts_before apps_before room_for_both
room_for_both_holds = refl

-- and for one of them
pub room_for_one : Row
room_for_one = record {
  source = calls_from (applying (max_func_apps - 2)) (identity 0 1 ∷ close ∷ settle ∷ []);
  output = tells (refuses 9 ∷ refuses 9 ∷ []);
  claims = [];
}

room_for_one_holds : Holds room_for_one
unfolding everything stated answers_of output_of machine_of look shown_by stated_by down_from facts_before apps_before room_for_one
room_for_one_holds = refl

-- 129 identities with one result: their arguments wait to be one, two pairs for each but the first, and there is room for 256
pub identities_that_fit : Row
identities_that_fit = record {
  source = calls (signature102 ++ (down_from 130 (λ n. plain_el) ++ (down_from 129 (λ n. identity n 129) ++ (close ∷ []))));
  output = tells (closes 1 128 3 130 ∷ []);
  claims = [];
}

identities_that_fit_holds : Holds identities_that_fit
unfolding everything stated answers_of output_of machine_of look shown_by stated_by down_from facts_before apps_before identities_that_fit
identities_that_fit_holds = refl

-- 130: two pairs more than there is room for
pub identities_of_one : Row
identities_of_one = record {
  source = calls (signature102 ++ (down_from 131 (λ n. plain_el) ++ (down_from 130 (λ n. identity n 130) ++ (close ∷ []))));
  output = tells (refuses 9 ∷ []);
  claims = [];
}

identities_of_one_holds : Holds identities_of_one
unfolding everything stated answers_of output_of machine_of look shown_by stated_by down_from facts_before apps_before identities_of_one
identities_of_one_holds = refl

-- "Of 9 and 11 in one close, the one met first is given": 9 in the first round, 11 at the impositions
pub nine_before_eleven : Row
nine_before_eleven = record {
  source = calls_from (crowded_with (max_func_apps - 2)) (identity 0 1 ∷ impose max_types 0 [] ∷ close ∷ []);
  output = tells (refuses 9 ∷ []);
  claims = [];
}

nine_before_eleven_holds : Holds nine_before_eleven
unfolding everything stated answers_of output_of machine_of look shown_by stated_by down_from facts_before apps_before nine_before_eleven
nine_before_eleven_holds = refl

-- 11 by the typing of the first round, 9 after it
pub eleven_before_nine : Row
eleven_before_nine = record {
  source = calls_from (crowded_with (max_func_apps - 2)) (identity max_types 1 ∷ close ∷ []);
  output = tells (refuses 11 ∷ []);
  claims = [];
}

eleven_before_nine_holds : Holds eleven_before_nine
unfolding everything stated answers_of output_of machine_of look shown_by stated_by down_from facts_before apps_before eleven_before_nine
eleven_before_nine_holds = refl

-- 12 comes before 9
pub arg_count_before_room : Row
arg_count_before_room = record {
  source = calls_from (applying max_func_apps) (app 2 [] [] 0 ∷ app 3 [] (0 ∷ []) 0 ∷ identity 0 1 ∷ []);
  output = tells (refuses 12 ∷ refuses 12 ∷ refuses 9 ∷ []);
  claims = [];
}

arg_count_before_room_holds : Holds arg_count_before_room
unfolding everything stated answers_of output_of machine_of look shown_by stated_by down_from facts_before apps_before arg_count_before_room
arg_count_before_room_holds = refl

-- these rows
abbrev pub full_rows : List Row
full_rows = room_for_both ∷ room_for_one ∷ identities_that_fit ∷ identities_of_one ∷ nine_before_eleven ∷ eleven_before_nine ∷ arg_count_before_room ∷ []

pub full_row_holds : (r : Row) → Memᴰ r full_rows → Holds r
full_row_holds r m =
    all_at Holds full_rows
    (room_for_both_holds, (room_for_one_holds, (identities_that_fit_holds, (identities_of_one_holds, (nine_before_eleven_holds, (eleven_before_nine_holds, (arg_count_before_room_holds, tt)))))))
    r m
