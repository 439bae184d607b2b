-- The files of tools/park_cases.txt that have at most 100 bytes: each is refused for one thing that 02 names under 13 and 14, and for no other, or is
-- loaded though no call makes such a structure. docs/FILE.md shows the smallest for each.
use mathlib.Core.Path.{◌≡◌, refl}
use mathlib.Core.Bool.{Bool, true, false}
use mathlib.Core.List.{List, [], ◌∷◌, ◌++◌, map}
use Prim.Native.Nat.{ℕ}
use lib.ListN.{replicate}
use Rattle.ids.specs.Answers.{Answered, accepted, refused, Cause, refusing, accepting, no_room}
use Rattle.ids.specs.Sorted.{All}
use Rattle.signature.specs.Model.{Sig, plain, model, mor, type_entry, pred_entry, func_entry, model_entry, mor_app_entry}
use Rattle.semantics.specs.Structure.{Structure, empty, func_app}
use Rattle.semantics.specs.Calls.{Call, push_type, push_pred, push_func, push_model, push_mor_app, push_el, equate_els, apply_func, close, start, after_calls}
use Rattle.file.specs.File.{store, store_into, load_causes, load}
use Rattle.file.proofs.Computing.{filed}

-- the signature that these declarations make
abbrev declared : List Call → Sig
declared ks = (after_calls ks start).sig

abbrev zeros : ℕ → List ℕ → List ℕ
zeros n rest = replicate n 0 ++ rest

-- whether each cause applies, in their order: the length; a number or count outside its table; an entry whose call would refuse it; a link to a higher
-- element; a fact on an element that is no root; a broken chain; an order other than ours; a nonzero unused byte
abbrev applying : Sig → List ℕ → List Bool
applying g bytes = map (λ (c : Cause). c.applies) (load_causes g bytes)

pub record FileCase : Type 0 where
  pub sig : Sig
  pub bytes : List ℕ

abbrev file : List Call → List ℕ → FileCase
file ks bytes = record { sig = declared ks; bytes = bytes }

-- its length
abbrev pub length_cases : List FileCase
length_cases =
    -- no room for the head
    file [] []
    -- no room for the head
    ∷ file [] (zeros 15 [])
    -- fewer bytes than the counts say
    ∷ file [] (zeros 16 [])
    -- fewer bytes than the counts say
    ∷ file [] (zeros 17 [])
    -- more bytes than the counts say
    ∷ file [] (zeros 19 [])
    -- fewer bytes than the counts say
    ∷ file [] (1 ∷ 1 ∷ zeros 15 (1 ∷ []))
    ∷ []

pub length_refused : All (λ (f : FileCase). load f.sig f.bytes ≡ refused 13) length_cases
unfolding filed
length_refused = (refl, (refl, (refl, (refl, (refl, (refl, tt))))))

-- a number or count outside its table
abbrev pub outside_cases : List FileCase
outside_cases =
    -- a parent count over 4 in impositions
    file (push_type (type_entry model []) ∷ push_type (type_entry plain (0 ∷ 0 ∷ 0 ∷ 0 ∷ [])) ∷ []) (1 ∷ zeros 7 (1 ∷ zeros 9 (1 ∷ zeros 4 (5 ∷ zeros 4 (1 ∷ [])))))
    -- an argument count over 4 in predicate applications
    ∷ file (push_pred (pred_entry [] []) ∷ []) (1 ∷ zeros 5 (1 ∷ zeros 20 (5 ∷ zeros 4 (1 ∷ []))))
    -- a parent count over 4 in facts
    ∷ file (push_type (type_entry model []) ∷ push_type (type_entry plain (0 ∷ 0 ∷ 0 ∷ 0 ∷ [])) ∷ []) (1 ∷ 0 ∷ 1 ∷ zeros 14 (1 ∷ zeros 4 (5 ∷ 0 ∷ 0 ∷ 0 ∷ 1 ∷ 0 ∷ 0 ∷ 1 ∷ [])))
    -- a parent count over 4 in function applications
    ∷ file (push_type (type_entry plain []) ∷ push_func (func_entry [] [] 0) ∷ []) (1 ∷ 0 ∷ 0 ∷ 0 ∷ 1 ∷ zeros 17 (5 ∷ zeros 10 (1 ∷ [])))
    -- an argument count over 4 in function applications
    ∷ file (push_type (type_entry plain []) ∷ push_func (func_entry [] [] 0) ∷ []) (1 ∷ 0 ∷ 0 ∷ 0 ∷ 1 ∷ zeros 22 (255 ∷ zeros 5 (1 ∷ [])))
    -- a parent count over 4 in predicate applications
    ∷ file (push_pred (pred_entry [] []) ∷ []) (1 ∷ zeros 5 (1 ∷ zeros 15 (5 ∷ zeros 9 (1 ∷ []))))
    -- a mark that is neither 0 nor 1
    ∷ file [] (1 ∷ zeros 16 (2 ∷ 0 ∷ 0 ∷ 0 ∷ 1 ∷ []))
    -- settled that is neither 0 nor 1
    ∷ file [] (zeros 16 (2 ∷ 1 ∷ []))
    -- a flag for number 4 that is neither 0 nor 1
    ∷ file [] (zeros 17 (2 ∷ []))
    -- the flag for number 4 not set beside an entry
    ∷ file [] (1 ∷ zeros 21 [])
    -- the flag for number 4 not set beside settled
    ∷ file [] (zeros 16 (1 ∷ 0 ∷ []))
    ∷ []

pub outside_refused : All (λ (f : FileCase). applying f.sig f.bytes ≡ (false ∷ true ∷ false ∷ false ∷ false ∷ false ∷ false ∷ false ∷ [])) outside_cases
unfolding filed
outside_refused = (refl, (refl, (refl, (refl, (refl, (refl, (refl, (refl, (refl, (refl, (refl, tt)))))))))))

-- an entry whose call would refuse it
abbrev pub entries_cases : List FileCase
entries_cases =
    -- an entry of variables whose call is refused with 3
    file [] (zeros 10 (1 ∷ zeros 5 (64 ∷ 0 ∷ 0 ∷ 1 ∷ [])))
    -- an entry of variables whose call is refused with 3
    ∷ file [] (1 ∷ zeros 9 (1 ∷ zeros 6 (64 ∷ zeros 5 (1 ∷ []))))
    -- an entry of variables whose call is refused with 5
    ∷ file [] (zeros 10 (1 ∷ zeros 8 (1 ∷ [])))
    -- an entry of ambient elements whose call is refused with 6
    ∷ file (push_type (type_entry plain []) ∷ []) (1 ∷ zeros 11 (1 ∷ zeros 10 (1 ∷ [])))
    -- an entry of impositions whose call is refused with 15
    ∷ file (push_type (type_entry model []) ∷ push_type (type_entry plain (0 ∷ [])) ∷ []) (1 ∷ zeros 7 (1 ∷ zeros 9 (1 ∷ zeros 9 (1 ∷ []))))
    -- an entry of facts whose call is refused with 15
    ∷ file (push_type (type_entry plain []) ∷ []) (1 ∷ 0 ∷ 1 ∷ zeros 19 (1 ∷ 0 ∷ 0 ∷ 0 ∷ 1 ∷ 0 ∷ 0 ∷ 1 ∷ []))
    -- an entry of function applications whose call is refused with 7
    ∷ file (push_type (type_entry model []) ∷ push_type (type_entry (mor 0) []) ∷ push_func (func_entry [] [] 0) ∷ push_func (func_entry [] [] 0) ∷ push_func (func_entry [] [] 0) ∷ push_func (func_entry [] [] 0) ∷ push_model (model_entry 0 1 0 1 2 3) ∷ push_func (func_entry [] [] 0) ∷ push_mor_app (mor_app_entry 4 1 0) ∷ []) (1 ∷ 0 ∷ 0 ∷ 0 ∷ 1 ∷ zeros 12 (2 ∷ zeros 9 (1 ∷ zeros 5 (1 ∷ []))))
    -- an entry of function applications whose call is refused with 12
    ∷ file (push_type (type_entry model []) ∷ push_type (type_entry (mor 0) []) ∷ push_func (func_entry [] [] 0) ∷ push_func (func_entry [] [] 0) ∷ push_func (func_entry [] [] 0) ∷ push_func (func_entry [] [] 0) ∷ push_model (model_entry 0 1 0 1 2 3) ∷ []) (1 ∷ 0 ∷ 0 ∷ 0 ∷ 1 ∷ zeros 12 (2 ∷ zeros 15 (1 ∷ [])))
    -- an entry of impositions whose call is refused with 15
    ∷ file (push_type (type_entry plain []) ∷ []) (1 ∷ zeros 7 (1 ∷ zeros 14 (1 ∷ zeros 4 (1 ∷ []))))
    -- an entry of impositions whose call is refused with 15
    ∷ file (push_type (type_entry model []) ∷ push_type (type_entry plain (0 ∷ 0 ∷ [])) ∷ []) (1 ∷ zeros 7 (1 ∷ zeros 9 (1 ∷ zeros 4 (1 ∷ zeros 4 (1 ∷ [])))))
    -- an entry of facts whose call is refused with 15
    ∷ file (push_type (type_entry model []) ∷ push_type (type_entry plain (0 ∷ [])) ∷ []) (1 ∷ 0 ∷ 1 ∷ zeros 14 (1 ∷ zeros 8 (1 ∷ 0 ∷ 0 ∷ 1 ∷ [])))
    -- an entry of facts whose call is refused with 15
    ∷ file (push_type (type_entry model []) ∷ push_type (type_entry plain (0 ∷ 0 ∷ [])) ∷ []) (1 ∷ 0 ∷ 1 ∷ zeros 14 (1 ∷ zeros 4 (1 ∷ 0 ∷ 0 ∷ 0 ∷ 1 ∷ 0 ∷ 0 ∷ 1 ∷ [])))
    -- an entry of function applications whose call is refused with 7
    ∷ file (push_type (type_entry model []) ∷ push_type (type_entry (mor 0) []) ∷ push_func (func_entry [] [] 0) ∷ push_func (func_entry [] [] 0) ∷ push_func (func_entry [] [] 0) ∷ push_func (func_entry [] [] 0) ∷ push_model (model_entry 0 1 0 1 2 3) ∷ push_func (func_entry [] [] 0) ∷ push_mor_app (mor_app_entry 4 1 0) ∷ []) (1 ∷ 0 ∷ 0 ∷ 0 ∷ 1 ∷ zeros 12 (4 ∷ zeros 15 (1 ∷ [])))
    -- an entry of function applications whose call is refused with 12
    ∷ file (push_type (type_entry model []) ∷ push_type (type_entry (mor 0) []) ∷ push_func (func_entry [] [] 0) ∷ push_func (func_entry [] [] 0) ∷ push_func (func_entry [] [] 0) ∷ push_func (func_entry [] [] 0) ∷ push_model (model_entry 0 1 0 1 2 3) ∷ []) (1 ∷ 0 ∷ 0 ∷ 0 ∷ 1 ∷ zeros 12 (3 ∷ zeros 9 (1 ∷ zeros 5 (1 ∷ []))))
    -- an entry of facts whose call is refused with 5
    ∷ file [] (1 ∷ 0 ∷ 1 ∷ zeros 23 (1 ∷ 0 ∷ 0 ∷ 1 ∷ []))
    -- an entry of facts whose call is refused with 5
    ∷ file (push_type (type_entry model []) ∷ push_type (type_entry plain (0 ∷ [])) ∷ []) (1 ∷ 0 ∷ 1 ∷ zeros 14 (1 ∷ 1 ∷ 0 ∷ 0 ∷ 0 ∷ 1 ∷ 0 ∷ 0 ∷ 0 ∷ 1 ∷ 0 ∷ 0 ∷ 1 ∷ []))
    -- an entry of function applications whose call is refused with 5
    ∷ file [] (1 ∷ 0 ∷ 0 ∷ 0 ∷ 1 ∷ zeros 28 (1 ∷ []))
    -- an entry of function applications whose call is refused with 5
    ∷ file (push_type (type_entry plain []) ∷ push_func (func_entry [] [] 0) ∷ []) (1 ∷ 0 ∷ 0 ∷ 0 ∷ 1 ∷ zeros 23 (1 ∷ zeros 4 (1 ∷ [])))
    -- an entry of function applications whose call is refused with 5
    ∷ file (push_type (type_entry plain []) ∷ push_func (func_entry [] [] 0) ∷ []) (1 ∷ 0 ∷ 0 ∷ 0 ∷ 1 ∷ zeros 14 (1 ∷ 0 ∷ 0 ∷ 2 ∷ zeros 10 (1 ∷ [])))
    -- an entry of function applications whose call is refused with 5
    ∷ file (push_type (type_entry plain []) ∷ push_func (func_entry [] [] 0) ∷ []) (1 ∷ 0 ∷ 0 ∷ 0 ∷ 1 ∷ zeros 21 (1 ∷ 4 ∷ zeros 5 (1 ∷ [])))
    -- an entry of predicate applications whose call is refused with 5
    ∷ file [] (zeros 6 (1 ∷ zeros 21 (1 ∷ [])))
    -- an entry of predicate applications whose call is refused with 5
    ∷ file (push_pred (pred_entry [] []) ∷ []) (zeros 6 (1 ∷ zeros 14 (1 ∷ zeros 6 (1 ∷ []))))
    -- an entry of predicate applications whose call is refused with 5
    ∷ file (push_pred (pred_entry [] []) ∷ []) (zeros 6 (1 ∷ zeros 19 (1 ∷ 0 ∷ 1 ∷ [])))
    -- an entry of impositions whose call is refused with 5
    ∷ file (push_type (type_entry plain []) ∷ []) (zeros 8 (1 ∷ zeros 15 (1 ∷ [])))
    -- an entry of impositions whose call is refused with 5
    ∷ file [] (1 ∷ zeros 7 (1 ∷ zeros 19 (1 ∷ [])))
    -- an entry of impositions whose call is refused with 5
    ∷ file (push_type (type_entry model []) ∷ push_type (type_entry plain (0 ∷ [])) ∷ []) (1 ∷ zeros 7 (1 ∷ zeros 9 (1 ∷ 1 ∷ 0 ∷ 0 ∷ 0 ∷ 1 ∷ zeros 4 (1 ∷ []))))
    -- an entry of ambient elements whose call is refused with 5
    ∷ file [] (1 ∷ zeros 11 (1 ∷ zeros 10 (1 ∷ [])))
    -- an entry of ambient elements whose call is refused with 5
    ∷ file (push_type (type_entry model []) ∷ []) (zeros 12 (1 ∷ zeros 6 (1 ∷ [])))
    -- an entry of pairs whose call is refused with 5
    ∷ file [] (zeros 14 (1 ∷ zeros 4 (1 ∷ [])))
    -- an entry of pairs whose call is refused with 5
    ∷ file [] (1 ∷ zeros 13 (1 ∷ zeros 4 (1 ∷ 0 ∷ 0 ∷ 0 ∷ 1 ∷ [])))
    ∷ []

pub entries_refused : All (λ (f : FileCase). applying f.sig f.bytes ≡ (false ∷ false ∷ true ∷ false ∷ false ∷ false ∷ false ∷ false ∷ [])) entries_cases
unfolding filed
entries_refused = (refl, (refl, (refl, (refl, (refl, (refl, (refl, (refl, (refl, (refl, (refl, (refl, (refl, (refl, (refl, (refl, (refl, (refl, (refl, (refl, (refl, (refl, (refl, (refl, (refl, (refl, (refl, (refl, (refl, (refl, tt))))))))))))))))))))))))))))))

-- a link to a higher element
abbrev pub links_cases : List FileCase
links_cases =
    -- a link to a higher element
    file [] (1 ∷ zeros 15 (1 ∷ zeros 4 (1 ∷ [])))
    -- a link to a higher element
    ∷ file [] (2 ∷ zeros 15 (1 ∷ 1 ∷ zeros 7 (1 ∷ [])))
    ∷ []

pub links_refused : All (λ (f : FileCase). applying f.sig f.bytes ≡ (false ∷ false ∷ false ∷ true ∷ false ∷ false ∷ false ∷ false ∷ [])) links_cases
unfolding filed
links_refused = (refl, (refl, tt))

-- a fact on an element that is no root
abbrev pub roots_cases : List FileCase
roots_cases =
    -- a fact on an element that is no root
    file (push_type (type_entry plain []) ∷ []) (2 ∷ 0 ∷ 1 ∷ zeros 27 (1 ∷ 0 ∷ 0 ∷ 1 ∷ []))
    ∷ []

pub roots_refused : All (λ (f : FileCase). applying f.sig f.bytes ≡ (false ∷ false ∷ false ∷ false ∷ true ∷ false ∷ false ∷ false ∷ [])) roots_cases
unfolding filed
roots_refused = (refl, tt)

-- a broken chain
abbrev pub chains_cases : List FileCase
chains_cases =
    -- a broken chain, at a first index
    file [] (1 ∷ zeros 17 (1 ∷ 0 ∷ 0 ∷ 1 ∷ []))
    -- a broken chain, at a next index
    ∷ file (push_type (type_entry plain []) ∷ []) (1 ∷ 0 ∷ 1 ∷ zeros 20 (1 ∷ 0 ∷ 0 ∷ 1 ∷ 0 ∷ 0 ∷ 1 ∷ []))
    -- a broken chain, at a first index
    ∷ file (push_type (type_entry plain []) ∷ []) (1 ∷ 0 ∷ 1 ∷ zeros 26 (1 ∷ []))
    -- a broken chain, at a next index
    ∷ file (push_type (type_entry plain []) ∷ push_type (type_entry plain []) ∷ []) (1 ∷ 0 ∷ 2 ∷ zeros 15 (1 ∷ zeros 15 (1 ∷ 0 ∷ 0 ∷ 1 ∷ [])))
    -- a broken chain, at a next index
    ∷ file (push_type (type_entry plain []) ∷ []) (2 ∷ 0 ∷ 2 ∷ zeros 14 (1 ∷ zeros 12 (2 ∷ zeros 5 (1 ∷ 0 ∷ 2 ∷ 0 ∷ 0 ∷ 1 ∷ []))))
    ∷ []

pub chains_refused : All (λ (f : FileCase). applying f.sig f.bytes ≡ (false ∷ false ∷ false ∷ false ∷ false ∷ true ∷ false ∷ false ∷ [])) chains_cases
unfolding filed
chains_refused = (refl, (refl, (refl, (refl, (refl, tt)))))

-- an order other than ours
abbrev pub orders_cases : List FileCase
orders_cases =
    -- variables not in order
    file [] (1 ∷ zeros 9 (2 ∷ zeros 6 (1 ∷ zeros 7 (1 ∷ []))))
    -- variables twice
    ∷ file [] (1 ∷ zeros 9 (2 ∷ zeros 14 (1 ∷ [])))
    -- facts not in order
    ∷ file (push_type (type_entry plain []) ∷ push_type (type_entry plain []) ∷ []) (1 ∷ 0 ∷ 2 ∷ zeros 14 (1 ∷ zeros 11 (2 ∷ zeros 4 (1 ∷ 0 ∷ 0 ∷ 1 ∷ []))))
    -- facts not in order
    ∷ file (push_type (type_entry model []) ∷ push_type (type_entry plain (0 ∷ [])) ∷ []) (2 ∷ 0 ∷ 2 ∷ zeros 14 (1 ∷ 1 ∷ 1 ∷ 1 ∷ zeros 7 (1 ∷ 1 ∷ 2 ∷ zeros 5 (1 ∷ zeros 4 (1 ∷ [])))))
    -- facts twice
    ∷ file (push_type (type_entry plain []) ∷ []) (1 ∷ 0 ∷ 2 ∷ zeros 26 (2 ∷ zeros 4 (1 ∷ 0 ∷ 0 ∷ 1 ∷ [])))
    -- function applications not in order
    ∷ file (push_type (type_entry plain []) ∷ push_func (func_entry [] [] 0) ∷ []) (1 ∷ 0 ∷ 0 ∷ 0 ∷ 2 ∷ zeros 22 (1 ∷ zeros 17 (1 ∷ [])))
    -- function applications twice
    ∷ file (push_type (type_entry plain []) ∷ push_func (func_entry [] [] 0) ∷ []) (2 ∷ 0 ∷ 0 ∷ 0 ∷ 2 ∷ zeros 12 (1 ∷ zeros 23 (1 ∷ zeros 7 (1 ∷ []))))
    -- predicate applications not in order
    ∷ file (push_pred (pred_entry [] []) ∷ []) (1 ∷ zeros 5 (2 ∷ zeros 20 (1 ∷ zeros 15 (1 ∷ []))))
    -- predicate applications twice
    ∷ file (push_pred (pred_entry [] []) ∷ []) (zeros 6 (2 ∷ zeros 32 (1 ∷ [])))
    -- ambient elements not in order
    ∷ file (push_type (type_entry model []) ∷ push_type (type_entry model []) ∷ []) (1 ∷ zeros 11 (2 ∷ zeros 4 (1 ∷ zeros 7 (1 ∷ []))))
    -- ambient elements twice
    ∷ file (push_type (type_entry model []) ∷ []) (1 ∷ zeros 11 (2 ∷ zeros 12 (1 ∷ [])))
    ∷ []

pub orders_refused : All (λ (f : FileCase). applying f.sig f.bytes ≡ (false ∷ false ∷ false ∷ false ∷ false ∷ false ∷ true ∷ false ∷ [])) orders_cases
unfolding filed
orders_refused = (refl, (refl, (refl, (refl, (refl, (refl, (refl, (refl, (refl, (refl, (refl, tt)))))))))))

-- a nonzero unused byte
abbrev pub unused_cases : List FileCase
unused_cases =
    -- a nonzero unused byte in the parents of impositions
    file (push_type (type_entry plain []) ∷ []) (1 ∷ zeros 7 (1 ∷ zeros 10 (1 ∷ zeros 8 (1 ∷ []))))
    -- a nonzero unused byte in the arguments of predicate applications
    ∷ file (push_pred (pred_entry [] []) ∷ []) (zeros 6 (1 ∷ zeros 15 (1 ∷ zeros 5 (1 ∷ []))))
    -- a nonzero unused byte in the parents of facts
    ∷ file (push_type (type_entry model []) ∷ push_type (type_entry plain (0 ∷ [])) ∷ []) (1 ∷ 0 ∷ 1 ∷ zeros 14 (1 ∷ 0 ∷ 0 ∷ 0 ∷ 1 ∷ 1 ∷ 0 ∷ 0 ∷ 0 ∷ 1 ∷ 0 ∷ 0 ∷ 1 ∷ []))
    -- a nonzero unused byte in the parents of function applications
    ∷ file (push_type (type_entry plain []) ∷ push_func (func_entry [] [] 0) ∷ []) (1 ∷ 0 ∷ 0 ∷ 0 ∷ 1 ∷ zeros 14 (1 ∷ 0 ∷ 0 ∷ 1 ∷ zeros 10 (1 ∷ [])))
    -- a nonzero unused byte in the arguments of function applications
    ∷ file (push_type (type_entry plain []) ∷ push_func (func_entry [] [] 0) ∷ []) (1 ∷ 0 ∷ 0 ∷ 0 ∷ 1 ∷ zeros 21 (255 ∷ 3 ∷ zeros 5 (1 ∷ [])))
    -- a nonzero unused byte in the parents of predicate applications
    ∷ file (push_pred (pred_entry [] []) ∷ []) (1 ∷ zeros 5 (1 ∷ zeros 13 (1 ∷ 0 ∷ 2 ∷ zeros 9 (1 ∷ []))))
    ∷ []

pub unused_refused : All (λ (f : FileCase). applying f.sig f.bytes ≡ (false ∷ false ∷ false ∷ false ∷ false ∷ false ∷ false ∷ true ∷ [])) unused_cases
unfolding filed
unused_refused = (refl, (refl, (refl, (refl, (refl, (refl, tt))))))

-- What is loaded though no call makes it: an entry or a mark on an element that is no root, settled though a close has work; and the empty structure.
abbrev pub loading_cases : List FileCase
loading_cases =
    -- a fact whose parent is no root
    file (push_type (type_entry model []) ∷ push_type (type_entry plain (0 ∷ [])) ∷ []) (2 ∷ 0 ∷ 1 ∷ zeros 15 (1 ∷ 1 ∷ 0 ∷ 0 ∷ 0 ∷ 1 ∷ zeros 4 (1 ∷ zeros 4 (1 ∷ []))))
    -- an imposition whose parent is no root
    ∷ file (push_type (type_entry model []) ∷ push_type (type_entry plain (0 ∷ [])) ∷ []) (2 ∷ zeros 7 (1 ∷ zeros 10 (1 ∷ 1 ∷ 0 ∷ 0 ∷ 0 ∷ 1 ∷ zeros 7 (1 ∷ []))))
    -- an imposition on an element that is no root
    ∷ file (push_type (type_entry plain []) ∷ []) (2 ∷ zeros 7 (1 ∷ zeros 9 (1 ∷ zeros 13 (1 ∷ []))))
    -- a mark on an element that is no root
    ∷ file [] (2 ∷ zeros 18 (1 ∷ zeros 5 (1 ∷ [])))
    -- settled though a close has work
    ∷ file [] (2 ∷ zeros 13 (1 ∷ 0 ∷ 0 ∷ 1 ∷ 0 ∷ 0 ∷ 0 ∷ 1 ∷ zeros 4 (1 ∷ 1 ∷ [])))
    -- an empty structure that is not started
    ∷ file [] (zeros 18 [])
    ∷ []

-- the bytes that a load gives are stored as
abbrev stored_again : Answered Structure → List ℕ
stored_again (accepted s) = store s
stored_again (refused n) = []

pub all_load : All (λ (f : FileCase). stored_again (load f.sig f.bytes) ≡ f.bytes) loading_cases
unfolding filed
all_load = (refl, (refl, (refl, (refl, (refl, (refl, tt))))))

-- A store into a buffer: one byte too short, just long enough, and longer.

abbrev ones : ℕ → List ℕ
ones n = replicate n 1

pub no_room_lem : store_into empty (ones 17) ≡ refusing (ones 17) no_room
unfolding filed
no_room_lem = refl

pub just_room : store_into empty (ones 18) ≡ accepting 18 (zeros 18 [])
unfolding filed
just_room = refl

pub more_room : store_into empty (ones 21) ≡ accepting 18 (zeros 18 (ones 3))
unfolding filed
more_room = refl

-- The worked example of docs/FILE.md: P2 of document 01 after its close.

abbrev closed_p2 : List Call
closed_p2 =
    push_type (type_entry model [])
    ∷ push_type (type_entry plain (0 ∷ []))
    ∷ push_func (func_entry (0 ∷ []) [] 1)
    ∷ push_el false
    ∷ push_el false
    ∷ push_el false
    ∷ push_el false
    ∷ apply_func (func_app 0 (0 ∷ []) [] 2)
    ∷ apply_func (func_app 0 (1 ∷ []) [] 3)
    ∷ equate_els 2 3
    ∷ close
    ∷ []

pub worked_example : store (after_calls closed_p2 start).structure
    ≡ (4 ∷ 0 ∷ 2 ∷ 0 ∷ 2 ∷ zeros 12 (1 ∷ 2 ∷ 2 ∷ 1 ∷ 1 ∷ 0 ∷ 1 ∷ zeros 6 (1 ∷ 1 ∷ 2 ∷ zeros 6 (1 ∷ zeros 6 (1 ∷ 1 ∷ zeros 10 (2 ∷ 2 ∷ zeros 8 (1 ∷ zeros 4 (1 ∷ []))))))))
unfolding filed
worked_example = refl
