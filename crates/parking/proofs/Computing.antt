-- The definitions that a list of acts computes with, under one name.
use Prim.Native.Nat.{ℕ}
use Rattle.history.specs.Settled as settled
use Rattle.history.proofs.Examples.{computed}
use Rattle.file.proofs.Computing.{filed}
use Rattle.parking.specs.Same as same
use Rattle.parking.specs.Parking as parking

unfoldable pub acting : ℕ
unfolding computed filed
    settled.trace settled.reported_change settled.latest_close settled.since settled.asserts settled.is_yes settled.any_yes settled.unchanged
    settled.settled_after
    same.same_by same.kind_numbers same.type_numbers same.pred_numbers same.func_numbers same.model_numbers same.mor_app_numbers same.sig_numbers same.same_sig
    parking.no_notes parking.taken_down parking.notes_of parking.called parking.parked_now parking.loaded parking.taken_back parking.file_at
    parking.restored parking.act parking.acts parking.fresh parking.acted
acting = 0
