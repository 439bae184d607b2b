use mathlib.Core.Path.{◌≡◌}
use mathlib.Core.Bool.{◌&&◌}
use lib.ListN.{length}
use Rattle.std.specs.Str.{bytes_eq}
use Rattle.loading.proofs.is_same.Given as goal

-- what is left is as long on both sides, and with what was alike so far it is the same where all is
abbrev pub invariant-loop-x : goal.invariant-loop-x
invariant-loop-x l =
    let file = l.x-iterator.a.rest.now in
    let bytes = l.x-iterator.b.rest.now in (length file ≡ length bytes) × ((l.alike && bytes_eq file bytes) ≡ bytes_eq l.fn.file l.fn.bytes)
