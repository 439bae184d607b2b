-- What failed.
use Rattle.std.specs.Prelude.{◌≡◌}
use Rattle.reading.specs.declared.failing.Failure.{Failure}
use Rattle.reading.specs.declared.failing.Failure.TheVariants as failures
use Rattle.reading.specs.declared.path.Path.{Path}

-- the file of a path
abbrev pub IsOfFile : Failure → Path → Type 0
IsOfFile (failures.File of e) path = of ≡ path
IsOfFile (failures.Input e) path = ⊥
IsOfFile (failures.Output e) path = ⊥
IsOfFile (failures.Argument e) path = ⊥
