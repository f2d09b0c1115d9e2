use Rattle.std.proofs.Common.{◌≡◌, List, length}
use Rattle.std.specs.Prelude.{Some, Err}
use Rattle.std.specs.Fn.{Called}
use Rattle.std.specs.IoError.{error_kind}
use Rattle.std.specs.List.{FoldsTo, last_or}
use Rattle.std.specs.declared.io.Error.{Error}
use Rattle.zuwendryk.specs.Stream.{IsPassing}
use Rattle.zuwendryk.proofs.stream.again.Given as goal

abbrev pub invariant-loop : goal.invariant-loop
invariant-loop g l = goal.F-IsAlwaysCallable g l.call
    × ((errors : List Error) × FoldsTo (λ p e q. IsPassing (error_kind e) × Called g.F.FnMut p tt (Err e) q) l.initial.call errors l.call × (length errors ≡ l.counter)
    × (Some l.last ≡ last_or (Some l.initial.last) errors))
