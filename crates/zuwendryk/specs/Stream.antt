-- Errors after which a call is made again, how much of a buffer is filled, and what is written of a failure. Assumes nothing.
use Rattle.std.specs.Prelude.{◌≡◌, ℕ, ◌≤◌, Bool, false, ◌||◌, eqb, ℤ, pos, negsuc, ◌⊎◌, List, [], ◌∷◌, ◌++◌, length, take, Some, Ok, Err, IfErr}
use Rattle.std.specs.declared.option.Option.{Option}
use Rattle.std.specs.declared.result.Result.{Result}
use Rattle.std.specs.declared.io.Error.{Error}
use Rattle.std.specs.declared.io.ErrorKind.{ErrorKind}
use Rattle.std.specs.declared.io.ErrorKind.TheVariants.{Interrupted, WouldBlock}
use Rattle.std.specs.Fn.{Mut, Called}
use Rattle.std.specs.Io.KnownBytes.{Appends}
use Rattle.std.specs.IoError.{error_kind}
use Rattle.std.specs.List.{FoldsTo, last_or}
use Rattle.zuwendryk.specs.declared.stream.Stopped.{Stopped}

-- EINTR, 4: a signal interrupted the call. EAGAIN, 11: the stream wasn't ready.
unfoldable pub passing : ℤ → Bool
passing (pos n) = eqb n 4 || eqb n 11
passing (negsuc n) = false

-- the same by std's kinds
abbrev pub IsPassing : ErrorKind → Type 0
IsPassing kind = (kind ≡ Interrupted) ⊎ (kind ≡ WouldBlock)

-- calls of f in turn: those before the last failed, each for a passing error, at most `tries` of them, and the last gave r and left f'. That one
-- fails for a passing error only where no try is left. The error kept becomes the last of those errors, and stays where there is none.
pub record CalledAgain {F : Type 0} (g : Mut F (Unit {0}) (Result ℕ Error)) (tries : ℕ) (f : F) (kept : Error) (r : Result ℕ Error) (f' : F) (kept' : Error) : Type 0 where
  pub errors : List Error
  pub before : F
  pub failed : FoldsTo (λ p e q. IsPassing (error_kind e) × Called g p tt (Err e) q) f errors before
  pub last : Called g before tt r f'
  pub most : length errors ≤ tries
  pub ended : IfErr r (λ e. IsPassing (error_kind e) → length errors ≡ tries)
  pub keeps : Some kept' ≡ last_or (Some kept) errors

-- the first n bytes are within the list, and are n
abbrev pub IsPrefixLen : ℕ → List ℕ → Type 0
IsPrefixLen n xs = (n ≤ length xs) × (n ≡ length (take n xs))

-- how many bytes were read, where a read failed too
abbrev pub count_of : Result ℕ Stopped → ℕ
count_of (Ok count) = count
count_of (Err stopped) = stopped.count

-- known bytes grow by a front of xs
abbrev pub AppendsFront : Option (List ℕ) → Option (List ℕ) → List ℕ → Type 0
AppendsFront old new xs = (k : ℕ) × Appends old new (take k xs)

-- known bytes grow by a front of each of these: what failed, a colon and a space, a text, the line's end
abbrev pub Tells : Option (List ℕ) → Option (List ℕ) → List ℕ → Type 0
Tells old new what = (a : ℕ) × (b : ℕ) × (text : List ℕ) × (d : ℕ) × Appends old new (take a what ++ (take b (58 ∷ 32 ∷ []) ++ (text ++ take d (10 ∷ []))))
