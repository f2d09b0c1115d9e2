-- Calls made again. Shown: what is so of each call, and goes over from one that failed to the next, is so of all of
-- them; after a call that kept the known bytes, the next is as if it were the first. Assumes nothing.
use Rattle.std.proofs.Common.{◌≡◌, ℕ, List, [], ◌∷◌, ◌++◌, refl, sym, subst}
use Rattle.std.specs.Prelude.{Result, Ok, Err, None, Some}
use Rattle.std.specs.declared.io.Error.{Error}
use Rattle.std.specs.declared.option.Option.{Option}
use Rattle.std.specs.Fn.{Mut, Called}
use Rattle.std.specs.IoError.{error_kind}
use Rattle.std.specs.List.{FoldsTo, last_or}
use Rattle.std.specs.Io.KnownBytes.{Keeps, ReadConsumes, WriteAppends}
use Rattle.zuwendryk.specs.Stream.{IsPassing, CalledAgain}

module _ {F : Type 0} (g : Mut F (Unit {0}) (Result ℕ Error)) (T : F → Result ℕ Error → F → Type 0)
    (each : (p : F) (r : Result ℕ Error) (q : F) → Called g p tt r q → T p r q)
    (next : (p : F) (e : Error) (q : F) (r : Result ℕ Error) (s : F) → T p (Err e) q → T q r s → T p r s) where
  along : (errors : List Error) (p q : F) (r : Result ℕ Error) (s : F) → FoldsTo (λ p e q. IsPassing (error_kind e) × Called g p tt (Err e) q) p errors q → Called g q tt r s → T p r s
  along [] p q r s same last = subst (λ x. T x r s) (sym same) (each q r s last)
  along (e ∷ es) p q r s (j, (passed, call), more) last = next p e j r s (each p (Err e) j call) (along es j q r s more last)

  pub as_one : {tries : ℕ} {p : F} {e : Error} {r : Result ℕ Error} {q : F} {d : Error} → CalledAgain g tries p e r q d → T p r q
  as_one c = along c.errors _ c.before _ _ c.failed c.last

pub read_next : {E : Type 0} (a b c : Option (List ℕ)) (r : Result ℕ E) (buf : List ℕ) → Keeps a b → ReadConsumes b c r buf → ReadConsumes a c r buf
read_next None b c (Ok n) buf k h = (tt, h.1)
read_next None b c (Err e) buf k h = tt
read_next (Some xs) None c r buf k h = absurd k
read_next (Some xs) (Some ys) c r buf k h = subst (λ zs. ReadConsumes (Some zs) c r buf) k h

pub write_next : {E : Type 0} (a b c : Option (List ℕ)) (r : Result ℕ E) (buf : List ℕ) → Keeps a b → WriteAppends b c r buf → WriteAppends a c r buf
write_next None b c (Ok n) buf k h = tt
write_next None b c (Err e) buf k h = tt
write_next (Some xs) None c r buf k h = absurd k
write_next (Some xs) (Some ys) c r buf k h = subst (λ zs. WriteAppends (Some zs) c r buf) k h

-- the last of a list with one more behind it
pub last_more : {A : Type 0} (o : Option A) (xs : List A) (x : A) → last_or o (xs ++ (x ∷ [])) ≡ Some x
last_more o [] x = refl
last_more o (y ∷ ys) x = last_more (Some y) ys x
