-- What stands at a place of a list is a member. Assumes nothing.
use mathlib.Core.Path.{refl}
use mathlib.Core.List.{List, [], ◌∷◌, Memᴰ}
use Prim.Native.Nat.{ℕ, zero, suc, ◌<◌}
use native.Mathlib.Nat.{le_of_suc-le-suc}
use native.Mathlib.Omega.{arith}
use lib.ListN.{length, get_or}

pub get_d_member : {A : Type 0} (l : List A) (k : ℕ) (d : A) → k < length l → Memᴰ (get_or l k d) l
get_d_member [] k d h = absurd (omega arith)
get_d_member (a ∷ l) zero d h = Memᴰ.head refl
get_d_member (a ∷ l) (suc k) d h = Memᴰ.tail (get_d_member l k d (le_of_suc-le-suc h))
