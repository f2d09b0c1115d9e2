-- The byte of each kind: documents 01 and 02, kinds 0 to 7 in this order.
use Rattle.std.specs.Prelude.{ℕ, ◌<◌, ◌≡◌, Result, MatchResult}
use Rattle.dag.specs.declared.Refusal.{Refusal}
use Rattle.dag.specs.declared.Refusal.TheVariants.{BadRecord}
use Rattle.dag.specs.declared.kind.Kind.{Kind}
use Rattle.dag.specs.declared.kind.Kind.TheVariants.{Zero, Atom, Pair, Enc, Sum, PrivateHalf, PublicHalf, Aenc}

abbrev pub byte_of : Kind → ℕ
byte_of Zero = 0
byte_of Atom = 1
byte_of Pair = 2
byte_of Enc = 3
byte_of Sum = 4
byte_of PrivateHalf = 5
byte_of PublicHalf = 6
byte_of Aenc = 7

-- the kind with this byte, or "bad record" for a byte over 7
abbrev pub Decodes : ℕ → Result Kind Refusal → Type 0
Decodes byte r = MatchResult r (λ kind. byte_of kind ≡ byte) (λ e. (e ≡ BadRecord) × (7 < byte))
