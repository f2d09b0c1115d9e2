-- What the search for the next step holds. Defined: `Offered`, these offers were put into its table, and the rest stayed. Laws: proofs/Laws/Search.antt.
use Rattle.std.specs.Prelude.{◌≡◌, List, ℕ}
use Rattle.offers.specs.declared.Search.{Search}
use Rattle.offers.specs.Inner.Table.{Adds}

-- the search s became s': these offers were put into its table; what is known and the switches stayed
pub record Offered (s s' : Search) (zs : List ℕ) : Type 0 where
  pub known : s'.known ≡ s.known
  pub rules : s'.rules ≡ s.rules
  pub table : Adds s.best s.ready s'.best s'.ready zs
