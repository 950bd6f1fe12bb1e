-- What a unit that is paid is awarded and receives.
use Rattle.std.specs.Prelude.{ℕ, sum}
use Rattle.day.specs.Amounts.{received_in}
use Rattle.day.specs.declared.settlement.Seller.{Seller}

abbrev pub awarded_to : Seller → ℕ
awarded_to s = sum s.awards.now

abbrev pub received_by : Seller → ℕ
received_by s = received_in s.charges s.segments.now s.awards.now s.offers.now
