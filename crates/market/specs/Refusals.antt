-- Number, layer and name of every refusal.
use Rattle.std.specs.Prelude.{ℕ}
use Rattle.market.specs.declared.refusals.Refusal.{Refusal}
use Rattle.market.specs.declared.refusals.SheetRefusal.{SheetRefusal}
use Rattle.market.specs.declared.refusals.SheetRefusal.TheVariants.{TooShort, BadLayout, OtherPoint}
use Rattle.market.specs.declared.refusals.MarketRefusal.{MarketRefusal}
use Rattle.market.specs.declared.refusals.MarketRefusal.TheVariants as market
use Rattle.market.specs.declared.refusals.ScreenRefusal.{ScreenRefusal}
use Rattle.market.specs.declared.refusals.ScreenRefusal.TheVariants as screen

abbrev pub refusal_of : ℕ → ℕ → ℕ → Refusal
refusal_of number layer name = record { number = number; layer = layer; name = name }

-- layer 1, the sheet
abbrev pub sheet_refusal : SheetRefusal → Refusal
sheet_refusal TooShort = refusal_of 11 1 0
sheet_refusal BadLayout = refusal_of 12 1 0
sheet_refusal OtherPoint = refusal_of 14 1 0

-- layer 2, the market
abbrev pub market_refusal : MarketRefusal → Refusal
market_refusal (market.DayFull name) = refusal_of 1 2 name
market_refusal (market.Cleared name) = refusal_of 2 2 name
market_refusal market.NotCleared = refusal_of 3 2 0
market_refusal (market.OutOfRange name) = refusal_of 4 2 name
market_refusal (market.AboveMaximum name) = refusal_of 5 2 name
market_refusal (market.NoHeadroom unit) = refusal_of 6 2 unit
market_refusal (market.OffersFall unit) = refusal_of 7 2 unit
market_refusal (market.BothSides name) = refusal_of 8 2 name
market_refusal (market.TariffsFixed grid) = refusal_of 9 2 grid
market_refusal (market.NotOffered unit) = refusal_of 10 2 unit
market_refusal market.ShortBuffer = refusal_of 13 2 0
market_refusal (market.EntriesFull name) = refusal_of 17 2 name

-- layer 3, the screen
abbrev pub screen_refusal : ScreenRefusal → Refusal
screen_refusal (screen.OutOfRange name) = refusal_of 4 3 name
screen_refusal (screen.AboveMaximum name) = refusal_of 5 3 name
screen_refusal (screen.AboveRoom place) = refusal_of 15 3 place
screen_refusal (screen.ParentNotLower corridor) = refusal_of 16 3 corridor
