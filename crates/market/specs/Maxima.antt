-- The ranges and maxima of the market's figures, each stated once.
use Rattle.std.specs.Prelude.{ℕ}

-- units are 0 to 63
abbrev pub unit_count : ℕ
unit_count = 64

-- grids are 0 to 15
abbrev pub grid_count : ℕ
grid_count = 16

-- the grid that is the branch's own dispatch
abbrev pub branch_dispatch : ℕ
branch_dispatch = 15

-- a unit has four places, of which its bands take the first
abbrev pub bands_of_unit : ℕ
bands_of_unit = 4

-- places are 0 to 255
abbrev pub place_count : ℕ
place_count = 256

-- the most of a unit's five figures, of a cap and of a room, in tenths
abbrev pub max_figure : ℕ
max_figure = 20000

-- the most of a need, in tenths
abbrev pub max_need : ℕ
max_need = 200000

-- the most of a bid, in fen
abbrev pub max_price : ℕ
max_price = 200000

-- the most of an offer, in yuan
abbrev pub max_offer : ℕ
max_offer = 1000

-- the most of a tariff, in fen
abbrev pub max_tariff : ℕ
max_tariff = 50000

-- the most of a screen's limit, in tenths
abbrev pub max_limit : ℕ
max_limit = 6000000

-- the points of a day
abbrev pub point_count : ℕ
point_count = 96

-- the most entries of a day
abbrev pub max_entries : ℕ
max_entries = 1000000000

-- the least length of a listing's buffer, in bytes
abbrev pub listing_room : ℕ
listing_room = 8192
