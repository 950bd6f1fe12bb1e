-- A header or record whose every field is what the bytes say is the one that the bytes say.
use Rattle.std.proofs.Common.{◌≡◌, ℕ, List, [], ◌∷◌, get_or}
use Rattle.sheet.specs.Layout.{word16, word32, header_of, unit_at, bid_at, limit_at}

pub header_by_fields : (s : List ℕ) {long units bids limits point : ℕ} → long ≡ word16 s 0 → units ≡ word16 s 2 → bids ≡ word16 s 4 → limits ≡ word16 s 6 → point ≡ word16 s 8 → record { length = long; units = units; bids = bids; limits = limits; point = point } ≡ header_of s
header_by_fields s a b c d e = cc

pub unit_by_fields : (s : List ℕ) {unit grid class nameplate own network kept plan first second third : ℕ} → unit ≡ get_or s 0 0 → grid ≡ get_or s 1 0 → class ≡ get_or s 2 0 → nameplate ≡ word16 s 3 → own ≡ word16 s 5 → network ≡ word16 s 7 → kept ≡ word16 s 9 → plan ≡ word16 s 11 → first ≡ word16 s 13 → second ≡ word16 s 15 → third ≡ word16 s 17 → record { unit = unit; grid = grid; class = class; nameplate = nameplate; own_derate = own; network_derate = network; kept_reserve = kept; plan = plan; offers = first ∷ second ∷ third ∷ 0 ∷ [] } ≡ unit_at s
unit_by_fields s a b c d e f g h i j k = cc

pub bid_by_fields : (s : List ℕ) {grid need price : ℕ} → grid ≡ get_or s 0 0 → need ≡ word32 s 1 → price ≡ word32 s 5 → record { grid = grid; need = need; price = price } ≡ bid_at s
bid_by_fields s a b c = cc

pub limit_by_fields : (s : List ℕ) {grid limit : ℕ} → grid ≡ get_or s 0 0 → limit ≡ word32 s 1 → record { grid = grid; limit = limit } ≡ limit_at s
limit_by_fields s a b = cc
