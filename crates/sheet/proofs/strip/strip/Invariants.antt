use Rattle.std.proofs.Common.{◌≡◌, ◌*◌, ◌≤◌, length, take, drop}
use Rattle.sheet.specs.Layout.{tariffs_to}
use Rattle.sheet.proofs.strip.strip.Given as goal

-- The tariffs so far are read, and the bytes behind them are left.
abbrev pub invariant-loop-tariff : goal.invariant-loop-tariff
invariant-loop-tariff l =
    (take l.tariff-index l.tariff-items ≡ tariffs_to l.tariff-index l.bytes) × (l.rest ≡ drop (2 * l.tariff-index) l.bytes) × (2 * l.tariff-index ≤ length l.bytes)
