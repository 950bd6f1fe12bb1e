-- From the offer at the sending end to the offer as it lands with a buyer.
use Rattle.std.specs.Prelude.{ℕ, ◌+◌, ◌*◌}
use Rattle.market.specs.declared.figures.Charges.{Charges}

-- What lies between a landed offer and what the unit receives, per tenth: the tariffs of its grid and of the branch, in fen.
abbrev pub between : ℕ → ℕ → ℕ
between tariff branch = tariff + branch

-- The landed offer in fen, of an offer in yuan and what lies between.
abbrev pub landed_from : ℕ → ℕ → ℕ
landed_from yuan taken = 100 * yuan + taken

abbrev pub deducted : Charges → ℕ
deducted c = between c.grid.fen c.branch.fen

abbrev pub landed : ℕ → Charges → ℕ
landed yuan c = landed_from yuan (deducted c)
