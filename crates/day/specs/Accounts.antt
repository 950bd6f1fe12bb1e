-- What an account answers.
use Rattle.std.specs.Prelude.{◌≡◌, ℕ, ◌+◌, ◌*◌, ◌<◌, List, [], ◌∷◌, nat_le}
use Rattle.market.specs.Refusals.{refusal_of}
use Rattle.market.specs.Rows.{Row, row}
use Rattle.book.specs.declared.Money.{Money}

-- why an account is not answered: there is none of this number
abbrev pub account_rows : ℕ → ℕ → List Row
account_rows count number = row (nat_le count number) (refusal_of 4 2 number) ∷ []

-- whole fen and the fortieths left over, tied to the exact money
abbrev pub WholeFen : ℕ → Money → Type 0
WholeFen fortieths m = (m.fen * 40 + m.fortieths ≡ fortieths) × (m.fortieths < 40)
