-- The accounts of a closed day, by whose they are.
use Rattle.std.specs.Prelude.{ℕ, List}
use Rattle.market.specs.Maxima.{unit_count, grid_count}
use Rattle.book.specs.Views.{Money}
use Rattle.listings.specs.Listings.{lines_to, money_text}
use Rattle.listings.specs.declared.accounts.Party.{Party}
use Rattle.listings.specs.declared.accounts.Party.TheVariants.{Buyer, Unit, Wires}

-- how many there are of a kind
abbrev pub party_count : Party → ℕ
party_count Buyer = grid_count
party_count Unit = unit_count
party_count Wires = grid_count

-- the letter of their lines: C, U or W
abbrev pub letter_of : Party → ℕ
letter_of Buyer = 67
letter_of Unit = 85
letter_of Wires = 87

-- what each of them was charged, or received
abbrev pub money_of : Party → Money → ℕ → ℕ
money_of Buyer m = m.charge
money_of Unit m = m.unit
money_of Wires m = m.wires

abbrev pub account_line : Party → Money → ℕ → List ℕ
account_line party m n = money_text (letter_of party) n (money_of party m n)

abbrev pub account_lines : Party → Money → List ℕ
account_lines party m = lines_to (party_count party) (account_line party m)
