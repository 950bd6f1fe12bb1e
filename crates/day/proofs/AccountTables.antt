-- Tables of accounts, read as functions.
use Rattle.std.proofs.Common.{◌≡◌, ℕ, ◌<◌, length, set, replicate, refl, ap, ◌∙◌}
use Rattle.outcome.specs.Outcome.{at}
use Rattle.book.specs.Views.{Money, no_money}
use Rattle.day.specs.Shown.{account_at, money_of}
use Rattle.day.specs.declared.ledger.Account.{Account}
use Rattle.day.specs.declared.ledger.Accounts.{Accounts}
use Rattle.day.proofs.TableFunctions.{figures_set, figures_constant}

-- A table with one account changed is changed at its number only.
pub account_set :
    {n : ℕ} (t : Accounts n) (i m : ℕ) (a : Account) → i < length t.rows → a.fortieths ≡ m
    → account_at {n = n} (record { rows = set t.rows i a }) ≡ at i m (account_at t)
account_set t i m a l e = figures_set (λ x. x.fortieths) t.rows i a 0 l ∙ ap (λ k. at i k (account_at t)) e

abbrev none : Account
none = record { fortieths = 0 }

-- A table of empty accounts holds no money.
pub accounts_none : (n : ℕ) → account_at {n = n} (record { rows = replicate n none }) ≡ (λ k. 0)
accounts_none n = figures_constant {X = Account} (λ a. a.fortieths) n none 0 refl

abbrev money : (ℕ → ℕ) → (ℕ → ℕ) → (ℕ → ℕ) → ℕ → Money
money charge unit wires branch = record { charge = charge; unit = unit; wires = wires; branch = branch }

-- Money is the same where its four parts are.
pub money_same : (m k : Money) → m.charge ≡ k.charge → m.unit ≡ k.unit → m.wires ≡ k.wires → m.branch ≡ k.branch → m ≡ k
money_same m k charge unit wires branch =
    ap (λ f. money f m.unit m.wires m.branch) charge
    ∙ ap (λ f. money k.charge f m.wires m.branch) unit
    ∙ ap (λ f. money k.charge k.unit f m.branch) wires
    ∙ ap (money k.charge k.unit k.wires) branch

-- A ledger of empty accounts holds no money.
pub ledger_none :
    money_of (record { charges = record { rows = replicate 16 none }; units = record { rows = replicate 64 none }; wires = record { rows = replicate 16 none }; branch = none })
    ≡ no_money
ledger_none = money_same _ no_money (accounts_none 16) (accounts_none 64) (accounts_none 16) refl
