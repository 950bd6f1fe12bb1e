-- The accepted posts of a list of calls, and what they add up to.
use Rattle.std.specs.Prelude.{◌≡◌, ℕ, ◌+◌, List, [], ◌∷◌, Some, None, Option}
use Rattle.market.specs.declared.refusals.Refusal.{Refusal}
use Rattle.book.specs.Views.{View, Stage, entering, cleared, Declaration}
use Rattle.book.specs.Calls.{Call, tariff, offer, withdraw, bid, clear, reopen, post}
use Rattle.book.specs.Tables.{refusal}
use Rattle.book.specs.Money.{charge_of, receipt_of, wires_of, branch_of}
use Rattle.book.specs.Histories.{history}

-- an amount by the day and its declaration, at a cleared point
abbrev pub amount_at : (View → Declaration → ℕ) → View → Stage → ℕ
amount_at amount v entering = 0
amount_at amount v (cleared d) = amount v d

-- what a call adds: a post its amount, any other nothing
abbrev pub added_by : (View → Declaration → ℕ) → Call → View → ℕ
added_by amount (tariff grid fen) v = 0
added_by amount (offer r) v = 0
added_by amount (withdraw unit) v = 0
added_by amount (bid grid price need) v = 0
added_by amount (clear A laws) v = 0
added_by amount reopen v = 0
added_by amount post v = amount_at amount v v.stage

-- a declined call adds nothing
abbrev pub unless_declined : Option Refusal → ℕ → ℕ
unless_declined None n = n
unless_declined (Some r) n = 0

-- the sum of an amount over the accepted posts of a list of calls
abbrev pub over_posts : (View → Declaration → ℕ) → List Call → ℕ
over_posts amount [] = 0
over_posts amount (c ∷ h) = over_posts amount h + unless_declined (refusal (history h) c) (added_by amount c (history h))

-- The accounts are the sums over the accepted posts.
pub record SumsOfPosts (h : List Call) : Type 0 where
  pub charges : (g : ℕ) → (history h).money.charge g ≡ over_posts (λ v d. charge_of d g) h
  pub units : (u : ℕ) → (history h).money.unit u ≡ over_posts (λ v d. receipt_of v d u) h
  pub wires : (g : ℕ) → (history h).money.wires g ≡ over_posts (λ v d. wires_of v d g) h
  pub branch : (history h).money.branch ≡ over_posts branch_of h
