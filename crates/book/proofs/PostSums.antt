-- The accounts are the sums over the accepted posts.
use Rattle.std.proofs.Common.{◌≡◌, ℕ, ◌+◌, List, [], ◌∷◌, Some, None, Option, refl, ap, ◌∙◌, arith}
use Rattle.market.specs.declared.refusals.Refusal.{Refusal}
use Rattle.book.specs.Views.{View, Stage, entering, cleared, Declaration, Money, no_money}
use Rattle.book.specs.Calls.{Call, tariff, offer, withdraw, bid, clear, reopen, post}
use Rattle.book.specs.Tables.{refusal}
use Rattle.book.specs.Money.{charge_of, receipt_of, wires_of, branch_of, posted_money}
use Rattle.book.specs.Histories.{acted, after_post, unless, turn, history}
use Rattle.book.specs.Posts.{amount_at, added_by, unless_declined, over_posts, SumsOfPosts}

-- An account that starts at 0 and to which each post adds an amount.
module _
    (account : Money → ℕ) (amount : View → Declaration → ℕ) (starts : account no_money ≡ 0)
    (adds : (v : View) (d : Declaration) → account (posted_money v d) ≡ account v.money + amount v d) where
  -- A post adds its amount.
  after_post_adds : (v : View) (s : Stage) → account (after_post v s).money ≡ account v.money + amount_at amount v s
  after_post_adds v entering = omega arith
  after_post_adds v (cleared d) = adds v d

  -- An accepted call adds its amount.
  acted_adds : (v : View) (c : Call) → account (acted c v).money ≡ account v.money + added_by amount c v
  acted_adds v (tariff grid fen) = omega arith
  acted_adds v (offer r) = omega arith
  acted_adds v (withdraw unit) = omega arith
  acted_adds v (bid grid price need) = omega arith
  acted_adds v (clear A laws) = omega arith
  acted_adds v reopen = omega arith
  acted_adds v post = after_post_adds v v.stage

  -- Every call adds its amount unless it is declined.
  turn_adds : (v : View) (c : Call) → account (turn c v).money ≡ account v.money + unless_declined (refusal v c) (added_by amount c v)
  turn_adds v c = by_refusal (refusal v c)
    where
      by_refusal : (o : Option Refusal) → account (unless o v (acted c v)).money ≡ account v.money + unless_declined o (added_by amount c v)
      by_refusal None = acted_adds v c
      by_refusal (Some r) = omega arith

  -- After every list of calls it is the sum of the amounts over the accepted posts.
  pub account_sums : (h : List Call) → account (history h).money ≡ over_posts amount h
  account_sums [] = starts
  account_sums (c ∷ h) =
      turn_adds (history h) c ∙ ap (λ n. n + unless_declined (refusal (history h) c) (added_by amount c (history h))) (account_sums h)

-- After every list of calls the accounts are the sums over its accepted posts.
pub history_sums : (h : List Call) → SumsOfPosts h
history_sums h = record {
  charges = λ g. account_sums (λ m. m.charge g) (λ v d. charge_of d g) refl (λ v d. refl) h;
  units = λ u. account_sums (λ m. m.unit u) (λ v d. receipt_of v d u) refl (λ v d. refl) h;
  wires = λ g. account_sums (λ m. m.wires g) (λ v d. wires_of v d g) refl (λ v d. refl) h;
  branch = account_sums (λ m. m.branch) branch_of refl (λ v d. refl) h;
}
