-- How many points are posted and how many entries are counted.
use Rattle.std.proofs.Common.{◌≡◌, ◌+◌, ◌<◌, ◌≤◌, List, [], ◌∷◌, Some, None, Option, refl, arith}
use Rattle.std.proofs.lemmas.Bool.{leb-false}
use Rattle.market.specs.declared.refusals.Refusal.{Refusal}
use Rattle.book.specs.Views.{View, Stage, entering, cleared}
use Rattle.book.specs.Calls.{Call, tariff, offer, withdraw, bid, clear, reopen, post}
use Rattle.book.specs.Tables.{state_rows, book_rows, refusal}
use Rattle.book.specs.Histories.{acted, after_post, unless, turn, history}
use Rattle.book.proofs.Accepted.{quiet, accepted_parts}

-- A call is accepted only before the last point is posted.
pub accepted_before_the_end : (v : View) (c : Call) → refusal v c ≡ None → v.posted < 96
accepted_before_the_end v c h = leb-false 96 v.posted (quiet (state_rows v c) (accepted_parts v c h).0).0

-- A post counts at most one point more.
pub one_more_posted : (v : View) (s : Stage) → (after_post v s).posted ≤ v.posted + 1
one_more_posted v entering = omega arith
one_more_posted v (cleared d) = omega arith

-- An accepted call leaves at most 96 points posted.
pub acted_posted : (v : View) (c : Call) → refusal v c ≡ None → (acted c v).posted ≤ 96
acted_posted v (tariff grid fen) h = omega (arith, accepted_before_the_end v (tariff grid fen) h)
acted_posted v (offer r) h = omega (arith, accepted_before_the_end v (offer r) h)
acted_posted v (withdraw unit) h = omega (arith, accepted_before_the_end v (withdraw unit) h)
acted_posted v (bid grid price need) h = omega (arith, accepted_before_the_end v (bid grid price need) h)
acted_posted v (clear A laws) h = omega (arith, accepted_before_the_end v (clear A laws) h)
acted_posted v reopen h = omega (arith, accepted_before_the_end v reopen h)
acted_posted v post h = omega (arith, accepted_before_the_end v post h, one_more_posted v v.stage)

-- Every call leaves at most 96 points posted.
pub turn_posted : (v : View) (c : Call) → v.posted ≤ 96 → (turn c v).posted ≤ 96
turn_posted v c before = by_refusal (refusal v c) refl
  where
    by_refusal : (o : Option Refusal) → refusal v c ≡ o → (unless o v (acted c v)).posted ≤ 96
    by_refusal None e = acted_posted v c e
    by_refusal (Some r) e = before

-- After every list of calls at most 96 points are posted.
pub history_posted : (h : List Call) → (history h).posted ≤ 96
history_posted [] = omega arith
history_posted (c ∷ h) = turn_posted (history h) c (history_posted h)

-- A post counts no entry.
pub no_more_entered : (v : View) (s : Stage) → (after_post v s).entered ≡ v.entered
no_more_entered v entering = refl
no_more_entered v (cleared d) = refl

-- An accepted call keeps the count of entries within what a day can count.
pub acted_entered_count : (v : View) (c : Call) → refusal v c ≡ None → v.entered ≤ 1000000000 → (acted c v).entered ≤ 1000000000
acted_entered_count v (tariff grid fen) h before = before
acted_entered_count v (offer r) h before =
    let rows = quiet (book_rows v (offer r)) (accepted_parts v (offer r) h).1.1 in omega (arith, leb-false 1000000000 v.entered rows.1.0)
acted_entered_count v (withdraw unit) h before =
    let rows = quiet (book_rows v (withdraw unit)) (accepted_parts v (withdraw unit) h).1.1 in omega (arith, leb-false 1000000000 v.entered rows.1.0)
acted_entered_count v (bid grid price need) h before =
    let rows = quiet (book_rows v (bid grid price need)) (accepted_parts v (bid grid price need) h).1.1 in omega (arith, leb-false 1000000000 v.entered rows.1.0)
acted_entered_count v (clear A laws) h before = before
acted_entered_count v reopen h before = before
acted_entered_count v post h before = omega (arith, no_more_entered v v.stage)

-- Every call keeps the count of entries within what a day can count.
pub turn_entered_count : (v : View) (c : Call) → v.entered ≤ 1000000000 → (turn c v).entered ≤ 1000000000
turn_entered_count v c before = by_refusal (refusal v c) refl
  where
    by_refusal : (o : Option Refusal) → refusal v c ≡ o → (unless o v (acted c v)).entered ≤ 1000000000
    by_refusal None e = acted_entered_count v c e before
    by_refusal (Some r) e = before

-- After every list of calls no more entries are counted than a day can count.
pub history_entered_count : (h : List Call) → (history h).entered ≤ 1000000000
history_entered_count [] = omega arith
history_entered_count (c ∷ h) = turn_entered_count (history h) c (history_entered_count h)
