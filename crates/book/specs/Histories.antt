-- What a day shows after a list of calls, the newest first: each call that no row declines acts by its arguments.
use Rattle.std.specs.Prelude.{ℕ, suc, cond, List, [], ◌∷◌, Some, None, Option, ◌==◌}
use Rattle.lawful.specs.Awards.{AwardSet}
use Rattle.market.specs.declared.entries.RawOffer.{RawOffer}
use Rattle.market.specs.declared.refusals.Refusal.{Refusal}
use Rattle.outcome.specs.Outcome.{outcome, at}
use Rattle.book.specs.Views.{View, Stage, entering, cleared, declared, Asked, empty_day, entries_in}
use Rattle.book.specs.Calls.{Call, tariff, offer, withdraw, bid, clear, reopen, post}
use Rattle.book.specs.Tables.{refusal}
use Rattle.book.specs.Money.{posted_money}

-- one entry more
abbrev pub counted : View → View
counted v = record { posted = v.posted; stage = v.stage; entered = suc v.entered; tariff = v.tariff; offers = v.offers; bids = v.bids; money = v.money }

abbrev pub with_stage : Stage → View → View
with_stage s v = record { posted = v.posted; stage = s; entered = v.entered; tariff = v.tariff; offers = v.offers; bids = v.bids; money = v.money }

abbrev pub with_tariff : ℕ → ℕ → View → View
with_tariff grid fen v = record { posted = v.posted; stage = v.stage; entered = v.entered; tariff = at grid fen v.tariff; offers = v.offers; bids = v.bids; money = v.money }

abbrev pub with_offers : (ℕ → Option RawOffer) → View → View
with_offers offers v = record { posted = v.posted; stage = v.stage; entered = v.entered; tariff = v.tariff; offers = offers; bids = v.bids; money = v.money }

abbrev pub with_bids : (ℕ → Option Asked) → View → View
with_bids bids v = record { posted = v.posted; stage = v.stage; entered = v.entered; tariff = v.tariff; offers = v.offers; bids = bids; money = v.money }

-- a need of 0 removes the bid
abbrev pub asked : ℕ → ℕ → Option Asked
asked price need = cond (need == 0) None (Some (record { price = price; need = need }))

-- the point is posted: its money is added, its entries are removed, and the next point begins
abbrev pub after_post : View → Stage → View
after_post v entering = v
after_post v (cleared d) = record { posted = suc v.posted; stage = entering; entered = v.entered; tariff = v.tariff; offers = λ u. None; bids = λ g. None; money = posted_money v d }

-- what a call that is not declined makes of the day
abbrev pub acted : Call → View → View
acted (tariff grid fen) v = with_tariff grid fen v
acted (offer r) v = counted (with_offers (at r.unit (Some r) v.offers) v)
acted (withdraw unit) v = counted (with_offers (at unit None v.offers) v)
acted (bid grid price need) v = counted (with_bids (at grid (asked price need) v.bids) v)
acted (clear A laws) v = with_stage (cleared (declared (outcome A (entries_in v)))) v
acted reopen v = with_stage entering v
acted post v = after_post v v.stage

-- the day as it was where the table gives a row, else as the call makes it
abbrev pub unless : Option Refusal → View → View → View
unless None declined accepted = accepted
unless (Some r) declined accepted = declined

abbrev pub turn : Call → View → View
turn c v = unless (refusal v c) v (acted c v)

abbrev pub history : List Call → View
history [] = empty_day
history (c ∷ h) = turn c (history h)

-- The set of the clear that left the point cleared, where it is.
abbrev pub under_call : Call → Option AwardSet → Option AwardSet
under_call (tariff grid fen) before = before
under_call (offer r) before = before
under_call (withdraw unit) before = before
under_call (bid grid price need) before = before
under_call (clear A laws) before = Some A
under_call reopen before = None
under_call post before = None

abbrev pub under_turn : Option Refusal → Option AwardSet → Option AwardSet → Option AwardSet
under_turn None declined accepted = accepted
under_turn (Some r) declined accepted = declined

abbrev pub under : List Call → Option AwardSet
under [] = None
under (c ∷ h) = under_turn (refusal (history h) c) (under h) (under_call c (under h))
