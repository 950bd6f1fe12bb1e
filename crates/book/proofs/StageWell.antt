-- A point that a clear left cleared is declared well, whatever is called later.
use Rattle.std.proofs.Common.{◌≡◌, true, false, List, [], ◌∷◌, Some, None, Option, sym, refl}
use Rattle.std.proofs.lemmas.Bool.{both_ways}
use Rattle.lawful.specs.Awards.{AwardSet}
use Rattle.lawful.specs.Lawful.{Lawful}
use Rattle.market.specs.declared.refusals.Refusal.{Refusal}
use Rattle.outcome.specs.Outcome.{outcome}
use Rattle.outcome.proofs.Worthy.{clearing_is_worthy}
use Rattle.book.specs.Views.{View, Stage, entering, cleared, declared, entries_in}
use Rattle.book.specs.Calls.{Call, tariff, offer, withdraw, bid, clear, reopen, post}
use Rattle.book.specs.Tables.{is_cleared, refusal}
use Rattle.book.specs.Histories.{acted, after_post, unless, turn, history, under_call, under_turn, under}
use Rattle.book.specs.Promise.{DeclaredWell, StageWell}
use Rattle.book.proofs.Accepted.{accepted_stage}
use Rattle.book.proofs.Entered.{Entered, history_entered}
use Rattle.book.proofs.EntriesRanged.{entries_ranged}

-- What a clear under a lawful set declares is declared well.
pub clear_declares_well : (A : AwardSet) (v : View) → Lawful 256 A → Entered v → DeclaredWell A v (declared (outcome A (entries_in v)))
clear_declares_well A v laws w =
    let worthy = clearing_is_worthy A (entries_in v) laws (entries_ranged v w) in
    record {
      yields = refl;
      in_set = worthy.in_set;
      in_headroom = worthy.in_capacity;
      dominant = worthy.dominant;
      cheapest = worthy.cheapest;
      served = worthy.served;
      short = worthy.short;
    }

-- A point that is being entered was not left cleared.
not_left_cleared : (v x : View) (s : Stage) (a : Option AwardSet) → is_cleared s ≡ false → StageWell v s a → StageWell x s a
not_left_cleared v x entering None e h = tt
not_left_cleared v x entering (Some A) e h = h
not_left_cleared v x (cleared d) a e h = absurd (both_ways true e refl)

-- After a post the next point begins.
after_post_well : (v : View) (s : Stage) → is_cleared s ≡ true → StageWell (after_post v s) (after_post v s).stage None
after_post_well v entering e = absurd (both_ways true (sym e) refl)
after_post_well v (cleared d) e = tt

-- An accepted call leaves the stage well.
pub acted_well : (v : View) (c : Call) (a : Option AwardSet) → refusal v c ≡ None → Entered v → StageWell v v.stage a → StageWell (acted c v) (acted c v).stage (under_call c a)
acted_well v (tariff grid fen) a h w s = not_left_cleared v (acted (tariff grid fen) v) v.stage a (accepted_stage v (tariff grid fen) h) s
acted_well v (offer r) a h w s = not_left_cleared v (acted (offer r) v) v.stage a (accepted_stage v (offer r) h) s
acted_well v (withdraw unit) a h w s = not_left_cleared v (acted (withdraw unit) v) v.stage a (accepted_stage v (withdraw unit) h) s
acted_well v (bid grid price need) a h w s = not_left_cleared v (acted (bid grid price need) v) v.stage a (accepted_stage v (bid grid price need) h) s
acted_well v (clear A laws) a h w s =
    let well = clear_declares_well A v laws w in
    (laws, record { yields = well.yields; in_set = well.in_set; in_headroom = well.in_headroom; dominant = well.dominant; cheapest = well.cheapest; served = well.served; short = well.short })
acted_well v reopen a h w s = tt
acted_well v post a h w s = after_post_well v v.stage (accepted_stage v post h)

-- Every call leaves the stage well.
pub turn_well : (v : View) (c : Call) (a : Option AwardSet) → Entered v → StageWell v v.stage a → StageWell (turn c v) (turn c v).stage (under_turn (refusal v c) a (under_call c a))
turn_well v c a w s = by_refusal (refusal v c) refl
  where
    by_refusal : (o : Option Refusal) → refusal v c ≡ o → StageWell (unless o v (acted c v)) (unless o v (acted c v)).stage (under_turn o a (under_call c a))
    by_refusal None e = acted_well v c a e w s
    by_refusal (Some r) e = s

-- After every list of calls the stage is well.
pub history_well : (h : List Call) → StageWell (history h) (history h).stage (under h)
history_well [] = tt
history_well (c ∷ h) = turn_well (history h) c (under h) (history_entered h) (history_well h)
