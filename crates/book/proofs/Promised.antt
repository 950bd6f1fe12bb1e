-- The promise is kept after every list of calls.
use Rattle.std.proofs.Common.{List}
use Rattle.book.specs.Calls.{Call}
use Rattle.book.specs.Histories.{history, under}
use Rattle.book.specs.Promise.{Promise, KeptThroughout}
use Rattle.book.proofs.Entered.{history_entered}
use Rattle.book.proofs.StageWell.{history_well}
use Rattle.book.proofs.FairPosts.{stage_fair}
use Rattle.book.proofs.EvenMoney.{history_even}
use Rattle.book.proofs.PostSums.{history_sums}

-- The promise holds.
pub promise : Promise
promise h = record {
  stage = history_well h;
  fair = stage_fair (history h) (history h).stage (under h) (history_entered h) (history_well h);
  even = history_even h;
}

-- It holds at every moment of every list of calls.
pub kept_throughout : (h : List Call) → KeptThroughout h
kept_throughout h later earlier parts = (promise earlier, history_sums earlier)
