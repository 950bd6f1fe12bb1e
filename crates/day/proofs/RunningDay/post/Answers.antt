use Rattle.std.proofs.Common.{◌≡◌, ◌+◌, subst}
use Rattle.book.specs.Calls.{post}
use Rattle.book.specs.Histories.{turn}
use Rattle.book.specs.Tables.{is_cleared}
use Rattle.day.specs.Followed.{Followed}
use Rattle.day.specs.Shown.{shown_of, stage_of}
use Rattle.day.specs.Day.{shown}
use Rattle.day.specs.declared.state.PointState.TheVariants.{Entering}
use Rattle.day.proofs.Following.{led_on, gate_left}
use Rattle.day.proofs.PostedDay.{reads_off, can_post, post_turn}
use Rattle.day.proofs.RunningDay.post.Goals as goal

pub post-requires : goal.post-requires
post-requires c =
    let d = c.args.self.now in
    let tables = c.in-Cleared.cleared in
    let followed = subst (λ s. ∥ Followed (shown_of d.posted d.entered d.register s d.ledger) s ∥₁) c.in-Cleared.is d.followed in
    record {
      read = reads_off d.posted d.entered d.register tables d.ledger followed;
      postable = can_post d.posted d.entered d.register tables d.ledger followed (gate_left d.posted (is_cleared (stage_of d.state)) _ 0 c.in_ok-admit.ensures);
    }

pub invariant_of-self : goal.invariant_of-self
invariant_of-self c =
    let d = c.args.self.now in
    let told = c.remove_entries.ensures in
    let after = shown_of (d.posted + 1) d.entered c.remove_entries.new.self Entering c.post.new.ledger in
    let shows : after ≡ turn post (shown d) =
    post_turn d.posted d.entered d.register d.state c.in-Cleared.cleared d.ledger c.remove_entries.new.self c.post.new.ledger
    c.in-Cleared.is c.in_ok-admit.ensures told.others told.offers told.bids c.post.ensures in
    record { followed = led_on (shown d) after d.state Entering post d.followed shows tt }

pub returns : goal.returns
returns c =
    let d = c.args.self.now in
    let told = c.remove_entries.ensures in
    record {
      answer = c.in_ok-admit.ensures;
      day = post_turn d.posted d.entered d.register d.state c.in-Cleared.cleared d.ledger c.remove_entries.new.self c.post.new.ledger
          c.in-Cleared.is c.in_ok-admit.ensures told.others told.offers told.bids c.post.ensures;
    }
