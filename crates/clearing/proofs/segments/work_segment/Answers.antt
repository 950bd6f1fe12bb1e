use Rattle.std.proofs.Common.{◌≡◌, ℕ, suc, ◌+◌, ◌-◌, ◌*◌, ◌≤◌, List, get_or, None, sum, sym, refl, ap, ◌∙◌, subst, arith, rules}
use Rattle.outcome.specs.Groups.{total}
use Rattle.outcome.specs.Outcome.{sweep, segments_below}
use Rattle.outcome.specs.View.{entries_of}
use Rattle.outcome.proofs.Cleared.{cleared_below}
use Rattle.clearing.specs.Awarded.{award_of}
use Rattle.clearing.specs.Sequence.{swept_from}
use Rattle.clearing.proofs.Ranges.{entries_ranged, need_within}
use Rattle.clearing.proofs.Declarations.{segment_declared, reached_more, segment_fits, awards_small, wants_are_claims, wants_small, got_small}
use Rattle.clearing.proofs.segments.work_segment.Goals as goal

pub work_levels-taken-requires-clause-fits : goal.work_levels-taken-requires-clause-fits
work_levels-taken-requires-clause-fits g c =
    let screen = c.args.drawing.now.screen.now in
    let entries = c.args.entries.now in
    let small = awards_small (g.S.Screen.fresh screen) (entries_of entries) c.args.bid c.args.ranked.now c.args.cleared.now (g.met.S.Screen.fresh_lawful screen) (entries_ranged entries) c.requires.reached in
    let same = ap (λ xs. total (award_of xs)) c.requires.awards in
    let summed : c.sum.result ≡ sum c.open_needs-wants.result = search rules in
    omega (arith, small, same, summed, c.open_needs-wants.ensures.bound)

pub with_shares-cleared-requires : goal.with_shares-cleared-requires
with_shares-cleared-requires g c =
    let screen = c.args.drawing.now.screen.now in
    let entries = c.args.entries.now in
    let got = c.args.cleared.now.got in
    let small = got_small (g.S.Screen.fresh screen) (entries_of entries) c.args.bid c.args.ranked.now c.args.cleared.now (g.met.S.Screen.fresh_lawful screen) (entries_ranged entries) c.requires.reached (search rules) in
    record {
      fits = λ k. omega (arith, small k, c.shares_among-shares.ensures.bounded k, wants_small entries got c.open_needs-wants.result c.args.bid c.open_needs-wants.ensures.wants k, need_within (get_or entries.bids k None));
    }

pub bounds-cleared-cleared : goal.bounds-cleared-cleared
bounds-cleared-cleared g c =
    segment_fits (g.S.Screen.fresh c.args.drawing.now.screen.now) (entries_of c.args.entries.now) c.args.bid c.args.ranked.now c.args.cleared.now
    c.requires.reached c.requires.bidden

pub invariant_of-cleared : goal.invariant_of-cleared
invariant_of-cleared g c =
    let fits = segment_fits (g.S.Screen.fresh c.args.drawing.now.screen.now) (entries_of c.args.entries.now) c.args.bid c.args.ranked.now c.args.cleared.now
    c.requires.reached c.requires.bidden in
    record { few = omega (arith, fits) }

pub returns-clause-reached : goal.returns-clause-reached
returns-clause-reached g c =
    let before = c.args.drawing.now in
    let screen = before.screen.now in
    let A = g.S.Screen.fresh screen in
    let entries = c.args.entries.now in
    let e = entries_of entries in
    let b = c.args.bid in
    let ts = c.args.ranked.now in
    let cleared = c.args.cleared.now in
    let o = segments_below A e b in
    let reached = c.requires.reached in
    let wants = c.open_needs-wants.result in
    let told = c.open_needs-wants.ensures in
    let shares = c.shares_among-shares in
    let summed : c.sum.result ≡ sum wants = search rules in
    let worked = c.work_levels-taken in
    let wanted = wants_are_claims entries cleared.got wants b o.got told.wants reached.declared.got in
    let behind : o.next ≤ 8 * suc b = omega (arith, (cleared_below A e (g.met.S.Screen.fresh_lawful screen) (entries_ranged entries) b).behind) in
    let swept = worked.ensures.swept e o.next reached.above behind in
    let room = segment_fits A e b ts cleared reached c.requires.bidden in
    let new = award_of worked.new.self.awards in
    let Sold : List ℕ → Type 0 = λ xs. sweep A e (total (award_of xs) + c.sum.result) o.next (8 * suc b - o.next) (swept_from (award_of xs) 0) ≡ swept_from new worked.result.price in
    let sold : Sold cleared.awards = subst Sold (sym c.requires.awards) swept.1 in
    let took : worked.result.quantity + total (award_of cleared.awards) ≡ total new = omega (arith, worked.ensures.taken.0, ap (λ xs. total (award_of xs)) c.requires.awards) in
    reached_more A e b ts worked.result.above.now cleared _ reached c.requires.bidden
    (segment_declared A e b o cleared worked.new.self.awards c.with_shares-cleared.result wants shares.result c.sum.result worked.result.quantity worked.result.price
    reached.declared c.requires.bidden room _ (search rules) wanted summed sold took shares.ensures.shares
    (λ k. c.with_shares-cleared.ensures k ∙ ap (λ xs. get_or cleared.got k 0 + get_or xs k 0) shares.ensures.shares))
    swept.0 refl
