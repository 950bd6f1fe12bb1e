use Rattle.std.proofs.Common.{rules, ◌≡◌, ℕ, ◌+◌, ◌≤◌, length, get_or, take, sum, sym, ap, ◌∙◌, subst, arith, length-set, take_all}
use Rattle.std.proofs.lemmas.List.Sums.{sum_by_more, sum_by-take-le}
use Rattle.market.specs.Sharing.{shares_of, share_at, Fair}
use Rattle.market.proofs.Shares.{share_written, shares_fair, length_shares, can_share_lem}
use Rattle.market.proofs.WorkedByHand.{worked_shares}
use Rattle.market.proofs.sharing.share_out.Goals as goal

pub serve-requires : goal.serve-requires
serve-requires c =
    let xs = c.args.claims.now in
    let more = sum_by_more (λ x. x) xs c.loop-i.i 0 c.loop-i-test.true in
    omega (arith, more, sum_by-take-le (λ x. x) xs (c.loop-i.i + 1))

pub loop-i-preserved : goal.loop-i-preserved
loop-i-preserved c =
    let xs = c.args.claims.now in
    let inv = c.loop-i.invariant in
    let more = sum_by_more (λ x. x) xs c.loop-i.i 0 c.loop-i-test.true in
    let at : c.serve.result ≡ share_at c.args.quantity (sum xs) (sum (take c.loop-i.i xs)) (get_or xs c.loop-i.i 0) =
    c.serve.ensures.share
    ∙ ap (λ q. share_at q c.loop-i.sharing.claims c.loop-i.sharing.running (get_or xs c.loop-i.i 0)) inv.1
    ∙ ap (λ n. share_at c.args.quantity n c.loop-i.sharing.running (get_or xs c.loop-i.i 0)) inv.2
    ∙ ap (λ p. share_at c.args.quantity (sum xs) p (get_or xs c.loop-i.i 0)) inv.3 in (
      length-set c.loop-i.shares c.loop-i.i c.serve.result ∙ inv.0,
      c.serve.ensures.after.0 ∙ inv.1,
      c.serve.ensures.after.1 ∙ inv.2,
      c.serve.ensures.after.2 ∙ ap (λ a. a + get_or xs c.loop-i.i 0) inv.3 ∙ sym more,
      share_written c.args.quantity xs c.loop-i.shares c.loop-i.i c.serve.result c.loop-i-test.true inv.0 inv.4 at,
    )

pub returns : goal.returns
returns c =
    let xs = c.args.claims.now in
    let inv = c.loop-i.invariant in
    let long = length_shares c.args.quantity (sum xs) 0 xs in
    let end : length c.loop-i.shares ≤ c.loop-i.i = omega (arith, inv.0) in
    let written : c.loop-i.shares ≡ shares_of c.args.quantity xs =
    sym (take_all c.loop-i.i c.loop-i.shares end) ∙ inv.4 ∙ take_all c.loop-i.i (shares_of c.args.quantity xs) (omega (arith, long)) in
    let enough : c.args.quantity ≤ sum xs = omega (arith, inv.1, inv.2, c.loop-i.sharing.enough) in
    let fair = shares_fair c.args.quantity xs enough in
    record {
      answer = can_share_lem c.args.quantity xs _ (omega arith) (search rules) enough;
      given = λ _. (written, subst (Fair c.args.quantity xs) (sym written) fair);
      declined = λ e. absurd (let z : ◌≡◌ {A = ℕ} 0 1 = cc in let no : ⊥ = omega arith in no);
      worked = worked_shares;
    }
