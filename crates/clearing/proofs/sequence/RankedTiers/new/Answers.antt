use Rattle.std.proofs.Common.{◌≡◌, length, take, drop, arith}
use Rattle.std.proofs.lemmas.List.{length-take, take_at}
use Rattle.std.proofs.lemmas.List.Sorted.{length_permutation}
use Rattle.clearing.specs.Sequence.{sellers_of}
use Rattle.clearing.proofs.Collecting.{sequence_ranked, sequence_of_entries}
use Rattle.clearing.proofs.sequence.RankedTiers.new.Goals as goal

pub returns : goal.returns
returns c =
    let count = c.collect_tiers-count.result in
    let tiers = c.collect_tiers-count.new.ranked in
    let items = c.put_in_rank.new.items in
    let collected = c.collect_tiers-count.ensures in
    let long : length items ≡ count = omega (arith, length_permutation (take count tiers) items c.put_in_rank.ensures.kept, length-take count tiers, collected.within, c.collect_tiers-count.auto.ranked) in
    record {
      sequence = rw (take_at items (drop count tiers) count long) (sequence_of_entries c.args.entries.now items (sequence_ranked (sellers_of c.args.entries.now.tiers) (take count tiers) items collected.collected c.put_in_rank.ensures.kept c.put_in_rank.ensures.ranked));
    }
