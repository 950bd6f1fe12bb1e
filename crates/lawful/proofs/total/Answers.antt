use Rattle.std.proofs.Common.{◌≡◌, ◌∙◌, sum, rules}
use Rattle.std.proofs.iter.runs.Sources.{sums}
use Rattle.std.proofs.iter.runs.Made.{chains}
use Rattle.lawful.proofs.Lists.{sum_of_list}
use Rattle.lawful.proofs.Cuts.{caps_keep_laws, total_limit_keeps_laws, above_keeps_laws, sums_by_class_keep_laws}
use Rattle.lawful.proofs.Groups.{nested_groups_are_lawful}
use Rattle.lawful.proofs.total.Goals as goal

pub sum-requires-clause-fits : goal.sum-requires-clause-fits
sum-requires-clause-fits c = search (rules, sums)

pub returns : goal.returns
returns c =
    let listed : c.sum.result ≡ sum c.args.award.now = search (rules, chains) in
    record {
      value = listed ∙ sum_of_list c.args.award.now 256 c.told-award;
      caps = caps_keep_laws;
      ceiling = total_limit_keeps_laws;
      above = above_keeps_laws;
      classes = sums_by_class_keep_laws;
      groups = nested_groups_are_lawful;
    }
