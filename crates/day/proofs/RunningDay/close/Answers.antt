use Rattle.std.proofs.Common.{◌≡◌, ap, ◌∙◌, rules}
use mathlib.Core.Logic.{∥∥₁_map}
use mathlib.Core.Path.{subst⁻¹}
use Rattle.lawful.specs.Sums.{sum_to}
use Rattle.book.specs.Promise.{receipts}
use Rattle.book.proofs.PostSums.{history_sums}
use Rattle.book.proofs.Promised.{promise, kept_throughout}
use Rattle.day.proofs.RunningDay.close.Goals as goal

pub invariant_of-result : goal.invariant_of-result
invariant_of-result c = record { settled = ∥∥₁_map c.args.self.followed (λ x. (x.0, ap (λ v. v.money) x.1)) }

pub returns : goal.returns
returns c = record {
  accounts = search rules;
  led = ∥∥₁_map c.args.self.followed (λ x. (x.0, x.1));
  promise = λ h shows.
      let kept = promise h in
      let money = ap (λ v. v.money) shows in
      record {
        throughout = kept_throughout h;
        charges = λ g. ap (λ m. m.charge g) money ∙ (history_sums h).charges g;
        units = λ u. ap (λ m. m.unit u) money ∙ (history_sums h).units u;
        wires = λ g. ap (λ m. m.wires g) money ∙ (history_sums h).wires g;
        branch = ap (λ m. m.branch) money ∙ (history_sums h).branch;
        even = subst⁻¹ (λ m. sum_to 16 m.charge ≡ receipts m) money kept.even;
      };
}
