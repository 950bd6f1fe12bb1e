use Rattle.std.proofs.Common.{◌≡◌, ℕ, ◌^◌, ◌<◌, List, [], ◌∷◌, ◌++◌, OnOk, decimal, sym, ap, ◌∙◌, subst, append_assoc, arith}
use Rattle.lines.specs.Lines.{digits}
use Rattle.lines.proofs.Digits.{digits_displayed}
use Rattle.lines.proofs.add_field.Goals as goal

-- The bytes by which a number is displayed are its digits.
displayed : (bytes : List ℕ) (k n : ℕ) → bytes ≡ decimal k → k ≡ n → n < 2 ^ 64 → bytes ≡ digits n
displayed bytes k n shown same small = shown ∙ ap decimal same ∙ sym (digits_displayed n small)

pub returns-clause-field : goal.returns-clause-field
returns-clause-field g c =
    let page = c.args.page.now.items in
    let n = c.args.number in
    let shown = c.as_bytes.ensures.value ∙ displayed _ _ n c.format.ensures.text (omega arith) (omega (arith, c.ranges.number.fits)) in
    subst (λ xs. OnOk c.try_extend_from_slice-2.result (c.try_extend_from_slice-2.new.self.items ≡ xs))
    ((λ i. c.in_ok-try_extend_from_slice.ensures.ok i ++ shown i) ∙ append_assoc page (32 ∷ []) (digits n))
    c.try_extend_from_slice-2.ensures.ok
