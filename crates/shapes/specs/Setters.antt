-- What a setter leaves that a stack may have or not.
use Rattle.std.specs.Prelude.{ℕ, Bool, false, is_ok, Some, None, Option, Result}
use Rattle.market.specs.declared.refusals.Refusal.{Refusal}
use Rattle.screen.specs.Meaning.{Settings, with_setting}

-- the answer of a setter of this table, and None where there is no such table
abbrev pub answer_at : Option ℕ → Option Refusal → Option (Option Refusal)
answer_at None answer = None
answer_at (Some t) answer = Some answer

-- the stack has the setter, which did not decline
abbrev pub was_set : {X E : Type 0} → Option (Result X E) → Bool
was_set None = false
was_set (Some r) = is_ok r

-- the settings with one number of one table changed, where there is such a table
abbrev pub with_setting_at : Settings → Option ℕ → ℕ → ℕ → Settings
with_setting_at tables None k number = tables
with_setting_at tables (Some t) k number = with_setting tables t k number
