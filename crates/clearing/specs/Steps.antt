-- What a step of a clearing takes, and what it leaves as it was.
use Rattle.std.specs.Prelude.{◌≡◌, ℕ, ◌+◌, ◌≤◌}
use denote.Ref.{MutBor}
use Rattle.lawful.specs.Awards.{Award}
use Rattle.outcome.specs.Groups.{total}
use Rattle.screen.specs.Meaning.{Settings}

-- out of a want so much was taken: the award's total rose by it
abbrev pub Took : ℕ → ℕ → Award → Award → Type 0
Took want taken before after = (taken + total before ≡ total after) × (taken ≤ want)

-- the same reference to a screen, with nothing set anew
abbrev pub SameScreen : {S : Type 0} → (S → Settings) → MutBor S → MutBor S → Type 0
SameScreen settings before after = (after.ghost_name ≡ before.ghost_name) × (settings after.now ≡ settings before.now)
