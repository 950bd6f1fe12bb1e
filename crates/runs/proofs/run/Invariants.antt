use Rattle.std.proofs.Common.{◌≤◌, length, vec_items, vec_capacity}
use Rattle.day.specs.Day.{shown}
use Rattle.runs.proofs.Running.{Running}
use Rattle.runs.proofs.run.Given as goal

-- The calls so far are made, and there is room for a step of each.
abbrev pub invariant-loop-call : goal.invariant-loop-call
invariant-loop-call g l =
    Running g.S.Screen (λ s. g.met.S.Screen.fresh_lawful s) l.initial.calls l.call-index (vec_items l.steps) l.calls (shown l.day)
    × (length l.initial.calls ≤ vec_capacity l.steps)
