-- What a load or a strip answered.
use Rattle.std.specs.Prelude.{ℕ, Some, None, Ok, Err, Option, Result}
use Rattle.market.specs.Refusals.{sheet_refusal, market_refusal, screen_refusal}
use Rattle.market.specs.declared.refusals.Refusal.{Refusal}
use Rattle.loads.specs.declared.faults.RecordFault.{RecordFault}
use Rattle.loads.specs.declared.faults.RecordFault.TheVariants as record_fault
use Rattle.loads.specs.declared.faults.LoadFault.{LoadFault}
use Rattle.loads.specs.declared.faults.LoadFault.TheVariants.{Sheet, State, Record}

-- the refusal of who declines a record
abbrev pub record_refusal : RecordFault → Refusal
record_refusal (record_fault.Market e) = market_refusal e
record_refusal (record_fault.Screen e) = screen_refusal e

-- the refusal that a fault encloses
abbrev pub refusal_in : LoadFault → Refusal
refusal_in (Sheet e) = sheet_refusal e
refusal_in (State e) = market_refusal e
refusal_in (Record e position) = record_refusal e

-- the position that it adds, 0 where no record is at fault
abbrev pub position_in : LoadFault → ℕ
position_in (Sheet e) = 0
position_in (State e) = 0
position_in (Record e position) = position

-- the refusal of an answer, with its position
abbrev pub fault_of : {X : Type 0} → Result X LoadFault → Option (Refusal × ℕ)
fault_of (Ok x) = None
fault_of (Err e) = Some (refusal_in e, position_in e)

-- the refusal of a record's answer
abbrev pub record_answer : {X : Type 0} → Result X RecordFault → Option Refusal
record_answer (Ok x) = None
record_answer (Err e) = Some (record_refusal e)
