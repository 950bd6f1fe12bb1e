pub mod Made
pub mod StepWell
pub mod Running
