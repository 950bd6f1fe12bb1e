pub mod Texts
pub mod LinesTo
pub mod Pages
pub mod SegmentLines
pub mod Answered
