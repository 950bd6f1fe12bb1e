pub mod GroupRooms
pub mod Meaning
pub mod Numbers
pub mod Rooms
