pub mod WalkLaws
pub mod Counts
pub mod Powers
pub mod Initials
pub mod Firsts
pub mod Judging
pub mod OneFault
pub mod SomeFault
