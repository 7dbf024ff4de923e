pub mod DueFirst
pub mod Moments
pub mod Dues
pub mod Taking
pub mod Sorts
pub mod Schedules
