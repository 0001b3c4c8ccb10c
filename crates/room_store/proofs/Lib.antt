pub mod Versions
mod Transact
mod Failing
mod Turning
pub mod Leading
mod Exchanged
mod Opened
mod Shutting
mod Closing
mod Recalled
pub mod Outlasting
mod Retaining
mod Reviewed
mod FromRoot
mod Reopened
mod Looking
mod Writing
pub mod Counted
mod Worked
