mod Ended
mod Outlasting
mod Unrun
mod Worked
