mod Counting
mod Keeping
mod Merging
mod Noting
mod Placing
mod Selecting
mod Workings
