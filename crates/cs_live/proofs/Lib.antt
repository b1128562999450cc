mod Bringing
mod Found
mod Named
mod News
mod Refreshing
mod Simple
mod Untouched
