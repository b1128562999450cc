mod Living
mod Replying
mod Simple
mod Visiting
