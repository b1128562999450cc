mod DataReading
mod Gathering
mod Importing
mod Placing
mod Saying
mod Stamping
mod Verdicts
