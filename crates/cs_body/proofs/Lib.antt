mod Lengths
mod Lists
mod Taken
mod Takes
