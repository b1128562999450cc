mod Numbers
mod Wording
