mod Holding
mod Looked
