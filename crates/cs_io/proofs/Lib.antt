mod Bytes
mod CutLaws
mod Cutting
pub mod Feeds
mod Finding
mod Giving
mod Keeping
mod Parting
mod Reading
