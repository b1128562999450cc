pub mod Laws
pub mod Mapped
pub mod Window
pub mod Windowed
