mod Examples
mod Places
