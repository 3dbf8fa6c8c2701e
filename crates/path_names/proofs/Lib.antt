mod Taking
mod Places
